use Rattle.std.proofs.Common.{sym, subst}
use Rattle.lapin_pool.specs.Pool.{IsFinished, IsPool}
use Rattle.lapin_pool.proofs.Team.{pooled}
use Rattle.lapin_pool.proofs.Lawful.{tells_none}
use Rattle.lapin_pool.proofs.pool.run_pool.Goals as goal

-- the callers that worked were taken back
pub returns-in-Ok-clause-pool : goal.returns-in-Ok-clause-pool
returns-in-Ok-clause-pool g c =
    let may = g.D.Duty.may c.args.duty.now in
    let frame_max = c.args.client.now.frame_max in
    let olds = c.args.callers.now.items in
    let news = c.deal_work.new.callers.items in
    let dealt = c.in_ok-dealt.dealt in
    let h = c.in-Ok.history in
    let ends = c.ended.result.cards.items in
    let finished : IsFinished frame_max h news =
    record { lawful = c.in-Ok.ensures.lawful; count = c.in-Ok.ensures.count; stand = c.in-Ok.ensures.stand; rise = c.in-Ok.ensures.rise } in
    subst (λ l. IsPool may frame_max c.args.turns c.args.workers olds l ends) (sym c.ended.ensures.history)
    (pooled may frame_max c.args.turns c.args.workers olds h dealt.cards.items dealt.unread.items news ends c.requires.own c.in_ok-dealt.ensures.worked
    (tells_none frame_max h c.in-Ok.ensures.lawful) finished c.ended.ensures.cards c.ended.ensures.rising)
