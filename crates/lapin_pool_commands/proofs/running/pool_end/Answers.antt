use Rattle.std.proofs.Common.{subst}
use Rattle.lapin_pool.specs.Pool.{IsPool}
use Rattle.lapin_pool_commands.specs.Left.{most_turns, by_first_byte}
use Rattle.lapin_pool_commands.proofs.Leaving.{begun, begun_apart, if_within}
use Rattle.lapin_pool_commands.proofs.running.pool_end.Goals as goal

pub run_pool-requires-clause-own : goal.run_pool-requires-clause-own
run_pool-requires-clause-own g c = λ κs within.
    begun_apart c.args.workers c.args.events.items c.make_first.new.callers.items
    (begun c.args.workers c.args.events.items c.in-Ok.all.items c.make_first.new.callers.items c.in-Ok.ensures.fresh c.in-Ok.ensures.count c.in_ok-make_first.ensures)

pub returns : goal.returns
returns g c =
    let callers = c.make_first.new.callers.items in
    let start = begun c.args.workers c.args.events.items c.in-Ok.all.items callers c.in-Ok.ensures.fresh c.in-Ok.ensures.count c.in_ok-make_first.ensures in
    if_within c.args.frame_max c.args.workers c.args.events.items callers c.in_ok-end.end c.within.result start
    (subst (λ m. IsPool by_first_byte m most_turns c.args.workers callers c.in_ok-end.end.history c.in_ok-end.end.cards.items) c.in-Ok.ensures.client.0 c.in_ok-end.ensures.pool) c.within.ensures
