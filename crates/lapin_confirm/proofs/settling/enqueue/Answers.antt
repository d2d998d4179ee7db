use Rattle.std.proofs.Common.{◌≡◌, ◌+◌, ◌==◌, cond, true, eq-eqb, refl, arith}
use Rattle.lapin_confirm.proofs.Whole.{tied-joined}
use Rattle.lapin_confirm.proofs.settling.enqueue.Goals as goal

pub returns-clause-tied : goal.returns-clause-tied
returns-clause-tied c =
    let here : (c.args.channel == c.args.channel) ≡ true = eq-eqb c.args.channel c.args.channel refl in
    let queued : c.args.mode.now.queued + 1 ≡ c.args.mode.now.queued + cond (c.args.channel == c.args.channel) 1 0 = rw here refl in
    rw c.push_reserved.ensures.slots (tied-joined c.args.channel c.args.channel c.args.mode.now _ c.args.cells.now.slots c.requires.tied refl queued refl (omega arith))
