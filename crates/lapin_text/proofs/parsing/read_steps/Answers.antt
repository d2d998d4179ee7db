use Rattle.std.proofs.Common.{[], ◌+◌, Some, None, ap, arith, refl}
use Rattle.std.proofs.lemmas.List.{append-nil}
use Rattle.lapin_text.proofs.parsing.read_steps.Goals as goal

pub returns-in-None : goal.returns-in-None
returns-in-None g c = rw append-nil at (c.loop-line.invariant [] (Some (c.len.result + 2)) (rw c.in-Some.ensures.some (ap Some (omega arith), rw c.in-None.is at c.in_ok-step.ensures.none)))

pub returns : goal.returns
returns g c = rw append-nil at (c.loop-line.invariant [] None (rw c.in_default.ensures.none refl))
