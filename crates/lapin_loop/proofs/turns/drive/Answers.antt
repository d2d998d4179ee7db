use Rattle.std.proofs.Common.{add-one}
use Rattle.lapin_loop.proofs.turns.drive.Goals as goal

pub loop-made-preserved : goal.loop-made-preserved
loop-made-preserved g c =
    let made = rw c.in-Ok-None.field-0-is at c.in-Ok-None.ensures.ok in
    rw add-one (c.loop-made.session, c.loop-made.wire, c.loop-made.invariant, made)
