use Rattle.std.proofs.Common.{sym, ◌∙◌}
use Rattle.lapin_loop.specs.Watching.{is_ready}
use Rattle.lapin_loop.proofs.Places.{passed_over}
use Rattle.lapin_loop.proofs.watch.first_ready.Goals as goal

pub loop-place-preserved : goal.loop-place-preserved
loop-place-preserved c = passed_over (is_ready c.args.session.now) c.args.awaited.now c.loop-place.place _ c.loop-place-test.true (sym c.is_ready.ensures ∙ c.if-is_ready.false) c.loop-place.invariant
