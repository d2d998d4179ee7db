use Rattle.std.proofs.Common.{◌≡◌, ◌<◌, ℕ, false, get_or}
use Rattle.lapin_loop.specs.Watching.{is_ready}
use Rattle.lapin_loop.specs.declared.watch.Awaited.{Awaited}
use Rattle.lapin_loop.proofs.watch.first_ready.Given as goal

-- none before this place is ready
abbrev pub invariant-loop-place : goal.invariant-loop-place
invariant-loop-place l = (k : ℕ) (d : Awaited) → k < l.place → is_ready l.session (get_or l.awaited k d) ≡ false
