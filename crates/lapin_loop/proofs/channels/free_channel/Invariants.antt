use Rattle.std.proofs.Common.{◌≡◌, ◌≤◌, ◌<◌, ℕ, false}
use Rattle.lapin_rules.specs.Wire.{state_of, is_closed}
use Rattle.lapin_loop.proofs.channels.free_channel.Given as goal

-- none of those that were passed is closed
abbrev pub invariant-loop-passed : goal.invariant-loop-passed
invariant-loop-passed l = (d : ℕ) → 0 < d → d ≤ l.passed → is_closed (state_of d l.session.wire) ≡ false
