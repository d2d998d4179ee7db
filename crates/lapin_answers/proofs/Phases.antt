-- The phases in which a channel hears no answer to its close.
use Rattle.std.proofs.Common.{Bool, ◌≡◌, true, false}
use Rattle.lapin_rules.specs.ChannelClose.{receives_close_ok}
use Rattle.lapin_answers.proofs.Turns.{At}
use Rattle.lapin_rules.specs.declared.phases.ChannelPhase.TheVariants as phase

pub closed_hears_no_ok : (z : Bool) → receives_close_ok (At z phase.Closed) ≡ true → ⊥
closed_hears_no_ok true h = cc
closed_hears_no_ok false h = cc

pub opening_hears_no_ok : (z : Bool) → receives_close_ok (At z phase.Opening) ≡ true → ⊥
opening_hears_no_ok true h = cc
opening_hears_no_ok false h = cc
