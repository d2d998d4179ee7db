-- What becomes of the confirms of a joined run.
use Rattle.std.specs.Prelude.{◌≡◌, ℕ, true, List, Some}
use Rattle.lapin_types.specs.declared.outcome.Outcome.TheVariants as outcome
use Rattle.lapin_rules.specs.ConfirmMarks.{ConfirmMark}
use Rattle.lapin_rules.specs.ConfirmReadings.{was_added, outcome_at}
use Rattle.lapin_rules.specs.History.{past}
use Rattle.lapin_joint.specs.Joint.{joined_to}
use Rattle.lapin_resend.specs.Publisher.{Steps}

-- what happened to the confirms of a joined run
abbrev pub confirms_in : ℕ → Steps → List ConfirmMark
confirms_in frame_max made = (past frame_max (joined_to frame_max made).session).confirms

-- no publish that was accepted in the joined run is resolved as not requested
abbrev pub NoneIsNotRequested : ℕ → Steps → Type 0
NoneIsNotRequested frame_max made = (k : ℕ) → was_added k (confirms_in frame_max made) ≡ true → outcome_at k (confirms_in frame_max made) ≡ Some outcome.NotRequested → ⊥
