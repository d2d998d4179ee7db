-- What a session and an honest broker are to each other, over every list of steps.
use Rattle.std.specs.Prelude.{◌≡◌, ℕ, List, Some, true, false}
use Rattle.std.specs.List.{list_any}
use Rattle.lapin_rules.specs.ConfirmMarks.{ConfirmMark}
use Rattle.lapin_rules.specs.ConfirmReadings.{has_left, channel_of, tag_of}
use Rattle.lapin_broker.specs.States.{is_broken}
use Rattle.lapin_joint.specs.declared.step.Step.{Step}
use Rattle.lapin_joint.specs.Joint.{joined, joined_to}
use Rattle.lapin_concord.specs.Openings.{opening_of}
use Rattle.lapin_concord.specs.Refusals.{reports_refusal}

-- no report is a delivery whose record is a refusal
abbrev pub NoneIsRefused : ℕ → List Step → Type 0
NoneIsRefused frame_max steps = list_any reports_refusal (joined frame_max steps) ≡ false

-- the broker read no frame that its rules don't allow
abbrev pub IsUnbroken : ℕ → List Step → Type 0
IsUnbroken frame_max steps = is_broken (joined_to frame_max steps).broker.connection ≡ false

-- publishes that left on one channel, in the same opening of it and with the same tag, are one publish
abbrev pub DifferByTags : List ConfirmMark → Type 0
DifferByTags ms = (one other tag : ℕ) → has_left one ms ≡ true → has_left other ms ≡ true → channel_of one ms ≡ channel_of other ms
    → opening_of one ms ≡ opening_of other ms
    → tag_of one ms ≡ Some tag → tag_of other ms ≡ Some tag → one ≡ other
