-- What the broker of a joined run reads and sends, in order.
use Rattle.std.specs.Prelude.{ℕ, if◌then◌else◌, List, [], ◌∷◌, Option, Some, None}
use Rattle.lapin_types.specs.declared.leaving.Left.{Left}
use Rattle.lapin_broker.specs.Sends.{may}
use Rattle.lapin_joint.specs.declared.step.Step.{Step}
use Rattle.lapin_joint.specs.declared.step.Step.TheVariants as step
use Rattle.lapin_joint.specs.Joint.{Joint}
use Rattle.lapin_joint.specs.Order.{along_joined}
use Rattle.lapin_check.specs.declared.seen.Seen.{Seen}
use Rattle.lapin_check.specs.declared.seen.Seen.TheVariants as seen

-- the first frame of the link up, seen as it is read; none where the link is empty
abbrev pub first_up : List Left → List Seen
first_up [] = []
first_up (l ∷ ls) = seen.Up l.frame ∷ []

-- what is seen of a step: the frame that the broker reads, or the one that it sends, where it may
abbrev pub seen_in : {S : Type 0} → Step → Joint S → List Seen
seen_in step.Read j = first_up j.up
seen_in (step.Send f) j = if may j.broker f then seen.Down f ∷ [] else []
seen_in _ j = []

-- the transcript of the joined run that makes these steps: what is seen of each, in order
abbrev pub transcript : ℕ → List Step → List Seen
transcript frame_max steps = along_joined frame_max seen_in steps

-- one thing that is seen, alone in a list, or none
abbrev pub as_list : Option Seen → List Seen
as_list None = []
as_list (Some x) = x ∷ []
