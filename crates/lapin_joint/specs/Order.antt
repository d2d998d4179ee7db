-- The frames that leave each side of a joined run, and those that come to the other, in order.
use Rattle.std.specs.Prelude.{ℕ, Bool, true, false, ◌&&◌, if◌then◌else◌, List, [], ◌∷◌, ◌++◌}
use Rattle.lapin_types.specs.declared.leaving.Left.{Left}
use Rattle.lapin_types.specs.Types.{Frame}
use Rattle.lapin_rules.specs.History.{History}
use Rattle.lapin_broker.specs.Sends.{may}
use Rattle.lapin_joint.specs.declared.step.Step.{Step}
use Rattle.lapin_joint.specs.declared.step.Step.TheVariants as step
use Rattle.lapin_joint.specs.Joint.{Joint, handed_by, is_lawful, after, new_joint}
use Rattle.lapin_machine.specs.Way.{Way, by_history}

-- any step but lose, so that the links lose nothing in it
abbrev pub is_no_loss : Step → Bool
is_no_loss step.Lose = false
is_no_loss _ = true

-- nothing is lost in these steps
abbrev pub nothing_lost : List Step → Bool
nothing_lost [] = true
nothing_lost (s ∷ ss) = is_no_loss s && nothing_lost ss

-- the first of a list, alone in a list; none where the list is empty
abbrev pub front : {A : Type 0} → List A → List A
front [] = []
front (x ∷ xs) = x ∷ []

-- ---- one step

-- the frame that the session hands out
abbrev pub handed_in : {S : Type 0} → Way S → Step → Joint S → List Left
handed_in m (step.Client e) j = if is_lawful e then handed_by m e j.session else []
handed_in m _ j = []

-- the frame that the broker reads
abbrev pub read_in : {S : Type 0} → Step → Joint S → List Left
read_in step.Read j = front j.up
read_in _ j = []

-- the frame that the broker sends
abbrev pub sent_in : {S : Type 0} → Step → Joint S → List Frame
sent_in (step.Send f) j = if may j.broker f then f ∷ [] else []
sent_in _ j = []

-- the frame that the session receives
abbrev pub delivered_in : {S : Type 0} → Step → Joint S → List Frame
delivered_in step.Deliver j = front j.down
delivered_in _ j = []

-- ---- all steps of a run: what the given one of the four tells of each, in order

-- what part tells of each step of a run from this joined run on, in order
abbrev pub along : {S A : Type 0} → Way S → (Step → Joint S → List A) → List Step → Joint S → List A
along m part [] j = []
along m part (s ∷ ss) j = part s j ++ along m part ss (after m s j)

-- the same of a run of a new session, by its history, a new broker and two empty links
abbrev pub along_joined : {A : Type 0} → ℕ → (Step → Joint History → List A) → List Step → List A
along_joined frame_max part steps = along (by_history frame_max) part steps (new_joint [] frame_max)
