-- How the code's messages and joined runs stand for those of the definition.
use Rattle.std.specs.Prelude.{◌≡◌, ℕ, Bool, not, List, map, Option, None}
use Rattle.lapin_types.specs.declared.event.Event.{Event}
use Rattle.lapin_joint.specs.declared.step.Reported.{Reported}
use Rattle.lapin_joint.specs.declared.step.Reported.TheVariants as reported
use Rattle.lapin_joint.specs.JoinedRun.{JoinedRun, StandsFor}
use Rattle.lapin_resend.specs.declared.message.Submitted.{Submitted}
use Rattle.lapin_resend.specs.Messages.{Standing, polled, confirm_of}
use Rattle.lapin_resend.specs.Publisher.{Steps, Met, told, with_event, each}

-- the place of a message among all
abbrev pub place : Submitted → ℕ
place s = s.place

-- a message that isn't stored is kept
abbrev pub is_kept : Submitted → Bool
is_kept s = not s.stored

-- how far a message came
abbrev pub standing : Submitted → Standing
standing s = record { message = s.message; stored = s.stored; outstanding = s.outstanding }

-- a message with its place
abbrev pub entry_of : Submitted → ℕ × Standing
entry_of s = (s.place, standing s)

-- what the report of a poll makes of a message
abbrev pub polled_report : Reported → Standing → Standing
polled_report (reported.Client r) s = polled r s
polled_report _ s = s

-- the number of the publish that was accepted, by the report of its call
abbrev pub confirm_report : Reported → Option ℕ
confirm_report (reported.Client r) = confirm_of r
confirm_report _ = None

-- an event of the client is told as the definition says, and the joined run then stands for the longer list of steps
abbrev pub Tells : Event → JoinedRun → JoinedRun → Reported → Type 0
Tells e old new r = (n : ℕ) (made : Steps) → StandsFor n made old → (r ≡ reported.Client (told n made e)) × StandsFor n (with_event e made) new

-- a message and the joined run become what the definition makes of them
abbrev pub Meets : (ℕ → Steps → Standing → Met) → JoinedRun → JoinedRun → Submitted → Submitted → Type 0
Meets meet old new s t =
    (n : ℕ) (made : Steps) → StandsFor n made old → (standing t ≡ (meet n made (standing s)).0) × StandsFor n (meet n made (standing s)).1 new

-- so do all messages
abbrev pub MeetEach : (ℕ → Steps → Standing → Met) → JoinedRun → JoinedRun → List Submitted → List Submitted → Type 0
MeetEach meet old new ss ts =
    (n : ℕ) (made : Steps) → StandsFor n made old → (map standing ts ≡ (each (meet n) made (map standing ss)).0) × StandsFor n (each (meet n) made (map standing ss)).1 new
