-- A joined run: a session and a free broker, with a link each way. What a step does, and what it reports.
--
-- The link up holds each frame with the numbers of its call, which no frame carries, so that a law can say whose a frame is.
use Rattle.std.specs.Prelude.{◌≡◌, ℕ, Bool, true, false, if◌then◌else◌, List, [], ◌∷◌, ◌++◌, Option, Some, None, Result, Ok, Err}
use Rattle.lapin_types.specs.declared.event.Event.{Event}
use Rattle.lapin_types.specs.declared.event.Event.TheVariants as event
use Rattle.lapin_types.specs.declared.leaving.Left.{Left}
use Rattle.lapin_types.specs.declared.record.Record.{Record}
use Rattle.lapin_types.specs.declared.record.Record.TheVariants as record_
use Rattle.lapin_types.specs.Types.{Frame, Error}
use Rattle.lapin_machine.specs.declared.channel.Heard.{Heard}
use Rattle.lapin_machine.specs.declared.channel.Heard.TheVariants as heard
use Rattle.lapin_rules.specs.Handing.{handed}
use Rattle.lapin_rules.specs.History.{History}
use Rattle.lapin_machine.specs.Way.{Way, by_history}
use Rattle.lapin_broker.specs.States.{Broker, new_broker, after_loss}
use Rattle.lapin_broker.specs.Reads.{read}
use Rattle.lapin_broker.specs.Sends.{may, send}
use Rattle.lapin_joint.specs.declared.step.Step.{Step}
use Rattle.lapin_joint.specs.declared.step.Step.TheVariants as step
use Rattle.lapin_joint.specs.declared.step.Reported.{Reported}
use Rattle.lapin_joint.specs.declared.step.Reported.TheVariants as reported

-- ---- The two sides and the frames on the way between them, oldest first.

-- a joined run: the session, the broker, what is on the way up to the broker, and what is on the way down to the session
pub record Joint (S : Type 0) : Type 0 where
  pub session : S
  pub broker : Broker
  pub up : List Left
  pub down : List Frame

-- a session, a new broker and two empty links
abbrev pub new_joint : {S : Type 0} → S → ℕ → Joint S
new_joint s frame_max = record { session = s; broker = new_broker frame_max; up = []; down = [] }

-- the frame at the front of a link up, if there is one
abbrev pub front_frame : List Left → Option Frame
front_frame [] = None
front_frame (l ∷ ls) = Some l.frame

-- the frame at the back of a link up, if there is one
abbrev pub back_frame : List Left → Option Frame
back_frame [] = None
back_frame (l ∷ []) = Some l.frame
back_frame (l ∷ k ∷ ls) = back_frame (k ∷ ls)

-- the frame that a request handed out, if it did: then it is at the back of the link up
abbrev pub newest : Bool → List Left → Option Frame
newest some up = if some then back_frame up else None

-- the record of a frame request that handed this frame out, or none
abbrev pub handed_record : Option Frame → Record
handed_record None = record_.NoFrame
handed_record (Some f) = record_.Frame f

-- ---- What a step does.

-- a broker's frame and a loss are no events of the client alone
abbrev pub is_lawful : Event → Bool
is_lawful (event.Receive f) = false
is_lawful event.Lost = false
is_lawful _ = true

-- the frame that leaves, alone in a list, which is empty where none leaves
abbrev pub left_alone : Option Left → List Left
left_alone None = []
left_alone (Some l) = l ∷ []

-- the frame that an event hands out
abbrev pub handed_by : {S : Type 0} → Way S → Event → S → List Left
handed_by m (event.Next flow) s = left_alone (handed flow (m.full s) (m.wire s))
handed_by m _ s = []

-- an event is a step of the session; a frame that the session hands out goes to the back of the link up
abbrev pub client : {S : Type 0} → Way S → Event → Joint S → Joint S
client m e j = record { session = m.next j.session e; broker = j.broker; up = j.up ++ handed_by m e j.session; down = j.down }

-- the broker reads the front of the link up
abbrev pub read_first : {S : Type 0} → List Left → Joint S → Joint S
read_first [] j = j
read_first (l ∷ ls) j = record { session = j.session; broker = read j.broker l.frame; up = ls; down = j.down }

-- the broker sends a frame, which goes to the back of the link down
abbrev pub send_down : {S : Type 0} → Frame → Joint S → Joint S
send_down f j = record { session = j.session; broker = send j.broker f; up = j.up; down = j.down ++ f ∷ [] }

-- the session receives the front of the link down
abbrev pub deliver_first : {S : Type 0} → Way S → List Frame → Joint S → Joint S
deliver_first m [] j = j
deliver_first m (f ∷ fs) j = record { session = m.next j.session (event.Receive f); broker = j.broker; up = j.up; down = fs }

-- both links are emptied, the session is lost and the broker silent
abbrev pub lose : {S : Type 0} → Way S → Joint S → Joint S
lose m j = record { session = m.next j.session event.Lost; broker = after_loss j.broker; up = []; down = [] }

-- a step that isn't lawful, or that finds its link empty, changes nothing
abbrev pub after : {S : Type 0} → Way S → Step → Joint S → Joint S
after m (step.Client e) j = if is_lawful e then client m e j else j
after m step.Read j = read_first j.up j
after m (step.Send f) j = if may j.broker f then send_down f j else j
after m step.Deliver j = deliver_first m j.down j
after m step.Lose j = lose m j

-- ---- What it reports.

-- a read reports that it was made; nothing where the link up is empty
abbrev pub read_report : List Left → Reported
read_report [] = reported.Nothing
read_report (l ∷ ls) = reported.Read

-- a delivery reports the session's record of the frame that it receives; nothing where the link down is empty
abbrev pub deliver_report : {S : Type 0} → Way S → List Frame → S → Reported
deliver_report m [] s = reported.Nothing
deliver_report m (f ∷ fs) s = reported.Delivered (m.told s (event.Receive f))

-- what became of a frame that was delivered, if there was one, is told by the report
abbrev pub IsDelivered : Option (Result Heard Error) → Reported → Type 0
IsDelivered None r = r ≡ reported.Nothing
IsDelivered (Some (Ok heard.Received)) r = r ≡ reported.Delivered record_.Received
IsDelivered (Some (Ok heard.Passed)) r = r ≡ reported.Delivered record_.Passed
IsDelivered (Some (Err e)) r = r ≡ reported.Delivered (record_.Refused e)

-- the report of a step; one that reports nothing, or that it isn't lawful, changes nothing
abbrev pub report : {S : Type 0} → Way S → Step → Joint S → Reported
report m (step.Client e) j = if is_lawful e then reported.Client (m.told j.session e) else reported.NotLawful
report m step.Read j = read_report j.up
report m (step.Send f) j = if may j.broker f then reported.Sent else reported.NotLawful
report m step.Deliver j = deliver_report m j.down j.session
report m step.Lose j = reported.Lost

-- ---- Whole runs.

-- the report of each step of a run, in order
abbrev pub reports : {S : Type 0} → Way S → List Step → Joint S → List Reported
reports m [] j = []
reports m (s ∷ ss) j = report m s j ∷ reports m ss (after m s j)

-- where a list of steps leads from this joined run
abbrev pub run : {S : Type 0} → Way S → List Step → Joint S → Joint S
run m [] j = j
run m (s ∷ ss) j = run m ss (after m s j)

-- where a list of steps leads from a session to which nothing happened
abbrev pub joined_to : ℕ → List Step → Joint History
joined_to frame_max steps = run (by_history frame_max) steps (new_joint [] frame_max)

-- The reports of a new session, by its history, a new broker and two empty links.
abbrev pub joined : ℕ → List Step → List Reported
joined frame_max steps = reports (by_history frame_max) steps (new_joint [] frame_max)
