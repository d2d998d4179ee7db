-- What a client tells is what an honest broker said: in the words of the octets between them.
use Rattle.std.specs.Prelude.{◌≡◌, ◌<◌, ℕ, suc, Bool, true, false, List, [], ◌∷◌, ◌++◌, length, Some, Ok, slice_get}
use Rattle.lapin_types.specs.declared.answer.Answer.{Answer}
use Rattle.lapin_types.specs.declared.message.Delivery.{Delivery}
use Rattle.lapin_consumer.specs.Readings.{Story, Entry, Waiting, waiting}
use Rattle.lapin_rules.specs.declared.marks.SettleKind.{SettleKind}
use Rattle.lapin_rules.specs.declared.marks.SettleKind.TheVariants as settle
use Rattle.lapin_rules.specs.ConfirmReadings.{channel_of as publish_channel}
use Rattle.lapin_joint.specs.declared.step.Step.{Step}
use Rattle.lapin_joint.specs.Joint.{joined_to}
use Rattle.lapin_concord.specs.Openings.{opening_of}
use Rattle.lapin_verdicts.specs.Deeds.{deeds, opening}
use Rattle.lapin_verdicts.specs.Publishes.{Message}
use Rattle.lapin_verdicts.specs.Session.{past_of}
use Rattle.lapin_verdicts.specs.Verdicts.{at_place, messages_in, IsVerdict}
use Rattle.lapin_machine.specs.World.{World}
use Rattle.lapin_answers.specs.Told.{IsToldOf}
use Rattle.lapin_answers.specs.Truth.{IsTrue}
use Rattle.lapin_client.specs.declared.client.Client.{Client}
use Rattle.lapin_client.specs.declared.message.Message.{Message as Numbers}
use Rattle.lapin_client.specs.declared.replies.Fields.{Fields}
use Rattle.lapin_client.specs.declared.status.Status.{Status}
use Rattle.lapin_client.specs.declared.status.Status.TheVariants as status
use Rattle.lapin_client.specs.Parcels.{message_of, message_bytes}
use Rattle.lapin_client.specs.Replies.{answer_bytes, fields_of}
use Rattle.lapin_client.specs.Sending.{Stops}
use Rattle.lapin_messages.specs.Deliveries.{marks_of, consumers_of}
use Rattle.lapin_messages.specs.Openings.{registered_in, registrations}
use Rattle.lapin_verdicts.specs.Messages.{Whole, messages, sent_to, delivery_from}
use Rattle.lapin_clients.specs.Calls.{Call, Outcome, Confirmed, Delivery as Delivers, Reply}
use Rattle.lapin_clients.specs.Joined.{IsRun}
use Rattle.lapin_clients.specs.Nets.{Act, Calls, Comes, Does, Net, IsNewNet, Leads}

-- the joined run that a run of a client is, and all that is true of every joined run
pub record IsTold (frame_max : ℕ) (acts : List Act) (z : Net) (steps : List Step) : Type 0 where
  pub run : IsRun frame_max acts z steps
  pub is_true : IsTrue frame_max steps

-- The number by which an outcome is told of an acknowledgement of this kind.
abbrev pub code_of : SettleKind → ℕ
code_of settle.Ack = 1
code_of settle.Nack = 2

-- A call that tells an ack or a nack of a confirm, by that number.
abbrev pub TellsOutcome : Call → ℕ → SettleKind → Type 0
TellsOutcome (Outcome j code) k kind = (j ≡ k) × (code ≡ code_of kind)
TellsOutcome (Confirmed j (Ok code)) k kind = (j ≡ k) × (code ≡ code_of kind)
TellsOutcome _ k kind = ⊥

-- The outcome of a confirm is the broker's verdict on that very publish: the publish with that number was accepted with this message; the broker
-- read it whole from the octets, as number t of its opening; and after that it sent the settlement, the first of the opening that covers t.
abbrev pub IsVerdictTold : ℕ → List Act → Net → ℕ → SettleKind → Type 0
IsVerdictTold frame_max acts y k kind =
    (steps : List Step) × (t : ℕ) × (m : Message) × IsTold frame_max acts y steps × (at_place k (messages_in (joined_to frame_max steps).session) ≡ Some m)
    × IsVerdict t kind m (opening (publish_channel k (past_of frame_max steps).confirms) (opening_of k (past_of frame_max steps).confirms) (deeds frame_max steps))

-- Where a call tells an ack or a nack of a confirm.
abbrev pub OutcomesAreVerdicts : ℕ → List Act → Type 0
OutcomesAreVerdicts frame_max acts = (x y z : Net) (call : Call) (k : ℕ) (kind : SettleKind) → IsNewNet frame_max x → Leads acts x y →
    TellsOutcome call k kind → Does (Calls call) y z → IsVerdictTold frame_max acts y k kind

-- ---- messages

-- The message is, octet for octet, the content with this number of those that the broker sent: its delivery tag, where it was redelivered, its
-- exchange, its routing key, its header's list of properties, and its bodies joined.
pub record IsContent (message : Delivery) (k : ℕ) (sent : List Whole) : Type 0 where
  pub content : Whole
  pub there : at_place k sent ≡ Some content
  pub is_it : message ≡ delivery_from message.acker content.start content.properties content.payload

-- A message that was told of a consumer, in numbers and octets: it is the first thing of the consumer's log that waits; and if the consumer's
-- tag was registered once in its opening, then it is the next one that the broker sent to that tag in that opening, behind those that came to
-- the consumer before.
pub record IsTheNext (frame_max : ℕ) (steps : List Step) (consumer : ℕ) (numbers : Numbers) (octets : List ℕ) : Type 0 where
  pub message : Delivery
  pub numbers_are : numbers ≡ message_of message
  pub octets_are : octets ≡ message_bytes message
  pub place : ℕ
  pub number : consumer ≡ suc place
  pub story : Story
  pub is_its : slice_get (consumers_of frame_max steps) place ≡ Some story
  pub before : List Entry
  pub behind : List Entry
  pub log : story.log ≡ before ++ Waiting (Ok (Some message)) ∷ behind
  pub first : waiting before ≡ []
  pub sent : registrations story.channel (registered_in story.channel (suc place) (marks_of frame_max steps)) story.tag (marks_of frame_max steps) ≡ 1 →
      IsContent message (suc (length (messages before))) (sent_to story.tag (opening story.channel (registered_in story.channel (suc place) (marks_of frame_max steps)) (deeds frame_max steps)))

-- Where `delivery` tells a message.
abbrev pub MessagesAreSent : ℕ → List Act → Type 0
MessagesAreSent frame_max acts = (x y z : Net) (consumer : ℕ) (numbers : Numbers) (octets : List ℕ) → IsNewNet frame_max x → Leads acts x y →
    Does (Calls (Delivers consumer (Ok numbers) octets)) y z →
    (steps : List Step) × IsTold frame_max acts y steps × IsTheNext frame_max steps consumer numbers octets

-- ---- replies

-- An answer that was told of a ticket, in fields and octets: that of the call which was given the ticket, by what of the broker's it was given. The
-- octets of a consumer's answer are the consumer's tag, as the session has it then.
pub record IsTheReply (frame_max : ℕ) (steps : List Step) (ticket : ℕ) (fields : Fields) (octets : List ℕ) (w : World) : Type 0 where
  pub answer : Answer
  pub fields_are : fields ≡ fields_of answer
  pub octets_are : octets ≡ answer_bytes answer w
  pub given : IsToldOf frame_max ticket answer steps

-- Where `reply` tells an answer.
abbrev pub AnswersAreReplies : ℕ → List Act → Type 0
AnswersAreReplies frame_max acts = (x y z : Net) (ticket : ℕ) (fields : Fields) (octets : List ℕ) → IsNewNet frame_max x → Leads acts x y →
    Does (Calls (Reply ticket (Ok fields) octets)) y z →
    (steps : List Step) × IsTold frame_max acts y steps × IsTheReply frame_max steps ticket fields octets z.client.session

-- ---- frames

-- the session refused a frame
abbrev pub is_refused : Status → Bool
is_refused status.Refused = true
is_refused _ = false

-- Where octets of the broker are handed to the client: the session refuses none of the frames.
abbrev pub FramesAreHeard : ℕ → List Act → Type 0
FramesAreHeard frame_max acts = (x y z : Net) (octets : List ℕ) (s : Status) → IsNewNet frame_max x → Leads acts x y → Does (Comes octets s) y z → is_refused s ≡ false

-- What an answer of `receive` leaves: no octets of the broker are no frame, or too long a one; where one is too long it is a frame of this side, which
-- was to leave before.
abbrev pub AreRead : Status → Client → Type 0
AreRead status.Malformed d = ⊥
AreRead status.TooLong d = (e : Client) × Stops status.TooLong false e d
AreRead _ d = Unit {0}

-- Where octets of the broker are handed to a client that takes further steps.
abbrev pub OctetsAreRead : ℕ → List Act → Type 0
OctetsAreRead frame_max acts = (x y z : Net) (octets : List ℕ) (s : Status) → IsNewNet frame_max x → Leads acts x y → 0 < y.client.left → Does (Comes octets s) y z → AreRead s z.client
