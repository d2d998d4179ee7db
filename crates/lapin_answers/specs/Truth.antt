-- What holds of a session and an honest broker, whatever they do and in whatever order: of every joined run, in one place.
use Rattle.std.specs.Prelude.{◌≡◌, ◌⊎◌, ℕ, List, [], ◌∷◌, ◌++◌, filter, true, Some, None, Ok}
use Rattle.lapin_types.specs.declared.answer.Answer.{Answer}
use Rattle.lapin_types.specs.declared.answer.Answer.TheVariants as answer
use Rattle.lapin_types.specs.declared.message.BasicGetMessage.{BasicGetMessage}
use Rattle.lapin_types.specs.Types.{Frame, Method}
use Rattle.lapin_rules.specs.declared.marks.SettleKind.{SettleKind}
use Rattle.lapin_rules.specs.ConfirmReadings.{channel_of as publish_channel, tag_of, outcome_at, kind_outcome}
use Rattle.lapin_rules.specs.TicketReadings.{answer_of}
use Rattle.lapin_broker.specs.Frames.{channel_of, broker_frame}
use Rattle.lapin_joint.specs.declared.step.Step.{Step}
use Rattle.lapin_joint.specs.declared.step.Step.TheVariants as step
use Rattle.lapin_joint.specs.Joint.{joined_to}
use Rattle.lapin_concord.specs.Concord.{NoneIsRefused, IsUnbroken, DifferByTags}
use Rattle.lapin_concord.specs.Openings.{opening_of}
use Rattle.lapin_verdicts.specs.Answers.{replies, is_open_ok}
use Rattle.lapin_verdicts.specs.Deeds.{deeds, last_opening, opening, sents}
use Rattle.lapin_verdicts.specs.InStep.{is_frame_on}
use Rattle.lapin_verdicts.specs.Publishes.{Message}
use Rattle.lapin_verdicts.specs.Resolved.{VerdictsAreDelivered}
use Rattle.lapin_verdicts.specs.Session.{past_of}
use Rattle.lapin_verdicts.specs.Verdicts.{at_place, messages_in, called_in, IsVerdict}
use Rattle.lapin_messages.specs.Deliveries.{LogsAreSent, LogsAreCarried}
use Rattle.lapin_answers.specs.Calls.{IsCallOf, IsUnwaitedOf, IsAwaitedOf}
use Rattle.lapin_answers.specs.Causes.{Resolves}
use Rattle.lapin_answers.specs.Closes.{is_close_ok_as, IsCloseOf, IsClosed, is_end_ok_as, IsEndOf, IsEnded, is_open_cancel}
use Rattle.lapin_answers.specs.Opens.{IsOpeningOf, IsOpened}
use Rattle.lapin_answers.specs.Replies.{IsReplied, IsGot}
use Rattle.lapin_answers.specs.Told.{AnswersAreTheirOwn}

-- Where a confirm is resolved as Ack or Nack, with its tag: the broker had read whole, as the number of that tag in the opening of its
-- channel in which it was called and left, the message of that very call, and after that it sent the settlement that resolved the
-- confirm, which is the first of the opening that covers the tag, and has that kind.
abbrev pub ConfirmsAreVerdicts : ℕ → List Step → Type 0
ConfirmsAreVerdicts frame_max steps = (k t : ℕ) (kind : SettleKind) → tag_of k (past_of frame_max steps).confirms ≡ Some t → outcome_at k (past_of frame_max steps).confirms ≡ Some (kind_outcome kind) →
    (m : Message) × (at_place k (messages_in (joined_to frame_max steps).session) ≡ Some m)
    × IsVerdict t kind m (opening (publish_channel k (past_of frame_max steps).confirms) (opening_of k (past_of frame_max steps).confirms) (deeds frame_max steps))
    × (opening_of k (past_of frame_max steps).confirms ≡ called_in k (past_of frame_max steps).confirms)

-- Where the reply that is delivered next resolves a ticket, the broker sent it as the answer to the request that the frame of that
-- very call made.
abbrev pub RepliesAnswerCalls : ℕ → List Step → Type 0
RepliesAnswerCalls frame_max steps = (n : ℕ) (a : Answer) (reply : Frame) (way : List Frame) → (joined_to frame_max steps).down ≡ reply ∷ way → replies reply ≡ true → answer_of n (past_of frame_max steps).tickets ≡ None → answer_of n (past_of frame_max (steps ++ step.Deliver ∷ [])).tickets ≡ Some (Ok a) →
    (m : Method) × IsCallOf n (channel_of reply) m (joined_to frame_max steps).session
    × (v : IsReplied (channel_of reply) n m reply (last_opening (channel_of reply) (deeds frame_max steps)))
    × (sents v.behind ≡ filter (is_frame_on (channel_of reply)) way)

-- Where a delivery resolves a ticket with the message of a get, the broker had answered that very get by get-ok, and the message is the
-- content that it sent after that answer.
abbrev pub GetsCarryContents : ℕ → List Step → Type 0
GetsCarryContents frame_max steps = (n : ℕ) (message : BasicGetMessage) → answer_of n (past_of frame_max steps).tickets ≡ None → answer_of n (past_of frame_max (steps ++ step.Deliver ∷ [])).tickets ≡ Some (Ok (answer.Got (Some message))) →
    (c : ℕ) × (m : Method) × IsCallOf n c m (joined_to frame_max steps).session × IsGot c n m message (last_opening c (deeds frame_max steps))

-- Where the open-ok that is delivered next resolves a ticket with an answer, the broker sent it for the open of that very call: it had read
-- that call's `channel.open`, and this is the first that it sent in the opening that began with it.
abbrev pub OpensAreAnswered : ℕ → List Step → Type 0
OpensAreAnswered frame_max steps = (n : ℕ) (a : Answer) (reply : Frame) (way : List Frame) → (joined_to frame_max steps).down ≡ reply ∷ way → is_open_ok reply ≡ true → answer_of n (past_of frame_max steps).tickets ≡ None → answer_of n (past_of frame_max (steps ++ step.Deliver ∷ [])).tickets ≡ Some (Ok a) →
    IsOpeningOf n (channel_of reply) (joined_to frame_max steps).session × IsOpened (channel_of reply) n reply (deeds frame_max steps)

-- Where the close-ok that is delivered next resolves a ticket with an answer, the broker sent it for the close of that very call; or the
-- ticket is that of a `basic.cancel`, which the end of the opening resolves.
abbrev pub ClosesAreAnswered : ℕ → List Step → Type 0
ClosesAreAnswered frame_max steps = (n : ℕ) (a : Answer) (reply : Frame) (way : List Frame) → (joined_to frame_max steps).down ≡ reply ∷ way → is_close_ok_as (broker_frame reply) ≡ true → answer_of n (past_of frame_max steps).tickets ≡ None → answer_of n (past_of frame_max (steps ++ step.Deliver ∷ [])).tickets ≡ Some (Ok a) →
    ((m : Method) × IsCloseOf n (channel_of reply) m (joined_to frame_max steps).session × IsClosed (channel_of reply) n m reply (deeds frame_max steps))
    ⊎ (is_open_cancel n (channel_of reply) (past_of frame_max steps).wire ≡ true)

-- Where the connection's close-ok that is delivered next resolves a ticket with an answer, the broker sent it for the close of the
-- connection of that very call.
abbrev pub EndIsAnswered : ℕ → List Step → Type 0
EndIsAnswered frame_max steps = (n : ℕ) (a : Answer) (reply : Frame) (way : List Frame) → (joined_to frame_max steps).down ≡ reply ∷ way → is_end_ok_as (broker_frame reply) ≡ true → answer_of n (past_of frame_max steps).tickets ≡ None → answer_of n (past_of frame_max (steps ++ step.Deliver ∷ [])).tickets ≡ Some (Ok a) →
    (c : ℕ) × (m : Method) × IsEndOf n c m (joined_to frame_max steps).session × IsEnded c n m reply (deeds frame_max steps)

-- What a delivered frame of the broker resolves with an answer awaits one: the frame is a reply to it, makes its content whole, is open-ok or
-- close-ok for it; or it ends an opening, is no reply, and what it resolves is a `basic.cancel` that was open there, which is then done.
abbrev pub DeliveriesResolve : ℕ → List Step → Type 0
DeliveriesResolve frame_max steps = (n : ℕ) (a : Answer) (frame : Frame) (way : List Frame) → (joined_to frame_max steps).down ≡ frame ∷ way → answer_of n (past_of frame_max steps).tickets ≡ None → answer_of n (past_of frame_max (steps ++ step.Deliver ∷ [])).tickets ≡ Some (Ok a) →
    Resolves (joined_to frame_max steps).session (past_of frame_max steps).wire n a frame

-- So no delivery resolves the ticket of a call without wait with an answer, nor that of a publish, an acknowledgement or an acker's call.
abbrev pub UnwaitedAreNotReplied : ℕ → List Step → Type 0
UnwaitedAreNotReplied frame_max steps = (n : ℕ) (a : Answer) → IsUnwaitedOf n (joined_to frame_max steps).session → answer_of n (past_of frame_max steps).tickets ≡ None → answer_of n (past_of frame_max (steps ++ step.Deliver ∷ [])).tickets ≡ Some (Ok a) → ⊥

-- Any other step resolves the ticket of a call that awaits a reply with an answer only where the ticket is that of a `basic.cancel` that was
-- open, which is then done: the step ended its opening. The step may be the call itself.
abbrev pub AwaitedAreDelivered : ℕ → List Step → Type 0
AwaitedAreDelivered frame_max steps = (n : ℕ) (a : Answer) (s : Step) → IsAwaitedOf n (joined_to frame_max (steps ++ s ∷ [])).session → answer_of n (past_of frame_max steps).tickets ≡ None → answer_of n (past_of frame_max (steps ++ s ∷ [])).tickets ≡ Some (Ok a) →
    (s ≡ step.Deliver) ⊎ ((c : ℕ) × (is_open_cancel n c (past_of frame_max steps).wire ≡ true) × (a ≡ answer.Done))

-- So where a step resolves the ticket of a close of a channel with an answer, it is the delivery of the broker's close-ok for that close.
abbrev pub ClosesAreByCloseOk : ℕ → List Step → Type 0
ClosesAreByCloseOk frame_max steps = (n c : ℕ) (m : Method) (a : Answer) (s : Step) → IsCloseOf n c m (joined_to frame_max (steps ++ s ∷ [])).session → answer_of n (past_of frame_max steps).tickets ≡ None → answer_of n (past_of frame_max (steps ++ s ∷ [])).tickets ≡ Some (Ok a) →
    (s ≡ step.Deliver) × (reply : Frame) × (way : List Frame) × ((joined_to frame_max steps).down ≡ reply ∷ way) × (channel_of reply ≡ c) × IsClosed c n m reply (deeds frame_max steps)

-- The same of the close of the connection.
abbrev pub EndIsByCloseOk : ℕ → List Step → Type 0
EndIsByCloseOk frame_max steps = (n c : ℕ) (m : Method) (a : Answer) (s : Step) → IsEndOf n c m (joined_to frame_max (steps ++ s ∷ [])).session → answer_of n (past_of frame_max steps).tickets ≡ None → answer_of n (past_of frame_max (steps ++ s ∷ [])).tickets ≡ Some (Ok a) →
    (s ≡ step.Deliver) × (reply : Frame) × (way : List Frame) × ((joined_to frame_max steps).down ≡ reply ∷ way) × IsEnded c n m reply (deeds frame_max steps)

-- all of it
pub record IsTrue (frame_max : ℕ) (steps : List Step) : Type 0 where
  pub unrefused : NoneIsRefused frame_max steps
  pub unbroken : IsUnbroken frame_max steps
  pub verdicts : ConfirmsAreVerdicts frame_max steps
  pub delivered : VerdictsAreDelivered frame_max steps
  pub apart : DifferByTags (past_of frame_max steps).confirms
  pub replies : RepliesAnswerCalls frame_max steps
  pub gets : GetsCarryContents frame_max steps
  pub opens : OpensAreAnswered frame_max steps
  pub closes : ClosesAreAnswered frame_max steps
  pub end : EndIsAnswered frame_max steps
  pub causes : DeliveriesResolve frame_max steps
  pub unwaited : UnwaitedAreNotReplied frame_max steps
  pub awaited : AwaitedAreDelivered frame_max steps
  pub closes_by_ok : ClosesAreByCloseOk frame_max steps
  pub end_by_ok : EndIsByCloseOk frame_max steps
  pub answers : AnswersAreTheirOwn frame_max steps
  pub logs : LogsAreSent frame_max steps
  pub carried : LogsAreCarried frame_max steps
