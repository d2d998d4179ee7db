-- What is told of a call by its ticket: the step that gave the answer, and what of the broker's it was.
use Rattle.std.specs.Prelude.{◌≡◌, ◌⊎◌, ℕ, true, List, [], ◌∷◌, ◌++◌, Option, Some, None, Ok}
use Rattle.lapin_types.specs.declared.answer.Answer.{Answer}
use Rattle.lapin_types.specs.declared.answer.Answer.TheVariants as answer
use Rattle.lapin_types.specs.declared.message.BasicGetMessage.{BasicGetMessage}
use Rattle.lapin_types.specs.Types.{Frame, Method}
use Rattle.lapin_rules.specs.declared.broker_frames.ConsumerPart.TheVariants as consumer
use Rattle.lapin_rules.specs.declared.broker_frames.Incoming.{Incoming}
use Rattle.lapin_rules.specs.declared.broker_frames.Incoming.TheVariants as incoming
use Rattle.lapin_rules.specs.Consumers.{next_consumer}
use Rattle.lapin_rules.specs.Incoming.{incoming_of}
use Rattle.lapin_rules.specs.TicketReadings.{answer_of}
use Rattle.lapin_rules.specs.Wire.{Wire}
use Rattle.lapin_broker.specs.Frames.{channel_of}
use Rattle.lapin_joint.specs.declared.step.Step.{Step}
use Rattle.lapin_joint.specs.declared.step.Step.TheVariants as step
use Rattle.lapin_joint.specs.Joint.{joined_to}
use Rattle.lapin_verdicts.specs.Deeds.{deeds, last_opening}
use Rattle.lapin_verdicts.specs.Session.{past_of}
use Rattle.lapin_answers.specs.Calls.{IsCallOf, IsAwaitedOf}
use Rattle.lapin_answers.specs.Closes.{IsCloseOf, IsClosed, IsEndOf, IsEnded, is_open_cancel}
use Rattle.lapin_answers.specs.Opens.{IsOpeningOf, IsOpened}
use Rattle.lapin_answers.specs.Replies.{IsReplied, IsGot}

-- What a reply says: its own fields, as the table of the broker's frames has them; consume-ok says the number of the consumer that begins by it.
-- What begins a content says nothing yet.
abbrev pub said_by : Wire → Incoming → Option Answer
said_by b (incoming.Reply c k a) = Some a
said_by b (incoming.Consumer c (consumer.ConsumeOk tag)) = Some (answer.Consumer (next_consumer b.deliveries))
said_by b (incoming.Consumer c (consumer.CancelOk tag)) = Some answer.Done
said_by b (incoming.Consumer c consumer.RecoverOk) = Some answer.Done
said_by b _ = None

-- A frame that is delivered next gives the ticket of a call this answer. It is the broker's reply to that very call, and the answer is what it
-- says; or it makes the content whole that the broker sent after its answer to that very get; or it is the open-ok or the close-ok that the
-- broker sent for that very open or close; or it ends the opening of a `basic.cancel` that was open, which is then done.
pub data IsAnswerBy (frame_max : ℕ) (before : List Step) (n : ℕ) (a : Answer) (f : Frame) : Type 0 where
  AsReply : (m : Method) (call : IsCallOf n (channel_of f) m (joined_to frame_max before).session)
      (reply : IsReplied (channel_of f) n m f (last_opening (channel_of f) (deeds frame_max before)))
      (says : said_by (past_of frame_max before).wire (incoming_of f) ≡ Some a) → IsAnswerBy frame_max before n a f
  AsContent : (c : ℕ) (m : Method) (call : IsCallOf n c m (joined_to frame_max before).session)
      (message : BasicGetMessage) (got : IsGot c n m message (last_opening c (deeds frame_max before)))
      (is : a ≡ answer.Got (Some message)) → IsAnswerBy frame_max before n a f
  AsOpenOk : (call : IsOpeningOf n (channel_of f) (joined_to frame_max before).session)
      (ok : IsOpened (channel_of f) n f (deeds frame_max before)) (is : a ≡ answer.Channel (channel_of f)) → IsAnswerBy frame_max before n a f
  AsCloseOk : (m : Method) (call : IsCloseOf n (channel_of f) m (joined_to frame_max before).session)
      (ok : IsClosed (channel_of f) n m f (deeds frame_max before)) (is : a ≡ answer.Done) → IsAnswerBy frame_max before n a f
  AsEndOk : (c : ℕ) (m : Method) (call : IsEndOf n c m (joined_to frame_max before).session)
      (ok : IsEnded c n m f (deeds frame_max before)) (is : a ≡ answer.Done) → IsAnswerBy frame_max before n a f
  AsEnd : (c : ℕ) (m : Method) (call : IsCallOf n c m (joined_to frame_max before).session)
      (open_ : is_open_cancel n c (past_of frame_max before).wire ≡ true) (is : a ≡ answer.Done) → IsAnswerBy frame_max before n a f

-- A step gives the ticket of a call this answer: by the frame of the broker that it delivers; or, where the call awaits a reply, the call is a
-- `basic.cancel` that was open and whose opening the step ends, and it is done.
abbrev pub IsGivenBy : ℕ → List Step → Step → ℕ → Answer → Type 0
IsGivenBy frame_max before s n a =
    ((s ≡ step.Deliver) × (f : Frame) × (way : List Frame) × ((joined_to frame_max before).down ≡ f ∷ way) × IsAnswerBy frame_max before n a f)
    ⊎ (IsAwaitedOf n (joined_to frame_max (before ++ s ∷ [])).session → (c : ℕ) × (is_open_cancel n c (past_of frame_max before).wire ≡ true) × (a ≡ answer.Done))

-- The ticket got this answer by one step of the run, and had none before it.
pub record IsToldOf (frame_max n : ℕ) (a : Answer) (steps : List Step) : Type 0 where
  pub before : List Step
  pub given : Step
  pub behind : List Step
  pub all : steps ≡ before ++ given ∷ behind
  pub open_ : answer_of n (past_of frame_max before).tickets ≡ None
  pub gives : answer_of n (past_of frame_max (before ++ given ∷ [])).tickets ≡ Some (Ok a)
  pub by : IsGivenBy frame_max before given n a

-- Each answer that a ticket has was given so.
abbrev pub AnswersAreTheirOwn : ℕ → List Step → Type 0
AnswersAreTheirOwn frame_max steps = (n : ℕ) (a : Answer) → answer_of n (past_of frame_max steps).tickets ≡ Some (Ok a) → IsToldOf frame_max n a steps
