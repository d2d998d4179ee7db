-- What a frame of the broker that resolves a ticket with an answer is to the call of that ticket.
use Rattle.std.specs.Prelude.{◌≡◌, ℕ, true, false, Some}
use Rattle.lapin_types.specs.declared.answer.Answer.{Answer}
use Rattle.lapin_types.specs.declared.answer.Answer.TheVariants as answer
use Rattle.lapin_types.specs.declared.message.BasicGetMessage.{BasicGetMessage}
use Rattle.lapin_types.specs.Types.{Frame, Method}
use Rattle.lapin_rules.specs.History.{History}
use Rattle.lapin_rules.specs.Wire.{Wire}
use Rattle.lapin_broker.specs.Frames.{channel_of, broker_frame}
use Rattle.lapin_verdicts.specs.Answers.{replies, is_open_ok}
use Rattle.lapin_answers.specs.Calls.{IsCallOf}
use Rattle.lapin_answers.specs.Closes.{is_close_ok_as, IsCloseOf, is_end_ok_as, IsEndOf, is_open_cancel}
use Rattle.lapin_answers.specs.Opens.{IsOpeningOf}

-- The frame is a reply, and the ticket that of a call which awaits one; it makes the content of a get whole, for the ticket of the get; it
-- is open-ok for an open, close-ok for a close of its channel, or the connection's close-ok for the close of the connection; or it ends an
-- opening, is no reply, and the ticket is that of a `basic.cancel` that was open on the channel, which is then done.
pub data Resolves (h : History) (b : Wire) (n : ℕ) (a : Answer) (f : Frame) : Type 0 where
  AsReply : (m : Method) (call : IsCallOf n (channel_of f) m h) (is : replies f ≡ true) → Resolves h b n a f
  AsContent : (c : ℕ) (m : Method) (call : IsCallOf n c m h) (message : BasicGetMessage) (is : a ≡ answer.Got (Some message)) → Resolves h b n a f
  AsOpenOk : (call : IsOpeningOf n (channel_of f) h) (is : is_open_ok f ≡ true) → Resolves h b n a f
  AsCloseOk : (m : Method) (call : IsCloseOf n (channel_of f) m h) (is : is_close_ok_as (broker_frame f) ≡ true) → Resolves h b n a f
  AsEndOk : (c : ℕ) (m : Method) (call : IsEndOf n c m h) (is : is_end_ok_as (broker_frame f) ≡ true) → Resolves h b n a f
  AsEnd : (c : ℕ) (m : Method) (call : IsCallOf n c m h) (open_ : is_open_cancel n c b ≡ true) (done : a ≡ answer.Done) (is : replies f ≡ false) → Resolves h b n a f
