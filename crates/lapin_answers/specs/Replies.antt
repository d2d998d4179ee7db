-- What a ticket that a reply resolved says of the broker: to which of the client's frames it sent that reply.
use Rattle.std.specs.Prelude.{◌≡◌, ℕ, suc, true, List, ◌∷◌, ◌++◌, length, Some}
use Rattle.lapin_types.specs.declared.leaving.Left.{Left}
use Rattle.lapin_types.specs.declared.message.BasicGetMessage.{BasicGetMessage}
use Rattle.lapin_types.specs.Types.{Frame, Method}
use Rattle.lapin_types.specs.Types.frame
use Rattle.lapin_verdicts.specs.Answers.{replies, requests_in, replies_in}
use Rattle.lapin_verdicts.specs.Deeds.{Deed, Sent, sents}
use Rattle.lapin_verdicts.specs.Messages.{Whole, Start, got, is_get, start_in, sendings}
use Rattle.lapin_verdicts.specs.Verdicts.{at_place}

-- ---- a reply

-- Of one opening the broker had read the request that the call of this ticket made, with this method, and after that it sent this
-- frame as its answer: as many replies were sent before as requests were read before it.
pub record IsReplied (c n : ℕ) (m : Method) (reply : Frame) (opened : List Deed) : Type 0 where
  pub before : List Deed
  pub behind : List Deed
  pub request : Left
  pub all : opened ≡ before ++ Sent reply ∷ behind
  pub is_reply : replies reply ≡ true
  pub was_read : at_place (suc (length (replies_in before))) (requests_in before) ≡ Some request
  pub ticket : request.ticket ≡ Some n
  pub method : request.frame ≡ frame.Method c m

-- ---- the message of a get: the content that was sent after that answer

-- the broker answered the get of this ticket by get-ok, and the content that it sent next on the channel is this message
pub record IsGot (c n : ℕ) (m : Method) (message : BasicGetMessage) (opened : List Deed) : Type 0 where
  pub reply : Frame
  pub replied : IsReplied c n m reply opened
  pub start : Start
  pub starts : start_in reply ≡ Some start
  pub is_its : is_get start ≡ true
  -- the content that the answer begins is the first that becomes whole from it on
  pub whole : Whole
  pub content : at_place 1 (sendings (reply ∷ sents replied.behind)) ≡ Some whole
  pub carries : message ≡ got message.delivery.acker whole
