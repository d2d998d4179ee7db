-- What happens to publisher confirms and to returned messages, in the words of the protocol. A publish is named by its confirm
-- number: they are numbered from 1 in the order in which they are accepted.
use Rattle.std.specs.Prelude.{ℕ}
use Rattle.lapin_types.specs.Types.{Error}
use Rattle.lapin_types.specs.declared.message.BasicReturnMessage.{BasicReturnMessage}
use Rattle.lapin_rules.specs.declared.marks.Settlement.{Settlement}

-- one thing that happened to a channel's opening, to a publish or to returned messages; a history gives a list of these, oldest first
pub data ConfirmMark : Type 0 where
  -- an opening of the channel began
  Begun : (channel : ℕ) → ConfirmMark
  -- a `confirm.select` call was accepted on the channel
  SelectCalled : (channel : ℕ) → ConfirmMark
  -- the limit of outstanding confirms of the channel's opening was set, 0 for none
  LimitSet : (channel limit : ℕ) → ConfirmMark
  -- a publish was accepted on the channel
  Added : (channel : ℕ) → ConfirmMark
  -- a `confirm.select` frame of the channel left
  SelectLeft : (channel : ℕ) → ConfirmMark
  -- the method frame of the publish left on the channel
  Left : (channel publish : ℕ) → ConfirmMark
  -- the broker's settlement came on the channel
  Settled : (channel : ℕ) (settlement : Settlement) → ConfirmMark
  -- a returned message of the channel came whole
  Arrived : (channel : ℕ) (message : BasicReturnMessage) → ConfirmMark
  -- this side closes the channel's opening, which then ends with another error or this one
  ClosedHere : (channel : ℕ) (error : Error) → ConfirmMark
  -- the channel's opening ended
  Ended : (channel : ℕ) (error : Error) → ConfirmMark
  -- the result of the publish was given
  Taken : (publish : ℕ) → ConfirmMark
  -- the publish was set aside: its result is asked for no more
  SetAside : (publish : ℕ) → ConfirmMark
  -- the returned messages of the channel were given
  Drained : (channel : ℕ) → ConfirmMark
