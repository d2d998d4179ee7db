-- What happens to the consumers of a connection, to the ackers of what it delivered and to what its channels declared, in the words of
-- the protocol (AMQP 0-9-1, classes basic, exchange and queue). A history gives a list of these, oldest first. Consumers are numbered from 1 in the order in which they are
-- registered, and ackers from 1 in the order in which they are given.
use Rattle.std.specs.Prelude.{ℕ, List, Option}
use Rattle.lapin_types.specs.declared.answer.Answer.{Answer}
use Rattle.lapin_types.specs.declared.message.Delivery.{Delivery}
use Rattle.lapin_types.specs.declared.request.Reply.{Reply}
use Rattle.lapin_types.specs.Types.{Error}

-- one thing that happens to a consumer, to an acker or to the registry of a channel
pub data DeliveryMark : Type 0 where
  -- consume-ok, or the call without wait, registered the next consumer under a tag
  Consumed : (channel : ℕ) (tag queue : List ℕ) → DeliveryMark
  -- a delivery for the consumer is whole: it carries the next acker
  Delivered : (consumer : ℕ) (delivery : Delivery) → DeliveryMark
  -- the message of a get is whole: it is given the next acker
  Got : (channel delivery_tag : ℕ) → DeliveryMark
  -- this side asked to cancel the consumer of the tag
  CancelAsked : (channel : ℕ) (tag : List ℕ) → DeliveryMark
  -- this side asked to close the channel
  CloseAsked : (channel : ℕ) → DeliveryMark
  -- cancel-ok, the call without wait, or the broker's cancel
  Canceled : (channel : ℕ) (tag : List ℕ) → DeliveryMark
  -- the channel's opening ended, with an error or by close-ok for a close of this side
  Ended : (channel : ℕ) (error : Option Error) → DeliveryMark
  -- what the channel's consumers were handed before is void
  Discarded : (channel : ℕ) → DeliveryMark
  -- the consumer was given a delegate
  Delegated : (consumer : ℕ) → DeliveryMark
  -- the consumer was polled
  Polled : (consumer : ℕ) → DeliveryMark
  -- the caller let go of the consumer
  LetGo : (consumer : ℕ) → DeliveryMark
  -- a job was asked for
  JobAsked : DeliveryMark
  -- a call is made on an acker
  Spent : (acker : ℕ) → DeliveryMark
  -- an opening of the channel begins
  Opened : (channel : ℕ) → DeliveryMark
  -- a request of the channel got its answer, by the reply that it awaited or in the call without wait
  Completed : (channel : ℕ) (reply : Reply) (answer : Answer) → DeliveryMark
