-- What a publisher does with an outcome.
use Rattle.std.specs.Prelude.{Some, None, Result, Ok, Err}
use Rattle.lapin_types.specs.declared.confirmation.Confirmation.{Confirmation}
use Rattle.lapin_types.specs.Types.{Error}
use Rattle.lapin_types.specs.declared.confirmation.Confirmation.TheVariants as confirmation
use Rattle.lapin_types.specs.Types.error
use Rattle.lapin_types.specs.Types.channel_state
use Rattle.lapin_uses.specs.declared.outcomes.Advice.{Advice}
use Rattle.lapin_uses.specs.declared.outcomes.Advice.TheVariants as advice

-- An ack means that the broker answers for the message, unless it came back. What was rejected by a close of this side never
-- left. After any other error the message may be in a queue or not.
abbrev pub advised : Result Confirmation Error → Advice
advised (Ok (confirmation.Ack None)) = advice.Done
advised (Ok (confirmation.Ack (Some m))) = advice.Unrouted
advised (Ok (confirmation.Nack m)) = advice.Again
advised (Ok confirmation.NotRequested) = advice.Unasked
advised (Err (error.InvalidChannelState channel_state.Closing)) = advice.Again
advised (Err e) = advice.AgainWithId
