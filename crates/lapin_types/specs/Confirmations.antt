-- What a confirmation says (RabbitMQ publisher confirms).
use Rattle.std.specs.Prelude.{Bool, true, false, Option, None}
use Rattle.lapin_types.specs.declared.confirmation.Confirmation.{Confirmation}
use Rattle.lapin_types.specs.declared.confirmation.Confirmation.TheVariants as confirmation
use Rattle.lapin_types.specs.declared.message.BasicReturnMessage.{BasicReturnMessage}

-- the message that was returned, if any
abbrev pub message_of : Confirmation → Option BasicReturnMessage
message_of (confirmation.Ack message) = message
message_of (confirmation.Nack message) = message
message_of confirmation.NotRequested = None

-- the broker took the publish
abbrev pub says_ack : Confirmation → Bool
says_ack (confirmation.Ack message) = true
says_ack _ = false

-- the broker couldn't take the publish
abbrev pub says_nack : Confirmation → Bool
says_nack (confirmation.Nack message) = true
says_nack _ = false
