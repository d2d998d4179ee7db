-- Which records an event may have, as far as the wire machine keeps them, and when each has a text.
use Rattle.std.specs.Prelude.{◌≡◌, Bool, true, false, List, [], ◌∷◌, length, Option, Some, None, Ok, Err}
use Rattle.lapin_types.specs.Types.{Error}
use Rattle.lapin_types.specs.Types.error
use Rattle.lapin_types.specs.declared.answer.Answer.TheVariants as answer
use Rattle.lapin_types.specs.declared.confirmation.Confirmation.TheVariants as confirmation
use Rattle.lapin_types.specs.declared.event.Event.{Event}
use Rattle.lapin_types.specs.declared.event.Event.TheVariants as event
use Rattle.lapin_types.specs.declared.message.BasicReturnMessage.{BasicReturnMessage}
use Rattle.lapin_types.specs.declared.message.Delivery.{Delivery}
use Rattle.lapin_types.specs.declared.record.Record.{Record}
use Rattle.lapin_types.specs.declared.record.Record.TheVariants as record_
use Rattle.lapin_tokens.specs.Fields.{Field, Values, AllFit, fits, short_number, wide_number}
use Rattle.lapin_tokens.specs.Fields.Field.{text, bytes, props, flag}
use Rattle.lapin_text.specs.Frames.{FrameFits}
use Rattle.lapin_rules.specs.History.{History}
use Rattle.lapin_rules.specs.Machine.{given_by, is_known_in}

-- ---- what has a text: numbers of their fields' types, texts and properties that fit

-- an error
abbrev pub ErrorFits : Error → Type 0
ErrorFits (error.ProtocolError code) = fits short_number code ≡ true
ErrorFits (error.UnexpectedFrame class method) = (fits short_number class ≡ true) × (fits short_number method ≡ true)
ErrorFits (error.PreconditionFailed tag current) = (fits wide_number tag ≡ true) × (fits wide_number current ≡ true)
ErrorFits (error.ConfirmsOutstanding limit) = fits wide_number limit ≡ true
ErrorFits _ = Unit {0}

-- the fields of a delivery
abbrev pub delivery_fields : List Field
delivery_fields = wide_number ∷ text ∷ text ∷ flag ∷ props ∷ bytes ∷ wide_number ∷ []

-- their values, in order
abbrev pub delivery_values : Delivery → Values delivery_fields
delivery_values d = (d.delivery_tag, (d.exchange, (d.routing_key, (d.redelivered, (d.properties, (d.payload, (d.acker.number, tt)))))))

-- a returned message
abbrev pub MessageFits : BasicReturnMessage → Type 0
MessageFits m = AllFit delivery_fields (delivery_values m.delivery) × (fits short_number m.reply_code ≡ true) × (fits text m.reply_text ≡ true)

-- a returned message, if there is one
abbrev pub HeldFits : Option BasicReturnMessage → Type 0
HeldFits None = Unit {0}
HeldFits (Some m) = MessageFits m

-- each of these messages
abbrev pub MessagesFit : List BasicReturnMessage → Type 0
MessagesFit [] = Unit {0}
MessagesFit (m ∷ ms) = MessageFits m × MessagesFit ms

-- ---- which records an event may have

-- a call: its ticket, that of a publish with its confirm, or a refusal
abbrev pub OfCall : Record → Type 0
OfCall (record_.Ticket n) = fits wide_number n ≡ true
OfCall (record_.Publish t n) = (fits wide_number t ≡ true) × (fits wide_number n ≡ true)
OfCall (record_.Refused e) = ErrorFits e
OfCall _ = ⊥

-- a request for a frame: the frame, which has a text, or none
abbrev pub OfNext : Record → Type 0
OfNext (record_.Frame f) = FrameFits f
OfNext record_.NoFrame = Unit {0}
OfNext _ = ⊥

-- a frame of the broker: received, passed over, or refused
abbrev pub OfReceive : Record → Type 0
OfReceive record_.Received = Unit {0}
OfReceive record_.Passed = Unit {0}
OfReceive (record_.Refused e) = ErrorFits e
OfReceive _ = ⊥

-- a poll of a ticket that the machine knows: pending, done, the channel's number or the confirm's, an error, or a refusal
abbrev pub OfTicket : Bool → Record → Type 0
OfTicket false r = Unit {0}
OfTicket true record_.Pending = Unit {0}
OfTicket true (record_.Answer (Ok answer.Done)) = Unit {0}
OfTicket true (record_.Answer (Ok (answer.Channel c))) = fits short_number c ≡ true
OfTicket true (record_.Answer (Ok (answer.Confirm n))) = fits wide_number n ≡ true
OfTicket true (record_.Answer (Err e)) = ErrorFits e
OfTicket true (record_.Refused e) = ErrorFits e
OfTicket true _ = ⊥

-- a poll of a confirm: pending, its outcome with the message that came back, an error, or a refusal
abbrev pub OfConfirm : Record → Type 0
OfConfirm record_.Pending = Unit {0}
OfConfirm (record_.Confirmed (Ok (confirmation.Ack m))) = HeldFits m
OfConfirm (record_.Confirmed (Ok (confirmation.Nack m))) = HeldFits m
OfConfirm (record_.Confirmed (Ok confirmation.NotRequested)) = Unit {0}
OfConfirm (record_.Confirmed (Err e)) = ErrorFits e
OfConfirm (record_.Refused e) = ErrorFits e
OfConfirm _ = ⊥

-- the wait for all confirms: pending, or the messages that came back
abbrev pub OfWait : Record → Type 0
OfWait record_.Pending = Unit {0}
OfWait (record_.Returned ms) = (fits wide_number (length ms) ≡ true) × MessagesFit ms
OfWait _ = ⊥

-- what is set aside: it is, or that is refused
abbrev pub OfAside : Record → Type 0
OfAside record_.Aside = Unit {0}
OfAside (record_.Refused e) = ErrorFits e
OfAside _ = ⊥

-- a ticket set aside, where the machine knows it
abbrev pub OfKnownAside : Bool → Record → Type 0
OfKnownAside false r = Unit {0}
OfKnownAside true r = OfAside r

-- the question for the states
abbrev pub OfState : Record → Type 0
OfState (record_.State connection channel) = Unit {0}
OfState _ = ⊥

-- the loss
abbrev pub OfLost : Record → Type 0
OfLost record_.Lost = Unit {0}
OfLost _ = ⊥

-- the record may be that of the event after the history, and has a text; of an event whose record isn't kept it may be any
abbrev pub MayTell : History → Event → Record → Type 0
MayTell h (event.Call c k) r = OfCall r
MayTell h (event.Next flow) r = OfNext r
MayTell h (event.Receive f) r = OfReceive r
MayTell h (event.PollTicket n) r = OfTicket (is_known_in (given_by n h)) r
MayTell h (event.PollConfirm n) r = OfConfirm r
MayTell h (event.PollWait c) r = OfWait r
MayTell h (event.AsideTicket n) r = OfKnownAside (is_known_in (given_by n h)) r
MayTell h (event.AsideConfirm n) r = OfAside r
MayTell h (event.State c) r = OfState r
MayTell h event.Lost r = OfLost r
MayTell h _ r = Unit {0}
