-- Contents: the methods that begin one, the headers and bodies that make it whole, and what a whole one does (AMQP 0-9-1, section
-- 4.2.6, "Content Framing"). They are received on an open channel, and still on one that this side is closing.
use Rattle.std.specs.Prelude.{ℕ, ◌+◌, Bool, true, false, ◌&&◌, if◌then◌else◌, List, [], ◌∷◌, Option, Some, None, Result, Ok, Err, length}
use Rattle.lapin_types.specs.Types.{Error}
use Rattle.lapin_values.specs.Properties.{Properties}
use Rattle.lapin_types.specs.declared.message.Delivery.{Delivery}
use Rattle.lapin_types.specs.declared.message.BasicGetMessage.{BasicGetMessage}
use Rattle.lapin_types.specs.declared.message.BasicReturnMessage.{BasicReturnMessage}
use Rattle.lapin_types.specs.declared.answer.Answer.TheVariants as answer
use Rattle.lapin_types.specs.declared.request.ReplyKind.TheVariants as reply_kind
use Rattle.lapin_content.specs.declared.start.Start.{Start}
use Rattle.lapin_content.specs.declared.start.Start.TheVariants as start
use Rattle.lapin_content.specs.declared.start.Whole.{Whole}
use Rattle.lapin_content.specs.Contents.{Expected, front_waits, front_takes, heard_header, heard_body, for_ticket, for_consumer}
use Rattle.lapin_content.specs.Channels.{expected_on, after_mark}
use Rattle.lapin_content.specs.Marks as mark
use Rattle.lapin_consumer.specs.Subscriptions.{found, is_registered}
use Rattle.lapin_delivery.specs.Deliveries.{Deliveries}
use Rattle.lapin_delivery.specs.Marks.{DeliveryMark}
use Rattle.lapin_delivery.specs.Marks as deliveries
use Rattle.lapin_rules.specs.declared.broker_frames.ContentPart.{ContentPart}
use Rattle.lapin_rules.specs.declared.broker_frames.ContentPart.TheVariants as part
use Rattle.lapin_rules.specs.ConfirmMarks.{ConfirmMark}
use Rattle.lapin_rules.specs.ConfirmMarks as confirm
use Rattle.lapin_rules.specs.TicketReadings.{TicketMark}
use Rattle.lapin_rules.specs.Requests.{first_request, ticket_of, resolved_with}
use Rattle.lapin_rules.specs.Wire.{Wire, state_of, requests_of, receives_on}
use Rattle.lapin_rules.specs.Reply.{receives_reply, after_reply}

-- ---- a content begins: get-ok takes the oldest open get of its channel, as a reply does

-- the class of every message: basic
abbrev pub content_class : ℕ
content_class = 60

-- one more content is expected on the channel
abbrev pub expecting : ℕ → Start → Wire → Wire
expecting c s b = record b { contents = after_mark b.contents (mark.Awaited c content_class s) }

-- the ticket of the get whose answer comes next
abbrev pub get_ticket : ℕ → Wire → Option ℕ
get_ticket c b = ticket_of (first_request reply_kind.BasicGetOk (requests_of c b))

-- get-ok takes the oldest open get of its channel, and one more content is expected, for that get's ticket
abbrev pub after_get_ok : ℕ → Start → Wire → Wire
after_get_ok c s b = expecting c (for_ticket (get_ticket c b) s) (after_reply c reply_kind.BasicGetOk b)

-- a delivery is for the consumer that is registered under its tag as the method comes
abbrev pub after_deliver : ℕ → List ℕ → Start → Wire → Wire
after_deliver c tag s b = expecting c (for_consumer (found c tag b.deliveries.subscriptions) s) b

-- ---- when one is received: get-ok where a get is open, a header or a body where the content at the front of its channel waits for it

-- a frame about contents is received on an open and on a closing channel: get-ok where a get is open, a return and a delivery always,
-- a header and a body where the front waits for them
abbrev pub receives_part : ℕ → ContentPart → Wire → Bool
receives_part c (part.GetOk s) b = receives_reply c reply_kind.BasicGetOk b
receives_part c (part.Return s) b = receives_on (state_of c b)
receives_part c (part.Deliver tag s) b = receives_on (state_of c b)
receives_part c (part.Header h) b = receives_on (state_of c b) && front_waits h.class_id (expected_on c b.contents)
receives_part c (part.Body bytes) b = receives_on (state_of c b) && front_takes bytes (expected_on c b.contents)

-- the content that it makes whole, if it does
abbrev pub whole_in : Result (Option Whole) Error → Option Whole
whole_in (Ok w) = w
whole_in (Err e) = None

-- the content that a header or a body makes whole, of these that its channel expects; a method that begins one makes none whole
abbrev pub whole_by : ContentPart → List Expected → Option Whole
whole_by (part.Header h) es = whole_in (heard_header h es)
whole_by (part.Body bytes) es = whole_in (heard_body bytes es)
whole_by _ es = None

-- the content of the channel that a header or a body makes whole, if it does
abbrev pub whole_on : ℕ → ContentPart → Wire → Option Whole
whole_on c p b = whole_by p (expected_on c b.contents)

-- ---- a whole content: the message of a get is given the next acker, and answers the get's ticket; a delivery is given the next
-- acker, and goes to its consumer, if that is registered still; one that was returned is known to the confirms

-- the number of the next acker
abbrev pub next_acker : Deliveries → ℕ
next_acker i = length i.switches + 1

-- what it began with takes an acker: a get, and a delivery for a consumer that is registered
abbrev pub for_acker : Deliveries → Start → Bool
for_acker i (start.Get ticket tag exchange key redelivered count) = true
for_acker i (start.Deliver (Some k) tag exchange key redelivered) = is_registered k i.subscriptions
for_acker i _ = false

-- the content that became whole, if one did, takes an acker
abbrev pub takes_acker : Deliveries → Option Whole → Bool
takes_acker i None = false
takes_acker i (Some w) = for_acker i w.start

-- a message that came on the channel, with the acker of number n
abbrev pub delivered_message : ℕ → ℕ → ℕ → List ℕ → List ℕ → Bool → Whole → Delivery
delivered_message c n tag exchange key redelivered w = record {
  delivery_tag = tag;
  exchange = exchange;
  routing_key = key;
  redelivered = redelivered;
  properties = w.properties;
  payload = w.payload;
  acker = record { channel_id = c; delivery_tag = tag; number = n; used = false };
}

-- that of a get
abbrev pub got_message : ℕ → ℕ → ℕ → List ℕ → List ℕ → Bool → ℕ → Whole → BasicGetMessage
got_message c n tag exchange key redelivered count w = record { delivery = delivered_message c n tag exchange key redelivered w; message_count = count }

-- a returned message: its delivery has no tag, and nothing acknowledges it
abbrev pub returned_delivery : List ℕ → List ℕ → Properties → List ℕ → Delivery
returned_delivery exchange key properties payload = record {
  delivery_tag = 0;
  exchange = exchange;
  routing_key = key;
  redelivered = false;
  properties = properties;
  payload = payload;
  acker = record { channel_id = 0; delivery_tag = 0; number = 0; used = true };
}

-- a message that came back: its delivery, with the broker's reply code and text (AMQP 0-9-1, basic.return)
abbrev pub returned_message : ℕ → List ℕ → List ℕ → List ℕ → Whole → BasicReturnMessage
returned_message code text exchange key w = record { delivery = returned_delivery exchange key w.properties w.payload; reply_code = code; reply_text = text }

-- what a whole content does to confirms
abbrev pub start_marks : ℕ → Start → Whole → List ConfirmMark
start_marks c (start.Return code text exchange key) w = confirm.Arrived c (returned_message code text exchange key w) ∷ []
start_marks c _ w = []

-- what the content that became whole does to confirms, nothing where none did
abbrev pub whole_marks : ℕ → Option Whole → List ConfirmMark
whole_marks c None = []
whole_marks c (Some w) = start_marks c w.start w

-- to tickets, where n is the number of the next acker
abbrev pub start_tickets : ℕ → ℕ → Start → Whole → List TicketMark
start_tickets c n (start.Get ticket tag exchange key redelivered count) w = resolved_with (Ok (answer.Got (Some (got_message c n tag exchange key redelivered count w)))) ticket
start_tickets c n _ w = []

-- what the content that became whole does to tickets, nothing where none did
abbrev pub whole_tickets : ℕ → ℕ → Option Whole → List TicketMark
whole_tickets c n None = []
whole_tickets c n (Some w) = start_tickets c n w.start w

-- and to consumers and ackers
abbrev pub arrival : ℕ → Delivery → Deliveries → List DeliveryMark
arrival k d i = if is_registered k i.subscriptions then deliveries.Delivered k d ∷ [] else []

-- what a whole content does to consumers and ackers: a get's message takes the next acker, a delivery arrives at its consumer, if any
abbrev pub start_deliveries : ℕ → Deliveries → Start → Whole → List DeliveryMark
start_deliveries c i (start.Get ticket tag exchange key redelivered count) w = deliveries.Got c tag ∷ []
start_deliveries c i (start.Deliver (Some k) tag exchange key redelivered) w = arrival k (delivered_message c (next_acker i) tag exchange key redelivered w) i
start_deliveries c i _ w = []

-- what the content that became whole does to consumers and ackers, nothing where none did
abbrev pub whole_deliveries : ℕ → Deliveries → Option Whole → List DeliveryMark
whole_deliveries c i None = []
whole_deliveries c i (Some w) = start_deliveries c i w.start w

-- ---- what it leaves, and what it does to confirms, tickets, consumers and ackers

-- what a frame about contents leaves: a method begins one, get-ok takes its request too, a header or a body is for the front
abbrev pub after_part : ℕ → ContentPart → Wire → Wire
after_part c (part.GetOk s) b = after_get_ok c s b
after_part c (part.Return s) b = expecting c s b
after_part c (part.Deliver tag s) b = after_deliver c tag s b
after_part c (part.Header h) b = record b { contents = after_mark b.contents (mark.Header c h) }
after_part c (part.Body bytes) b = record b { contents = after_mark b.contents (mark.Body c bytes) }

-- what a frame about contents does to confirms: what the content does that it makes whole, if it does
abbrev pub part_marks : ℕ → ContentPart → Wire → List ConfirmMark
part_marks c p b = whole_marks c (whole_on c p b)

-- what a frame about contents does to tickets: what the content does that it makes whole, if it does
abbrev pub part_tickets : ℕ → ContentPart → Wire → List TicketMark
part_tickets c p b = whole_tickets c (next_acker b.deliveries) (whole_on c p b)

-- what a frame about contents does to consumers and ackers: what the content does that it makes whole, if it does
abbrev pub part_deliveries : ℕ → ContentPart → Wire → List DeliveryMark
part_deliveries c p b = whole_deliveries c b.deliveries (whole_on c p b)
