-- The whole contents among the frames that the broker sends in one opening, and those of them that went to one consumer (AMQP 0-9-1,
-- section 4.2.6, content framing).
use Rattle.std.specs.Prelude.{◌≡◌, ℕ, ◌==◌, Bool, true, false, if◌then◌else◌, List, [], ◌∷◌, ◌++◌, length, filter, filter_map, Option, Some, None, Ok}
use Rattle.std.specs.List.{fold}
use Rattle.lapin_values.specs.Properties.{Properties}
use Rattle.lapin_methods.specs.declared.frame.ContentHeader.{ContentHeader}
use Rattle.lapin_types.specs.Types.{Frame}
use Rattle.lapin_types.specs.Types.frame
use Rattle.lapin_types.specs.Types.method
use Rattle.lapin_types.specs.Types.basic
use Rattle.lapin_types.specs.declared.acker.Acker.{Acker}
use Rattle.lapin_types.specs.declared.message.Delivery.{Delivery}
use Rattle.lapin_types.specs.declared.message.BasicGetMessage.{BasicGetMessage}
use Rattle.lapin_broker.specs.Tags.{same_text}
use Rattle.lapin_consumer.specs.Subscriptions.{Handed}
use Rattle.lapin_consumer.specs.Readings.{Entry, arrivals}
use Rattle.lapin_verdicts.specs.Deeds.{Deed, sents}

-- with which method a content begins, and for whom it is
pub data Start : Type 0 where
  -- a delivery to the consumer of a tag
  Deliver : (consumer : List ℕ) (tag : ℕ) (redelivered : Bool) (exchange key : List ℕ) → Start
  -- the message of a get, with how many the queue still has
  Get : (tag : ℕ) (redelivered : Bool) (exchange key : List ℕ) (count : ℕ) → Start
  -- a publish that comes back
  Return : (code : ℕ) (text exchange key : List ℕ) → Start

-- a whole content: with what it began, its header's properties, its bodies joined
pub record Whole : Type 0 where
  pub start : Start
  pub properties : Properties
  pub payload : List ℕ

-- the content that this frame begins, if it begins one
abbrev pub start_in : Frame → Option Start
start_in (frame.Method c (method.Basic (basic.Deliver consumer tag redelivered exchange key))) = Some (Deliver consumer tag redelivered exchange key)
start_in (frame.Method c (method.Basic (basic.GetOk tag redelivered exchange key count))) = Some (Get tag redelivered exchange key count)
start_in (frame.Method c (method.Basic (basic.Return code text exchange key))) = Some (Return code text exchange key)
start_in _ = None

-- how far the content is that is being sent
pub data Sending : Type 0 where
  Nothing : Sending
  Started : (start : Start) → Sending
  Headed : (size : ℕ) (whole : Whole) → Sending

-- the contents that are whole, in order, and how far the next one is
pub record Sent_ : Type 0 where
  pub wholes : List Whole
  pub sending : Sending

-- a content has these bytes of so many: it is whole with the last of them, so at its header where it has none
abbrev pub with_bytes : ℕ → Whole → Sent_ → Sent_
with_bytes size w y = if length w.payload == size then record { wholes = y.wholes ++ w ∷ []; sending = Nothing } else record { wholes = y.wholes; sending = Headed size w }

abbrev pub with_header : ContentHeader → Sending → Sent_ → Sent_
with_header h (Started s) y = with_bytes h.body_size (record { start = s; properties = h.properties; payload = [] }) y
with_header h _ y = y

abbrev pub with_body : List ℕ → Sending → Sent_ → Sent_
with_body bytes (Headed size w) y = with_bytes size (record w { payload = w.payload ++ bytes }) y
with_body bytes _ y = y

-- a method begins a content, or is none of a content
abbrev pub with_start : Option Start → Sent_ → Sent_
with_start None y = y
with_start (Some s) y = record { wholes = y.wholes; sending = Started s }

abbrev pub sent_after : Sent_ → Frame → Sent_
sent_after y (frame.Header c h) = with_header h y.sending y
sent_after y (frame.Body c bytes) = with_body bytes y.sending y
sent_after y (frame.Method c m) = with_start (start_in (frame.Method c m)) y

-- the whole contents among these frames of the broker, in order
abbrev pub sendings : List Frame → List Whole
sendings fs = (fold sent_after (record { wholes = []; sending = Nothing }) fs).wholes

-- ---- what a side is given of a content: the message, and beside it what acknowledges it

-- the content was for a get
abbrev pub is_get : Start → Bool
is_get (Get tag redelivered exchange key count) = true
is_get _ = false

-- the delivery tag, where it was redelivered, the exchange and the key with which a content begins, with the rest of it
abbrev pub delivery_from : Acker → Start → Properties → List ℕ → Delivery
delivery_from a (Deliver consumer tag redelivered exchange key) p bytes = record { delivery_tag = tag; exchange = exchange; routing_key = key; redelivered = redelivered; properties = p; payload = bytes; acker = a }
delivery_from a (Get tag redelivered exchange key count) p bytes = record { delivery_tag = tag; exchange = exchange; routing_key = key; redelivered = redelivered; properties = p; payload = bytes; acker = a }
delivery_from a (Return code text exchange key) p bytes = record { delivery_tag = 0; exchange = exchange; routing_key = key; redelivered = false; properties = p; payload = bytes; acker = a }

-- how many messages the queue still has, which only a get tells
abbrev pub count_in : Start → ℕ
count_in (Get tag redelivered exchange key count) = count
count_in _ = 0

-- the message of a get, with this acker
abbrev pub got : Acker → Whole → BasicGetMessage
got a w = record { delivery = delivery_from a w.start w.properties w.payload; message_count = count_in w.start }

-- ---- one consumer

-- the content was for the consumer of this tag
abbrev pub is_to_start : List ℕ → Start → Bool
is_to_start t (Deliver consumer tag redelivered exchange key) = same_text consumer t
is_to_start t _ = false

abbrev pub is_to : List ℕ → Whole → Bool
is_to t w = is_to_start t w.start

-- the whole messages that the broker sent to this tag in an opening, in order
abbrev pub sent_to : List ℕ → List Deed → List Whole
sent_to t opened = filter (is_to t) (sendings (sents opened))

-- the message that a consumer was handed; none where it is an end or an error
abbrev pub message_of : Handed → Option Delivery
message_of (Ok (Some d)) = Some d
message_of _ = None

-- the messages of a log, whatever became of them: those that wait, those that polls gave, those that became jobs, the discarded ones
abbrev pub messages : List Entry → List Delivery
messages log = filter_map message_of (arrivals log)

-- these deliveries are these contents, one for one, each with an acker of its own
abbrev pub AreThese : List Delivery → List Whole → Type 0
AreThese [] ws = ws ≡ []
AreThese (d ∷ ds) [] = ⊥
AreThese (d ∷ ds) (w ∷ ws) = (d ≡ delivery_from d.acker w.start w.properties w.payload) × AreThese ds ws

-- the messages of a log are a prefix of those that the broker sent to the consumer's tag in its opening
pub record ArePrefix (log : List Entry) (t : List ℕ) (opened : List Deed) : Type 0 where
  pub first : List Whole
  pub more : List Whole
  pub all : sent_to t opened ≡ first ++ more
  pub are : AreThese (messages log) first
