-- Requests and replies over queues: a session whose channel 1 publishes the requests and consumes the replies. What a step does, and
-- what it reports.
use Rattle.std.specs.Prelude.{ℕ, zero, suc, ◌+◌, Bool, true, false, not, ◌&&◌, if◌then◌else◌, List, [], ◌∷◌, ◌++◌, Option, Some, None, Result, Ok, Err, length, decimal}
use Rattle.lapin_values.specs.Properties.{Properties, no_properties}
use Rattle.lapin_types.specs.Types.{Error}
use Rattle.lapin_types.specs.declared.event.Event.{Event}
use Rattle.lapin_types.specs.declared.event.Event.TheVariants as event
use Rattle.lapin_types.specs.declared.call.Call.TheVariants as call
use Rattle.lapin_types.specs.declared.record.Record.{Record}
use Rattle.lapin_types.specs.declared.record.Record.TheVariants as record_
use Rattle.lapin_types.specs.declared.message.Delivery.{Delivery}
use Rattle.lapin_consumer.specs.Subscriptions.{Consumer, Handed, consumer_at, found}
use Rattle.lapin_rules.specs.Wire.{Wire, state_of, is_open}
use Rattle.lapin_rules.specs.History.{History}
use Rattle.lapin_machine.specs.Way.{Way, by_history}
use Rattle.lapin_call.specs.Fates.{no_tally, match_in, counted, after_delivery, after_error, take_report, after_take, fate_at}
use Rattle.lapin_call.specs.declared.fates.Fate.{Fate}
use Rattle.lapin_call.specs.declared.fates.Fate.TheVariants as fate
use Rattle.lapin_call.specs.declared.fates.Tally.{Tally}
use Rattle.lapin_call.specs.declared.step.CallStep.{CallStep}
use Rattle.lapin_call.specs.declared.step.CallStep.TheVariants as step
use Rattle.lapin_call.specs.declared.step.CallReport.{CallReport}
use Rattle.lapin_call.specs.declared.step.CallReport.TheVariants as reported

-- the session, the queue of the replies, whether it was consumed from yet, the consumer of the replies, and what became of each call
pub record Requester (S : Type 0) : Type 0 where
  pub session : S
  pub queue : List ℕ
  pub consumes : Bool
  pub consumer : Option ℕ
  pub fates : List Fate

-- ---- the session meets an event

-- the requester after an event of its session
abbrev pub met : {S : Type 0} → Way S → Event → Requester S → Requester S
met m e d = record { session = m.next d.session e; queue = d.queue; consumes = d.consumes; consumer = d.consumer; fates = d.fates }

-- the state of channel 1 is open
abbrev pub is_ready : Wire → Bool
is_ready b = is_open (state_of 1 b)

-- `basic.consume` of the queue, under its own name as tag, without acknowledgements and without wait
abbrev pub consuming : List ℕ → Event
consuming queue = event.Call 1 (call.BasicConsume queue queue (record { no_local = false; no_ack = true; exclusive = false; nowait = true }) [])

-- the queue is consumed from: the consumer of the replies is the one that is then registered under the queue's name
abbrev pub consumed : {S : Type 0} → Way S → S → Requester S → Requester S
consumed m s d = record { session = s; queue = d.queue; consumes = true; consumer = found 1 d.queue (m.wire s).deliveries.subscriptions; fates = d.fates }

-- the first time that channel 1 is open, the queue is consumed from
abbrev pub begun : {S : Type 0} → Way S → Requester S → Requester S
begun m d = if not d.consumes && is_ready (m.wire d.session) then consumed m (m.next d.session (consuming d.queue)) d else d

-- ---- a request

-- the properties of request n: its number in decimal as correlation id, the queue of the replies as address
abbrev pub request_properties : ℕ → List ℕ → Properties
request_properties n queue = record no_properties { correlation_id = Some (decimal n); reply_to = Some queue }

-- the publish of request n
abbrev pub requesting : ℕ → List ℕ → List ℕ → List ℕ → List ℕ → Event
requesting n queue exchange key payload = event.Call 1 (call.BasicPublish exchange key (record { mandatory = false; immediate = false }) payload (request_properties n queue))

-- the number of the next call
abbrev pub next_call : {S : Type 0} → Requester S → ℕ
next_call d = length d.fates + 1

-- the request is published, and its call waits
abbrev pub asked : {S : Type 0} → Way S → List ℕ → List ℕ → List ℕ → Requester S → Requester S
asked m exchange key payload d = record { session = m.next d.session (requesting (next_call d) d.queue exchange key payload); queue = d.queue; consumes = d.consumes; consumer = d.consumer; fates = d.fates ++ fate.Waiting ∷ [] }

-- ---- replies are collected

-- what a poll of the consumer gave, where it is a delivery or an error
abbrev pub item_of : Record → Option (Result Delivery Error)
item_of (record_.Item (Ok (Some d))) = Some (Ok d)
item_of (record_.Item (Err e)) = Some (Err e)
item_of _ = None

-- there is an item
abbrev pub is_item : Option (Result Delivery Error) → Bool
is_item None = false
is_item (Some x) = true

-- while replies are collected: the session, what became of the calls, and how many deliveries of each kind came
pub record Gathered (S : Type 0) : Type 0 where
  pub session : S
  pub fates : List Fate
  pub tally : Tally

-- an item is heard, in this session: a delivery is counted, and may answer a call; an error ends all calls that wait
abbrev pub heard : {S : Type 0} → Option (Result Delivery Error) → S → Gathered S → Gathered S
heard None s g = record { session = s; fates = g.fates; tally = g.tally }
heard (Some (Ok d)) s g = record { session = s; fates = after_delivery d g.fates; tally = counted (match_in d g.fates) g.tally }
heard (Some (Err e)) s g = record { session = s; fates = after_error e g.fates; tally = g.tally }

-- one poll of consumer n
abbrev pub polled : {S : Type 0} → Way S → ℕ → Gathered S → Gathered S
polled m n g = heard (item_of (m.told g.session (event.PollConsumer n))) (m.next g.session (event.PollConsumer n)) g

-- polls of consumer n until one gives no item, at most so many
abbrev pub polls : {S : Type 0} → Way S → ℕ → ℕ → Gathered S → Gathered S
polls m n zero g = g
polls m n (suc k) g = if is_item (item_of (m.told g.session (event.PollConsumer n))) then polls m n k (polled m n g) else polled m n g

-- what waits for a consumer
abbrev pub items_in : Option Consumer → List Handed
items_in None = []
items_in (Some x) = x.items

-- how many items wait for consumer n
abbrev pub waiting_for : ℕ → Wire → ℕ
waiting_for n b = length (items_in (consumer_at n b.deliveries.subscriptions))

-- consumer n is polled until a poll gives no item, which comes at the latest once all that waits for it was given
abbrev pub gather_from : {S : Type 0} → Way S → Option ℕ → Gathered S → Gathered S
gather_from m None g = g
gather_from m (Some n) g = polls m n (suc (waiting_for n (m.wire g.session))) g

-- the consumer of the replies is polled
abbrev pub gathered : {S : Type 0} → Way S → Requester S → Gathered S
gathered m d = gather_from m d.consumer (record { session = d.session; fates = d.fates; tally = no_tally })

-- the requester after the replies were collected
abbrev pub collected : {S : Type 0} → Gathered S → Requester S → Requester S
collected g d = record { session = g.session; queue = d.queue; consumes = d.consumes; consumer = d.consumer; fates = g.fates }

-- what was collected
abbrev pub collect_report : Tally → CallReport
collect_report t = reported.Collected t.answers t.repeats t.strangers

-- ---- what is given

-- the requester after the call of this number was taken
abbrev pub given : {S : Type 0} → ℕ → Requester S → Requester S
given n d = record { session = d.session; queue = d.queue; consumes = d.consumes; consumer = d.consumer; fates = after_take (fate_at n d.fates) n d.fates }

-- ---- steps

-- what a step leaves
abbrev pub after : {S : Type 0} → Way S → CallStep → Requester S → Requester S
after m (step.Next flow) d = begun m (met m (event.Next flow) d)
after m (step.Receive f) d = begun m (met m (event.Receive f) d)
after m step.Lost d = begun m (met m event.Lost d)
after m (step.Ask exchange key payload) d = if is_ready (m.wire d.session) then asked m exchange key payload d else d
after m step.Collect d = collected (gathered m d) d
after m (step.Take n) d = given n d

-- what a step reports
abbrev pub report : {S : Type 0} → Way S → CallStep → Requester S → CallReport
report m (step.Next flow) d = reported.Session (m.told d.session (event.Next flow))
report m (step.Receive f) d = reported.Session (m.told d.session (event.Receive f))
report m step.Lost d = reported.Session (m.told d.session event.Lost)
report m (step.Ask exchange key payload) d = if is_ready (m.wire d.session) then reported.Asked (next_call d) else reported.NotOpen (state_of 1 (m.wire d.session))
report m step.Collect d = collect_report (gathered m d).tally
report m (step.Take n) d = take_report (fate_at n d.fates)

-- ---- whole runs

-- the report of each step from here on, in order
abbrev pub reports : {S : Type 0} → Way S → List CallStep → Requester S → List CallReport
reports m [] d = []
reports m (s ∷ ss) d = report m s d ∷ reports m ss (after m s d)

-- where a list of steps leads from here
abbrev pub run : {S : Type 0} → Way S → List CallStep → Requester S → Requester S
run m [] d = d
run m (s ∷ ss) d = run m ss (after m s d)

-- a requester begins as its session does, with `channel.open` on channel 1; no call was asked
abbrev pub new_requester : {S : Type 0} → Way S → S → List ℕ → Requester S
new_requester m s queue = record { session = m.next s (event.Call 1 call.OpenChannel); queue = queue; consumes = false; consumer = None; fates = [] }

-- where a list of steps leads from a session to which nothing happened
abbrev pub calls_to : ℕ → List ℕ → List CallStep → Requester History
calls_to frame_max queue steps = run (by_history frame_max) steps (new_requester (by_history frame_max) [] queue)

-- The reports of these steps in a new session, by its history.
abbrev pub calls : ℕ → List ℕ → List CallStep → List CallReport
calls frame_max queue steps = reports (by_history frame_max) steps (new_requester (by_history frame_max) [] queue)
