-- What a server makes of a request: it publishes an answer and acknowledges the request, or rejects it, or finds it void.
use Rattle.std.specs.Prelude.{◌≡◌, ℕ, ◌==◌, ◌⊎◌, Bool, true, false, List, [], Option, Some, None, Result, Ok, Err}
use Rattle.lapin_values.specs.Properties.{Properties, no_properties}
use Rattle.lapin_types.specs.Types.{Error}
use Rattle.lapin_types.specs.Types.error
use Rattle.lapin_types.specs.declared.acker_call.AckerCall.TheVariants as acker_call
use Rattle.lapin_types.specs.declared.event.Event.{Event}
use Rattle.lapin_types.specs.declared.event.Event.TheVariants as event
use Rattle.lapin_types.specs.declared.call.Call.TheVariants as call
use Rattle.lapin_types.specs.declared.record.Record.{Record}
use Rattle.lapin_types.specs.declared.record.Record.TheVariants as record_
use Rattle.lapin_rules.specs.Ackers.{usable_at}
use Rattle.lapin_rules.specs.Wire.{Wire, state_of, is_open}
use Rattle.lapin_machine.specs.World.{World, told_by, next}
use Rattle.lapin_machine.specs.Numbers.{EventUsedUp}
use Rattle.lapin_call.specs.declared.server.Served.{Served}
use Rattle.lapin_call.specs.declared.server.Served.TheVariants as served
use Rattle.lapin_call.specs.declared.server.Sent.{Sent}
use Rattle.lapin_call.specs.declared.server.Held.{Held}
use Rattle.lapin_call.specs.declared.server.Polled.{Polled}
use Rattle.lapin_call.specs.declared.server.Polled.TheVariants as polled
use Rattle.lapin_call.specs.declared.server.Server.{Server}

-- ---- what is asked of a request

-- what a poll of the consumer gave
abbrev pub item_polled : Record → Polled
item_polled (record_.Item (Ok (Some d))) = polled.Request d
item_polled (record_.Item (Ok None)) = polled.End
item_polled (record_.Item (Err e)) = polled.Failed e
item_polled _ = polled.Nothing

-- a usable acker's channel is this one
abbrev pub is_on : ℕ → Option (ℕ × ℕ) → Bool
is_on c None = false
is_on c (Some x) = x.0 == c

-- the acker is usable, and its channel is this one
abbrev pub is_taken_on : ℕ → ℕ → Wire → Bool
is_taken_on c n b = is_on c (usable_at n b)

-- the queue and the id, where both are there
abbrev pub both_of : Option (List ℕ) → Option (List ℕ) → Option (List ℕ × List ℕ)
both_of (Some queue) (Some id) = Some (queue, id)
both_of _ _ = None

-- the queue to which an answer goes and the id that it has, where the request says both
abbrev pub address_of : Properties → Option (List ℕ × List ℕ)
address_of p = both_of p.reply_to p.correlation_id

-- ---- what is queued for it

-- the publish of an answer: by the default exchange to the queue, under the id alone
abbrev pub answering : ℕ → List ℕ × List ℕ → List ℕ → Event
answering c a payload = event.Call c (call.BasicPublish [] a.0 (record { mandatory = false; immediate = false }) payload (record no_properties { correlation_id = Some a.1 }))

-- the request alone is acknowledged
abbrev pub acknowledging : ℕ → Event
acknowledging n = event.Acker n (acker_call.Ack (record { multiple = false }))

-- it is rejected, and not queued again
abbrev pub rejecting : ℕ → Event
rejecting n = event.Acker n (acker_call.Reject (record { requeue = false }))

-- an event is refused only for want of memory, or of a number that it needs
abbrev pub IsWant : Error → Event → World → Type 0
IsWant error.NoMemory e v = Unit {0}
IsWant error.NumbersUsedUp e v = EventUsedUp e v.wire
IsWant _ e v = ⊥

-- the acker's call was queued; or it was refused, and the session is as it was
abbrev pub IsQueued : Event → Result (Unit {0}) Error → World → World → Type 0
IsQueued e (Ok u) v w = (t : ℕ) × (told_by v e ≡ record_.Ticket t) × (w ≡ next v e)
IsQueued e (Err x) v w = IsWant x e v × (w ≡ v)

-- the publish was queued, with this ticket and this confirm; or it was refused, and the session is as it was
abbrev pub IsPublished : Event → Result Sent Error → World → World → Type 0
IsPublished e (Ok s) v w = (told_by v e ≡ record_.Publish s.ticket s.confirm) × (w ≡ next v e)
IsPublished e (Err x) v w = IsWant x e v × (w ≡ v)

-- ---- what a request comes to

-- it is acknowledged, its answer being published; or that is refused, and it is kept with the publish of its answer
abbrev pub IsAcknowledged : Sent → Held → Result Served Error → Held → World → World → Type 0
IsAcknowledged s h (Ok (served.Answered tag t p)) k v w = (tag ≡ h.delivery.delivery_tag) × (t ≡ s.ticket) × (p ≡ s.confirm) × IsQueued (acknowledging h.delivery.acker.number) (Ok tt) v w
IsAcknowledged s h (Ok _) k v w = ⊥
IsAcknowledged s h (Err e) k v w = (k ≡ record h { sent = Some s }) × IsQueued (acknowledging h.delivery.acker.number) (Err e) v w

-- no answer could be made or published: the request is kept as it was
abbrev pub IsUnanswered : (List ℕ → List ℕ → Type 0) → ℕ → List ℕ × List ℕ → Held → Result Served Error → Held → World → World → Type 0
IsUnanswered may c a h r k v w = (k ≡ h) × ((r ≡ Err error.NoMemory) × (w ≡ v) ⊎ ((p : List ℕ) × (x : Error) × may h.delivery.payload p × (r ≡ Err x) × IsPublished (answering c a p) (Err x) v w))

-- an answer to its payload was published, and the request acknowledged
abbrev pub IsNewlyAnswered : (List ℕ → List ℕ → Type 0) → ℕ → List ℕ × List ℕ → Held → Result Served Error → Held → World → World → Type 0
IsNewlyAnswered may c a h r k v w = (p : List ℕ) × (s : Sent) × (u : World) × may h.delivery.payload p × IsPublished (answering c a p) (Ok s) v u × IsAcknowledged s h r k u w

-- a request with an address; its answer is published once
abbrev pub IsAnswered : (List ℕ → List ℕ → Type 0) → ℕ → List ℕ × List ℕ → Option Sent → Held → Result Served Error → Held → World → World → Type 0
IsAnswered may c a (Some s) h r k v w = IsAcknowledged s h r k v w
IsAnswered may c a None h r k v w = IsUnanswered may c a h r k v w ⊎ IsNewlyAnswered may c a h r k v w

-- a request without one is rejected; or that is refused, and it is kept
abbrev pub IsRejected : Held → Result Served Error → Held → World → World → Type 0
IsRejected h (Ok (served.NoAddress tag)) k v w = (tag ≡ h.delivery.delivery_tag) × IsQueued (rejecting h.delivery.acker.number) (Ok tt) v w
IsRejected h (Ok _) k v w = ⊥
IsRejected h (Err e) k v w = (k ≡ h) × IsQueued (rejecting h.delivery.acker.number) (Err e) v w

-- on an open channel
abbrev pub IsServedTo : (List ℕ → List ℕ → Type 0) → ℕ → Option (List ℕ × List ℕ) → Held → Result Served Error → Held → World → World → Type 0
IsServedTo may c None h r k v w = IsRejected h r k v w
IsServedTo may c (Some a) h r k v w = IsAnswered may c a h.sent h r k v w

-- of a usable acker: refused where the channel isn't open, and the request is then kept
abbrev pub IsServedOn : (List ℕ → List ℕ → Type 0) → ℕ → Bool → Held → Result Served Error → Held → World → World → Type 0
IsServedOn may c true h r k v w = IsServedTo may c (address_of h.delivery.properties) h r k v w
IsServedOn may c false h r k v w = (r ≡ Err (error.InvalidChannelState (state_of c v.wire))) × (k ≡ h) × (w ≡ v)

-- of one whose acker isn't usable nothing is queued
abbrev pub IsDoneWith : (List ℕ → List ℕ → Type 0) → ℕ → Bool → Held → Result Served Error → Held → World → World → Type 0
IsDoneWith may c false h r k v w = (r ≡ Ok (served.Stale h.delivery.delivery_tag)) × (w ≡ v)
IsDoneWith may c true h r k v w = IsServedOn may c (is_open (state_of c v.wire)) h r k v w

-- what a request h comes to, in a session v that is w afterwards; k is what is kept of it where the call is refused
abbrev pub IsDone : (List ℕ → List ℕ → Type 0) → ℕ → Held → Result Served Error → Held → World → World → Type 0
IsDone may c h r k v w = IsDoneWith may c (is_taken_on c h.delivery.acker.number v.wire) h r k v w

-- ---- a call of a server

-- the same server, which keeps this request, or none
abbrev pub Keeps : Server → Option Held → Server → Type 0
Keeps s held t = (t.consumer ≡ s.consumer) × (t.channel ≡ s.channel) × (t.held ≡ held)

-- a request is served: where that is refused, the server keeps it
abbrev pub IsTried : (List ℕ → List ℕ → Type 0) → Server → Held → Result Served Error → Server → World → World → Type 0
IsTried may s h (Ok x) t v w = (k : Held) × IsDone may s.channel h (Ok x) k v w × Keeps s None t
IsTried may s h (Err e) t v w = (k : Held) × IsDone may s.channel h (Err e) k v w × Keeps s (Some k) t

-- the consumer was polled, in a session that is v afterwards
abbrev pub IsNext : (List ℕ → List ℕ → Type 0) → Server → Polled → Result Served Error → Server → World → World → Type 0
IsNext may s polled.Nothing r t v w = (r ≡ Ok served.Nothing) × Keeps s None t × (w ≡ v)
IsNext may s polled.End r t v w = (r ≡ Ok served.End) × Keeps s None t × (w ≡ v)
IsNext may s (polled.Failed e) r t v w = (r ≡ Ok (served.Failed e)) × Keeps s None t × (w ≡ v)
IsNext may s (polled.Request d) r t v w = IsTried may s (record { delivery = d; sent = None }) r t v w

-- the request that the server keeps, else what the consumer is handed next
abbrev pub IsTaken : (List ℕ → List ℕ → Type 0) → Option Held → Server → Result Served Error → Server → World → World → Type 0
IsTaken may (Some h) s r t v w = IsTried may s h r t v w
IsTaken may None s r t v w = IsNext may s (item_polled (told_by v (event.PollConsumer s.consumer))) r t (next v (event.PollConsumer s.consumer)) w

-- what a call of server s came to, which is t afterwards, in a session v that is w afterwards. `may` says which answer a payload may get.
abbrev pub IsServed : (List ℕ → List ℕ → Type 0) → Server → Result Served Error → Server → World → World → Type 0
IsServed may s r t v w = IsTaken may s.held s r t v w
