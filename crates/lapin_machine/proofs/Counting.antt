-- No event uses more than one number of a counter.
use Rattle.std.proofs.Common.{◌≡◌, ℕ, suc, ◌+◌, ◌<◌, ◌≤◌, ◌^◌, Bool, true, false, cond, not, ◌&&◌, [], ◌∷◌, length, Option, Some, None, refl, ap, arith, inl, inr}
use Rattle.lapin_rules.specs.declared.calls.Asked.{Asked}
use Rattle.lapin_rules.specs.declared.calls.Asked.TheVariants as ask
use Rattle.lapin_rules.specs.Calls.{asked}
use Rattle.lapin_types.specs.declared.event.Event.{Event}
use Rattle.lapin_types.specs.declared.event.Event.TheVariants as event
use Rattle.lapin_types.specs.declared.record.Record.{Record}
use Rattle.lapin_types.specs.declared.record.Record.TheVariants as record_
use Rattle.lapin_types.specs.declared.acker_call.AckerCall.{AckerCall}
use Rattle.lapin_types.specs.declared.leaving.Left.{Left}
use Rattle.lapin_types.specs.Types.{Error}
use Rattle.lapin_types.specs.Types.error
use Rattle.lapin_rules.specs.declared.broker_frames.Incoming.{Incoming}
use Rattle.lapin_rules.specs.declared.broker_frames.Incoming.TheVariants as incoming
use Rattle.lapin_rules.specs.Incoming.{incoming_of}
use Rattle.lapin_rules.specs.declared.phases.ChannelPhase.{ChannelPhase}
use Rattle.lapin_rules.specs.declared.phases.ChannelPhase.TheVariants as phase
use Rattle.lapin_rules.specs.declared.phases.ConnectionPhase.{ConnectionPhase}
use Rattle.lapin_rules.specs.declared.phases.ConnectionPhase.TheVariants as link
use Rattle.lapin_rules.specs.declared.phases.CloseStage.TheVariants as stage
use Rattle.lapin_rules.specs.Phases.{is_lost}
use Rattle.lapin_rules.specs.Leaving.{left_lists}
use Rattle.lapin_rules.specs.Wire.{Wire, state_of, phase_of, is_open, with_lists, lists_of}
use Rattle.lapin_rules.specs.Asking.{asked_by, is_allowed, after_call, asked_wire}
use Rattle.lapin_rules.specs.Events.{after_event}
use Rattle.lapin_rules.specs.Receiving.{after_incoming, after_received, after_failed, after_refused}
use Rattle.lapin_rules.specs.ChannelClose.{after_close_ok}
use Rattle.lapin_rules.specs.ConnectionClose.{after_connection_close}
use Rattle.lapin_rules.specs.Loss.{after_lost}
use Rattle.lapin_rules.specs.Handing.{after_next, sent, handed_as, began_on}
use Rattle.lapin_rules.specs.History.{History, Past, longer, past_on, past}
use Rattle.lapin_machine.specs.World.{World, next, told_anew}
use Rattle.lapin_machine.proofs.Back.{next_keeps}
use Rattle.lapin_machine.specs.Stands.{Stands}
use Rattle.lapin_machine.specs.Numbers.{HasNumbersFor, EventUsedUp, LacksNumber, LacksConsumer, FrameUsedUp, AckUsedUp}
use Rattle.lapin_machine.proofs.Deliveries.{consumers-next, switches-next}
use Rattle.lapin_rules.specs.declared.broker_frames.ContentPart.{ContentPart}
use Rattle.lapin_rules.specs.declared.broker_frames.ContentPart.TheVariants as part
use Rattle.lapin_rules.specs.Content.{after_part}
use Rattle.lapin_rules.specs.declared.broker_frames.ConsumerPart.{ConsumerPart}
use Rattle.lapin_rules.specs.declared.broker_frames.ConsumerPart.TheVariants as consumer
use Rattle.lapin_consumer.specs.Subscriptions.{Consumer, consumer_at}
use Rattle.lapin_rules.specs.Consumers.{after_consumer, lets_go_of, cancel_noted, after_let_go, after_drop}
use Rattle.lapin_rules.specs.Ackers.{acker_asked, usable_at, acked_wire}

choose_le : (t : Bool) (x y : Wire) (n : ℕ) (f : Wire → ℕ) → f x ≤ n → f y ≤ n → f (cond t x y) ≤ n
choose_le true x y n f h k = h
choose_le false x y n f h k = k

tickets_call : (c : ℕ) (k : Asked) (b : Wire) → (after_call c k b).tickets ≤ b.tickets + 1
tickets_call c ask.Open b = omega arith
tickets_call c (ask.CloseChannel code text) b = omega arith
tickets_call c (ask.CloseConnection code text) b = omega arith
tickets_call c (ask.Method row) b = omega arith
tickets_call c (ask.Consume m tag queue o) b = omega arith
tickets_call c (ask.Limit limit) b = omega arith
tickets_call c ask.Nothing b = omega arith
tickets_call c (ask.Publish exchange key o payload properties) b = omega arith

published_call : (c : ℕ) (k : Asked) (b : Wire) → (after_call c k b).published ≤ b.published + 1
published_call c ask.Open b = omega arith
published_call c (ask.CloseChannel code text) b = omega arith
published_call c (ask.CloseConnection code text) b = omega arith
published_call c (ask.Method row) b = omega arith
published_call c (ask.Consume m tag queue o) b = omega arith
published_call c (ask.Limit limit) b = omega arith
published_call c ask.Nothing b = omega arith
published_call c (ask.Publish exchange key o payload properties) b = omega arith

tickets_asked : (c : ℕ) (k : Asked) (b : Wire) → (asked_wire c k b).tickets ≤ b.tickets + 1
tickets_asked c k b = choose_le (is_allowed k (state_of c b)) (after_call c k b) b (b.tickets + 1) (λ x. x.tickets) (tickets_call c k b) (omega arith)

published_asked : (c : ℕ) (k : Asked) (b : Wire) → (asked_wire c k b).published ≤ b.published + 1
published_asked c k b = choose_le (is_allowed k (state_of c b)) (after_call c k b) b (b.published + 1) (λ x. x.published) (published_call c k b) (omega arith)

tickets_acked : (o : Option (ℕ × ℕ)) (k : AckerCall) (b : Wire) → (acked_wire o k b).tickets ≤ b.tickets + 1
tickets_acked None k b = omega arith
tickets_acked (Some x) k b = tickets_asked x.0 (acker_asked k x.1) b

published_acked : (o : Option (ℕ × ℕ)) (k : AckerCall) (b : Wire) → (acked_wire o k b).published ≤ b.published + 1
published_acked None k b = omega arith
published_acked (Some x) k b = published_asked x.0 (acker_asked k x.1) b

-- frames of the broker, a consumer that is let go and a loss give no ticket and no confirm
abbrev SameCounts : Wire → Wire → Type 0
SameCounts x y = (x.tickets ≡ y.tickets) × (x.published ≡ y.published)

choose_counts : (t : Bool) (x y b : Wire) → SameCounts x b → SameCounts y b → SameCounts (cond t x y) b
choose_counts true x y b h k = h
choose_counts false x y b h k = k

close_ok_counts : (c : ℕ) (p : ChannelPhase) (b : Wire) → SameCounts (after_close_ok c p b) b
close_ok_counts c (phase.Closing who sent) b = (refl, refl)
close_ok_counts c _ b = (refl, refl)

connection_close_counts : (l : ConnectionPhase) (b : Wire) → SameCounts (after_connection_close l b) b
connection_close_counts (link.Closing stage.Queued) b = (refl, refl)
connection_close_counts _ b = (refl, refl)

part_counts : (c : ℕ) (p : ContentPart) (b : Wire) → SameCounts (after_part c p b) b
part_counts c (part.GetOk s) b = (refl, refl)
part_counts c _ b = (refl, refl)

consumer_counts : (c : ℕ) (p : ConsumerPart) (b : Wire) → SameCounts (after_consumer c p b) b
consumer_counts c (consumer.Cancel tag nowait) b = choose_counts (is_open (state_of c b) && not nowait) _ b b (refl, refl) (refl, refl)
consumer_counts c _ b = (refl, refl)

received_counts : (i : Incoming) (b : Wire) → SameCounts (after_received i b) b
received_counts (incoming.Content c p) b = part_counts c p b
received_counts (incoming.Consumer c p) b = consumer_counts c p b
received_counts (incoming.ChannelCloseOk c) b = close_ok_counts c (phase_of c b) b
received_counts (incoming.ConnectionClose code) b = connection_close_counts b.link b
received_counts (incoming.Flow c active) b = choose_counts (is_open (state_of c b)) _ b b (refl, refl) (refl, refl)
received_counts _ b = (refl, refl)

failed_counts : (i : Incoming) (b : Wire) → SameCounts (after_failed i b) b
failed_counts (incoming.Settlement c s) b = choose_counts (is_open (state_of c b)) _ b b (refl, refl) (refl, refl)
failed_counts _ b = (refl, refl)

refused_counts : (i : Incoming) (e : Error) (b : Wire) → SameCounts (after_refused i e b) b
refused_counts i (error.PreconditionFailed tag current) b = failed_counts i b
refused_counts i _ b = (refl, refl)

pub incoming_counts : (i : Incoming) (r : Record) (b : Wire) → SameCounts (after_incoming i r b) b
incoming_counts i (record_.Refused e) b = refused_counts i e b
incoming_counts i record_.Received b = received_counts i b
incoming_counts i _ b = (refl, refl)

pub lost_counts : (b : Wire) → SameCounts (after_lost b) b
lost_counts b = choose_counts (is_lost b.link) b _ b (refl, refl) (refl, refl)

pub next_counts : (r : Record) (b : Wire) → SameCounts (after_next r b) b
next_counts r b = at (handed_as r b)
  where
    at : (o : Option Left) → SameCounts (sent o (with_lists (left_lists b.frame_max (began_on r) (lists_of b)) b)) b
    at None = (refl, refl)
    at (Some l) = (refl, refl)

pub let_go_counts : (o : Option Consumer) (b : Wire) → SameCounts (after_let_go o b) b
let_go_counts None b = (refl, refl)
let_go_counts (Some x) b = choose_counts (lets_go_of x b) (cancel_noted x b) b b (refl, refl) (refl, refl)

tickets-next : (b : Wire) (e : Event) (r : Record) → (after_event b e r).tickets ≤ b.tickets + 1
tickets-next b (event.Call c k) r = tickets_asked c (asked_by k r) b
tickets-next b (event.Next flow) r = let same : (after_next r b).tickets ≡ b.tickets = (next_counts r b).0 in omega arith
tickets-next b (event.Receive f) r = let same : (after_incoming (incoming_of f) r b).tickets ≡ b.tickets = (incoming_counts (incoming_of f) r b).0 in omega arith
tickets-next b (event.Acker n k) r = tickets_acked (usable_at n b) k b
tickets-next b (event.DropConsumer n) r = let same : (after_drop n b).tickets ≡ b.tickets = (let_go_counts (consumer_at n b.deliveries.subscriptions) b).0 in omega arith
tickets-next b event.Lost r = let same : (after_lost b).tickets ≡ b.tickets = (lost_counts b).0 in omega arith
tickets-next b _ r = omega arith

published-next : (b : Wire) (e : Event) (r : Record) → (after_event b e r).published ≤ b.published + 1
published-next b (event.Call c k) r = published_asked c (asked_by k r) b
published-next b (event.Next flow) r = let same : (after_next r b).published ≡ b.published = (next_counts r b).1 in omega arith
published-next b (event.Receive f) r = let same : (after_incoming (incoming_of f) r b).published ≡ b.published = (incoming_counts (incoming_of f) r b).1 in omega arith
published-next b (event.Acker n k) r = published_acked (usable_at n b) k b
published-next b (event.DropConsumer n) r = let same : (after_drop n b).published ≡ b.published = (let_go_counts (consumer_at n b.deliveries.subscriptions) b).1 in omega arith
published-next b event.Lost r = let same : (after_lost b).published ≡ b.published = (lost_counts b).1 in omega arith
published-next b _ r = omega arith

pub numbers-next : (n : ℕ) (w : World) (e : Event) → HasNumbersFor (suc n) w → HasNumbersFor n (next w e)
numbers-next n w e h =
    let tickets : w.wire.tickets + suc n < 2 ^ 64 = h.tickets in
    let confirms : w.wire.published + suc n < 2 ^ 64 = h.confirms in
    let consumers : length w.wire.deliveries.subscriptions.consumers + suc n < 2 ^ 64 = h.consumers in
    let ackers : length w.wire.deliveries.switches + suc n < 2 ^ 64 = h.ackers in
    let told : Record = told_anew w e in
    let t : (next w e).wire.tickets ≤ w.wire.tickets + 1 = next_keeps (λ v. v.wire.tickets ≤ w.wire.tickets + 1) w e (tickets-next w.wire e told) (omega arith) in
    let p : (next w e).wire.published ≤ w.wire.published + 1 = next_keeps (λ v. v.wire.published ≤ w.wire.published + 1) w e (published-next w.wire e told) (omega arith) in
    let c : length (next w e).wire.deliveries.subscriptions.consumers ≤ length w.wire.deliveries.subscriptions.consumers + 1 = next_keeps (λ v. length v.wire.deliveries.subscriptions.consumers ≤ length w.wire.deliveries.subscriptions.consumers + 1) w e (consumers-next w.wire e told) (omega arith) in
    let a : length (next w e).wire.deliveries.switches ≤ length w.wire.deliveries.switches + 1 = next_keeps (λ v. length v.wire.deliveries.switches ≤ length w.wire.deliveries.switches + 1) w e (switches-next w.wire e told) (omega arith) in
    record { tickets = omega (arith, tickets, t); confirms = omega (arith, confirms, p); consumers = omega (arith, consumers, c); ackers = omega (arith, ackers, a) }

more : (n : ℕ) (w : World) → HasNumbersFor (suc n) w → w.wire.tickets + 1 ≡ 2 ^ 64 → ⊥
more n w h full = let t : w.wire.tickets + suc n < 2 ^ 64 = h.tickets in omega arith

more_consumers : (n : ℕ) (w : World) → HasNumbersFor (suc n) w → length w.wire.deliveries.subscriptions.consumers + 1 ≡ 2 ^ 64 → ⊥
more_consumers n w h full = let c : length w.wire.deliveries.subscriptions.consumers + suc n < 2 ^ 64 = h.consumers in omega arith

-- a call lacks no number where each counter has a further one
no_lack : (n : ℕ) (w : World) (k : Asked) → HasNumbersFor (suc n) w → LacksNumber k w.wire → ⊥
no_lack n w (ask.Publish exchange key o payload properties) h full = elim full [
  | inl tickets ↦ more n w h tickets
  | inr confirms ↦ (let p : w.wire.published + suc n < 2 ^ 64 = h.confirms in let e : w.wire.published + 1 ≡ 2 ^ 64 = confirms in omega arith)
]
no_lack n w (ask.Consume m tag queue o) h full = elim full [ inl tickets ↦ more n w h tickets | inr consumers ↦ more_consumers n w h consumers ]
no_lack n w _ h full = more n w h full

-- and no frame an acker or a consumer
no_part : (n : ℕ) (w : World) (c : ℕ) (p : ConsumerPart) → HasNumbersFor (suc n) w → LacksConsumer c p w.wire → ⊥
no_part n w c (consumer.ConsumeOk tag) h u = more_consumers n w h u.1
no_part n w c _ h u = absurd u

no_frame : (n : ℕ) (w : World) (i : Incoming) → HasNumbersFor (suc n) w → FrameUsedUp i w.wire → ⊥
no_frame n w (incoming.Content c p) h u = let some : length w.wire.deliveries.switches + suc n < 2 ^ 64 = h.ackers in let full : length w.wire.deliveries.switches + 1 ≡ 2 ^ 64 = u.2 in omega arith
no_frame n w (incoming.Consumer c p) h u = no_part n w c p h u
no_frame n w _ h u = absurd u

no_ack : (n : ℕ) (w : World) (o : Option (ℕ × ℕ)) (k : AckerCall) → HasNumbersFor (suc n) w → AckUsedUp o k w.wire → ⊥
no_ack n w None k h u = absurd u
no_ack n w (Some x) k h u = no_lack n w (acker_asked k x.1) h u.1

-- a counter that has a further number isn't used up
pub has_number : (n : ℕ) (w : World) (e : Event) → HasNumbersFor (suc n) w → EventUsedUp e w.wire → ⊥
has_number n w (event.Call c k) h u = no_lack n w (asked k) h u.1
has_number n w (event.Receive f) h u = no_frame n w (incoming_of f) h u
has_number n w (event.Acker k call) h u = no_ack n w (usable_at k w.wire) call h u
has_number n w _ h u = absurd u

-- ---- no counter is above the number of events

record IsWithin (most : ℕ) (old new : Wire) : Type 0 where
  tickets : new.tickets ≤ old.tickets + most
  published : new.published ≤ old.published + most
  consumers : length new.deliveries.subscriptions.consumers ≤ length old.deliveries.subscriptions.consumers + most
  ackers : length new.deliveries.switches ≤ length old.deliveries.switches + most

within_on : (p : Past) (h : History) → IsWithin (length h) p.wire (past_on p h).wire
within_on p [] = record { tickets = omega arith; published = omega arith; consumers = omega arith; ackers = omega arith }
within_on p (x ∷ h) =
    let rest = within_on (longer p x.0 x.1) h in
    let t : (longer p x.0 x.1).wire.tickets ≤ p.wire.tickets + 1 = tickets-next p.wire x.0 x.1 in
    let n : (longer p x.0 x.1).wire.published ≤ p.wire.published + 1 = published-next p.wire x.0 x.1 in
    let c : length (longer p x.0 x.1).wire.deliveries.subscriptions.consumers ≤ length p.wire.deliveries.subscriptions.consumers + 1 = consumers-next p.wire x.0 x.1 in
    let a : length (longer p x.0 x.1).wire.deliveries.switches ≤ length p.wire.deliveries.switches + 1 = switches-next p.wire x.0 x.1 in
    record { tickets = omega (arith, rest.tickets, t); published = omega (arith, rest.published, n); consumers = omega (arith, rest.consumers, c); ackers = omega (arith, rest.ackers, a) }

-- a session that stands for a history has used at most one number of each counter an event
pub standing_numbers : (n m : ℕ) (h : History) (w : World) → Stands n h w → length h + m < 2 ^ 64 → HasNumbersFor m w
standing_numbers n m h w s few =
    let within = within_on (past n []) h in
    let t : w.wire.tickets ≡ (past n h).wire.tickets = ap (λ b. b.tickets) s.wire in
    let p : w.wire.published ≡ (past n h).wire.published = ap (λ b. b.published) s.wire in
    let c : length w.wire.deliveries.subscriptions.consumers ≡ length (past n h).wire.deliveries.subscriptions.consumers = ap (λ b. length b.deliveries.subscriptions.consumers) s.wire in
    let a : length w.wire.deliveries.switches ≡ length (past n h).wire.deliveries.switches = ap (λ b. length b.deliveries.switches) s.wire in
    record { tickets = omega (arith, within.tickets, t); confirms = omega (arith, within.published, p); consumers = omega (arith, within.consumers, c); ackers = omega (arith, within.ackers, a) }
