-- How many publishes a session accepted never falls, and a publish takes the next number.
use Rattle.std.proofs.Common.{◌≡◌, ℕ, ◌≤◌, Bool, true, false, cond, Option, Some, None, arith}
use Rattle.lapin_types.specs.declared.acker_call.AckerCall.{AckerCall}
use Rattle.lapin_types.specs.declared.call.Call.{Call}
use Rattle.lapin_types.specs.declared.event.Event.{Event}
use Rattle.lapin_types.specs.declared.event.Event.TheVariants as event
use Rattle.lapin_types.specs.declared.leaving.Left.{Left}
use Rattle.lapin_types.specs.declared.record.Record.{Record}
use Rattle.lapin_types.specs.declared.record.Record.TheVariants as record_
use Rattle.lapin_consumer.specs.Subscriptions.{consumer_at}
use Rattle.lapin_rules.specs.declared.calls.Asked.{Asked}
use Rattle.lapin_rules.specs.declared.calls.Asked.TheVariants as ask
use Rattle.lapin_rules.specs.Ackers.{acker_asked, usable_at, acked_wire}
use Rattle.lapin_rules.specs.Asking.{asked_by, is_allowed, after_call, asked_wire}
use Rattle.lapin_rules.specs.Consumers.{after_drop}
use Rattle.lapin_rules.specs.Events.{after_event}
use Rattle.lapin_rules.specs.Handing.{after_next}
use Rattle.lapin_rules.specs.Incoming.{incoming_of}
use Rattle.lapin_rules.specs.Loss.{after_lost}
use Rattle.lapin_rules.specs.Receiving.{after_incoming}
use Rattle.lapin_rules.specs.Wire.{Wire, state_of}
use Rattle.lapin_machine.specs.Returned.{given_back}
use Rattle.lapin_machine.specs.World.{World, next, next_or, next_anew, told_anew, told_by}
use Rattle.lapin_machine.proofs.Counting.{incoming_counts, lost_counts, next_counts, let_go_counts}
use Rattle.lapin_publisher.specs.Opening.{set_aside, called}

choose_rises : (t : Bool) (x y b : Wire) → b.published ≤ x.published → b.published ≤ y.published → b.published ≤ (cond t x y).published
choose_rises true x y b h k = h
choose_rises false x y b h k = k

call_rises : (c : ℕ) (k : Asked) (b : Wire) → b.published ≤ (after_call c k b).published
call_rises c ask.Open b = omega arith
call_rises c (ask.CloseChannel code text) b = omega arith
call_rises c (ask.CloseConnection code text) b = omega arith
call_rises c (ask.Method row) b = omega arith
call_rises c (ask.Consume m tag queue o) b = omega arith
call_rises c (ask.Limit limit) b = omega arith
call_rises c ask.Nothing b = omega arith
call_rises c (ask.Publish exchange key o payload properties) b = omega arith

asked_rises : (c : ℕ) (k : Asked) (b : Wire) → b.published ≤ (asked_wire c k b).published
asked_rises c k b = choose_rises (is_allowed k (state_of c b)) (after_call c k b) b b (call_rises c k b) (omega arith)

acked_rises : (o : Option (ℕ × ℕ)) (k : AckerCall) (b : Wire) → b.published ≤ (acked_wire o k b).published
acked_rises None k b = omega arith
acked_rises (Some x) k b = asked_rises x.0 (acker_asked k x.1) b

event_rises : (b : Wire) (e : Event) (r : Record) → b.published ≤ (after_event b e r).published
event_rises b (event.Call c k) r = asked_rises c (asked_by k r) b
event_rises b (event.Next flow) r = let same : (after_next r b).published ≡ b.published = (next_counts r b).1 in omega (arith, same)
event_rises b (event.Receive f) r = let same : (after_incoming (incoming_of f) r b).published ≡ b.published = (incoming_counts (incoming_of f) r b).1 in omega (arith, same)
event_rises b (event.Acker n k) r = acked_rises (usable_at n b) k b
event_rises b (event.DropConsumer n) r = let same : (after_drop n b).published ≡ b.published = (let_go_counts (consumer_at n b.deliveries.subscriptions) b).1 in omega (arith, same)
event_rises b event.Lost r = let same : (after_lost b).published ≡ b.published = (lost_counts b).1 in omega (arith, same)
event_rises b _ r = omega arith

-- how many a session accepted
abbrev pub count : World → ℕ
count w = w.wire.published

rises_or : (o : Option Left) (new w : World) → count w ≤ count new → count w ≤ count (next_or o new w)
rises_or None new w h = h
rises_or (Some l) new w h = omega arith

pub event_counts : (w : World) (e : Event) → count w ≤ count (next w e)
event_counts w e = rises_or (given_back w.returned e) (next_anew w e) w (event_rises w.wire e (told_anew w e))

pub aside_counts : (r : Record) (w : World) → count w ≤ count (set_aside r w)
aside_counts (record_.Publish ticket confirm) w = event_counts w (event.AsideTicket ticket)
aside_counts (record_.Ticket ticket) w = event_counts w (event.AsideTicket ticket)
aside_counts _ w = omega arith

pub called_counts : (c : ℕ) (k : Call) (w : World) → count w ≤ count (called c k w)
called_counts c k w =
    let one : count w ≤ count (next w (event.Call c k)) = event_counts w (event.Call c k) in
    let two : count (next w (event.Call c k)) ≤ count (called c k w) = aside_counts (told_by w (event.Call c k)) (next w (event.Call c k)) in
    omega (arith, one, two)
