-- A poll takes no number, and a publish takes the next one of its session.
use Rattle.std.proofs.Common.{◌≡◌, inl, inr, ℕ, ◌+◌, ◌<◌, ◌≤◌, ◌==◌, Bool, true, false, cond, not, ◌&&◌, Option, Some, None, refl, arith}
use Rattle.std.specs.Prelude.{Result, Ok, Err}
use Rattle.lapin_types.specs.declared.confirmation.Confirmation.{Confirmation}
use Rattle.lapin_types.specs.declared.confirmation.Confirmation.TheVariants as confirmation
use Rattle.lapin_types.specs.declared.event.Event.TheVariants as event
use Rattle.lapin_types.specs.declared.record.Record.{Record}
use Rattle.lapin_types.specs.declared.record.Record.TheVariants as record_
use Rattle.lapin_types.specs.Types.{Error}
use Rattle.lapin_rules.specs.Asking.{after_call}
use Rattle.lapin_rules.specs.Calls.{asked}
use Rattle.lapin_rules.specs.Wire.{Wire, state_of, is_open}
use Rattle.lapin_machine.specs.World.{World, next, told_by}
use Rattle.lapin_keeping.specs.declared.fate.Fate.TheVariants as fate
use Rattle.lapin_keeping.specs.declared.kept.Kept.{Kept}
use Rattle.lapin_keeping.specs.Fates.{blame, of_blame, of_result, tried, waits}
use Rattle.lapin_publisher.specs.declared.turn.Turn.{Turn}
use Rattle.lapin_publisher.specs.Opening.{called}
use Rattle.lapin_publisher.specs.Polls.{Polling, poll_one, poll_at, of_record}
use Rattle.lapin_publisher.specs.Publishes.{Placing, placed, waiting_placed, goes, stays, room_taken, publish_of, publishing, published_one, confirm_of}
use Rattle.lapin_publisher.proofs.Numbering.{Comes}
use Rattle.lapin_publisher.proofs.Rising.{count, event_counts, aside_counts, called_counts}

-- ---- a poll

either_none : (b : Bool) (k l : Kept) → k.outstanding ≡ None → l.outstanding ≡ None → (cond b k l).outstanding ≡ None
either_none true k l one other = one
either_none false k l one other = other

blamed_none : (o : Option ℕ) (k : Kept) → (of_blame o k).outstanding ≡ None
blamed_none None k = refl
blamed_none (Some code) k = either_none k.suspect (tried (fate.Closed code) k) (record k { outstanding = None; suspect = true }) refl refl

result_none : (r : Result Confirmation Error) (k : Kept) → (of_result r k).outstanding ≡ None
result_none (Ok (confirmation.Ack m)) k = either_none k.came_back (tried fate.Returned k) (record k { outstanding = None; fate = Some fate.Stored }) refl refl
result_none (Ok (confirmation.Nack m)) k = refl
result_none (Ok confirmation.NotRequested) k = refl
result_none (Err e) k = blamed_none (blame e) k

polled_same : (r : Record) (k : Kept) (i : ℕ) → (of_record r k).outstanding ≡ Some i → k.outstanding ≡ Some i
polled_same (record_.Confirmed r) k i h = let none : (of_result r k).outstanding ≡ None = result_none r k in absurd cc
polled_same record_.Pending k i h = h
polled_same _ k i h = absurd cc

-- how many publishes the session of the polls accepted
abbrev pub polls_counted : Polling → ℕ
polls_counted p = count p.0

pub poll_takes : (p : Polling) (k : Kept) → Comes (polls_counted p) (polls_counted (poll_one p k).1) k (poll_one p k).0 × (polls_counted p ≤ polls_counted (poll_one p k).1)
poll_takes p k = at k.outstanding
  where
    at : (o : Option ℕ) → Comes (polls_counted p) (polls_counted (poll_at p k o).1) k (poll_at p k o).0 × (polls_counted p ≤ polls_counted (poll_at p k o).1)
    at None = (λ i is. inl is, omega arith)
    at (Some c) = (λ i is. inl (polled_same (told_by p.0 (event.PollConfirm c)) k i is), event_counts p.0 (event.PollConfirm c))

-- ---- a publish

inside : (k i : ℕ) → Some k ≡ Some i → k ≡ i
inside k i e = cc

-- the record of a publish, and how many are accepted then
numbered : (b : Bool) (t p i : ℕ) (r : Record) (x y : Wire) → confirm_of (cond b (record_.Publish t (p + 1)) r) ≡ Some i → confirm_of r ≡ None → x.published ≡ p + 1 → (p < i) × (i ≤ (cond b x y).published)
numbered true t p i r x y is none more = let same : p + 1 ≡ i = inside (p + 1) i is in (omega (arith, same), omega (arith, same, more))
numbered false t p i r x y is none more = absurd cc

published_next : (c : ℕ) (w : World) (k : Kept) (i : ℕ) → confirm_of (told_by w (publishing c k)) ≡ Some i → (count w < i) × (i ≤ count (next w (publishing c k)))
published_next c w k i is = numbered (is_open (state_of c w.wire)) (w.wire.tickets + 1) w.wire.published i _ (after_call c (asked (publish_of k.message)) w.wire) w.wire is refl refl

published_takes : (c : ℕ) (w : World) (k : Kept) (i : ℕ) → (published_one c w k).0.outstanding ≡ Some i → (count w < i) × (i ≤ count (called c (publish_of k.message) w))
published_takes c w k i is =
    let one : (count w < i) × (i ≤ count (next w (publishing c k))) = published_next c w k i is in
    let two : count (next w (publishing c k)) ≤ count (called c (publish_of k.message) w) = aside_counts (told_by w (publishing c k)) (next w (publishing c k)) in
    (one.0, omega (arith, one.1, two))

-- how many publishes the session of the places accepted
abbrev pub places_counted : Placing → ℕ
places_counted p = count p.0

abbrev Takes : Placing → Kept → Kept × Placing → Type 0
Takes p k q = Comes (places_counted p) (places_counted q.1) k q.0 × (places_counted p ≤ places_counted q.1)

chosen : (b : Bool) (p : Placing) (k : Kept) (x y : Kept × Placing) → Takes p k x → Takes p k y → Takes p k (cond b x y)
chosen true p k x y one other = one
chosen false p k x y one other = other

stays_takes : (p : Placing) (k : Kept) → Takes p k (stays p k)
stays_takes p k = (λ i is. inl is, omega arith)

goes_takes : (c : ℕ) (p : Placing) (k : Kept) → Takes p k (goes c p k)
goes_takes c p k = (λ i is. inr (published_takes c p.0 k i is), called_counts c (publish_of k.message) p.0)

waiting_takes : (t : Turn) (p : Placing) (k : Kept) → Takes p k (waiting_placed t p k)
waiting_takes t p k =
    chosen (k.failed && not t.retry) p k (stays p k) (cond (k.suspect && p.1.taken) (k, (p.0, record p.1 { left = 0 })) (goes t.channel p k)) (stays_takes p k)
    (chosen (k.suspect && p.1.taken) p k (k, (p.0, record p.1 { left = 0 })) (goes t.channel p k) (λ i is. inl is, omega arith) (goes_takes t.channel p k))

pub placed_takes : (t : Turn) (p : Placing) (k : Kept) → Comes (places_counted p) (places_counted (placed t p k).1) k (placed t p k).0 × (places_counted p ≤ places_counted (placed t p k).1)
placed_takes t p k =
    chosen (p.1.left == 0) p k (stays p k) (cond (waits k) (waiting_placed t p k) (k, (p.0, room_taken k p.1))) (stays_takes p k)
    (chosen (waits k) p k (waiting_placed t p k) (k, (p.0, room_taken k p.1)) (waiting_takes t p k) (λ i is. inl is, omega arith))
