-- What waits for a consumer: a poll that gives an item takes one from it, and uses no number of a counter.
use Rattle.std.proofs.Common.{◌≡◌, ◌∙◌, ℕ, zero, suc, ◌+◌, ◌<◌, ◌^◌, true, List, [], ◌∷◌, length, Option, Some, None, refl, sym, ap, arith, slice_get, drop}
use Rattle.std.specs.Option.{option_map}
use Rattle.std.proofs.lemmas.Bool.{eq-eqb}
use Rattle.lapin_types.specs.declared.event.Event.TheVariants as event
use Rattle.lapin_consumer.specs.Subscriptions.{Consumer, Handed, Subscriptions, consumer_at, polled, answered, moved, after_mark}
use Rattle.lapin_consumer.specs.declared.state.ConsumerState.{ConsumerState}
use Rattle.lapin_consumer.specs.declared.state.ConsumerState.TheVariants as state
use Rattle.lapin_consumer.specs.Marks as mark
use Rattle.lapin_consumer.specs.Words.{map_at}
use Rattle.lapin_consumer.proofs.Places.{get-map_at, length-map_at}
use Rattle.lapin_rules.specs.Consumers.{item_record}
use Rattle.lapin_machine.specs.World.{World, told_by, next}
use Rattle.lapin_machine.specs.Numbers.{HasNumbersFor}
use Rattle.lapin_call.specs.Calls.{item_of, is_item, items_in, waiting_for}

-- the consumer after a poll of it
polled_at : (n : ℕ) (r : Subscriptions) → consumer_at n (after_mark r (mark.Polled n)) ≡ option_map polled (consumer_at n r)
polled_at zero r = refl
polled_at (suc p) r = get-map_at (moved (mark.Polled (suc p))) p r.consumers ∙ same (slice_get r.consumers p)
  where
    same : (o : Option Consumer) → option_map (moved (mark.Polled (suc p)) p) o ≡ option_map polled o
    same None = refl
    same (Some x) = rw (eq-eqb (suc p) (suc p) refl) refl

-- an item that a poll gives was the first that waited
one_less : (o : Option Consumer) → is_item (item_of (item_record (answered o))) ≡ true → length (items_in o) ≡ suc (length (items_in (option_map polled o)))
one_less None is = absurd cc
one_less (Some x) is = with_items x.state x.items is
  where
    with_items : (s : ConsumerState) (ys : List Handed) → is_item (item_of (item_record (answered (Some (record x { state = s; items = ys }))))) ≡ true → length ys ≡ suc (length (drop 1 ys))
    with_items s (y ∷ ys) is = refl
    with_items state.Active [] is = absurd cc
    with_items state.ActiveWithDelegate [] is = absurd cc
    with_items state.Canceling [] is = absurd cc
    with_items state.Canceled [] is = absurd cc

pub one_fewer : (n : ℕ) (w v : World) → v ≡ next w (event.PollConsumer n) → is_item (item_of (told_by w (event.PollConsumer n))) ≡ true → waiting_for n w.wire ≡ suc (waiting_for n v.wire)
one_fewer n w v stepped is =
    let there : waiting_for n v.wire ≡ length (items_in (option_map polled (consumer_at n w.wire.deliveries.subscriptions))) = ap (λ (x : World). waiting_for n x.wire) stepped ∙ ap (λ o. length (items_in o)) (polled_at n w.wire.deliveries.subscriptions) in
    one_less (consumer_at n w.wire.deliveries.subscriptions) is ∙ ap suc (sym there)

-- a poll uses no number
pub numbers_polled : (n m : ℕ) (w : World) → HasNumbersFor m w → HasNumbersFor m (next w (event.PollConsumer n))
numbers_polled n m w h =
    let c : length (map_at (moved (mark.Polled n)) w.wire.deliveries.subscriptions.consumers) ≡ length w.wire.deliveries.subscriptions.consumers = length-map_at (moved (mark.Polled n)) w.wire.deliveries.subscriptions.consumers in
    let some : length w.wire.deliveries.subscriptions.consumers + m < 2 ^ 64 = h.consumers in
    record { tickets = h.tickets; confirms = h.confirms; consumers = omega (arith, c, some); ackers = h.ackers }
