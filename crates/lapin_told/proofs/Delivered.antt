-- What happens to consumers and ackers leaves their channels and tags as they are, and what joins them fits.
use Rattle.std.proofs.Common.{ℕ, suc, ◌==◌, List, [], ◌∷◌, ◌++◌}
use Rattle.std.specs.List.{AllByRecursion as Each, fold}
use Rattle.lapin_acker.specs.declared.switch.Switch.{Switch}
use Rattle.lapin_acker.specs.declared.switch.Switch.TheVariants as switch
use Rattle.lapin_acker.specs.Marks.{AckerMark}
use Rattle.lapin_acker.specs.Marks as acker
use Rattle.lapin_acker.specs.Switches as switches
use Rattle.lapin_consumer.specs.Marks.{ConsumerMark}
use Rattle.lapin_consumer.specs.Marks as consumer
use Rattle.lapin_consumer.specs.Words.{map_at}
use Rattle.lapin_consumer.specs.Subscriptions.{Consumer, Subscriptions, Handed, is_marked, handed, becomes, concerns, moved, joined, newcomer, last_words}
use Rattle.lapin_consumer.specs.Subscriptions as subscriptions
use Rattle.lapin_delivery.specs.Deliveries.{Deliveries, consumer_marks, acker_marks, after_mark}
use Rattle.lapin_delivery.specs.Marks.{DeliveryMark}
use Rattle.lapin_delivery.specs.Marks as mark
use Rattle.lapin_told.proofs.Each.{chosen, each_append}
use Rattle.lapin_told.proofs.Fitting.{Short, Wide, Text, ConsumerFits, SwitchFits, DeliveriesFit}

-- what joins fits
abbrev pub MarkFits : DeliveryMark → Type 0
MarkFits (mark.Consumed c tag queue) = Short c × Text tag
MarkFits (mark.Delivered k d) = Short d.acker.channel_id × Wide d.acker.delivery_tag
MarkFits (mark.Got c tag) = Short c × Wide tag
MarkFits _ = Unit {0}

-- ---- consumers

abbrev Joins : ConsumerMark → Type 0
Joins (consumer.Registered c tag queue) = Short c × Text tag
Joins _ = Unit {0}

handed_fits : (ys : List Handed) (x : Consumer) → ConsumerFits x → ConsumerFits (handed ys x)
handed_fits ys x h = chosen ConsumerFits (is_marked x.state) x (record x { items = x.items ++ ys }) h h

becomes_fits : (m : ConsumerMark) (x : Consumer) → ConsumerFits x → ConsumerFits (becomes m x)
becomes_fits (consumer.Completed k d) x h = handed_fits _ x h
becomes_fits (consumer.Canceled c tag) x h = handed_fits _ x h
becomes_fits (consumer.Ended c e) x h = handed_fits (last_words e) x h
becomes_fits _ x h = h

map_each : {X : Type 0} (P : X → Type 0) (f : ℕ → X → X) → ((i : ℕ) (x : X) → P x → P (f i x)) → (xs : List X) → Each P xs → Each P (map_at f xs)
map_each P f k [] h = tt
map_each P f k (x ∷ xs) h = (k 0 x h.0, map_each P (λ i. f (suc i)) (λ i. k (suc i)) xs h.1)

moved_fits : (m : ConsumerMark) (i : ℕ) (x : Consumer) → ConsumerFits x → ConsumerFits (moved m i x)
moved_fits m i x h = chosen ConsumerFits (concerns m (suc i) x) (becomes m x) x (becomes_fits m x h) h

joined_fits : (m : ConsumerMark) (xs : List Consumer) → Joins m → Each ConsumerFits xs → Each ConsumerFits (joined m xs)
joined_fits (consumer.Registered c tag queue) xs j h = each_append ConsumerFits xs (newcomer c tag queue ∷ []) h (j, tt)
joined_fits _ xs j h = h

consumers_fit : (ms : List ConsumerMark) (r : Subscriptions) → Each Joins ms → Each ConsumerFits r.consumers → Each ConsumerFits (fold subscriptions.after_mark r ms).consumers
consumers_fit [] r j h = h
consumers_fit (m ∷ ms) r j h = consumers_fit ms (subscriptions.after_mark r m) j.1 (joined_fits m (map_at (moved m) r.consumers) j.0 (map_each ConsumerFits (moved m) (moved_fits m) r.consumers h))

-- ---- ackers

abbrev Adds : AckerMark → Type 0
Adds (acker.Added c o tag) = Short c × Wide tag
Adds _ = Unit {0}

used_fits : (s : Switch) → SwitchFits s → SwitchFits (switches.used s)
used_fits (switch.Usable c t) h = tt
used_fits (switch.Used c) h = tt
used_fits switch.Over h = tt

over_fits : (c : ℕ) (s : Switch) → SwitchFits s → SwitchFits (switches.over_on c s)
over_fits c (switch.Usable d t) h = chosen SwitchFits (d == c) switch.Over (switch.Usable d t) tt h
over_fits c (switch.Used d) h = chosen SwitchFits (d == c) switch.Over (switch.Used d) tt tt
over_fits c switch.Over h = tt

turned_fits : (m : AckerMark) (n : ℕ) (s : Switch) → SwitchFits s → SwitchFits (switches.moved m n s)
turned_fits (acker.Added c o tag) n s h = h
turned_fits (acker.Spent k) n s h = chosen SwitchFits (k == n) (switches.used s) s (used_fits s h) h
turned_fits (acker.Voided ks) n s h = chosen SwitchFits (switches.names ks n) (switches.used s) s (used_fits s h) h
turned_fits (acker.Ended c) n s h = over_fits c s h

numbered_each : (i : ℕ) (m : AckerMark) (ss : List Switch) → Each SwitchFits ss → Each SwitchFits (switches.map_numbered i (switches.moved m) ss)
numbered_each i m [] h = tt
numbered_each i m (s ∷ ss) h = (turned_fits m (suc i) s h.0, numbered_each (suc i) m ss h.1)

added_fits : (m : AckerMark) (ss : List Switch) → Adds m → Each SwitchFits ss → Each SwitchFits (switches.joined m ss)
added_fits (acker.Added c o tag) ss a h = each_append SwitchFits ss (switch.Usable c tag ∷ []) h (a, tt)
added_fits _ ss a h = h

switches_fit : (ms : List AckerMark) (ss : List Switch) → Each Adds ms → Each SwitchFits ss → Each SwitchFits (fold switches.after_mark ss ms)
switches_fit [] ss a h = h
switches_fit (m ∷ ms) ss a h = switches_fit ms (switches.after_mark ss m) a.1 (added_fits m (switches.map_numbered 0 (switches.moved m) ss) a.0 (numbered_each 0 m ss h))

-- ---- both

joins : (m : DeliveryMark) → MarkFits m → Each Joins (consumer_marks m)
joins (mark.Consumed c tag queue) h = (h, tt)
joins (mark.Got c tag) h = tt
joins (mark.Spent n) h = tt
joins (mark.Opened c) h = tt
joins (mark.Completed c r a) h = tt
joins _ h = (tt, tt)

adds : (i : Deliveries) (m : DeliveryMark) → MarkFits m → Each Adds (acker_marks i m)
adds i (mark.Delivered k d) h = (h, tt)
adds i (mark.Got c tag) h = (h, tt)
adds i (mark.Ended c e) h = (tt, tt)
adds i (mark.Discarded c) h = (tt, tt)
adds i (mark.Spent n) h = (tt, tt)
adds i _ h = tt

pub deliveries_fit : (ms : List DeliveryMark) (i : Deliveries) → Each MarkFits ms → DeliveriesFit i → DeliveriesFit (fold after_mark i ms)
deliveries_fit [] i f h = h
deliveries_fit (m ∷ ms) i f h = deliveries_fit ms (after_mark i m) f.1 (consumers_fit (consumer_marks m) i.subscriptions (joins m f.0) h.0, switches_fit (acker_marks i m) i.switches (adds i m f.0) h.1)
