-- A watch follows the frames that came before a place: its broker is what they led to, and its counts are how many opens were read.
use Rattle.std.proofs.Common.{◌≡◌, ℕ, suc, Bool, true, false, List, [], ◌∷◌, ◌++◌, refl, sym, ap, ◌∙◌}
use Rattle.lapin_broker.specs.States.{Broker, new_broker}
use Rattle.lapin_broker.specs.Frames.{channel_of}
use Rattle.lapin_check.specs.declared.seen.Seen.{Seen}
use Rattle.lapin_check.specs.declared.seen.Seen.TheVariants as seen
use Rattle.lapin_check.specs.Finding.{after_seen}
use Rattle.lapin_check.specs.Openings.{opens, opens_channel, broker_from, broker_after, opened_from, opened}
use Rattle.lapin_check.specs.Marks.{Watch, new_watch, count_at, opens_after, IsAfter}
use Rattle.lapin_check.proofs.Counts.{more_if, counted_if}

pub record Follows (frame_max : ℕ) (past : List Seen) (w : Watch) : Type 0 where
  pub broker : w.broker ≡ broker_after frame_max past
  pub opens : (c : ℕ) → count_at c w.opens ≡ opened frame_max past c

broker-push : (b : Broker) (past : List Seen) (x : Seen) → broker_from b (past ++ x ∷ []) ≡ after_seen x (broker_from b past)
broker-push b [] x = refl
broker-push b (y ∷ ys) x = broker-push (after_seen y b) ys x

opened-push : (c : ℕ) (b : Broker) (past : List Seen) (x : Seen) → opened_from c b (past ++ x ∷ []) ≡ more_if (opens_channel c (broker_from b past) x) (opened_from c b past)
opened-push c b [] x = refl
opened-push c b (y ∷ ys) x = swapped (opens_channel c b y) (opens_channel c (broker_from (after_seen y b) ys) x) _ _ (opened-push c (after_seen y b) ys x)
  where
    swapped : (here last : Bool) (all rest : ℕ) → all ≡ more_if last rest → more_if here all ≡ more_if last (more_if here rest)
    swapped true true all rest e = ap suc e
    swapped true false all rest e = ap suc e
    swapped false last all rest e = e

opens-next : (c : ℕ) (x : Seen) (w : Watch) → count_at c (opens_after x w) ≡ more_if (opens_channel c w.broker x) (count_at c w.opens)
opens-next c (seen.Up f) w = counted_if (opens w.broker f) (channel_of f) c w.opens
opens-next c (seen.Down f) w = refl

pub follows-new : (m : ℕ) → Follows m [] (new_watch m)
follows-new m = record { broker = refl; opens = λ c. refl }

pub follows-next : (m : ℕ) (past : List Seen) (x : Seen) (w v : Watch) → Follows m past w → IsAfter x w v → Follows m (past ++ x ∷ []) v
follows-next m past x w v h after = record {
  broker = after.broker ∙ ap (after_seen x) h.broker ∙ sym (broker-push (new_broker m) past x);
  opens = λ c.
      ap (count_at c) after.opens
      ∙ opens-next c x w
      ∙ ap (more_if (opens_channel c w.broker x)) (h.opens c)
      ∙ ap (λ (b : Broker). more_if (opens_channel c b x) (opened m past c)) h.broker
      ∙ sym (opened-push c (new_broker m) past x);
}
