-- The consumers after the marks of an event: who was there, and who is registered now.
use Rattle.std.proofs.Common.{◌≡◌, ◌∙◌, ℕ, ◌+◌, ◌<◌, ◌==◌, Bool, true, false, ◌||◌, List, [], ◌∷◌, ◌++◌, inl, inr, refl, sym, ap, subst, append-nil, append_assoc, arith, eq-eqb}
use Rattle.std.specs.List.{list_any}
use Rattle.std.proofs.lemmas.Bool.Decides.{eqb_tells}
use Rattle.lapin_types.specs.Types.{Frame}
use Rattle.lapin_content.specs.Contents.{Expected}
use Rattle.lapin_consumer.specs.Readings.{Story, newcomer_story}
use Rattle.lapin_rules.specs.Words.{many}
use Rattle.lapin_delivery.specs.Deliveries.{consumer_marks}
use Rattle.lapin_delivery.specs.Marks.{DeliveryMark}
use Rattle.lapin_delivery.specs.Marks as deliveries
use Rattle.lapin_verdicts.specs.Deeds.{Deed}
use Rattle.lapin_verdicts.proofs.Marks.{many-append}
use Rattle.lapin_messages.specs.Openings.{begins, registers_as}
use Rattle.lapin_messages.proofs.Channel.{many_known, IsKnown, Channel, channel_mark}
use Rattle.lapin_messages.proofs.Deals.{ArePlain, is_plain, is_end, Shape, Plain, Registers, Delivers, Opens}
use Rattle.lapin_messages.proofs.Lists.{last_part, last-append}
use Rattle.lapin_messages.proofs.Logs.{At, Logs, logs-push}
use Rattle.lapin_messages.proofs.Stories.{From, Old, Fresh, from, brought_by, leaves_by}
use Rattle.std.proofs.lemmas.Bool.{both_ways}

-- ---- tags that are known stay known

pub known-append : (c : ℕ) (t : List ℕ) (ms X : List DeliveryMark) → many (begins c) X ≡ 0 → many_known c t (ms ++ X) ≡ many_known c t ms + many (registers_as c t) X
known-append c t ms X h = ap (many (registers_as c t)) (last-append (begins c) ms X h) ∙ many-append (registers_as c t) (last_part (begins c) ms) X

pub known-more : (c : ℕ) (t : List ℕ) (ms X : List DeliveryMark) → many (begins c) X ≡ 0 → IsKnown c ms t → IsKnown c (ms ++ X) t
known-more c t ms X h k = let e = known-append c t ms X h in omega (arith, k, e)

-- ---- who was there

pub record Was (ms X : List DeliveryMark) (p : ℕ) (s' : Story) : Type 0 where
  pub story : Story
  pub there : At ms p story
  pub channel : s'.channel ≡ story.channel
  pub registered : s'.registered ≡ true → story.registered ≡ true
  -- the end of its opening ends its registration
  pub left : list_any (is_end story.channel) X ≡ true → s'.registered ≡ true → ⊥

pub data Back (ms X : List DeliveryMark) (p : ℕ) (s' : Story) : Type 0 where
  Before : (was : Was ms X p s') → Back ms X p s'
  Now : (c : ℕ) (t q : List ℕ) (is : X ≡ deliveries.Consumed c t q ∷ []) (it : s' ≡ newcomer_story c t q) → Back ms X p s'

end_leaves : (x : DeliveryMark) (s : Story) → is_end s.channel x ≡ true → s.registered ≡ true → leaves_by (consumer_marks x) s ≡ true
end_leaves (deliveries.Ended d e) s h r = elim (eqb_tells d s.channel) [ inl y ↦ rw (r, eq-eqb s.channel d (sym y.1)) refl | inr n ↦ absurd (both_ways _ n.0 h) ]
end_leaves (deliveries.Consumed c t q) s h r = absurd cc
end_leaves _ s h r = absurd cc

plain_no : (x : DeliveryMark) (c : ℕ) (t q : List ℕ) → is_plain x ≡ true → x ≡ deliveries.Consumed c t q → ⊥
plain_no x c t q h e = both_ways _ (ap is_plain e) h

plain_was : (X : List DeliveryMark) → ArePlain X → (ms : List DeliveryMark) (p : ℕ) (s' : Story) → At (ms ++ X) p s' → Was ms X p s'
plain_was [] pl ms p s' at = record { story = s'; there = subst (λ v. At v p s') (append-nil ms) at; channel = refl; registered = λ r. r; left = λ e. absurd cc }
plain_was (x ∷ X) pl ms p s' at =
    let w : Was (ms ++ x ∷ []) X p s' = plain_was X pl.1 (ms ++ x ∷ []) p s' (subst (λ v. At v p s') (sym (append_assoc ms (x ∷ []) X)) at) in
    first w (from ms x p w.story w.there)
  where
    either : (u v : Bool) → (u || v) ≡ true → (P : Type 0) → (u ≡ true → P) → (v ≡ true → P) → P
    either true v h P f g = f refl
    either false v h P f g = g h

    first : (w : Was (ms ++ x ∷ []) X p s') → From ms x p w.story → Was ms (x ∷ X) p s'
    first w (Old s at0 b) = record {
      story = s;
      there = at0;
      channel = w.channel ∙ b.channel;
      registered = λ r. b.registered (w.registered r);
      left = λ e r. either (is_end s.channel x) (list_any (is_end s.channel) X) e ⊥
          (λ here. both_ways _ (b.left (end_leaves x s here (b.registered (w.registered r)))) (w.registered r))
          (λ later. w.left (subst (λ c. list_any (is_end c) X ≡ true) (sym b.channel) later) r);
    }
    first w (Fresh c t q is last it) = absurd (plain_no x c t q pl.0 is)

-- a mark alone
one_back : (x : DeliveryMark) (ms : List DeliveryMark) (p : ℕ) (s' : Story) → ((c : ℕ) → is_end c x ≡ false) → At (ms ++ x ∷ []) p s' → Back ms (x ∷ []) p s'
one_back x ms p s' n at = elim (from ms x p s' at) as (λ _. Back ms (x ∷ []) p s') [
  | Old s at0 b ↦ Before (record { story = s; there = at0; channel = b.channel; registered = b.registered; left = λ e r. both_ways (is_end s.channel x || false) (ap (λ v. v || false) (n s.channel)) e })
  | Fresh c t q is last it ↦ Now c t q (ap (λ v. v ∷ []) is) it
]

pub back : (v : Bool) (X : List DeliveryMark) → Shape v X → (ms : List DeliveryMark) (p : ℕ) (s' : Story) → At (ms ++ X) p s' → Back ms X p s'
back v X (Plain pl) ms p s' at = Before (plain_was X pl ms p s' at)
back v X (Registers c t q is) ms p s' at = subst (λ Y. At (ms ++ Y) p s' → Back ms Y p s') (sym is) (one_back (deliveries.Consumed c t q) ms p s' (λ d. refl)) at
back v X (Delivers k d is by) ms p s' at = subst (λ Y. At (ms ++ Y) p s' → Back ms Y p s') (sym is) (one_back (deliveries.Delivered k d) ms p s' (λ d. refl)) at
back v X (Opens c is) ms p s' at = subst (λ Y. At (ms ++ Y) p s' → Back ms Y p s') (sym is) (one_back (deliveries.Opened c) ms p s' (λ d. refl)) at

-- ---- logs and channels, where nothing is handed

plain_unbegun : (x : DeliveryMark) (c : ℕ) → is_plain x ≡ true → begins c x ≡ false
plain_unbegun (deliveries.Opened d) c h = absurd cc
plain_unbegun x c h = refl

plain_quiet : (x : DeliveryMark) (p : ℕ) (s : Story) → is_plain x ≡ true → brought_by (consumer_marks x) p s ≡ []
plain_quiet (deliveries.Delivered k d) p s h = absurd cc
plain_quiet (deliveries.Consumed c t q) p s h = absurd cc
plain_quiet x p s h = refl

plain_logs : (X : List DeliveryMark) → ArePlain X → (ms : List DeliveryMark) (ds : List Deed) → Logs ms ds → Logs (ms ++ X) ds
plain_logs [] pl ms ds l = subst (λ v. Logs v ds) (sym (append-nil ms)) l
plain_logs (x ∷ X) pl ms ds l = subst (λ v. Logs v ds) (append_assoc ms (x ∷ []) X) (plain_logs X pl.1 (ms ++ x ∷ []) ds (logs-push ms ds x l (λ c p s b. absurd (both_ways _ (plain_unbegun x c pl.0) b)) (λ c t q e. absurd (plain_no x c t q pl.0 e)) (λ p s s' at b n. absurd (n (plain_quiet x p s pl.0)))))

-- an opening begins where no consumer of its channel is registered, and a consumer is registered in one
pub logs_event : (v : Bool) (X : List DeliveryMark) → Shape v X → v ≡ false → (ms : List DeliveryMark) (ds : List Deed) → ((c p : ℕ) (s : Story) → 0 < many (begins c) X → At ms p s → s.registered ≡ true → s.channel ≡ c → ⊥) → ((c : ℕ) (t q : List ℕ) → X ≡ deliveries.Consumed c t q ∷ [] → 0 < many (begins c) ms) → Logs ms ds → Logs (ms ++ X) ds
logs_event v X (Plain pl) f ms ds opens registers l = plain_logs X pl ms ds l
logs_event v X (Delivers k d is by) f ms ds opens registers l = absurd (both_ways v f by)
logs_event v X (Registers c t q is) f ms ds opens registers l = subst (λ Y. Logs (ms ++ Y) ds) (sym is) (logs-push ms ds (deliveries.Consumed c t q) l (λ d p s b. absurd cc) (λ d u r e. registers d u r (is ∙ ap (λ y. y ∷ []) e)) (λ p s s' at b n. absurd (n refl)))
logs_event v X (Opens c is) f ms ds opens registers l = subst (λ Y. Logs (ms ++ Y) ds) (sym is) (logs-push ms ds (deliveries.Opened c) l (λ d p s b at r on. opens d p s (one d b) at r on) (λ d u r e. absurd cc) (λ p s s' at b n. absurd (n refl)))
  where
    one : (d : ℕ) → begins d (deliveries.Opened c) ≡ true → 0 < many (begins d) X
    one d b = subst (λ Y. 0 < many (begins d) Y) (sym is) (let z : many (begins d) (deliveries.Opened c ∷ []) ≡ 1 = rw b refl in omega (arith, z))

plain_channel : (c : ℕ) (X : List DeliveryMark) → ArePlain X → (ms : List DeliveryMark) (es : List Expected) (came : List Frame) → Channel c ms es came → Channel c (ms ++ X) es came
plain_channel c [] pl ms es came h = subst (λ v. Channel c v es came) (sym (append-nil ms)) h
plain_channel c (x ∷ X) pl ms es came h = subst (λ v. Channel c v es came) (append_assoc ms (x ∷ []) X) (plain_channel c X pl.1 (ms ++ x ∷ []) es came (channel_mark c ms x (plain_unbegun x c pl.0) es came (λ p s at on. plain_quiet x p s pl.0) h))

pub channel_event : (c : ℕ) (v : Bool) (X : List DeliveryMark) → Shape v X → v ≡ false → many (begins c) X ≡ 0 → (ms : List DeliveryMark) (es : List Expected) (came : List Frame) → Channel c ms es came → Channel c (ms ++ X) es came
channel_event c v X (Plain pl) f z ms es came h = plain_channel c X pl ms es came h
channel_event c v X (Delivers k d is by) f z ms es came h = absurd (both_ways v f by)
channel_event c v X (Registers d t q is) f z ms es came h = subst (λ Y. Channel c (ms ++ Y) es came) (sym is) (channel_mark c ms (deliveries.Consumed d t q) refl es came (λ p s at on. refl) h)
channel_event c v X (Opens d is) f z ms es came h = subst (λ Y. Channel c (ms ++ Y) es came) (sym is) (channel_mark c ms (deliveries.Opened d) off es came (λ p s at on. refl) h)
  where
    off : begins c (deliveries.Opened d) ≡ false
    off = elim (d == c) as (λ b. (d == c) ≡ b → b ≡ false) [
      | true ↦ λ e. (let one : many (begins c) (deliveries.Opened d ∷ []) ≡ 1 = rw e refl in let none : many (begins c) (deliveries.Opened d ∷ []) ≡ 0 = sym (ap (many (begins c)) is) ∙ z in let w : ⊥ = omega (arith, one, none) in absurd w)
      | false ↦ λ e. refl
    ] refl
