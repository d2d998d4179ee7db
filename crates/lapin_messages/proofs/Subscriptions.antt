-- Who is found under a tag, and who is registered, of the consumers that a history gives.
use Rattle.std.proofs.Common.{◌≡◌, ◌∙◌, ℕ, zero, suc, ◌==◌, true, false, List, [], ◌∷◌, map, Option, Some, None, inl, inr, refl, sym, ap, slice_get, eq-eqb}
use Rattle.std.specs.Option.{option_map}
use Rattle.std.proofs.lemmas.Bool.{and_parts}
use Rattle.std.proofs.lemmas.Bool.Decides.{eqb_tells}
use Rattle.lapin_broker.specs.Tags.{same_text}
use Rattle.lapin_consumer.specs.Readings.{Story, seen}
use Rattle.lapin_consumer.specs.Subscriptions.{Consumer, Subscriptions, registered_in, is_registered, is_on, is_under, place_under, found}
use Rattle.lapin_consumer.proofs.Found.{Placed, first_placed, unplaced}
use Rattle.lapin_delivery.specs.Marks.{DeliveryMark}
use Rattle.lapin_verdicts.specs.Deeds.{Deed}
use Rattle.lapin_messages.proofs.Logs.{At, Logs, text-is, text-same}
use Rattle.lapin_messages.proofs.Stories.{stories_of}

-- the subscriptions shows the consumers of this history
abbrev pub Shows : List DeliveryMark → Subscriptions → Type 0
Shows ms r = r.consumers ≡ map seen (stories_of ms)

get-seen : (ss : List Story) (p : ℕ) → slice_get (map seen ss) p ≡ option_map seen (slice_get ss p)
get-seen [] p = refl
get-seen (s ∷ ss) zero = refl
get-seen (s ∷ ss) (suc p) = get-seen ss p

seen_at : (ms : List DeliveryMark) (p : ℕ) (s : Story) → At ms p s → slice_get (map seen (stories_of ms)) p ≡ Some (seen s)
seen_at ms p s at = get-seen (stories_of ms) p ∙ ap (option_map seen) at

unseen : (o : Option Story) (x : Consumer) → option_map seen o ≡ Some x → (s : Story) × (o ≡ Some s) × (seen s ≡ x)
unseen None x h = absurd cc
unseen (Some s) x h = (s, refl, (let e : seen s ≡ x = cc in e))

-- a consumer that is registered here under the tag
under_parts : (c : ℕ) (t : List ℕ) (s : Story) → is_under c t (seen s) ≡ true → (s.registered ≡ true) × (s.channel ≡ c) × (s.tag ≡ t)
under_parts c t s h =
    let both = and_parts (is_on c (seen s)) (same_text s.tag t) h in
    let on = and_parts s.registered (s.channel == c) both.0 in
    (on.0, (elim (eqb_tells s.channel c) [ inl y ↦ y.1 | inr n ↦ let z : true ≡ false = sym on.1 ∙ n.0 in absurd cc ]), text-is s.tag t both.1)

under_all : (c : ℕ) (t : List ℕ) (s : Story) → s.registered ≡ true → s.channel ≡ c → s.tag ≡ t → is_under c t (seen s) ≡ true
under_all c t s r on tag = rw (r, eq-eqb s.channel c on, text-same s.tag t tag) refl

module _ (ms : List DeliveryMark) (ds : List Deed) (r : Subscriptions) (l : Logs ms ds) (shows : Shows ms r) where
  -- who is found
  pub who : (c k : ℕ) (t : List ℕ) → found c t r ≡ Some k → (p : ℕ) × (s : Story) × (k ≡ suc p) × At ms p s × (s.registered ≡ true) × (s.channel ≡ c) × (s.tag ≡ t)
  who c k t h = by (place_under c t r.consumers) refl h
    where
      by : (o : Option ℕ) → place_under c t r.consumers ≡ o → option_map suc o ≡ Some k → (p : ℕ) × (s : Story) × (k ≡ suc p) × At ms p s × (s.registered ≡ true) × (s.channel ≡ c) × (s.tag ≡ t)
      by None e g = absurd cc
      by (Some p) e g =
          let at : Placed (λ _ x. is_under c t x) p r.consumers = first_placed (λ _ x. is_under c t x) p r.consumers e in
          let there = unseen (slice_get (stories_of ms) p) at.element (sym (get-seen (stories_of ms) p) ∙ (ap (λ xs. slice_get xs p) (sym shows) ∙ at.there)) in
          let parts = under_parts c t there.0 (ap (is_under c t) there.2 ∙ at.passes) in
          let k_is : k ≡ suc p = (let z : suc p ≡ k = cc in sym z) in
          (p, there.0, k_is, there.1, parts.0, parts.1, parts.2)

  -- one that is registered is found
  pub is_found : (p : ℕ) (s : Story) (c : ℕ) (t : List ℕ) → At ms p s → s.registered ≡ true → s.channel ≡ c → s.tag ≡ t → found c t r ≡ Some (suc p)
  is_found p s c t at reg on tag = by (found c t r) refl
    where
      none : place_under c t r.consumers ≡ None → ⊥
      none e = unplaced (λ _ x. is_under c t x) r.consumers e p (seen s) (ap (λ xs. slice_get xs p) shows ∙ seen_at ms p s at) (under_all c t s reg on tag)

      place : (o : Option ℕ) → place_under c t r.consumers ≡ o → option_map suc o ≡ None → ⊥
      place None e g = none e
      place (Some q) e g = cc

      by : (o : Option ℕ) → found c t r ≡ o → found c t r ≡ Some (suc p)
      by None e = absurd (place (place_under c t r.consumers) refl e)
      by (Some k) e =
          let w = who c k t e in
          let same : w.0 ≡ p = l.alone w.0 p w.1 s w.3 at w.4 reg (w.5 ∙ sym on) (w.6 ∙ sym tag) in
          e ∙ ap Some (w.2 ∙ ap suc same)

  -- the registered are those of the history
  pub registered-is : (p : ℕ) (s : Story) → At ms p s → is_registered (suc p) r ≡ s.registered
  registered-is p s at = ap registered_in (ap (λ xs. slice_get xs p) shows ∙ seen_at ms p s at)
