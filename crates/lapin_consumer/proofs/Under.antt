-- Who is under which tag, as one consumer leaves or joins.
use Rattle.std.proofs.Common.{◌≡◌, ◌≢◌, ℕ, suc, ◌&&◌, Bool, true, false, cond, List, [], ◌∷◌, ◌++◌, length, map, Option, Some, None, refl, sym, ◌∙◌, ap, subst, slice_get, inl, inr, eq-eqb}
use Rattle.std.specs.Prelude.{nat_eq, bytes_eq}
use Rattle.std.specs.Cmp.Lexicographic.{pointwise, same_text, nat_list_eq_equiv}
use Rattle.std.proofs.lemmas.Bool.Decides.{eqb_tells}
use Rattle.std.proofs.lemmas.List.{append-nil}
use Rattle.lapin_tables.specs.ByChannel.{at_channel}
use Rattle.lapin_consumer.specs.Words.{places_at, on_place}
use Rattle.lapin_consumer.specs.Indexed.{Line, tagged_in}
use Rattle.lapin_consumer.specs.Subscriptions.{Consumer, is_on, is_under, first_place, place_under, newcomer}
use Rattle.lapin_consumer.proofs.Places.{tested, places-push}
use Rattle.lapin_consumer.proofs.Leaving.{Alone, Ends, places-kept, unlisted, under_on, on_channel, nobody_left}
use Rattle.lapin_tables.proofs.Bools.{and_second}

-- nobody passes
pub none-placed : {X : Type 0} (q : X → Bool) (xs : List X) → ((i : ℕ) (y : X) → slice_get xs i ≡ Some y → q y ≡ true → ⊥) → places_at (λ _ x. q x) xs ≡ []
none-placed q [] none = refl
none-placed q (x ∷ xs) none =
    let away : q x ≡ false = tested (q x) (λ h. absurd (none 0 x refl h)) (λ h. h) in
    rw away (ap (map suc) (none-placed q xs (λ i. none (suc i))))

-- who is under two tags is under one
one_tag : (c d : ℕ) (t u : List ℕ) (x : Consumer) → is_under c t x ≡ true → is_under d u x ≡ true → (c ≡ d) × (t ≡ u)
one_tag c d t u x here also = (sym (on_channel c x (under_on c t x here)).1 ∙ (on_channel d x (under_on d u x also)).1, sym (tag c t here) ∙ tag d u also)
  where
    tag : (k : ℕ) (v : List ℕ) → is_under k v x ≡ true → x.tag ≡ v
    tag k v h = same_text x.tag v (sym (and_second (is_on k x) (pointwise nat_eq x.tag v) h))

elsewhere_under : (c d : ℕ) (t u : List ℕ) (x : Consumer) → is_under c t x ≡ true → (c ≡ d → t ≡ u → ⊥) → is_under d u x ≡ false
elsewhere_under c d t u x here other = tested (is_under d u x) (λ yes. let both = one_tag c d t u x here yes in absurd (other both.0 both.1)) (λ no. no)

-- the one under a tag left
module _ (f : Consumer → Consumer) (ends : Ends f) (c p : ℕ) (t : List ℕ) (x : Consumer) (xs : List Consumer) (alone : Alone xs) (there : slice_get xs p ≡ Some x) (under : is_under c t x ≡ true) where
  pub left_here : place_under c t (on_place f p xs) ≡ None
  left_here = ap first_place (none-placed (is_under c t) (on_place f p xs) (nobody_left f c p t x xs ends alone there under))

  pub left_other : (d : ℕ) (u : List ℕ) → (c ≡ d → t ≡ u → ⊥) → place_under d u (on_place f p xs) ≡ place_under d u xs
  left_other d u other =
      let off : is_under d u (f x) ≡ false = ap (λ b. b && pointwise nat_eq (f x).tag u) (unlisted d (f x) (ends.off x)) in
      ap first_place (places-kept (is_under d u) f p x xs there (off ∙ sym (elsewhere_under c d t u x under other)))

-- one more joined
module _ (c : ℕ) (t q : List ℕ) (ys : List Consumer) where
  newcomer_under : is_under c t (newcomer c t q) ≡ true
  newcomer_under = rw (eq-eqb c c refl) (nat_list_eq_equiv.refl t)

  pub joined_here : ((i : ℕ) (y : Consumer) → slice_get ys i ≡ Some y → is_under c t y ≡ true → ⊥) → place_under c t (ys ++ newcomer c t q ∷ []) ≡ Some (length ys)
  joined_here nobody =
      ap first_place (places-push (λ _ x. is_under c t x) ys (newcomer c t q))
      ∙ ap (λ b. first_place (places_at (λ _ x. is_under c t x) ys ++ cond b (length ys ∷ []) [])) newcomer_under
      ∙ ap (λ ps. first_place (ps ++ length ys ∷ [])) (none-placed (is_under c t) ys nobody)

  pub joined_other : (d : ℕ) (u : List ℕ) → (c ≡ d → t ≡ u → ⊥) → place_under d u (ys ++ newcomer c t q ∷ []) ≡ place_under d u ys
  joined_other d u other =
      ap first_place (places-push (λ _ x. is_under d u x) ys (newcomer c t q))
      ∙ ap (λ b. first_place (places_at (λ _ x. is_under d u x) ys ++ cond b (length ys ∷ []) [])) (elsewhere_under c d t u (newcomer c t q) newcomer_under other)
      ∙ ap first_place (append-nil (places_at (λ _ x. is_under d u x) ys))

-- what is under one tag of a channel's line changes as the consumers do, and what is under the others stays
pub tags_after : (c : ℕ) (t : List ℕ) (w : Option ℕ) (before after : List (ℕ × Line)) (xs ys : List Consumer) → ((d : ℕ) (u : List ℕ) → tagged_in u (at_channel d before) ≡ place_under d u xs) → ((u : List ℕ) → tagged_in u (at_channel c after) ≡ cond (bytes_eq t u) w (tagged_in u (at_channel c before)))
    → ((d : ℕ) → c ≢ d → at_channel d after ≡ at_channel d before) → place_under c t ys ≡ w → ((d : ℕ) (u : List ℕ) → (c ≡ d → t ≡ u → ⊥) → place_under d u ys ≡ place_under d u xs) → (d : ℕ) (u : List ℕ) → tagged_in u (at_channel d after) ≡ place_under d u ys
tags_after c t w before after xs ys tags here others is other d u =
    elim (eqb_tells c d) [
      | inl same ↦
          let Q : ℕ → Type 0 = λ k. tagged_in u (at_channel k after) ≡ place_under k u ys in
          subst Q same.1 (here u ∙ tested (bytes_eq t u)
          (λ yes.
          let R : List ℕ → Type 0 = λ v. w ≡ place_under c v ys in
          ap (λ b. cond b w (tagged_in u (at_channel c before))) yes ∙ subst R (same_text t u (sym yes)) (sym is))
          (λ off. ap (λ b. cond b w (tagged_in u (at_channel c before))) off ∙ tags c u ∙ sym (other c u (λ _ e. differ e off))))
      | inr apart ↦ ap (tagged_in u) (others d apart.1) ∙ tags d u ∙ sym (other d u (λ e _. apart.1 e))
    ]
  where
    differ : t ≡ u → bytes_eq t u ≡ false → ⊥
    differ e off = let same : bytes_eq t u ≡ true = ap (bytes_eq t) (sym e) ∙ nat_list_eq_equiv.refl t in cc
