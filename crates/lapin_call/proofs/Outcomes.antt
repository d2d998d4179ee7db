-- What becomes of a call is read off the items that come, and each delivery is counted once.
use Rattle.std.proofs.Common.{◌≡◌, ◌≢◌, ◌∙◌, ℕ, zero, suc, ◌+◌, Bool, true, false, cond, List, [], ◌∷◌, map, Option, Some, None, refl, sym, ap, arith, slice_get, slice_set, inl, inr}
use Rattle.std.specs.Prelude.{Ok, Err}
use Rattle.std.specs.Option.{option_map}
use Rattle.std.proofs.lemmas.Bool.Decides.{eqb_tells}
use Rattle.lapin_types.specs.Types.{Error}
use Rattle.lapin_types.specs.declared.message.Delivery.{Delivery}
use Rattle.lapin_call.specs.declared.fates.Fate.{Fate}
use Rattle.lapin_call.specs.declared.fates.Fate.TheVariants as fate
use Rattle.lapin_call.specs.declared.fates.Match.{Match}
use Rattle.lapin_call.specs.declared.fates.Match.TheVariants as matched
use Rattle.lapin_call.specs.declared.fates.Tally.{Tally}
use Rattle.lapin_call.specs.Fates.{named_by, fate_at, fate_named, with_fate, match_of, match_in, counted, after_match, after_delivery, ended_by, after_error}
use Rattle.lapin_call.specs.Outcome.{Item, is_number, outcome, after_items, counted_items, sum_of, deliveries}

-- ---- each delivery is counted once

counted_sum : (m : Match) (t : Tally) → sum_of (counted m t) ≡ sum_of t + 1
counted_sum matched.Answer t = omega arith
counted_sum matched.Repeat t = omega arith
counted_sum matched.Stranger t = omega arith

pub counted_once : (items : List Item) (fates : List Fate) (t : Tally) → sum_of (counted_items items fates t) ≡ sum_of t + deliveries items
counted_once [] fates t = omega arith
counted_once (Ok d ∷ items) fates t =
    let rest = counted_once items (after_delivery d fates) (counted (match_in d fates) t) in
    let one = counted_sum (match_in d fates) t in
    omega (arith, rest, one)
counted_once (Err e ∷ items) fates t = counted_once items (after_error e fates) t

-- ---- one call among all

get_same : (xs : List Fate) (p : ℕ) (x y : Fate) → slice_get xs p ≡ Some x → slice_get (slice_set xs p y) p ≡ Some y
get_same [] p x y there = absurd cc
get_same (z ∷ zs) zero x y there = refl
get_same (z ∷ zs) (suc p) x y there = get_same zs p x y there

get_other : (xs : List Fate) (p q : ℕ) (y : Fate) → p ≢ q → slice_get (slice_set xs p y) q ≡ slice_get xs q
get_other [] p q y ne = refl
get_other (z ∷ zs) zero zero y ne = absurd (ne refl)
get_other (z ∷ zs) zero (suc q) y ne = refl
get_other (z ∷ zs) (suc p) zero y ne = refl
get_other (z ∷ zs) (suc p) (suc q) y ne = get_other zs p q y (λ e. ne (ap suc e))

pub put_same : (n : ℕ) (fates : List Fate) (x y : Fate) → fate_at n fates ≡ Some x → fate_at n (with_fate n y fates) ≡ Some y
put_same zero fates x y there = absurd cc
put_same (suc p) fates x y there = get_same fates p x y there

pub put_other : (n m : ℕ) (fates : List Fate) (y : Fate) → m ≢ n → fate_at n (with_fate m y fates) ≡ fate_at n fates
put_other n zero fates y ne = refl
put_other zero (suc p) fates y ne = refl
put_other (suc q) (suc p) fates y ne = get_other fates p q y (λ e. ne (ap suc e))

get_map : (f : Fate → Fate) (xs : List Fate) (p : ℕ) → slice_get (map f xs) p ≡ option_map f (slice_get xs p)
get_map f [] p = refl
get_map f (x ∷ xs) zero = refl
get_map f (x ∷ xs) (suc p) = get_map f xs p

after_error_at : (e : Error) (n : ℕ) (fates : List Fate) → fate_at n (after_error e fates) ≡ option_map (ended_by e) (fate_at n fates)
after_error_at e zero fates = refl
after_error_at e (suc p) fates = get_map (ended_by e) fates p

-- ---- a delivery

-- one that names another call leaves this one
other_named : (n m : ℕ) (o : Option Fate) (p : List ℕ) (fates : List Fate) → m ≢ n → fate_at n (after_match (match_of o) (Some m) p fates) ≡ fate_at n fates
other_named n m None p fates ne = refl
other_named n m (Some fate.Waiting) p fates ne = put_other n m fates (fate.Answered p) ne
other_named n m (Some (fate.Answered q)) p fates ne = refl
other_named n m (Some (fate.Ended e)) p fates ne = refl
other_named n m (Some (fate.Given true)) p fates ne = refl
other_named n m (Some (fate.Given false)) p fates ne = refl

-- it has its result, or had it
abbrev pub is_settled : Fate → Bool
is_settled fate.Waiting = false
is_settled _ = true

-- one that names a settled call leaves all
settled_named : (n : ℕ) (f : Fate) (p : List ℕ) (fates : List Fate) → is_settled f ≡ true → after_match (match_of (Some f)) (Some n) p fates ≡ fates
settled_named n fate.Waiting p fates settled = absurd cc
settled_named n (fate.Answered q) p fates settled = refl
settled_named n (fate.Ended e) p fates settled = refl
settled_named n (fate.Given true) p fates settled = refl
settled_named n (fate.Given false) p fates settled = refl

settled_delivery : (n : ℕ) (f : Fate) (d : Delivery) (fates : List Fate) → is_settled f ≡ true → fate_at n fates ≡ Some f → fate_at n (after_delivery d fates) ≡ Some f
settled_delivery n f d fates settled there = named (named_by d)
  where
    named : (o : Option ℕ) → fate_at n (after_match (match_of (fate_named o fates)) o d.payload fates) ≡ Some f
    named None = there
    named (Some m) = elim (eqb_tells m n) [
      | inl same ↦ ap (λ (k : ℕ). fate_at n (after_match (match_of (fate_at k fates)) (Some k) d.payload fates)) same.1
          ∙ ap (λ (o : Option Fate). fate_at n (after_match (match_of o) (Some n) d.payload fates)) there
          ∙ ap (fate_at n) (settled_named n f d.payload fates settled) ∙ there
      | inr other ↦ other_named n m (fate_at m fates) d.payload fates other.1 ∙ there
    ]

settled_error : (n : ℕ) (f : Fate) (e : Error) (fates : List Fate) → is_settled f ≡ true → fate_at n fates ≡ Some f → fate_at n (after_error e fates) ≡ Some f
settled_error n f e fates settled there = after_error_at e n fates ∙ ap (option_map (ended_by e)) there ∙ same f settled
  where
    same : (g : Fate) → is_settled g ≡ true → option_map (ended_by e) (Some g) ≡ Some g
    same fate.Waiting h = absurd cc
    same (fate.Answered q) h = refl
    same (fate.Ended x) h = refl
    same (fate.Given b) h = refl

-- a settled call stays, whatever comes
pub settled_stays : (n : ℕ) (f : Fate) (items : List Item) (fates : List Fate) → is_settled f ≡ true → fate_at n fates ≡ Some f → fate_at n (after_items items fates) ≡ Some f
settled_stays n f [] fates settled there = there
settled_stays n f (Ok d ∷ items) fates settled there = settled_stays n f items (after_delivery d fates) settled (settled_delivery n f d fates settled there)
settled_stays n f (Err e ∷ items) fates settled there = settled_stays n f items (after_error e fates) settled (settled_error n f e fates settled there)

-- ---- a call that waits

-- the first delivery with its id answers it, whatever strangers and repeats come before and after; the first error ends it
pub first_answers : (n : ℕ) (items : List Item) (fates : List Fate) → fate_at n fates ≡ Some fate.Waiting → fate_at n (after_items items fates) ≡ Some (outcome n items)
first_answers n [] fates waits = waits
first_answers n (Err e ∷ items) fates waits = settled_stays n (fate.Ended e) items (after_error e fates) refl (after_error_at e n fates ∙ ap (option_map (ended_by e)) waits)
first_answers n (Ok d ∷ items) fates waits = named (λ fs h. first_answers n items fs h) (named_by d)
  where
    named : ((fs : List Fate) → fate_at n fs ≡ Some fate.Waiting → fate_at n (after_items items fs) ≡ Some (outcome n items)) → (o : Option ℕ) → fate_at n (after_items items (after_match (match_of (fate_named o fates)) o d.payload fates)) ≡ Some (cond (is_number n o) (fate.Answered d.payload) (outcome n items))
    named again None = again fates waits
    named again (Some m) = elim (eqb_tells m n) [
      | inl same ↦
          let here : fate_at n (after_match (match_of (fate_at m fates)) (Some m) d.payload fates) ≡ Some (fate.Answered d.payload) =
          ap (λ (k : ℕ). fate_at n (after_match (match_of (fate_at k fates)) (Some k) d.payload fates)) same.1
          ∙ ap (λ (o : Option Fate). fate_at n (after_match (match_of o) (Some n) d.payload fates)) waits
          ∙ put_same n fates fate.Waiting (fate.Answered d.payload) waits in
          settled_stays n (fate.Answered d.payload) items _ refl here ∙ ap (λ b. Some (cond b (fate.Answered d.payload) (outcome n items))) (sym same.0)
      | inr other ↦
          again _ (other_named n m (fate_at m fates) d.payload fates other.1 ∙ waits) ∙ ap (λ b. Some (cond b (fate.Answered d.payload) (outcome n items))) (sym other.0)
    ]
