-- What becomes known of a message leaves its number and the message itself, and what came back isn't stored.
use Rattle.std.proofs.Common.{◌≡◌, ◌∙◌, inl, inr, ◌⊎◌, ℕ, ◌==◌, Bool, true, false, cond, List, [], ◌∷◌, ◌++◌, map, Option, Some, None, refl, sym, ap}
use Rattle.std.proofs.lemmas.List.{map-append}
use Rattle.std.proofs.Common.{eq-eqb}
use Rattle.std.specs.Prelude.{All}
use Rattle.lapin_types.specs.declared.message.BasicReturnMessage.{BasicReturnMessage}
use Rattle.lapin_types.specs.declared.message.Delivery.{Delivery}
use Rattle.lapin_types.specs.declared.outcome.Outcome.{Outcome}
use Rattle.lapin_types.specs.declared.outcome.Outcome.TheVariants as outcome
use Rattle.lapin_keeping.specs.declared.fate.Fate.{Fate}
use Rattle.lapin_keeping.specs.declared.fate.Fate.TheVariants as fate
use Rattle.lapin_keeping.specs.declared.kept.Kept.{Kept}
use Rattle.lapin_keeping.specs.Fates.{blame, of_blame, of_outcome, tried, returned, returned_at, begun_anew, begun_anew_at}
use Rattle.lapin_keeping.specs.Returns.{IsNotOf, FirstCameBack, IsNoted, AreNoted}
use Rattle.lapin_keeping.specs.Accounts.{number_of, IsSameMessage}

by_test : (b : Bool) (k l m : Kept) → IsSameMessage k l → IsSameMessage k m → IsSameMessage k (cond b l m)
by_test true k l m a b = a
by_test false k l m a b = b

blamed : (o : Option ℕ) (k : Kept) → IsSameMessage k (of_blame o k)
blamed None k = (refl, refl)
blamed (Some code) k = by_test k.suspect k (tried (fate.Closed code) k) (record k { outstanding = None; suspect = true }) (refl, refl) (refl, refl)

pub same_by_outcome : (o : Outcome) (k : Kept) → IsSameMessage k (of_outcome o k)
same_by_outcome outcome.Ack k = by_test k.came_back k (tried fate.Returned k) (record k { outstanding = None; fate = Some fate.Stored }) (refl, refl) (refl, refl)
same_by_outcome outcome.Nack k = (refl, refl)
same_by_outcome outcome.NotRequested k = (refl, refl)
same_by_outcome (outcome.Failed e) k = blamed (blame e) k

same_at : (o : Option Fate) (k : Kept) → IsSameMessage k (returned_at o k)
same_at None k = (refl, refl)
same_at (Some fate.Stored) k = (refl, refl)
same_at (Some fate.Refused) k = (refl, refl)
same_at (Some fate.Returned) k = (refl, refl)
same_at (Some (fate.Closed code)) k = (refl, refl)

pub same_by_return : (k : Kept) → IsSameMessage k (returned k)
same_by_return k = same_at k.fate k

begun_number : (o : Option Fate) (k : Kept) → (begun_anew_at o k).number ≡ k.number
begun_number None k = refl
begun_number (Some fate.Stored) k = refl
begun_number (Some fate.Refused) k = refl
begun_number (Some fate.Returned) k = refl
begun_number (Some (fate.Closed code)) k = refl

pub same_anew : (ks : List Kept) → map number_of (map begun_anew ks) ≡ map number_of ks
same_anew [] = refl
same_anew (k ∷ ks) = ap (λ (n : ℕ). n ∷ map number_of (map begun_anew ks)) (begun_number k.fate k) ∙ ap (λ (ns : List ℕ). k.number ∷ ns) (same_anew ks)

same_first : (exact : Bool) (d : Delivery) (old new : List Kept) → FirstCameBack exact d old new → map number_of new ≡ map number_of old
same_first exact d old new f =
    ap (map number_of) f.new_is
    ∙ map-append number_of f.before (returned f.owner ∷ f.behind)
    ∙ ap (λ (n : ℕ). map number_of f.before ++ n ∷ map number_of f.behind) (same_by_return f.owner).0
    ∙ sym (map-append number_of f.before (f.owner ∷ f.behind))
    ∙ sym (ap (map number_of) f.old_is)

same_like : (d : Delivery) (old new : List Kept) → FirstCameBack false d old new ⊎ (All (IsNotOf false d) old × (new ≡ old)) → map number_of new ≡ map number_of old
same_like d old new (inl f) = same_first false d old new f
same_like d old new (inr p) = ap (map number_of) p.1

same_noted : (d : Delivery) (old new : List Kept) → IsNoted d old new → map number_of new ≡ map number_of old
same_noted d old new (inl f) = same_first true d old new f
same_noted d old new (inr p) = same_like d old new p.1

pub same_by_returns : (rs : List BasicReturnMessage) (old new : List Kept) → AreNoted rs old new → map number_of new ≡ map number_of old
same_by_returns [] old new e = ap (map number_of) e
same_by_returns (r ∷ rs) old new p = same_by_returns rs p.0 new p.1.1 ∙ same_noted r.delivery old p.0 p.1.0

no_store : (b : Bool) → cond b (Some fate.Returned) None ≡ Some fate.Stored → ⊥
no_store true is = cc
no_store false is = cc

not_stored_at : (o : Option Fate) (k : Kept) → k.fate ≡ o → (returned_at o k).fate ≡ Some fate.Stored → ⊥
not_stored_at None k e is = cc
not_stored_at (Some fate.Stored) k e is = no_store (k.left == 1) is
not_stored_at (Some fate.Refused) k e is = cc
not_stored_at (Some fate.Returned) k e is = cc
not_stored_at (Some (fate.Closed code)) k e is = cc

pub back_is_not_stored : (k : Kept) → (returned k).fate ≡ Some fate.Stored → ⊥
back_is_not_stored k is = not_stored_at k.fate k refl is

pub refused_at_last : (k : Kept) → k.left ≡ 1 → (of_outcome outcome.Nack k).fate ≡ Some fate.Refused
refused_at_last k e = ap (λ (b : Bool). cond b (Some fate.Refused) k.fate) (eq-eqb k.left 1 e)

pub closed_at_last : (code : ℕ) (k : Kept) → k.left ≡ 1 → k.suspect ≡ true → (of_blame (Some code) k).fate ≡ Some (fate.Closed code)
closed_at_last code k e alone =
    ap (λ (b : Bool). (cond b (tried (fate.Closed code) k) (record k { outstanding = None; suspect = true })).fate) alone
    ∙ ap (λ (b : Bool). cond b (Some (fate.Closed code)) k.fate) (eq-eqb k.left 1 e)

pub not_alone : (code : ℕ) (k : Kept) → k.suspect ≡ false → of_blame (Some code) k ≡ record k { outstanding = None; suspect = true }
not_alone code k among = ap (λ (b : Bool). cond b (tried (fate.Closed code) k) (record k { outstanding = None; suspect = true })) among

pub returned_at_last : (k : Kept) → k.left ≡ 1 → k.came_back ≡ true → (of_outcome outcome.Ack k).fate ≡ Some fate.Returned
returned_at_last k e back =
    ap (λ (b : Bool). (cond b (tried fate.Returned k) (record k { outstanding = None; fate = Some fate.Stored })).fate) back
    ∙ ap (λ (b : Bool). cond b (Some fate.Returned) k.fate) (eq-eqb k.left 1 e)
