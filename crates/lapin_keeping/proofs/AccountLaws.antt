-- Nothing is lost or told twice, and what is kept stays in order, over any number of steps.
use Rattle.std.proofs.Common.{◌≡◌, ◌∙◌, inl, inr, ℕ, zero, suc, ◌≤◌, ◌<◌, Bool, true, false, not, cond, List, [], ◌∷◌, ◌++◌, map, Option, Some, None, refl, sym, ap, subst, append_assoc, append-nil, arith}
use Rattle.std.specs.List.{filter}
use Rattle.std.specs.List.Sorted.{IsPermutation}
use Rattle.std.specs.Option.{is_some}
use Rattle.std.proofs.lemmas.List.{map-append}
use Rattle.std.proofs.lemmas.List.Sorted.{IsPermutation-refl, IsPermutation-trans, IsPermutation-cons, IsPermutation-append, IsPermutation-append_comm}
use Rattle.lapin_keeping.specs.declared.fate.Fate.{Fate}
use Rattle.lapin_keeping.specs.declared.kept.Kept.{Kept}
use Rattle.lapin_keeping.specs.Keepings.{new_kept, is_unsettled, fate_onto, fates}
use Rattle.lapin_keeping.specs.Accounts.{Account, new_account, number_of, number_told, IsHanded, IsSettled, IsChanged, IsStep, Reaches, from_one, all_numbers, RiseWithin}

-- ---- the numbers from 1 on, each once

settle_one : (k : Kept) (ks : List Kept) (ts : List (ℕ × Fate)) (o : Option Fate)
    → ((us : List (ℕ × Fate)) → IsPermutation (map number_of ks ++ map number_told us) (map number_of (filter is_unsettled ks) ++ map number_told (us ++ fates ks)))
    → IsPermutation (k.number ∷ (map number_of ks ++ map number_told ts)) (map number_of (cond (not (is_some o)) (k ∷ filter is_unsettled ks) (filter is_unsettled ks)) ++ map number_told (ts ++ fate_onto k.number o (fates ks)))
settle_one k ks ts None rest = IsPermutation-cons k.number (map number_of ks ++ map number_told ts) (map number_of (filter is_unsettled ks) ++ map number_told (ts ++ fates ks)) (rest ts)
settle_one k ks ts (Some f) rest =
    let here : List ℕ = map number_of ks ++ map number_told ts in
    let us : List (ℕ × Fate) = ts ++ (k.number, f) ∷ [] in
    let joined : here ++ k.number ∷ [] ≡ map number_of ks ++ map number_told us =
    append_assoc (map number_of ks) (map number_told ts) (k.number ∷ []) ∙ ap (λ (ns : List ℕ). map number_of ks ++ ns) (sym (map-append number_told ts ((k.number, f) ∷ []))) in
    let moved : IsPermutation (k.number ∷ here) (map number_of ks ++ map number_told us) =
    subst (λ (ns : List ℕ). IsPermutation (k.number ∷ here) ns) joined (IsPermutation-append_comm (k.number ∷ []) here) in
    let told : IsPermutation (map number_of ks ++ map number_told us) (map number_of (filter is_unsettled ks) ++ map number_told (ts ++ (k.number, f) ∷ fates ks)) =
    subst (λ (fs : List (ℕ × Fate)). IsPermutation (map number_of ks ++ map number_told us) (map number_of (filter is_unsettled ks) ++ map number_told fs)) (append_assoc ts ((k.number, f) ∷ []) (fates ks)) (rest us) in
    IsPermutation-trans (k.number ∷ here) (map number_of ks ++ map number_told us) (map number_of (filter is_unsettled ks) ++ map number_told (ts ++ (k.number, f) ∷ fates ks)) moved told

settled_all : (ks : List Kept) (ts : List (ℕ × Fate)) → IsPermutation (map number_of ks ++ map number_told ts) (map number_of (filter is_unsettled ks) ++ map number_told (ts ++ fates ks))
settled_all [] ts = subst (λ (fs : List (ℕ × Fate)). IsPermutation (map number_told ts) (map number_told fs)) (sym (append-nil ts)) (IsPermutation-refl (map number_told ts))
settled_all (k ∷ ks) ts = settle_one k ks ts k.fate (settled_all ks)

handed_all : (ks : List Kept) (k : Kept) (ts : List (ℕ × Fate)) (n : ℕ) → k.number ≡ suc n → IsPermutation (from_one n) (map number_of ks ++ map number_told ts)
    → IsPermutation (from_one n ++ suc n ∷ []) (map number_of (ks ++ k ∷ []) ++ map number_told ts)
handed_all ks k ts n e all =
    let xs : List ℕ = map number_of ks in
    let ys : List ℕ = map number_told ts in
    let one : List ℕ = suc n ∷ [] in
    let behind : IsPermutation (from_one n ++ one) ((xs ++ ys) ++ one) = IsPermutation-append (from_one n) (xs ++ ys) one one all (IsPermutation-refl one) in
    let turned : IsPermutation (xs ++ (ys ++ one)) (xs ++ (one ++ ys)) = IsPermutation-append xs xs (ys ++ one) (one ++ ys) (IsPermutation-refl xs) (IsPermutation-append_comm ys one) in
    let place : xs ++ (one ++ ys) ≡ map number_of (ks ++ k ∷ []) ++ ys =
    sym (append_assoc xs one ys) ∙ ap (λ (m : ℕ). (xs ++ m ∷ []) ++ ys) (sym e) ∙ ap (λ (ns : List ℕ). ns ++ ys) (sym (map-append number_of ks (k ∷ []))) in
    subst (λ (ns : List ℕ). IsPermutation (from_one n ++ one) ns) place
    (IsPermutation-trans (from_one n ++ one) (xs ++ (ys ++ one)) (xs ++ (one ++ ys)) (subst (λ (ns : List ℕ). IsPermutation (from_one n ++ one) ns) (append_assoc xs ys one) behind) turned)

-- ---- rising numbers

risen_lower : (low n high : ℕ) (ns : List ℕ) → low ≤ n → RiseWithin n high ns → RiseWithin low high ns
risen_lower low n high [] le h = let g : n ≤ high = h in let r : low ≤ high = omega arith in r
risen_lower low n high (m ∷ ns) le h = let lt : n < m = h.0 in let r : low < m = omega arith in (r, h.1)

risen_higher : (low n : ℕ) (ns : List ℕ) → RiseWithin low n ns → RiseWithin low (suc n) (ns ++ suc n ∷ [])
risen_higher low n [] h = let g : low ≤ n = h in let r : low < suc n = omega arith in let t : suc n ≤ suc n = omega arith in (r, t)
risen_higher low n (m ∷ ns) h = (h.0, risen_higher m n ns h.1)

risen_one : (b : Bool) (k : Kept) (ks : List Kept) (low high : ℕ) → low < k.number → RiseWithin k.number high (map number_of ks) → RiseWithin low high (map number_of (cond b (k ∷ ks) ks))
risen_one true k ks low high lt h = (lt, h)
risen_one false k ks low high lt h = risen_lower low k.number high (map number_of ks) (omega arith) h

risen_kept : (ks : List Kept) (low high : ℕ) → RiseWithin low high (map number_of ks) → RiseWithin low high (map number_of (filter is_unsettled ks))
risen_kept [] low high h = h
risen_kept (k ∷ ks) low high h = risen_one (is_unsettled k) k (filter is_unsettled ks) low high h.0 (risen_kept ks k.number high h.1)

-- ---- any number of steps

abbrev Stands : Account → Type 0
Stands a = IsPermutation (from_one a.handed) (all_numbers a) × RiseWithin 0 a.handed (map number_of a.kept)

stands_handed : (a b : Account) → Stands a → IsHanded a b → Stands b
stands_handed a b s step =
    let k : Kept = new_kept (suc a.handed) step.0 step.1.0 in
    let rises : RiseWithin 0 (suc a.handed) (map number_of (a.kept ++ k ∷ [])) =
    subst (λ (ns : List ℕ). RiseWithin 0 (suc a.handed) ns) (sym (map-append number_of a.kept (k ∷ []))) (risen_higher 0 a.handed (map number_of a.kept) s.1) in
    subst Stands (sym step.1.1) (handed_all a.kept k a.told a.handed refl s.0, rises)

stands_settled : (a b : Account) → Stands a → IsSettled a b → Stands b
stands_settled a b s step =
    subst Stands (sym step) (IsPermutation-trans (from_one a.handed) (all_numbers a) _ s.0 (settled_all a.kept a.told), risen_kept a.kept 0 a.handed s.1)

stands_changed : (a b : Account) → Stands a → IsChanged a b → Stands b
stands_changed a b s step =
    let numbers : all_numbers a ≡ all_numbers b =
    ap (λ (ns : List ℕ). ns ++ map number_told a.told) (sym step.0) ∙ ap (λ (ts : List (ℕ × Fate)). map number_of b.kept ++ map number_told ts) (sym step.1.0) in
    let all : IsPermutation (from_one b.handed) (all_numbers b) =
    subst (λ (n : ℕ). IsPermutation (from_one n) (all_numbers b)) (sym step.1.1) (subst (λ (ns : List ℕ). IsPermutation (from_one a.handed) ns) numbers s.0) in
    (all, subst (λ (n : ℕ). RiseWithin 0 n (map number_of b.kept)) (sym step.1.1) (subst (λ (ns : List ℕ). RiseWithin 0 a.handed ns) (sym step.0) s.1))

stands_step : (a b : Account) → Stands a → IsStep a b → Stands b
stands_step a b s (inl step) = stands_handed a b s step
stands_step a b s (inr (inl step)) = stands_settled a b s step
stands_step a b s (inr (inr step)) = stands_changed a b s step

stands_on : (n : ℕ) (a b : Account) → Stands a → Reaches n a b → Stands b
stands_on zero a b s e = subst Stands (sym e) s
stands_on (suc n) a b s steps = stands_on n steps.0 b (stands_step a steps.0 s steps.1.0) steps.1.1

stands_anew : Stands new_account
stands_anew = let r : 0 ≤ 0 = omega arith in (IsPermutation-refl [], r)

pub each_once : (n : ℕ) (a : Account) → Reaches n new_account a → IsPermutation (from_one a.handed) (all_numbers a)
each_once n a steps = (stands_on n new_account a stands_anew steps).0

pub in_order : (n : ℕ) (a : Account) → Reaches n new_account a → RiseWithin 0 a.handed (map number_of a.kept)
in_order n a steps = (stands_on n new_account a stands_anew steps).1
