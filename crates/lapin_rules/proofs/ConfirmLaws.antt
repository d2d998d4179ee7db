-- What one more mark at the end does to the readings of confirms.
use Rattle.std.proofs.Common.{◌≡◌, ℕ, suc, ◌+◌, ◌<◌, cond, List, [], ◌∷◌, ◌++◌, Some, None, refl, ◌∙◌, ap}
use Rattle.std.specs.Option.{option_or}
use Rattle.lapin_rules.specs.ConfirmMarks.{ConfirmMark}
use Rattle.lapin_rules.specs.ConfirmMarks as mark
use Rattle.lapin_rules.specs.ConfirmReadings.{adds, added, accepted, life, first_settled, settlement_on, first_rejected, rejection_on, last_limit, limit_after}
use Rattle.lapin_rules.proofs.ListLaws.{many-push, one-push, rest-push, one_new, rest_new}

pub settled-push : (c t : ℕ) (ms : List ConfirmMark) (m : ConfirmMark) → first_settled c t (ms ++ m ∷ []) ≡ option_or (first_settled c t ms) (settlement_on c t m)
settled-push c t [] m = elim (settlement_on c t m) as (λ o. option_or o None ≡ o) [ None ↦ refl | Some x ↦ refl ]
settled-push c t (n ∷ ms) m =
    ap (λ o. option_or (settlement_on c t n) o) (settled-push c t ms m) ∙
    elim (settlement_on c t n) as (λ o. option_or o (option_or (first_settled c t ms) (settlement_on c t m)) ≡ option_or (option_or o (first_settled c t ms)) (settlement_on c t m)) [ None ↦ refl | Some x ↦ refl ]

pub rejected-push : (c : ℕ) (ms : List ConfirmMark) (m : ConfirmMark) → first_rejected c (ms ++ m ∷ []) ≡ option_or (first_rejected c ms) (rejection_on c m)
rejected-push c [] m = elim (rejection_on c m) as (λ o. option_or o None ≡ o) [ None ↦ refl | Some x ↦ refl ]
rejected-push c (n ∷ ms) m =
    ap (λ o. option_or (rejection_on c n) o) (rejected-push c ms m) ∙
    elim (rejection_on c n) as (λ o. option_or o (option_or (first_rejected c ms) (rejection_on c m)) ≡ option_or (option_or o (first_rejected c ms)) (rejection_on c m)) [ None ↦ refl | Some x ↦ refl ]

pub limit-push : (c l : ℕ) (ms : List ConfirmMark) (m : ConfirmMark) → last_limit c l (ms ++ m ∷ []) ≡ limit_after c (last_limit c l ms) m
limit-push c l [] m = refl
limit-push c l (n ∷ ms) m = limit-push c (limit_after c l n) ms m

pub added-push : (ms : List ConfirmMark) (m : ConfirmMark) → added (ms ++ m ∷ []) ≡ cond (adds m) (added ms + 1) (added ms)
added-push ms m = many-push adds ms m

pub accepted-push : (k : ℕ) (ms : List ConfirmMark) (m : ConfirmMark) → k < added ms → accepted (suc k) (ms ++ m ∷ []) ≡ accepted (suc k) ms
accepted-push k ms m lt = one-push adds k ms m lt

pub life-push : (k : ℕ) (ms : List ConfirmMark) (m : ConfirmMark) → k < added ms → life (suc k) (ms ++ m ∷ []) ≡ life (suc k) ms ++ m ∷ []
life-push k ms m lt = rest-push adds k ms m lt

pub accepted_new : (k c : ℕ) (ms : List ConfirmMark) → k ≡ added ms → accepted (suc k) (ms ++ mark.Added c ∷ []) ≡ Some (mark.Added c)
accepted_new k c ms e = one_new adds k ms (mark.Added c) refl e

pub life_new : (k c : ℕ) (ms : List ConfirmMark) → k ≡ added ms → life (suc k) (ms ++ mark.Added c ∷ []) ≡ []
life_new k c ms e = rest_new adds k ms (mark.Added c) refl e
