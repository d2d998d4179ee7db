-- Lists that are cut by what passes in them, and longer by one or more.
use Rattle.std.proofs.Common.{◌≡◌, ◌∙◌, ℕ, zero, suc, ◌+◌, ◌≤◌, ◌<◌, Bool, true, false, cond, ◌||◌, List, [], ◌∷◌, ◌++◌, refl, sym, ap, append-nil, append_assoc, arith}
use Rattle.std.specs.List.{fold, list_any}
use Rattle.std.proofs.lemmas.List.Sums.{fold-append}
use Rattle.lapin_rules.specs.Words.{many, after_nth, rest_after}
use Rattle.lapin_verdicts.specs.Deeds.{until}
use Rattle.lapin_verdicts.proofs.Marks.{many-append}
use Rattle.lapin_verdicts.proofs.Runs.{any-first}
use Rattle.lapin_messages.specs.Openings.{all_before}

-- the second is the first with something behind it
abbrev pub Longer : {X : Type 0} → List X → List X → Type 0
Longer {X = X} xs ys = (more : List X) × (ys ≡ xs ++ more)

pub same_longer : {X : Type 0} (xs : List X) → Longer xs xs
same_longer xs = ([], sym (append-nil xs))

-- ---- up to the next that passes, after the k-th

module _ {X : Type 0} (p : X → Bool) where
  until_longer : (xs ys : List X) → Longer (until p xs) (until p (xs ++ ys))
  until_longer [] ys = (until p ys, refl)
  until_longer (x ∷ xs) ys = elim (p x) as (λ b. Longer (cond b [] (x ∷ until p xs)) (cond b [] (x ∷ until p (xs ++ ys)))) [
    | true ↦ ([], refl)
    | false ↦ let l = until_longer xs ys in (l.0, ap (λ v. x ∷ v) l.1)
  ]

  rest_longer : (k : ℕ) (xs ys : List X) → Longer (until p (rest_after p k xs)) (until p (rest_after p k (xs ++ ys)))
  rest_longer k [] ys = (until p (rest_after p k ys), refl)
  rest_longer zero (x ∷ xs) ys = elim (p x) as (λ b. Longer (until p (cond b xs (rest_after p zero xs))) (until p (cond b (xs ++ ys) (rest_after p zero (xs ++ ys))))) [ true ↦ until_longer xs ys | false ↦ rest_longer zero xs ys ]
  rest_longer (suc k) (x ∷ xs) ys = elim (p x) as (λ b. Longer (until p (cond b (rest_after p k xs) (rest_after p (suc k) xs))) (until p (cond b (rest_after p k (xs ++ ys)) (rest_after p (suc k) (xs ++ ys))))) [ true ↦ rest_longer k xs ys | false ↦ rest_longer (suc k) xs ys ]

  -- what stands between the k-th and the next grows at its end
  pub between_longer : (k : ℕ) (xs ys : List X) → Longer (until p (after_nth p k xs)) (until p (after_nth p k (xs ++ ys)))
  between_longer zero xs ys = ([], refl)
  between_longer (suc k) xs ys = rest_longer k xs ys

  -- what stands after the last that passes, all where none does
  abbrev pub last_joined : List X → X → List X
  last_joined o x = cond (p x) [] (o ++ x ∷ [])

  abbrev pub last_part : List X → List X
  last_part xs = fold last_joined [] xs

  pub last-push : (xs : List X) (x : X) → last_part (xs ++ x ∷ []) ≡ last_joined (last_part xs) x
  last-push xs x = fold-append last_joined [] xs (x ∷ [])

  until_all : (xs : List X) → list_any p xs ≡ false → until p xs ≡ xs
  until_all [] h = refl
  until_all (x ∷ xs) h = elim (p x) as (λ b. (b || list_any p xs) ≡ false → cond b [] (x ∷ until p xs) ≡ x ∷ xs) [ true ↦ λ e. absurd cc | false ↦ λ e. ap (λ v. x ∷ v) (until_all xs e) ] h

  none_passes : (xs : List X) → many p xs ≡ 0 → list_any p xs ≡ false
  none_passes [] h = refl
  none_passes (x ∷ xs) h = elim (p x) as (λ b. cond b (many p xs + 1) (many p xs) ≡ 0 → (b || list_any p xs) ≡ false) [ true ↦ λ e. (let w : ⊥ = omega (arith, e) in absurd w) | false ↦ λ e. none_passes xs e ] h

  no_more : (o xs : List X) → list_any p xs ≡ false → fold last_joined o xs ≡ o ++ xs
  no_more o [] h = sym (append-nil o)
  no_more o (x ∷ xs) h = elim (p x) as (λ b. (b || list_any p xs) ≡ false → fold last_joined (cond b [] (o ++ x ∷ [])) xs ≡ o ++ x ∷ xs) [ true ↦ λ e. absurd cc | false ↦ λ e. no_more (o ++ x ∷ []) xs e ∙ append_assoc o (x ∷ []) xs ] h

  -- with no more that passes the last part is longer by all of it
  pub last-append : (xs ys : List X) → many p ys ≡ 0 → last_part (xs ++ ys) ≡ last_part xs ++ ys
  last-append xs ys h = fold-append last_joined [] xs ys ∙ no_more (last_part xs) ys (none_passes ys h)

  last_at : (o : List X) (k : ℕ) (xs : List X) → many p xs ≡ suc k → until p (rest_after p k xs) ≡ fold last_joined o xs
  last_at o k [] h = let w : ⊥ = omega (arith, h) in absurd w
  last_at o zero (x ∷ xs) h = elim (p x) as (λ b. cond b (many p xs + 1) (many p xs) ≡ 1 → until p (cond b xs (rest_after p zero xs)) ≡ fold last_joined (cond b [] (o ++ x ∷ [])) xs) [
    | true ↦ λ e. (let none : many p xs ≡ 0 = omega (arith, e) in let no = none_passes xs none in until_all xs no ∙ sym (no_more [] xs no))
    | false ↦ λ e. last_at (o ++ x ∷ []) zero xs e
  ] h
  last_at o (suc k) (x ∷ xs) h = elim (p x) as (λ b. cond b (many p xs + 1) (many p xs) ≡ suc (suc k) → until p (cond b (rest_after p k xs) (rest_after p (suc k) xs)) ≡ fold last_joined (cond b [] (o ++ x ∷ [])) xs) [
    | true ↦ λ e. last_at [] k xs (omega (arith, e))
    | false ↦ λ e. last_at (o ++ x ∷ []) (suc k) xs e
  ] h

  -- where k pass, what stands between the k-th and the next is the last part
  pub between_last : (k : ℕ) (xs : List X) → 0 < k → many p xs ≡ k → until p (after_nth p k xs) ≡ last_part xs
  between_last zero xs z h = let w : ⊥ = omega (arith, z) in absurd w
  between_last (suc k) xs z h = last_at [] k xs h

  -- ---- before the one that passes after so many

  pub before_more : (k : ℕ) (xs ys : List X) → k < many p xs → all_before p k (xs ++ ys) ≡ all_before p k xs
  before_more k [] ys h = let w : ⊥ = omega (arith, h) in absurd w
  before_more zero (x ∷ xs) ys h = elim (p x) as (λ b. 0 < cond b (many p xs + 1) (many p xs) → cond b [] (x ∷ all_before p zero (xs ++ ys)) ≡ cond b [] (x ∷ all_before p zero xs)) [ true ↦ λ e. refl | false ↦ λ e. ap (λ v. x ∷ v) (before_more zero xs ys e) ] h
  before_more (suc k) (x ∷ xs) ys h = ap (λ v. x ∷ v) (elim (p x) as (λ b. suc k < cond b (many p xs + 1) (many p xs) → cond b (all_before p k (xs ++ ys)) (all_before p (suc k) (xs ++ ys)) ≡ cond b (all_before p k xs) (all_before p (suc k) xs)) [ true ↦ λ e. before_more k xs ys (omega (arith, e)) | false ↦ λ e. before_more (suc k) xs ys e ] h)

  -- as many pass as are asked for: the next that passes is the first behind them
  pub before_next : (k : ℕ) (xs : List X) (x : X) → many p xs ≡ k → p x ≡ true → all_before p k (xs ++ x ∷ []) ≡ xs
  before_next zero [] x h e = rw e refl
  before_next (suc k) [] x h e = let w : ⊥ = omega (arith, h) in absurd w
  before_next zero (y ∷ ys) x h e = elim (p y) as (λ b. cond b (many p ys + 1) (many p ys) ≡ 0 → cond b [] (y ∷ all_before p zero (ys ++ x ∷ [])) ≡ y ∷ ys) [ true ↦ λ f. (let w : ⊥ = omega (arith, f) in absurd w) | false ↦ λ f. ap (λ v. y ∷ v) (before_next zero ys x f e) ] h
  before_next (suc k) (y ∷ ys) x h e = ap (λ v. y ∷ v) (elim (p y) as (λ b. cond b (many p ys + 1) (many p ys) ≡ suc k → cond b (all_before p k (ys ++ x ∷ [])) (all_before p (suc k) (ys ++ x ∷ [])) ≡ ys) [ true ↦ λ f. before_next k ys x (omega (arith, f)) e | false ↦ λ f. before_next (suc k) ys x f e ] h)

-- ---- counts

pub many_longer : {X : Type 0} (p : X → Bool) (xs ys : List X) → Longer xs ys → many p xs ≤ many p ys
many_longer p xs ys l = let a = many-append p xs l.0 in let e : many p ys ≡ many p (xs ++ l.0) = ap (many p) l.1 in omega (arith, a, e)

pub any_longer : {X : Type 0} (p : X → Bool) (xs ys : List X) → Longer xs ys → list_any p ys ≡ false → list_any p xs ≡ false
any_longer p xs ys l h = any-first p xs l.0 (ap (list_any p) (sym l.1) ∙ h)
