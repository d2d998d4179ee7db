-- Slots as contracts see them, where something else tells of some numbers: what a change on either side is seen as.
use Rattle.std.proofs.Common.{◌≡◌, ◌≢◌, ℕ, zero, suc, ◌+◌, ◌<◌, ◌≤◌, List, [], ◌∷◌, ◌++◌, length, Option, None, refl, sym, ◌∙◌, ap, subst, arith, get_or, inl, inr}
use Rattle.std.proofs.lemmas.Bool.{cases_lt}
use Rattle.std.proofs.lemmas.Bool.Decides.{eqb_tells}
use Rattle.std.proofs.lemmas.List.{get_or_past}
use Rattle.lapin_tables.specs.Numbered.{under, with_under}
use Rattle.lapin_tables.specs.Packed.{or_slot, shown}
use Rattle.lapin_tables.proofs.SlotLaws.{length-with, under-other, same-slots}

module _ {T : Type 0} where
  pub length-shown : (f : ℕ → Option T) (i : ℕ) (xs : List (Option T)) → length (shown f i xs) ≡ length xs
  length-shown f i [] = refl
  length-shown f i (x ∷ xs) = ap suc (length-shown f (suc i) xs)

  get-shown : (f : ℕ → Option T) (i k : ℕ) (xs : List (Option T)) → k < length xs → get_or (shown f i xs) k None ≡ or_slot (f (suc (i + k))) (get_or xs k None)
  get-shown f i k [] h = absurd (omega (arith, h))
  get-shown f i zero (x ∷ xs) h = let here : i ≡ i + 0 = omega arith in ap (λ n. or_slot (f (suc n)) x) here
  get-shown f i (suc k) (x ∷ xs) h =
      let there : suc i + k ≡ i + suc k = omega arith in
      get-shown f (suc i) k xs (omega (arith, h)) ∙ ap (λ n. or_slot (f (suc n)) (get_or xs k None)) there

  under-given : (f : ℕ → Option T) (k : ℕ) (xs : List (Option T)) → k < length xs → under (suc k) (shown f 0 xs) ≡ or_slot (f (suc k)) (under (suc k) xs)
  under-given f k xs h = let from : 0 + k ≡ k = omega arith in get-shown f 0 k xs h ∙ ap (λ n. or_slot (f (suc n)) (get_or xs k None)) from

  under-past : (k : ℕ) (xs : List (Option T)) → length xs ≤ k → under (suc k) xs ≡ None
  under-past k xs h = get_or_past xs k None h

  -- the slot of any number, where nothing is told of numbers that were not given
  pub under-all : (f : ℕ → Option T) (n : ℕ) (xs : List (Option T)) → f 0 ≡ None → ((m : ℕ) → length xs < m → f m ≡ None) → under n (shown f 0 xs) ≡ or_slot (f n) (under n xs)
  under-all f zero xs none past = sym (ap (λ o. or_slot o None) none)
  under-all f (suc k) xs none past = elim (cases_lt k (length xs)) [
    | inl within ↦ under-given f k xs within
    | inr over ↦
        under-past k (shown f 0 xs) (omega (arith, over, length-shown f 0 xs))
        ∙ sym (ap (λ o. or_slot o (under (suc k) xs)) (past (suc k) (omega (arith, over))) ∙ under-past k xs over)
  ]

  -- what is seen stays
  pub shown-same : (f g : ℕ → Option T) (xs ys : List (Option T)) → length ys ≡ length xs → ((n : ℕ) → or_slot (g n) (under n ys) ≡ or_slot (f n) (under n xs)) → shown g 0 ys ≡ shown f 0 xs
  shown-same f g xs ys long same =
      same-slots (shown g 0 ys) (shown f 0 xs) (length-shown g 0 ys ∙ long ∙ sym (length-shown f 0 xs))
      (λ k. elim (cases_lt k (length xs)) [
        | inl below ↦ under-given g k ys (omega (arith, below, long)) ∙ same (suc k) ∙ sym (under-given f k xs below)
        | inr past ↦ under-past k (shown g 0 ys) (omega (arith, past, long, length-shown g 0 ys)) ∙ sym (under-past k (shown f 0 xs) (omega (arith, past, length-shown f 0 xs)))
      ])

  written-here : (k : ℕ) (o : Option T) (xs : List (Option T)) → k < length xs → under (suc k) (with_under (suc k) o xs) ≡ o
  written-here k o [] h = absurd (omega (arith, h))
  written-here zero o (x ∷ xs) h = refl
  written-here (suc k) o (x ∷ xs) h = written-here k o xs (omega (arith, h))

  -- what is seen of one number changes
  pub shown-with : (f g : ℕ → Option T) (n : ℕ) (o : Option T) (xs ys : List (Option T)) → length ys ≡ length xs → (n ≤ length xs → or_slot (g n) (under n ys) ≡ o) → ((m : ℕ) → m ≢ n → or_slot (g m) (under m ys) ≡ or_slot (f m) (under m xs)) → shown g 0 ys ≡ with_under n o (shown f 0 xs)
  shown-with f g n o xs ys long here others =
      same-slots (shown g 0 ys) (with_under n o (shown f 0 xs)) (length-shown g 0 ys ∙ long ∙ sym (length-with n o (shown f 0 xs) ∙ length-shown f 0 xs))
      (λ k. elim (cases_lt k (length xs)) [
        | inl below ↦ under-given g k ys (omega (arith, below, long)) ∙ at k below
        | inr past ↦ under-past k (shown g 0 ys) (omega (arith, past, long, length-shown g 0 ys)) ∙ sym (under-past k (with_under n o (shown f 0 xs)) (omega (arith, past, length-with n o (shown f 0 xs), length-shown f 0 xs)))
      ])
    where
      at : (k : ℕ) → k < length xs → or_slot (g (suc k)) (under (suc k) ys) ≡ under (suc k) (with_under n o (shown f 0 xs))
      at k below = elim (eqb_tells n (suc k)) [
        | inl same ↦
            let P : ℕ → Type 0 = λ m. (m ≤ length xs → or_slot (g m) (under m ys) ≡ o) → or_slot (g (suc k)) (under (suc k) ys) ≡ under (suc k) (with_under m o (shown f 0 xs)) in
            subst P (sym same.1) (λ is. is (omega (arith, below)) ∙ sym (written-here k o (shown f 0 xs) (omega (arith, below, length-shown f 0 xs)))) here
        | inr other ↦
            let apart : suc k ≢ n = λ e. other.1 (sym e) in
            others (suc k) apart ∙ sym (under-given f k xs below) ∙ sym (under-other (suc k) n o (shown f 0 xs) apart)
      ]

  -- one more is given
  pushed : (f : ℕ → Option T) (i : ℕ) (o : Option T) (xs : List (Option T)) → f (suc (i + length xs)) ≡ None → shown f i (xs ++ o ∷ []) ≡ shown f i xs ++ o ∷ []
  pushed f i o [] none = let here : i ≡ i + 0 = omega arith in ap (λ p. or_slot p o ∷ []) (ap (λ n. f (suc n)) here ∙ none)
  pushed f i o (x ∷ xs) none =
      let there : suc i + length xs ≡ i + suc (length xs) = omega arith in
      ap (λ ys. or_slot (f (suc i)) x ∷ ys) (pushed f (suc i) o xs (ap (λ n. f (suc n)) there ∙ none))

  pub shown-push : (f : ℕ → Option T) (o : Option T) (xs : List (Option T)) → f (suc (length xs)) ≡ None → shown f 0 (xs ++ o ∷ []) ≡ shown f 0 xs ++ o ∷ []
  shown-push f o xs none = let from : length xs ≡ 0 + length xs = omega arith in pushed f 0 o xs (sym (ap (λ n. f (suc n)) from) ∙ none)
