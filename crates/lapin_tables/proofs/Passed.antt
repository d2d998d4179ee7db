-- Laws of values that were passed over, each beside its number, the numbers rising.
use Rattle.std.proofs.Common.{◌≡◌, ◌≢◌, ℕ, zero, suc, ◌+◌, ◌<◌, ◌≤◌, ◌==◌, cond, List, [], ◌∷◌, ◌++◌, length, replicate, take, drop, Option, Some, None, refl, sym, ◌∙◌, ap, subst, arith, slice_set, get_or, inl, inr, ne_eqb}
use Rattle.std.specs.Option.{option_map}
use Rattle.std.proofs.lemmas.Bool.{cases_lt, eq-eqb}
use Rattle.std.proofs.lemmas.Bool.Decides.{eqb_tells}
use Rattle.lapin_tables.specs.ByChannel.{at_channel}
use Rattle.lapin_tables.specs.Index.{place_of}
use Rattle.lapin_tables.specs.Numbered.{first_kept}
use Rattle.lapin_tables.specs.Behind.{spread, Rises, EndsBy}
use Rattle.lapin_tables.proofs.Channels.{at-push, or-none}

module _ {T : Type 0} where
  -- ---- numbers that rise

  pub rises-weaken : (i j : ℕ) (es : List (ℕ × T)) → i ≤ j → Rises j es → Rises i es
  rises-weaken i j [] h r = r
  rises-weaken i j (e ∷ es) h r = let first : j < e.0 = r.0 in (omega arith, r.1)

  head-is : (n : ℕ) (e : ℕ × T) (es : List (ℕ × T)) → e.0 ≡ n → at_channel n (e ∷ es) ≡ Some e.1
  head-is n e es same = rw (eq-eqb e.0 n same) refl

  head-not : (n : ℕ) (e : ℕ × T) (es : List (ℕ × T)) → e.0 ≢ n → at_channel n (e ∷ es) ≡ at_channel n es
  head-not n e es apart = rw (ne_eqb e.0 n apart) refl

  pub rises-below : (i n : ℕ) (es : List (ℕ × T)) → Rises i es → n ≤ i → at_channel n es ≡ None
  rises-below i n [] r h = refl
  rises-below i n (e ∷ es) r h =
      let first : i < e.0 = r.0 in
      head-not n e es (omega arith) ∙ rises-below e.0 n es r.1 (omega arith)

  pub rises-at : (i p : ℕ) (es : List (ℕ × T)) (d : ℕ × T) → Rises i es → p < length es → i < (get_or es p d).0
  rises-at i p [] d r h = absurd (omega arith)
  rises-at i zero (e ∷ es) d r h = r.0
  rises-at i (suc p) (e ∷ es) d r h =
      let first : i < e.0 = r.0 in
      let rest : e.0 < (get_or es p d).0 = rises-at e.0 p es d r.1 (omega arith) in
      omega arith

  pub rises-order : (i p q : ℕ) (es : List (ℕ × T)) (d : ℕ × T) → Rises i es → p < q → q < length es → (get_or es p d).0 < (get_or es q d).0
  rises-order i p q [] d r h within = absurd (omega arith)
  rises-order i p zero (e ∷ es) d r h within = absurd (omega arith)
  rises-order i zero (suc q) (e ∷ es) d r h within = rises-at e.0 q es d r.1 (omega arith)
  rises-order i (suc p) (suc q) (e ∷ es) d r h within = rises-order e.0 p q es d r.1 (omega arith) (omega arith)

  pub place-known : (i p n : ℕ) (es : List (ℕ × T)) (d : ℕ × T) → Rises i es → p < length es → (get_or es p d).0 ≡ n → place_of n es ≡ Some p
  place-known i p n [] d r h is = absurd (omega arith)
  place-known i zero n (e ∷ es) d r h is = rw (eq-eqb e.0 n is) refl
  place-known i (suc p) n (e ∷ es) d r h is =
      let above : e.0 < (get_or es p d).0 = rises-at e.0 p es d r.1 (omega arith) in
      rw (ne_eqb e.0 n (omega arith)) (ap (option_map suc) (place-known e.0 p n es d r.1 (omega arith) is))

  pub place-unknown : (n : ℕ) (es : List (ℕ × T)) → ((p : ℕ) (d : ℕ × T) → p < length es → (get_or es p d).0 ≢ n) → place_of n es ≡ None
  place-unknown n [] not = refl
  place-unknown n (e ∷ es) not = rw (ne_eqb e.0 n (not 0 e (omega arith))) (ap (option_map suc) (place-unknown n es (λ p d h. not (suc p) d (omega arith))))

  head-below : (n : ℕ) (e : ℕ × T) (es : List (ℕ × T)) → ((m : ℕ) → n ≤ m → at_channel m (e ∷ es) ≡ None) → e.0 < n
  head-below n e es none =
      elim (cases_lt e.0 n) [
        | inl below ↦ below
        | inr past ↦ let no : Some e.1 ≡ None = sym (head-is e.0 e es refl) ∙ none e.0 past in cc
      ]

  pub rises-push : (i n : ℕ) (v : T) (es : List (ℕ × T)) → Rises i es → i < n → ((m : ℕ) → n ≤ m → at_channel m es ≡ None) → Rises i (es ++ (n, v) ∷ [])
  rises-push i n v [] r h none = (h, tt)
  rises-push i n v (e ∷ es) r h none =
      let below : e.0 < n = head-below n e es none in
      (r.0, rises-push e.0 n v es r.1 below (λ m past. sym (head-not m e es (omega arith)) ∙ none m past))

  -- ---- one of them is taken out

  pub rises-remove : (i p : ℕ) (es : List (ℕ × T)) → Rises i es → Rises i (take p es ++ drop (suc p) es)
  rises-remove i zero [] r = r
  rises-remove i (suc p) [] r = r
  rises-remove i zero (e ∷ es) r = let first : i < e.0 = r.0 in rises-weaken i e.0 es (omega arith) r.1
  rises-remove i (suc p) (e ∷ es) r = (r.0, rises-remove e.0 p es r.1)

  pub removed-gone : (i p n : ℕ) (es : List (ℕ × T)) → Rises i es → place_of n es ≡ Some p → at_channel n (take p es ++ drop (suc p) es) ≡ None
  removed-gone i p n [] r h = cc
  removed-gone i p n (e ∷ es) r h =
      elim (eqb_tells e.0 n) [
        | inl same ↦ gone-first p (rw same.0 at h) same.1
        | inr other ↦ gone-later p (place_of n es) (rw other.0 at h) (λ q. removed-gone e.0 q n es r.1) other.1
      ]
    where
      gone-first : (p : ℕ) → Some 0 ≡ Some p → e.0 ≡ n → at_channel n (take p (e ∷ es) ++ drop (suc p) (e ∷ es)) ≡ None
      gone-first zero h same = rises-below e.0 n es r.1 (omega arith)
      gone-first (suc p) h same = cc

      gone-later : (p : ℕ) (o : Option ℕ) → option_map suc o ≡ Some p → ((q : ℕ) → o ≡ Some q → at_channel n (take q es ++ drop (suc q) es) ≡ None) → e.0 ≢ n → at_channel n (take p (e ∷ es) ++ drop (suc p) (e ∷ es)) ≡ None
      gone-later p None h rest apart = cc
      gone-later zero (Some q) h rest apart = cc
      gone-later (suc p) (Some q) h rest apart = let same : Some q ≡ Some p = cc in head-not n e (take p es ++ drop (suc p) es) apart ∙ rest p same

  pub removed-other : (p n m : ℕ) (es : List (ℕ × T)) → place_of n es ≡ Some p → m ≢ n → at_channel m (take p es ++ drop (suc p) es) ≡ at_channel m es
  removed-other p n m [] h apart = cc
  removed-other p n m (e ∷ es) h apart =
      elim (eqb_tells e.0 n) [
        | inl same ↦ other-first p (rw same.0 at h) same.1
        | inr other ↦ other-later p (place_of n es) (rw other.0 at h) (λ q placed. removed-other q n m es placed apart)
      ]
    where
      other-first : (p : ℕ) → Some 0 ≡ Some p → e.0 ≡ n → at_channel m (take p (e ∷ es) ++ drop (suc p) (e ∷ es)) ≡ at_channel m (e ∷ es)
      other-first zero h same = sym (head-not m e es (omega arith))
      other-first (suc p) h same = cc

      other-later : (p : ℕ) (o : Option ℕ) → option_map suc o ≡ Some p → ((q : ℕ) → o ≡ Some q → at_channel m (take q es ++ drop (suc q) es) ≡ at_channel m es) → at_channel m (take p (e ∷ es) ++ drop (suc p) (e ∷ es)) ≡ at_channel m (e ∷ es)
      other-later p None h rest = cc
      other-later zero (Some q) h rest = cc
      other-later (suc p) (Some q) h rest = let same : Some q ≡ Some p = cc in ap (λ o. cond (e.0 == m) (Some e.1) o) (rest p same)

  -- ---- the slots of so many numbers

  pub length_spread : (i g : ℕ) (es : List (ℕ × T)) → length (spread i g es) ≡ g
  length_spread i zero es = refl
  length_spread i (suc g) es = ap suc (length_spread (suc i) g es)

  pub spread-none : (i g : ℕ) (es : List (ℕ × T)) → EndsBy i es → spread i g es ≡ replicate g None
  spread-none i zero es none = refl
  spread-none i (suc g) es none =
      let first : at_channel (suc i) es ≡ None = none (suc i) (omega arith) in
      let rest : spread (suc i) g es ≡ replicate g None = spread-none (suc i) g es (λ n h. none n (omega arith)) in
      cc

  pub spread-agree : (i g : ℕ) (es fs : List (ℕ × T)) → ((n : ℕ) → i < n → at_channel n fs ≡ at_channel n es) → spread i g es ≡ spread i g fs
  spread-agree i zero es fs same = refl
  spread-agree i (suc g) es fs same =
      let first : at_channel (suc i) fs ≡ at_channel (suc i) es = same (suc i) (omega arith) in
      let rest : spread (suc i) g es ≡ spread (suc i) g fs = spread-agree (suc i) g es fs (λ n h. same n (omega arith)) in
      cc

  -- one more, whose value is none of these
  pub spread-next : (i g : ℕ) (o : Option T) (es fs : List (ℕ × T)) (xs : List (Option T)) → at_channel (i + g + 1) fs ≡ o → ((n : ℕ) → n < i + g + 1 → at_channel n fs ≡ at_channel n es) → spread i (suc g) fs ++ xs ≡ spread i g es ++ o ∷ xs
  spread-next i zero o es fs xs here same =
      let at : i + zero + 1 ≡ suc i = omega arith in
      let first : at_channel (suc i) fs ≡ o = subst (λ n. at_channel n fs ≡ o) at here in
      ap (λ p. p ∷ xs) first
  spread-next i (suc g) o es fs xs here same =
      let at : i + suc g + 1 ≡ suc i + g + 1 = omega arith in
      let first : at_channel (suc i) fs ≡ at_channel (suc i) es = same (suc i) (omega arith) in
      let rest : spread (suc i) (suc g) fs ++ xs ≡ spread (suc i) g es ++ o ∷ xs = spread-next (suc i) g o es fs xs (subst (λ n. at_channel n fs ≡ o) at here) (λ n h. same n (omega arith)) in
      ap (λ p. p ∷ spread (suc i) (suc g) fs ++ xs) first ∙ ap (λ ys. at_channel (suc i) es ∷ ys) rest

  -- more were let go behind them
  pub spread-let_go : (i a b : ℕ) (es : List (ℕ × T)) (xs ys : List (Option T)) → a ≤ b → EndsBy (i + a) es → replicate b None ++ ys ≡ replicate a None ++ xs → spread i b es ++ ys ≡ spread i a es ++ xs
  spread-let_go i zero b es xs ys h none same = ap (λ zs. zs ++ ys) (spread-none i b es (λ n past. none n (omega arith))) ∙ same
  spread-let_go i (suc a) zero es xs ys h none same = absurd (omega arith)
  spread-let_go i (suc a) (suc b) es xs ys h none same =
      let rest : replicate b None ++ ys ≡ replicate a None ++ xs = cc in
      ap (λ zs. at_channel (suc i) es ∷ zs) (spread-let_go (suc i) a b es xs ys (omega arith) (λ n past. none n (omega arith)) rest)

  pub get-spread : (i g k : ℕ) (es : List (ℕ × T)) (xs : List (Option T)) → k < g → get_or (spread i g es ++ xs) k None ≡ at_channel (i + k + 1) es
  get-spread i zero k es xs h = absurd (omega arith)
  get-spread i (suc g) zero es xs h = let at : suc i ≡ i + zero + 1 = omega arith in ap (λ n. at_channel n es) at
  get-spread i (suc g) (suc k) es xs h = let at : suc i + k + 1 ≡ i + suc k + 1 = omega arith in get-spread (suc i) g k es xs (omega arith) ∙ ap (λ n. at_channel n es) at

  pub set-spread : (i g k : ℕ) (o : Option T) (es fs : List (ℕ × T)) (xs : List (Option T)) → k < g → at_channel (i + k + 1) fs ≡ o → ((n : ℕ) → n ≢ i + k + 1 → at_channel n fs ≡ at_channel n es) → slice_set (spread i g es ++ xs) k o ≡ spread i g fs ++ xs
  set-spread i zero k o es fs xs h here same = absurd (omega arith)
  set-spread i (suc g) zero o es fs xs h here same =
      let at : i + zero + 1 ≡ suc i = omega arith in
      let first : o ≡ at_channel (suc i) fs = sym (subst (λ n. at_channel n fs ≡ o) at here) in
      let rest : spread (suc i) g es ≡ spread (suc i) g fs = spread-agree (suc i) g es fs (λ n past. same n (omega arith)) in
      ap (λ p. p ∷ spread (suc i) g es ++ xs) first ∙ ap (λ ys. at_channel (suc i) fs ∷ ys ++ xs) rest
  set-spread i (suc g) (suc k) o es fs xs h here same =
      let at : i + suc k + 1 ≡ suc i + k + 1 = omega arith in
      let first : at_channel (suc i) es ≡ at_channel (suc i) fs = sym (same (suc i) (omega arith)) in
      let rest : slice_set (spread (suc i) g es ++ xs) k o ≡ spread (suc i) g fs ++ xs = set-spread (suc i) g k o es fs xs (omega arith) (subst (λ n. at_channel n fs ≡ o) at here) (λ n apart. same n (omega arith)) in
      ap (λ p. p ∷ slice_set (spread (suc i) g es ++ xs) k o) first ∙ ap (λ ys. at_channel (suc i) fs ∷ ys) rest

  first-later : (i k : ℕ) (e : ℕ × T) (es : List (ℕ × T)) → Rises e.0 es → e.0 ≡ i + suc k + 1 → at_channel (suc i) (e ∷ es) ≡ None
  first-later i k e es r is = head-not (suc i) e es (omega arith) ∙ rises-below e.0 (suc i) es r (omega arith)

  pub first-spread : (i g k : ℕ) (e : ℕ × T) (es : List (ℕ × T)) (xs : List (Option T)) → Rises e.0 es → e.0 ≡ i + k + 1 → k < g → first_kept (spread i g (e ∷ es) ++ xs) ≡ Some (k + 1)
  first-spread i zero k e es xs r is h = absurd (omega arith)
  first-spread i (suc g) zero e es xs r is h =
      let here : at_channel (suc i) (e ∷ es) ≡ Some e.1 = head-is (suc i) e es (omega arith) in
      ap (λ o. first_kept (o ∷ spread (suc i) g (e ∷ es) ++ xs)) here
  first-spread i (suc g) (suc k) e es xs r is h =
      let next : suc (k + 1) ≡ suc k + 1 = omega arith in
      ap (λ o. first_kept (o ∷ spread (suc i) g (e ∷ es) ++ xs)) (first-later i k e es r is) ∙ ap (option_map suc) (first-spread (suc i) g k e es xs r (omega arith) (omega arith)) ∙ ap Some next

  pub first-passed : (g : ℕ) (e : ℕ × T) (es : List (ℕ × T)) (xs : List (Option T)) → Rises 0 (e ∷ es) → EndsBy g (e ∷ es) → first_kept (spread 0 g (e ∷ es) ++ xs) ≡ Some e.0
  first-passed g (zero, v) es xs r ends = let no : 0 < zero = r.0 in absurd (omega arith)
  first-passed g (suc k, v) es xs r ends =
      let below : suc k < suc g = head-below (suc g) (suc k, v) es (λ m past. ends m (omega arith)) in
      let same : k + 1 ≡ suc k = omega arith in
      first-spread 0 g k (suc k, v) es xs r.1 (omega arith) (omega arith) ∙ ap Some same

  pub passed-next : (g m : ℕ) (o : Option T) (es fs : List (ℕ × T)) (xs : List (Option T)) → m ≡ g + 1 → at_channel m fs ≡ o → ((n : ℕ) → n < m → at_channel n fs ≡ at_channel n es) → spread 0 m fs ++ xs ≡ spread 0 g es ++ o ∷ xs
  passed-next g m o es fs xs is here same =
      let next : m ≡ suc g = omega arith in
      let at : m ≡ 0 + g + 1 = omega arith in
      ap (λ k. spread 0 k fs ++ xs) next ∙ spread-next 0 g o es fs xs (subst (λ n. at_channel n fs ≡ o) at here) (λ n h. same n (omega arith))

  -- ---- what a search reads in the middle

  read-any : (p : ℕ) (es : List (ℕ × T)) (d e : ℕ × T) → p < length es → get_or es p d ≡ get_or es p e
  read-any p [] d e h = absurd (omega arith)
  read-any zero (f ∷ es) d e h = refl
  read-any (suc p) (f ∷ es) d e h = read-any p es d e (omega arith)

  pub below-middle : (k m n : ℕ) (es : List (ℕ × T)) (d read : ℕ × T) → Rises 0 es → k ≤ m → m < length es → read ≡ get_or es m read → read.0 < n → (get_or es k d).0 < n
  below-middle k m n es d read r h within is small =
      let here : read ≡ get_or es m d = is ∙ read-any m es read d within in
      let below : (get_or es m d).0 < n = subst (λ (e : ℕ × T). e.0 < n) here small in
      elim (cases_lt k m) [
        | inl less ↦ let order : (get_or es k d).0 < (get_or es m d).0 = rises-order 0 k m es d r less within in omega arith
        | inr past ↦ let same : m ≡ k = omega arith in subst (λ i. (get_or es i d).0 < n) same below
      ]

  pub above-middle : (k m n : ℕ) (es : List (ℕ × T)) (d read : ℕ × T) → Rises 0 es → m ≤ k → k < length es → read ≡ get_or es m read → n < read.0 → n < (get_or es k d).0
  above-middle k m n es d read r h within is great =
      let inside : m < length es = omega arith in
      let here : read ≡ get_or es m d = is ∙ read-any m es read d inside in
      let above : n < (get_or es m d).0 = subst (λ (e : ℕ × T). n < e.0) here great in
      elim (cases_lt m k) [
        | inl less ↦ let order : (get_or es m d).0 < (get_or es k d).0 = rises-order 0 m k es d r less within in omega arith
        | inr past ↦ let same : m ≡ k = omega arith in subst (λ i. n < (get_or es i d).0) same above
      ]

  -- ---- one more stands beside its number

  pub push-value : (n : ℕ) (v : T) (es : List (ℕ × T)) → at_channel n es ≡ None → at_channel n (es ++ (n, v) ∷ []) ≡ Some v
  push-value n v es none = at-push n n v es ∙ rw (none, eq-eqb n n refl) refl

  pub push-other : (n m : ℕ) (v : T) (es : List (ℕ × T)) → m ≢ n → at_channel m (es ++ (n, v) ∷ []) ≡ at_channel m es
  push-other n m v es apart = at-push n m v es ∙ rw (ne_eqb n m (λ e. apart (sym e))) (or-none (at_channel m es))
