-- What a list by name becomes by an edit at the place that a search found.
use Rattle.std.proofs.Common.{◌≡◌, ℕ, zero, suc, ◌<◌, true, false, cond, List, [], ◌∷◌, length, get_or, set, refl, sym, ap, subst, ◌∙◌, arith}
use Rattle.std.specs.List.{insert, remove}
use Rattle.std.specs.declared.cmp.Ordering.{Ordering}
use Rattle.std.specs.declared.cmp.Ordering.TheVariants.{Less, Equal, Greater}
use Rattle.std.specs.FinMap.Entries as entries
use Rattle.lapin_registry.specs.ByName.{name_cmp, is_named, amended, changed, without, all_above, rises, IsAt, IsGapFor}
use Rattle.lapin_registry.proofs.Names.{turned, tied, above_at, has_name, has_lower, has_higher}
use Rattle.std.proofs.lemmas.Bool.{and_parts, cond-true, cond-false}

module _ {X : Type 0} (name_of : X → List ℕ) (n : List ℕ) where
  later : (x : X) (xs : List X) (i : ℕ) → IsAt name_of n (x ∷ xs) (suc i) → IsAt name_of n xs i
  later x xs i at = record { in_range = omega (arith, at.in_range); has_name = λ d. at.has_name d }

  -- a name before the place is below
  before : (x : X) (xs : List X) (i : ℕ) → rises name_of (x ∷ xs) ≡ true → IsAt name_of n (x ∷ xs) (suc i) → name_cmp n (name_of x) ≡ Greater
  before x xs i h at =
      let less : name_cmp (name_of x) (name_of (get_or xs i x)) ≡ Less = above_at name_of (name_of x) xs i x (and_parts _ _ h).0 (omega (arith, at.in_range)) in
      turned n (name_of x) Less (subst (λ m. name_cmp (name_of x) m ≡ Less) (at.has_name x) less)

  after_gap : (x : X) (xs : List X) (i : ℕ) → IsGapFor name_of n (x ∷ xs) (suc i) → IsGapFor name_of n xs i
  after_gap x xs i gap = record {
    in_range = omega (arith, gap.in_range);
    lower_before = λ k d lt. gap.lower_before (suc k) d (omega arith);
    higher_after = λ k d le lt. gap.higher_after (suc k) d (omega arith) (omega arith);
  }

  -- ---- the one of the name through f, or a fresh one

  module _ (fresh : X) (f : X → X) where
    at_order : (o : Ordering) (ls ms us : List X) → o ≡ Equal → entries.by_order o ls ms us ≡ ms
    at_order Less ls ms us e = cc
    at_order Equal ls ms us e = refl
    at_order Greater ls ms us e = cc

    past_order : (o : Ordering) (ls ms us : List X) → o ≡ Greater → entries.by_order o ls ms us ≡ us
    past_order Less ls ms us e = cc
    past_order Equal ls ms us e = cc
    past_order Greater ls ms us e = refl

    below_order : (o : Ordering) (ls ms us : List X) → o ≡ Less → entries.by_order o ls ms us ≡ ls
    below_order Less ls ms us e = refl
    below_order Equal ls ms us e = cc
    below_order Greater ls ms us e = cc

    pub amended_at : (xs : List X) (i : ℕ) (x y : X) → rises name_of xs ≡ true → IsAt name_of n xs i → x ≡ get_or xs i x → y ≡ f x → set xs i y ≡ amended name_of n fresh f xs
    amended_at [] i x y h at is e = absurd (omega (arith, at.in_range))
    amended_at (z ∷ xs) zero x y h at is e =
        let here : y ≡ f z = e ∙ ap f is in
        ap (λ w. w ∷ xs) here ∙ sym (at_order _ _ _ _ (tied n (name_of z) (sym (at.has_name z))))
    amended_at (z ∷ xs) (suc i) x y h at is e =
        ap (λ ws. z ∷ ws) (amended_at xs i x y (and_parts _ _ h).1 (later z xs i at) is e)
        ∙ sym (past_order _ _ _ _ (before z xs i h at))

    pub amended_gap : (xs : List X) (i : ℕ) (y : X) → IsGapFor name_of n xs i → y ≡ f fresh → insert xs i y ≡ amended name_of n fresh f xs
    amended_gap [] zero y gap e = ap (λ w. w ∷ []) e
    amended_gap [] (suc i) y gap e = absurd (omega (arith, gap.in_range))
    amended_gap (z ∷ xs) zero y gap e =
        ap (λ w. w ∷ z ∷ xs) e ∙ sym (below_order _ _ _ _ (turned n (name_of z) Greater (gap.higher_after 0 z (omega arith) (omega arith))))
    amended_gap (z ∷ xs) (suc i) y gap e =
        ap (λ ws. z ∷ ws) (amended_gap xs i y (after_gap z xs i gap) e)
        ∙ sym (past_order _ _ _ _ (turned n (name_of z) Less (gap.lower_before 0 z (omega arith))))

  -- ---- the one of the name, if there is one

  -- no element has the name
  abbrev pub NoneNamed : List X → Type 0
  NoneNamed xs = (i : ℕ) (d : X) → i < length xs → is_named name_of n (get_or xs i d) ≡ false

  none_tail : (x : X) (xs : List X) → NoneNamed (x ∷ xs) → NoneNamed xs
  none_tail x xs none i d p = none (suc i) d (omega arith)

  pub none_in_gap : (xs : List X) (i : ℕ) → IsGapFor name_of n xs i → NoneNamed xs
  none_in_gap [] i gap k d p = absurd (omega arith)
  none_in_gap (x ∷ xs) zero gap k d p = has_higher name_of n _ (turned n _ Greater (gap.higher_after k d (omega arith) p))
  none_in_gap (x ∷ xs) (suc i) gap zero d p = has_lower name_of n _ (turned n _ Less (gap.lower_before 0 d (omega arith)))
  none_in_gap (x ∷ xs) (suc i) gap (suc k) d p = none_in_gap xs i (after_gap x xs i gap) k d (omega arith)

  none_above : (m : List ℕ) (xs : List X) → m ≡ n → all_above name_of m xs ≡ true → NoneNamed xs
  none_above m xs e h k d p = has_higher name_of n _ (subst (λ l. name_cmp l (name_of (get_or xs k d)) ≡ Less) e (above_at name_of m xs k d h p))

  module _ (f : X → X) where
    pub changed_none : (xs : List X) → NoneNamed xs → xs ≡ changed name_of n f xs
    changed_none [] none = refl
    changed_none (x ∷ xs) none =
        ap (λ w. w ∷ xs) (sym (cond-false (is_named name_of n x) (f x) x (none 0 x (omega arith))))
        ∙ ap (λ ws. cond (is_named name_of n x) (f x) x ∷ ws) (changed_none xs (none_tail x xs none))

    pub changed_at : (xs : List X) (i : ℕ) (x y : X) → rises name_of xs ≡ true → IsAt name_of n xs i → x ≡ get_or xs i x → y ≡ f x → set xs i y ≡ changed name_of n f xs
    changed_at [] i x y h at is e = absurd (omega (arith, at.in_range))
    changed_at (z ∷ xs) zero x y h at is e =
        let here : y ≡ f z = e ∙ ap f is in
        ap (λ w. w ∷ xs) (here ∙ sym (cond-true (is_named name_of n z) (f z) z (has_name name_of n z (at.has_name z))))
        ∙ ap (λ ws. cond (is_named name_of n z) (f z) z ∷ ws) (changed_none xs (none_above (name_of z) xs (at.has_name z) (and_parts _ _ h).0))
    changed_at (z ∷ xs) (suc i) x y h at is e =
        ap (λ w. w ∷ set xs i y) (sym (cond-false (is_named name_of n z) (f z) z (has_lower name_of n z (before z xs i h at))))
        ∙ ap (λ ws. cond (is_named name_of n z) (f z) z ∷ ws) (changed_at xs i x y (and_parts _ _ h).1 (later z xs i at) is e)

  pub without_none : (xs : List X) → NoneNamed xs → xs ≡ without name_of n xs
  without_none [] none = refl
  without_none (x ∷ xs) none =
      ap (λ ws. x ∷ ws) (without_none xs (none_tail x xs none))
      ∙ sym (cond-false (is_named name_of n x) (without name_of n xs) (x ∷ without name_of n xs) (none 0 x (omega arith)))

  pub without_at : (xs : List X) (i : ℕ) → rises name_of xs ≡ true → IsAt name_of n xs i → remove xs i ≡ without name_of n xs
  without_at [] i h at = absurd (omega (arith, at.in_range))
  without_at (z ∷ xs) zero h at =
      without_none xs (none_above (name_of z) xs (at.has_name z) (and_parts _ _ h).0)
      ∙ sym (cond-true (is_named name_of n z) (without name_of n xs) (z ∷ without name_of n xs) (has_name name_of n z (at.has_name z)))
  without_at (z ∷ xs) (suc i) h at =
      ap (λ ws. z ∷ ws) (without_at xs i (and_parts _ _ h).1 (later z xs i at))
      ∙ sym (cond-false (is_named name_of n z) (without name_of n xs) (z ∷ without name_of n xs) (has_lower name_of n z (before z xs i h at)))

  -- ---- in the code's words: the list and the name as the search saw them

  at_seen : (m : List ℕ) (us xs : List X) (i : ℕ) → m ≡ n → us ≡ xs → IsAt name_of m us i → IsAt name_of n xs i
  at_seen m us xs i e d at = subst (λ l. IsAt name_of l xs i) e (subst (λ (vs : List X). IsAt name_of m vs i) d at)

  gap_seen : (m : List ℕ) (us xs : List X) (i : ℕ) → m ≡ n → us ≡ xs → IsGapFor name_of m us i → IsGapFor name_of n xs i
  gap_seen m us xs i e d gap = subst (λ l. IsGapFor name_of l xs i) e (subst (λ (vs : List X). IsGapFor name_of m vs i) d gap)

  pub amended_there : (fresh : X) (f : X → X) (m : List ℕ) (us xs zs : List X) (i : ℕ) (x y : X) → rises name_of xs ≡ true → m ≡ n → us ≡ xs → xs ≡ zs → IsAt name_of m us i → x ≡ get_or xs i x → y ≡ f x
      → set xs i y ≡ amended name_of n fresh f zs
  amended_there fresh f m us xs zs i x y h e d v at is became =
      amended_at fresh f xs i x y h (at_seen m us xs i e d at) is became ∙ ap (amended name_of n fresh f) v

  pub amended_beside : (fresh : X) (f : X → X) (m : List ℕ) (us xs zs ys : List X) (i : ℕ) (y z : X) → m ≡ n → us ≡ xs → xs ≡ zs → IsGapFor name_of m us i → z ≡ fresh → y ≡ f z → ys ≡ insert xs i y
      → ys ≡ amended name_of n fresh f zs
  amended_beside fresh f m us xs zs ys i y z e d v gap made became placed =
      placed ∙ amended_gap fresh f xs i y (gap_seen m us xs i e d gap) (became ∙ ap f made) ∙ ap (amended name_of n fresh f) v

  pub changed_there : (f : X → X) (us xs zs : List X) (i : ℕ) (x y : X) → rises name_of xs ≡ true → us ≡ xs → xs ≡ zs → IsAt name_of n us i → x ≡ get_or xs i x → y ≡ f x → set xs i y ≡ changed name_of n f zs
  changed_there f us xs zs i x y h d v at is became =
      changed_at f xs i x y h (at_seen n us xs i refl d at) is became ∙ ap (changed name_of n f) v

  pub changed_nowhere : (f : X → X) (us xs zs : List X) (i : ℕ) → us ≡ xs → xs ≡ zs → IsGapFor name_of n us i → zs ≡ changed name_of n f zs
  changed_nowhere f us xs zs i d v gap = changed_none f zs (none_in_gap zs i (gap_seen n us zs i refl (d ∙ v) gap))

  pub without_there : (us xs zs : List X) (i : ℕ) → rises name_of xs ≡ true → us ≡ xs → xs ≡ zs → IsAt name_of n us i → remove xs i ≡ without name_of n zs
  without_there us xs zs i h d v at = without_at xs i h (at_seen n us xs i refl d at) ∙ ap (without name_of n) v

  pub without_nowhere : (us xs zs : List X) (i : ℕ) → us ≡ xs → xs ≡ zs → IsGapFor name_of n us i → zs ≡ without name_of n zs
  without_nowhere us xs zs i d v gap = without_none zs (none_in_gap zs i (gap_seen n us zs i refl (d ∙ v) gap))
