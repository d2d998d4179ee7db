-- What the index of a table by channel number tells, and that every place fits in it.
use Rattle.std.proofs.Common.{◌≡◌, ◌≢◌, ℕ, zero, suc, ◌+◌, ◌<◌, ◌≤◌, ◌==◌, true, false, cond, List, [], ◌∷◌, ◌++◌, length, Option, Some, None, refl, sym, ◌∙◌, ap, subst, arith, slice_get, slice_set, get_or, inl, inr, length-append, length-set, replicate}
use Rattle.std.proofs.lemmas.List.{length-replicate}
use Rattle.std.proofs.lemmas.Bool.{cases_lt}
use Rattle.std.proofs.lemmas.Bool.Decides.{eqb_tells}
use Rattle.lapin_tables.specs.ByChannel.{at_channel, on_channel}
use Rattle.lapin_tables.specs.Index.{place_of, IsIndex, IsFitting, placed, one_if}
use Rattle.lapin_tables.proofs.Lists.{get-set_same, get-set_other}
use Rattle.lapin_tables.proofs.Channels.{found, unplaced, place-on, place-push, or-none, nowhere-later}

-- what is there still stands, also where the index reaches further
pub reaches-further : (ps qs : List ℕ) (c p : ℕ) → slice_get ps c ≡ Some p → slice_get (ps ++ qs) c ≡ Some p
reaches-further [] qs c p h = cc
reaches-further (x ∷ ps) qs zero p h = h
reaches-further (x ∷ ps) qs (suc c) p h = reaches-further ps qs c p h

less-or : (c n : ℕ) → c < suc n → c ≢ n → c < n
less-or c n h other = elim (cases_lt c n) [ inl less ↦ less | inr ge ↦ absurd (other (omega arith)) ]

one-at-most : (o : Option ℕ) → one_if o ≤ 1
one-at-most None = omega arith
one-at-most (Some p) = omega arith

module _ {T : Type 0} where
  -- a channel that stands under no place has no entry
  pub no-place : (c : ℕ) (ps : List ℕ) (es : List (ℕ × T)) → IsIndex ps es → slice_get ps c ≡ None → place_of c es ≡ None
  no-place c ps es index none = by-case (place_of c es) (index c)
    where
      by-case : (o : Option ℕ) → ((p : ℕ) → o ≡ Some p → slice_get ps c ≡ Some p) → o ≡ None
      by-case None at = refl
      by-case (Some p) at = cc (at p refl, none)

  -- nor has one under whose place no entry stands
  pub nothing-there : (c p : ℕ) (ps : List ℕ) (es : List (ℕ × T)) → IsIndex ps es → slice_get ps c ≡ Some p → length es ≤ p → place_of c es ≡ None
  nothing-there c p ps es index at past = by-case (place_of c es) refl
    where
      by-case : (o : Option ℕ) → place_of c es ≡ o → place_of c es ≡ None
      by-case None is = is
      by-case (Some q) is =
          let there : Some q ≡ Some p = sym (index c q is) ∙ at in
          absurd (omega (arith, past, (found c p es (is ∙ there)).within))

  -- nor one under whose place another channel's entry stands
  pub another-there : (c p : ℕ) (d : ℕ × T) (ps : List ℕ) (es : List (ℕ × T)) → IsIndex ps es → slice_get ps c ≡ Some p → (get_or es p d).0 ≢ c → place_of c es ≡ None
  another-there c p d ps es index at other = by-case (place_of c es) refl
    where
      by-case : (o : Option ℕ) → place_of c es ≡ o → place_of c es ≡ None
      by-case None is = is
      by-case (Some q) is = absurd (other ((found c p es (is ∙ sym (index c q is) ∙ at)).channel d))

  -- a channel whose entry stands somewhere has a place
  somewhere : (c p : ℕ) (d : ℕ × T) (es : List (ℕ × T)) → p < length es → (get_or es p d).0 ≡ c → place_of c es ≢ None
  somewhere c p d [] within is none = absurd (omega arith)
  somewhere c zero d (e ∷ es) within is none = elim (eqb_tells e.0 c) [
    | inl same ↦ cc (rw same.0 at none)
    | inr other ↦ absurd (other.1 is)
  ]
  somewhere c (suc p) d (e ∷ es) within is none = elim (eqb_tells e.0 c) [
    | inl same ↦ cc (rw same.0 at none)
    | inr other ↦ somewhere c p d es (omega arith) is (nowhere-later (place_of c es) (rw other.0 at none))
  ]

  -- the channel whose entry stands under its place has that place
  pub itself-there : (c p : ℕ) (d : ℕ × T) (ps : List ℕ) (es : List (ℕ × T)) → IsIndex ps es → slice_get ps c ≡ Some p → p < length es → (get_or es p d).0 ≡ c → place_of c es ≡ Some p
  itself-there c p d ps es index at within is = by-case (place_of c es) refl
    where
      by-case : (o : Option ℕ) → place_of c es ≡ o → place_of c es ≡ Some p
      by-case None none = absurd (somewhere c p d es within is none)
      by-case (Some q) some = some ∙ sym (index c q some) ∙ at

  -- ---- an index stays one

  pub index-further : (ps qs : List ℕ) (es : List (ℕ × T)) → IsIndex ps es → IsIndex (ps ++ qs) es
  index-further ps qs es index c p is = reaches-further ps qs c p (index c p is)

  -- as a channel's value changes
  pub index-on : (c : ℕ) (f : T → T) (ps : List ℕ) (es : List (ℕ × T)) → IsIndex ps es → IsIndex ps (on_channel c f es)
  index-on c f ps es index d p is = index d p (sym (place-on c d f es) ∙ is)

  -- as a new channel gets its place
  pub index-push : (c : ℕ) (v : T) (ps : List ℕ) (es : List (ℕ × T)) → IsIndex ps es → c < length ps → at_channel c es ≡ None → IsIndex (slice_set ps c (length es)) (es ++ (c, v) ∷ [])
  index-push c v ps es index within none d p is =
      elim (eqb_tells c d) [
        | inl same ↦
            let P : ℕ → Type 0 = λ k. slice_get (slice_set ps c (length es)) k ≡ Some (length es) in
            let Q : ℕ → Type 0 = λ k. place_of k es ≡ None in
            let nowhere : place_of d es ≡ None = subst Q same.1 (unplaced c es none) in
            let last : place_of d (es ++ (c, v) ∷ []) ≡ Some (length es) = place-push c d v es ∙ rw (nowhere, same.0) refl in
            subst P same.1 (get-set_same ps c (length es) within) ∙ sym last ∙ is
        | inr other ↦
            let before : place_of d (es ++ (c, v) ∷ []) ≡ place_of d es = place-push c d v es ∙ rw other.0 (or-none (place_of d es)) in
            get-set_other ps c d (length es) other.1 ∙ index d p (sym before ∙ is)
      ]

  -- ---- how many have a place

  length-on : (c : ℕ) (f : T → T) (es : List (ℕ × T)) → length (on_channel c f es) ≡ length es
  length-on c f [] = refl
  length-on c f (e ∷ es) = elim (e.0 == c) as (λ b. length (cond b ((e.0, f e.1) ∷ es) (e ∷ on_channel c f es)) ≡ suc (length es)) [
    | true ↦ refl
    | false ↦ ap suc (length-on c f es)
  ]

  placed-within : (n : ℕ) (es : List (ℕ × T)) → placed n es ≤ n
  placed-within zero es = omega arith
  placed-within (suc n) es = omega (arith, placed-within n es, one-at-most (place_of n es))

  pub placed-further : (n k : ℕ) (es : List (ℕ × T)) → placed n es ≤ placed (k + n) es
  placed-further n zero es =
      let same : 0 + n ≡ n = omega arith in
      omega (arith, ap (λ m. placed m es) same)
  placed-further n (suc k) es =
      let same : suc k + n ≡ suc (k + n) = omega arith in
      let one : placed (suc k + n) es ≡ placed (suc (k + n)) es = ap (λ m. placed m es) same in
      omega (arith, one, placed-further n k es)

  pub placed-on : (n c : ℕ) (f : T → T) (es : List (ℕ × T)) → placed n (on_channel c f es) ≡ placed n es
  placed-on zero c f es = refl
  placed-on (suc n) c f es = rw (place-on c n f es, placed-on n c f es) refl

  placed-past : (n c : ℕ) (v : T) (es : List (ℕ × T)) → n ≤ c → placed n (es ++ (c, v) ∷ []) ≡ placed n es
  placed-past zero c v es h = refl
  placed-past (suc n) c v es h = elim (eqb_tells c n) [
    | inl same ↦ absurd (omega (arith, same.1))
    | inr other ↦ rw (place-push c n v es, other.0, or-none (place_of n es), placed-past n c v es (omega arith)) refl
  ]

  pub placed-push : (n c : ℕ) (v : T) (es : List (ℕ × T)) → c < n → at_channel c es ≡ None → placed n (es ++ (c, v) ∷ []) ≡ suc (placed n es)
  placed-push zero c v es h none = absurd (omega arith)
  placed-push (suc n) c v es h none = elim (eqb_tells c n) [
    | inl same ↦
        let Q : ℕ → Type 0 = λ k. place_of k es ≡ None in
        let nowhere : place_of n es ≡ None = subst Q same.1 (unplaced c es none) in
        let here : place_of n (es ++ (c, v) ∷ []) ≡ Some (length es) = place-push c n v es ∙ rw (nowhere, same.0) refl in
        let one : one_if (place_of n (es ++ (c, v) ∷ [])) ≡ 1 = ap one_if here in
        let none-yet : one_if (place_of n es) ≡ 0 = ap one_if nowhere in
        omega (arith, one, none-yet, placed-past n c v es (omega (arith, same.1)))
    | inr other ↦
        let as-was : place_of n (es ++ (c, v) ∷ []) ≡ place_of n es = place-push c n v es ∙ rw other.0 (or-none (place_of n es)) in
        let before : one_if (place_of n (es ++ (c, v) ∷ [])) ≡ one_if (place_of n es) = ap one_if as-was in
        omega (arith, before, placed-push n c v es (less-or c n h other.1) none)
  ]

  -- a new channel's place fits
  pub place-fits : (n c : ℕ) (v : T) (es : List (ℕ × T)) → length es ≤ placed n es → c < n → at_channel c es ≡ None → length es < n
  place-fits n c v es few within none = omega (arith, few, placed-push n c v es within none, placed-within n (es ++ (c, v) ∷ []))

  -- ---- both stay

  pub keeps-further : (ps : List ℕ) (k : ℕ) (es : List (ℕ × T)) → IsFitting ps es → length ps + k ≤ 65536 → IsFitting (ps ++ replicate k 0) es
  keeps-further ps k es fits within =
      let long : length (ps ++ replicate k 0) ≡ length ps + k = length-append ps (replicate k 0) ∙ ap (λ n. length ps + n) (length-replicate k 0) in
      let more = placed-further (length ps) k es in
      let same : placed (length (ps ++ replicate k 0)) es ≡ placed (k + length ps) es = ap (λ n. placed n es) (omega (arith, long)) in
      (index-further ps (replicate k 0) es fits.0, (omega (arith, fits.1.0, more, same), omega (arith, long, within)))

  pub keeps-index : (c : ℕ) (f : T → T) (ps : List ℕ) (es : List (ℕ × T)) → IsFitting ps es → IsFitting ps (on_channel c f es)
  keeps-index c f ps es fits = (index-on c f ps es fits.0, (omega (arith, fits.1.0, length-on c f es, placed-on (length ps) c f es), fits.1.1))

  pub keeps-push : (c : ℕ) (v : T) (ps : List ℕ) (es : List (ℕ × T)) → IsFitting ps es → c < length ps → at_channel c es ≡ None → IsFitting (slice_set ps c (length es)) (es ++ (c, v) ∷ [])
  keeps-push c v ps es fits within none =
      let long : length (es ++ (c, v) ∷ []) ≡ length es + 1 = length-append es ((c, v) ∷ []) in
      let same : length (slice_set ps c (length es)) ≡ length ps = length-set ps c (length es) in
      let further : placed (length (slice_set ps c (length es))) (es ++ (c, v) ∷ []) ≡ placed (length ps) (es ++ (c, v) ∷ []) = ap (λ n. placed n (es ++ (c, v) ∷ [])) same in (
        index-push c v ps es fits.0 within none,
        (omega (arith, fits.1.0, long, further, placed-push (length ps) c v es within none), omega (arith, fits.1.1, same)),
      )
