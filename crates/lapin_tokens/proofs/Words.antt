-- Bytes up to what ends a value.
use Rattle.std.proofs.Common.{◌≡◌, ℕ, suc, ◌+◌, ◌≤◌, List, [], ◌∷◌, ◌++◌, length, take, drop, Some, None, refl, sym, ap, subst, ◌∙◌, arith, Bool, true, false, cond, ltb, not}
use Rattle.std.specs.Prelude.{position, ◌&&◌}
use Rattle.std.specs.List.{position_or_len}
use Rattle.std.proofs.Common.{inl, inr, ◌≢◌}
use Rattle.std.proofs.lemmas.Bool.{ltb-false, ltb-true, ne_eqb, and_parts, or_cases}
use Rattle.std.proofs.lemmas.List.{take_all, drop_all}
use Rattle.lapin_scalars.specs.Scalars.{is_plain, all_plain}
use Rattle.lapin_tokens.specs.Cursor.{is_separator, word_of, after_word}
use Rattle.lapin_tokens.proofs.Splits.{none_is}

abbrev end_of : List ℕ → ℕ
end_of xs = position_or_len is_separator xs

word_is : (xs : List ℕ) → take (end_of xs) xs ≡ word_of xs
word_is [] = refl
word_is (b ∷ bs) =
    let e : 1 + end_of bs ≡ suc (end_of bs) = omega arith in
    elim (is_separator b) as (λ t. take (cond (not t) (1 + end_of bs) 0) (b ∷ bs) ≡ cond t [] (b ∷ word_of bs)) [ true ↦ refl | false ↦ rw e (ap (λ (w : List ℕ). b ∷ w) (word_is bs)) ]

rest_is : (xs : List ℕ) → drop (end_of xs) xs ≡ after_word xs
rest_is [] = refl
rest_is (b ∷ bs) =
    let e : 1 + end_of bs ≡ suc (end_of bs) = omega arith in
    elim (is_separator b) as (λ t. drop (cond (not t) (1 + end_of bs) 0) (b ∷ bs) ≡ cond t (b ∷ bs) (after_word bs)) [ true ↦ refl | false ↦ rw e (rest_is bs) ]

some_place : (t : Bool) (i j : ℕ) → cond t (Some i) None ≡ Some j → i ≡ j
some_place true i j e = cc
some_place false i j e = absurd cc

pub word_some : (xs : List ℕ) (i : ℕ) → position is_separator xs ≡ Some i → take i xs ≡ word_of xs
word_some xs i e = subst (λ (k : ℕ). take k xs ≡ word_of xs) (some_place (ltb (end_of xs) (length xs)) (end_of xs) i e) (word_is xs)

pub rest_some : (xs : List ℕ) (i : ℕ) → position is_separator xs ≡ Some i → drop i xs ≡ after_word xs
rest_some xs i e = subst (λ (k : ℕ). drop k xs ≡ after_word xs) (some_place (ltb (end_of xs) (length xs)) (end_of xs) i e) (rest_is xs)

past : (xs : List ℕ) → position is_separator xs ≡ None → length xs ≤ end_of xs
past xs e = ltb-false _ _ (none_is (ltb (end_of xs) (length xs)) (end_of xs) e)

pub word_none : (xs : List ℕ) → position is_separator xs ≡ None → xs ≡ word_of xs
word_none xs e = sym (take_all (end_of xs) xs (past xs e)) ∙ word_is xs

pub rest_none : (xs : List ℕ) → position is_separator xs ≡ None → [] ≡ after_word xs
rest_none xs e = sym (drop_all (end_of xs) xs (past xs e)) ∙ rest_is xs

-- ---- what a reader finds

pub word_rest : (xs : List ℕ) → word_of xs ++ after_word xs ≡ xs
word_rest [] = refl
word_rest (b ∷ bs) = elim (is_separator b) as (λ t. cond t [] (b ∷ word_of bs) ++ cond t (b ∷ bs) (after_word bs) ≡ b ∷ bs) [ true ↦ refl | false ↦ ap (λ (t : List ℕ). b ∷ t) (word_rest bs) ]

no_separator : (b : ℕ) → b ≢ 44 → b ≢ 61 → b ≢ 93 → b ≢ 125 → is_separator b ≡ false
no_separator b comma equals bracket brace = rw (ne_eqb b 44 comma, ne_eqb b 61 equals, ne_eqb b 93 bracket, ne_eqb b 125 brace) refl

plain_goes_on : (b : ℕ) → is_plain b ≡ true → is_separator b ≡ false
plain_goes_on b e = elim (or_cases (ltb 44 b && ltb b 61) (ltb 96 b && ltb b 123) e) [
  | inl low ↦ let p = and_parts (ltb 44 b) (ltb b 61) low in let lo = ltb-true _ _ p.0 in let hi = ltb-true _ _ p.1 in
      no_separator b (λ z. omega (arith, z, lo, hi)) (λ z. omega (arith, z, lo, hi)) (λ z. omega (arith, z, lo, hi)) (λ z. omega (arith, z, lo, hi))
  | inr high ↦ let p = and_parts (ltb 96 b) (ltb b 123) high in let lo = ltb-true _ _ p.0 in let hi = ltb-true _ _ p.1 in
      no_separator b (λ z. omega (arith, z, lo, hi)) (λ z. omega (arith, z, lo, hi)) (λ z. omega (arith, z, lo, hi)) (λ z. omega (arith, z, lo, hi))
]

pub word_plain : (xs : List ℕ) (d : ℕ) (rest : List ℕ) → all_plain xs ≡ true → is_separator d ≡ true → word_of (xs ++ d ∷ rest) ≡ xs
word_plain [] d rest p e = rw e refl
word_plain (b ∷ bs) d rest p e =
    let both = and_parts (is_plain b) (all_plain bs) p in
    rw (plain_goes_on b both.0) (ap (λ (t : List ℕ). b ∷ t) (word_plain bs d rest both.1 e))

pub rest_plain : (xs : List ℕ) (d : ℕ) (rest : List ℕ) → all_plain xs ≡ true → is_separator d ≡ true → after_word (xs ++ d ∷ rest) ≡ d ∷ rest
rest_plain [] d rest p e = rw e refl
rest_plain (b ∷ bs) d rest p e =
    let both = and_parts (is_plain b) (all_plain bs) p in
    rw (plain_goes_on b both.0) (rest_plain bs d rest both.1 e)
