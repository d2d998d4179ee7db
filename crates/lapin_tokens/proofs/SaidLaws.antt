-- Numbers and flags that are read as their pieces are cut.
use Rattle.std.proofs.Common.{◌≡◌, ◌≢◌, ◌∙◌, ℕ, zero, suc, ◌+◌, ◌*◌, ◌<◌, ◌≤◌, ◌^◌, List, [], ◌∷◌, length, get_or, take, drop, Some, None, refl, sym, ap, subst, arith, Bool, true, false, eqb, ltb, not, length-take}
use Rattle.std.specs.Prelude.{decimal, ◌&&◌, position}
use Rattle.std.specs.List.{slice_split}
use Rattle.std.specs.Str.Parse.{digits_value, AllDigits}
use Rattle.std.proofs.lemmas.Bool.{lt-ltb, and_parts, and_from, not-true}
use Rattle.std.proofs.lemmas.List.{get_or-take, take_all}
use Rattle.std.proofs.Math.Nat.{pow-le-pow_right, pow-suc}
use Rattle.lapin_scalars.proofs.NumberLaws.{num_found, wide_past}
use Rattle.lapin_tokens.specs.Fields.{token}
use Rattle.lapin_tokens.specs.Fields.Field.{flag, number}
use Rattle.lapin_tokens.specs.Reading.{field_at, value_of, has_no_space}
use Rattle.lapin_tokens.proofs.FieldLaws.{field_again}
use Rattle.lapin_tokens.proofs.FirstPlace.{first_here, first_is_position}
use Rattle.lapin_tokens.proofs.Splits.{split_none, split_some}

-- ---- the field of a piece that says it

pub flag_said : (b : Bool) (rest : List (List ℕ)) → field_at flag (token flag b ∷ rest) ≡ Some (b, rest)
flag_said b rest = field_again flag b rest refl

pub number_said : (limit n : ℕ) (rest : List (List ℕ)) → n < limit → n < 2 ^ 64 → field_at (number limit) (decimal n ∷ rest) ≡ Some (n, rest)
number_said limit n rest below small =
    let fit : (ltb n limit && ltb n (2 ^ 64)) ≡ true = and_from (ltb n limit) (ltb n (2 ^ 64)) (lt-ltb _ _ below) (lt-ltb _ _ small) in
    field_again (number limit) n rest fit

pub number_past : (limit n : ℕ) (rest : List (List ℕ)) → limit ≤ n → n < 2 ^ 64 → field_at (number limit) (decimal n ∷ rest) ≡ None
unfolding field_at value_of
number_past limit n rest past small = rw (wide_past (decimal n) n limit refl small past) refl

-- ---- digits

-- the value of so few digits has 64 bits
pub few_digits : (n place : ℕ) → n < 10 ^ place → place ≤ 19 → n < 2 ^ 64
few_digits n place below few =
    let more : 10 ^ place ≤ 10 ^ 19 = pow-le-pow_right (omega arith) few in
    omega (arith, below, more)

-- one more digit
pub digit_more : (n d place : ℕ) → n < 10 ^ place → d < 10 → n * 10 + d < 10 ^ (place + 1)
digit_more n d place below digit =
    let next : place + 1 ≡ suc place = omega arith in
    let one : 10 ^ (place + 1) ≡ 10 ^ place * 10 = ap (λ k. 10 ^ k) next ∙ pow-suc 10 place in
    omega (arith, below, digit, one)

-- the digits up to here are a decimal
pub digits_plain : (line : List ℕ) (n place : ℕ) → place ≤ length line → 0 < place → (1 < place → get_or line 0 0 ≢ 48) → n ≡ digits_value 10 (take place line) → AllDigits 10 (take place line) → n < 2 ^ 64 → take place line ≡ decimal n
digits_plain line n place within some plain value digits small =
    let long : length (take place line) ≡ place = omega (arith, length-take place line, within) in
    let here : take place (take place line) ≡ take place line = take_all place (take place line) (omega (arith, long)) in
    let first : get_or (take place line) 0 0 ≡ get_or line 0 0 = get_or-take place line 0 0 some in
    num_found (take place line) place n (omega (arith, long))
    (record {
      some = omega (arith, long);
      no_zero = λ e. one place some plain (sym first ∙ e) long;
    })
    (value ∙ ap (digits_value 10) (sym here)) (subst (λ (ds : List ℕ). AllDigits 10 ds) (sym here) digits) small
  where
    one : (p : ℕ) → 0 < p → (1 < p → get_or line 0 0 ≢ 48) → get_or line 0 0 ≡ 48 → length (take place line) ≡ p → length (take place line) ≡ 1
    one zero some plain e long = absurd (omega arith)
    one (suc zero) some plain e long = omega arith
    one (suc (suc p)) some plain e long = absurd (plain (omega arith) e)

-- ---- pieces

-- a line without a space is one piece
pub one_piece : (line : List ℕ) (place : ℕ) → length line ≤ place → ((k : ℕ) → k < place → eqb (get_or line k 0) 32 ≡ false) → slice_split (λ b. eqb b 32) line ≡ take place line ∷ []
one_piece line place past before =
    let none : None ≡ position (λ b. eqb b 32) line = first_is_position (λ b. eqb b 32) line None (λ k low below passes. let fails = before k (omega arith) in absurd cc) in
    split_none line (sym none) ∙ ap (λ (p : List ℕ). p ∷ []) (sym (take_all place line past))

-- a space ends the first piece
pub first_piece : (line : List ℕ) (place : ℕ) → place < length line → ((k : ℕ) → k < place → eqb (get_or line k 0) 32 ≡ false) → get_or line place 0 ≡ 32 → slice_split (λ b. eqb b 32) line ≡ take place line ∷ slice_split (λ b. eqb b 32) (drop (place + 1) line)
first_piece line place within before space = split_some line place (sym (first_here (λ b. eqb b 32) line place within before (ap (λ b. eqb b 32) space)))

no_space_at : (word : List ℕ) (k : ℕ) → has_no_space word ≡ true → k < length word → eqb (get_or word k 0) 32 ≡ false
no_space_at [] k none lt = absurd (omega arith)
no_space_at (b ∷ bs) zero none lt = let both = and_parts (not (eqb b 32)) (has_no_space bs) none in not-true (eqb b 32) both.0
no_space_at (b ∷ bs) (suc k) none lt = let both = and_parts (not (eqb b 32)) (has_no_space bs) none in no_space_at bs k both.1 (omega arith)

-- a word with a space behind it is the first piece
pub word_piece : (line word : List ℕ) → length word < length line → take (length word) line ≡ word → get_or line (length word) 0 ≡ 32 → has_no_space word ≡ true → slice_split (λ b. eqb b 32) line ≡ word ∷ slice_split (λ b. eqb b 32) (drop (length word + 1) line)
word_piece line word within is space none =
    let before : (k : ℕ) → k < length word → eqb (get_or line k 0) 32 ≡ false
    = λ k lt. ap (λ b. eqb b 32) (sym (get_or-take (length word) line k 0 lt) ∙ ap (λ (bs : List ℕ). get_or bs k 0) is) ∙ no_space_at word k none lt in
    first_piece line (length word) within before space ∙ ap (λ (p : List ℕ). p ∷ slice_split (λ b. eqb b 32) (drop (length word + 1) line)) is
