-- Bytes as pairs of hexadecimal digits, and short texts.
use Rattle.std.proofs.Common.{◌≡◌, ℕ, suc, Bool, cond, ◌++◌, ◌+◌, ◌-◌, ◌*◌, ◌/◌, ◌%◌, ◌<◌, ◌≤◌, ◌≢◌, zero, false, arith, take, drop, List, [], ◌∷◌, length, get_or, Option, Some, None, refl, sym, ap, subst, ◌∙◌, true, ltb, leb, inl, inr}
use Rattle.std.specs.Prelude.{◌&&◌, ◌==◌, not}
use Rattle.std.specs.Int.{from_le_bytes, w16}
use Rattle.std.specs.Simd.{first_chunks}
use Rattle.std.proofs.lemmas.Bool.{cases_lt, eqb-true, and_parts, and_from, or_cases, not-true}
use Rattle.std.proofs.lemmas.List.{append_assoc, append-nil, get_or_past, get_or-drop, get_or-take, drop-drop, take_all, take_more}
use Rattle.std.specs.Str.{is_utf8, IsUtf8}
use Rattle.std.proofs.lemmas.Str.{IsUtf8-nil, IsUtf8-from_is_utf8, is_utf8-from_IsUtf8}
use Rattle.std.proofs.lemmas.Bool.{lt-ltb, ltb-true, leb-true, le-leb}
use Rattle.hex.specs.Hex.{IsBytes, encode_lower, encode_with, lower_digits}
use Rattle.hex.proofs.HexLemmas.{length-encode_with}
use Rattle.lapin_scalars.specs.declared.fault.ReadError.{ReadError}
use Rattle.lapin_scalars.specs.declared.fault.ReadError.TheVariants as errors
use Rattle.lapin_scalars.specs.Scalars.{scalar_fits, are_bytes}
use Rattle.lapin_scalars.specs.Scalars.Scalar.{text, bytes, pairs}
use Rattle.lapin_scalars.specs.Reading.{Fails, scalar_of}
use Rattle.lapin_scalars.specs.Digits.{is_digit, all_digits}
use Rattle.lapin_scalars.proofs.ScalarLaws.{bytes_fit, scalar_again, scalar_found, is_scalar}

pub fit_bytes : (s : List ℕ) → ((i : ℕ) → get_or s i 0 < 256) → are_bytes s ≡ true
fit_bytes [] h = refl
fit_bytes (b ∷ bs) h = and_from (ltb b 256) (are_bytes bs) (lt-ltb _ _ (h 0)) (fit_bytes bs (λ i. h (suc i)))

-- ---- the digits of the table

abbrev below : (ℕ → Bool) → ℕ → Bool
below test zero = true
below test (suc n) = test n && below test n

below-at : (test : ℕ → Bool) (n k : ℕ) → below test n ≡ true → k < n → test k ≡ true
below-at test zero k h lt = absurd (omega arith)
below-at test (suc n) k h lt =
    let parts = and_parts (test n) (below test n) h in
    elim (cases_lt k n) [
      | inl under ↦ below-at test n k parts.1 under
      | inr top ↦
          let e : k ≡ n = omega arith in
          rw e parts.0
    ]

pub number_text : (d : ℕ) → d < 10 → get_or lower_digits d 0 ≡ 48 + d
number_text d lt = eqb-true (get_or lower_digits d 0) (48 + d) (below-at (λ (n : ℕ). get_or lower_digits n 0 == 48 + n) 10 d refl lt)

pub letter_text : (d : ℕ) → 10 ≤ d → d < 16 → get_or lower_digits d 0 ≡ 97 + (d - 10)
letter_text d low high =
    let e : 10 + (d - 10) ≡ d = omega arith in
    sym (ap (λ (k : ℕ). get_or lower_digits k 0) e)
    ∙ eqb-true (get_or lower_digits (10 + (d - 10)) 0) (97 + (d - 10)) (below-at (λ (n : ℕ). get_or lower_digits (10 + n) 0 == 97 + n) 6 (d - 10) refl (omega arith))

-- what a digit says, by its bits
pub value_text : (c v : ℕ) → is_digit c ≡ true → v ≡ c % 16 + 9 * (c / 64) → (v < 16) × (get_or lower_digits v 0 ≡ c)
value_text c v h e = elim (or_cases (leb 48 c && leb c 57) (leb 97 c && leb c 102) h) [
  | inl number ↦
      let p = and_parts (leb 48 c) (leb c 57) number in
      let low : 48 ≤ c = leb-true _ _ p.0 in
      let high : c ≤ 57 = leb-true _ _ p.1 in
      let d : v ≡ c - 48 = omega (arith, e, low, high) in
      (omega (arith, d, low, high), number_text v (omega (arith, d, low, high)) ∙ omega (arith, d, low, high))
  | inr letter ↦
      let p = and_parts (leb 97 c) (leb c 102) letter in
      let low : 97 ≤ c = leb-true _ _ p.0 in
      let high : c ≤ 102 = leb-true _ _ p.1 in
      let d : v ≡ c - 87 = omega (arith, e, low, high) in
      (omega (arith, d, low, high), letter_text v (omega (arith, d, low, high)) (omega (arith, d, low, high)) ∙ omega (arith, d, low, high))
]

-- what a pair of digits says, by its bits
pub pair_text : (n v : ℕ) → is_digit (n % 256) ≡ true → is_digit (n / 256) ≡ true → v ≡ 16 * (n % 16 + 9 * (n / 64 % 2)) + (n / 256 % 16 + 9 * (n / 16384))
    → (get_or lower_digits (v / 16) 0 ≡ n % 256) × (get_or lower_digits (v % 16) 0 ≡ n / 256)
pair_text n v first second e =
    let x : ℕ = n % 256 % 16 + 9 * (n % 256 / 64) in
    let y : ℕ = n / 256 % 16 + 9 * (n / 256 / 64) in
    let p = value_text (n % 256) x first refl in
    let q = value_text (n / 256) y second refl in
    let low : n % 16 ≡ n % 256 % 16 = omega arith in
    let up : n / 64 % 2 ≡ n % 256 / 64 = omega (arith, p.0) in
    let far : n / 16384 ≡ n / 256 / 64 = omega arith in
    let sum : v ≡ 16 * x + y = omega (arith, e, low, up, far) in
    let high : v / 16 ≡ x = omega (arith, sum, q.0) in
    let rest : v % 16 ≡ y = omega (arith, sum, q.0) in
    (ap (λ (k : ℕ). get_or lower_digits k 0) high ∙ p.1, ap (λ (k : ℕ). get_or lower_digits k 0) rest ∙ q.1)

-- what a byte and its value in a table say: a digit, or none
abbrev says : ℕ → ℕ → Bool
says c v = cond (ltb v 16) (is_digit c && (get_or lower_digits v 0 == c)) (not (is_digit c))

says_so : (c v : ℕ) (low : Bool) → ltb v 16 ≡ low → cond low (is_digit c && (get_or lower_digits v 0 == c)) (not (is_digit c)) ≡ true
    → (v < 16 → (is_digit c ≡ true) × (get_or lower_digits v 0 ≡ c)) × (16 ≤ v → is_digit c ≡ false)
says_so c v true e h =
    let p = and_parts (is_digit c) (get_or lower_digits v 0 == c) h in
    let small = ltb-true v 16 e in
    (λ lt. (p.0, eqb-true (get_or lower_digits v 0) c p.1), λ past. absurd (omega (arith, past, small)))
says_so c v false e h = (λ lt. let yes = lt-ltb v 16 lt in absurd cc, λ past. not-true (is_digit c) h)

-- what a table of all bytes says of one of them
pub value_said : (table : List ℕ) (c : ℕ) → below (λ (b : ℕ). says b (get_or table b 0)) 256 ≡ true → c < 256
    → (get_or table c 0 < 16 → (is_digit c ≡ true) × (get_or lower_digits (get_or table c 0) 0 ≡ c)) × (16 ≤ get_or table c 0 → is_digit c ≡ false)
value_said table c h lt = says_so c (get_or table c 0) (ltb (get_or table c 0) 16) refl (below-at (λ (b : ℕ). says b (get_or table b 0)) 256 c h lt)

pub digit_within : (cs : List ℕ) (i : ℕ) → all_digits cs ≡ true → i < length cs → is_digit (get_or cs i 0) ≡ true
digit_within [] i e lt = absurd (omega arith)
digit_within (c ∷ cs) zero e lt = (and_parts (is_digit c) (all_digits cs) e).0
digit_within (c ∷ cs) (suc i) e lt = digit_within cs i (and_parts (is_digit c) (all_digits cs) e).1 (omega arith)

-- ---- what digits are the text of

within_table : (k : ℕ) → is_digit (get_or lower_digits k 0) ≡ true → k < 16
within_table k h = elim (cases_lt k 16) [
  | inl lt ↦ lt
  | inr past ↦
      let zero_there : get_or lower_digits k 0 ≡ 0 = get_or_past lower_digits k 0 past in
      let no : is_digit 0 ≡ true = subst (λ (c : ℕ). is_digit c ≡ true) zero_there h in
      absurd cc
]

are_bytes_behind : (bs : List ℕ) → all_digits (encode_lower bs) ≡ true → are_bytes bs ≡ true
unfolding encode_with
are_bytes_behind [] h = refl
are_bytes_behind (b ∷ bs) h =
    let p = and_parts (is_digit (get_or lower_digits (b / 16) 0)) (is_digit (get_or lower_digits (b % 16) 0) && all_digits (encode_lower bs)) h in
    let q = and_parts (is_digit (get_or lower_digits (b % 16) 0)) (all_digits (encode_lower bs)) p.1 in
    let small = within_table (b / 16) p.0 in
    and_from (ltb b 256) (are_bytes bs) (lt-ltb _ _ (omega (arith, small))) (are_bytes_behind bs q.1)

pub pairs_some : (digits bs : List ℕ) → all_digits digits ≡ true → encode_lower bs ≡ digits → scalar_of pairs digits ≡ Some bs
pairs_some digits bs all same = ap (scalar_of pairs) (sym same) ∙ scalar_again pairs bs (are_bytes_behind bs (ap all_digits same ∙ all))

all_digits_text : (bs : List ℕ) → IsBytes bs → all_digits (encode_lower bs) ≡ true
unfolding encode_with
all_digits_text [] h = refl
all_digits_text (b ∷ bs) h =
    let fits : b < 256 = h 0 in
    let high = digit_within lower_digits (b / 16) refl (omega arith) in
    let low = digit_within lower_digits (b % 16) refl (omega arith) in
    and_from (is_digit (get_or lower_digits (b / 16) 0)) (is_digit (get_or lower_digits (b % 16) 0) && all_digits (encode_lower bs)) high
    (and_from (is_digit (get_or lower_digits (b % 16) 0)) (all_digits (encode_lower bs)) low (all_digits_text bs (λ i. h (suc i))))

pub pairs_odd : (digits : List ℕ) → length digits % 2 ≢ 0 → scalar_of pairs digits ≡ None
pairs_odd digits odd = sym (is_scalar pairs digits None (λ v fit t. let two = length-encode_with lower_digits v in let e = ap length t in odd (omega (arith, two, e))))

pub pairs_other : (digits : List ℕ) → all_digits digits ≡ false → scalar_of pairs digits ≡ None
pairs_other digits other = sym (is_scalar pairs digits None (λ v fit t. let all = all_digits_text v (bytes_fit v fit) in let e = ap all_digits t in cc))

-- ---- loops over digits

and_true : (b : Bool) → (b && true) ≡ b
and_true true = refl
and_true false = refl

and_after : (a b c r : Bool) → r ≡ (b && c) → (a && r) ≡ ((a && b) && c)
and_after true b c r e = e
and_after false b c r e = refl

all_digits_push : (cs : List ℕ) (c : ℕ) → all_digits (cs ++ c ∷ []) ≡ (all_digits cs && is_digit c)
all_digits_push [] c = and_true (is_digit c)
all_digits_push (d ∷ cs) c = and_after (is_digit d) (all_digits cs) (is_digit c) (all_digits (cs ++ c ∷ [])) (all_digits_push cs c)

pub all_digits_more : (cs : List ℕ) (i : ℕ) → i < length cs → all_digits (take (i + 1) cs) ≡ (all_digits (take i cs) && is_digit (get_or cs i 0))
all_digits_more cs i lt = ap all_digits (take_more cs i 0 lt) ∙ all_digits_push (take i cs) (get_or cs i 0)

encode_push : (t xs : List ℕ) (b : ℕ) → encode_with t (xs ++ b ∷ []) ≡ encode_with t xs ++ get_or t (b / 16) 0 ∷ get_or t (b % 16) 0 ∷ []
unfolding encode_with
encode_push t [] b = refl
encode_push t (x ∷ xs) b = ap (λ (rest : List ℕ). get_or t (x / 16) 0 ∷ get_or t (x % 16) 0 ∷ rest) (encode_push t xs b)

-- a pair of digits among all pairs
pub pair_at : (k i : ℕ) (xs d : List ℕ) → i < k → get_or (first_chunks 2 k xs) i d ≡ take 2 (drop (2 * i) xs)
pair_at zero i xs d lt = absurd (omega arith)
pair_at (suc k) zero xs d lt = refl
pair_at (suc k) (suc i) xs d lt =
    let two : 2 + 2 * i ≡ 2 * suc i = omega arith in
    pair_at k i (drop 2 xs) d (omega arith) ∙ ap (take 2) (drop-drop (2 * i) 2 xs ∙ ap (λ (n : ℕ). drop n xs) two)

-- the two digits of a pair among all pairs
pub pair_bytes : (xs : List ℕ) (ps : List (List ℕ)) (d : List ℕ) (i : ℕ) → ps ≡ first_chunks 2 (length xs / 2) xs → i < length xs / 2
    → (get_or (get_or ps i d) 0 0 ≡ get_or xs (2 * i) 0) × (get_or (get_or ps i d) 1 0 ≡ get_or xs (2 * i + 1) 0)
pair_bytes xs ps d i whole lt =
    let pair : get_or ps i d ≡ take 2 (drop (2 * i) xs) = ap (λ (p : List (List ℕ)). get_or p i d) whole ∙ pair_at (length xs / 2) i xs d lt in
    let here : 2 * i + 0 ≡ 2 * i = omega arith in (
      ap (λ (p : List ℕ). get_or p 0 0) pair ∙ get_or-take 2 (drop (2 * i) xs) 0 0 (omega arith) ∙ get_or-drop (2 * i) xs 0 0 ∙ ap (λ (k : ℕ). get_or xs k 0) here,
      ap (λ (p : List ℕ). get_or p 1 0) pair ∙ get_or-take 2 (drop (2 * i) xs) 1 0 (omega arith) ∙ get_or-drop (2 * i) xs 1 0,
    )

-- one byte that is no digit is enough
pub other_digits : (cs : List ℕ) (i : ℕ) → i < length cs → is_digit (get_or cs i 0) ≡ false → false ≡ all_digits cs
other_digits cs i lt other = go (all_digits cs) refl
  where
    go : (all : Bool) → all_digits cs ≡ all → false ≡ all
    go false e = refl
    go true e = let yes = digit_within cs i e lt in absurd cc

-- the number that a pair is read as
pub pair_number : (xs : List ℕ) (i : ℕ) → 2 * i + 1 < length xs
    → from_le_bytes w16 (take 2 (drop (2 * i) xs)) ≡ get_or xs (2 * i) 0 + 256 * get_or xs (2 * i + 1) 0
pair_number xs i fits =
    let both : List ℕ = take 2 (drop (2 * i) xs) in
    let here : 2 * i + 0 ≡ 2 * i = omega arith in
    let first : get_or both 0 0 ≡ get_or xs (2 * i) 0 = get_or-take 2 (drop (2 * i) xs) 0 0 (omega arith) ∙ get_or-drop (2 * i) xs 0 0 ∙ ap (λ (k : ℕ). get_or xs k 0) here in
    let second : get_or both 1 0 ≡ get_or xs (2 * i + 1) 0 = get_or-take 2 (drop (2 * i) xs) 1 0 (omega arith) ∙ get_or-drop (2 * i) xs 1 0 in
    omega (arith, first, second)

-- the two digits of a pair that is read as a number
pub pair_digits : (xs : List ℕ) (ps : List (List ℕ)) (d : List ℕ) (i n : ℕ) → ps ≡ first_chunks 2 (length xs / 2) xs → i < length xs / 2
    → n ≡ from_le_bytes w16 (get_or ps i d) → all_digits xs ≡ true
    → (n % 256 ≡ get_or xs (2 * i) 0) × (n / 256 ≡ get_or xs (2 * i + 1) 0) × (is_digit (n % 256) ≡ true) × (is_digit (n / 256) ≡ true)
pair_digits xs ps d i n whole lt e all =
    let first = digit_within xs (2 * i) all (omega arith) in
    let second = digit_within xs (2 * i + 1) all (omega arith) in
    let small = (value_text (get_or xs (2 * i) 0) _ first refl).0 in
    let number = e ∙ ap (from_le_bytes w16) (ap (λ (p : List (List ℕ)). get_or p i d) whole ∙ pair_at (length xs / 2) i xs d lt) ∙ pair_number xs i (omega arith) in
    let low : n % 256 ≡ get_or xs (2 * i) 0 = omega (arith, number, small) in
    let high : n / 256 ≡ get_or xs (2 * i + 1) 0 = omega (arith, number, small) in
    (low, high, ap is_digit low ∙ first, ap is_digit high ∙ second)

-- one byte more is decoded
pub decode_step : (digits out : List ℕ) (i b : ℕ) → 2 * i + 1 < length digits
    → get_or lower_digits (b / 16) 0 ≡ get_or digits (2 * i) 0 → get_or lower_digits (b % 16) 0 ≡ get_or digits (2 * i + 1) 0
    → encode_lower out ≡ take (2 * i) digits → encode_lower (out ++ b ∷ []) ≡ take (2 * (i + 1)) digits
decode_step digits out i b fits first second inv =
    let two : 2 * (i + 1) ≡ 2 * i + 1 + 1 = omega arith in
    let one = take_more digits (2 * i) 0 (omega arith) in
    let other = take_more digits (2 * i + 1) 0 (omega arith) in
    encode_push lower_digits out b
    ∙ rw (inv, first, second, two, other, one) (sym (append_assoc (take (2 * i) digits) (get_or digits (2 * i) 0 ∷ []) (get_or digits (2 * i + 1) 0 ∷ [])))

-- every pair is decoded
pub decode_done : (digits out : List ℕ) (i : ℕ) → length digits ≤ 2 * i → encode_lower out ≡ take (2 * i) digits → encode_lower out ≡ digits
decode_done digits out i h inv = inv ∙ take_all (2 * i) digits h

-- two digits more are read
pub digits_step : (digits : List ℕ) (i : ℕ) → 2 * i + 1 < length digits → is_digit (get_or digits (2 * i) 0) ≡ true → is_digit (get_or digits (2 * i + 1) 0) ≡ true
    → all_digits (take (2 * i) digits) ≡ true → all_digits (take (2 * (i + 1)) digits) ≡ true
digits_step digits i fits first second front =
    let two : 2 * (i + 1) ≡ 2 * i + 1 + 1 = omega arith in
    let one = all_digits_more digits (2 * i) (omega arith) in
    let other = all_digits_more digits (2 * i + 1) (omega arith) in
    ap (λ (k : ℕ). all_digits (take k digits)) two ∙ other ∙ rw (second, one, first, front) refl

-- the digits of one byte more are written
pub encode_step : (front after bs : List ℕ) (i x y : ℕ) → i < length bs
    → x ≡ get_or lower_digits (get_or bs i 0 / 16) 0 → y ≡ get_or lower_digits (get_or bs i 0 % 16) 0
    → after ≡ front ++ encode_lower (take i bs) → (after ++ x ∷ []) ++ y ∷ [] ≡ front ++ encode_lower (take (i + 1) bs)
encode_step front after bs i x y lt ex ey inv =
    let more : encode_lower (take (i + 1) bs) ≡ encode_lower (take i bs) ++ x ∷ y ∷ [] =
    rw (ex, ey) (ap encode_lower (take_more bs i 0 lt) ∙ encode_push lower_digits (take i bs) (get_or bs i 0)) in
    append_assoc after (x ∷ []) (y ∷ []) ∙ ap (λ (t : List ℕ). t ++ x ∷ y ∷ []) inv
    ∙ append_assoc front (encode_lower (take i bs)) (x ∷ y ∷ []) ∙ ap (λ (r : List ℕ). front ++ r) (sym more)

-- the digits of every byte are written
pub encode_done : (front after bs : List ℕ) (i : ℕ) → length bs ≤ i → after ≡ front ++ encode_lower (take i bs) → after ≡ front ++ encode_lower bs
encode_done front after bs i h inv = inv ∙ ap (λ (b : List ℕ). front ++ encode_lower b) (take_all i bs h)

-- no bytes have no digits
pub encode_none : (front bs : List ℕ) → length bs ≡ 0 → front ≡ front ++ encode_lower bs
unfolding encode_with
encode_none front [] e = sym (append-nil front)
encode_none front (b ∷ bs) e = absurd cc

-- ---- behind an x

pub bytes_are_pairs : (piece digits : List ℕ) → piece ≡ 120 ∷ digits → scalar_of bytes piece ≡ scalar_of pairs digits
bytes_are_pairs piece digits is = go (scalar_of pairs digits) refl
  where
    go : (r : Option (List ℕ)) → scalar_of pairs digits ≡ r → scalar_of bytes piece ≡ r
    go (Some v) e = let f = scalar_found pairs digits v e in ap (scalar_of bytes) (is ∙ ap (λ (d : List ℕ). 120 ∷ d) f.is) ∙ scalar_again bytes v f.fits
    go None e = sym (is_scalar bytes piece None (λ v fit t.
        let d : digits ≡ encode_lower v = cc in
        let again = ap (scalar_of pairs) d ∙ scalar_again pairs v fit in
        cc))

pub bytes_no_x : (piece : List ℕ) → ((digits : List ℕ) → piece ≡ 120 ∷ digits → ⊥) → scalar_of bytes piece ≡ None
bytes_no_x piece h = sym (is_scalar bytes piece None (λ v fit t. h (encode_lower v) t))

-- ---- texts

-- the parts of what fits
shorts : (v : List ℕ) → scalar_fits text v ≡ true → (length v ≤ 255) × IsUtf8 v × (are_bytes v ≡ true)
shorts v fit =
    let p = and_parts (leb (length v) 255 && is_utf8 v) (are_bytes v) fit in
    let q = and_parts (leb (length v) 255) (is_utf8 v) p.0 in
    (leb-true _ _ q.0, IsUtf8-from_is_utf8 v q.1, p.1)

pub text_some : (piece v : List ℕ) → scalar_of bytes piece ≡ Some v → length v ≤ 255 → IsUtf8 v → scalar_of text piece ≡ Some v
text_some piece v e short utf8 =
    let k = scalar_found bytes piece v e in
    ap (scalar_of text) k.is ∙ scalar_again text v (and_from (leb (length v) 255 && is_utf8 v) (are_bytes v) (and_from (leb (length v) 255) (is_utf8 v) (le-leb _ _ short) (is_utf8-from_IsUtf8 v utf8)) k.fits)

-- an x alone is the empty text
pub text_empty : (digits : List ℕ) → length digits ≡ 0 → scalar_of text (120 ∷ digits) ≡ Some []
unfolding encode_with
text_empty [] e = text_some (120 ∷ []) [] (scalar_again bytes [] refl) (omega arith) IsUtf8-nil
text_empty (d ∷ ds) e = absurd cc

-- the bytes are those of no text
pub text_other : (piece v : List ℕ) → scalar_of bytes piece ≡ Some v → (length v ≤ 255 → IsUtf8 v → ⊥) → scalar_of text piece ≡ None
text_other piece v e other = sym (is_scalar text piece None (λ w fit t.
    let p = shorts w fit in
    let s = ap (scalar_of bytes) t ∙ scalar_again bytes w p.2 in
    let same : w ≡ v = cc in
    other (subst (λ (x : List ℕ). length x ≤ 255) same p.0) (subst (λ (x : List ℕ). IsUtf8 x) same p.1)))

pub text_none : (piece : List ℕ) → scalar_of bytes piece ≡ None → scalar_of text piece ≡ None
text_none piece e = sym (is_scalar text piece None (λ w fit t. let p = shorts w fit in let s = ap (scalar_of bytes) t ∙ scalar_again bytes w p.2 in cc))

pub text_fails : (e : ReadError) (piece : List ℕ) → Fails e (scalar_of bytes piece) → Fails e (scalar_of text piece)
text_fails errors.Memory piece h = tt
text_fails errors.Bad piece h = text_none piece h
