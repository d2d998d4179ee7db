-- The first place of a byte that passes a test: what the search of the whole finds is what `position` gives.
use Rattle.std.proofs.Common.{◌≡◌, ℕ, ◌<◌, ◌≤◌, ◌+◌, ◌-◌, List, length, drop, get_or, Option, Some, None, refl, sym, ap, ◌∙◌, arith, Bool, true, false, ltb, ltb-true, ltb-false, length-drop}
use Rattle.std.proofs.lemmas.List.{get_or-drop}
use Rattle.std.specs.Prelude.{position}
use Rattle.std.specs.List.{position_or_len}
use Rattle.std.proofs.lemmas.List.Sums.{position_or_len_is}
use Rattle.std.proofs.lemmas.Bool.{cond_below, cond_above, false_from_ne_true}
use Rattle.memchr.specs.Find.{IsFirstByte}

pub first_is_position : (test : ℕ → Bool) (bytes : List ℕ) (found : Option ℕ) → IsFirstByte test bytes found → found ≡ position test bytes
first_is_position test bytes None nowhere =
    let n = position_or_len test bytes in
    let past : n ≡ length bytes
    = position_or_len_is test bytes (length bytes) 0 (omega arith) (λ k below. false_from_ne_true _ (nowhere k (omega arith) below)) (λ below. absurd (omega (arith, below))) in
    let high : length bytes ≤ n = omega (arith, past) in
    cond_above n (length bytes) (Some n) None None high refl
first_is_position test bytes (Some place) first =
    let n = position_or_len test bytes in
    let here : n ≡ place
    = position_or_len_is test bytes place 0 (omega (arith, first.0.high)) (λ k below. false_from_ne_true _ (first.0.before k (omega arith) below)) (λ below. first.1) in
    let low : n < length bytes = omega (arith, here, first.0.high) in
    ap Some (sym here) ∙ cond_below n (length bytes) (Some n) None low

-- what was found behind the first n bytes, as a place of all bytes
abbrev pub moved : ℕ → Option ℕ → Option ℕ
moved n None = None
moved n (Some place) = Some (n + place)

-- a place before n or behind it
fails_at : (test : ℕ → Bool) (bytes : List ℕ) (n k : ℕ) (b : Bool) → ltb k n ≡ b → ((i : ℕ) → i < n → test (get_or bytes i 0) ≡ false) → (n ≤ k → test (get_or (drop n bytes) (k - n) 0) ≡ false) → test (get_or bytes k 0) ≡ false
fails_at test bytes n k true e before behind = before k (ltb-true k n e)
fails_at test bytes n k false e before behind =
    let low : n ≤ k = ltb-false k n e in
    let at : n + (k - n) ≡ k = omega (arith, low) in
    sym (ap (λ i. test (get_or bytes i 0)) at) ∙ (sym (ap test (get_or-drop n bytes (k - n) 0)) ∙ behind low)

-- where none of the first n bytes passes, the first one behind them that does is the first of all
pub first_behind : (test : ℕ → Bool) (bytes : List ℕ) (n : ℕ) (found : Option ℕ) → n ≤ length bytes → ((i : ℕ) → i < n → test (get_or bytes i 0) ≡ false) → IsFirstByte test (drop n bytes) found → moved n found ≡ position test bytes
first_behind test bytes n None within before nowhere =
    first_is_position test bytes None (λ k low below passes.
    let fails = fails_at test bytes n k (ltb k n) refl before (λ behind. false_from_ne_true _ (nowhere (k - n) (omega arith) (omega (arith, length-drop n bytes, below, behind)))) in
    absurd cc)
first_behind test bytes n (Some place) within before first =
    first_is_position test bytes (Some (n + place)) (
      record {
        low = omega arith;
        high = omega (arith, first.0.high, length-drop n bytes, within);
        before = λ k low below passes.
            let fails = fails_at test bytes n k (ltb k n) refl before (λ behind. false_from_ne_true _ (first.0.before (k - n) (omega arith) (omega (arith, below, behind)))) in
            absurd cc;
      },
      sym (ap test (get_or-drop n bytes place 0)) ∙ first.1,
    )

-- the first byte that passes
pub first_here : (test : ℕ → Bool) (bytes : List ℕ) (n : ℕ) → n < length bytes → ((i : ℕ) → i < n → test (get_or bytes i 0) ≡ false) → test (get_or bytes n 0) ≡ true → Some n ≡ position test bytes
first_here test bytes n within before passes =
    first_is_position test bytes (Some n) (record { low = omega arith; high = within; before = λ k low below here. let fails = before k below in absurd cc }, passes)
