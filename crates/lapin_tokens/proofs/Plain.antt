-- Bytes above the space: no token has another, so lines and pieces are found again.
use Rattle.std.proofs.Common.{◌≡◌, ℕ, zero, suc, ◌<◌, ◌≤◌, ◌-◌, List, [], ◌∷◌, ◌++◌, length, get_or, refl, ap, ◌∙◌, arith, inl, inr, Bool, true, false, eqb, ltb}
use Rattle.std.specs.Prelude.{nat_lt, ◌&&◌}
use Rattle.std.specs.List.{slice_split, join_with_byte}
use Rattle.std.proofs.lemmas.List.Splits.{slice_split_none, slice_split_at}
use Rattle.std.proofs.lemmas.Bool.{ne_eqb, ltb-true, cases_lt, and_parts, and_from}
use Rattle.std.proofs.lemmas.List.{length-append, get_or_append_left, get_or-append_right}

abbrev pub no_space : List ℕ → Bool
no_space [] = true
no_space (b ∷ bs) = nat_lt 32 b && no_space bs

abbrev pub AllPlain : List (List ℕ) → Type 0
AllPlain [] = Unit {0}
AllPlain (t ∷ ts) = (no_space t ≡ true) × AllPlain ts

pub no_space_append : (xs ys : List ℕ) → no_space xs ≡ true → no_space ys ≡ true → no_space (xs ++ ys) ≡ true
no_space_append [] ys e f = f
no_space_append (b ∷ bs) ys e f = let p = and_parts (ltb 32 b) (no_space bs) e in and_from (ltb 32 b) (no_space (bs ++ ys)) p.0 (no_space_append bs ys p.1 f)

above : (b c : ℕ) → ltb 32 b ≡ true → c ≤ 32 → eqb b c ≡ false
above b c e le = let h = ltb-true _ _ e in ne_eqb b c (λ z. omega (arith, h, z))

-- at each place
pub plain_at : (c : ℕ) → c ≤ 32 → (xs : List ℕ) → no_space xs ≡ true → (i d : ℕ) → i < length xs → eqb (get_or xs i d) c ≡ false
plain_at c le [] e i d lt = absurd (omega arith)
plain_at c le (b ∷ bs) e zero d lt = above b c (and_parts (ltb 32 b) (no_space bs) e).0 le
plain_at c le (b ∷ bs) e (suc i) d lt = plain_at c le bs (and_parts (ltb 32 b) (no_space bs) e).1 i d (omega arith)

-- ---- a line as its pieces

abbrev is_space : ℕ → Bool
is_space b = eqb b 32

pub split_join : (ts : List (List ℕ)) → 0 < length ts → AllPlain ts → slice_split is_space (join_with_byte 32 ts) ≡ ts
split_join [] lt h = absurd (omega arith)
split_join (t ∷ []) lt h = slice_split_none is_space t (plain_at 32 (omega arith) t h.0)
split_join (t ∷ u ∷ ts) lt h = slice_split_at is_space t 32 (join_with_byte 32 (u ∷ ts)) (plain_at 32 (omega arith) t h.0) refl ∙ ap (λ (r : List (List ℕ)). t ∷ r) (split_join (u ∷ ts) (omega arith) h.1)

pub plain_append : (ts us : List (List ℕ)) → AllPlain ts → AllPlain us → AllPlain (ts ++ us)
plain_append [] us h k = k
plain_append (t ∷ ts) us h k = (h.0, plain_append ts us h.1 k)

-- a line has no line feed
pub no_feed : (ts : List (List ℕ)) → AllPlain ts → (i d : ℕ) → i < length (join_with_byte 32 ts) → eqb (get_or (join_with_byte 32 ts) i d) 10 ≡ false
no_feed [] h i d lt = absurd (omega arith)
no_feed (t ∷ []) h i d lt = plain_at 10 (omega arith) t h.0 i d lt
no_feed (t ∷ u ∷ ts) h i d lt =
    elim (cases_lt i (length t)) [
      | inl a ↦ rw (get_or_append_left t (32 ∷ join_with_byte 32 (u ∷ ts)) d i a) (plain_at 10 (omega arith) t h.0 i d a)
      | inr b ↦ rw (get_or-append_right t (32 ∷ join_with_byte 32 (u ∷ ts)) (length t) i d refl b) (behind (i - length t) (omega (arith, length-append t (32 ∷ join_with_byte 32 (u ∷ ts)), b, lt)) (no_feed (u ∷ ts) h.1))
    ]
  where
    behind : (k : ℕ) → k < suc (length (join_with_byte 32 (u ∷ ts))) → ((i' d' : ℕ) → i' < length (join_with_byte 32 (u ∷ ts)) → eqb (get_or (join_with_byte 32 (u ∷ ts)) i' d') 10 ≡ false) → eqb (get_or (32 ∷ join_with_byte 32 (u ∷ ts)) k d) 10 ≡ false
    behind zero k-lt f = refl
    behind (suc k) k-lt f = f k d (omega (arith, k-lt))
