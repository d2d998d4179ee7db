-- Numbers in range, and the bytes of pieces.
use Rattle.std.proofs.Common.{◌≡◌, ℕ, zero, suc, ◌^◌, ◌<◌, true, List, [], ◌∷◌, ◌++◌, take, drop, nat_lt, codes, refl}
use Rattle.std.specs.List.{AllByRecursion as Each}
use Rattle.std.specs.Str.{is_utf8, chars}
use Rattle.std.proofs.lemmas.Bool.{lt-ltb, and_parts, and_from}
use lib.Utf8.{encode}
use Rattle.lapin_scalars.specs.Scalars.{are_bytes}
use Rattle.lapin_rules.specs.Frames.{pieces}
use Rattle.lapin_told.proofs.Fitting.{Wide, Text}

pub wide : (n : ℕ) → n < 2 ^ 64 → Wide n
wide n h = let e : nat_lt n (2 ^ 64) ≡ true = lt-ltb n (2 ^ 64) h in rw e refl

pub bytes_append : (xs ys : List ℕ) → are_bytes xs ≡ true → are_bytes ys ≡ true → are_bytes (xs ++ ys) ≡ true
bytes_append [] ys h k = k
bytes_append (x ∷ xs) ys h k = let b = and_parts (nat_lt x 256) (are_bytes xs) h in and_from (nat_lt x 256) (are_bytes (xs ++ ys)) b.0 (bytes_append xs ys b.1 k)

bytes_take : (n : ℕ) (xs : List ℕ) → are_bytes xs ≡ true → are_bytes (take n xs) ≡ true
bytes_take zero xs h = refl
bytes_take (suc n) [] h = refl
bytes_take (suc n) (x ∷ xs) h = let b = and_parts (nat_lt x 256) (are_bytes xs) h in and_from (nat_lt x 256) (are_bytes (take n xs)) b.0 (bytes_take n xs b.1)

bytes_drop : (n : ℕ) (xs : List ℕ) → are_bytes xs ≡ true → are_bytes (drop n xs) ≡ true
bytes_drop zero xs h = h
bytes_drop (suc n) [] h = refl
bytes_drop (suc n) (x ∷ xs) h = bytes_drop n xs (and_parts (nat_lt x 256) (are_bytes xs) h).1

pub pieces_fit : (most n : ℕ) (xs : List ℕ) → are_bytes xs ≡ true → Each (λ piece. are_bytes piece ≡ true) (pieces most n xs)
pieces_fit zero n xs h = tt
pieces_fit (suc most) n [] h = tt
pieces_fit (suc most) n (x ∷ xs) h = (bytes_take n (x ∷ xs) h, pieces_fit most n (drop n (x ∷ xs)) (bytes_drop n (x ∷ xs) h))

-- the texts of the closes that the session makes itself
pub failed_text : Text (codes "PRECONDITION_FAILED")
unfolding is_utf8 chars encode
failed_text = refl

pub unexpected_text : Text (codes "UNEXPECTED_FRAME")
unfolding is_utf8 chars encode
unexpected_text = refl
