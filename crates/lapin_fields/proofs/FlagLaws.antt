-- Flags that were packed into an octet are the bits of it.
use Rattle.std.proofs.Common.{◌≡◌, ℕ, ◌+◌, ◌*◌, ◌≤◌, ◌/◌, ◌%◌, Bool, true, false, List, ◌∷◌, refl, sym, ap, ◌∙◌, arith}
use native.Mathlib.Nat.{div-div-eq-div-mul}
use Rattle.std.specs.Prelude.{◌==◌}
use Rattle.lapin_fields.specs.Fields.{bit, bits}
use Rattle.lapin_fields.specs.Reading.{bit_at}

is_one : (b : Bool) → (bit b == 1) ≡ b
is_one true = refl
is_one false = refl

small : (b : Bool) → bit b ≤ 1
small true = omega arith
small false = omega arith

-- the lowest bit of a sum of bits by their weights, and a higher one: that of what is behind the lowest
lowest : (a n : ℕ) → a ≤ 1 → (a + 2 * n) / 1 % 2 ≡ a
lowest a n p = omega arith

half : (a n : ℕ) → a ≤ 1 → (a + 2 * n) / 2 ≡ n
half a n p = omega arith

behind : (weight : ℕ) (a : Bool) (n : ℕ) → bit_at (2 * weight) (bit a + 2 * n) ≡ bit_at weight n
behind weight a n = ap (λ (x : ℕ). x % 2 == 1) (sym (div-div-eq-div-mul (bit a + 2 * n) 2 weight) ∙ ap (λ (x : ℕ). x / weight) (half (bit a) n (small a)))

-- the first flag, the second, and so on
pub flag_1 : (a : Bool) (bs : List Bool) → bit_at 1 (bits (a ∷ bs)) ≡ a
flag_1 a bs = ap (λ (n : ℕ). n == 1) (lowest (bit a) (bits bs) (small a)) ∙ is_one a

pub flag_2 : (a b : Bool) (bs : List Bool) → bit_at 2 (bits (a ∷ b ∷ bs)) ≡ b
flag_2 a b bs = behind 1 a (bits (b ∷ bs)) ∙ flag_1 b bs

pub flag_4 : (a b c : Bool) (bs : List Bool) → bit_at 4 (bits (a ∷ b ∷ c ∷ bs)) ≡ c
flag_4 a b c bs = behind 2 a (bits (b ∷ c ∷ bs)) ∙ flag_2 b c bs

pub flag_8 : (a b c d : Bool) (bs : List Bool) → bit_at 8 (bits (a ∷ b ∷ c ∷ d ∷ bs)) ≡ d
flag_8 a b c d bs = behind 4 a (bits (b ∷ c ∷ d ∷ bs)) ∙ flag_4 b c d bs

pub flag_16 : (a b c d e : Bool) (bs : List Bool) → bit_at 16 (bits (a ∷ b ∷ c ∷ d ∷ e ∷ bs)) ≡ e
flag_16 a b c d e bs = behind 8 a (bits (b ∷ c ∷ d ∷ e ∷ bs)) ∙ flag_8 b c d e bs

pub flag_32 : (a b c d e f : Bool) (bs : List Bool) → bit_at 32 (bits (a ∷ b ∷ c ∷ d ∷ e ∷ f ∷ bs)) ≡ f
flag_32 a b c d e f bs = behind 16 a (bits (b ∷ c ∷ d ∷ e ∷ f ∷ bs)) ∙ flag_16 b c d e f bs

pub flag_64 : (a b c d e f g : Bool) (bs : List Bool) → bit_at 64 (bits (a ∷ b ∷ c ∷ d ∷ e ∷ f ∷ g ∷ bs)) ≡ g
flag_64 a b c d e f g bs = behind 32 a (bits (b ∷ c ∷ d ∷ e ∷ f ∷ g ∷ bs)) ∙ flag_32 b c d e f g bs

pub flag_128 : (a b c d e f g h : Bool) (bs : List Bool) → bit_at 128 (bits (a ∷ b ∷ c ∷ d ∷ e ∷ f ∷ g ∷ h ∷ bs)) ≡ h
flag_128 a b c d e f g h bs = behind 64 a (bits (b ∷ c ∷ d ∷ e ∷ f ∷ g ∷ h ∷ bs)) ∙ flag_64 b c d e f g h bs
