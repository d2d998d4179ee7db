-- The first word of a list: what stands before its first space.
use Rattle.std.proofs.Common.{◌≡◌, ℕ, Bool, true, false, List, length, take, Some, None, refl, sym, ap, cond, ltb}
use Rattle.std.specs.Prelude.{position}
use Rattle.std.specs.List.{position_or_len, before_first}
use Rattle.std.proofs.lemmas.Bool.{ltb-false}
use Rattle.std.proofs.lemmas.List.{take_all}
use Rattle.lapin_handshake.specs.Words.{is_space}

at_place : (t : Bool) (i j : ℕ) → cond t (Some i) None ≡ Some j → j ≡ i
at_place true i j e = cc
at_place false i j e = absurd cc

-- where there is a space, it is cut there
pub word_some : (xs : List ℕ) (i : ℕ) → position is_space xs ≡ Some i → take i xs ≡ before_first is_space xs
word_some xs i e = ap (λ (k : ℕ). take k xs) (at_place (ltb (position_or_len is_space xs) (length xs)) (position_or_len is_space xs) i e)

no_place : (t : Bool) (i : ℕ) → cond t (Some i) None ≡ None → t ≡ false
no_place true i e = absurd cc
no_place false i e = refl

-- where there is none, all of it is the word
pub word_none : (xs : List ℕ) → position is_space xs ≡ None → xs ≡ before_first is_space xs
word_none xs e =
    sym (take_all (position_or_len is_space xs) xs (ltb-false _ _ (no_place (ltb (position_or_len is_space xs) (length xs)) (position_or_len is_space xs) e)))
