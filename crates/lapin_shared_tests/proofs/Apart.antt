-- Callers of which the first made steps: their numbers stay.
use Rattle.std.proofs.Common.{◌≡◌, ◌<◌, List, [], ◌∷◌, map, length, get_or, ap, arith, sym, subst}
use Rattle.std.specs.Prelude.{slice_set}
use Rattle.lapin_shared.specs.Grown.{Seen, AreFresh, AreApart, number_of}
use Rattle.lapin_shared.proofs.Apart.{fresh_apart}

pub first_numbers : (cs : List Seen) (c d : Seen) → 0 < length cs → d.number ≡ (get_or cs 0 c).number → map number_of (slice_set cs 0 d) ≡ map number_of cs
first_numbers [] c d some e = absurd (omega arith)
first_numbers (x ∷ xs) c d some e = ap (λ n. n ∷ map number_of xs) e

-- callers with the numbers of those that were made
pub still_apart : (all callers : List Seen) → AreFresh 1 all → map number_of callers ≡ map number_of all → AreApart callers
still_apart all callers fresh e = rw e (fresh_apart 1 all fresh)
