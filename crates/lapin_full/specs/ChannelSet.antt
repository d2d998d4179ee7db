-- What a contract sees of a set of channel numbers: its words, in which channel c has bit c % 64 of word c / 64.
use Rattle.std.specs.Prelude.{ℕ, ◌*◌, ◌/◌, ◌%◌, ◌==◌, Bool, List, length, get_or}
use Rattle.std.specs.Int.{bit_at}

-- whether channel c is in; beyond the last word none is
abbrev pub is_in : ℕ → List ℕ → Bool
is_in c words = bit_at (get_or words (c / 64) 0) (c % 64) == 1

-- the channels below this one have a bit
abbrev pub reach : List ℕ → ℕ
reach words = 64 * length words
