-- What is left of one word of a set beside another set, and where a set has words with a bit. No public clause cites this module.
use Rattle.std.specs.Prelude.{◌≡◌, ℕ, ◌+◌, ◌*◌, ◌<◌, ◌≤◌, true, false, List, get_or, nat_lt}
use Rattle.std.specs.Int.{bit_at}
use Rattle.lapin_full.specs.ChannelSet.{is_in}

-- The word has a bit for those channels of the word at a place that are from a number on, in the one set and not in the other.
pub record ShowsLeft (words others : List ℕ) (place from left : ℕ) : Type 0 where
  pub none : (i : ℕ) → i < 64 → bit_at left i ≡ 0 → from ≤ 64 * place + i → is_in (64 * place + i) words ≡ true → is_in (64 * place + i) others ≡ true
  pub some : (i : ℕ) → i < 64 → bit_at left i ≡ 1 → (from ≤ 64 * place + i) × (is_in (64 * place + i) words ≡ true) × (is_in (64 * place + i) others ≡ false)

-- The places that are marked are those of the words that have a bit.
abbrev pub AreMarked : List ℕ → List ℕ → Type 0
AreMarked words places = (p : ℕ) → is_in p places ≡ nat_lt 0 (get_or words p 0)
