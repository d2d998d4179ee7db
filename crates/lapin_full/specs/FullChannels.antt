-- The first channel of a set that isn't full.
use Rattle.std.specs.Prelude.{◌≡◌, ℕ, ◌<◌, ◌≤◌, Bool, true, false, List}
use Rattle.lapin_full.specs.ChannelSet.{is_in}

-- each channel of a set from this number on is full
abbrev pub AllFull : (ℕ → Bool) → List ℕ → ℕ → Type 0
AllFull full set from = (c : ℕ) → from ≤ c → is_in c set ≡ true → full c ≡ true

-- channel n is the first of a set, from a number on, that isn't full
pub record IsFirstOpen (full : ℕ → Bool) (set : List ℕ) (from n : ℕ) : Type 0 where
  pub from_on : from ≤ n
  pub inside : is_in n set ≡ true
  pub open_ : full n ≡ false
  pub first : (c : ℕ) → from ≤ c → c < n → is_in c set ≡ true → full c ≡ true
