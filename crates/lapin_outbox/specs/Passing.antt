-- Which numbers of an order may be taken where some keys are full, and how the numbers that a request passed over are kept. No
-- public clause cites this module.
use Rattle.std.specs.Prelude.{◌≡◌, ℕ, suc, ◌<◌, ◌≤◌, Bool, true, false, not, if◌then◌else◌, List, [], ◌∷◌, Option, Some, None, length}
use Rattle.std.specs.Option.{option_map}
use Rattle.lapin_tables.specs.Numbered.{under}
use Rattle.lapin_full.specs.ChannelSet.{is_in}

-- whether a key isn't full
abbrev pub not_full : (ℕ → Bool) → ℕ → Bool
not_full full c = not (full c)

-- whether the number was not taken and is of a key that passes
abbrev pub waits_where : (ℕ → Bool) → Option ℕ → Bool
waits_where t None = false
waits_where t (Some c) = t c

-- the first number of a key that passes, counted from 1
abbrev pub first_where : (ℕ → Bool) → List (Option ℕ) → Option ℕ
first_where t [] = None
first_where t (o ∷ os) = if waits_where t o then Some 1 else option_map suc (first_where t os)

-- whether an entry's key passes, where f tells an entry's key
abbrev pub of_key : {X : Type 0} → (X → ℕ) → (ℕ → Bool) → X → Bool
of_key f t x = t (f x)

-- ---- what was passed over

-- each number up to passed that waits is of a key that is held
pub record AreHeld (passed : ℕ) (held : List ℕ) (keys : List (Option ℕ)) : Type 0 where
  pub within : passed ≤ length keys
  pub each : (n c : ℕ) → n ≤ passed → under n keys ≡ Some c → is_in c held ≡ true

-- no number up to passed waits on a key that passes
abbrev pub NonePasses : (ℕ → Bool) → ℕ → List (Option ℕ) → Type 0
NonePasses t passed keys = (n c : ℕ) → n ≤ passed → under n keys ≡ Some c → t c ≡ false

-- ---- the search among the keys that are held

-- below which number the search is done: below the best so far, else up to what was passed over
abbrev pub bound : ℕ → Option ℕ → ℕ
bound passed None = suc passed
bound passed (Some n) = n

-- no number of this key below b waits, unless the key doesn't pass
abbrev pub IsClear : (ℕ → Bool) → List (Option ℕ) → ℕ → ℕ → Type 0
IsClear t keys c b = (n : ℕ) → n < b → under n keys ≡ Some c → t c ≡ false

-- no number of this key below b waits
abbrev pub IsFree : List (Option ℕ) → ℕ → ℕ → Type 0
IsFree keys c b = (n : ℕ) → n < b → under n keys ≡ Some c → ⊥

-- the best so far is a number that was passed over and waits on a key that passes
abbrev pub IsOpen : (ℕ → Bool) → List (Option ℕ) → ℕ → Option ℕ → Type 0
IsOpen t keys passed None = Unit {0}
IsOpen t keys passed (Some n) = (n ≤ passed) × (waits_where t (under n keys) ≡ true)
