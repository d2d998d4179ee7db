-- How values stand that have marks: two bits each, in blocks of 64. No public clause cites this module.
use Rattle.std.specs.Prelude.{◌≡◌, ℕ, suc, ◌+◌, ◌-◌, ◌*◌, ◌/◌, ◌%◌, ◌==◌, ◌<◌, ◌≤◌, nat_lt, if◌then◌else◌, List, [], ◌∷◌, length, Option, Some, None}
use Rattle.std.specs.Int.{bit_at}
use Rattle.lapin_tables.specs.Numbered.{under}
use Rattle.lapin_tables.specs.declared.block.Block.{Block}
use Rattle.lapin_tables.specs.declared.block.Half.{Half}

-- the mark at a place of half a block
abbrev pub half_in : ℕ → Half → ℕ
half_in p h = bit_at h.low p + 2 * bit_at h.high p

-- the mark at a place of a block
abbrev pub mark_in : ℕ → Block → ℕ
mark_in p b = if nat_lt p 32 then half_in p b.first else half_in (p - 32) b.second

-- no place has a mark
abbrev pub IsEmpty : Block → Type 0
IsEmpty b = (p : ℕ) → mark_in p b ≡ 0

-- a block is there, and no place has a mark
abbrev pub IsSpent : Option Block → Type 0
IsSpent None = ⊥
IsSpent (Some b) = IsEmpty b

module _ {T : Type 0} where
  -- the value of a mark, where there is one
  abbrev pub marked : (ℕ → ℕ → Option T) → ℕ → ℕ → Option T
  marked told a m = if m == 0 then None else told a m

  -- the value at a place of a block
  abbrev pub packed_in : (ℕ → ℕ → Option T) → ℕ → Option Block → Option T
  packed_in told p None = None
  packed_in told p (Some b) = marked told b.alike (mark_in p b)

  -- the value of a number, where it stands in its block
  abbrev pub packed_at : (ℕ → ℕ → Option T) → List (Option Block) → ℕ → Option T
  packed_at told bs n = if n == 0 then None else packed_in told ((n - 1) % 64) (under (suc ((n - 1) / 64)) bs)

  -- the first of the two that is there
  abbrev pub or_slot : Option T → Option T → Option T
  or_slot None o = o
  or_slot (Some x) o = Some x

  -- the slots of the numbers above i: what stands in a block, or else in a slot of its own
  abbrev pub shown : (ℕ → Option T) → ℕ → List (Option T) → List (Option T)
  shown f i [] = []
  shown f i (o ∷ os) = or_slot (f (suc i)) o ∷ shown f (suc i) os

  -- a value in a block has no slot of its own, and blocks are of numbers that were given
  pub record IsPacked (told : ℕ → ℕ → Option T) (bs : List (Option Block)) (xs : List (Option T)) : Type 0 where
    pub apart : (n : ℕ) (x : T) → packed_at told bs n ≡ Some x → under n xs ≡ None
    pub covers : 64 * length bs ≤ length xs

  -- in each block in which a number has a mark another value has one too
  abbrev pub Replaces : (ℕ → ℕ → Option T) → (ℕ → T → ℕ) → T → Option T → Type 0
  Replaces told mark_of y None = Unit {0}
  Replaces told mark_of y (Some x) = (a m : ℕ) → told a m ≡ Some x → 0 < mark_of a y
