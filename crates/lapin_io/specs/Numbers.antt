-- The numbers that a source or a sink tells of itself, as how often it has failed. Each is kept in a u64.
use Rattle.std.specs.Prelude.{◌≡◌, ℕ, ◌+◌, ◌-◌, ◌^◌, ◌<◌, ◌≤◌, min}

-- the number after n more: it stands still at the greatest u64
abbrev pub counted : ℕ → ℕ → ℕ
counted before n = min (before + n) (2 ^ 64 - 1)

-- It rose by n at least. A number that stands at the greatest u64 counts as having risen, by any amount.
abbrev pub RoseBy : ℕ → ℕ → ℕ → Type 0
RoseBy n before now = counted before n ≤ now

-- it rose
abbrev pub Rose : ℕ → ℕ → Type 0
Rose before now = RoseBy 1 before now

-- it is what it was
abbrev pub Stayed : ℕ → ℕ → Type 0
Stayed before now = now ≡ before

-- it has not fallen, and is a u64
pub record NeverFalls (before now : ℕ) : Type 0 where
  pub no_less : before ≤ now
  pub in_range : now < 2 ^ 64
