-- No two messages have the same outstanding publish.
use Rattle.std.specs.Prelude.{◌≡◌, ℕ, ◌≤◌, List, [], ◌∷◌, Some}
use Rattle.std.specs.List.{AllByRecursion}
use Rattle.lapin_keeping.specs.declared.kept.Kept.{Kept}

-- no outstanding publish of one message is that of the other
abbrev pub DoNotShare : Kept → Kept → Type 0
DoNotShare k l = (confirm : ℕ) → k.outstanding ≡ Some confirm → l.outstanding ≡ Some confirm → ⊥

-- no two of these messages share one
abbrev pub NoneShare : List Kept → Type 0
NoneShare [] = Unit {0}
NoneShare (k ∷ ks) = AllByRecursion (DoNotShare k) ks × NoneShare ks

-- its outstanding publish has no greater number
abbrev pub IsBelow : ℕ → Kept → Type 0
IsBelow most k = (confirm : ℕ) → k.outstanding ≡ Some confirm → confirm ≤ most

-- no two of these messages share one, and each was numbered by a session that has given so many confirms
pub record AreApart (most : ℕ) (ks : List Kept) : Type 0 where
  pub below : AllByRecursion (IsBelow most) ks
  pub apart : NoneShare ks
