-- What holds of the messages of a publisher after every step.
use Rattle.std.specs.Prelude.{◌≡◌, ℕ, true, false, List, [], ◌∷◌, Some}
use Rattle.std.specs.List.{AllByRecursion}
use Rattle.lapin_resend.specs.Messages.{Standing}

-- each message of the first list is in the second, at its place, and is stored there if it was stored
abbrev pub StayStored : List Standing → List Standing → Type 0
StayStored [] ys = Unit {0}
StayStored (x ∷ xs) [] = ⊥
StayStored (x ∷ xs) (y ∷ ys) = (x.stored ≡ true → y.stored ≡ true) × StayStored xs ys

-- a message that isn't stored has an outstanding publish
abbrev pub IsOut : Standing → Type 0
IsOut s = s.stored ≡ false → (k : ℕ) × (s.outstanding ≡ Some k)

-- so it is with each
abbrev pub AreOut : List Standing → Type 0
AreOut ss = AllByRecursion IsOut ss

-- no outstanding publish of one message is that of the other
abbrev pub DoNotShare : Standing → Standing → Type 0
DoNotShare s t = (k : ℕ) → s.outstanding ≡ Some k → t.outstanding ≡ Some k → ⊥

-- no two of these messages share one
abbrev pub NoneShare : List Standing → Type 0
NoneShare [] = Unit {0}
NoneShare (s ∷ ss) = AllByRecursion (DoNotShare s) ss × NoneShare ss
