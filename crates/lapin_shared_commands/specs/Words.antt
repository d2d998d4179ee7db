-- The words of the command line, behind the program's name.
use Rattle.std.specs.Prelude.{◌≡◌, ◌≤◌, ℕ, Bool, true, List, [], ◌∷◌, String, string_bytes, codes, bytes_eq, decimal}
use Rattle.std.specs.declared.alloc.Global.{Global}

-- the text says n, a number from 1 to 64, in decimal
abbrev pub IsCount : List ℕ → ℕ → Type 0
IsCount piece n = (piece ≡ decimal n) × (1 ≤ n) × (n ≤ 64)

-- a command and a number, which says n
abbrev pub AreCounted : List ℕ → List (String Global) → ℕ → Type 0
AreCounted command [] n = ⊥
AreCounted command (word ∷ []) n = ⊥
AreCounted command (word ∷ number ∷ []) n = (bytes_eq (string_bytes word) command ≡ true) × IsCount (string_bytes number) n
AreCounted command (word ∷ number ∷ third ∷ others) n = ⊥

-- `shared N`, where N says n
abbrev pub AreShared : List (String Global) → ℕ → Type 0
AreShared words n = AreCounted (codes "shared") words n
