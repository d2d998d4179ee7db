-- What writing a text means.
use Rattle.std.specs.Prelude.{ℕ, List, take, Option}
use Rattle.std.specs.Io.KnownBytes.{Appends}

-- A prefix of the text was written, and nothing else. Of a sink that doesn't tell its bytes nothing is said.
abbrev pub WritesPrefix : Option (List ℕ) → Option (List ℕ) → List ℕ → Type 0
WritesPrefix old new text = (n : ℕ) × Appends old new (take n text)
