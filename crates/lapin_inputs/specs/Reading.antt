-- What reading an input to its end means.
use Rattle.std.specs.Prelude.{ℕ, ◌≤◌, ◌<◌, ◌^◌, List, length, Option, IfSome}
use Rattle.std.specs.Io.KnownBytes.{Consumes, IsAtEnd}

-- the longest input that is taken: 16,777,216 bytes, which is 16 MiB
abbrev pub longest_input : ℕ
longest_input = 2 ^ 24

-- The input was read to its end: these bytes were the ones left, and none is left now. Of a source that doesn't tell
-- its bytes nothing is said.
abbrev pub ReadsAll : Option (List ℕ) → Option (List ℕ) → List ℕ → Type 0
ReadsAll old new bytes = Consumes old new bytes × IsAtEnd new

-- more bytes come before the end of the input than are taken, where the source tells them
abbrev pub IsTooLong : Option (List ℕ) → Type 0
IsTooLong left = IfSome left (λ bytes. longest_input < length bytes)

-- no more bytes come than are taken
abbrev pub IsShortEnough : Option (List ℕ) → Type 0
IsShortEnough left = IfSome left (λ bytes. length bytes ≤ longest_input)
