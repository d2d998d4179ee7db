-- The text that a short string keeps.
use Rattle.std.specs.Prelude.{ℕ, List, string_bytes}
use Rattle.lapin_values.specs.declared.kept.Stored.{Stored}
use Rattle.lapin_values.specs.declared.kept.Stored.TheVariants.{Short, Long}

-- its bytes, in place or in memory of their own
abbrev pub kept : Stored → List ℕ
kept (Short s) = s.bytes
kept (Long s) = string_bytes s
