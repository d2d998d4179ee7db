-- What the standard streams are seen as: their counts alone.
use Rattle.std.specs.Prelude.{ℕ}

-- how many bytes standard input has given, and how often it has failed
pub record InputCounts : Type 0 where
  pub given : ℕ
  pub faults : ℕ

-- how often standard output has failed
pub record OutputCounts : Type 0 where
  pub faults : ℕ
