-- What sources and sinks in memory are seen as.
use Rattle.std.specs.Prelude.{ℕ, List}
use Rattle.lapin_io.specs.Calls.{Calls}

-- the bytes left, how many were given, the most that one call gives, and the calls
pub record Supply : Type 0 where
  pub left : List ℕ
  pub given : ℕ
  pub most : ℕ
  pub calls : Calls

-- the bytes written, the most that one call takes, and the calls
pub record Store : Type 0 where
  pub written : List ℕ
  pub most : ℕ
  pub calls : Calls

-- the bytes left, and how many were given
pub record Rest : Type 0 where
  pub left : List ℕ
  pub given : ℕ
