use Rattle.std.proofs.Common.{take}
use Rattle.std.specs.Prelude.{All}
use Rattle.lapin_keeping.specs.Returns.{IsNotOf}
use Rattle.lapin_keeping.proofs.keeping.first_of.Given as goal

abbrev pub invariant-loop-place : goal.invariant-loop-place
invariant-loop-place l = All (IsNotOf l.exact l.delivery) (take l.place l.messages)
