use Rattle.std.proofs.Common.{Option, Some, None, ℤ}
use Rattle.std.specs.Prelude.{IfNone}
use Rattle.lapin_scalars.proofs.SignedLaws.{none_within}
use Rattle.lapin_scalars.proofs.signed.number_within.Goals as goal

pub returns-in-None-clause-none : goal.returns-in-None-clause-none
returns-in-None-clause-none c = none_or c.positive.result c.positive.ensures.none (none_within c.args.limit c.args.piece.now c.in-None.ensures.none)
  where
    none_or : {P Q : Type 0} (r : Option ℤ) → IfNone r P → (P → Q) → IfNone r Q
    none_or None p f = f p
    none_or (Some z) p f = p
