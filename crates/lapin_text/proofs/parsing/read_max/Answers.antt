use Rattle.std.proofs.Common.{arith, Some}
use Rattle.std.specs.Prelude.{codes}
use Rattle.std.proofs.lemmas.Slice.Eq.{strip_prefix_is}
use Rattle.std.proofs.lemmas.Bool.Decides.{Decides-eqb}
use Rattle.lapin_text.proofs.InputLaws.{max_past}
use Rattle.lapin_text.proofs.parsing.read_max.Goals as goal

pub returns-in_default : goal.returns-in_default
returns-in_default c = max_past c.args.line.now c.in-Some.piece.now c.in-Some-read_num.number (strip_prefix_is Decides-eqb c.args.line.now (codes "frame_max ") (Some c.in-Some.piece) c.in-Some.ensures.cases) c.in-Some-read_num.ensures.found (omega arith) (λ h. omega (arith, h.0, h.1))

pub returns-in_default-2 : goal.returns-in_default-2
returns-in_default-2 c = max_past c.args.line.now c.in-Some.piece.now c.in-Some-read_num.number (strip_prefix_is Decides-eqb c.args.line.now (codes "frame_max ") (Some c.in-Some.piece) c.in-Some.ensures.cases) c.in-Some-read_num.ensures.found (omega arith) (λ h. omega (arith, h.0, h.1))
