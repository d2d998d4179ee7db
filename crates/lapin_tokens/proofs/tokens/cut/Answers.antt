use Rattle.std.proofs.Common.{◌∙◌, sym}
use Rattle.std.proofs.lemmas.List.{take_rest}
use Rattle.lapin_tokens.proofs.Splits.{split_none, split_some}
use Rattle.lapin_tokens.proofs.tokens.cut.Goals as goal

pub returns-in-Some-clause-some : goal.returns-in-Some-clause-some
returns-in-Some-clause-some c = rw take_rest (split_some c.args.line.now c.in-Some.place (sym c.first_space.ensures ∙ c.in-Some.is))

pub returns-in-None-clause-none : goal.returns-in-None-clause-none
returns-in-None-clause-none c = split_none c.args.line.now (sym c.first_space.ensures ∙ c.in-None.is)
