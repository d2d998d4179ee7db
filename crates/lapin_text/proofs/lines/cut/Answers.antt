use Rattle.std.proofs.Common.{◌∙◌, sym}
use Rattle.std.proofs.lemmas.List.{take_rest}
use Rattle.lapin_text.proofs.InputLaws.{lines_none, lines_some}
use Rattle.lapin_text.proofs.lines.cut.Goals as goal

pub returns-in-Some-clause-some : goal.returns-in-Some-clause-some
returns-in-Some-clause-some c = rw take_rest (lines_some c.args.bytes.now c.in-Some.place (sym c.first_feed.ensures ∙ c.in-Some.is))

pub returns-in-None-clause-none : goal.returns-in-None-clause-none
returns-in-None-clause-none c = lines_none c.args.bytes.now (sym c.first_feed.ensures ∙ c.in-None.is)
