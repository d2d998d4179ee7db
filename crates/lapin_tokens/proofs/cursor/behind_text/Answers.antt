use Rattle.std.proofs.lemmas.Slice.Eq.{strip_prefix_is}
use Rattle.std.proofs.lemmas.Bool.Decides.{Decides-eqb}
use Rattle.lapin_tokens.proofs.Prefixes.{stripped_some, stripped_none}
use Rattle.lapin_tokens.proofs.cursor.behind_text.Goals as goal

pub returns-clause-some : goal.returns-clause-some
returns-clause-some c = stripped_some c.args.text.now c.args.bytes.now _ (strip_prefix_is Decides-eqb c.args.bytes.now c.args.text.now _ c.strip_prefix.ensures.cases)

pub returns-clause-none : goal.returns-clause-none
returns-clause-none c = stripped_none c.args.text.now c.args.bytes.now _ (strip_prefix_is Decides-eqb c.args.bytes.now c.args.text.now _ c.strip_prefix.ensures.cases)
