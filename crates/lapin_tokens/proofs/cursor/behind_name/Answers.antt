use Rattle.lapin_tokens.proofs.Prefixes.{no_mark, no_name, name_some, name_none}
use Rattle.lapin_tokens.proofs.cursor.behind_name.Goals as goal

pub returns-in-Some-behind_text-clause-some : goal.returns-in-Some-behind_text-clause-some
returns-in-Some-behind_text-clause-some c = name_some c.args.mark c.args.name.now c.args.bytes.now c.in-Some.named.now c.in-Some.ensures.some c.in-Some-behind_text.rest.now c.in-Some-behind_text.ensures.some _ c.behind-in-Some-behind_text.ensures.some

pub returns-in-Some-behind_text-clause-none : goal.returns-in-Some-behind_text-clause-none
returns-in-Some-behind_text-clause-none c = name_none c.args.mark c.args.name.now c.args.bytes.now c.in-Some.named.now c.in-Some.ensures.some c.in-Some-behind_text.rest.now c.in-Some-behind_text.ensures.some _ c.behind-in-Some-behind_text.ensures.none

pub returns-in-None-behind_text-clause-none : goal.returns-in-None-behind_text-clause-none
returns-in-None-behind_text-clause-none c = no_name c.args.mark c.args.name.now c.args.bytes.now c.in-Some.named.now c.in-Some.ensures.some c.in-None-behind_text.ensures.none

pub returns-in-None-clause-none : goal.returns-in-None-clause-none
returns-in-None-clause-none c = no_mark c.args.mark c.args.name.now c.args.bytes.now c.in-None.ensures.none
