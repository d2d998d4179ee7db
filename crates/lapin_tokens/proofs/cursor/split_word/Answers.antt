use Rattle.std.proofs.Common.{sym, ◌∙◌}
use Rattle.std.proofs.lemmas.List.{take_rest}
use Rattle.lapin_tokens.proofs.Words.{word_some, rest_some, word_none, rest_none}
use Rattle.lapin_tokens.proofs.cursor.split_word.Goals as goal

pub returns-in-Some-clause-word : goal.returns-in-Some-clause-word
returns-in-Some-clause-word c = word_some c.args.bytes.now c.in-Some.place (sym c.first_separator.ensures ∙ c.in-Some.is)

pub returns-in-Some-clause-rest : goal.returns-in-Some-clause-rest
returns-in-Some-clause-rest c = rw take_rest (rest_some c.args.bytes.now c.in-Some.place (sym c.first_separator.ensures ∙ c.in-Some.is))

pub returns-in-None-clause-word : goal.returns-in-None-clause-word
returns-in-None-clause-word c = word_none c.args.bytes.now (sym c.first_separator.ensures ∙ c.in-None.is)

pub returns-in-None-clause-rest : goal.returns-in-None-clause-rest
returns-in-None-clause-rest c = rest_none c.args.bytes.now (sym c.first_separator.ensures ∙ c.in-None.is)
