use Rattle.std.proofs.Common.{sym, ◌∙◌}
use Rattle.lapin_handshake.proofs.FirstWords.{word_some, word_none}
use Rattle.lapin_handshake.proofs.words.first_word.Goals as goal

pub returns-in-Some : goal.returns-in-Some
returns-in-Some c = word_some c.args.list.now c.in-Some.place (sym c.first_space.ensures ∙ c.in-Some.is)

pub returns-in-None : goal.returns-in-None
returns-in-None c = word_none c.args.list.now (sym c.first_space.ensures ∙ c.in-None.is)
