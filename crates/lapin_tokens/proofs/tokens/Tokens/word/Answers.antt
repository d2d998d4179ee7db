use Rattle.std.proofs.Common.{sym, ◌∙◌}
use Rattle.std.proofs.lemmas.List.{take_rest}
use Rattle.lapin_tokens.proofs.SaidLaws.{word_piece}
use Rattle.lapin_tokens.proofs.tokens.Tokens.word.Goals as goal

pub returns-clause-read : goal.returns-clause-read
returns-clause-read c =
    let yes = c.if-not-begins_with.false in
    let piece = word_piece c.self.inside.rest.now c.args.word.now (c.begins_with.ensures.within yes) (c.begins_with.ensures.word yes) (c.begins_with.ensures.space yes) c.requires in
    λ _. sym c.self.view_is ∙ rw (c.if-not-self.false, take_rest) piece
