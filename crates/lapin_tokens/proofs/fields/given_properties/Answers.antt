use Rattle.std.proofs.lemmas.Result.{err_from_is_err_and}
use Rattle.lapin_tokens.specs.Reading.{value_of}
use Rattle.lapin_tokens.specs.PropertyReading.{properties_at}
use Rattle.lapin_tokens.proofs.PartTurns.{not_whole}
use Rattle.lapin_tokens.proofs.fields.given_properties.Goals as goal

pub returns-in_err-finish : goal.returns-in_err-finish
unfolding value_of
returns-in_err-finish c =
    let p = err_from_is_err_and c.from_residual-in_err-finish.result c.from_residual-in_err-finish.ensures.1 in
    rw (p.1, p.2) (not_whole _ (properties_at c.args.piece.now) c.in_ok-properties.properties c.properties_from.new.text (rw c.new-text.ensures at c.in_ok-properties.ensures) c.in_err-finish.ensures)
