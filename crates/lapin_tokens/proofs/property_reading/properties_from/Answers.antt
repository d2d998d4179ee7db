use Rattle.std.proofs.lemmas.Result.{err_from_is_err_and}
use Rattle.lapin_tokens.proofs.PartTurns.{close_fails}
use Rattle.lapin_tokens.proofs.property_reading.properties_from.Goals as goal

pub returns-in_err-close : goal.returns-in_err-close
returns-in_err-close c =
    let p = err_from_is_err_and c.from_residual-in_err-close.result c.from_residual-in_err-close.ensures.1 in
    rw (p.1, p.2) (close_fails _ c.args.text.now c.in_ok-properties.properties c.parts.new.first c.parts.new.text c.in_ok-properties.ensures c.in_err-close.ensures)
