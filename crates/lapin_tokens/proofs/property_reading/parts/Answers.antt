use Rattle.std.proofs.Common.{arith}
use Rattle.std.proofs.lemmas.Result.{err_from_is_err_and}
use Rattle.lapin_tokens.specs.declared.names.TheConstants.{PROPERTIES}
use Rattle.lapin_tokens.proofs.PartTurns.{part_fails, part_on}
use Rattle.lapin_tokens.proofs.property_reading.parts.Goals as goal

pub returns-in_err-properties : goal.returns-in_err-properties
returns-in_err-properties c =
    let p = err_from_is_err_and c.from_residual.result c.from_residual.ensures.1 in
    rw (p.1, p.2) (part_fails PROPERTIES c.loop-property.property-index _ c.loop-property.properties c.loop-property.first c.loop-property.text _ (omega arith) c.loop-property.invariant _ c.in_err-properties.ensures)

pub loop-property-preserved : goal.loop-property-preserved
loop-property-preserved c = part_on PROPERTIES c.loop-property.property-index _ c.loop-property.properties c.loop-property.first c.loop-property.text _ (omega arith) c.loop-property.invariant c.in_ok-properties.properties c.read_part.new.first c.read_part.new.text c.in_ok-properties.ensures
