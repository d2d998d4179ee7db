use Rattle.std.proofs.Common.{arith}
use Rattle.lapin_tokens.specs.declared.names.TheConstants.{PROPERTIES}
use Rattle.lapin_tokens.proofs.WritingLaws.{part_written}
use Rattle.lapin_tokens.proofs.property_writing.put_parts.Goals as goal

pub loop-property-preserved : goal.loop-property-preserved
loop-property-preserved c =
    part_written PROPERTIES c.loop-property.property-index _ c.args.properties.now c.loop-property.first c.in_ok-first.first c.loop-property.out.items c.put_part.new.out.items _ (omega arith) c.loop-property.invariant
    c.in_ok-first.ensures.0 c.in_ok-first.ensures.1
