use Rattle.std.proofs.Common.{◌≡◌, drop, true}
use Rattle.lapin_values.specs.Properties.{no_properties}
use Rattle.lapin_tokens.specs.declared.names.TheConstants.{PROPERTIES}
use Rattle.lapin_tokens.specs.PropertyReading.{parts_at}
use Rattle.lapin_tokens.proofs.property_reading.parts.Given as goal

abbrev pub invariant-loop-property : goal.invariant-loop-property
invariant-loop-property l = parts_at (drop l.property-index l.property-items) l.properties l.first l.text ≡ parts_at PROPERTIES no_properties true l.fn.text
