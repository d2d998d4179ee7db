use Rattle.std.proofs.Common.{◌≡◌, ◌++◌, drop, true}
use Rattle.lapin_tokens.specs.declared.names.TheConstants.{PROPERTIES}
use Rattle.lapin_tokens.specs.Writing.{parts_text}
use Rattle.lapin_tokens.proofs.property_writing.put_parts.Given as goal

abbrev pub invariant-loop-property : goal.invariant-loop-property
invariant-loop-property l = l.out.items ++ parts_text (drop l.property-index l.property-items) l.properties l.first ≡ l.fn.out.items ++ parts_text PROPERTIES l.properties true
