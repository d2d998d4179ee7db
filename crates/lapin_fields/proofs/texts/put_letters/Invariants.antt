use Rattle.std.proofs.Common.{◌≡◌, ◌++◌, map, take}
use Rattle.lapin_fields.specs.Reading.{as_letter}
use Rattle.lapin_fields.proofs.texts.put_letters.Given as goal

abbrev pub invariant-loop-octet : goal.invariant-loop-octet
invariant-loop-octet l = l.out.items ≡ l.initial.out.items ++ map as_letter (take l.octet-index l.octets)
