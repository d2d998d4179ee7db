use Rattle.std.proofs.Common.{◌≡◌, take}
use Rattle.lapin_values.proofs.value.+copy.Given as goal

abbrev pub invariant-FieldArray::try_clone-loop-item : goal.invariant-FieldArray::try_clone-loop-item
invariant-FieldArray::try_clone-loop-item l = l.items.items ≡ take l.item-index l.item-items

abbrev pub invariant-FieldTable::try_clone-loop-entry : goal.invariant-FieldTable::try_clone-loop-entry
invariant-FieldTable::try_clone-loop-entry l = l.entries.items ≡ take l.entry-index l.entry-items
