use Rattle.std.proofs.Common.{◌≡◌, take}
use Rattle.lapin_types.proofs.returned.ReturnedList.try_clone.Given as goal

abbrev pub invariant-loop-message : goal.invariant-loop-message
invariant-loop-message l = l.messages.items ≡ take l.message-index l.message-items
