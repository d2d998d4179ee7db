use Rattle.std.proofs.Common.{◌≡◌, ◌+◌, ◌-◌}
use Rattle.lapin_rules.specs.ReturnLists.{attached_to_all}
use Rattle.lapin_confirm.specs.ReturnedMessages.{HasPlace, pending_from, pending_through}
use Rattle.lapin_confirm.proofs.attaching.attach_through.Given as goal

abbrev pub invariant-loop-tag : goal.invariant-loop-tag
invariant-loop-tag l = record {
  same : attached_to_all (pending_from (l.tag + 1) (l.limit - l.tag) l.tags.slots) l.returned_messages.return_lists ≡ attached_to_all (pending_through l.limit l.tags.slots) l.initial.returned_messages.return_lists;
  room : HasPlace l.initial.returned_messages → HasPlace l.returned_messages;
}

abbrev pub decreases-loop-tag : goal.decreases-loop-tag
decreases-loop-tag l = l.limit - l.tag
