use Rattle.std.proofs.Common.{◌≡◌, map, drop}
use Rattle.lapin_resend.specs.Follows.{entry_of}
use Rattle.lapin_resend.specs.Keeping.{noted}
use Rattle.lapin_resend.proofs.sender.note_all.Given as goal

abbrev pub invariant-loop-submitted : goal.invariant-loop-submitted
invariant-loop-submitted l = noted (map entry_of (drop l.submitted-index l.messages)) l.known.items ≡ noted (map entry_of l.messages) l.fn.known.items
