use Rattle.std.proofs.Common.{◌≡◌, ◌≤◌, false, length}
use Rattle.lapin_rules.specs.Drops.{without_channel}
use Rattle.lapin_outbox.specs.Drops.{entries_of}
use Rattle.lapin_outbox.specs.Outgoing.{with_lists}
use Rattle.lapin_outbox.specs.Returned.{is_returned_on}
use Rattle.lapin_outstanding.proofs.outstanding.Outstanding.drop_waiting_on.Given as goal

abbrev pub invariant-loop-dropped : goal.invariant-loop-dropped
invariant-loop-dropped l = record {
  off : is_returned_on l.channel l.self.outbox.what.returned ≡ false;
  outbox : with_lists (without_channel l.channel l.self.outbox.what.lists) l.self.outbox.what ≡ with_lists (without_channel l.channel l.initial.self.outbox.what.lists) l.initial.self.outbox.what;
  requests : l.self.replies ≡ l.initial.self.replies;
  tickets : l.self.tickets ≡ l.initial.self.tickets;
  outbox_room : l.initial.self.outbox.spare ≤ l.self.outbox.spare;
}

abbrev pub decreases-loop-dropped : goal.decreases-loop-dropped
decreases-loop-dropped l = length (entries_of l.channel l.self.outbox.what.lists)
