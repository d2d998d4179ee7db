use Rattle.std.proofs.Common.{◌≡◌, ◌≤◌, length}
use Rattle.lapin_rules.specs.Drops.{without_publishes_of}
use Rattle.lapin_outbox.specs.Drops.{unbegun_of}
use Rattle.lapin_outbox.specs.Outgoing.{with_lists}
use Rattle.lapin_rules.specs.ConfirmMarks as mark
use Rattle.lapin_confirm.specs.Machine.{after_mark}
use Rattle.lapin_outstanding.specs.Queued.{AreQueued}
use Rattle.lapin_outstanding.proofs.outstanding.Outstanding.take_unbegun.Given as goal

abbrev pub invariant-loop-dropped : goal.invariant-loop-dropped
invariant-loop-dropped l = record {
  outbox : with_lists (without_publishes_of l.channel l.self.outbox.what.lists) l.self.outbox.what ≡ with_lists (without_publishes_of l.channel l.initial.self.outbox.what.lists) l.initial.self.outbox.what;
  confirms : after_mark l.confirms.what (mark.ClosedHere l.channel l.error) ≡ after_mark l.initial.confirms.what (mark.ClosedHere l.channel l.error);
  queued : AreQueued l.confirms.what.publish_states.cells l.self.outbox.what.lists.publishes;
  requests : l.self.replies ≡ l.initial.self.replies;
  tickets : l.self.tickets ≡ l.initial.self.tickets;
  outbox_room : l.initial.self.outbox.spare ≤ l.self.outbox.spare;
}

abbrev pub decreases-loop-dropped : goal.decreases-loop-dropped
decreases-loop-dropped l = length (unbegun_of l.channel l.self.outbox.what.lists)
