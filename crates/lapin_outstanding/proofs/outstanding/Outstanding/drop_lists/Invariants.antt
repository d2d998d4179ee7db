use Rattle.std.proofs.Common.{◌≡◌, ◌≤◌, None, length}
use Rattle.lapin_outbox.specs.Drops.{all_entries}
use Rattle.lapin_outstanding.specs.Ended.{same_but_lists}
use Rattle.lapin_outstanding.proofs.outstanding.Outstanding.drop_lists.Given as goal

abbrev pub invariant-loop : goal.invariant-loop
invariant-loop l = record {
  none : l.self.outbox.what.returned ≡ None;
  rest : same_but_lists l.self.outbox.what ≡ same_but_lists l.initial.self.outbox.what;
  replies : l.self.replies ≡ l.initial.self.replies;
  tickets : l.self.tickets ≡ l.initial.self.tickets;
  room : l.initial.self.outbox.spare ≤ l.self.outbox.spare;
}

abbrev pub decreases-loop : goal.decreases-loop
decreases-loop l = length (all_entries l.self.outbox.what.lists)
