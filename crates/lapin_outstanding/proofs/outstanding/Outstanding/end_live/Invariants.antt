use Rattle.std.proofs.Common.{◌≡◌, ℕ, ◌≤◌, ◌-◌}
use Rattle.std.specs.List.{fold}
use Rattle.lapin_rules.specs.Ends.{ends, live_below, cancels_on}
use Rattle.lapin_confirm.specs.Machine.{after_mark}
use Rattle.lapin_outbox.specs.Open.{requests_at}
use Rattle.lapin_ticket.specs.Slots as tickets
use Rattle.lapin_outstanding.specs.Queued.{AreQueued}
use Rattle.lapin_outstanding.specs.Ended.{same_but_lists}
use Rattle.lapin_outstanding.proofs.outstanding.Outstanding.end_live.Given as goal

abbrev pub invariant-loop-number : goal.invariant-loop-number
invariant-loop-number l = record {
  within : l.number ≤ l.reach;
  confirms : l.confirms.what ≡ fold after_mark l.initial.confirms.what (ends l.error (live_below l.number l.phases.entries));
  queued : AreQueued l.confirms.what.publish_states.cells l.self.outbox.what.lists.publishes;
  slots : l.self.tickets.slots ≡ fold tickets.after_mark l.initial.self.tickets.slots (cancels_on (live_below l.number l.phases.entries) l.initial.self.replies.what);
  requests : (c : ℕ) → l.number ≤ c → requests_at c l.self.replies.what ≡ requests_at c l.initial.self.replies.what;
  ready : l.self.tickets.ready ≡ l.initial.self.tickets.ready;
  rest : same_but_lists l.self.outbox.what ≡ same_but_lists l.initial.self.outbox.what;
  outbox_room : l.initial.self.outbox.spare ≤ l.self.outbox.spare;
}

abbrev pub decreases-loop-number : goal.decreases-loop-number
decreases-loop-number l = l.reach - l.number
