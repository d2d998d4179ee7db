use Rattle.std.proofs.Common.{◌≡◌, length}
use Rattle.std.specs.List.{fold}
use Rattle.lapin_tables.specs.ByChannel.{on_channel}
use Rattle.lapin_rules.specs.Requests.{no_requests}
use Rattle.lapin_rules.specs.Ends.{cancels_at}
use Rattle.lapin_outbox.specs.Open.{requests_at, KeepsRoom}
use Rattle.lapin_ticket.specs.Slots.{after_mark}
use Rattle.lapin_outstanding.proofs.outstanding.Outstanding.end_requests.Given as goal

abbrev pub invariant-loop-request : goal.invariant-loop-request
invariant-loop-request l = record {
  requests : on_channel l.channel no_requests l.self.replies.what ≡ on_channel l.channel no_requests l.initial.self.replies.what;
  slots : fold after_mark l.self.tickets.slots (cancels_at l.channel l.self.replies.what) ≡ fold after_mark l.initial.self.tickets.slots (cancels_at l.channel l.initial.self.replies.what);
  outbox : l.self.outbox ≡ l.initial.self.outbox;
  room : KeepsRoom l.initial.self.replies l.self.replies;
  ready : l.self.tickets.ready ≡ l.initial.self.tickets.ready;
}

abbrev pub decreases-loop-request : goal.decreases-loop-request
decreases-loop-request l = length (requests_at l.channel l.self.replies.what)
