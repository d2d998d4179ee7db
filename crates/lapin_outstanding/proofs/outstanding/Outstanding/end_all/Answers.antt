use Rattle.std.proofs.Common.{◌∙◌, ap, None}
use Rattle.lapin_rules.specs.Ends.{live_channels, cancels_on}
use Rattle.lapin_rules.specs.TicketReadings as mark
use Rattle.lapin_rules.specs.Ends.{live_channels, cancels_on}
use Rattle.lapin_outbox.specs.Returned.{with_returned}
use Rattle.lapin_ticket.specs.Room.{Issued}
use Rattle.lapin_outstanding.proofs.Cancels.{cancels-then}
use Rattle.lapin_outstanding.proofs.outstanding.Outstanding.end_all.Goals as goal

pub returns-clause-outbox : goal.returns-clause-outbox
returns-clause-outbox c = c.drop_waiting.ensures.outbox ∙ ap (with_returned None) c.end_live.ensures.rest

pub returns-clause-slots : goal.returns-clause-slots
returns-clause-slots c =
    cancels-then c.args.self.now.tickets.slots c.drop_waiting.new.self.tickets.slots _ (cancels_on (live_channels c.args.phases.now.entries) c.args.self.now.replies.what) (mark.AllFailed c.args.error)
    (ap (λ (t : Issued). t.slots) c.drop_waiting.ensures.tickets ∙ c.end_live.ensures.slots)
    c.fail_all.ensures.slots
