use Rattle.lapin_rules.specs.Ends.{live_channels}
use Rattle.lapin_machine.proofs.Cancelled.{all_failed_counted}
use Rattle.lapin_machine.proofs.Counts.{ends_counted}
use Rattle.lapin_machine.proofs.closing.go_down.Goals as goal

pub returns-clause-counts : goal.returns-clause-counts
returns-clause-counts c = (
  all_failed_counted (live_channels c.args.phases.now.entries) c.args.outstanding.now.replies.what c.args.error c.args.outstanding.now.tickets.slots _ c.end_all.ensures.slots,
  ends_counted c.args.error (live_channels c.args.phases.now.entries) c.args.confirms.now.what _ c.end_all.ensures.confirms,
)
