use Rattle.lapin_machine.proofs.Counts.{closed_counted, rejected_counted}
use Rattle.lapin_machine.proofs.closing.begin_close.Goals as goal

pub returns-clause-counts : goal.returns-clause-counts
returns-clause-counts c = (
  closed_counted c.args.channel c.failed_at_close.result c.args.outstanding.now.tickets.slots _ c.reject_unbegun.ensures.slots,
  rejected_counted c.args.channel c.failed_at_close.result c.args.confirms.now.what _ c.reject_unbegun.ensures.confirms,
)
