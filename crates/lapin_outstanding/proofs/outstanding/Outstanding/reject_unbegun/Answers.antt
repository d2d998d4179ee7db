use Rattle.std.proofs.Common.{sym, ◌∙◌, ap}
use Rattle.lapin_outbox.specs.Outgoing.{OutboxState}
use Rattle.lapin_outstanding.proofs.Waiting.{close-over}
use Rattle.lapin_outstanding.proofs.outstanding.Outstanding.reject_unbegun.Goals as goal

pub returns-clause-confirms : goal.returns-clause-confirms
returns-clause-confirms c =
    sym (close-over c.args.channel c.args.error c.args.self.now.outbox.what.lists.publishes _ c.take_unbegun.new.confirms.what (ap (λ (o : OutboxState). o.lists.publishes) c.take_unbegun.ensures.outbox) c.take_unbegun.ensures.queued.all)
    ∙ c.take_unbegun.ensures.confirms
