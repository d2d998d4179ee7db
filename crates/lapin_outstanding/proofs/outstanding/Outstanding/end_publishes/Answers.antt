use Rattle.std.proofs.Common.{sym, ◌∙◌, ap}
use Rattle.lapin_outbox.specs.Outgoing.{OutboxState}
use Rattle.lapin_rules.specs.ConfirmMarks as mark
use Rattle.lapin_confirm.specs.Machine.{after_mark}
use Rattle.lapin_confirm.specs.ConfirmState.{ConfirmState}
use Rattle.lapin_outstanding.proofs.Waiting.{queue-ended}
use Rattle.lapin_outstanding.proofs.outstanding.Outstanding.end_publishes.Goals as goal
use Rattle.lapin_confirm.proofs.Closing.{all-end}

pub returns-clause-confirms : goal.returns-clause-confirms
returns-clause-confirms c =
    c.end.ensures.what
    ∙ sym (all-end c.args.channel c.args.error c.take_unbegun.new.confirms.what)
    ∙ ap (λ (p : ConfirmState). after_mark p (mark.Ended c.args.channel c.args.error)) c.take_unbegun.ensures.confirms
    ∙ all-end c.args.channel c.args.error c.args.confirms.now.what

pub returns-clause-queued : goal.returns-clause-queued
returns-clause-queued c = queue-ended c.args.channel c.args.error c.args.self.now.outbox.what.lists.publishes _ c.take_unbegun.new.confirms.what _ (ap (λ (o : OutboxState). o.lists.publishes) c.take_unbegun.ensures.outbox) c.end.ensures.what c.take_unbegun.ensures.queued
