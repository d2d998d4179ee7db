use Rattle.std.proofs.Common.{refl, sym, ◌∙◌, ap, arith}
use Rattle.lapin_rules.specs.Leaving.{Lists}
use Rattle.lapin_rules.specs.Drops.{without_publishes_of}
use Rattle.lapin_outbox.specs.Outgoing.{OutboxState, with_lists}
use Rattle.lapin_outbox.proofs.Dropping.{unbegun-others}
use Rattle.lapin_outstanding.proofs.Queueing.{may-reject}
use Rattle.lapin_outstanding.proofs.Waiting.{queue-same, queue-rejected, queue-without, close-rejected}
use Rattle.lapin_outstanding.proofs.Dropped.{unbegun-smaller, unbegun-end, none-unbegun}
use Rattle.lapin_outstanding.proofs.outstanding.Outstanding.take_unbegun.Goals as goal

pub reject-requires : goal.reject-requires
reject-requires c = may-reject c.args.channel c.loop-dropped.confirms.what.publish_states.cells c.loop-dropped.self.outbox.what.lists.publishes c.in-Some.dropped c.in-Some.ensures.told c.loop-dropped.invariant.queued.each

pub loop-dropped-smaller : goal.loop-dropped-smaller
loop-dropped-smaller c = unbegun-smaller c.args.channel c.loop-dropped.self.outbox.what.lists _ c.in-Some.dropped (ap (λ (o : OutboxState). o.lists) c.drop_unbegun.ensures.what) c.in-Some.ensures.told

pub loop-dropped-preserved : goal.loop-dropped-preserved
loop-dropped-preserved c =
    let now = c.loop-dropped.self.outbox.what in
    record {
      outbox = ap (λ (o : OutboxState). with_lists (without_publishes_of c.args.channel o.lists) o) c.drop_unbegun.ensures.what ∙ ap (λ (l : Lists). with_lists l now) (unbegun-others c.args.channel now.lists) ∙ c.loop-dropped.invariant.outbox;
      confirms = close-rejected c.args.channel now.lists.publishes c.in-Some.dropped c.args.error c.loop-dropped.confirms.what _ c.in-Some.ensures.told c.reject.ensures c.loop-dropped.invariant.queued ∙ c.loop-dropped.invariant.confirms;
      queued = queue-rejected c.args.channel now.lists.publishes _ c.in-Some.dropped c.args.error c.loop-dropped.confirms.what _ c.in-Some.ensures.told (ap (λ (o : OutboxState). o.lists.publishes) c.drop_unbegun.ensures.what) c.reject.ensures c.loop-dropped.invariant.queued;
      requests = c.loop-dropped.invariant.requests;
      tickets = c.loop-dropped.invariant.tickets;
      outbox_room = omega arith;
    }

pub returns-clause-outbox : goal.returns-clause-outbox
returns-clause-outbox c =
    let now = c.loop-dropped.self.outbox.what in
    c.drop_unbegun.ensures.what ∙ ap (λ (l : Lists). with_lists l now) (unbegun-end c.args.channel now.lists (sym c.in_default.ensures.told)) ∙ c.loop-dropped.invariant.outbox

pub returns-clause-queued : goal.returns-clause-queued
returns-clause-queued c =
    queue-same c.loop-dropped.confirms.what.publish_states.cells _ _ _ refl (ap (λ (o : OutboxState). o.lists.publishes) c.drop_unbegun.ensures.what)
    (queue-without c.args.channel c.loop-dropped.confirms.what.publish_states.cells c.loop-dropped.self.outbox.what.lists.publishes (none-unbegun c.args.channel c.loop-dropped.self.outbox.what.lists.publishes (sym c.in_default.ensures.told)) c.loop-dropped.invariant.queued)
