use Rattle.std.proofs.Common.{sym, ◌∙◌, ap, arith, List, slice_get}
use Rattle.lapin_rules.specs.Leaving.{Lists}
use Rattle.lapin_rules.specs.Drops.{without_channel}
use Rattle.lapin_outbox.specs.Outgoing.{OutboxState, with_lists}
use Rattle.lapin_outbox.specs.Returned.{is_returned_on}
use Rattle.lapin_outbox.specs.declared.dropped.Dropped.{Dropped}
use Rattle.lapin_outbox.proofs.Dropping.{channel-others}
use Rattle.lapin_outstanding.proofs.Dropped.{entries-smaller, entries-end, off-left, off-told}
use Rattle.lapin_outstanding.proofs.outstanding.Outstanding.drop_waiting_on.Goals as goal

pub loop-dropped-smaller : goal.loop-dropped-smaller
loop-dropped-smaller c =
    let now = c.loop-dropped.self.outbox.what in
    let left = c.drop_channel.ensures.what ∙ off-left c.args.channel now c.loop-dropped.invariant.off in
    entries-smaller c.args.channel now.lists _ c.in-Some.dropped (ap (λ (o : OutboxState). o.lists) left) (c.in-Some.ensures.told ∙ ap (λ (ds : List Dropped). slice_get ds 0) (off-told c.args.channel now c.loop-dropped.invariant.off))

pub loop-dropped-preserved : goal.loop-dropped-preserved
loop-dropped-preserved c =
    let now = c.loop-dropped.self.outbox.what in
    let left = c.drop_channel.ensures.what ∙ off-left c.args.channel now c.loop-dropped.invariant.off in
    record {
      off = ap (λ (o : OutboxState). is_returned_on c.args.channel o.returned) left ∙ c.loop-dropped.invariant.off;
      outbox = ap (λ (o : OutboxState). with_lists (without_channel c.args.channel o.lists) o) left ∙ ap (λ (l : Lists). with_lists l now) (channel-others c.args.channel now.lists) ∙ c.loop-dropped.invariant.outbox;
      requests = c.loop-dropped.invariant.requests;
      tickets = c.loop-dropped.invariant.tickets;
      outbox_room = omega arith;
    }

pub returns-clause-outbox : goal.returns-clause-outbox
returns-clause-outbox c =
    let now = c.loop-dropped.self.outbox.what in
    let told = c.in_default.ensures.told ∙ ap (λ (ds : List Dropped). slice_get ds 0) (off-told c.args.channel now c.loop-dropped.invariant.off) in
    c.drop_channel.ensures.what ∙ off-left c.args.channel now c.loop-dropped.invariant.off
    ∙ ap (λ (l : Lists). with_lists l now) (entries-end c.args.channel now.lists (sym told)) ∙ c.loop-dropped.invariant.outbox
