use Rattle.std.proofs.Common.{ℕ, arith}
use Rattle.lapin_types.specs.declared.event.Event.TheVariants as event
use Rattle.lapin_client.proofs.Pending.{pending_more}
use Rattle.lapin_client.proofs.client.Client.ready_reply.Goals as goal

pub loop-place-preserved : goal.loop-place-preserved
loop-place-preserved c = record {
  passed = pending_more (λ (n : ℕ). event.PollTicket n) c.args.from c.loop-place.place c.args.tickets.now c.args.self.now.session c.ticket_ready.result c.loop-place.invariant.passed c.ticket_ready.ensures c.if-ticket_ready.false;
  behind = let behind = c.loop-place.invariant.behind in omega (arith, behind);
}
