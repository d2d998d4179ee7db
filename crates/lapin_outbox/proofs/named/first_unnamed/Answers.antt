use Rattle.std.proofs.Common.{sym, arith}
use Rattle.lapin_outbox.specs.Returned.{is_named}
use Rattle.lapin_outbox.proofs.Unnamed.{unnamed-first, named-next, all-named}
use Rattle.lapin_outbox.proofs.named.first_unnamed.Goals as goal

pub returns-then-not-is_among : goal.returns-then-not-is_among
returns-then-not-is_among c = unnamed-first (is_named c.args.named.now) c.args.channels.now c.args.from c.loop-channel.number c.loop-channel.invariant.done c.in-Some.channel c.loop-channel.invariant.on c.in-Some.ensures (sym c.if-not-is_among.ensures)

pub loop-channel-preserved : goal.loop-channel-preserved
loop-channel-preserved c = record {
  on = omega (arith, c.loop-channel.invariant.on, c.in-Some.ensures.from_on);
  done = rw c.from-number.ensures (named-next (is_named c.args.named.now) c.args.channels.now c.args.from c.loop-channel.number c.loop-channel.invariant.done c.in-Some.channel c.in-Some.ensures (sym c.if-not-is_among.ensures));
}

pub returns : goal.returns
returns c = all-named (is_named c.args.named.now) c.args.channels.now c.args.from c.loop-channel.number c.loop-channel.invariant.done c.in_default.ensures
