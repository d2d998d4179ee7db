use Rattle.std.proofs.Common.{◌∙◌, ap, arith}
use Rattle.lapin_confirm.specs.Turns.{Turned, turned}
use Rattle.lapin_confirm.proofs.EarlyMessages.{turned-done, one-turn}
use Rattle.lapin_confirm.proofs.early.take_early.Goals as goal

pub loop-left-preserved : goal.loop-left-preserved
loop-left-preserved c = record {
  same = one-turn c.args.channel c.loop-left.left (turned c.loop-left.given.items c.loop-left.early.items) (turned c.turn_one.new.given.items c.turn_one.new.early.items) (omega arith) c.turn_one.ensures.turned ∙ c.loop-left.invariant.same;
  given = omega (arith, c.turn_one.ensures.given, c.loop-left.invariant.given);
  len = omega (arith, c.turn_one.ensures.room, c.loop-left.invariant.len);
  capacity = c.turn_one.ensures.room.1 ∙ c.loop-left.invariant.capacity;
}

pub returns-clause-given : goal.returns-clause-given
returns-clause-given c = ap (λ (t : Turned). t.given) (turned-done c.args.channel c.loop-left.left c.loop-left.given.items c.loop-left.early.items c.args.early.now.items (omega (arith, c.loop-left-test.false)) c.loop-left.invariant.same)

pub returns-clause-ok : goal.returns-clause-ok
returns-clause-ok c = ap (λ (t : Turned). t.early) (turned-done c.args.channel c.loop-left.left c.loop-left.given.items c.loop-left.early.items c.args.early.now.items (omega (arith, c.loop-left-test.false)) c.loop-left.invariant.same)
