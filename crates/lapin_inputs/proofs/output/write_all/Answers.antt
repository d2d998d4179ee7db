use Rattle.std.proofs.Common.{arith, inr, ◌∙◌}
use Rattle.lapin_inputs.proofs.Known.{appends_more}
use Rattle.lapin_inputs.proofs.output.write_all.Goals as goal

pub loop-done-preserved : goal.loop-done-preserved
loop-done-preserved g c = record {
  written = appends_more _ _ _ c.args.text.now c.loop-done.done c.in_ok-count.count c.loop-done.invariant.written c.in_ok-count.ensures.bytes;
  faults = c.in_ok-count.ensures.sound (inr (omega (arith, c.if-count-eq0.false))) ∙ c.loop-done.invariant.faults;
  within = omega (arith, c.in_ok-count.ensures.within);
}
