use Rattle.std.proofs.Common.{None, sym, ◌∙◌, ap}
use Rattle.lapin_machine.specs.World.{with_returned}
use Rattle.lapin_machine.proofs.Back.{told_step, next_step, still_none}
use Rattle.lapin_machine.proofs.laws.a_frame_given_back_waits.Goals as goal

pub returns : goal.returns
returns c = record {
  told = λ w r e step before. told_step (with_returned r w) e step ∙ sym (told_step w e before);
  leaves = λ w r e step before. ap (with_returned None) (next_step (with_returned r w) e step) ∙ sym (ap (with_returned None) (next_step w e before));
  none = still_none;
}
