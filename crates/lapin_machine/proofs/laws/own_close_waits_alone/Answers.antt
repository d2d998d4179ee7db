use Rattle.lapin_machine.proofs.Alone.{waits_alone, own_close_dropped}
use Rattle.lapin_machine.proofs.laws.own_close_waits_alone.Goals as goal

pub returns : goal.returns
returns c = record { alone = waits_alone; dropped = λ frame_max events sent. own_close_dropped _ _ (waits_alone frame_max events) sent }
