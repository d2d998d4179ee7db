use Rattle.std.proofs.Common.{refl}
use Rattle.lapin_machine.specs.World.{told_by, next}
use Rattle.lapin_machine.proofs.Standing.{stands-next}
use Rattle.lapin_machine.proofs.laws.a_step_goes_on.Goals as goal

pub returns : goal.returns
returns c = λ n h w e step s. stands-next n h w (next w e) e (told_by w e) step s refl refl
