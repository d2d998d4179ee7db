use Rattle.lapin_frames.proofs.CarriedLaws.{read_is_carried}
use Rattle.lapin_frames.proofs.laws.what_is_read_is_carried.Goals as goal

pub returns-clause-frame : goal.returns-clause-frame
returns-clause-frame c = read_is_carried
