use Rattle.lapin_machine.proofs.Gone.{goes_with_ends, lost_none}
use Rattle.lapin_machine.proofs.laws.a_frame_given_back_goes_with_its_channel.Goals as goal

pub returns : goal.returns
returns c = record { lost = lost_none; gone = goes_with_ends }
