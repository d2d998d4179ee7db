use Rattle.lapin_resend.proofs.Staying.{all_stay}
use Rattle.lapin_resend.proofs.laws.stored_stays.Goals as goal

pub returns : goal.returns
returns c = all_stay
