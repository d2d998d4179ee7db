use Rattle.lapin_resend.proofs.Out.{all_out}
use Rattle.lapin_resend.proofs.laws.waiting_is_outstanding.Goals as goal

pub returns : goal.returns
returns c = all_out
