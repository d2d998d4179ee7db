use Rattle.lapin_resend.proofs.Sharing.{all_apart}
use Rattle.lapin_resend.proofs.laws.none_share.Goals as goal

pub returns : goal.returns
returns c = λ n steps. (all_apart n steps).apart
