use Rattle.lapin_resend_laws.proofs.Runs.{all_requested}
use Rattle.lapin_resend_laws.proofs.no_confirm_is_not_requested.Goals as goal

pub returns : goal.returns
returns c = all_requested
