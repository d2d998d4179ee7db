use Rattle.lapin_confirm.proofs.Polling.{giving-told, waiting-told}
use Rattle.lapin_confirm.proofs.laws.answers_tell.Goals as goal

pub returns : goal.returns
returns a = record { given = giving-told; waiting = waiting-told }
