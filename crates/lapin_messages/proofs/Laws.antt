-- What the logs of consumers say of the broker, from what goes with every joined run.
use Rattle.std.proofs.Common.{ℕ, ◌≤◌, List, arith}
use Rattle.lapin_joint.specs.declared.step.Step.{Step}
use Rattle.lapin_messages.specs.Deliveries.{LogsAreSent, LogsAreCarried}
use Rattle.lapin_messages.proofs.Logs.{all_carried}
use Rattle.lapin_messages.proofs.Runs.{good}

pub logs_sent : (n : ℕ) → 4096 ≤ n → (ss : List Step) → LogsAreSent n ss
logs_sent n most ss p s at once = let l = (good n most ss).logs in let k = l.of p s at in k.prefix (omega (arith, once))

pub logs_carried : (n : ℕ) → 4096 ≤ n → (ss : List Step) → LogsAreCarried n ss
logs_carried n most ss p s at none = let l = (good n most ss).logs in let k = l.of p s at in let v = k.kept none in (v, all_carried s.log v)
