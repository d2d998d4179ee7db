use Rattle.lapin_laws.proofs.Debts.{owed_after}
use Rattle.lapin_laws.proofs.owed.awaited_replies_are_requested.Goals as goal

pub returns : goal.returns
returns c = owed_after
