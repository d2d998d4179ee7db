use Rattle.lapin_outbox.proofs.Dropping.{all-told, all-empty}
use Rattle.lapin_outbox.proofs.laws.drops_empty_the_outbox.Goals as goal

pub returns-clause-told : goal.returns-clause-told
returns-clause-told c = all-told

pub returns-clause-end : goal.returns-clause-end
returns-clause-end c = all-empty
