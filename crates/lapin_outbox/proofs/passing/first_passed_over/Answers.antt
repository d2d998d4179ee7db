use Rattle.lapin_outbox.proofs.PassedOver.{held-skipped, none-skipped}
use Rattle.lapin_outbox.proofs.passing.first_passed_over.Goals as goal

pub returns-then-passed-first-clause-number : goal.returns-then-passed-first-clause-number
returns-then-passed-first-clause-number g c = none-skipped _ _ _ c.requires.first

pub returns-then-passed-first-clause-held : goal.returns-then-passed-first-clause-held
returns-then-passed-first-clause-held g c = held-skipped _ _ _ _ c.requires.held c.if-passed-first.true c.requires.first
