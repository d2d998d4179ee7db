use Rattle.std.proofs.Common.{◌≡◌, ℕ, true, false, Some, refl, subst}
use Rattle.lapin_types.specs.declared.outcome.Outcome.TheVariants as outcome
use Rattle.lapin_tables.specs.Numbered.{under}
use Rattle.lapin_confirm.specs.declared.cell.Cell.TheVariants as cell
use Rattle.lapin_confirm.proofs.Ended.{ended-rejected, still-queued}
use Rattle.lapin_confirm.proofs.settling.reject_if_queued.Goals as goal

pub returns-then-not-is_queued_on-clause-queued : goal.returns-then-not-is_queued_on-clause-queued
returns-then-not-is_queued_on-clause-queued c = λ n there.
    let P : ℕ → Type 0 = λ m. under m c.args.cells.now.slots ≡ Some (cell.Queued c.args.channel) in
    ((λ same. let no : false ≡ true = c.if-not-is_queued_on.ensures.1 (subst P same there) in cc), there)

pub returns-clause-same : goal.returns-clause-same
returns-clause-same c = rw c.reject.ensures.cells (ended-rejected c.args.channel c.args.number c.args.error c.args.cells.now.slots (c.if-not-is_queued_on.ensures.0 refl))

pub returns-clause-queued : goal.returns-clause-queued
returns-clause-queued c = rw c.reject.ensures.cells (λ n there. still-queued c.args.channel c.args.number n (outcome.Failed c.args.error) c.args.cells.now.slots (c.if-not-is_queued_on.ensures.0 refl) there)
