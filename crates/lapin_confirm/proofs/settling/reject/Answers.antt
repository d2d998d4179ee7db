use Rattle.std.proofs.Common.{◌≤◌, refl, sym, subst, arith}
use Rattle.lapin_types.specs.declared.outcome.Outcome.TheVariants as outcome
use Rattle.lapin_confirm.proofs.Tying.{tied-untagged, queued-counted}
use Rattle.lapin_confirm.specs.declared.cell.Cell.TheVariants as cell
use Rattle.lapin_tables.specs.Packed.{Replaces}
use Rattle.lapin_confirm.specs.Marks.{cell_told, cell_mark}
use Rattle.lapin_confirm.proofs.Marking.{open-replaces}
use Rattle.lapin_confirm.proofs.settling.reject.Goals as goal

pub overflow_sub-mode : goal.overflow_sub-mode
overflow_sub-mode c = queued-counted c.args.channel c.args.number c.args.mode.now c.args.cells.now.slots c.requires.tied c.requires.queued

pub returns-clause-tied : goal.returns-clause-tied
returns-clause-tied c =
    let one : 1 ≤ c.args.mode.now.queued = queued-counted c.args.channel c.args.number c.args.mode.now c.args.cells.now.slots c.requires.tied c.requires.queued in
    rw c.set.ensures.slots
    (tied-untagged c.args.channel c.args.number (outcome.Failed c.args.error) c.args.mode.now _ c.args.cells.now.slots
    c.requires.tied c.requires.queued refl (omega arith) refl (omega (arith, c.requires.tied.room)))

pub set-requires-clause-replaces : goal.set-requires-clause-replaces
set-requires-clause-replaces c = subst (λ o. Replaces cell_told cell_mark (cell.Resolved (outcome.Failed c.args.error)) o) (sym c.requires.queued) (open-replaces (cell.Queued c.args.channel) (cell.Resolved (outcome.Failed c.args.error)) refl)
