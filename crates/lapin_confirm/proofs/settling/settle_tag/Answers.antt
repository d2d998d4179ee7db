use Rattle.std.proofs.Common.{◌≤◌, ◌∙◌, sym, refl, subst, arith}
use Rattle.lapin_confirm.proofs.Tying.{tied-settled, waiting-counted}
use Rattle.lapin_confirm.proofs.Settled.{settled-none, settled-one}
use Rattle.lapin_confirm.specs.declared.cell.Cell.TheVariants as cell
use Rattle.lapin_tables.specs.Packed.{Replaces}
use Rattle.lapin_confirm.specs.Marks.{cell_told, cell_mark}
use Rattle.lapin_confirm.proofs.Marking.{open-replaces}
use Rattle.lapin_confirm.proofs.settling.settle_tag.Goals as goal

pub returns-in_default-clause-cells : goal.returns-in_default-clause-cells
returns-in_default-clause-cells c = sym (settled-none c.args.channel c.args.tag c.args.outcome c.args.mode.now c.args.cells.now.slots c.requires (sym c.in_default.ensures.value))

pub overflow_sub-mode : goal.overflow_sub-mode
overflow_sub-mode c = waiting-counted c.args.channel c.in-Some.number c.args.tag c.args.mode.now c.args.cells.now.slots c.requires (sym c.in-Some.ensures.value)

pub returns-clause-cells : goal.returns-clause-cells
returns-clause-cells c = c.set.ensures.slots ∙ settled-one c.args.channel c.in-Some.number c.args.tag c.args.outcome c.args.mode.now c.args.cells.now.slots c.requires (sym c.in-Some.ensures.value)

pub returns-clause-tied : goal.returns-clause-tied
returns-clause-tied c =
    let one : 1 ≤ c.args.mode.now.pending = waiting-counted c.args.channel c.in-Some.number c.args.tag c.args.mode.now c.args.cells.now.slots c.requires (sym c.in-Some.ensures.value) in
    rw c.set.ensures.slots
    (tied-settled c.args.channel c.in-Some.number c.args.tag c.args.outcome c.args.mode.now _ c.args.cells.now.slots c.requires
    (sym c.in-Some.ensures.value) c.take.ensures.slots refl (omega arith) (omega (arith, c.requires.room, c.take.ensures.kept)))

pub returns-clause-pending : goal.returns-clause-pending
returns-clause-pending c =
    let one : 1 ≤ c.args.mode.now.pending = waiting-counted c.args.channel c.in-Some.number c.args.tag c.args.mode.now c.args.cells.now.slots c.requires (sym c.in-Some.ensures.value) in
    λ _. omega arith

pub set-requires-clause-replaces : goal.set-requires-clause-replaces
set-requires-clause-replaces c = subst (λ o. Replaces cell_told cell_mark (cell.Resolved c.args.outcome) o) (sym (c.requires.waits c.in-Some.number c.args.tag (sym c.in-Some.ensures.value))) (open-replaces (cell.Pending c.args.channel c.args.tag) (cell.Resolved c.args.outcome) refl)
