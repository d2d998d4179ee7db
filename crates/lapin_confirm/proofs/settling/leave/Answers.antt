use Rattle.std.proofs.Common.{◌≤◌, ◌+◌, length, eq-eqb, refl, sym, subst, arith}
use Rattle.std.specs.List.{count_by}
use Rattle.lapin_tables.proofs.SlotLaws.{counted}
use Rattle.lapin_confirm.specs.declared.cell.Cell.TheVariants as cell
use Rattle.lapin_confirm.specs.PublishStates.{is_queued_on, is_pending_on}
use Rattle.lapin_confirm.proofs.Tying.{counts_fit, tied-left}
use Rattle.lapin_tables.specs.Packed.{Replaces}
use Rattle.lapin_confirm.specs.Marks.{cell_told, cell_mark}
use Rattle.lapin_confirm.proofs.Marking.{open-replaces}
use Rattle.lapin_confirm.proofs.settling.leave.Goals as goal

pub take_tag-tag-requires-clause-pending : goal.take_tag-tag-requires-clause-pending
take_tag-tag-requires-clause-pending c =
    let one : 1 ≤ count_by (is_queued_on c.args.channel) c.args.cells.now.slots = counted (is_queued_on c.args.channel) c.args.number (cell.Queued c.args.channel) c.args.cells.now.slots c.requires.queued (eq-eqb c.args.channel c.args.channel refl) in
    let fit : count_by (is_pending_on c.args.channel) c.args.cells.now.slots + count_by (is_queued_on c.args.channel) c.args.cells.now.slots ≤ length c.args.cells.now.slots = counts_fit c.args.channel c.args.cells.now.slots in
    omega (arith, c.requires.tied.pending, c.requires.fits)

pub returns-clause-tied : goal.returns-clause-tied
returns-clause-tied c =
    rw (c.set.ensures.slots, c.cell_for.ensures)
    (tied-left c.args.channel c.args.number c.take_tag-tag.result c.args.mode.now c.take_tag-tag.new.mode c.args.cells.now.slots
    c.requires.tied c.requires.queued c.take_tag-tag.ensures.tag c.take_tag-tag.ensures.tags c.take_tag-tag.ensures.queued c.take_tag-tag.ensures.pending c.take_tag-tag.ensures.room)

pub set-requires-clause-replaces : goal.set-requires-clause-replaces
set-requires-clause-replaces c = subst (λ o. Replaces cell_told cell_mark c.cell_for.result o) (sym c.requires.queued) (open-replaces (cell.Queued c.args.channel) c.cell_for.result refl)
