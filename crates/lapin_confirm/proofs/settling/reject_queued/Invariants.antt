use Rattle.std.proofs.Common.{◌≡◌, ℕ, ◌≤◌, Some, map}
use Rattle.std.specs.Option.{option_map}
use Rattle.lapin_tables.specs.Numbered.{under}
use Rattle.lapin_confirm.specs.declared.cell.Cell.TheVariants as cell
use Rattle.lapin_confirm.specs.PublishStates.{ended_cell}
use Rattle.lapin_confirm.specs.Ties.{Tied, KeepsTags, confirm_mode_state}
use Rattle.lapin_confirm.proofs.settling.reject_queued.Given as goal

abbrev pub invariant-loop-mode : goal.invariant-loop-mode
invariant-loop-mode l = record {
  tied : Tied l.channel l.mode l.cells.slots;
  same : map (option_map (ended_cell l.channel l.error)) l.cells.slots ≡ map (option_map (ended_cell l.channel l.error)) l.initial.cells.slots;
  mode : confirm_mode_state l.mode ≡ confirm_mode_state l.initial.mode;
  spare : l.initial.cells.spare ≤ l.cells.spare;
  room : KeepsTags l.initial.mode l.mode;
  below : (n : ℕ) → under n l.cells.slots ≡ Some (cell.Queued l.channel) → n ≤ l.number;
}

abbrev pub decreases-loop-mode : goal.decreases-loop-mode
decreases-loop-mode l = l.number
