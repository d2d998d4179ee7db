use Rattle.std.proofs.Common.{◌≡◌, ◌≤◌, nat_le, map}
use Rattle.std.specs.Option.{option_map}
use Rattle.lapin_confirm.specs.PublishStates.{settled_cell}
use Rattle.lapin_confirm.specs.Ties.{Tied, KeepsTags, confirm_mode_state}
use Rattle.lapin_confirm.proofs.settling.settle_through.Given as goal

abbrev pub invariant-loop-tag : goal.invariant-loop-tag
invariant-loop-tag l = record {
  tied : Tied l.channel l.mode l.cells.slots;
  same : map (option_map (settled_cell l.channel (λ t. nat_le t l.limit) l.outcome)) l.cells.slots ≡ map (option_map (settled_cell l.channel (λ t. nat_le t l.limit) l.outcome)) l.initial.cells.slots;
  mode : confirm_mode_state l.mode ≡ confirm_mode_state l.initial.mode;
  spare : l.initial.cells.spare ≤ l.cells.spare;
  room : KeepsTags l.initial.mode l.mode;
}

abbrev pub decreases-loop-tag : goal.decreases-loop-tag
decreases-loop-tag l = l.mode.pending
