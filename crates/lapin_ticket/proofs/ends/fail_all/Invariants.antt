use Rattle.std.proofs.Common.{◌≡◌, ℕ, ◌≤◌, true, Some, Err, map}
use Rattle.lapin_tables.specs.Numbered.{under}
use Rattle.lapin_ticket.specs.declared.Slot.{Slot}
use Rattle.lapin_ticket.specs.Slots.{answered_slot, is_awaited}
use Rattle.lapin_ticket.proofs.ends.fail_all.Given as goal

abbrev pub invariant-loop-number : goal.invariant-loop-number
invariant-loop-number l = record {
  same : map (answered_slot (Err l.error)) l.slots.slots ≡ map (answered_slot (Err l.error)) l.initial.slots.slots;
  spare : l.slots.spare ≡ l.initial.slots.spare;
  open_left : (n : ℕ) (s : Slot) → under n l.slots.slots ≡ Some s → is_awaited (Some s) ≡ true → (l.first ≤ n) × (n ≤ l.number);
}

abbrev pub decreases-loop-number : goal.decreases-loop-number
decreases-loop-number l = l.number
