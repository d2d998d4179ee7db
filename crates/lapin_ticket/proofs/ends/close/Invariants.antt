use Rattle.std.proofs.Common.{◌≡◌, ℕ, ◌≤◌, ◌-◌, true, map, Some, slice_get}
use Rattle.lapin_tables.specs.Numbered.{under}
use Rattle.lapin_ticket.specs.Slots.{rejects, closed_slot}
use Rattle.lapin_ticket.specs.Given.{numbers_on}
use Rattle.lapin_ticket.proofs.ends.close.Given as goal

abbrev pub invariant-loop-place : goal.invariant-loop-place
invariant-loop-place l = record {
  within : l.place ≤ l.count;
  same : map (closed_slot l.channel l.error) l.slots.slots ≡ map (closed_slot l.channel l.error) l.initial.slots.slots;
  spare : l.slots.spare ≡ l.initial.slots.spare;
  left : (n : ℕ) → rejects l.channel (under n l.slots.slots) ≡ true → (k : ℕ) × (l.place ≤ k) × (slice_get (numbers_on l.channel l.given.channels) k ≡ Some n);
}

abbrev pub decreases-loop-place : goal.decreases-loop-place
decreases-loop-place l = l.count - l.place
