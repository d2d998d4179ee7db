use Rattle.std.proofs.Common.{◌≡◌, ℕ, ◌≤◌, ◌-◌, true, false, Some, slice_get}
use Rattle.lapin_tables.specs.Numbered.{under}
use Rattle.lapin_rules.specs.TicketReadings.{is_spared}
use Rattle.lapin_ticket.specs.Slots.{is_open_on, failed}
use Rattle.lapin_ticket.specs.Given.{numbers_on}
use Rattle.lapin_ticket.proofs.ends.end.Given as goal

abbrev pub invariant-loop-place : goal.invariant-loop-place
invariant-loop-place l = record {
  within : l.place ≤ l.count;
  same : failed l.channel l.spared l.error l.slots.slots ≡ failed l.channel l.spared l.error l.initial.slots.slots;
  spare : l.slots.spare ≡ l.initial.slots.spare;
  left : (n : ℕ) → is_open_on l.channel (under n l.slots.slots) ≡ true → is_spared n l.spared ≡ false → (k : ℕ) × (l.place ≤ k) × (slice_get (numbers_on l.channel l.given.channels) k ≡ Some n);
}

abbrev pub decreases-loop-place : goal.decreases-loop-place
decreases-loop-place l = l.count - l.place
