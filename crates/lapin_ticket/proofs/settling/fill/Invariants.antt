use Rattle.std.proofs.Common.{◌≡◌, ℕ, ◌-◌, ◌≤◌, true}
use Rattle.lapin_tables.specs.Numbered.{under}
use Rattle.lapin_ticket.specs.Slots.{is_open_on}
use Rattle.lapin_ticket.specs.Packed.{IsPacked, shown}
use Rattle.lapin_ticket.proofs.settling.fill.Given as goal

abbrev pub invariant-loop-place : goal.invariant-loop-place
invariant-loop-place l = record {
  within : l.place ≤ 64;
  packed : IsPacked l.blocks.slots l.slots.slots;
  same : shown 0 l.blocks.slots l.slots.slots ≡ shown 0 l.initial.blocks.slots l.initial.slots.slots;
  opened : (c n : ℕ) → is_open_on c (under n l.slots.slots) ≡ true → is_open_on c (under n l.initial.slots.slots) ≡ true;
}

abbrev pub decreases-loop-place : goal.decreases-loop-place
decreases-loop-place l = 64 - l.place
