use Rattle.std.proofs.Common.{◌≡◌, ◌-◌, ◌≤◌}
use Rattle.lapin_tables.specs.Packed.{IsPacked, packed_at, shown}
use Rattle.lapin_tables.proofs.packed.fill.Given as goal

abbrev pub invariant-loop-place : goal.invariant-loop-place
invariant-loop-place g l = record {
  within : l.place ≤ 64;
  packed : IsPacked g.T.Marked.told_by l.blocks.slots l.slots.slots;
  same : shown (packed_at g.T.Marked.told_by l.blocks.slots) 0 l.slots.slots ≡ shown (packed_at g.T.Marked.told_by l.initial.blocks.slots) 0 l.initial.slots.slots;
  spare : l.initial.slots.spare ≤ l.slots.spare;
}

abbrev pub decreases-loop-place : goal.decreases-loop-place
decreases-loop-place g l = 64 - l.place
