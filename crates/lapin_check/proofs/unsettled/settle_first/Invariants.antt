use Rattle.std.proofs.Common.{◌≡◌, map, length, is_some}
use Rattle.std.specs.Prelude.{count_by}
use Rattle.lapin_check.specs.Marks.{mark}
use Rattle.lapin_check.specs.Pointing.{Points}
use Rattle.lapin_check.proofs.unsettled.settle_first.Given as goal

abbrev pub invariant-loop-number : goal.invariant-loop-number
invariant-loop-number l = record {
  points : Points l.settlement.channel l.opening l.places.slots l.account.items;
  same : map (mark l.place l.opening l.settlement) l.account.items ≡ map (mark l.place l.opening l.settlement) l.fn.account.items;
  long : length l.places.slots ≡ length l.fn.places.slots;
}

abbrev pub decreases-loop-number : goal.decreases-loop-number
decreases-loop-number l = count_by is_some l.places.slots
