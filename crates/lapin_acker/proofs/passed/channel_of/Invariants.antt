use Rattle.std.proofs.Common.{◌≡◌, ◌≤◌, ◌-◌, ◌++◌, drop, length, replicate, slice_get}
use Rattle.lapin_acker.specs.declared.switch.Switch.TheVariants as switch
use Rattle.lapin_acker.specs.Store.{spelled}
use Rattle.lapin_acker.proofs.passed.channel_of.Given as goal

abbrev pub invariant-loop-run : goal.invariant-loop-run
invariant-loop-run l = record {
  within : l.run ≤ length l.runs.items;
  told : slice_get (spelled (drop l.run l.runs.items) ++ replicate l.count (switch.Used l.channel)) l.left ≡ slice_get (spelled l.runs.items ++ replicate l.count (switch.Used l.channel)) l.place;
}

abbrev pub decreases-loop-run : goal.decreases-loop-run
decreases-loop-run l = length l.runs.items - l.run
