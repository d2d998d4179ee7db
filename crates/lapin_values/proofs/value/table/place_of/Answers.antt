use Rattle.std.proofs.Common.{arith, ◌+◌, ◌-◌, ◌/◌, ◌<◌, length}
use Rattle.lapin_values.proofs.TableLemmas.{keys_below-le}
use Rattle.lapin_values.proofs.Search.{tested_below, tested_within}
use Rattle.lapin_values.proofs.value.table.place_of.Goals as goal

pub loop-low-init : goal.loop-low-init
loop-low-init c = (omega arith, keys_below-le c.args.key.now c.args.entries.now, omega arith)

pub loop-low-preserved-then-lt : goal.loop-low-preserved-then-lt
loop-low-preserved-then-lt c =
    let middle = c.loop-low.low + (c.loop-low.high - c.loop-low.low) / 2 in
    let within : middle < length c.args.entries.now = omega arith in
    (omega (arith, tested_below c.args.key.now _ c.args.entries.now middle _ c.requires within c.as_str.ensures.value c.lt.ensures c.if-lt.true), c.loop-low.invariant.1, c.loop-low.invariant.2)

pub loop-low-preserved : goal.loop-low-preserved
loop-low-preserved c =
    let middle = c.loop-low.low + (c.loop-low.high - c.loop-low.low) / 2 in
    let within : middle < length c.args.entries.now = omega arith in
    (c.loop-low.invariant.0, tested_within c.args.key.now _ c.args.entries.now middle _ within c.as_str.ensures.value c.lt.ensures c.if-lt.false, omega arith)
