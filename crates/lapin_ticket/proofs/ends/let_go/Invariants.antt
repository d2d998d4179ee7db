use Rattle.std.proofs.Common.{◌≡◌, length}
use Rattle.lapin_ticket.specs.Given.{AreListed, numbers_on}
use Rattle.lapin_ticket.proofs.ends.let_go.Given as goal

abbrev pub invariant-loop-given : goal.invariant-loop-given
invariant-loop-given l = record {
  listed : AreListed l.slots.slots l.given.channels;
  ready : l.given.ready ≡ l.initial.given.ready;
}

abbrev pub decreases-loop-given : goal.decreases-loop-given
decreases-loop-given l = length (numbers_on l.channel l.given.channels)
