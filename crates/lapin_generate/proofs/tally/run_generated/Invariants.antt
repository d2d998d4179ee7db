use Rattle.std.proofs.Common.{◌*◌, ◌-◌}
use Rattle.lapin_machine.specs.World.{new_world}
use Rattle.lapin_joint.specs.Joint.{new_joint}
use Rattle.lapin_generate.specs.Generated.{generated}
use Rattle.lapin_generate.specs.Summed.{nothing}
use Rattle.lapin_generate.specs.Tally.{HasMade, CanGo}
use Rattle.lapin_generate.proofs.tally.run_generated.Given as goal

-- the publishes up to here were made, and the others can be
abbrev pub invariant-loop-done : goal.invariant-loop-done
invariant-loop-done l = record {
  made : HasMade (generated l.done) (new_joint (new_world 4096) 4096) l.run nothing l.summary;
  goes : CanGo (20 * (10000 - l.done)) l.run l.summary;
}
