use Rattle.std.proofs.Common.{true, replicate}
use Rattle.lapin_types.specs.declared.event.Event.TheVariants as event
use Rattle.lapin_joint.specs.declared.step.Step.TheVariants as step
use Rattle.lapin_generate.specs.Tally.{HasMade}
use Rattle.lapin_generate.proofs.steps.make_requests.Given as goal

abbrev pub invariant-loop-asked : goal.invariant-loop-asked
invariant-loop-asked l = HasMade (replicate l.asked (step.Client (event.Next true))) l.fn.run l.run l.fn.summary l.summary
