use Rattle.std.proofs.Common.{replicate}
use Rattle.lapin_joint.specs.declared.step.Step.TheVariants as step
use Rattle.lapin_generate.specs.Tally.{HasPassed}
use Rattle.lapin_generate.proofs.steps.make_reads.Given as goal

abbrev pub invariant-loop-asked : goal.invariant-loop-asked
invariant-loop-asked l = HasPassed (replicate l.asked step.Read) l.fn.run l.run
