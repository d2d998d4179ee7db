use Rattle.std.proofs.Common.{replicate, subst, ℕ, ◌≡◌, arith}
use Rattle.lapin_joint.specs.declared.step.Step.TheVariants as step
use Rattle.lapin_generate.specs.Tally.{HasPassed}
use Rattle.lapin_generate.proofs.Growing.{passed_again}
use Rattle.lapin_generate.proofs.steps.make_reads.Goals as goal

pub loop-asked-preserved : goal.loop-asked-preserved
loop-asked-preserved c = passed_again c.loop-asked.asked step.Read c.args.run.now c.loop-asked.run c.read.new.run c.loop-asked.invariant c.in_ok-read.ensures

pub returns : goal.returns
returns c =
    let end : c.loop-asked.asked ≡ c.args.count = omega (arith, c.loop-asked-test.false, c.loop-asked.auto.asked-end) in
    subst (λ (n : ℕ). HasPassed (replicate n step.Read) c.args.run.now c.loop-asked.run) end c.loop-asked.invariant
