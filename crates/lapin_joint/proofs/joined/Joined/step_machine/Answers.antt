use Rattle.std.proofs.Common.{◌+◌, ◌<◌, ◌^◌, refl, ap, arith}
use Rattle.lapin_joint.specs.JoinedRun.{JoinedRun}
use Rattle.lapin_joint.proofs.Steps.{goes_on}
use Rattle.lapin_joint.proofs.joined.Joined.step_machine.Goals as goal

pub invariant_of-self : goal.invariant_of-self
invariant_of-self c =
    let few : c.self.inside.steps + 1 < 2 ^ 64 = omega (arith, c.requires, ap (λ (k : JoinedRun). k.steps) c.self.view_is) in
    λ _. goes_on c.args.step c.self.inside.links c.make.new.self c.self.inside.steps (c.self.inside.steps + 1) (c.self.invariant c.if-self.false) few c.in-Ok.ensures.ok refl
