use Rattle.std.proofs.Common.{◌+◌, ◌<◌, ◌^◌, refl, arith}
use Rattle.lapin_call.proofs.Steps.{goes_on}
use Rattle.lapin_call.proofs.calls.Calls.step_machine.Goals as goal

pub invariant_of-self-in-Ok : goal.invariant_of-self-in-Ok
invariant_of-self-in-Ok c =
    let few : c.self.inside.steps < 2 ^ 62 = omega (arith, c.if-self-ge-MOST_STEPS.false) in
    record {
      few = omega (arith, few);
      goes_on = λ _. goes_on c.args.step c.self.inside.requester c.make.new.requester c.self.inside.steps (c.self.inside.steps + 1) (c.self.invariant.goes_on c.if-self.false) few c.in-Ok.ensures.ok refl;
    }
