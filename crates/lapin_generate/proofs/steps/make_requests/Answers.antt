use Rattle.std.proofs.Common.{true, replicate, subst, ℕ, ◌≡◌, arith}
use Rattle.lapin_types.specs.declared.event.Event.TheVariants as event
use Rattle.lapin_joint.specs.declared.step.Step.TheVariants as step
use Rattle.lapin_generate.specs.Tally.{HasMade}
use Rattle.lapin_generate.proofs.Growing.{made_again, can_go_after}
use Rattle.lapin_generate.proofs.steps.make_requests.Goals as goal

pub request-requires : goal.request-requires
request-requires c = can_go_after c.loop-asked.asked c.args.count (step.Client (event.Next true)) c.args.run.now c.loop-asked.run c.args.summary.now c.loop-asked.summary c.loop-asked.invariant c.requires (omega arith)

pub loop-asked-preserved : goal.loop-asked-preserved
loop-asked-preserved c = made_again c.loop-asked.asked (step.Client (event.Next true)) c.args.run.now c.loop-asked.run c.request.new.run c.args.summary.now c.loop-asked.summary c.request.new.summary c.loop-asked.invariant c.in_ok-request.ensures

pub returns : goal.returns
returns c =
    let end : c.loop-asked.asked ≡ c.args.count = omega (arith, c.loop-asked-test.false, c.loop-asked.auto.asked-end) in
    subst (λ (n : ℕ). HasMade (replicate n (step.Client (event.Next true))) c.args.run.now c.loop-asked.run c.args.summary.now c.loop-asked.summary) end c.loop-asked.invariant
