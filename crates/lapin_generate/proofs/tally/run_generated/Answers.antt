use Rattle.std.proofs.Common.{◌≡◌, ◌+◌, ℕ, refl, arith, subst}
use Rattle.lapin_machine.specs.World.{new_world}
use Rattle.lapin_joint.specs.Joint.{new_joint}
use Rattle.lapin_generate.specs.Generated.{generated}
use Rattle.lapin_generate.specs.Summed.{nothing}
use Rattle.lapin_generate.specs.Tally.{HasMade}
use Rattle.lapin_generate.proofs.Growing.{made_next, can_go_fewer, few_steps, summed_all}
use Rattle.lapin_generate.proofs.tally.run_generated.Goals as goal

pub make_publish-requires-clause-goes : goal.make_publish-requires-clause-goes
make_publish-requires-clause-goes c = can_go_fewer _ 20 c.loop-done.run c.loop-done.summary c.loop-done.invariant.goes (omega arith)

pub loop-done-preserved : goal.loop-done-preserved
loop-done-preserved c =
    let made = c.in_ok-make_publish.ensures in
    record {
      made = made_next c.loop-done.done (new_joint (new_world 4096) 4096) c.loop-done.run c.make_publish.new.run nothing c.loop-done.summary c.make_publish.new.summary c.loop-done.invariant.made made;
      goes = made.goes _ (can_go_fewer _ _ c.loop-done.run c.loop-done.summary c.loop-done.invariant.goes (omega (arith, few_steps (c.loop-done.done + 1))));
    }

pub returns : goal.returns
returns c =
    let end : c.loop-done.done ≡ c.args.publishes = omega (arith, c.loop-done-test.false, c.loop-done.auto.done-end) in
    let made = subst (λ (n : ℕ). HasMade (generated n) (new_joint (new_world 4096) 4096) c.loop-done.run nothing c.loop-done.summary) end c.loop-done.invariant.made in
    summed_all 4096 (generated c.args.publishes) (new_joint (new_world 4096) 4096) c.loop-done.run nothing c.loop-done.summary refl refl made
