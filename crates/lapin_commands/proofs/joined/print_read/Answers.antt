use Rattle.std.proofs.Common.{◌∷◌, [], ◌++◌}
use Rattle.std.specs.Prelude.{codes}
use Rattle.lapin_joint.specs.declared.step.Step.TheVariants as step
use Rattle.lapin_joint.specs.declared.step.Reported.TheVariants as reported
use Rattle.lapin_commands.proofs.JoinedRuns.{made_either, word_line}
use Rattle.lapin_commands.proofs.joined.print_read.Goals as goal

pub returns : goal.returns
returns c =
    let t = c.args.text.now.items in
    made_either c.put_either.result step.Read c.args.run.now c.read_next.new.self c.in_ok-some.some reported.Read reported.Nothing (codes "read" ++ 10 ∷ []) (codes "nothing" ++ 10 ∷ []) t c.put_either.new.text.items
    c.in_ok-some.ensures.ok c.in_ok-some.ensures.told (word_line t (codes "read")) (word_line t (codes "nothing")) c.put_either.ensures
