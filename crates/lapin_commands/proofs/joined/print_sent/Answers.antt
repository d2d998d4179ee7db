use Rattle.std.proofs.Common.{Bool, ◌∷◌, [], ◌++◌, sym, ap}
use Rattle.std.specs.Prelude.{codes, if◌then◌else◌}
use Rattle.lapin_joint.specs.declared.step.Step.TheVariants as step
use Rattle.lapin_joint.specs.declared.step.Reported.TheVariants as reported
use Rattle.lapin_commands.proofs.JoinedRuns.{made_either, word_line}
use Rattle.lapin_commands.proofs.joined.print_sent.Goals as goal

pub returns : goal.returns
returns c =
    let t = c.args.text.now.items in
    made_either c.put_either.result (step.Send c.args.frame) c.args.run.now c.try_send.new.self c.in_ok-sent.sent reported.Sent reported.NotLawful (codes "sent" ++ 10 ∷ []) (codes "notlawful" ++ 10 ∷ []) t c.put_either.new.text.items
    c.in_ok-sent.ensures.ok (ap (λ (b : Bool). if b then reported.Sent else reported.NotLawful) (sym c.in_ok-sent.ensures.told)) (word_line t (codes "sent")) (word_line t (codes "notlawful")) c.put_either.ensures
