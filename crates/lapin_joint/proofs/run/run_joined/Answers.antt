use Rattle.std.proofs.Common.{◌≡◌, subst, List, ◌++◌}
use Rattle.std.specs.Result.{OnOk, OnErr}
use Rattle.lapin_joint.specs.declared.step.Reported.{Reported}
use Rattle.lapin_joint.specs.Joint.{reports}
use Rattle.lapin_machine.specs.Way.{by_machine}
use Rattle.lapin_joint.specs.JoinedRun.{JoinedRun}
use Rattle.lapin_machine.specs.Growing.{IsStarted}
use Rattle.lapin_machine.proofs.Growing.{not_started}
use Rattle.lapin_joint.proofs.Alike.{reports_joined}
use Rattle.lapin_joint.proofs.run.run_joined.Goals as goal
use Rattle.lapin_tables.proofs.Bools.{on_err}

pub returns-in_err-reserve_exact-clause-err : goal.returns-in_err-reserve_exact-clause-err
returns-in_err-reserve_exact-clause-err c = on_err c.from_residual.result _ (not_started _ _ _ c.reserve_exact.ensures.items)

pub returns-in_err-made-clause-err : goal.returns-in_err-made-clause-err
returns-in_err-made-clause-err c = on_err c.from_residual-in_err-made.result _ (not_started _ _ _ c.reserve_exact.ensures.items)

pub returns-clause-ok : goal.returns-clause-ok
returns-clause-ok c =
    let T : List Reported → Type 0 = λ old. OnOk c.run_steps.result (c.run_steps.new.report.items ≡ old ++ reports by_machine c.args.steps.items c.in_ok-made.made.joint) in
    let P : JoinedRun → Type 0 = λ k. OnOk c.run_steps.result (c.run_steps.new.report.items ≡ c.args.report.now.items ++ reports by_machine c.args.steps.items k.joint) in
    let Q : List Reported → Type 0 = λ rs. OnOk c.run_steps.result (c.run_steps.new.report.items ≡ c.args.report.now.items ++ rs) in
    subst Q (reports_joined c.args.frame_max c.args.steps.items) (subst P c.in_ok-made.ensures.made (subst T c.reserve_exact.ensures.items c.run_steps.ensures.ok))

pub returns-clause-err : goal.returns-clause-err
returns-clause-err c =
    let T : List Reported → Type 0 = λ old. OnErr c.run_steps.result (IsStarted old c.run_steps.new.report.items (reports by_machine c.args.steps.items c.in_ok-made.made.joint)) in
    let P : JoinedRun → Type 0 = λ k. OnErr c.run_steps.result (IsStarted c.args.report.now.items c.run_steps.new.report.items (reports by_machine c.args.steps.items k.joint)) in
    let Q : List Reported → Type 0 = λ rs. OnErr c.run_steps.result (IsStarted c.args.report.now.items c.run_steps.new.report.items rs) in
    subst Q (reports_joined c.args.frame_max c.args.steps.items) (subst P c.in_ok-made.ensures.made (subst T c.reserve_exact.ensures.items c.run_steps.ensures.err))
