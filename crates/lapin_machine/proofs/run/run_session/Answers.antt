use Rattle.std.proofs.Common.{◌≡◌, subst, List, ◌++◌}
use Rattle.std.specs.Result.{OnOk, OnErr}
use Rattle.lapin_types.specs.declared.record.Record.{Record}
use Rattle.lapin_machine.specs.World.{World, outputs}
use Rattle.lapin_machine.specs.Growing.{IsStarted}
use Rattle.lapin_machine.proofs.Standing.{outputs_run}
use Rattle.lapin_machine.proofs.Growing.{not_started}
use Rattle.lapin_machine.proofs.run.run_session.Goals as goal
use Rattle.lapin_tables.proofs.Bools.{on_err}

pub returns-in_err-reserve_exact-clause-err : goal.returns-in_err-reserve_exact-clause-err
returns-in_err-reserve_exact-clause-err c = on_err c.from_residual.result _ (not_started _ _ _ c.reserve_exact.ensures.items)

pub returns-in_err-session-clause-err : goal.returns-in_err-session-clause-err
returns-in_err-session-clause-err c = on_err c.from_residual-in_err-session.result _ (not_started _ _ _ c.reserve_exact.ensures.items)

pub returns-clause-ok : goal.returns-clause-ok
returns-clause-ok c =
    let T : List Record → Type 0 = λ old. OnOk c.run_events.result (c.run_events.new.trace.items ≡ old ++ outputs c.in_ok-session.session c.args.events.items) in
    let P : World → Type 0 = λ w. OnOk c.run_events.result (c.run_events.new.trace.items ≡ c.args.trace.now.items ++ outputs w c.args.events.items) in
    let Q : List Record → Type 0 = λ rs. OnOk c.run_events.result (c.run_events.new.trace.items ≡ c.args.trace.now.items ++ rs) in
    subst Q (outputs_run c.args.frame_max c.args.events.items) (subst P c.in_ok-session.ensures.value (subst T c.reserve_exact.ensures.items c.run_events.ensures.ok))

pub returns-clause-err : goal.returns-clause-err
returns-clause-err c =
    let T : List Record → Type 0 = λ old. OnErr c.run_events.result (IsStarted old c.run_events.new.trace.items (outputs c.in_ok-session.session c.args.events.items)) in
    let P : World → Type 0 = λ w. OnErr c.run_events.result (IsStarted c.args.trace.now.items c.run_events.new.trace.items (outputs w c.args.events.items)) in
    let Q : List Record → Type 0 = λ rs. OnErr c.run_events.result (IsStarted c.args.trace.now.items c.run_events.new.trace.items rs) in
    subst Q (outputs_run c.args.frame_max c.args.events.items) (subst P c.in_ok-session.ensures.value (subst T c.reserve_exact.ensures.items c.run_events.ensures.err))
