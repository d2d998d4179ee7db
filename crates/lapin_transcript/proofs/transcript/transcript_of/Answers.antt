use Rattle.std.proofs.Common.{◌≡◌, sym, subst, refl, List, [], ◌++◌, append-nil}
use Rattle.std.specs.Result.{OnOk, OnErr}
use Rattle.lapin_machine.specs.Way.{by_machine}
use Rattle.lapin_joint.specs.JoinedRun.{JoinedRun}
use Rattle.lapin_joint.specs.Order.{along}
use Rattle.lapin_check.specs.declared.seen.Seen.{Seen}
use Rattle.lapin_machine.specs.Growing.{IsStarted}
use Rattle.lapin_transcript.specs.Transcript.{seen_in, transcript}
use Rattle.lapin_transcript.proofs.Alike.{transcript_same}
use Rattle.lapin_transcript.proofs.transcript.transcript_of.Goals as goal

pub returns-in_default-clause-err : goal.returns-in_default-clause-err
returns-in_default-clause-err c = (transcript c.args.frame_max c.args.steps.items, record { done = []; whole = refl; new_is = sym (append-nil _) })

pub returns-clause-ok : goal.returns-clause-ok
returns-clause-ok c =
    let P : JoinedRun → Type 0 = λ k. OnOk c.run_steps.result (c.run_steps.new.transcript.items ≡ c.args.transcript.now.items ++ along by_machine seen_in c.args.steps.items k.joint) in
    let Q : List Seen → Type 0 = λ xs. OnOk c.run_steps.result (c.run_steps.new.transcript.items ≡ c.args.transcript.now.items ++ xs) in
    subst Q (transcript_same c.args.frame_max c.args.steps.items) (subst P c.in-Ok.ensures.made c.run_steps.ensures.ok)

pub returns-clause-err : goal.returns-clause-err
returns-clause-err c =
    let P : JoinedRun → Type 0 = λ k. OnErr c.run_steps.result (IsStarted c.args.transcript.now.items c.run_steps.new.transcript.items (along by_machine seen_in c.args.steps.items k.joint)) in
    let Q : List Seen → Type 0 = λ xs. OnErr c.run_steps.result (IsStarted c.args.transcript.now.items c.run_steps.new.transcript.items xs) in
    subst Q (transcript_same c.args.frame_max c.args.steps.items) (subst P c.in-Ok.ensures.made c.run_steps.ensures.err)
