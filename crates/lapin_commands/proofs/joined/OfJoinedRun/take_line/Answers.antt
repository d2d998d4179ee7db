use Rattle.std.proofs.Common.{◌≡◌, ℕ, suc, true, false, List, [], ◌∷◌, Some}
use Rattle.lapin_machine.specs.World.{World}
use Rattle.lapin_joint.specs.Joint.{Joint}
use Rattle.lapin_inputs.specs.Printing.{Adds}
use Rattle.lapin_joint.specs.JoinedRun.{CanTake}
use Rattle.lapin_commands.specs.Joined.{JoinedGoesOn, IsStepMade}
use Rattle.lapin_commands.proofs.Runs.{if_ok}
use Rattle.lapin_commands.proofs.JoinedRuns.{can_one, made_adds, made_takes, made_stops, made_same}
use Rattle.lapin_commands.proofs.joined.OfJoinedRun.take_line.Goals as goal

pub take_step-requires : goal.take_step-requires
take_step-requires c = can_one c.args.run.now c.requires

pub returns-clause-good : goal.returns-clause-good
returns-clause-good c =
    let j = c.args.run.now in
    let k = c.take_step.new.run in
    let line = c.args.line.now in
    let t = c.args.text.now.items in
    let u = c.take_step.new.text.items in
    if_ok c.take_step.result (IsStepMade line j k t u) (λ good. good ≡ true → (past : Joint World) → past ≡ j → (now : Joint World) × (now ≡ k) × Adds (JoinedGoesOn past) (JoinedGoesOn now) line t u)
    (made_adds j k line t u) c.take_step.ensures

pub returns-clause-takes : goal.returns-clause-takes
returns-clause-takes c =
    let j = c.args.run.now in
    let k = c.take_step.new.run in
    let line = c.args.line.now in
    let t = c.args.text.now.items in
    let u = c.take_step.new.text.items in
    if_ok c.take_step.result (IsStepMade line j k t u) (λ good. good ≡ true → (n : ℕ) → CanTake (suc n) j → CanTake n k)
    (made_takes j k line t u) c.take_step.ensures

pub returns-clause-bad : goal.returns-clause-bad
returns-clause-bad c =
    let j = c.args.run.now in
    let k = c.take_step.new.run in
    let line = c.args.line.now in
    let t = c.args.text.now.items in
    let u = c.take_step.new.text.items in
    if_ok c.take_step.result (IsStepMade line j k t u) (λ good. good ≡ false → (past : Joint World) (n : ℕ) (lines : List (List ℕ)) → past ≡ j → JoinedGoesOn past n (line ∷ lines) (Some n) [])
    (made_stops j k line t u) c.take_step.ensures

pub returns-clause-same : goal.returns-clause-same
returns-clause-same c =
    let j = c.args.run.now in
    let k = c.take_step.new.run in
    let line = c.args.line.now in
    let t = c.args.text.now.items in
    let u = c.take_step.new.text.items in
    if_ok c.take_step.result (IsStepMade line j k t u) (λ good. good ≡ false → u ≡ t) (made_same j k line t u) c.take_step.ensures
