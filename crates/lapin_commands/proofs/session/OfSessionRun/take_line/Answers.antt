use Rattle.std.proofs.Common.{◌≡◌, ℕ, suc, true, false, Bool, List, [], ◌∷◌, Some}
use Rattle.lapin_machine.specs.World.{World}
use Rattle.lapin_machine.specs.Numbers.{HasNumbersFor}
use Rattle.lapin_text.specs.LineReading.{line_at}
use Rattle.lapin_lines.specs.Lines.{IsTaken}
use Rattle.lapin_inputs.specs.Printing.{Adds}
use Rattle.lapin_commands.specs.Session.{SessionGoesOn}
use Rattle.lapin_commands.proofs.Runs.{if_ok, taken_adds_from, taken_takes, taken_stops}
use Rattle.lapin_commands.proofs.session.OfSessionRun.take_line.Goals as goal

pub returns-clause-good : goal.returns-clause-good
returns-clause-good c =
    let w = c.args.run.now in
    let v = c.take_line.new.session in
    let taken : Bool → Type 0 = IsTaken (line_at c.args.line.now) w v c.args.text.now.items c.take_line.new.text.items in
    if_ok c.take_line.result taken (λ good. good ≡ true → (past : World) → past ≡ w → (now : World) × (now ≡ v) × Adds (SessionGoesOn past) (SessionGoesOn now) c.args.line.now c.args.text.now.items c.take_line.new.text.items)
    (taken_adds_from w v c.args.line.now c.args.text.now.items c.take_line.new.text.items) c.take_line.ensures

pub returns-clause-takes : goal.returns-clause-takes
returns-clause-takes c =
    let w = c.args.run.now in
    let v = c.take_line.new.session in
    let taken : Bool → Type 0 = IsTaken (line_at c.args.line.now) w v c.args.text.now.items c.take_line.new.text.items in
    if_ok c.take_line.result taken (λ good. good ≡ true → (n : ℕ) → HasNumbersFor (suc n) w → HasNumbersFor n v)
    (taken_takes w v c.args.line.now c.args.text.now.items c.take_line.new.text.items) c.take_line.ensures

pub returns-clause-bad : goal.returns-clause-bad
returns-clause-bad c =
    let w = c.args.run.now in
    let v = c.take_line.new.session in
    let taken : Bool → Type 0 = IsTaken (line_at c.args.line.now) w v c.args.text.now.items c.take_line.new.text.items in
    if_ok c.take_line.result taken (λ good. good ≡ false → (past : World) (n : ℕ) (lines : List (List ℕ)) → past ≡ w → SessionGoesOn past n (c.args.line.now ∷ lines) (Some n) [])
    (taken_stops w v c.args.line.now c.args.text.now.items c.take_line.new.text.items) c.take_line.ensures
