-- What the command `joined` prints for an input.
use Rattle.std.specs.Prelude.{◌≡◌, ℕ, List, [], ◌∷◌, ◌++◌, Option, Bool, true, false}
use Rattle.lapin_machine.specs.Way.{by_machine}
use Rattle.lapin_machine.specs.World.{World}
use Rattle.lapin_text.specs.Input.{AreSteps, LinesSay}
use Rattle.lapin_text.specs.Records.{line_onto}
use Rattle.lapin_joint.specs.declared.step.Step.{Step}
use Rattle.lapin_joint.specs.Joint.{Joint, after, report, reports, joined}
use Rattle.lapin_joint_text.specs.Steps.{step_line, HasLine, IsLineOf, NoLine}
use Rattle.lapin_joint_text.specs.Reports.{report_tokens, reports_text}
use Rattle.lapin_inputs.specs.Printing.{PrintsBy, GoesOnBy}

-- the reports of a new session and a new broker that make these steps
abbrev pub joined_text : ℕ → List Step → List ℕ
joined_text frame_max steps = reports_text (joined frame_max steps)

-- the lines are steps, and the text is the reports of a joined run that begins new and makes them
abbrev pub PrintsJoined : List ℕ → Option ℕ → List ℕ → Type 0
PrintsJoined input bad text = PrintsBy Step (LinesSay step_line HasLine) joined_text input bad text

-- the same of a joined run that goes on
abbrev pub JoinedGoesOn : Joint World → ℕ → List (List ℕ) → Option ℕ → List ℕ → Type 0
JoinedGoesOn j n lines bad text = GoesOnBy Step (AreSteps step_line HasLine) (λ steps. reports_text (reports by_machine steps j)) n lines bad text

-- the step was made: the run is what it leaves, and the line of its report stands behind the text
abbrev pub IsMade : Step → Joint World → Joint World → List ℕ → List ℕ → Type 0
IsMade s j k t u = (k ≡ after by_machine s j) × (u ≡ line_onto t (report_tokens (report by_machine s j)) ++ 10 ∷ [])

-- the step of a line, if it says one, was made; where it says none, nothing changed
abbrev pub IsStepMade : List ℕ → Joint World → Joint World → List ℕ → List ℕ → Bool → Type 0
IsStepMade line j k t u true = (s : Step) × IsLineOf line s × IsMade s j k t u
IsStepMade line j k t u false = NoLine line × (k ≡ j) × (u ≡ t)
