-- The lines of the steps of a joined run.
use Rattle.std.specs.Prelude.{◌≡◌, ◌≢◌, ℕ, List, ◌++◌, codes}
use Rattle.lapin_text.specs.Events as events
use Rattle.lapin_text.specs.Events.{line_of}
use Rattle.lapin_text.specs.Frames.{frame_text, FrameFits}
use Rattle.lapin_joint.specs.declared.step.Step.{Step}
use Rattle.lapin_joint.specs.declared.step.Step.TheVariants as step

-- `client EVENT`, `read`, `send FRAME`, `deliver` or `lose`
abbrev pub step_line : Step → List ℕ
step_line (step.Client e) = codes "client " ++ line_of e
step_line step.Read = codes "read"
step_line (step.Send f) = codes "send " ++ frame_text f
step_line step.Deliver = codes "deliver"
step_line step.Lose = codes "lose"

-- the steps that have a line: those whose event has one, or whose frame has a text
abbrev pub HasLine : Step → Type 0
HasLine (step.Client e) = events.HasLine e
HasLine (step.Send f) = FrameFits f
HasLine _ = Unit {0}

-- the line is that of this step, which has one
abbrev pub IsLineOf : List ℕ → Step → Type 0
IsLineOf line s = (line ≡ step_line s) × HasLine s

-- the line isn't the line of a step that has one
abbrev pub NoLine : List ℕ → Type 0
NoLine line = (s : Step) → HasLine s → line ≡ step_line s → ⊥

-- a step that is a word alone
abbrev pub IsBare : List ℕ → Step → Type 0
IsBare line (step.Client e) = ⊥
IsBare line (step.Send f) = ⊥
IsBare line s = line ≡ step_line s

-- the line is no step that is a word alone
abbrev pub NoBare : List ℕ → Type 0
NoBare line = (line ≢ codes "read") × (line ≢ codes "deliver") × (line ≢ codes "lose")
