-- The lines of the steps of a publisher that sends again.
use Rattle.std.specs.Prelude.{◌≡◌, ◌≢◌, ℕ, ◌<◌, ◌^◌, List, ◌++◌, codes, decimal}
use Rattle.lapin_text.specs.Frames.{frame_text, FrameFits}
use Rattle.lapin_resend.specs.declared.step.ResendStep.{ResendStep}
use Rattle.lapin_resend.specs.declared.step.ResendStep.TheVariants as step
use Rattle.lapin_resend_text.specs.Messages.{message_text, MessageFits}

-- `submit STR STR BYTES`, `next`, `read`, `send FRAME`, `deliver`, `lose` or `status N`
abbrev pub step_line : ResendStep → List ℕ
step_line (step.Submit m) = codes "submit " ++ message_text m
step_line step.Next = codes "next"
step_line step.Read = codes "read"
step_line (step.Send f) = codes "send " ++ frame_text f
step_line step.Deliver = codes "deliver"
step_line step.Lose = codes "lose"
step_line (step.Status n) = codes "status " ++ decimal n

-- the steps that have a line: those whose message or frame has a text, or whose number has 64 bits
abbrev pub HasLine : ResendStep → Type 0
HasLine (step.Submit m) = MessageFits m
HasLine (step.Send f) = FrameFits f
HasLine (step.Status n) = n < 2 ^ 64
HasLine _ = Unit {0}

-- the line is that of this step, which has one
abbrev pub IsLineOf : List ℕ → ResendStep → Type 0
IsLineOf line s = (line ≡ step_line s) × HasLine s

-- the line isn't the line of a step that has one
abbrev pub NoLine : List ℕ → Type 0
NoLine line = (s : ResendStep) → HasLine s → line ≡ step_line s → ⊥

-- a step that is a word alone
abbrev pub IsBare : List ℕ → ResendStep → Type 0
IsBare line (step.Submit m) = ⊥
IsBare line (step.Send f) = ⊥
IsBare line (step.Status n) = ⊥
IsBare line s = line ≡ step_line s

-- the line is no step that is a word alone
abbrev pub NoBare : List ℕ → Type 0
NoBare line = (line ≢ codes "next") × (line ≢ codes "read") × (line ≢ codes "deliver") × (line ≢ codes "lose")
