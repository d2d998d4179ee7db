-- What the command `resend` prints for an input.
use Rattle.std.specs.Prelude.{ℕ, List, Option}
use Rattle.lapin_text.specs.Input.{AreSteps, LinesSay}
use Rattle.lapin_resend.specs.declared.step.ResendStep.{ResendStep}
use Rattle.lapin_resend.specs.Resend.{publisher_after, reports_from, resend}
use Rattle.lapin_resend_text.specs.Steps.{step_line, HasLine}
use Rattle.lapin_resend_text.specs.Reports.{reports_text}
use Rattle.lapin_inputs.specs.Printing.{PrintsBy, GoesOnBy}

-- the reports of a new publisher that makes these steps
abbrev pub resend_text : ℕ → List ResendStep → List ℕ
resend_text frame_max steps = reports_text (resend frame_max steps)

-- the lines are steps, and the text is the reports of a publisher that begins new and makes them
abbrev pub PrintsResend : List ℕ → Option ℕ → List ℕ → Type 0
PrintsResend input bad text = PrintsBy ResendStep (LinesSay step_line HasLine) resend_text input bad text

-- what the steps of a publisher print that made others before
abbrev pub text_after : ℕ → List ResendStep → List ResendStep → List ℕ
text_after frame_max made steps = reports_text (reports_from frame_max steps (publisher_after frame_max made))

-- the lines are steps, and the text is the reports of a publisher that made others before and makes them
abbrev pub ResendGoesOn : ℕ → List ResendStep → ℕ → List (List ℕ) → Option ℕ → List ℕ → Type 0
ResendGoesOn frame_max made n lines bad text = GoesOnBy ResendStep (AreSteps step_line HasLine) (text_after frame_max made) n lines bad text
