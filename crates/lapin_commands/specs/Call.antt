-- What the command `call QUEUE` prints for an input.
use Rattle.std.specs.Prelude.{ℕ, List, Option}
use Rattle.lapin_machine.specs.Way.{by_machine}
use Rattle.lapin_text.specs.Input.{AreSteps, LinesSay}
use Rattle.lapin_call.specs.declared.step.CallStep.{CallStep}
use Rattle.lapin_call.specs.Calls.{reports, calls}
use Rattle.lapin_call.specs.CallRun.{CallRun}
use Rattle.lapin_call_text.specs.Steps.{step_line, HasLine}
use Rattle.lapin_call_text.specs.Reports.{reports_text}
use Rattle.lapin_inputs.specs.Printing.{PrintsBy, GoesOnBy}

-- the reports of a new session that makes these steps, with the queue of the replies
abbrev pub calls_text : List ℕ → ℕ → List CallStep → List ℕ
calls_text queue frame_max steps = reports_text (calls frame_max queue steps)

-- the lines are steps, and the text is the reports of calls that begin new and make them
abbrev pub PrintsCalls : List ℕ → List ℕ → Option ℕ → List ℕ → Type 0
PrintsCalls queue input bad text = PrintsBy CallStep (LinesSay step_line HasLine) (calls_text queue) input bad text

-- the same of calls that go on
abbrev pub CallsGoOn : CallRun → ℕ → List (List ℕ) → Option ℕ → List ℕ → Type 0
CallsGoOn k n lines bad text = GoesOnBy CallStep (AreSteps step_line HasLine) (λ steps. reports_text (reports by_machine steps k.requester)) n lines bad text
