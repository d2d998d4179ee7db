-- The laws of the commands that go line by line, which they owe as runs.
use Rattle.std.specs.Prelude.{ℕ, List, [], Some, None, refl}
use Rattle.lapin_machine.specs.World.{World}
use Rattle.lapin_text.specs.Events as events
use Rattle.lapin_text.specs.Input.{lines_of}
use Rattle.lapin_joint.specs.Joint.{Joint}
use Rattle.lapin_joint_text.specs.Steps as joint_text
use Rattle.lapin_resend.specs.declared.step.ResendStep.{ResendStep}
use Rattle.lapin_resend_text.specs.Steps as resend_text
use Rattle.lapin_call.specs.CallRun as calls
use Rattle.lapin_call_text.specs.Steps as call_text
use Rattle.lapin_inputs.specs.LineLaws.{none_first}
use Rattle.lapin_inputs.specs.Printing.{NoFirst, bad_line_text}
use Rattle.lapin_commands.specs.Session.{PrintsSession, SessionGoesOn}
use Rattle.lapin_commands.specs.Joined.{PrintsJoined, JoinedGoesOn}
use Rattle.lapin_commands.specs.Resend.{PrintsResend, ResendGoesOn}
use Rattle.lapin_commands.specs.Call.{PrintsCalls, CallsGoOn}

-- ---- no line, no text

-- a session that goes on prints no text for no line
pub session_ends : (w : World) (n : ℕ) → SessionGoesOn w n [] None []
session_ends w n = record { steps = []; are = refl; printed = refl }

-- a joined run that goes on prints no text for no line
pub joined_ends : (j : Joint World) (n : ℕ) → JoinedGoesOn j n [] None []
joined_ends j n = record { steps = []; are = refl; printed = refl }

-- a publisher that goes on prints no text for no line
pub resend_ends : (m : ℕ) (made : List ResendStep) (n : ℕ) → ResendGoesOn m made n [] None []
resend_ends m made n = record { steps = []; are = refl; printed = refl }

-- calls that go on print no text for no line
pub calls_end : (k : calls.CallRun) (n : ℕ) → CallsGoOn k n [] None []
calls_end k n = record { steps = []; are = refl; printed = refl }

-- ---- without a first line nothing is run

-- where the first line is missing, or says no frame size, `session` prints that line 1 is bad, and nothing else
pub session_first : (input : List ℕ) → NoFirst (lines_of input) → PrintsSession input (Some 1) (bad_line_text (Some 1))
session_first input none = record { frame_max = None; steps = []; parsed = none_first events.line_of events.HasLine (lines_of input) none; printed = refl }

-- so does `joined`
pub joined_first : (input : List ℕ) → NoFirst (lines_of input) → PrintsJoined input (Some 1) (bad_line_text (Some 1))
joined_first input none = record { frame_max = None; steps = []; parsed = none_first joint_text.step_line joint_text.HasLine (lines_of input) none; printed = refl }

-- and `resend`
pub resend_first : (input : List ℕ) → NoFirst (lines_of input) → PrintsResend input (Some 1) (bad_line_text (Some 1))
resend_first input none = record { frame_max = None; steps = []; parsed = none_first resend_text.step_line resend_text.HasLine (lines_of input) none; printed = refl }

-- and `call`
pub calls_first : (queue input : List ℕ) → NoFirst (lines_of input) → PrintsCalls queue input (Some 1) (bad_line_text (Some 1))
calls_first queue input none = record { frame_max = None; steps = []; parsed = none_first call_text.step_line call_text.HasLine (lines_of input) none; printed = refl }
