-- An input is read in one way: it has no bad line, or it has one.
use Rattle.std.proofs.Common.{ℕ, List, Some, None}
use Rattle.lapin_text.specs.Events as events
use Rattle.lapin_text.specs.Input.{lines_of}
use Rattle.lapin_joint_text.specs.Steps as joint_text
use Rattle.lapin_check_text.specs.Seen as seen_text
use Rattle.lapin_resend_text.specs.Steps as resend_text
use Rattle.lapin_call_text.specs.Steps as call_text
use Rattle.lapin_inputs.specs.LineLaws.{parsed_or_not}
use Rattle.lapin_commands.specs.Session.{PrintsSession}
use Rattle.lapin_commands.specs.Joined.{PrintsJoined}
use Rattle.lapin_commands.specs.Check.{PrintsCheck}
use Rattle.lapin_commands.specs.Resend.{PrintsResend}
use Rattle.lapin_commands.specs.Call.{PrintsCalls}

-- an input for which `session` prints the records of all its lines has no bad line
pub session_one : (input text other : List ℕ) (line : ℕ) → PrintsSession input None text → PrintsSession input (Some line) other → ⊥
session_one input text other line all bad = parsed_or_not events.line_of events.HasLine (lines_of input) all.frame_max bad.frame_max all.steps bad.steps line all.parsed bad.parsed

-- an input for which `joined` prints the reports of all its lines has no bad line
pub joined_one : (input text other : List ℕ) (line : ℕ) → PrintsJoined input None text → PrintsJoined input (Some line) other → ⊥
joined_one input text other line all bad = parsed_or_not joint_text.step_line joint_text.HasLine (lines_of input) all.frame_max bad.frame_max all.steps bad.steps line all.parsed bad.parsed

-- nor has one for which `resend` prints them
pub resend_one : (input text other : List ℕ) (line : ℕ) → PrintsResend input None text → PrintsResend input (Some line) other → ⊥
resend_one input text other line all bad = parsed_or_not resend_text.step_line resend_text.HasLine (lines_of input) all.frame_max bad.frame_max all.steps bad.steps line all.parsed bad.parsed

-- nor one for which `call` prints them
pub calls_one : (queue input text other : List ℕ) (line : ℕ) → PrintsCalls queue input None text → PrintsCalls queue input (Some line) other → ⊥
calls_one queue input text other line all bad = parsed_or_not call_text.step_line call_text.HasLine (lines_of input) all.frame_max bad.frame_max all.steps bad.steps line all.parsed bad.parsed

-- nor one in whose lines `check` finds something to the end
pub check_one : (input text other : List ℕ) (line : ℕ) → PrintsCheck input None text → PrintsCheck input (Some line) other → ⊥
check_one input text other line all bad = parsed_or_not seen_text.seen_line seen_text.HasLine (lines_of input) all.frame_max bad.frame_max all.steps bad.steps line all.parsed bad.parsed
