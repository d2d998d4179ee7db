-- Inputs whose lines are all in the format of a command.
use Rattle.std.specs.Prelude.{ℕ, List, Option, Some, None}
use Rattle.lapin_text.specs.Input.{lines_of, LinesSay}
use Rattle.lapin_joint_text.specs.Steps as joint_text
use Rattle.lapin_check_text.specs.Seen as seen_text
use Rattle.lapin_resend_text.specs.Steps as resend_text
use Rattle.lapin_call_text.specs.Steps as call_text
use Rattle.lapin_inputs.specs.Format.{Tells, SaysEvents}
use Rattle.lapin_commands.specs.declared.words.Command.{Command}
use Rattle.lapin_commands.specs.declared.words.Command.TheVariants as command

-- the first line says a frame size, and every other one a step of a kind
abbrev pub SaysStepsOf : {E : Type 0} → (E → List ℕ) → (E → Type 0) → List ℕ → Type 0
SaysStepsOf {E} line_of HasLine input = (frame_max : ℕ) × (ss : List E) × LinesSay line_of HasLine (lines_of input) (Some frame_max) ss None

-- every other one a step of a joined run
abbrev pub SaysSteps : List ℕ → Type 0
SaysSteps input = SaysStepsOf joint_text.step_line joint_text.HasLine input

-- every other one a step of a publisher that sends again
abbrev pub SaysResends : List ℕ → Type 0
SaysResends input = SaysStepsOf resend_text.step_line resend_text.HasLine input

-- every other one a step of calls over queues
abbrev pub SaysCalls : List ℕ → Type 0
SaysCalls input = SaysStepsOf call_text.step_line call_text.HasLine input

-- every other one a frame that was seen
abbrev pub SaysSeen : List ℕ → Type 0
SaysSeen input = SaysStepsOf seen_text.seen_line seen_text.HasLine input

-- what a command reads is in its format; `generate` reads nothing
abbrev pub IsInFormat : Command → Option (List ℕ) → Type 0
IsInFormat command.Session left = Tells left SaysEvents
IsInFormat command.Joined left = Tells left SaysSteps
IsInFormat command.Check left = Tells left SaysSeen
IsInFormat command.Resend left = Tells left SaysResends
IsInFormat (command.Call queue) left = Tells left SaysCalls
IsInFormat (command.Generate n) left = Unit {0}
