-- What the end of a command says of the bytes read and the bytes written.
use Rattle.std.specs.Prelude.{◌≤◌, ℕ, List, length, Option, Some}
use Rattle.lapin_inputs.specs.Reading.{longest_input}
use Rattle.lapin_inputs.specs.Outcome.{HasRead, Print}
use Rattle.lapin_commands.specs.Session.{PrintsSession}
use Rattle.lapin_commands.specs.Joined.{PrintsJoined}
use Rattle.lapin_commands.specs.Check.{PrintsCheck}
use Rattle.lapin_commands.specs.Resend.{PrintsResend}
use Rattle.lapin_commands.specs.Call.{PrintsCalls}
use Rattle.lapin_commands.specs.Generate.{PrintsGenerated}
use Rattle.lapin_commands.specs.declared.words.Command.{Command}
use Rattle.lapin_commands.specs.declared.words.Command.TheVariants as command

-- The command was run, and P holds of what it prints: but for `generate`, which reads nothing, for an input that was read to its end.
abbrev pub HasRun : Command → Option (List ℕ) → Option (List ℕ) → ℕ → ℕ → (Print → Type 0) → Type 0
HasRun command.Session left_before left_after given_before given_after P = HasRead left_before left_after given_before given_after (λ input. P (PrintsSession input))
HasRun command.Joined left_before left_after given_before given_after P = HasRead left_before left_after given_before given_after (λ input. P (PrintsJoined input))
HasRun command.Check left_before left_after given_before given_after P = HasRead left_before left_after given_before given_after (λ input. P (PrintsCheck input))
HasRun command.Resend left_before left_after given_before given_after P = HasRead left_before left_after given_before given_after (λ input. P (PrintsResend input))
HasRun (command.Call queue) left_before left_after given_before given_after P = HasRead left_before left_after given_before given_after (λ input. P (PrintsCalls queue input))
HasRun (command.Generate n) left_before left_after given_before given_after P = P (PrintsGenerated n)

-- P holds of a command that reads nothing
abbrev pub WhereUnread : Command → Type 0 → Type 0
WhereUnread (command.Generate n) P = P
WhereUnread _ P = Unit {0}

-- what a command prints for an input that is short enough; `generate` looks at none
abbrev pub Prints : Command → List ℕ → Option ℕ → List ℕ → Type 0
Prints command.Session input bad text = (length input ≤ longest_input) × PrintsSession input bad text
Prints command.Joined input bad text = (length input ≤ longest_input) × PrintsJoined input bad text
Prints command.Check input bad text = (length input ≤ longest_input) × PrintsCheck input bad text
Prints command.Resend input bad text = (length input ≤ longest_input) × PrintsResend input bad text
Prints (command.Call queue) input bad text = (length input ≤ longest_input) × PrintsCalls queue input bad text
Prints (command.Generate n) input bad text = PrintsGenerated n bad text

-- what a command prints for an input that has a bad line; `generate` reads none
abbrev pub PrintsToBadLine : Command → List ℕ → List ℕ → Type 0
PrintsToBadLine c input text = (line : ℕ) × Prints c input (Some line) text
