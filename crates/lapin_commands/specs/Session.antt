-- What the command `session` prints for an input.
use Rattle.std.specs.Prelude.{ℕ, List, Option}
use Rattle.lapin_types.specs.declared.event.Event.{Event}
use Rattle.lapin_rules.specs.History.{run}
use Rattle.lapin_text.specs.Input.{AreEvents, AreParsed}
use Rattle.lapin_text.specs.Records.{records_text}
use Rattle.lapin_machine.specs.World.{World, outputs}
use Rattle.lapin_inputs.specs.Printing.{PrintsBy, GoesOnBy}

-- the records of a session that begins new and meets these events
abbrev pub session_text : ℕ → List Event → List ℕ
session_text frame_max events = records_text (run frame_max events)

-- the lines are events, and the text is the records of a session that begins new and meets them
abbrev pub PrintsSession : List ℕ → Option ℕ → List ℕ → Type 0
PrintsSession input bad text = PrintsBy Event AreParsed session_text input bad text

-- the same of a session that goes on
abbrev pub SessionGoesOn : World → ℕ → List (List ℕ) → Option ℕ → List ℕ → Type 0
SessionGoesOn w n lines bad text = GoesOnBy Event AreEvents (λ events. records_text (outputs w events)) n lines bad text
