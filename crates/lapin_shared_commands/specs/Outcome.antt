-- What the end of a run says of the history that is kept and of the bytes written.
use Rattle.std.specs.Prelude.{◌≡◌, ℕ, List, [], Option, Some, None}
use Rattle.std.specs.Io.KnownBytes.{Appends}
use Rattle.lapin_types.specs.declared.event.Event.{Event}
use Rattle.lapin_text.specs.Input.{lines_of, AreParsed}
use Rattle.lapin_locked.specs.declared.entry.Entry.{Entry}
use Rattle.lapin_inputs.specs.Writing.{WritesPrefix}
use Rattle.lapin_shared_commands.specs.Dealt.{IsDealt}
use Rattle.lapin_shared_commands.specs.Printed.{history_text, run_text}

-- The first line of the input is no bad line, and the history is one of n callers that made the events before the first bad line, if
-- there is one.
pub record Ran (n : ℕ) (input : List ℕ) (bad : Option ℕ) (h : List Entry) : Type 0 where
  pub frame_max : ℕ
  pub events : List Event
  pub parsed : AreParsed (lines_of input) (Some frame_max) events bad
  pub dealt : IsDealt frame_max n events h

-- what was run of an input: nothing where its first line is the bad one, else a history
abbrev pub IsRun : ℕ → List ℕ → Option (List Entry) → Option ℕ → Type 0
IsRun n input None bad = (bad ≡ Some 1) × AreParsed (lines_of input) None [] (Some 1)
IsRun n input (Some h) bad = Ran n input bad h

-- every line of the input is in the format, and the text of the history that is kept was written whole
abbrev pub WroteAll : ℕ → Option (List Entry) → Option (List ℕ) → Option (List ℕ) → List ℕ → Type 0
WroteAll n kept before after input =
    (h : List Entry) × (kept ≡ Some h) × Ran n input None h × Appends before after (history_text h)

-- the text of the history that is kept, if there is one, was written, and the line that names the first bad line
abbrev pub WroteToBadLine : ℕ → Option (List Entry) → Option (List ℕ) → Option (List ℕ) → List ℕ → Type 0
WroteToBadLine n kept before after input =
    (line : ℕ) × IsRun n input kept (Some line) × Appends before after (run_text kept (Some line))

-- a prefix of such a text was written
abbrev pub WroteSome : ℕ → Option (List Entry) → Option (List ℕ) → Option (List ℕ) → List ℕ → Type 0
WroteSome n kept before after input =
    (bad : Option ℕ) × IsRun n input kept bad × WritesPrefix before after (run_text kept bad)
