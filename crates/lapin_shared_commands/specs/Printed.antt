-- The text that is printed of a history.
use Rattle.std.specs.Prelude.{ℕ, List, [], ◌∷◌, ◌++◌, decimal, Option, Some, None}
use Rattle.std.specs.List.{flat_map}
use Rattle.lapin_text.specs.Records.{record_line}
use Rattle.lapin_locked.specs.declared.entry.Entry.{Entry}
use Rattle.lapin_inputs.specs.Printing.{bad_line_text}

-- an entry: its caller's number, a space, the line of its record
abbrev pub entry_line : Entry → List ℕ
entry_line x = decimal x.caller ++ 32 ∷ record_line x.answer

-- the line of each entry, ended by one line feed
abbrev pub history_text : List Entry → List ℕ
history_text h = flat_map (λ x. entry_line x ++ 10 ∷ []) h

-- the history, where one was made, and the line that names the first bad line
abbrev pub run_text : Option (List Entry) → Option ℕ → List ℕ
run_text None bad = bad_line_text bad
run_text (Some h) bad = history_text h ++ bad_line_text bad
