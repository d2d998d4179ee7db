-- Inputs that a source tells, and whose lines are all in the format.
use Rattle.std.specs.Prelude.{◌≤◌, ℕ, List, length, Option, Some, None}
use Rattle.lapin_types.specs.declared.event.Event.{Event}
use Rattle.lapin_text.specs.Input.{lines_of, AreParsed}
use Rattle.lapin_inputs.specs.Reading.{longest_input}

-- the source tells the bytes left, no more of them than are taken, and P holds of them
abbrev pub Tells : Option (List ℕ) → (List ℕ → Type 0) → Type 0
Tells None P = ⊥
Tells (Some input) P = (length input ≤ longest_input) × P input

-- the first line says a frame size, and every other one an event
abbrev pub SaysEvents : List ℕ → Type 0
SaysEvents input = (frame_max : ℕ) × (es : List Event) × AreParsed (lines_of input) (Some frame_max) es None
