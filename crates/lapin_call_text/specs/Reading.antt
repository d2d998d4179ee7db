-- Which step what stands behind a word is, and which an event is.
use Rattle.std.specs.Prelude.{ℕ, List, [], ◌∷◌, ◌==◌, Option, Some, None}
use Rattle.std.specs.List.{slice_split}
use Rattle.lapin_types.specs.declared.event.Event.{Event}
use Rattle.lapin_types.specs.declared.event.Event.TheVariants as event
use Rattle.lapin_tokens.specs.Fields.{Values}
use Rattle.lapin_tokens.specs.Fields.Field.{text, bytes}
use Rattle.lapin_tokens.specs.Reading.{fields_at}
use Rattle.lapin_text.specs.LineReading.{whole}
use Rattle.lapin_call.specs.declared.step.CallStep.{CallStep}
use Rattle.lapin_call.specs.declared.step.CallStep.TheVariants as step

-- the request of these fields
abbrev pub asked_of : Values (text ∷ text ∷ bytes ∷ []) → CallStep
asked_of v = step.Ask v.0 v.1.0 v.1.1.0

-- the request whose exchange, routing key and payload the bytes say
unfoldable pub asked_in : List ℕ → Option CallStep
asked_in rest = whole (fields_at (text ∷ text ∷ bytes ∷ []) asked_of (slice_split (λ b. b == 32) rest))

-- the events that are steps
abbrev pub step_of_event : Event → Option CallStep
step_of_event (event.Next flow) = Some (step.Next flow)
step_of_event (event.Receive f) = Some (step.Receive f)
step_of_event event.Lost = Some step.Lost
step_of_event _ = None
