-- The lines of the steps of calls over queues.
use Rattle.std.specs.Prelude.{◌≡◌, ℕ, true, List, [], ◌∷◌, codes}
use Rattle.std.specs.List.{join_with_byte}
use Rattle.lapin_types.specs.declared.event.Event.TheVariants as event
use Rattle.lapin_tokens.specs.Fields.{token, fits, wide_number}
use Rattle.lapin_tokens.specs.Fields.Field.{text, bytes}
use Rattle.lapin_text.specs.Events as events
use Rattle.lapin_text.specs.Events.{event_tokens}
use Rattle.lapin_call.specs.declared.step.CallStep.{CallStep}
use Rattle.lapin_call.specs.declared.step.CallStep.TheVariants as step

-- `next BOOL`, `recv FRAME` and `lost` as of an event, `ask STR STR BYTES`, `collect` or `take N`
abbrev pub step_tokens : CallStep → List (List ℕ)
step_tokens (step.Next flow) = event_tokens (event.Next flow)
step_tokens (step.Receive f) = event_tokens (event.Receive f)
step_tokens step.Lost = event_tokens event.Lost
step_tokens (step.Ask exchange key payload) = codes "ask" ∷ token text exchange ∷ token text key ∷ token bytes payload ∷ []
step_tokens step.Collect = codes "collect" ∷ []
step_tokens (step.Take n) = codes "take" ∷ token wide_number n ∷ []

-- a step's line: its tokens with one space between them
abbrev pub step_line : CallStep → List ℕ
step_line s = join_with_byte 32 (step_tokens s)

-- the steps that have a line: those whose event has one, whose texts and bytes have a token, or whose number is in range
abbrev pub HasLine : CallStep → Type 0
HasLine (step.Next flow) = events.HasLine (event.Next flow)
HasLine (step.Receive f) = events.HasLine (event.Receive f)
HasLine step.Lost = events.HasLine event.Lost
HasLine (step.Ask exchange key payload) = (fits text exchange ≡ true) × (fits text key ≡ true) × (fits bytes payload ≡ true)
HasLine step.Collect = Unit {0}
HasLine (step.Take n) = fits wide_number n ≡ true

-- the line is that of this step, which has one
abbrev pub IsLineOf : List ℕ → CallStep → Type 0
IsLineOf line s = (line ≡ step_line s) × HasLine s

-- the line isn't the line of a step that has one
abbrev pub NoLine : List ℕ → Type 0
NoLine line = (s : CallStep) → HasLine s → line ≡ step_line s → ⊥
