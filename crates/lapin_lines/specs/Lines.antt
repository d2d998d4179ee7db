-- What becomes of a session, and of a text, by a line.
use Rattle.std.specs.Prelude.{◌≡◌, ℕ, Bool, true, false, List, [], ◌∷◌, ◌++◌, Option, Some, None}
use Rattle.lapin_types.specs.Types.{Frame}
use Rattle.lapin_types.specs.declared.call.Call.{Call}
use Rattle.lapin_types.specs.declared.event.Event.{Event}
use Rattle.lapin_types.specs.declared.event.Event.TheVariants as event
use Rattle.lapin_machine.specs.World.{World, next, told_by}
use Rattle.lapin_tokens.specs.Reading.{◌>>=◌}
use Rattle.lapin_text.specs.Records.{record_tokens, line_onto}

-- the event was met: the session is what it leaves, and the line of its record stands behind the text
abbrev pub IsMet : Event → World → World → List ℕ → List ℕ → Type 0
IsMet e w v t u = (v ≡ next w e) × (u ≡ line_onto t (record_tokens (told_by w e)) ++ 10 ∷ [])

-- the event of a line, if it says one, was met; where it says none, nothing changed
abbrev pub IsTaken : Option Event → World → World → List ℕ → List ℕ → Bool → Type 0
IsTaken None w v t u good = (good ≡ false) × (v ≡ w) × (u ≡ t)
IsTaken (Some e) w v t u good = (good ≡ true) × IsMet e w v t u

-- the frame of a line, as the event that it came
abbrev pub frame_event : Option (Frame × List (List ℕ)) → Option (Event × List (List ℕ))
frame_event f = f >>= λ x. Some (event.Receive x.0, x.1)

-- the call of a line, as the event that it is made
abbrev pub call_event : ℕ → Option (Call × List (List ℕ)) → Option (Event × List (List ℕ))
call_event channel c = c >>= λ x. Some (event.Call channel x.0, x.1)
