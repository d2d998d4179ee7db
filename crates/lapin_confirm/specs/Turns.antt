-- The walk by which the early messages of a channel are given: each in turn is given, or goes to the back. No public clause cites this module.
use Rattle.std.specs.Prelude.{ℕ, zero, suc, ◌==◌, if◌then◌else◌, List, [], ◌∷◌, ◌++◌}
use Rattle.lapin_types.specs.declared.message.BasicReturnMessage.{BasicReturnMessage}

-- the messages that were given, and the early messages as the walk has left them
pub record Turned : Type 0 where
  pub given : List BasicReturnMessage
  pub early : List (ℕ × BasicReturnMessage)

-- these were given, and these are left
abbrev pub turned : List BasicReturnMessage → List (ℕ × BasicReturnMessage) → Turned
turned given early = record { given = given; early = early }

-- the walk comes to the first of the early messages: it is given where it is of channel c, else it goes to the back
abbrev pub turn : ℕ → List BasicReturnMessage → List (ℕ × BasicReturnMessage) → Turned
turn c given [] = turned given []
turn c given (e ∷ es) = if e.0 == c then turned (given ++ e.1 ∷ []) es else turned given (es ++ e ∷ [])

-- the walk comes to so many of them
abbrev pub turns : ℕ → ℕ → Turned → Turned
turns c zero t = t
turns c (suc n) t = turns c n (turn c t.given t.early)
