-- What the callers of a new session leave, of which the first made the events of an input and the others worked.
use Rattle.std.specs.Prelude.{◌≡◌, ℕ, ◌-◌, ◌^◌, List, [], ◌∷◌, map, length}
use Rattle.std.specs.List.{Contains}
use Rattle.lapin_types.specs.declared.event.Event.{Event}
use Rattle.lapin_types.specs.declared.message.Delivery.{Delivery}
use Rattle.lapin_acker.specs.declared.verdict.Verdict.{Verdict}
use Rattle.lapin_locked.specs.declared.entry.Entry.{Entry}
use Rattle.lapin_shared.specs.Grown.{Seen, AreFresh}
use Rattle.lapin_shared.specs.Own.{own, event_of}
use Rattle.lapin_pool.specs.declared.card.Card.{Card}
use Rattle.lapin_pool.specs.Pool.{Stint, EndsThere, IsPool}
use Rattle.lapin_pool_commands.specs.Verdicts.{verdict_on}

-- how many jobs a caller may take: the greatest number of 64 bits
abbrev pub most_turns : ℕ
most_turns = 2 ^ 64 - 1

-- the duty answers what the first byte of the payload says, and nothing else
abbrev pub by_first_byte : Delivery → Verdict → Type 0
by_first_byte d v = v ≡ verdict_on d.payload

-- callers numbered from 1, of which the first made these events, and n others made no step
abbrev pub HaveBegun : ℕ → List Event → List Seen → Type 0
HaveBegun n es [] = ⊥
HaveBegun n es (c ∷ cs) = (c.number ≡ 1) × (map event_of c.log ≡ es) × AreFresh 2 cs × (length cs ≡ n)

-- The first caller's entries in the history are these events, in order, and the n others worked until there was nothing more to do for
-- each: its last step is one for a job, behind which it had to stop.
pub record IsLeft (frame_max n : ℕ) (es : List Event) (h : List Entry) (cards : List Card) : Type 0 where
  pub callers : List Seen
  pub begun : HaveBegun n es callers
  pub pool : IsPool by_first_byte frame_max most_turns n callers h cards
  pub first : own 1 h ≡ es
  pub ended : (s : Stint) → Contains pool.stints s → EndsThere h cards s.steps
