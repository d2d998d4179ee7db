-- What contracts see of confirms: what they hold, and beside it the room.
use Rattle.std.specs.Prelude.{ℕ, ◌≤◌, Bool, if◌then◌else◌, List, Option, Some, None}
use Rattle.lapin_tables.specs.ByChannel.{at_channel}
use Rattle.lapin_confirm.specs.ConfirmState.{ConfirmState}

-- the confirms with their returned messages; and of each channel whether there is room for its next publish or message
pub record WithRoom : Type 0 where
  pub what : ConfirmState
  pub spare : List (ℕ × Bool)

-- for how many more publishes or messages there is room: one where it is promised, none else or on an unknown channel
abbrev pub spare_in : Option Bool → ℕ
spare_in None = 0
spare_in (Some b) = if b then 1 else 0

-- for how many more publishes or messages of channel c there is room
abbrev pub spare_on : ℕ → WithRoom → ℕ
spare_on c k = spare_in (at_channel c k.spare)

-- the room of every channel stays
abbrev pub KeepsRoom : WithRoom → WithRoom → Type 0
KeepsRoom old new = (c : ℕ) → spare_on c old ≤ spare_on c new
