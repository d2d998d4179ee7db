-- The numbers of the tickets of each channel, as an end of the channel finds them.
use Rattle.std.specs.Prelude.{◌≡◌, ℕ, ◌<◌, Bool, true, false, not, List, [], ◌∷◌, Option, Some, None, slice_get, refl}
use Rattle.std.specs.Coded.{Coded, code_by, coded×, coded_ℕ, coded_list, coded_option}
use Rattle.lapin_tables.specs.ByChannel.{at_channel}
use Rattle.lapin_tables.specs.Numbered.{under}
use Rattle.lapin_ticket.specs.declared.Slot.{Slot}
use Rattle.lapin_ticket.specs.Slots.{is_open_on}

-- the numbers of one channel, the oldest first, and for how many more there is room
pub record GivenOnChannel : Type 0 where
  pub numbers : List ℕ
  pub spare : ℕ

-- the channels that ever had a number, each with its numbers; and the channel for whose next number there is room
pub record GivenNumbers : Type 0 where
  pub channels : List (ℕ × GivenOnChannel)
  pub ready : Option ℕ

-- both are stored as the pairs of their fields
abbrev pub on_channel_code : Coded GivenOnChannel
on_channel_code = code_by (List ℕ × ℕ) (coded× (coded_list coded_ℕ) coded_ℕ) (λ g. (g.numbers, g.spare)) (λ p. record { numbers = p.0; spare = p.1 }) (λ _. refl)

-- the numbers of all channels, and the channel whose next number has room
abbrev pub given_code : Coded GivenNumbers
given_code = code_by (List (ℕ × GivenOnChannel) × Option ℕ) (coded× (coded_list (coded× coded_ℕ on_channel_code)) (coded_option coded_ℕ)) (λ g. (g.channels, g.ready)) (λ p. record { channels = p.0; ready = p.1 }) (λ _. refl)

-- the numbers of a channel
abbrev pub numbers_in : Option GivenOnChannel → List ℕ
numbers_in None = []
numbers_in (Some g) = g.numbers

-- the numbers of channel c, the oldest first
abbrev pub numbers_on : ℕ → List (ℕ × GivenOnChannel) → List ℕ
numbers_on c all = numbers_in (at_channel c all)

-- room for one more number of this channel, if any
abbrev pub HasRoomIn : Option GivenOnChannel → Type 0
HasRoomIn None = ⊥
HasRoomIn (Some g) = 0 < g.spare

-- the channel that is named, if one is, has room for one more number
abbrev pub IsReady : Option ℕ → List (ℕ × GivenOnChannel) → Type 0
IsReady None all = Unit {0}
IsReady (Some c) all = HasRoomIn (at_channel c all)

-- a number stands in a list
abbrev pub Stands : ℕ → List ℕ → Type 0
Stands n ns = (k : ℕ) × (slice_get ns k ≡ Some n)

-- each open ticket of a channel stands among the channel's numbers
abbrev pub AreListed : List (Option Slot) → List (ℕ × GivenOnChannel) → Type 0
AreListed slots all = (c n : ℕ) → is_open_on c (under n slots) ≡ true → Stands n (numbers_on c all)

-- whether the ticket of a channel's first number is not open
abbrev pub starts_closed : ℕ → List (Option Slot) → List ℕ → Bool
starts_closed c slots [] = false
starts_closed c slots (n ∷ ns) = not (is_open_on c (under n slots))
