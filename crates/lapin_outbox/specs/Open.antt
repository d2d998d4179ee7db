-- What a contract sees of the open requests.
use Rattle.std.specs.Prelude.{◌≡◌, ◌≢◌, ℕ, ◌<◌, ◌≤◌, List, [], ◌++◌, Option, Some, None, map, drop}
use Rattle.lapin_tables.specs.ByChannel.{Table, at_channel}
use Rattle.lapin_types.specs.declared.request.Request.{Request}
use Rattle.lapin_rules.specs.Words.{with_channel}
use Rattle.lapin_rules.specs.Requests.{requests_in}

-- the open requests of one channel, the oldest first, and for how many more there is room
pub record OpenOnChannel : Type 0 where
  pub open_requests : List Request
  pub spare : ℕ

-- the channels that ever had a request, in order of first use, each with its open requests, the oldest first; and by channel
-- for how many more requests of it there is room
pub record OpenRequests : Type 0 where
  pub what : List (ℕ × List Request)
  pub spare : List (ℕ × ℕ)

-- each channel with the list of its requests
abbrev pub waiting_in : List (ℕ × OpenOnChannel) → List (ℕ × List Request)
waiting_in entries = map (λ e. (e.0, e.1.open_requests)) entries

-- ---- room

-- each channel with its room
abbrev pub rooms_in : List (ℕ × OpenOnChannel) → List (ℕ × ℕ)
rooms_in entries = map (λ e. (e.0, e.1.spare)) entries

-- the room of a channel, none where it has no entry
abbrev pub room_of : Option ℕ → ℕ
room_of None = 0
room_of (Some n) = n

-- for how many more requests of a channel there is room
abbrev pub spare_on : ℕ → OpenRequests → ℕ
spare_on c r = room_of (at_channel c r.spare)

-- each channel has no less room than before
abbrev pub KeepsRoom : OpenRequests → OpenRequests → Type 0
KeepsRoom old new = (c : ℕ) → spare_on c old ≤ spare_on c new

-- each other channel has no less room than before
abbrev pub KeepsOtherRoom : ℕ → OpenRequests → OpenRequests → Type 0
KeepsOtherRoom d old new = (c : ℕ) → c ≢ d → spare_on c old ≤ spare_on c new

-- the table of requests as a contract sees it: the entries, and what is set aside for channels that have no entry yet
abbrev pub seen : List (ℕ × OpenOnChannel) → List (ℕ × OpenOnChannel) → OpenRequests
seen entries aside = record { what = waiting_in entries; spare = rooms_in entries ++ rooms_in aside }

-- what is set aside for a channel: an empty queue with room, and a channel number that the table reaches
pub record IsAside (reach c : ℕ) (q : OpenOnChannel) : Type 0 where
  pub is_empty : q.open_requests ≡ []
  pub room : 0 < q.spare
  pub reached : c < reach

-- what is set aside, and room in the table for an entry of each
pub record AreAside (get : ℕ → Option OpenOnChannel) (count : ℕ) (table : Table OpenOnChannel) : Type 0 where
  pub each : (c : ℕ) (q : OpenOnChannel) → get c ≡ Some q → IsAside table.reach c q
  pub room : count ≤ table.spare

-- ---- requests

-- the open requests of a channel
abbrev pub requests_at : ℕ → List (ℕ × List Request) → List Request
requests_at c all = requests_in (at_channel c all)

-- the oldest request of a channel is gone
abbrev pub without_oldest : ℕ → List (ℕ × List Request) → List (ℕ × List Request)
without_oldest c all = with_channel c (drop 1 (requests_at c all)) all
