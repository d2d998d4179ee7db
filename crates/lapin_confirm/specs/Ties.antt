-- How confirm modes and cells hang together. No public clause cites this module.
use Rattle.std.specs.Prelude.{◌≡◌, ℕ, ◌+◌, ◌-◌, ◌<◌, ◌≤◌, Bool, false, List, [], Option, Some, None, length, map, IsSome}
use Rattle.std.specs.List.{count_by}
use Rattle.std.specs.VecDeque.{deque_len, deque_capacity}
use Rattle.std.specs.declared.collections.VecDeque.{VecDeque}
use Rattle.lapin_tables.specs.ByChannel.{at_channel}
use Rattle.lapin_tables.specs.Numbered.{Slots, under}
use Rattle.lapin_confirm.specs.declared.cell.Cell.{Cell}
use Rattle.lapin_confirm.specs.declared.cell.Cell.TheVariants as cell
use Rattle.lapin_confirm.specs.declared.origin.Origin.{Origin}
use Rattle.lapin_confirm.specs.declared.confirm_mode.ConfirmMode.{ConfirmMode}
use Rattle.lapin_rules.specs.ReturnLists.{ReturnLists}
use Rattle.lapin_confirm.specs.ReturnedMessages.{ReturnedMessages, HasPlace}
use Rattle.lapin_confirm.specs.WithRoom.{spare_in}
use Rattle.lapin_confirm.specs.FullSet.{ShowsFull}
use Rattle.lapin_confirm.specs.PublishStates.{ConfirmModeState, next_confirm_mode, is_queued_on, is_pending_on}

-- what a caller sees of a confirm mode
abbrev pub confirm_mode_state : ConfirmMode → ConfirmModeState
confirm_mode_state l = record { selected = l.selected; last = length l.tags.slots; asked = l.asked; limit = l.limit }

-- the confirm mode as a publish leaves that takes this tag, or none
abbrev pub confirm_mode_after : Option ℕ → ConfirmModeState → ConfirmModeState
confirm_mode_after None l = l
confirm_mode_after (Some t) l = next_confirm_mode l

-- the room for tags beyond the queued publishes stays
abbrev pub KeepsTags : ConfirmMode → ConfirmMode → Type 0
KeepsTags l k = l.tags.spare + k.queued ≤ k.tags.spare + l.queued

-- each channel with what a caller sees of its confirm mode
abbrev pub confirm_mode_states : List (ℕ × ConfirmMode) → List (ℕ × ConfirmModeState)
confirm_mode_states es = map (λ e. (e.0, confirm_mode_state e.1)) es

-- each channel with its return lists, without the room for more
abbrev pub returned_by_channel_of : List (ℕ × ReturnedMessages) → List (ℕ × ReturnLists)
returned_by_channel_of ts = map (λ e. (e.0, e.1.return_lists)) ts

-- the confirm mode of a new opening
pub record IsFresh (l : ConfirmMode) : Type 0 where
  pub selected : l.selected ≡ false
  pub asked : l.asked ≡ false
  pub limit : l.limit ≡ 0
  pub tags : l.tags.slots ≡ []
  pub queued : l.queued ≡ 0
  pub pending : l.pending ≡ 0

-- A confirm mode and the cells agree on channel c: a cell is pending with a tag exactly where the tag names its number; queued and
-- pending are counted; every queued publish has room for its tag; tags and queued publishes are no more than the numbers.
pub record Tied (c : ℕ) (l : ConfirmMode) (cells : List (Option Cell)) : Type 0 where
  pub named : (n t : ℕ) → under n cells ≡ Some (cell.Pending c t) → under t l.tags.slots ≡ Some n
  pub waits : (n t : ℕ) → under t l.tags.slots ≡ Some n → under n cells ≡ Some (cell.Pending c t)
  pub queued : count_by (is_queued_on c) cells ≡ l.queued
  pub pending : count_by (is_pending_on c) cells ≡ l.pending
  pub room : l.queued ≤ l.tags.spare
  pub numbers : length l.tags.slots + l.queued ≤ length cells

-- a channel without a confirm mode has nothing open
pub record Untouched (c : ℕ) (cells : List (Option Cell)) : Type 0 where
  pub queued : count_by (is_queued_on c) cells ≡ 0
  pub pending : count_by (is_pending_on c) cells ≡ 0

-- the confirm mode of channel c, if it has one, agrees with the cells; without a confirm mode it has nothing open
abbrev pub TiedAt : ℕ → Option ConfirmMode → List (Option Cell) → Type 0
TiedAt c None cells = Untouched c cells
TiedAt c (Some l) cells = Tied c l cells

-- every channel's confirm mode agrees with the cells
abbrev pub AllTied : List (ℕ × ConfirmMode) → List (Option Cell) → Type 0
AllTied es cells = (c : ℕ) → TiedAt c (at_channel c es) cells

-- ---- room

-- for how many more elements a queue has room
abbrev pub deque_spare : {X Z : Type 0} → VecDeque X Z → ℕ
deque_spare q = deque_capacity q - deque_len q

-- how many channels have room for their next publish or message
abbrev pub promised : List (ℕ × Bool) → ℕ
promised rooms = count_by (λ r. r.1) rooms

-- so many more tags of a channel have room, beyond those of its queued publishes
abbrev pub TagFits : ℕ → Option ConfirmMode → Type 0
TagFits n None = Unit {0}
TagFits n (Some l) = n + l.queued ≤ l.tags.spare

-- one more message of a channel has room, where so much room is promised
abbrev pub MessageFits : ℕ → Option ReturnedMessages → Type 0
MessageFits n None = Unit {0}
MessageFits n (Some t) = 0 < n → HasPlace t

-- each confirm mode has room for the tags of its queued publishes, and on a channel where room is promised for one tag more
abbrev pub TagsFit : List (ℕ × Bool) → List (ℕ × ConfirmMode) → Type 0
TagsFit rooms es = (c : ℕ) → TagFits (spare_in (at_channel c rooms)) (at_channel c es)

-- on each channel with a promise of room one more message finds its place
abbrev pub MessagesFit : List (ℕ × Bool) → List (ℕ × ReturnedMessages) → Type 0
MessagesFit rooms ts = (c : ℕ) → MessageFits (spare_in (at_channel c rooms)) (at_channel c ts)

-- what is promised has room: a cell for each channel, with its tag and the place of a message
pub record HaveRoom (rooms : List (ℕ × Bool)) (es : List (ℕ × ConfirmMode)) (ts : List (ℕ × ReturnedMessages)) (spare : ℕ) : Type 0 where
  pub cells : promised rooms ≤ spare
  pub tags : TagsFit rooms es
  pub messages : MessagesFit rooms ts

-- channel c has room beside what is promised
pub record HasMore (c : ℕ) (rooms : List (ℕ × Bool)) (es : List (ℕ × ConfirmMode)) (ts : List (ℕ × ReturnedMessages)) (spare : ℕ) : Type 0 where
  pub known : IsSome (at_channel c rooms)
  pub cells : promised rooms < spare
  pub tags : TagFits 1 (at_channel c es)
  pub messages : MessageFits 1 (at_channel c ts)

-- each publish has an origin, and what is promised has room for one
pub record OriginsKept (rooms : List (ℕ × Bool)) (cells : List (Option Cell)) (origins : Slots Origin) : Type 0 where
  pub count : length origins.slots ≡ length cells
  pub room : promised rooms ≤ origins.spare

-- confirm modes and cells agree, what is promised has room, also for so many more early messages, and the set has the full channels
pub record AllKept (rooms : List (ℕ × Bool)) (es : List (ℕ × ConfirmMode)) (ts : List (ℕ × ReturnedMessages)) (more : ℕ) (cells : Slots Cell) (places : Slots Origin) (shown : List ℕ) : Type 0 where
  pub tied : AllTied es cells.slots
  pub room : HaveRoom rooms es ts cells.spare
  pub origins : OriginsKept rooms cells.slots places
  pub early : promised rooms ≤ more
  pub full : ShowsFull shown es
