-- A frame that was given back. It has left already: it is handed out once more before all else, and changes none of the three
-- lists. Until then it is the first entry of its channel that a drop takes out.
use Rattle.std.specs.Prelude.{ℕ, ◌==◌, Bool, true, false, ◌||◌, if◌then◌else◌, List, [], ◌∷◌, ◌++◌, Option, Some, None}
use Rattle.std.specs.List.{list_any}
use Rattle.lapin_types.specs.declared.leaving.Left.{Left}
use Rattle.lapin_rules.specs.Leaving.{Lists, handed_of, left_lists}
use Rattle.lapin_rules.specs.Drops.{frame_channel}
use Rattle.lapin_outbox.specs.declared.dropped.Dropped.{Dropped}
use Rattle.lapin_outbox.specs.Outgoing.{OutboxState, with_lists, has_entries}
use Rattle.lapin_outbox.specs.Drops.{entries_of, without_unbegun, without_entry_of, all_entries, without_entry}

-- an outbox with this as the frame that was given back
abbrev pub with_returned : Option Left → OutboxState → OutboxState
with_returned r o = record { frame_max = o.frame_max; lists = o.lists; returned = r; poison = o.poison; errors = o.errors }

-- whether a frame that was given back waits
abbrev pub is_retried : Option Left → Bool
is_retried None = false
is_retried (Some l) = true

-- whether anything waits
abbrev pub is_pending : OutboxState → Bool
is_pending o = is_retried o.returned || has_entries o.lists

-- ---- a frame request

-- whether a channel is named among these
abbrev pub is_named : List ℕ → ℕ → Bool
is_named channels c = list_any (λ d. d == c) channels

-- a frame as it is handed out once more
abbrev pub again : Left → Left
again l = record { frame = l.frame; ticket = l.ticket; publish = l.publish; first = l.first; last = l.last; again = true }

-- what a frame request gives: the frame that was given back, marked so, else what the three lists give, where t tells on which
-- channels a publish may begin
abbrev pub given : Option Left → Option Left → Option Left
given None handed = handed
given (Some l) handed = Some (again l)

-- what a frame request gives of an outbox, if anything, where t tells on which channels a publish may begin
abbrev pub popped : (ℕ → Bool) → OutboxState → Option Left
popped t o = given o.returned (handed_of t o.lists.rest o.lists.methods o.lists.publishes)

-- what it leaves of the three lists: all, where it gives the frame that was given back
abbrev pub popped_lists : Option Left → Lists → Lists → Lists
popped_lists None left old = left
popped_lists (Some l) left old = old

-- what a frame request leaves of an outbox: no frame is given back any more, and what it gave of the three lists has left them
abbrev pub after_pop : (ℕ → Bool) → OutboxState → OutboxState
after_pop t o = with_returned None (with_lists (popped_lists o.returned (left_lists o.frame_max t o.lists) o.lists) o)

-- ---- drops

-- whether the frame that was given back is of this channel
abbrev pub is_returned_on : ℕ → Option Left → Bool
is_returned_on c None = false
is_returned_on c (Some l) = frame_channel l.frame == c

-- the frame that was given back is gone, where it is of this channel
abbrev pub returned_off : ℕ → Option Left → Option Left
returned_off c r = if is_returned_on c r then None else r

-- what a drop tells of the frame that was given back
abbrev pub told_returned : Option Left → List Dropped
told_returned None = []
told_returned (Some l) = record { ticket = l.ticket; publish = l.publish } ∷ []

-- what a drop of channel c tells of the frame that was given back: nothing where it is of another channel
abbrev pub told_returned_on : ℕ → Option Left → List Dropped
told_returned_on c r = if is_returned_on c r then told_returned r else []

-- what drops of a channel tell, first things first, and what drops over all channels tell
abbrev pub channel_entries : ℕ → OutboxState → List Dropped
channel_entries c o = told_returned_on c o.returned ++ entries_of c o.lists

-- what drops over all channels tell: the frame that was given back, then the entries in the order in which they would leave
abbrev pub outbox_entries : OutboxState → List Dropped
outbox_entries o = told_returned o.returned ++ all_entries o.lists

-- the channel's first publish that has not begun is gone
abbrev pub after_drop_unbegun : ℕ → OutboxState → OutboxState
after_drop_unbegun c o = with_lists (without_unbegun c o.lists) o

-- the channel's first entry is gone: the frame that was given back, else the first of the three lists
abbrev pub after_drop_channel : ℕ → OutboxState → OutboxState
after_drop_channel c o = if is_returned_on c o.returned then with_returned None o else with_lists (without_entry_of c o.lists) o

-- the first entry over all channels is gone
abbrev pub after_drop : OutboxState → OutboxState
after_drop o = if is_retried o.returned then with_returned None o else with_lists (without_entry o.lists) o
