-- The confirms with the returned messages, and which confirms a settlement resolves.
use Rattle.std.specs.Prelude.{ℕ, suc, nat_lt, ◌==◌, Bool, false, not, ◌&&◌, ◌||◌, if◌then◌else◌, List, [], ◌∷◌, ◌++◌, Option, Some, None}
use Rattle.std.specs.List.{range_with_len, filter}
use Rattle.lapin_types.specs.declared.message.BasicReturnMessage.{BasicReturnMessage}
use Rattle.lapin_rules.specs.ReturnLists.{ReturnLists, no_return_lists, return_of, taken_out}
use Rattle.lapin_rules.specs.ReturnReadings.{taking}
use Rattle.lapin_rules.specs.Words.{is_some}
use Rattle.lapin_tables.specs.ByChannel.{at_channel, on_channel}
use Rattle.lapin_tables.specs.Numbered.{under, with_under}
use Rattle.lapin_confirm.specs.declared.cell.Cell.{Cell}
use Rattle.lapin_confirm.specs.declared.origin.Origin.{Origin}
use Rattle.lapin_confirm.specs.PublishStates.{PublishStates, empty_publish_states, is_pending_as, last_on, taken, asked_on, queued_count, pending_count}

-- The publish states; the return lists of each channel that had an opening; the early messages, which came on channels that had none,
-- each with its channel, oldest first; and of each publish where it belongs, until its result is given.
pub record ConfirmState : Type 0 where
  pub publish_states : PublishStates
  pub returned_by_channel : List (ℕ × ReturnLists)
  pub early : List (ℕ × BasicReturnMessage)
  pub origins : List (Option Origin)

-- a publish that was accepted on channel c belongs there
abbrev pub new_origin : ℕ → Origin
new_origin c = record { channel = c; aside = false }

-- the confirms at first: no channel had an opening, no message came, and no publish was accepted
abbrev pub empty_confirm_state : ConfirmState
empty_confirm_state = record { publish_states = empty_publish_states; returned_by_channel = []; early = []; origins = [] }

-- the return lists of a channel, empty ones where it had no opening
abbrev pub return_lists_in : Option ReturnLists → ReturnLists
return_lists_in None = no_return_lists
return_lists_in (Some l) = l

-- ---- early messages

-- the messages of channel c among these
abbrev pub messages_on : ℕ → List (ℕ × BasicReturnMessage) → List BasicReturnMessage
messages_on c [] = []
messages_on c (e ∷ es) = if e.0 == c then e.1 ∷ messages_on c es else messages_on c es

-- those of all other channels
abbrev pub messages_off : ℕ → List (ℕ × BasicReturnMessage) → List (ℕ × BasicReturnMessage)
messages_off c es = filter (λ e. not (e.0 == c)) es

-- one more message of channel c came: it is early where the channel had no opening
abbrev pub with_early : ℕ → BasicReturnMessage → ConfirmState → List (ℕ × BasicReturnMessage)
with_early c m p = if is_some (at_channel c p.returned_by_channel) then p.early else p.early ++ (c, m) ∷ []

-- the early messages without those of channel c; where it had an opening there are none of it
abbrev pub without_early : ℕ → ConfirmState → List (ℕ × BasicReturnMessage)
without_early c p = if is_some (at_channel c p.returned_by_channel) then p.early else messages_off c p.early

-- the return lists of a channel, the early messages alone where it had no opening: they are unconfirmed
abbrev pub return_lists_or : List BasicReturnMessage → Option ReturnLists → ReturnLists
return_lists_or early None = record no_return_lists { unconfirmed = early }
return_lists_or early (Some l) = l

-- the return lists of channel c
abbrev pub return_lists_at : ℕ → ConfirmState → ReturnLists
return_lists_at c p = return_lists_or (messages_on c p.early) (at_channel c p.returned_by_channel)

-- ---- a publish, and the return lists of its channel

-- the return lists of the channel where a publish belongs, empty ones where nothing is kept of the publish
abbrev pub origin_return_lists : Option Origin → List (ℕ × ReturnLists) → ReturnLists
origin_return_lists None ts = no_return_lists
origin_return_lists (Some h) ts = return_lists_in (at_channel h.channel ts)

-- the return lists of each channel, changed by f on the channel where a publish belongs, and nowhere where nothing is kept of it
abbrev pub on_origin : Option Origin → (ReturnLists → ReturnLists) → List (ℕ × ReturnLists) → List (ℕ × ReturnLists)
on_origin None f ts = ts
on_origin (Some h) f ts = on_channel h.channel f ts

-- the message that confirm n took, if it took one
abbrev pub message_of : ℕ → ConfirmState → Option BasicReturnMessage
message_of n p = return_of n (origin_return_lists (under n p.origins) p.returned_by_channel)

-- the result of publish n was given, and its message with it
abbrev pub given : ℕ → ConfirmState → ConfirmState
given n p = record { publish_states = taken n p.publish_states; returned_by_channel = on_origin (under n p.origins) (taken_out n) p.returned_by_channel; early = p.early; origins = with_under n None p.origins }

-- ---- which confirms a settlement resolves, in rising order of their tags

-- the number of the cell that is pending on channel c with tag t, where the first has number n
abbrev pub number_from : ℕ → ℕ → ℕ → List (Option Cell) → Option ℕ
number_from c t n [] = None
number_from c t n (o ∷ cells) = if is_pending_as c t o then Some n else number_from c t (suc n) cells

-- the publishes that are pending on channel c with the tags that p covers, in rising order of their tags
abbrev pub covered_in : ℕ → (ℕ → Bool) → PublishStates → List ℕ
covered_in c p b = taking p (λ t. number_from c t 1 b.cells) (range_with_len 1 (last_on c b))

-- ---- what is waited for

-- there is something to wait for on channel c, beside a begun publish whose frames have not all left: its live opening accepted a
-- `confirm.select` call, and has a publish that is queued or pending
abbrev pub waits_on : ℕ → PublishStates → Bool
waits_on c b = asked_on c b && (nat_lt 0 (queued_count c b) || nat_lt 0 (pending_count c b))
