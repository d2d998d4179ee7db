-- Returned messages and confirms that were set aside, read off the marks: per channel a fold over what happened, in which each mark
-- is read with the marks before it.
use Rattle.std.specs.Prelude.{ℕ, ◌==◌, nat_lt, Bool, false, not, ◌&&◌, ◌||◌, if◌then◌else◌, List, [], ◌∷◌, ◌++◌, Option, Some, None, find}
use Rattle.std.specs.List.{range_with_len}
use Rattle.lapin_types.specs.declared.message.BasicReturnMessage.{BasicReturnMessage}
use Rattle.lapin_rules.specs.declared.marks.Settlement.{Settlement}
use Rattle.lapin_rules.specs.ConfirmMarks.{ConfirmMark}
use Rattle.lapin_rules.specs.ConfirmMarks as mark
use Rattle.lapin_rules.specs.ConfirmReadings.{covers, is_selected, place, channel_of, outcome_at, is_open_outcome, is_aside, is_pending_as, numbers, is_asked, queued_count, pending_count}
use Rattle.lapin_rules.specs.ReturnLists.{ReturnLists, no_return_lists, arrived_in, attached_to_all, return_of, taken_out, set_by, drained_messages, drained_return_lists, renewed}

-- the outcome of publish n is there
abbrev pub is_done : List ConfirmMark → ℕ → Bool
is_done ms n = not (is_open_outcome (outcome_at n ms))

-- ---- which confirms a settlement resolves, in rising order of their tags

-- these publishes with one more at their front, if there is one
abbrev pub joined : Option ℕ → List ℕ → List ℕ
joined None ns = ns
joined (Some n) ns = n ∷ ns

-- the publishes under these tags, of those tags that pass
abbrev pub taking : (ℕ → Bool) → (ℕ → Option ℕ) → List ℕ → List ℕ
taking p f [] = []
taking p f (t ∷ ts) = if p t then joined (f t) (taking p f ts) else taking p f ts

-- the publish that is pending on channel c with tag t
abbrev pub pending_with : ℕ → List ConfirmMark → ℕ → Option ℕ
pending_with c ms t = find (is_pending_as c t ms) (numbers ms)

-- the publishes of channel c that a settlement resolves: those that are pending with a tag that it covers, in rising order of their tags
abbrev pub covered : ℕ → Settlement → List ConfirmMark → List ℕ
covered c s ms = taking (covers s) (pending_with c ms) (range_with_len 1 (place c ms))

-- ---- the lists of a channel

-- what a mark does to the lists of channel c, after the marks before it
abbrev pub return_lists_step : ℕ → List ConfirmMark → ConfirmMark → ReturnLists → ReturnLists
return_lists_step c before (mark.Begun d) l = if d == c then renewed l else l
return_lists_step c before (mark.Settled d s) l = if d == c then attached_to_all (covered c s before) l else l
return_lists_step c before (mark.Arrived d m) l = if d == c then arrived_in (is_selected c before) m l else l
return_lists_step c before (mark.Taken n) l = if channel_of n before == c then taken_out n l else l
return_lists_step c before (mark.SetAside n) l = if channel_of n before == c then set_by n (is_done before n) l else l
return_lists_step c before (mark.Drained d) l = if d == c then drained_return_lists (is_done before) l else l
return_lists_step c before _ l = l

-- the lists of channel c after these further marks, where before are all marks that came earlier
abbrev pub return_lists_from : ℕ → List ConfirmMark → ReturnLists → List ConfirmMark → ReturnLists
return_lists_from c before l [] = l
return_lists_from c before l (m ∷ ms) = return_lists_from c (before ++ m ∷ []) (return_lists_step c before m l) ms

-- the four lists of channel c, and the messages that its confirms took
abbrev pub return_lists_of : ℕ → List ConfirmMark → ReturnLists
return_lists_of c ms = return_lists_from c [] no_return_lists ms

-- the message that the resolved publish n took, if it took one and was not given
abbrev pub message_of : ℕ → List ConfirmMark → Option BasicReturnMessage
message_of n ms = return_of n (return_lists_of (channel_of n ms) ms)

-- what a drain of channel c gives
abbrev pub drained : ℕ → List ConfirmMark → List BasicReturnMessage
drained c ms = drained_messages (is_done ms) (return_lists_of c ms)

-- There is something to wait for on channel c, beside a begun publish whose frames have not all left: its live opening accepted a
-- `confirm.select` call, and has a publish that is queued or pending.
abbrev pub is_waited : ℕ → List ConfirmMark → Bool
is_waited c ms = is_asked c ms && (nat_lt 0 (queued_count c ms) || nat_lt 0 (pending_count c ms))

-- ---- confirms of which nothing is kept

-- Of publish n nothing is kept from this mark on: its result was given; it was set aside resolved; or it had been set aside, is
-- resolved, and its channel is drained or begins a new opening.
abbrev pub goes : ℕ → List ConfirmMark → ConfirmMark → Bool
goes n before (mark.Taken j) = j == n
goes n before (mark.SetAside j) = j == n && is_done before n
goes n before (mark.Drained c) = channel_of n before == c && (is_aside n before && is_done before n)
goes n before (mark.Begun c) = channel_of n before == c && (is_aside n before && is_done before n)
goes n before _ = false

-- whether nothing is kept of publish n from one of these further marks on, where before are all marks that came earlier
abbrev pub goes_from : ℕ → List ConfirmMark → List ConfirmMark → Bool
goes_from n before [] = false
goes_from n before (m ∷ ms) = goes n before m || goes_from n (before ++ m ∷ []) ms

-- nothing is kept of publish n any more
abbrev pub is_gone : ℕ → List ConfirmMark → Bool
is_gone n ms = goes_from n [] ms
