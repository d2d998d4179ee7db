-- Tags and outcomes, read off the marks of a whole history (RabbitMQ publisher confirms).
use Rattle.std.specs.Prelude.{ℕ, ◌+◌, ◌==◌, nat_lt, nat_le, not, Bool, true, false, ◌&&◌, ◌||◌, if◌then◌else◌, List, [], ◌∷◌, Option, Some, None, count_by}
use Rattle.std.specs.List.{list_any, range_with_len}
use Rattle.std.specs.Option.{option_or}
use Rattle.lapin_rules.specs.declared.marks.SettleKind.{SettleKind}
use Rattle.lapin_rules.specs.declared.marks.SettleKind.TheVariants as kind
use Rattle.lapin_rules.specs.declared.marks.Settlement.{Settlement}
use Rattle.lapin_types.specs.declared.outcome.Outcome.{Outcome}
use Rattle.lapin_types.specs.declared.outcome.Outcome.TheVariants as outcome
use Rattle.lapin_rules.specs.ConfirmMarks.{ConfirmMark}
use Rattle.lapin_rules.specs.ConfirmMarks as mark
use Rattle.lapin_rules.specs.Words.{after, through, since, many, nth, after_nth}

-- ---- which mark is it

-- an opening of channel c begins
abbrev pub begins : ℕ → ConfirmMark → Bool
begins c (mark.Begun d) = d == c
begins c _ = false

-- a publish is accepted
abbrev pub adds : ConfirmMark → Bool
adds (mark.Added d) = true
adds _ = false

-- a `confirm.select` frame of channel c leaves
abbrev pub selects : ℕ → ConfirmMark → Bool
selects c (mark.SelectLeft d) = d == c
selects c _ = false

-- the method frame of a publish of channel c leaves
abbrev pub leaves_on : ℕ → ConfirmMark → Bool
leaves_on c (mark.Left d k) = d == c
leaves_on c _ = false

-- the method frame of publish n leaves
abbrev pub leaves : ℕ → ConfirmMark → Bool
leaves n (mark.Left d j) = j == n
leaves n _ = false

-- the result of publish n is given
abbrev pub takes : ℕ → ConfirmMark → Bool
takes n (mark.Taken j) = j == n
takes n _ = false

-- publish n is set aside
abbrev pub lays : ℕ → ConfirmMark → Bool
lays n (mark.SetAside j) = j == n
lays n _ = false

-- a `confirm.select` call of channel c is accepted
abbrev pub asks : ℕ → ConfirmMark → Bool
asks c (mark.SelectCalled d) = d == c
asks c _ = false

-- an opening of channel c begins or ends
abbrev pub turns : ℕ → ConfirmMark → Bool
turns c (mark.Begun d) = d == c
turns c (mark.Ended d e) = d == c
turns c _ = false

-- the limit of channel c after a mark
abbrev pub limit_after : ℕ → ℕ → ConfirmMark → ℕ
limit_after c l (mark.LimitSet d n) = if d == c then n else l
limit_after c l _ = l

-- ---- settlements

-- Which tags a settlement covers: a single one its own tag, a multiple one every tag up to its own, and with tag 0 every
-- tag (AMQP 0-9-1, basic.ack; RabbitMQ, basic.nack).
abbrev pub covers : Settlement → ℕ → Bool
covers s t = if s.multiple then s.tag == 0 || nat_le t s.tag else s.tag == t

-- the outcome that a settlement of this kind gives: Ack for `basic.ack`, Nack for `basic.nack`
abbrev pub kind_outcome : SettleKind → Outcome
kind_outcome kind.Ack = outcome.Ack
kind_outcome kind.Nack = outcome.Nack

-- what a settlement makes of what it covers
abbrev pub outcome_of : Settlement → Outcome
outcome_of s = kind_outcome s.kind

-- ---- openings and tags

-- the marks since the channel's present opening began
abbrev pub opening : ℕ → List ConfirmMark → List ConfirmMark
opening c ms = since (begins c) ms

-- an opening of channel c has begun, whether or not it has ended
abbrev pub is_begun : ℕ → List ConfirmMark → Bool
is_begun c ms = list_any (begins c) ms

-- an opening is selected from the moment its first `confirm.select` frame leaves
abbrev pub is_selected : ℕ → List ConfirmMark → Bool
is_selected c ms = list_any (selects c) (opening c ms)

-- how many publishes of the opening left after its first `confirm.select`: the last tag taken
abbrev pub place : ℕ → List ConfirmMark → ℕ
place c ms = count_by (leaves_on c) (after (selects c) (opening c ms))

-- the method frame of publish k has left
abbrev pub has_left : ℕ → List ConfirmMark → Bool
has_left k ms = list_any (leaves k) ms

-- the channel of the publish that was accepted by this mark, 0 where none was
abbrev pub channel_in : Option ConfirmMark → ℕ
channel_in (Some (mark.Added d)) = d
channel_in _ = 0

-- how many publishes were accepted
abbrev pub added : List ConfirmMark → ℕ
added ms = many adds ms

-- the mark by which publish n was accepted, and the marks after it
abbrev pub accepted : ℕ → List ConfirmMark → Option ConfirmMark
accepted n ms = nth adds n ms

-- the marks after publish n was accepted
abbrev pub life : ℕ → List ConfirmMark → List ConfirmMark
life n ms = after_nth adds n ms

-- the channel of publish n
abbrev pub channel_of : ℕ → List ConfirmMark → ℕ
channel_of n ms = channel_in (accepted n ms)

-- A publish takes its place, as its method frame leaves, among those of its opening that left after the first
-- `confirm.select`, counted from 1. It has no tag if none had left.
abbrev pub tag_on : ℕ → List ConfirmMark → Option ℕ
tag_on c ms = if is_selected c ms then Some (place c ms) else None

-- the tag that a publish which left has taken
abbrev pub tag_of : ℕ → List ConfirmMark → Option ℕ
tag_of k ms = tag_on (channel_of k ms) (through (leaves k) ms)

-- ---- outcomes

-- what a mark does to a publish of channel c while its method frame has not left: a close of this side, or the end
abbrev pub rejection_on : ℕ → ConfirmMark → Option Outcome
rejection_on c (mark.ClosedHere d e) = if c == d then Some (outcome.Failed e) else None
rejection_on c (mark.Ended d e) = if c == d then Some (outcome.Failed e) else None
rejection_on c _ = None

-- the first of these
abbrev pub first_rejected : ℕ → List ConfirmMark → Option Outcome
first_rejected c [] = None
first_rejected c (m ∷ ms) = option_or (rejection_on c m) (first_rejected c ms)

-- what a mark does to a publish of channel c that is pending with tag t: a settlement that covers it, or the end
abbrev pub settlement_on : ℕ → ℕ → ConfirmMark → Option Outcome
settlement_on c t (mark.Settled d s) = if c == d && covers s t then Some (outcome_of s) else None
settlement_on c t (mark.Ended d e) = if c == d then Some (outcome.Failed e) else None
settlement_on c t _ = None

-- the first of these
abbrev pub first_settled : ℕ → ℕ → List ConfirmMark → Option Outcome
first_settled c t [] = None
first_settled c t (m ∷ ms) = option_or (settlement_on c t m) (first_settled c t ms)

-- what becomes of a publish that left, with its tag and what came later
abbrev pub outcome_after : ℕ → Option ℕ → List ConfirmMark → Option Outcome
outcome_after c None later = Some outcome.NotRequested
outcome_after c (Some t) later = first_settled c t later

-- The outcome of publish n, none while it is pending. Before its method frame left: the first close of this side or end.
-- After it: not requested where it took no tag, else the first settlement that covers its tag, or the end.
abbrev pub outcome_at : ℕ → List ConfirmMark → Option Outcome
outcome_at n ms =
    if has_left n ms
    then outcome_after (channel_of n ms) (tag_of n ms) (after (leaves n) ms)
    else first_rejected (channel_of n ms) (life n ms)

-- the result of publish n was given
abbrev pub is_taken : ℕ → List ConfirmMark → Bool
is_taken n ms = list_any (takes n) ms

-- publish n was set aside
abbrev pub is_aside : ℕ → List ConfirmMark → Bool
is_aside n ms = list_any (lays n) ms

-- publish n was accepted
abbrev pub was_added : ℕ → List ConfirmMark → Bool
was_added n ms = nat_lt 0 n && nat_le n (added ms)

-- its result is asked for no more: it was given, or the publish was set aside
abbrev pub is_finished : ℕ → List ConfirmMark → Bool
is_finished n ms = is_taken n ms || is_aside n ms

-- ---- pending tags

-- a tag was taken, and it is t
abbrev pub is_tag : ℕ → Option ℕ → Bool
is_tag t None = false
is_tag t (Some u) = u == t

-- no outcome is there yet
abbrev pub is_open_outcome : Option Outcome → Bool
is_open_outcome None = true
is_open_outcome (Some o) = false

-- publish n is of channel c, has tag t and no outcome yet
abbrev pub is_pending_as : ℕ → ℕ → List ConfirmMark → ℕ → Bool
is_pending_as c t ms n = has_left n ms && (channel_of n ms == c && (is_tag t (tag_of n ms) && is_open_outcome (outcome_at n ms)))

-- the numbers of all publishes
abbrev pub numbers : List ConfirmMark → List ℕ
numbers ms = range_with_len 1 (added ms)

-- the tag is pending on channel c: one of its publishes is pending with it
abbrev pub is_pending : ℕ → ℕ → List ConfirmMark → Bool
is_pending c t ms = list_any (is_pending_as c t ms) (numbers ms)

-- publish n has left on channel c, and has no outcome yet
abbrev pub is_pending_on : ℕ → List ConfirmMark → ℕ → Bool
is_pending_on c ms n = has_left n ms && (channel_of n ms == c && is_open_outcome (outcome_at n ms))

-- the number of tags that are pending on channel c: its publishes whose method frame left and that have no outcome yet
abbrev pub pending_count : ℕ → List ConfirmMark → ℕ
pending_count c ms = count_by (is_pending_on c ms) (numbers ms)

-- publish n is of channel c, has not left, and has no outcome yet
abbrev pub is_queued_on : ℕ → List ConfirmMark → ℕ → Bool
is_queued_on c ms n = not (has_left n ms) && (channel_of n ms == c && is_open_outcome (outcome_at n ms))

-- how many publishes of channel c are queued: their method frame has not left, and they have no outcome yet
abbrev pub queued_count : ℕ → List ConfirmMark → ℕ
queued_count c ms = count_by (is_queued_on c ms) (numbers ms)

-- ---- what an opening has beside its tags: it is there from the opening's begin to its end

-- the marks since the channel's opening began or ended, whichever came last
abbrev pub present : ℕ → List ConfirmMark → List ConfirmMark
present c ms = since (turns c) ms

-- a `confirm.select` call was accepted in it
abbrev pub is_asked : ℕ → List ConfirmMark → Bool
is_asked c ms = list_any (asks c) (present c ms)

-- the last limit that was set in it, 0 if none
abbrev pub last_limit : ℕ → ℕ → List ConfirmMark → ℕ
last_limit c l [] = l
last_limit c l (m ∷ ms) = last_limit c (limit_after c l m) ms

-- the limit of outstanding confirms of channel c's live opening, 0 for none
abbrev pub limit_of : ℕ → List ConfirmMark → ℕ
limit_of c ms = last_limit c 0 (present c ms)

-- the channel is full: no further publish of it begins
abbrev pub is_full : ℕ → List ConfirmMark → Bool
is_full c ms = is_selected c ms && (nat_lt 0 (limit_of c ms) && nat_le (limit_of c ms) (pending_count c ms))

-- the channel is at its limit: as many of its publishes wait or are pending as the limit allows
abbrev pub is_at_limit : ℕ → List ConfirmMark → Bool
is_at_limit c ms = nat_lt 0 (limit_of c ms) && nat_le (limit_of c ms) (queued_count c ms + pending_count c ms)
