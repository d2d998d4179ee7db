-- The confirms as a machine: what each mark of a history does to them.
use Rattle.std.specs.Prelude.{ℕ, ◌+◌, ◌-◌, ◌==◌, nat_lt, nat_le, Bool, true, false, ◌&&◌, if◌then◌else◌, List, [], ◌∷◌, ◌++◌, Option, Some, None, map}
use Rattle.std.specs.List.{list_any, count_by}
use Rattle.std.specs.Option.{option_map}
use Rattle.lapin_types.specs.declared.Error.{Error}
use Rattle.lapin_rules.specs.declared.marks.SettleKind.{SettleKind}
use Rattle.lapin_rules.specs.declared.marks.Settlement.{Settlement}
use Rattle.lapin_types.specs.declared.outcome.Outcome.{Outcome}
use Rattle.lapin_types.specs.declared.outcome.Outcome.TheVariants as outcome
use Rattle.lapin_rules.specs.ConfirmReadings.{covers, outcome_of}
use Rattle.lapin_rules.specs.Words.{with_channel}
use Rattle.lapin_tables.specs.ByChannel.{at_channel, on_channel}
use Rattle.lapin_tables.specs.Numbered.{with_under}
use Rattle.lapin_confirm.specs.declared.cell.Cell.{Cell}
use Rattle.lapin_confirm.specs.declared.cell.Cell.TheVariants as cell

-- what a caller sees of a channel's opening: whether a `confirm.select` frame has left, the last tag that was taken, 0 if
-- none; and while it is live, whether a `confirm.select` call was accepted, and the limit of its pending tags, 0 for none
pub record ConfirmModeState : Type 0 where
  pub selected : Bool
  pub last : ℕ
  pub asked : Bool
  pub limit : ℕ

-- the confirm mode of each channel that had an opening, and a cell per confirm number, none where its result was given
pub record PublishStates : Type 0 where
  pub confirm_modes : List (ℕ × ConfirmModeState)
  pub cells : List (Option Cell)

-- the publish states at first: no channel had an opening, and no publish was accepted
abbrev pub empty_publish_states : PublishStates
empty_publish_states = record { confirm_modes = []; cells = [] }

-- ---- openings and tags

-- a new opening is not selected and has taken no tag
abbrev pub fresh_confirm_mode : ConfirmModeState
fresh_confirm_mode = record { selected = false; last = 0; asked = false; limit = 0 }

-- a `confirm.select` frame of the opening has left: it is selected (RabbitMQ publisher confirms)
abbrev pub selected_confirm_mode : ConfirmModeState → ConfirmModeState
selected_confirm_mode l = record l { selected = true }

-- the live opening accepted a `confirm.select` call
abbrev pub asked_confirm_mode : ConfirmModeState → ConfirmModeState
asked_confirm_mode l = record l { asked = true }

-- the limit of the live opening is n from now on, 0 for none
abbrev pub limited_confirm_mode : ℕ → ConfirmModeState → ConfirmModeState
limited_confirm_mode n l = record l { limit = n }

-- the opening ends
abbrev pub ended_confirm_mode : ConfirmModeState → ConfirmModeState
ended_confirm_mode l = record l { asked = false; limit = 0 }

-- the opening's next tag is taken
abbrev pub next_confirm_mode : ConfirmModeState → ConfirmModeState
next_confirm_mode l = record l { last = l.last + 1 }

-- the tag that the next publish of the channel takes as its method frame leaves: none before the selection, then counted
-- from 1 (RabbitMQ publisher confirms)
abbrev pub tag_for : Option ConfirmModeState → Option ℕ
tag_for None = None
tag_for (Some l) = if l.selected then Some (l.last + 1) else None

-- a publish that left is pending with its tag, or was not asked to be confirmed
abbrev pub cell_with : ℕ → Option ℕ → Cell
cell_with c None = cell.Resolved outcome.NotRequested
cell_with c (Some t) = cell.Pending c t

-- the confirm modes as a publish of channel c leaves with this tag: its opening has taken one more; without a tag the same
abbrev pub confirm_modes_with : ℕ → Option ℕ → List (ℕ × ConfirmModeState) → List (ℕ × ConfirmModeState)
confirm_modes_with c None ls = ls
confirm_modes_with c (Some t) ls = on_channel c next_confirm_mode ls

-- ---- settlements

-- the settlement of one tag, and of every tag up to one, of 0 of every tag
abbrev pub single_of : SettleKind → ℕ → Settlement
single_of kind tag = record { kind = kind; tag = tag; multiple = false }

-- the settlement of every tag up to this one, of 0 of every tag (AMQP 0-9-1, basic.ack; RabbitMQ, basic.nack)
abbrev pub multiple_of : SettleKind → ℕ → Settlement
multiple_of kind tag = record { kind = kind; tag = tag; multiple = true }

-- ---- what becomes of a cell

-- a settlement of channel c with this outcome resolves what is pending there with a tag that it covers
abbrev pub settled_cell : ℕ → (ℕ → Bool) → Outcome → Cell → Cell
settled_cell c covered o (cell.Queued d) = cell.Queued d
settled_cell c covered o (cell.Pending d t) = if d == c && covered t then cell.Resolved o else cell.Pending d t
settled_cell c covered o (cell.Resolved x) = cell.Resolved x

-- a close of this side fails what has not left
abbrev pub closed_cell : ℕ → Error → Cell → Cell
closed_cell c e (cell.Queued d) = if d == c then cell.Resolved (outcome.Failed e) else cell.Queued d
closed_cell c e (cell.Pending d t) = cell.Pending d t
closed_cell c e (cell.Resolved x) = cell.Resolved x

-- the end of the channel's opening fails all of it that is unresolved
abbrev pub ended_cell : ℕ → Error → Cell → Cell
ended_cell c e (cell.Queued d) = if d == c then cell.Resolved (outcome.Failed e) else cell.Queued d
ended_cell c e (cell.Pending d t) = if d == c then cell.Resolved (outcome.Failed e) else cell.Pending d t
ended_cell c e (cell.Resolved x) = cell.Resolved x

-- ---- what is asked of cells

-- the publish was accepted on channel c and has not left
abbrev pub is_queued_on : ℕ → Option Cell → Bool
is_queued_on c (Some (cell.Queued d)) = d == c
is_queued_on c _ = false

-- the publish is pending on channel c
abbrev pub is_pending_on : ℕ → Option Cell → Bool
is_pending_on c (Some (cell.Pending d t)) = d == c
is_pending_on c _ = false

-- the publish is pending on channel c with tag t
abbrev pub is_pending_as : ℕ → ℕ → Option Cell → Bool
is_pending_as c t (Some (cell.Pending d u)) = d == c && u == t
is_pending_as c t _ = false

-- the publish is unresolved on channel c
abbrev pub is_open_on : ℕ → Option Cell → Bool
is_open_on c (Some (cell.Queued d)) = d == c
is_open_on c (Some (cell.Pending d t)) = d == c
is_open_on c _ = false

-- the publish was accepted and has not left
abbrev pub is_queued : Option Cell → Bool
is_queued (Some (cell.Queued d)) = true
is_queued _ = false

-- the outcome is there
abbrev pub is_resolved : Option Cell → Bool
is_resolved (Some (cell.Resolved o)) = true
is_resolved _ = false

-- the publish was accepted and is unresolved
abbrev pub is_unresolved : Option Cell → Bool
is_unresolved (Some (cell.Queued d)) = true
is_unresolved (Some (cell.Pending d t)) = true
is_unresolved _ = false

-- ---- what is asked of a publish states

-- tag t is pending on channel c
abbrev pub is_pending : ℕ → ℕ → PublishStates → Bool
is_pending c t b = list_any (is_pending_as c t) b.cells

-- how many tags are pending on channel c
abbrev pub pending_count : ℕ → PublishStates → ℕ
pending_count c b = count_by (is_pending_on c) b.cells

-- how many publishes of channel c have not left
abbrev pub queued_count : ℕ → PublishStates → ℕ
queued_count c b = count_by (is_queued_on c) b.cells

-- the last tag that was taken by this confirm mode's opening, 0 if none, and 0 where there is no confirm mode
abbrev pub last_in : Option ConfirmModeState → ℕ
last_in None = 0
last_in (Some l) = l.last

-- the last tag that was taken on channel c, 0 if none
abbrev pub last_on : ℕ → PublishStates → ℕ
last_on c b = last_in (at_channel c b.confirm_modes)

-- this confirm mode's opening is selected; where there is no confirm mode none is
abbrev pub selected_in : Option ConfirmModeState → Bool
selected_in None = false
selected_in (Some l) = l.selected

-- the channel's opening is selected
abbrev pub selected_on : ℕ → PublishStates → Bool
selected_on c b = selected_in (at_channel c b.confirm_modes)

-- this confirm mode's live opening accepted a `confirm.select` call; where there is no confirm mode none did
abbrev pub asked_in : Option ConfirmModeState → Bool
asked_in None = false
asked_in (Some l) = l.asked

-- the channel's live opening accepted a `confirm.select` call
abbrev pub asked_on : ℕ → PublishStates → Bool
asked_on c b = asked_in (at_channel c b.confirm_modes)

-- the limit of this confirm mode's live opening, 0 for none, and 0 where there is no confirm mode
abbrev pub limit_in : Option ConfirmModeState → ℕ
limit_in None = 0
limit_in (Some l) = l.limit

-- the limit of the channel's live opening
abbrev pub limit_on : ℕ → PublishStates → ℕ
limit_on c b = limit_in (at_channel c b.confirm_modes)

-- the channel is full: selected, with a limit that its pending tags have reached
abbrev pub full_on : ℕ → PublishStates → Bool
full_on c b = selected_on c b && (nat_lt 0 (limit_on c b) && nat_le (limit_on c b) (pending_count c b))

-- the channel is at its limit: as many of its publishes are queued or pending as the limit allows
abbrev pub at_limit_on : ℕ → PublishStates → Bool
at_limit_on c b = nat_lt 0 (limit_on c b) && nat_le (limit_on c b) (queued_count c b + pending_count c b)

-- the tag of a cell that is pending on channel c
abbrev pub tag_on : ℕ → Option Cell → Option ℕ
tag_on c (Some (cell.Pending d t)) = if d == c then Some t else None
tag_on c _ = None

-- the lesser of two tags, each of which may be missing
abbrev pub least_of : Option ℕ → Option ℕ → Option ℕ
least_of None o = o
least_of (Some t) None = Some t
least_of (Some t) (Some u) = if nat_le t u then Some t else Some u

-- the least tag that is pending on channel c among these cells, if any is
abbrev pub least_in : ℕ → List (Option Cell) → Option ℕ
least_in c [] = None
least_in c (o ∷ cells) = least_of (tag_on c o) (least_in c cells)

-- how many tags there are from the least pending one to the last taken, both counted; 0 where none is pending
abbrev pub span_from : ℕ → Option ℕ → ℕ
span_from last None = 0
span_from last (Some t) = last + 1 - t

-- how many tags of channel c there are from its least pending one to the last taken, both counted; 0 where none is pending
abbrev pub span_on : ℕ → PublishStates → ℕ
span_on c b = span_from (last_on c b) (least_in c b.cells)

-- ---- what happens to a publish states. A publish is named by its confirm number, from 1.

-- an opening of channel c begins: it is not selected, has no limit and has taken no tag
abbrev pub begun : ℕ → PublishStates → PublishStates
begun c b = record { confirm_modes = with_channel c fresh_confirm_mode b.confirm_modes; cells = b.cells }

-- a publish is accepted on channel c: it gets the next confirm number and is queued
abbrev pub with_publish : ℕ → PublishStates → PublishStates
with_publish c b = record { confirm_modes = b.confirm_modes; cells = b.cells ++ Some (cell.Queued c) ∷ [] }

-- a `confirm.select` frame leaves on channel c: the channel's opening is selected
abbrev pub select_left : ℕ → PublishStates → PublishStates
select_left c b = record { confirm_modes = on_channel c selected_confirm_mode b.confirm_modes; cells = b.cells }

-- a call of `confirm.select` is accepted on channel c
abbrev pub select_called : ℕ → PublishStates → PublishStates
select_called c b = record { confirm_modes = on_channel c asked_confirm_mode b.confirm_modes; cells = b.cells }

-- the limit of channel c is set to n
abbrev pub limited : ℕ → ℕ → PublishStates → PublishStates
limited c n b = record { confirm_modes = on_channel c (limited_confirm_mode n) b.confirm_modes; cells = b.cells }

-- the method frame of publish n leaves on channel c: it is pending with the next tag, or not requested before the selection
abbrev pub left : ℕ → ℕ → PublishStates → PublishStates
left c n b = record {
  confirm_modes = confirm_modes_with c (tag_for (at_channel c b.confirm_modes)) b.confirm_modes;
  cells = with_under n (Some (cell_with c (tag_for (at_channel c b.confirm_modes)))) b.cells;
}

-- a settlement of channel c resolves what is pending there with a tag that it covers, as Ack or Nack by its kind
abbrev pub settled : ℕ → Settlement → PublishStates → PublishStates
settled c s b = record { confirm_modes = b.confirm_modes; cells = map (option_map (settled_cell c (covers s) (outcome_of s))) b.cells }

-- every publish of the channel that has not left is rejected
abbrev pub closed_here : ℕ → Error → PublishStates → PublishStates
closed_here c e b = record { confirm_modes = b.confirm_modes; cells = map (option_map (closed_cell c e)) b.cells }

-- one of them: no mark of a history is this alone, but `closed_here` is these one after another
abbrev pub rejected : ℕ → Error → PublishStates → PublishStates
rejected n e b = record { confirm_modes = b.confirm_modes; cells = with_under n (Some (cell.Resolved (outcome.Failed e))) b.cells }

-- the opening of channel c ends: what is unresolved there fails with this error, and its `confirm.select` call and limit are gone
abbrev pub ended : ℕ → Error → PublishStates → PublishStates
ended c e b = record { confirm_modes = on_channel c ended_confirm_mode b.confirm_modes; cells = map (option_map (ended_cell c e)) b.cells }

-- of the outcome of publish n nothing is kept any more
abbrev pub taken : ℕ → PublishStates → PublishStates
taken n b = record { confirm_modes = b.confirm_modes; cells = with_under n None b.cells }
