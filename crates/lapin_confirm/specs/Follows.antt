-- When confirms are what the marks of a history say.
use Rattle.std.specs.Prelude.{◌≡◌, ℕ, suc, ◌<◌, ◌≤◌, true, false, if◌then◌else◌, List, [], ◌∷◌, ◌++◌, Option, Some, None, length}
use Rattle.lapin_types.specs.declared.outcome.Outcome.{Outcome}
use Rattle.lapin_types.specs.declared.outcome.Outcome.TheVariants as outcome
use Rattle.lapin_rules.specs.ConfirmMarks.{ConfirmMark}
use Rattle.lapin_rules.specs.ConfirmMarks as mark
use Rattle.lapin_rules.specs.Words.{after, is_some}
use Rattle.lapin_rules.specs.ConfirmReadings.{leaves, is_begun, is_selected, place, has_left, is_aside, is_finished, channel_of, tag_of, covers, outcome_of, first_settled, first_rejected, life, added, outcome_at, is_open_outcome, is_asked, limit_of}
use Rattle.lapin_rules.specs.ReturnReadings.{is_gone, return_lists_of}
use Rattle.lapin_tables.specs.ByChannel.{at_channel}
use Rattle.lapin_tables.specs.Numbered.{under}
use Rattle.lapin_confirm.specs.declared.cell.Cell.{Cell}
use Rattle.lapin_confirm.specs.declared.cell.Cell.TheVariants as cell
use Rattle.lapin_confirm.specs.declared.origin.Origin.{Origin}
use Rattle.lapin_confirm.specs.PublishStates.{ConfirmModeState}
use Rattle.lapin_confirm.specs.ConfirmState.{ConfirmState, return_lists_at}

-- a channel's confirm mode by the readings
abbrev pub confirm_mode_in : ℕ → List ConfirmMark → Option ConfirmModeState
confirm_mode_in c ms = if is_begun c ms then Some (record { selected = is_selected c ms; last = place c ms; asked = is_asked c ms; limit = limit_of c ms }) else None

-- the cell of a publish that left on channel c with tag t: pending, or resolved where it has this outcome by now
abbrev pub pending_cell : ℕ → ℕ → Option Outcome → Cell
pending_cell c t None = cell.Pending c t
pending_cell c t (Some o) = cell.Resolved o

-- the cell of a publish of channel c that has not left: queued, or resolved where it has this outcome by now
abbrev pub queued_cell : ℕ → Option Outcome → Cell
queued_cell c None = cell.Queued c
queued_cell c (Some o) = cell.Resolved o

-- the cell of a publish that left, by its tag and the marks after it left
abbrev pub left_cell : ℕ → Option ℕ → List ConfirmMark → Cell
left_cell c None later = cell.Resolved outcome.NotRequested
left_cell c (Some t) later = pending_cell c t (first_settled c t later)

-- the cell of a publish of which something is kept
abbrev pub open_cell : ℕ → List ConfirmMark → Cell
open_cell n ms =
    if has_left n ms
    then left_cell (channel_of n ms) (tag_of n ms) (after (leaves n) ms)
    else queued_cell (channel_of n ms) (first_rejected (channel_of n ms) (life n ms))

-- the cell of publish n, by the readings
abbrev pub cell_in : ℕ → List ConfirmMark → Option Cell
cell_in n ms = if is_gone n ms then None else Some (open_cell n ms)

-- and where it belongs
abbrev pub origin_in : ℕ → List ConfirmMark → Option Origin
origin_in n ms = if is_gone n ms then None else Some (record { channel = channel_of n ms; aside = is_aside n ms })

-- ---- which marks may come

-- the publish was accepted
abbrev pub WasAdded : ℕ → List ConfirmMark → Type 0
WasAdded n ms = (1 ≤ n) × (n ≤ added ms)

-- every confirm of channel c that was set aside is resolved
abbrev pub NoneWaitsAside : ℕ → List ConfirmMark → Type 0
NoneWaitsAside c ms = (n : ℕ) → WasAdded n ms → channel_of n ms ≡ c → is_aside n ms ≡ true → is_open_outcome (outcome_at n ms) ≡ false

-- Marks that a history may have next. An opening begins once every confirm that was set aside on its channel is resolved; a publish
-- or a `confirm.select` is accepted on a channel that had an opening; a publish leaves while it is queued; a result is given once it is
-- there, and it is given or set aside once.
abbrev pub MayCome : List ConfirmMark → ConfirmMark → Type 0
MayCome ms (mark.Begun c) = NoneWaitsAside c ms
MayCome ms (mark.Added c) = is_begun c ms ≡ true
MayCome ms (mark.SelectCalled c) = is_begun c ms ≡ true
MayCome ms (mark.Left c n) = WasAdded n ms × (cell_in n ms ≡ Some (cell.Queued c))
MayCome ms (mark.Taken n) = WasAdded n ms × (is_finished n ms ≡ false) × (is_open_outcome (outcome_at n ms) ≡ false)
MayCome ms (mark.SetAside n) = WasAdded n ms × (is_finished n ms ≡ false)
MayCome ms _ = Unit {0}

-- each of these marks came as it may, after those that were there
abbrev pub CameAfter : List ConfirmMark → List ConfirmMark → Type 0
CameAfter before [] = Unit {0}
CameAfter before (m ∷ ms) = MayCome before m × CameAfter (before ++ m ∷ []) ms

-- ---- what is kept is what the marks say

-- each mark came as it may, and confirm modes, cells, origins and return lists are those that the readings give
pub record Follows (ms : List ConfirmMark) (p : ConfirmState) : Type 0 where
  pub came : CameAfter [] ms
  pub confirm_modes : (c : ℕ) → at_channel c p.publish_states.confirm_modes ≡ confirm_mode_in c ms
  pub count : length p.publish_states.cells ≡ added ms
  pub cells : (k : ℕ) → k < added ms → under (suc k) p.publish_states.cells ≡ cell_in (suc k) ms
  pub places : length p.origins ≡ added ms
  pub origins : (k : ℕ) → k < added ms → under (suc k) p.origins ≡ origin_in (suc k) ms
  -- a channel that had an opening has return lists; those of each channel are the history's, also where a message came before any opening
  pub returned_by_channel : (c : ℕ) → is_some (at_channel c p.returned_by_channel) ≡ is_begun c ms
  pub return_lists : (c : ℕ) → return_lists_at c p ≡ return_lists_of c ms

-- the mark resolves what is pending on channel c with tag t, as this: a settlement of the channel that covers the tag, or the
-- end of the opening
abbrev pub Resolves : ℕ → ℕ → Outcome → ConfirmMark → Type 0
Resolves c t o (mark.Settled d s) = (c ≡ d) × (covers s t ≡ true) × (o ≡ outcome_of s)
Resolves c t o (mark.Ended d e) = (c ≡ d) × (o ≡ outcome.Failed e)
Resolves c t o _ = ⊥
