-- The returned messages of a channel are given: which ones, and what is kept no more.
use Rattle.std.specs.Prelude.{ℕ, Bool, if◌then◌else◌, List, [], ◌∷◌, ◌++◌, Option, None}
use Rattle.std.specs.List.{filter}
use Rattle.lapin_types.specs.declared.message.BasicReturnMessage.{BasicReturnMessage}
use Rattle.lapin_rules.specs.ReturnLists.{opt_list, message_at, without, drained_messages, drained_return_lists}
use Rattle.lapin_tables.specs.ByChannel.{on_channel}
use Rattle.lapin_tables.specs.Numbered.{under, with_under}
use Rattle.lapin_confirm.specs.declared.cell.Cell.{Cell}
use Rattle.lapin_confirm.specs.declared.origin.Origin.{Origin}
use Rattle.lapin_confirm.specs.PublishStates.{is_resolved}
use Rattle.lapin_confirm.specs.ConfirmState.{ConfirmState, return_lists_at, without_early}

-- the outcome of confirm n is there
abbrev pub is_over : List (Option Cell) → ℕ → Bool
is_over cells n = is_resolved (under n cells)

-- the messages that a drain of channel c gives
abbrev pub drained_on : ℕ → ConfirmState → List BasicReturnMessage
drained_on c p = drained_messages (is_over p.publish_states.cells) (return_lists_at c p)

-- ---- what is kept of confirms

-- what is kept of confirms, by number: what became of each, and where it belongs
pub record Remains : Type 0 where
  pub cells : List (Option Cell)
  pub origins : List (Option Origin)

-- these cells and these origins are what is kept of confirms
abbrev pub remaining : List (Option Cell) → List (Option Origin) → Remains
remaining cells origins = record { cells = cells; origins = origins }

-- of confirm n nothing is kept any more, if it is resolved
abbrev pub less_one : ℕ → Remains → Remains
less_one n r = if is_over r.cells n then record { cells = with_under n None r.cells; origins = with_under n None r.origins } else r

-- of each of these confirms nothing is kept any more, if it is resolved
abbrev pub less_all : List ℕ → Remains → Remains
less_all [] r = r
less_all (n ∷ ns) r = less_all ns (less_one n r)

-- the confirms of channel c that were set aside and are resolved by now
abbrev pub over_aside : ℕ → ConfirmState → List ℕ
over_aside c p = filter (is_over p.publish_states.cells) (return_lists_at c p).aside

-- this is what is kept of confirms; openings and return lists stay
abbrev pub with_remains : Remains → ConfirmState → ConfirmState
with_remains r p = record { publish_states = record { confirm_modes = p.publish_states.confirm_modes; cells = r.cells }; returned_by_channel = p.returned_by_channel; early = p.early; origins = r.origins }

-- after a drain of channel c
abbrev pub drained : ℕ → ConfirmState → ConfirmState
drained c p = record (with_remains (less_all (over_aside c p) (remaining p.publish_states.cells p.origins)) p) { returned_by_channel = on_channel c (drained_return_lists (is_over p.publish_states.cells)) p.returned_by_channel; early = without_early c p }

-- as an opening of channel c begins: of those that stand aside nothing is kept, if they are resolved
abbrev pub renewed_on : ℕ → ConfirmState → ConfirmState
renewed_on c p = with_remains (less_all (return_lists_at c p).aside (remaining p.publish_states.cells p.origins)) p

-- ---- one confirm after another of those that stand aside

-- those that go on to stand aside; those that are over; the messages that are given; and the messages that confirms took
pub record Swept : Type 0 where
  pub left : List ℕ
  pub over : List ℕ
  pub given : List BasicReturnMessage
  pub attached : List (ℕ × BasicReturnMessage)

-- the walk comes to confirm n: where it is over the message that it took, if any, is given; else it goes on to stand aside
abbrev pub sweep_one : (ℕ → Bool) → ℕ → Swept → Swept
sweep_one done n s =
    if done n
    then record { left = s.left; over = s.over ++ n ∷ []; given = s.given ++ opt_list (message_at n s.attached); attached = without n s.attached }
    else record s { left = s.left ++ n ∷ [] }

-- the walk has come past each of these confirms, in this order
abbrev pub sweep_all : (ℕ → Bool) → List ℕ → Swept → Swept
sweep_all done [] s = s
sweep_all done (n ∷ ns) s = sweep_all done ns (sweep_one done n s)
