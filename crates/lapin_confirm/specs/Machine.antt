-- The confirms with the returned messages as a machine: what each mark of a history does to them.
use Rattle.std.specs.Prelude.{ℕ, [], ◌∷◌, ◌++◌, Some}
use Rattle.lapin_types.specs.declared.Error.{Error}
use Rattle.lapin_types.specs.declared.message.BasicReturnMessage.{BasicReturnMessage}
use Rattle.lapin_rules.specs.declared.marks.Settlement.{Settlement}
use Rattle.lapin_rules.specs.ConfirmMarks.{ConfirmMark}
use Rattle.lapin_rules.specs.ConfirmMarks as mark
use Rattle.lapin_rules.specs.ConfirmReadings.{covers}
use Rattle.lapin_rules.specs.ReturnLists.{ReturnLists, arrived_in, attached_to_all, renewed}
use Rattle.lapin_rules.specs.Words.{with_channel}
use Rattle.lapin_tables.specs.ByChannel.{on_channel}
use Rattle.lapin_confirm.specs.PublishStates.{PublishStates, begun, with_publish, select_left, select_called, limited, left, settled, closed_here, ended, selected_on}
use Rattle.lapin_confirm.specs.PublishStates as publish_states
use Rattle.lapin_confirm.specs.ConfirmState.{ConfirmState, new_origin, return_lists_at, with_early, without_early, given, covered_in}
use Rattle.lapin_confirm.specs.Aside.{put_aside}
use Rattle.lapin_confirm.specs.Drain.{drained, renewed_on}

-- the publish states changes to this one, and nothing else
abbrev pub with_publish_states : PublishStates → ConfirmState → ConfirmState
with_publish_states b p = record { publish_states = b; returned_by_channel = p.returned_by_channel; early = p.early; origins = p.origins }

-- the return lists of channel c change, and nothing else
abbrev pub with_return_lists : ℕ → (ReturnLists → ReturnLists) → ConfirmState → ConfirmState
with_return_lists c f p = record { publish_states = p.publish_states; returned_by_channel = on_channel c f p.returned_by_channel; early = p.early; origins = p.origins }

-- an opening of channel c begins: no tag is taken, nothing waits, is unconfirmed, kept or stands aside
abbrev pub opened : ℕ → ConfirmState → ConfirmState
opened c p = record {
  publish_states = begun c (renewed_on c p).publish_states;
  returned_by_channel = with_channel c (renewed (return_lists_at c p)) p.returned_by_channel;
  early = without_early c p;
  origins = (renewed_on c p).origins;
}

-- a publish is accepted on channel c, and belongs there
abbrev pub published : ℕ → ConfirmState → ConfirmState
published c p = record { publish_states = with_publish c p.publish_states; returned_by_channel = p.returned_by_channel; early = p.early; origins = p.origins ++ Some (new_origin c) ∷ [] }

-- a settlement of channel c resolves what it covers, and the confirms under its tags take the oldest messages that wait, one each
abbrev pub resolved : ℕ → Settlement → ConfirmState → ConfirmState
resolved c s p = with_publish_states (settled c s p.publish_states) (with_return_lists c (attached_to_all (covered_in c (covers s) p.publish_states)) p)

-- a returned message of channel c came whole: it waits where the opening is selected; where the channel had no opening it is early
abbrev pub arrived : ℕ → BasicReturnMessage → ConfirmState → ConfirmState
arrived c m p = record (with_return_lists c (arrived_in (selected_on c p.publish_states) m) p) { early = with_early c m p }

-- publish n, which has not left, is resolved with an error: no mark of a history is this alone, but a close of this side is these
-- one after another
abbrev pub rejected : ℕ → Error → ConfirmState → ConfirmState
rejected n e p = with_publish_states (publish_states.rejected n e p.publish_states) p

-- the confirms after a mark
abbrev pub after_mark : ConfirmState → ConfirmMark → ConfirmState
after_mark p (mark.Begun c) = opened c p
after_mark p (mark.SelectCalled c) = with_publish_states (select_called c p.publish_states) p
after_mark p (mark.LimitSet c n) = with_publish_states (limited c n p.publish_states) p
after_mark p (mark.Added c) = published c p
after_mark p (mark.SelectLeft c) = with_publish_states (select_left c p.publish_states) p
after_mark p (mark.Left c n) = with_publish_states (left c n p.publish_states) p
after_mark p (mark.Settled c s) = resolved c s p
after_mark p (mark.Arrived c m) = arrived c m p
after_mark p (mark.ClosedHere c e) = with_publish_states (closed_here c e p.publish_states) p
after_mark p (mark.Ended c e) = with_publish_states (ended c e p.publish_states) p
after_mark p (mark.Taken n) = given n p
after_mark p (mark.SetAside n) = put_aside n p
after_mark p (mark.Drained c) = drained c p
