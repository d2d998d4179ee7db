use Rattle.std.proofs.Common.{◌∙◌, ◌≤◌, ℕ, List, Some, None, refl, sym, ap, arith}
use Rattle.std.proofs.lemmas.List.{append-nil}
use Rattle.lapin_rules.specs.ReturnLists.{drained_return_lists}
use Rattle.lapin_confirm.specs.Drain.{Remains, is_over, remaining, less_all}
use Rattle.lapin_confirm.specs.ConfirmState.{messages_on}
use Rattle.lapin_confirm.specs.Ties.{promised}
use Rattle.lapin_confirm.proofs.ConfirmModes.{same-publish_states, all-same, same-confirm_state}
use Rattle.lapin_confirm.proofs.ReturnedByChannel.{returned_messages-at, returned_by_channel-on, returned_by_channel-same, returned_by_channel-absent}
use Rattle.lapin_confirm.proofs.Roomy.{messages-kept}
use Rattle.lapin_confirm.proofs.confirms.Confirms.drain.Goals as goal

pub returns-in_default-clause-given : goal.returns-in_default-clause-given
returns-in_default-clause-given c = rw (← c.self.view_is, returned_messages-at c.args.channel c.self.inside.returned_by_channel.entries None (sym c.in_default.ensures.value), append-nil (messages_on c.args.channel c.self.inside.early.items)) (c.new.ensures ∙ c.in_ok-take_early.ensures.given)

pub returns-in_default-clause-ok : goal.returns-in_default-clause-ok
returns-in_default-clause-ok c =
    let none = sym c.in_default.ensures.value in
    rw (← c.self.view_is, returned_messages-at c.args.channel c.self.inside.returned_by_channel.entries None none)
    (all-same _ _ _ _ _ _ _ _ refl (sym (returned_by_channel-absent c.args.channel (drained_return_lists (is_over c.self.inside.cells.slots)) c.self.inside.returned_by_channel.entries none)) c.in_ok-take_early.ensures.ok refl)

pub invariant_of-self-in-Err : goal.invariant_of-self-in-Err
invariant_of-self-in-Err c = record {
  tied = c.self.invariant.tied;
  room = record {
    cells = c.self.invariant.room.cells;
    tags = c.self.invariant.room.tags;
    messages = messages-kept c.args.channel c.in-Some.returned_messages.now c.drain.new.self c.self.inside.rooms.entries c.self.inside.returned_by_channel.entries (sym c.in-Some.ensures.value) c.self.invariant.room.messages c.drain.ensures.place;
  };
  origins = c.self.invariant.origins;
  early = c.self.invariant.early;
  full = c.self.invariant.full;
}

pub invariant_of-self-in-Ok : goal.invariant_of-self-in-Ok
invariant_of-self-in-Ok c =
    let cells : promised c.self.inside.rooms.entries ≤ c.leave_all.new.cells.spare = omega (arith, c.self.invariant.room.cells, c.leave_all.ensures.spare.0) in
    record {
      tied = c.leave_all.ensures.tied c.self.inside.confirm_modes.entries c.self.invariant.tied;
      room = record {
        cells = cells;
        tags = c.self.invariant.room.tags;
        messages = messages-kept c.args.channel c.in-Some.returned_messages.now c.drain.new.self c.self.inside.rooms.entries c.self.inside.returned_by_channel.entries (sym c.in-Some.ensures.value) c.self.invariant.room.messages c.drain.ensures.place;
      };
      origins = record {
        count = c.leave_all.ensures.counts.1 ∙ c.self.invariant.origins.count ∙ sym c.leave_all.ensures.counts.0;
        room = omega (arith, c.self.invariant.origins.room, c.leave_all.ensures.spare.1);
      };
      early = c.self.invariant.early;
      full = c.self.invariant.full;
    }

pub returns-in-Err-clause-err : goal.returns-in-Err-clause-err
returns-in-Err-clause-err c = rw (← c.self.view_is) (same-confirm_state _ _ _ _ _ _ refl (returned_by_channel-same c.args.channel c.in-Some.returned_messages.now c.drain.new.self c.self.inside.returned_by_channel.entries (sym c.in-Some.ensures.value) c.in-Err.ensures.err) refl)

pub returns-in-Ok-clause-given : goal.returns-in-Ok-clause-given
returns-in-Ok-clause-given c = rw (← c.self.view_is, returned_messages-at c.args.channel c.self.inside.returned_by_channel.entries (Some c.in-Some.returned_messages.now) (sym c.in-Some.ensures.value)) (c.new-in-Ok.ensures ∙ c.in-Ok.ensures.given)

pub returns-in-Ok-clause-ok : goal.returns-in-Ok-clause-ok
returns-in-Ok-clause-ok c =
    let is = sym c.in-Some.ensures.value in
    let rest = c.leave_all.ensures.remains ∙ ap (λ (ns : List ℕ). less_all ns (remaining c.self.inside.cells.slots c.self.inside.origins.slots)) c.in-Ok.ensures.over in
    rw (← c.self.view_is, returned_messages-at c.args.channel c.self.inside.returned_by_channel.entries (Some c.in-Some.returned_messages.now) is)
    (same-confirm_state _ _ _ _ _ _ (same-publish_states _ _ _ _ refl (ap (λ (r : Remains). r.cells) rest))
    (returned_by_channel-on c.args.channel (drained_return_lists (is_over c.self.inside.cells.slots)) c.in-Some.returned_messages.now c.drain.new.self c.self.inside.returned_by_channel.entries is c.in-Ok.ensures.return_lists)
    (ap (λ (r : Remains). r.origins) rest))
