use Rattle.std.proofs.Common.{◌∙◌, None, refl, sym, ap, Bool, false, arith}
use Rattle.lapin_rules.specs.ReturnLists.{arrived_in}
use Rattle.lapin_tables.specs.ByChannel.{on_channel}
use Rattle.lapin_tables.proofs.Channels.{at-on_other}
use Rattle.lapin_confirm.specs.WithRoom.{spare_in}
use Rattle.lapin_confirm.specs.Ties.{returned_by_channel_of, deque_spare}
use Rattle.lapin_confirm.proofs.ConfirmModes.{all-same, same-confirm_state}
use Rattle.lapin_confirm.proofs.ReturnedByChannel.{returned_messages-at, returned_by_channel-absent, returned_by_channel-on, returned_by_channel-same, early-stay}
use Rattle.lapin_confirm.proofs.Roomy.{room-less, given-less, given-fits, messages-kept, room-received}
use Rattle.lapin_confirm.proofs.confirms.Confirms.arrived.Goals as goal

pub returns-in_default-clause-ok : goal.returns-in_default-clause-ok
returns-in_default-clause-ok c =
    let none = sym c.in_default.ensures.value in
    rw (← c.self.view_is, returned_messages-at c.args.channel c.self.inside.returned_by_channel.entries None none)
    (all-same _ _ _ _ _ _ _ _ refl (sym (returned_by_channel-absent c.args.channel (arrived_in _ c.args.message) c.self.inside.returned_by_channel.entries none)) c.in_ok-join_early.ensures.ok refl)

pub invariant_of-self-in_default : goal.invariant_of-self-in_default
invariant_of-self-in_default c =
    let rooms = c.self.inside.rooms.entries in
    let used = c.in_ok-join_early.ensures.used in
    record {
      tied = c.self.invariant.tied;
      room = rw used (room-less rooms (on_channel c.args.channel (λ _. false) rooms) c.self.inside.confirm_modes.entries c.self.inside.returned_by_channel.entries c.self.inside.cells.spare c.self.inside.cells.spare c.self.invariant.room (λ d. given-less c.args.channel d rooms) (given-fits c.args.channel rooms c.self.inside.cells.spare c.self.invariant.room.cells));
      origins = record { count = c.self.invariant.origins.count; room = rw used (given-fits c.args.channel rooms c.self.inside.origins.spare c.self.invariant.origins.room) };
      early = c.join_early.ensures.room;
      full = c.self.invariant.full;
    }

pub returns-in_default-clause-spare : goal.returns-in_default-clause-spare
returns-in_default-clause-spare c = λ d other. rw (← c.self.view_is, c.in_ok-join_early.ensures.used) (omega (arith, ap spare_in (at-on_other c.args.channel d (λ _. false) c.self.inside.rooms.entries (λ same. other (sym same)))))

pub invariant_of-self-in-Err : goal.invariant_of-self-in-Err
invariant_of-self-in-Err c =
    record {
      tied = c.self.invariant.tied;
      room = record {
        cells = c.self.invariant.room.cells;
        tags = c.self.invariant.room.tags;
        messages = messages-kept c.args.channel c.in-Some.returned_messages.now c.receive.new.self c.self.inside.rooms.entries c.self.inside.returned_by_channel.entries (sym c.in-Some.ensures.value) c.self.invariant.room.messages c.in-Err.ensures.place;
      };
      origins = c.self.invariant.origins;
      early = c.self.invariant.early;
      full = c.self.invariant.full;
    }

pub returns-in-Err-clause-err : goal.returns-in-Err-clause-err
returns-in-Err-clause-err c = rw (← c.self.view_is) (same-confirm_state _ _ _ _ _ _ refl (returned_by_channel-same c.args.channel c.in-Some.returned_messages.now c.receive.new.self c.self.inside.returned_by_channel.entries (sym c.in-Some.ensures.value) c.in-Err.ensures.err) refl)

pub invariant_of-self-2 : goal.invariant_of-self-2
invariant_of-self-2 c =
    record {
      tied = c.self.invariant.tied;
      room = rw c.give_up.ensures (room-received c.args.channel c.in-Some.returned_messages.now c.receive.new.self c.self.inside.rooms.entries c.self.inside.confirm_modes.entries c.self.inside.returned_by_channel.entries c.self.inside.cells.spare (sym c.in-Some.ensures.value) c.self.invariant.room);
      origins = record { count = c.self.invariant.origins.count; room = rw c.give_up.ensures (given-fits c.args.channel c.self.inside.rooms.entries c.self.inside.origins.spare c.self.invariant.origins.room) };
      early = rw c.give_up.ensures (given-fits c.args.channel c.self.inside.rooms.entries (deque_spare c.self.inside.early) c.self.invariant.early);
      full = c.self.invariant.full;
    }

pub returns-clause-ok : goal.returns-clause-ok
returns-clause-ok c =
    rw (← c.self.view_is)
    (all-same _ _ _ _ _ _ _ _ refl
    (returned_by_channel-on c.args.channel (arrived_in c.selected-selected.result c.args.message) c.in-Some.returned_messages.now c.receive.new.self c.self.inside.returned_by_channel.entries (sym c.in-Some.ensures.value) c.in_default-receive.ensures.ok
    ∙ ap (λ (b : Bool). on_channel c.args.channel (arrived_in b c.args.message) (returned_by_channel_of c.self.inside.returned_by_channel.entries)) (rw (← c.self.view_is) at c.selected-selected.ensures))
    (sym (early-stay c.args.channel c.args.message c.in-Some.returned_messages.now c.self.inside.returned_by_channel.entries c.self.inside.early.items (sym c.in-Some.ensures.value)))
    refl)

pub returns-clause-spare : goal.returns-clause-spare
returns-clause-spare c = λ d other. rw (← c.self.view_is, c.give_up.ensures) (omega (arith, ap spare_in (at-on_other c.args.channel d (λ _. false) c.self.inside.rooms.entries (λ same. other (sym same)))))
