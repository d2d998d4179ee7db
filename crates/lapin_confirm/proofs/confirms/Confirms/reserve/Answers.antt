use Rattle.std.proofs.Common.{◌∙◌, sym, ap, length}
use Rattle.std.proofs.Common.{arith}
use Rattle.lapin_confirm.specs.Ties.{deque_spare}
use Rattle.lapin_confirm.proofs.ConfirmModes.{same-publish_states, all-same}
use Rattle.lapin_confirm.proofs.Roomy.{promise-fits, room-more, promise-one, promise-keeps}
use Rattle.lapin_confirm.proofs.confirms.Confirms.reserve.Goals as goal

pub invariant_of-self : goal.invariant_of-self
invariant_of-self c =
    record {
      tied = c.make_room.ensures.tied;
      room = c.make_room.ensures.room;
      origins = record { count = ap length c.make_room.ensures.origins ∙ c.self.invariant.origins.count ∙ sym (ap length c.make_room.ensures.cells); room = c.make_room.ensures.kept };
      early = c.make_room.ensures.early_kept;
      full = c.make_room.ensures.full c.self.inside.full c.self.invariant.full;
    }

pub invariant_of-self-2 : goal.invariant_of-self-2
invariant_of-self-2 c =
    record {
      tied = c.make_room.ensures.tied;
      room = rw c.promise.ensures (room-more c.args.channel c.make_room.new.rooms.entries c.make_room.new.confirm_modes.entries c.make_room.new.returned_by_channel.entries c.make_room.new.cells.spare c.make_room.ensures.room c.in_default.ensures.more);
      origins = record { count = ap length c.make_room.ensures.origins ∙ c.self.invariant.origins.count ∙ sym (ap length c.make_room.ensures.cells); room = rw c.promise.ensures (promise-fits c.args.channel c.make_room.new.rooms.entries c.make_room.new.origins.spare c.in_default.ensures.more.known c.in_default.ensures.origin) };
      early = rw c.promise.ensures (promise-fits c.args.channel c.make_room.new.rooms.entries (deque_spare c.make_room.new.early) c.in_default.ensures.more.known c.in_default.ensures.early_more);
      full = c.make_room.ensures.full c.self.inside.full c.self.invariant.full;
    }

pub returns-clause-room : goal.returns-clause-room
returns-clause-room c = rw c.promise.ensures (omega (arith, promise-one c.args.channel c.make_room.new.rooms.entries c.in_default.ensures.more.known))

pub returns-clause-same : goal.returns-clause-same
returns-clause-same c = rw (← c.self.view_is) (all-same _ _ _ _ _ _ _ _ (same-publish_states _ _ _ _ c.make_room.ensures.confirm_modes c.make_room.ensures.cells) c.make_room.ensures.returned_by_channel c.make_room.ensures.early c.make_room.ensures.origins)

pub returns-in-Err-clause-same : goal.returns-in-Err-clause-same
returns-in-Err-clause-same c = rw (← c.self.view_is) (all-same _ _ _ _ _ _ _ _ (same-publish_states _ _ _ _ c.make_room.ensures.confirm_modes c.make_room.ensures.cells) c.make_room.ensures.returned_by_channel c.make_room.ensures.early c.make_room.ensures.origins)

pub returns-clause-spare : goal.returns-clause-spare
returns-clause-spare c = λ d. rw (← c.self.view_is, c.promise.ensures) (omega (arith, promise-keeps c.args.channel d c.make_room.new.rooms.entries c.in_default.ensures.more.known, c.make_room.ensures.rooms d))

pub returns-in-Err-clause-spare : goal.returns-in-Err-clause-spare
returns-in-Err-clause-spare c = λ d. rw (← c.self.view_is) (omega (arith, c.make_room.ensures.rooms d))
