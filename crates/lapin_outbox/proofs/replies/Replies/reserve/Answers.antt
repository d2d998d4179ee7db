use Rattle.std.proofs.Common.{refl, sym, ◌∙◌, ap}
use Rattle.std.specs.Option.{option_copied_mut}
use Rattle.lapin_outbox.proofs.Waiting.{waiting-is, kept, there}
use Rattle.lapin_outbox.proofs.Rooms.{had-room, has-room, room-kept}
use Rattle.lapin_outbox.proofs.replies.Replies.reserve.Goals as goal
use Rattle.std.proofs.lemmas.Result.{on_ok_weaker}

pub returns-in-Some-clause-room : goal.returns-in-Some-clause-room
returns-in-Some-clause-room c =
    let at = sym c.get_mut.ensures.value ∙ ap option_copied_mut c.in-Some.is in
    on_ok_weaker _ (has-room _ _ c.reserve.new.self _ _ _ c.self.view_is at) c.reserve.ensures.room

pub returns-in-Some-clause-same : goal.returns-in-Some-clause-same
returns-in-Some-clause-same c =
    let at = sym c.get_mut.ensures.value ∙ ap option_copied_mut c.in-Some.is in
    kept _ _ _ _ _ (waiting-is _ _ _ c.self.view_is) at c.reserve.ensures.same

pub returns-in-Some-clause-kept : goal.returns-in-Some-clause-kept
returns-in-Some-clause-kept c =
    let at = sym c.get_mut.ensures.value ∙ ap option_copied_mut c.in-Some.is in
    room-kept _ _ _ _ _ _ c.self.view_is at c.reserve.ensures.kept

pub returns-in-Some-clause-succeeds : goal.returns-in-Some-clause-succeeds
returns-in-Some-clause-succeeds c some =
    let at = sym c.get_mut.ensures.value ∙ ap option_copied_mut c.in-Some.is in
    c.reserve.ensures.succeeds (had-room _ _ c.reserve.new.self _ _ _ c.self.view_is at some)

pub reserve_first-requires : goal.reserve_first-requires
reserve_first-requires c = there c.args.channel c.self.inside.channels.entries _ _ refl (sym c.get_mut.ensures.value ∙ ap option_copied_mut c.in-None.is)
