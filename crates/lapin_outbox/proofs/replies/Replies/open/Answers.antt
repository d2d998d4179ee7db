use Rattle.std.proofs.Common.{◌++◌, ◌∷◌, [], refl, sym, ◌∙◌, ap}
use Rattle.std.specs.Option.{option_copied_mut}
use Rattle.lapin_outbox.proofs.Waiting.{waiting-is, requests-found, written, there}
use Rattle.lapin_outbox.proofs.Rooms.{had-room, room-used, others-kept}
use Rattle.lapin_outbox.proofs.replies.Replies.open.Goals as goal

pub push_reserved-requires : goal.push_reserved-requires
push_reserved-requires c =
    let at = sym c.get_mut.ensures.value ∙ ap option_copied_mut c.in-Some.is in
    had-room _ _ c.in-Some.requests.now _ _ _ c.self.view_is at c.requires

pub returns-in-Some-clause-what : goal.returns-in-Some-clause-what
returns-in-Some-clause-what c =
    let at = sym c.get_mut.ensures.value ∙ ap option_copied_mut c.in-Some.is in
    let view = waiting-is _ _ _ c.self.view_is in
    written _ _ _ _ _ _ view at (c.push_reserved.ensures.others ∙ sym (ap (λ rs. rs ++ c.args.request ∷ []) (requests-found _ _ _ _ view at)))

pub returns-in-Some-clause-used : goal.returns-in-Some-clause-used
returns-in-Some-clause-used c =
    let at = sym c.get_mut.ensures.value ∙ ap option_copied_mut c.in-Some.is in
    room-used _ _ _ _ _ _ c.self.view_is at c.push_reserved.ensures.used

pub returns-in-Some-clause-others : goal.returns-in-Some-clause-others
returns-in-Some-clause-others c =
    let at = sym c.get_mut.ensures.value ∙ ap option_copied_mut c.in-Some.is in
    others-kept _ _ _ _ _ _ c.self.view_is at

pub open_first-requires-clause-absent : goal.open_first-requires-clause-absent
open_first-requires-clause-absent c = there c.args.channel c.self.inside.channels.entries _ _ refl (sym c.get_mut.ensures.value ∙ ap option_copied_mut c.in-None.is)
