use Rattle.std.proofs.Common.{sym, ◌∙◌, ap}
use Rattle.std.specs.Option.{option_copied_mut}
use Rattle.lapin_rules.specs.Words.{without_first}
use Rattle.lapin_rules.specs.Requests.{first_request, is_kind}
use Rattle.lapin_outbox.proofs.Waiting.{waiting-is, requests-found, requests-absent, written, kept, on-some, if-none}
use Rattle.lapin_outbox.proofs.Rooms.{room-kept}
use Rattle.lapin_outbox.proofs.replies.Replies.take_first.Goals as goal

pub returns-in_err-get_mut-clause-taken : goal.returns-in_err-get_mut-clause-taken
returns-in_err-get_mut-clause-taken c =
    let at = sym c.get_mut.ensures.value ∙ ap option_copied_mut c.in_err-get_mut.was in
    c.from_residual.ensures ∙ sym (ap (first_request c.args.kind) (requests-absent _ _ _ (waiting-is _ _ _ c.self.view_is) at))

pub invariant_of-self-2 : goal.invariant_of-self-2
invariant_of-self-2 c =
    let aside = c.self.invariant in
    record { each = aside.each; room = aside.room }

pub returns-clause-kept : goal.returns-clause-kept
returns-clause-kept c =
    let at = sym c.get_mut.ensures.value ∙ ap option_copied_mut c.in_ok-get_mut.was in
    room-kept _ _ _ _ _ _ c.self.view_is at c.take_first.ensures.kept

pub returns-clause-taken : goal.returns-clause-taken
returns-clause-taken c =
    let at = sym c.get_mut.ensures.value ∙ ap option_copied_mut c.in_ok-get_mut.was in
    c.take_first.ensures.taken ∙ sym (ap (first_request c.args.kind) (requests-found _ _ _ _ (waiting-is _ _ _ c.self.view_is) at))

pub returns-clause-ok : goal.returns-clause-ok
returns-clause-ok c =
    let at = sym c.get_mut.ensures.value ∙ ap option_copied_mut c.in_ok-get_mut.was in
    let view = waiting-is _ _ _ c.self.view_is in
    on-some _ (written _ _ _ _ _ _ view at (c.take_first.ensures.others ∙ sym (ap (without_first (is_kind c.args.kind)) (requests-found _ _ _ _ view at))))

pub returns-clause-none : goal.returns-clause-none
returns-clause-none c =
    let at = sym c.get_mut.ensures.value ∙ ap option_copied_mut c.in_ok-get_mut.was in
    if-none _ (kept _ _ _ _ _ (waiting-is _ _ _ c.self.view_is) at) c.take_first.ensures.none
