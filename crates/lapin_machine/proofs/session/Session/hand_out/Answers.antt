use Rattle.std.proofs.Common.{◌≡◌, ◌∙◌, sym, ap, refl, subst, Option, Result, Ok, Err, IfOk, OnOk}
use Rattle.std.specs.List.{fold}
use Rattle.lapin_delivery.specs.WithRoom.{what}
use Rattle.lapin_types.specs.declared.NoMemory.{NoMemory}
use Rattle.lapin_types.specs.declared.leaving.Left.{Left}
use Rattle.lapin_rules.specs.Flow.{unless_full}
use Rattle.lapin_rules.specs.Handing.{left_marks, handed_out}
use Rattle.lapin_confirm.specs.ConfirmState.{ConfirmState}
use Rattle.lapin_confirm.specs.Machine.{after_mark}
use Rattle.lapin_outbox.specs.Open.{OpenRequests}
use Rattle.lapin_outbox.specs.Outgoing.{Outgoing}
use Rattle.lapin_outbox.specs.Returned.{is_retried, popped, after_pop}
use Rattle.lapin_machine.specs.World.{World, handing, full_in}
use Rattle.lapin_machine.proofs.Seen.{seen_is}
use Rattle.lapin_machine.proofs.Worlds.{handing_seen}
use Rattle.lapin_machine.proofs.Keeping.{tied_leaves, tied_handed, can_register, kept_by}
use Rattle.lapin_machine.proofs.Back.{popped_anew, popped_left}
use Rattle.lapin_machine.proofs.session.Session.hand_out.Goals as goal

-- what holds whatever became of a call holds where it went well
on_ok : {T E : Type 0} (r : Result T E) (P : Type 0) → P → OnOk r P
on_ok (Ok x) P p = p
on_ok (Err e) P p = tt

pub leaves-requires : goal.leaves-requires
leaves-requires c =
    let o = c.self.inside.outstanding.outbox.what in
    let t = unless_full c.args.flowing (full_in c.self.inside.confirms.what) in
    let none = ap (λ (w : World). is_retried w.returned) c.self.view_is ∙ c.requires in
    let told = subst (λ (r : Result (Option Left) NoMemory). IfOk r (λ left. left ≡ popped t o)) c.in-Ok.is c.pop_unless-given.ensures.told in
    can_register _ o.lists.rest o.lists.methods o.lists.publishes c.self.inside.confirms.what.publish_states.cells c.in-Some.left
    (sym (popped_anew t o none) ∙ sym told ∙ c.in-Some.is) c.self.invariant.tied.queued

pub invariant_of-self : goal.invariant_of-self
invariant_of-self c =
    let o = c.self.inside.outstanding.outbox.what in
    let t = unless_full c.args.flowing (full_in c.self.inside.confirms.what) in
    let none = ap (λ (w : World). is_retried w.returned) c.self.view_is ∙ c.requires in
    let first = subst (λ (r : Result (Option Left) NoMemory). IfOk r (λ left. left ≡ popped t o)) c.in-Ok.is c.pop_unless-given.ensures.told in
    let told = sym c.in-Some.is ∙ first ∙ popped_anew t o none in
    let left = subst (λ (r : Result (Option Left) NoMemory). OnOk r (c.pop_unless-given.new.self.what ≡ after_pop t o)) c.in-Ok.is c.pop_unless-given.ensures.ok in
    kept_by _ _ _ _ _ _ _ _ c.leaves.ensures.link c.leaves.ensures.phases
    (ap (λ (x : Outgoing). x.what) c.leaves.ensures.outbox ∙ left ∙ popped_left t o none)
    (ap (λ (p : ConfirmState). p.publish_states) (c.leaves.ensures.confirms ∙ ap (λ (h : Option Left). fold after_mark c.self.inside.confirms.what (left_marks h)) told))
    (tied_handed o.frame_max _ o.lists.rest o.lists.methods o.lists.publishes _ _ c.self.inside.confirms.what c.in-Some.left c.self.invariant.tied)
    c.self.invariant.unpoisoned

pub invariant_of-self-in-Ok : goal.invariant_of-self-in-Ok
invariant_of-self-in-Ok c =
    let o = c.self.inside.outstanding.outbox.what in
    let t = unless_full c.args.flowing (full_in c.self.inside.confirms.what) in
    let none = ap (λ (w : World). is_retried w.returned) c.self.view_is ∙ c.requires in
    let first = subst (λ (r : Result (Option Left) NoMemory). IfOk r (λ left. left ≡ popped t o)) c.in-Ok.is c.pop_unless-given.ensures.told in
    let told = sym c.in_default-handed.is ∙ first ∙ popped_anew t o none in
    let left = subst (λ (r : Result (Option Left) NoMemory). OnOk r (c.pop_unless-given.new.self.what ≡ after_pop t o)) c.in-Ok.is c.pop_unless-given.ensures.ok in
    kept_by _ _ _ _ _ _ _ _ refl refl
    (left ∙ popped_left t o none)
    (ap (λ (h : Option Left). (fold after_mark c.self.inside.confirms.what (left_marks h)).publish_states) told)
    (tied_leaves o.frame_max t o.lists.rest o.lists.methods o.lists.publishes _ _ c.self.inside.confirms.what c.self.invariant.tied)
    c.self.invariant.unpoisoned

pub returns-in-Some-clause-told : goal.returns-in-Some-clause-told
returns-in-Some-clause-told c =
    let o = c.self.inside.outstanding.outbox.what in
    let t = unless_full c.args.flowing (full_in c.self.inside.confirms.what) in
    let none = ap (λ (w : World). is_retried w.returned) c.self.view_is ∙ c.requires in
    let first = subst (λ (r : Result (Option Left) NoMemory). IfOk r (λ left. left ≡ popped t o)) c.in-Ok.is c.pop_unless-given.ensures.told in
    subst (λ (r : Result (Option Left) NoMemory). IfOk r (λ left. left ≡ handed_out (unless_full c.args.flowing (full_in c.args.self.now.confirm_state)) c.args.self.now.wire)) (sym c.in-Ok.is)
    (first ∙ popped_anew t o none ∙ ap (λ (w : World). handed_out (unless_full c.args.flowing (full_in w.confirm_state)) w.wire) c.self.view_is)

pub returns-in-Some-clause-ok : goal.returns-in-Some-clause-ok
returns-in-Some-clause-ok c =
    let o = c.self.inside.outstanding.outbox.what in
    let t = unless_full c.args.flowing (full_in c.self.inside.confirms.what) in
    let none = ap (λ (w : World). is_retried w.returned) c.self.view_is ∙ c.requires in
    let first = subst (λ (r : Result (Option Left) NoMemory). IfOk r (λ left. left ≡ popped t o)) c.in-Ok.is c.pop_unless-given.ensures.told in
    let left = subst (λ (r : Result (Option Left) NoMemory). OnOk r (c.pop_unless-given.new.self.what ≡ after_pop t o)) c.in-Ok.is c.pop_unless-given.ensures.ok in
    let is = seen_is _ _ _ _ c.leaves.new.outstanding.outbox.what _ _ _ _ _ _ _ _ _ _ _ refl refl refl (ap (λ (r : OpenRequests). r.what) c.leaves.ensures.replies) refl refl refl refl
    ∙ handing_seen c.self.inside.link c.self.inside.phases.entries o c.self.inside.outstanding.replies.what c.self.inside.contents (what c.self.inside.deliveries) c.self.inside.outstanding.tickets.slots c.self.inside.confirms.what t c.in-Some.left _ _ _ _ _
    (sym (popped_anew t o none) ∙ sym first ∙ c.in-Some.is) c.leaves.ensures.link c.leaves.ensures.phases
    (ap (λ (x : Outgoing). x.what) c.leaves.ensures.outbox ∙ left ∙ popped_left t o none) c.leaves.ensures.slots c.leaves.ensures.confirms
    ∙ ap (λ (w : World). handing (unless_full c.args.flowing (full_in w.confirm_state)) w) c.self.view_is in
    on_ok c.pop_unless-given.result _ is
