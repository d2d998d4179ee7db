use Rattle.std.proofs.lemmas.List.{length-map}
use Rattle.std.proofs.Common.{◌≡◌, ◌∙◌, ℕ, Bool, true, false, cond, Result, Ok, Err, length, refl, sym, ap, subst}
use Rattle.lapin_types.specs.declared.record.Record.{Record}
use Rattle.lapin_types.specs.declared.record.Record.TheVariants.{Received, Refused}
use Rattle.lapin_types.specs.Types.{Error}
use Rattle.lapin_types.specs.Types.error
use Rattle.lapin_rules.specs.declared.marks.SettleKind.{SettleKind}
use Rattle.lapin_rules.specs.declared.broker_frames.Incoming.TheVariants.{Settlement as SettlementFrame}
use Rattle.lapin_rules.specs.ConfirmMarks as mark
use Rattle.lapin_confirm.specs.Machine.{after_mark}
use Rattle.lapin_confirm.specs.ConfirmState.{ConfirmState}
use Rattle.lapin_confirm.specs.PublishStates.{single_of, selected_on, last_on, is_pending}
use Rattle.lapin_machine.specs.World.{World, receiving, settlement_told}
use Rattle.lapin_machine.specs.Told.{WasHeard}
use Rattle.lapin_machine.specs.contracts.session.Session as session_view
use Rattle.lapin_machine.proofs.Keeping.{tied_settled, kept_by}
use Rattle.lapin_machine.proofs.Seen.{base_is, world_is}
use Rattle.lapin_machine.proofs.session.Session.settle_single.Goals as goal

pub invariant_of-self : goal.invariant_of-self
invariant_of-self c = kept_by _ _ _ _ _ _ _ _ refl refl refl (ap (λ (p : ConfirmState). p.publish_states) c.in-Ok.ensures.ok) (tied_settled c.self.inside.link c.args.channel (single_of c.args.kind c.args.tag) _ _ _ c.self.invariant.tied) c.self.invariant.unpoisoned

-- the world with other confirms
abbrev with_confirm_state : World → ConfirmState → World
with_confirm_state w p = record {
  wire = record {
    frame_max = w.wire.frame_max;
    link = w.wire.link;
    phases = w.wire.phases;
    rest = w.wire.rest;
    methods = w.wire.methods;
    publishes = w.wire.publishes;
    requests = w.wire.requests;
    contents = w.wire.contents;
    tickets = w.wire.tickets;
    published = length p.publish_states.cells;
    deliveries = w.wire.deliveries;
  };
  confirm_state = p;
  slots = w.slots;
  returned = w.returned;
}

-- two errors of one answer are the same
error_is : (r : Result (Unit {0}) Error) (x y : Error) → r ≡ Err x → r ≡ Err y → x ≡ y
error_is r x y a b = cc

-- an answer that is an error is no Ok
not_ok : (r : Result (Unit {0}) Error) (x : Error) (P : Type 0) → r ≡ Err x → r ≡ Ok tt → P
not_ok r x P a b = cc

-- a tag that is not pending is refused with the last tag taken
refused_told : (c tag : ℕ) (kind : SettleKind) (w : World) → selected_on c w.confirm_state.publish_states ≡ true → is_pending c tag w.confirm_state.publish_states ≡ false → settlement_told c (single_of kind tag) w ≡ Refused (error.PreconditionFailed tag (last_on c w.confirm_state.publish_states))
refused_told c tag kind w selected not = rw (selected, not) refl

incoming_refused : (r : Result (Unit {0}) Error) (new v w : World) (c tag : ℕ) (kind : SettleKind) (e : Error)
    → v ≡ w
    → selected_on c w.confirm_state.publish_states ≡ true
    → r ≡ Err e
    → r ≡ cond (is_pending c tag w.confirm_state.publish_states) (Ok tt) (Err (error.PreconditionFailed tag (last_on c w.confirm_state.publish_states)))
    → ((tag current : ℕ) → new ≡ receiving (SettlementFrame c (single_of kind tag)) (Refused (error.PreconditionFailed tag current)) v)
    → WasHeard (Err e) (new ≡ receiving (SettlementFrame c (single_of kind tag)) (settlement_told c (single_of kind tag) w) w) (new ≡ w)
incoming_refused r new v w c tag kind e same selected is answer closed =
    elim (is_pending c tag w.confirm_state.publish_states) as (λ p. is_pending c tag w.confirm_state.publish_states ≡ p → r ≡ cond p (Ok tt) (Err (error.PreconditionFailed tag (last_on c w.confirm_state.publish_states))) → WasHeard (Err e) (new ≡ receiving (SettlementFrame c (single_of kind tag)) (settlement_told c (single_of kind tag) w) w) (new ≡ w)) [
      | true ↦ λ pending h. not_ok r e _ is h
      | false ↦ λ not h.
          let W : World → Type 0 = λ x. new ≡ receiving (SettlementFrame c (single_of kind tag)) (Refused (error.PreconditionFailed tag (last_on c w.confirm_state.publish_states))) x in
          let R : Record → Type 0 = λ r. new ≡ receiving (SettlementFrame c (single_of kind tag)) r w in
          let E : Error → Type 0 = λ x. WasHeard (Err x) (new ≡ receiving (SettlementFrame c (single_of kind tag)) (settlement_told c (single_of kind tag) w) w) (new ≡ w) in
          subst E (sym (error_is r e (error.PreconditionFailed tag (last_on c w.confirm_state.publish_states)) is h)) (subst R (sym (refused_told c tag kind w selected not)) (subst W same (closed tag (last_on c w.confirm_state.publish_states))))
    ] refl answer

pub returns-in_ok-close_unless_closing-in-Err-clause-ok :
    goal.returns-in_ok-close_unless_closing-in-Err-clause-ok
returns-in_ok-close_unless_closing-in-Err-clause-ok c =
    let seen = λ (w : World). selected_on c.args.channel w.confirm_state.publish_states in
    let Heard : World → Type 0 = λ w. WasHeard (Err c.in-Err.error) (c.close_unless_closing.new.self ≡ receiving (SettlementFrame c.args.channel (single_of c.args.kind c.args.tag)) (settlement_told c.args.channel (single_of c.args.kind c.args.tag) w) w) (c.close_unless_closing.new.self ≡ w) in
    subst Heard c.self.view_is (incoming_refused c.settle_one.result c.close_unless_closing.new.self _ _ c.args.channel c.args.tag c.args.kind c.in-Err.error (ap (with_confirm_state (session_view.the_view c.self.inside)) c.in-Err.ensures.err) (ap seen c.self.view_is ∙ c.requires) c.in-Err.is c.settle_one.ensures.answer c.in_ok-close_unless_closing-in-Err.ensures.ok)

-- a tag that is settled was pending
was_pending : (r : Result (Unit {0}) Error) (x : Unit {0}) (b : Bool) (e : Error) → r ≡ Ok x → r ≡ cond b (Ok tt) (Err e) → b ≡ true
was_pending r x true e is h = refl
was_pending r x false e is h = cc

-- one that is pending is settled
settled_seen : (c tag : ℕ) (kind : SettleKind) (w : World) → w.wire.published ≡ length w.confirm_state.publish_states.cells → selected_on c w.confirm_state.publish_states ≡ true → is_pending c tag w.confirm_state.publish_states ≡ true
    → with_confirm_state w (after_mark w.confirm_state (mark.Settled c (single_of kind tag))) ≡ receiving (SettlementFrame c (single_of kind tag)) (settlement_told c (single_of kind tag) w) w
settled_seen c tag kind w count selected pending =
    let told : settlement_told c (single_of kind tag) w ≡ Received = rw (selected, pending) refl in
    let new : World = with_confirm_state w (after_mark w.confirm_state (mark.Settled c (single_of kind tag))) in
    let R : Record → Type 0 = λ r. new ≡ receiving (SettlementFrame c (single_of kind tag)) r w in
    subst R (sym told)
    (world_is new (receiving (SettlementFrame c (single_of kind tag)) Received w)
    (base_is _ w.wire refl refl refl refl refl refl refl refl refl (length-map w.confirm_state.publish_states.cells _ ∙ sym count) refl)
    refl
    refl
    refl)

pub returns-in-Ok-clause-ok : goal.returns-in-Ok-clause-ok
returns-in-Ok-clause-ok c =
    let old : World = session_view.the_view c.self.inside in
    let seen = λ (w : World). selected_on c.args.channel w.confirm_state.publish_states in
    ap (with_confirm_state old) c.in-Ok.ensures.ok
    ∙ settled_seen c.args.channel c.args.tag c.args.kind old refl (ap seen c.self.view_is ∙ c.requires) (was_pending c.settle_one.result _ _ _ c.in-Ok.is c.settle_one.ensures.answer)
    ∙ ap (λ (w : World). receiving (SettlementFrame c.args.channel (single_of c.args.kind c.args.tag)) (settlement_told c.args.channel (single_of c.args.kind c.args.tag) w) w) c.self.view_is
