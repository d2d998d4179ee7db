use Rattle.std.proofs.Common.{◌≡◌, ◌∙◌, ℕ, Bool, true, refl, sym, ap, subst}
use Rattle.lapin_types.specs.declared.record.Record.{Record}
use Rattle.lapin_types.specs.declared.record.Record.TheVariants.{Received}
use Rattle.lapin_rules.specs.declared.marks.Settlement.{Settlement}
use Rattle.lapin_rules.specs.declared.broker_frames.Incoming.TheVariants.{Settlement as SettlementFrame}
use Rattle.lapin_confirm.specs.PublishStates.{multiple_of, selected_on}
use Rattle.lapin_machine.specs.World.{World, receiving, settlement_told}
use Rattle.lapin_machine.specs.Told.{WasHeard}
use Rattle.lapin_machine.proofs.session.Session.receive_settlement.Goals as goal

-- a settlement of many tags is received
many_told : (c : ℕ) (s : Settlement) (w : World) → selected_on c w.confirm_state.publish_states ≡ true → s.multiple ≡ true → settlement_told c s w ≡ Received
many_told c s w selected many = rw (selected, many) refl

incoming_many : (new w : World) (c : ℕ) (s : Settlement) → selected_on c w.confirm_state.publish_states ≡ true → s.multiple ≡ true → new ≡ receiving (SettlementFrame c (multiple_of s.kind s.tag)) Received w → new ≡ receiving (SettlementFrame c s) (settlement_told c s w) w
incoming_many new w c s selected many e =
    let P : Bool → Type 0 = λ m. new ≡ receiving (SettlementFrame c (record { kind = s.kind; tag = s.tag; multiple = m })) Received w in
    let R : Record → Type 0 = λ r. new ≡ receiving (SettlementFrame c s) r w in
    subst R (sym (many_told c s w selected many)) (subst P (sym many) e)

pub returns-then-settlement-clause-ok : goal.returns-then-settlement-clause-ok
returns-then-settlement-clause-ok c =
    let seen = λ (w : World). selected_on c.args.channel w.confirm_state.publish_states in
    incoming_many c.settle_many.new.self c.args.self.now c.args.channel c.args.settlement (sym (ap seen c.self.view_is) ∙ sym c.if-not-selected.ensures) c.if-settlement.true c.settle_many.ensures

pub returns-clause-ok : goal.returns-clause-ok
returns-clause-ok c =
    let P : Bool → Type 0 = λ m.
    let s : Settlement = record { kind = c.args.settlement.kind; tag = c.args.settlement.tag; multiple = m } in
    WasHeard c.settle_single.result (c.settle_single.new.self ≡ receiving (SettlementFrame c.args.channel s) (settlement_told c.args.channel s c.args.self.now) c.args.self.now) (c.settle_single.new.self ≡ c.args.self.now) in
    subst P (sym c.if-settlement.false) c.settle_single.ensures.ok
