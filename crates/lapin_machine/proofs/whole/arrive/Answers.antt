use Rattle.std.proofs.Common.{refl, sym, ◌∙◌, ap, subst}
use Rattle.std.specs.Prelude.{◌≡◌, ℕ, Option, Some}
use Rattle.std.specs.List.{fold}
use Rattle.lapin_content.specs.declared.start.Start.TheVariants as start
use Rattle.lapin_content.specs.declared.start.Whole.{Whole}
use Rattle.lapin_rules.specs.Content.{delivered_message, start_deliveries}
use Rattle.lapin_delivery.specs.WithRoom.{what}
use Rattle.lapin_delivery.specs.Deliveries.{after_mark}
use Rattle.lapin_machine.proofs.Parts.{delivered_deliveries}
use Rattle.lapin_machine.proofs.whole.arrive.Goals as goal

pub returns-in-Some : goal.returns-in-Some
returns-in-Some c = λ began.
    let w : Whole = record { start = start.Deliver (Some c.in-Some.number) c.args.delivery_tag c.args.exchange c.args.routing_key c.args.redelivered; properties = c.args.properties; payload = c.args.payload } in
    let Holds : Option ℕ → Type 0 = λ k. what c.deliver.new.self ≡ fold after_mark (what c.args.deliveries.now) (start_deliveries c.args.channel (what c.args.deliveries.now) (start.Deliver k c.args.delivery_tag c.args.exchange c.args.routing_key c.args.redelivered) (record { start = began; properties = c.args.properties; payload = c.args.payload })) in
    let made = c.delivered-delivery.ensures w.start
    ∙ ap (λ n. delivered_message c.args.channel n c.args.delivery_tag c.args.exchange c.args.routing_key c.args.redelivered w) c.next_acker-acker.ensures in
    subst Holds (sym c.in-Some.is)
    (delivered_deliveries c.args.channel w c.in-Some.number c.args.delivery_tag c.args.exchange c.args.routing_key c.args.redelivered c.delivered-delivery.result (what c.args.deliveries.now) (what c.deliver.new.self)
    refl (sym c.is_registered.ensures ∙ c.if-is_registered.true) made c.deliver.ensures)
