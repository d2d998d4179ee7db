use Rattle.std.proofs.Common.{Bool, refl, sym, ap}
use Rattle.lapin_rules.specs.declared.broker_frames.Incoming.TheVariants as incoming
use Rattle.lapin_rules.specs.Receiving.{when}
use Rattle.lapin_rules.specs.Unexpected.{refused}
use Rattle.lapin_machine.proofs.Refusals.{refused_up}
use Rattle.lapin_machine.proofs.session.Session.receive_of_consumer.Goals as goal

pub returns-else-receives_consumer-clause-ok : goal.returns-else-receives_consumer-clause-ok
returns-else-receives_consumer-clause-ok c =
    let told = ap (λ (b : Bool). when b (refused c.args.class c.args.number)) (sym c.if-receives_consumer.ensures) in
    refused_up c.refuse.result c.refuse.new.self c.args.self.now (refused c.args.class c.args.number) (incoming.Consumer c.args.channel c.args.part) _ refl told c.refuse.ensures.ok
