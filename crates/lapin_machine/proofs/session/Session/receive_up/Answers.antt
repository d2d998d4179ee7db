use Rattle.std.proofs.Common.{◌∙◌, Bool, cond, refl, sym, ap}
use Rattle.lapin_rules.specs.Receiving.{when}
use Rattle.lapin_rules.specs.Unexpected.{refused}
use Rattle.lapin_rules.specs.Settlement.{settlement_record}
use Rattle.lapin_rules.specs.Wire.{receives_on}
use Rattle.lapin_rules.specs.ChannelClose.{receives_close, receives_close_ok}
use Rattle.lapin_machine.specs.World.{readings_of}
use Rattle.lapin_machine.proofs.Refusals.{refused_up, never_told}
use Rattle.lapin_machine.proofs.session.Session.receive_up.Goals as goal

pub returns-else-receives_on-clause-ok : goal.returns-else-receives_on-clause-ok
returns-else-receives_on-clause-ok c =
    let w = c.args.self.now in
    let state = ap receives_on c.channel_state.ensures in
    let told = ap (λ (b : Bool). cond b (settlement_record (readings_of w.confirm_state w.slots) c.in-Settlement.channel c.in-Settlement.settlement) (refused c.args.class c.args.number)) (sym (c.if-receives_on.ensures ∙ state)) in
    refused_up c.refuse.result c.refuse.new.self c.args.self.now (refused c.args.class c.args.number) c.args.incoming _ c.in-Settlement.is told c.refuse.ensures.ok

pub returns-else-receives_close-clause-ok : goal.returns-else-receives_close-clause-ok
returns-else-receives_close-clause-ok c =
    let state = ap receives_close c.channel_state-in-ChannelClose.ensures in
    let told = ap (λ (b : Bool). when b (refused c.args.class c.args.number)) (sym (c.if-receives_close.ensures ∙ state)) in
    refused_up c.refuse-else-receives_close.result c.refuse-else-receives_close.new.self c.args.self.now (refused c.args.class c.args.number) c.args.incoming _ c.in-ChannelClose.is told c.refuse-else-receives_close.ensures.ok

pub returns-else-receives_close_ok-clause-ok : goal.returns-else-receives_close_ok-clause-ok
returns-else-receives_close_ok-clause-ok c =
    let state = ap receives_close_ok c.channel_state-in-ChannelCloseOk.ensures in
    let told = ap (λ (b : Bool). when b (refused c.args.class c.args.number)) (sym (c.if-receives_close_ok.ensures ∙ state)) in
    refused_up c.refuse-else-receives_close_ok.result c.refuse-else-receives_close_ok.new.self c.args.self.now (refused c.args.class c.args.number) c.args.incoming _ c.in-ChannelCloseOk.is told c.refuse-else-receives_close_ok.ensures.ok

pub returns-in-ConnectionCloseOk-clause-ok : goal.returns-in-ConnectionCloseOk-clause-ok
returns-in-ConnectionCloseOk-clause-ok c =
    refused_up c.refuse-in-ConnectionCloseOk.result c.refuse-in-ConnectionCloseOk.new.self c.args.self.now (refused c.args.class c.args.number) c.args.incoming c.args.incoming refl (never_told c.args.self.now (refused c.args.class c.args.number) c.args.incoming c.in-ConnectionCloseOk.is) c.refuse-in-ConnectionCloseOk.ensures.ok

pub returns-else-receives_on-2-clause-ok : goal.returns-else-receives_on-2-clause-ok
returns-else-receives_on-2-clause-ok c =
    let state = ap receives_on c.channel_state-in-Flow.ensures in
    let told = ap (λ (b : Bool). when b (refused c.args.class c.args.number)) (sym (c.if-receives_on-2.ensures ∙ state)) in
    refused_up c.refuse-else-receives_on-2.result c.refuse-else-receives_on-2.new.self c.args.self.now (refused c.args.class c.args.number) c.args.incoming _ c.in-Flow.is told c.refuse-else-receives_on-2.ensures.ok
