use Rattle.std.proofs.Common.{◌∙◌, refl, sym, ap, not, None}
use Rattle.lapin_types.specs.Types.method
use Rattle.lapin_types.specs.Types.channel
use Rattle.lapin_rules.specs.Frames.{MethodEntry}
use Rattle.lapin_rules.specs.Wire.{is_open, state_of}
use Rattle.lapin_machine.specs.World.{World}
use Rattle.lapin_machine.proofs.Keeping.{kept_by}
use Rattle.lapin_machine.proofs.Openings.{tied_paused, open_opening}
use Rattle.lapin_machine.proofs.Seen.{with_entry}
use Rattle.lapin_machine.proofs.session.Session.receive_flow.Goals as goal

pub invariant_of-self-2 : goal.invariant_of-self-2
invariant_of-self-2 c =
    let open_ = ap (λ (w : World). is_open (state_of c.args.channel w.wire)) c.self.view_is ∙ sym (ap is_open c.channel_state.ensures) ∙ sym c.is_open.ensures ∙ c.if-not-is_open.false in
    let here = open_opening c.self.inside.link c.args.channel c.self.inside.phases.entries open_ in
    let entry : MethodEntry = record { channel = c.args.channel; method = method.Channel (channel.FlowOk c.args.active); ticket = None } in
    kept_by _ _ _ _ _ _ _ _ refl c.go.ensures (c.queue_own.ensures.outbox ∙ ap (with_entry entry) c.reserve.ensures.same) refl
    (tied_paused c.self.inside.link c.args.channel (not c.args.active) c.self.inside.phases.entries _ _ here c.self.invariant.tied)
    c.self.invariant.unpoisoned
