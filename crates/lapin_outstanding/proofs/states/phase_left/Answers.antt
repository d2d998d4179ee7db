use Rattle.std.proofs.Common.{◌∙◌, sym, ap}
use Rattle.lapin_tables.specs.ByChannel.{at_channel}
use Rattle.lapin_rules.specs.Phases.{channel_state}
use Rattle.lapin_rules.specs.ChannelClose.{close_sent}
use Rattle.lapin_rules.specs.Wire.{is_closing}
use Rattle.lapin_rules.specs.declared.phases.ChannelPhase.{ChannelPhase}
use Rattle.lapin_outstanding.proofs.Channels.{closing_there, closing_left, others_left}
use Rattle.lapin_outstanding.proofs.states.phase_left.Goals as goal

pub go-requires : goal.go-requires
go-requires c = closing_there (at_channel c.args.channel c.args.phases.now.entries) (ap (λ (p : ChannelPhase). is_closing (channel_state p)) (sym c.get-phase.ensures) ∙ sym c.is_closing.ensures ∙ c.if-is_closing.true)

pub returns-then-is_closing : goal.returns-then-is_closing
returns-then-is_closing c = c.go.ensures ∙ closing_left c.args.channel c.get-phase.result _ c.args.phases.now.entries c.get-phase.ensures (sym c.is_closing.ensures ∙ c.if-is_closing.true) (ap close_sent (sym c.get-phase.ensures))

pub returns-else-is_closing : goal.returns-else-is_closing
returns-else-is_closing c = others_left c.args.channel c.get-phase.result c.args.phases.now.entries c.get-phase.ensures (sym c.is_closing.ensures ∙ c.if-is_closing.false)
