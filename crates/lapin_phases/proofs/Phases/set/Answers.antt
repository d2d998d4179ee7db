use Rattle.std.proofs.Common.{◌≡◌, ◌∙◌, sym, ap}
use Rattle.lapin_tables.specs.ByChannel.{Table, at_channel}
use Rattle.lapin_rules.specs.declared.phases.ChannelPhase.{ChannelPhase}
use Rattle.lapin_rules.specs.Phases.{is_paused, phase_in}
use Rattle.lapin_phases.proofs.Counts.{was-some, bounded, counted}
use Rattle.lapin_phases.proofs.Phases.set.Goals as goal

pub recounted-self-inside-requires-clause-some : goal.recounted-self-inside-requires-clause-some
recounted-self-inside-requires-clause-some c =
    let was : c.is_paused-was.result ≡ is_paused (phase_in (at_channel c.args.channel c.self.inside.table.entries)) = c.is_paused-was.ensures ∙ ap is_paused c.get.ensures ∙ sym (ap (λ (t : Table ChannelPhase). is_paused (phase_in (at_channel c.args.channel t.entries))) c.self.view_is) in
    was-some c.args.channel c.args.phase c.self.inside.table.entries c.self.inside.paused c.is_paused-was.result c.self.invariant was

pub recounted-self-inside-requires-clause-bound : goal.recounted-self-inside-requires-clause-bound
recounted-self-inside-requires-clause-bound c =
    let was : c.is_paused-was.result ≡ is_paused (phase_in (at_channel c.args.channel c.self.inside.table.entries)) = c.is_paused-was.ensures ∙ ap is_paused c.get.ensures ∙ sym (ap (λ (t : Table ChannelPhase). is_paused (phase_in (at_channel c.args.channel t.entries))) c.self.view_is) in
    bounded c.args.channel c.args.phase c.self.inside.table.entries c.entries-held.result.now c.self.inside.paused c.is_paused-was.result c.is_paused.result c.self.invariant was c.is_paused.ensures (c.entries-held.ensures ∙ c.put.ensures)

pub invariant_of-self : goal.invariant_of-self
invariant_of-self c =
    let was : c.is_paused-was.result ≡ is_paused (phase_in (at_channel c.args.channel c.self.inside.table.entries)) = c.is_paused-was.ensures ∙ ap is_paused c.get.ensures ∙ sym (ap (λ (t : Table ChannelPhase). is_paused (phase_in (at_channel c.args.channel t.entries))) c.self.view_is) in
    counted c.args.channel c.args.phase c.self.inside.table.entries c.put.new.phases.entries c.self.inside.paused c.recounted-self-inside.result c.is_paused-was.result c.is_paused.result c.self.invariant was c.is_paused.ensures c.put.ensures c.recounted-self-inside.ensures
