use Rattle.std.proofs.Common.{◌∙◌, nat_lt, ap}
use Rattle.lapin_tables.specs.ByChannel.{Table}
use Rattle.lapin_rules.specs.declared.phases.ChannelPhase.{ChannelPhase}
use Rattle.lapin_rules.specs.Flow.{is_paused_on}
use Rattle.std.specs.List.{list_any}
use Rattle.lapin_phases.proofs.Counts.{any-paused}
use Rattle.lapin_phases.proofs.Phases.is_any_paused.Goals as goal

pub returns : goal.returns
returns c = ap (nat_lt 0) c.self.invariant ∙ any-paused c.self.inside.table.entries ∙ ap (λ (t : Table ChannelPhase). list_any is_paused_on t.entries) c.self.view_is
