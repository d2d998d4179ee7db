use Rattle.std.proofs.Common.{Option, ℕ, ◌∙◌, ap, not}
use Rattle.std.specs.Prelude.{is_some}
use Rattle.lapin_rules.specs.Frames.{is_empty}
use Rattle.lapin_outbox.specs.ChannelQueue.{InQueue}
use Rattle.lapin_outbox.proofs.ChannelQueues.{none-kept, not-other}
use Rattle.lapin_outbox.proofs.channel_queue.ChannelQueue.is_empty.Goals as goal

pub returns : goal.returns
returns g c = not-other _ _ c.is_none.ensures ∙ ap (λ (o : Option ℕ). not (is_some o)) c.first_number.ensures ∙ none-kept c.self.inside.entries.slots ∙ ap is_empty (ap (λ (l : InQueue g.row.T.Denot). l.entries) c.self.view_is)
