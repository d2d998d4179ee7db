use Rattle.std.proofs.Common.{◌++◌, ◌∷◌, [], ◌∙◌, ap}
use Rattle.lapin_outbox.specs.ChannelQueue.{InQueue, kept}
use Rattle.lapin_outbox.proofs.ChannelQueues.{kept-push}
use Rattle.lapin_outbox.proofs.channel_queue.ChannelQueue.push_reserved.Goals as goal

pub returns-clause-entries : goal.returns-clause-entries
returns-clause-entries g c =
    ap kept c.push_reserved-2.ensures.slots
    ∙ kept-push c.args.entry c.self.inside.entries.slots
    ∙ ap (λ xs. xs ++ c.args.entry ∷ []) (ap (λ (l : InQueue g.row.T.Denot). l.entries) c.self.view_is)
