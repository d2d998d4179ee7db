use Rattle.std.proofs.Common.{◌∙◌, ap}
use Rattle.lapin_rules.specs.Drops.{without_channel}
use Rattle.lapin_outbox.specs.Outgoing.{OutboxState, with_lists}
use Rattle.lapin_outbox.specs.Returned.{is_returned_on}
use Rattle.lapin_outstanding.proofs.Dropped.{let-go}
use Rattle.lapin_outstanding.proofs.outstanding.Outstanding.drop_entries.Goals as goal

pub drop_waiting_on-requires : goal.drop_waiting_on-requires
drop_waiting_on-requires c = ap (λ (o : OutboxState). is_returned_on c.args.channel o.returned) c.let_go.ensures.what ∙ let-go c.args.channel c.args.self.now.outbox.what.returned

pub returns-clause-outbox : goal.returns-clause-outbox
returns-clause-outbox c = c.drop_waiting_on.ensures.outbox ∙ ap (λ (o : OutboxState). with_lists (without_channel c.args.channel o.lists) o) c.let_go.ensures.what
