use Rattle.std.proofs.Common.{sym, ◌∙◌, ap}
use Rattle.lapin_tables.specs.Numbered.{first_kept}
use Rattle.lapin_outbox.specs.Order.{InOrder}
use Rattle.lapin_outbox.proofs.Chains.{first-kept}
use Rattle.lapin_outbox.proofs.order.Order.first_number.Goals as goal

pub returns : goal.returns
returns c = c.first_number.ensures ∙ sym (first-kept c.self.inside.links.slots) ∙ ap (λ (o : InOrder). first_kept o.keys) c.self.view_is
