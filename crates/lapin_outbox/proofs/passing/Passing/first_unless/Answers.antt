use Rattle.std.proofs.Common.{sym, ◌∙◌, ap}
use Rattle.lapin_outbox.specs.Order.{InOrder}
use Rattle.lapin_outbox.specs.Passing.{not_full, first_where}
use Rattle.lapin_outbox.proofs.PassedOver.{where-first, where-empty}
use Rattle.lapin_outbox.proofs.passing.Passing.first_unless.Goals as goal

pub returns-in_default-clause-number : goal.returns-in_default-clause-number
returns-in_default-clause-number g c =
    let t = not_full (g.F.FullChannels.full c.args.full.now) in
    where-empty t c.self.inside.order.keys (sym c.in_default.ensures) ∙ ap (λ (o : InOrder). first_where t o.keys) c.self.view_is

pub returns-then-passes-clause-number : goal.returns-then-passes-clause-number
returns-then-passes-clause-number g c =
    let t = not_full (g.F.FullChannels.full c.args.full.now) in
    where-first t _ c.self.inside.order.keys (sym c.in-Some.ensures) (sym c.passes.ensures ∙ c.if-passes.true) ∙ ap (λ (o : InOrder). first_where t o.keys) c.self.view_is
