use Rattle.std.proofs.Common.{sym, ◌∙◌, ap}
use Rattle.lapin_outbox.specs.Order.{InOrder}
use Rattle.lapin_outbox.proofs.Chains.{first-seen}
use Rattle.lapin_outbox.proofs.order.Order.first.Goals as goal

pub returns-in_err-get : goal.returns-in_err-get
returns-in_err-get c =
    let at = sym (c.self.invariant.0 c.args.key) ∙ sym c.get.ensures ∙ c.in_err-get.was in
    c.from_residual.ensures ∙ sym (first-seen _ _ _ _ (ap (λ (o : InOrder). o.keys) c.self.view_is) at)

pub returns : goal.returns
returns c =
    let at = sym (c.self.invariant.0 c.args.key) ∙ sym c.get.ensures ∙ c.in_ok-get.was in
    sym (first-seen _ _ _ _ (ap (λ (o : InOrder). o.keys) c.self.view_is) at)
