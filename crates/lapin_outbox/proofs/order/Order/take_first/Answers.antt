-- The first number of a key is taken: the one that follows it, if any, is first now.
use Rattle.std.proofs.Common.{◌+◌, ◌≤◌, length, sym, ◌∙◌, ap, arith}
use Rattle.lapin_outbox.specs.Ends.{at as ends_at}
use Rattle.lapin_outbox.specs.Order.{InOrder, without_number}
use Rattle.lapin_outbox.proofs.Chains.{first-seen, never-none, taken, taken-fits, keys-taken, advanced, advanced-more}
use Rattle.lapin_outbox.proofs.order.Order.take_first.Goals as goal

pub returns-in_err-first-clause-number : goal.returns-in_err-first-clause-number
returns-in_err-first-clause-number c =
    let at = sym (c.self.invariant.0 c.args.key) ∙ sym c.get.ensures ∙ c.in_err-first.was in
    c.from_residual.ensures ∙ sym (first-seen _ _ _ _ (ap (λ (o : InOrder). o.keys) c.self.view_is) at)

pub returns-in_err-first-clause-keys : goal.returns-in_err-first-clause-keys
returns-in_err-first-clause-keys c =
    let at = sym (c.self.invariant.0 c.args.key) ∙ sym c.get.ensures ∙ c.in_err-first.was in
    sym (ap (λ o. without_number o c.args.self.now.keys) (first-seen _ _ _ _ (ap (λ (o : InOrder). o.keys) c.self.view_is) at))

pub returns-in_err-next-clause-number : goal.returns-in_err-next-clause-number
returns-in_err-next-clause-number c =
    let at = sym (c.self.invariant.0 c.args.key) ∙ sym c.get.ensures ∙ c.in_ok-first.was in
    absurd (never-none _ _ _ at (sym c.take.ensures.value ∙ c.in_err-next.was))

pub returns-in_err-next-clause-keys : goal.returns-in_err-next-clause-keys
returns-in_err-next-clause-keys c =
    let at = sym (c.self.invariant.0 c.args.key) ∙ sym c.get.ensures ∙ c.in_ok-first.was in
    absurd (never-none _ _ _ at (sym c.take.ensures.value ∙ c.in_err-next.was))

pub invariant_of-self-then-next-eq0 : goal.invariant_of-self-then-next-eq0
invariant_of-self-then-next-eq0 c =
    let at = sym (c.self.invariant.0 c.args.key) ∙ sym c.get.ensures ∙ c.in_ok-first.was in
    let there = sym c.take.ensures.value ∙ c.in_ok-next.was in
    taken _ _ _ _ _ c.self.invariant.1 at there c.take.ensures.slots (λ d. ends_at d c.self.inside.ends) (λ d. ends_at d c.remove.new.self) _ c.self.invariant.0 c.remove.ensures.ends (ap (λ n. advanced n c.in_ok-first.field-0) c.if-next-eq0.true)

pub overflow_add-first : goal.overflow_add-first
overflow_add-first c =
    let at = sym (c.self.invariant.0 c.args.key) ∙ sym c.get.ensures ∙ c.in_ok-first.was in
    let there = sym c.take.ensures.value ∙ c.in_ok-next.was in
    let fits : c.in_ok-first.field-0.first + c.in_ok-next.field-0.next ≤ length c.self.inside.links.slots = taken-fits _ _ _ _ _ c.self.invariant.1 at there c.take.ensures.slots _ (advanced-more _ _ c.if-next-eq0.false) in
    omega arith

pub invariant_of-self-else-next-eq0 : goal.invariant_of-self-else-next-eq0
invariant_of-self-else-next-eq0 c =
    let at = sym (c.self.invariant.0 c.args.key) ∙ sym c.get.ensures ∙ c.in_ok-first.was in
    let there = sym c.take.ensures.value ∙ c.in_ok-next.was in
    taken _ _ _ _ _ c.self.invariant.1 at there c.take.ensures.slots (λ d. ends_at d c.self.inside.ends) (λ d. ends_at d c.set.new.self) _ c.self.invariant.0 c.set.ensures.ends (advanced-more _ _ c.if-next-eq0.false)

pub returns-then-next-eq0-clause-number : goal.returns-then-next-eq0-clause-number
returns-then-next-eq0-clause-number c =
    let at = sym (c.self.invariant.0 c.args.key) ∙ sym c.get.ensures ∙ c.in_ok-first.was in
    sym (first-seen _ _ _ _ (ap (λ (o : InOrder). o.keys) c.self.view_is) at)

pub returns-then-next-eq0-clause-keys : goal.returns-then-next-eq0-clause-keys
returns-then-next-eq0-clause-keys c =
    let at = sym (c.self.invariant.0 c.args.key) ∙ sym c.get.ensures ∙ c.in_ok-first.was in
    let there = sym c.take.ensures.value ∙ c.in_ok-next.was in
    keys-taken _ _ _ _ _ c.self.invariant.1 at there c.take.ensures.slots _ (ap (λ (o : InOrder). o.keys) c.self.view_is)

pub returns-else-next-eq0-clause-number : goal.returns-else-next-eq0-clause-number
returns-else-next-eq0-clause-number c =
    let at = sym (c.self.invariant.0 c.args.key) ∙ sym c.get.ensures ∙ c.in_ok-first.was in
    sym (first-seen _ _ _ _ (ap (λ (o : InOrder). o.keys) c.self.view_is) at)

pub returns-else-next-eq0-clause-keys : goal.returns-else-next-eq0-clause-keys
returns-else-next-eq0-clause-keys c =
    let at = sym (c.self.invariant.0 c.args.key) ∙ sym c.get.ensures ∙ c.in_ok-first.was in
    let there = sym c.take.ensures.value ∙ c.in_ok-next.was in
    keys-taken _ _ _ _ _ c.self.invariant.1 at there c.take.ensures.slots _ (ap (λ (o : InOrder). o.keys) c.self.view_is)
