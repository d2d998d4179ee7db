-- A number joins behind the others: its key's last leads to it, or it is its key's first.
use Rattle.std.proofs.Common.{◌≡◌, ◌-◌, ◌≤◌, Some, length, sym, ◌∙◌, ap, subst, arith}
use Rattle.std.specs.Option.{IsSome}
use Rattle.lapin_tables.specs.Numbered.{under, with_under}
use Rattle.lapin_outbox.specs.Ends.{with_last, at as ends_at}
use Rattle.lapin_outbox.specs.Order.{InOrder}
use Rattle.lapin_outbox.proofs.Chains.{none-told, last-told, joined-none, joined-some, keys-joined, last-joined, last-within}
use Rattle.lapin_outbox.proofs.order.Order.push_reserved.Goals as goal

pub invariant_of-self : goal.invariant_of-self
invariant_of-self c =
    let none = none-told _ (sym c.in_default.is ∙ c.join.ensures.told) in
    let at = sym (c.self.invariant.0 c.args.key) ∙ none in
    joined-none _ _ _ _ (λ d. ends_at d c.self.inside.ends) (λ d. ends_at d c.join.new.self) _ c.self.invariant.0 c.self.invariant.1 c.join.ensures.ends c.push_reserved-number.ensures.number at (ap (with_last _) none) c.push_reserved-number.ensures.slots

pub overflow_sub-next : goal.overflow_sub-next
overflow_sub-next c =
    let told = last-told _ _ (sym c.in-Some.is ∙ c.join.ensures.told) in
    let same : told.0.last ≡ c.in-Some.last = told.2 in
    let within : told.0.last ≤ length c.self.inside.links.slots = last-within _ _ _ (sym (c.self.invariant.0 c.args.key) ∙ told.1) in
    omega arith

pub set-requires : goal.set-requires
set-requires c =
    let told = last-told _ _ (sym c.in-Some.is ∙ c.join.ensures.told) in
    let at = sym (c.self.invariant.0 c.args.key) ∙ told.1 in
    subst (λ n. IsSome (under n c.push_reserved-number.new.self.slots)) told.2 (last-joined _ _ _ _ _ at c.push_reserved-number.ensures.slots)

pub invariant_of-self-2 : goal.invariant_of-self-2
invariant_of-self-2 c =
    let told = last-told _ _ (sym c.in-Some.is ∙ c.join.ensures.told) in
    let at = sym (c.self.invariant.0 c.args.key) ∙ told.1 in
    let number = c.push_reserved-number.result in
    let left = c.set.ensures.slots
    ∙ ap (λ n. with_under n (Some (record { key = c.args.key; next = number - n })) c.push_reserved-number.new.self.slots) (sym told.2)
    ∙ ap (with_under told.0.last (Some (record { key = c.args.key; next = number - told.0.last }))) c.push_reserved-number.ensures.slots in
    joined-some _ _ _ _ (λ d. ends_at d c.self.inside.ends) (λ d. ends_at d c.join.new.self) _ c.self.invariant.0 c.self.invariant.1 c.join.ensures.ends c.push_reserved-number.ensures.number _ at (ap (with_last number) told.1) left

pub returns-clause-keys : goal.returns-clause-keys
returns-clause-keys c =
    let told = last-told _ _ (sym c.in-Some.is ∙ c.join.ensures.told) in
    let at = sym (c.self.invariant.0 c.args.key) ∙ told.1 in
    let number = c.push_reserved-number.result in
    let left = c.set.ensures.slots
    ∙ ap (λ n. with_under n (Some (record { key = c.args.key; next = number - n })) c.push_reserved-number.new.self.slots) (sym told.2)
    ∙ ap (with_under told.0.last (Some (record { key = c.args.key; next = number - told.0.last }))) c.push_reserved-number.ensures.slots in
    keys-joined _ _ _ _ _ _ at left (ap (λ (o : InOrder). o.keys) c.self.view_is)
