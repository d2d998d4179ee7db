-- The number of a key's first entry tells which entry is taken, and what stays.
use Rattle.std.proofs.Common.{sym, ◌∙◌, ap}
use Rattle.std.specs.List.{find}
use Rattle.lapin_rules.specs.Words.{without_first}
use Rattle.lapin_rules.specs.Drops.{is_on}
use Rattle.lapin_outbox.specs.Order.{first_on}
use Rattle.lapin_outbox.specs.ChannelQueue.{InQueue, kept}
use Rattle.lapin_outbox.proofs.ChannelQueues.{found-of, left-of, none-of, keys-left}
use Rattle.lapin_outbox.proofs.channel_queue.ChannelQueue.pop_of.Goals as goal

pub returns-in_err-number-clause-taken : goal.returns-in_err-number-clause-taken
returns-in_err-number-clause-taken g c =
    let none = ap (first_on c.args.key) c.self.invariant ∙ sym c.take_first.ensures.number ∙ c.in_err-number.was in
    c.from_residual.ensures ∙ sym (none-of g.T.Keyed.key_of c.args.key c.self.inside.entries.slots none).0 ∙ ap (find (is_on g.T.Keyed.key_of c.args.key)) (ap (λ (l : InQueue g.row.T.Denot). l.entries) c.self.view_is)

pub returns-in_err-number-clause-others : goal.returns-in_err-number-clause-others
returns-in_err-number-clause-others g c =
    let none = ap (first_on c.args.key) c.self.invariant ∙ sym c.take_first.ensures.number ∙ c.in_err-number.was in
    sym (none-of g.T.Keyed.key_of c.args.key c.self.inside.entries.slots none).1 ∙ ap (without_first (is_on g.T.Keyed.key_of c.args.key)) (ap (λ (l : InQueue g.row.T.Denot). l.entries) c.self.view_is)

pub invariant_of-self-2 : goal.invariant_of-self-2
invariant_of-self-2 g c =
    keys-left g.T.Keyed.key_of _ c.self.inside.entries.slots _ c.self.inside.order.keys _ _ c.self.invariant c.take.ensures.slots (sym c.take_first.ensures.number ∙ c.in_ok-number.was) c.take_first.ensures.keys

pub returns-clause-taken : goal.returns-clause-taken
returns-clause-taken g c =
    let number = ap (first_on c.args.key) c.self.invariant ∙ sym c.take_first.ensures.number ∙ c.in_ok-number.was in
    c.take.ensures.value ∙ found-of g.T.Keyed.key_of c.args.key _ c.self.inside.entries.slots number ∙ ap (find (is_on g.T.Keyed.key_of c.args.key)) (ap (λ (l : InQueue g.row.T.Denot). l.entries) c.self.view_is)

pub returns-clause-others : goal.returns-clause-others
returns-clause-others g c =
    let number = ap (first_on c.args.key) c.self.invariant ∙ sym c.take_first.ensures.number ∙ c.in_ok-number.was in
    ap kept c.take.ensures.slots ∙ left-of g.T.Keyed.key_of c.args.key _ c.self.inside.entries.slots number ∙ ap (without_first (is_on g.T.Keyed.key_of c.args.key)) (ap (λ (l : InQueue g.row.T.Denot). l.entries) c.self.view_is)
