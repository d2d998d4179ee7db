-- The number of the first entry tells which entry is taken, and what stays.
use Rattle.std.proofs.Common.{List, drop, sym, ◌∙◌, ap, slice_get}
use Rattle.lapin_outbox.specs.ChannelQueue.{InQueue, kept, keys_by}
use Rattle.lapin_outbox.specs.Order.{first_on}
use Rattle.lapin_outbox.proofs.ChannelQueues.{first-entry, first-left, first-key, kept-none, keys-left}
use Rattle.lapin_outbox.proofs.channel_queue.ChannelQueue.pop.Goals as goal

pub returns-in_err-number-clause-taken : goal.returns-in_err-number-clause-taken
returns-in_err-number-clause-taken g c =
    let none = sym (ap (λ (l : InQueue g.row.T.Denot). l.entries) c.self.view_is) ∙ kept-none c.self.inside.entries.slots (sym c.first_number.ensures ∙ c.in_err-number.was) in
    c.from_residual.ensures ∙ sym (ap (λ (xs : List g.row.T.Denot). slice_get xs 0) none)

pub returns-in_err-number-clause-others : goal.returns-in_err-number-clause-others
returns-in_err-number-clause-others g c =
    let none = sym (ap (λ (l : InQueue g.row.T.Denot). l.entries) c.self.view_is) ∙ kept-none c.self.inside.entries.slots (sym c.first_number.ensures ∙ c.in_err-number.was) in
    none ∙ sym (ap (drop 1) none)

pub returns-in_err-entry-clause-taken : goal.returns-in_err-entry-clause-taken
returns-in_err-entry-clause-taken g c =
    let number = sym c.first_number.ensures ∙ c.in_ok-number.was in
    let first = first-entry _ c.self.inside.entries.slots number ∙ ap (λ (xs : List g.row.T.Denot). slice_get xs 0) (ap (λ (l : InQueue g.row.T.Denot). l.entries) c.self.view_is) in
    c.from_residual-in_err-entry.ensures ∙ sym c.in_err-entry.was ∙ c.take.ensures.value ∙ first

pub returns-in_err-entry-clause-others : goal.returns-in_err-entry-clause-others
returns-in_err-entry-clause-others g c =
    let number = sym c.first_number.ensures ∙ c.in_ok-number.was in
    ap kept c.take.ensures.slots ∙ first-left _ c.self.inside.entries.slots number ∙ ap (drop 1) (ap (λ (l : InQueue g.row.T.Denot). l.entries) c.self.view_is)

pub invariant_of-self-2 : goal.invariant_of-self-2
invariant_of-self-2 g c =
    let number = sym c.first_number.ensures ∙ c.in_ok-number.was in
    let there = sym c.take.ensures.value ∙ c.in_ok-entry.was in
    let first = ap (first_on c.key.result) (sym c.self.invariant) ∙ ap (λ n. first_on n (keys_by g.T.Keyed.key_of c.self.inside.entries.slots)) c.key.ensures ∙ first-key g.T.Keyed.key_of _ _ c.self.inside.entries.slots number there in
    keys-left g.T.Keyed.key_of _ c.self.inside.entries.slots _ c.self.inside.order.keys _ _ c.self.invariant c.take.ensures.slots first c.take_first.ensures.keys

pub returns-clause-taken : goal.returns-clause-taken
returns-clause-taken g c =
    let number = sym c.first_number.ensures ∙ c.in_ok-number.was in
    let first = first-entry _ c.self.inside.entries.slots number ∙ ap (λ (xs : List g.row.T.Denot). slice_get xs 0) (ap (λ (l : InQueue g.row.T.Denot). l.entries) c.self.view_is) in
    sym c.in_ok-entry.was ∙ c.take.ensures.value ∙ first

pub returns-clause-others : goal.returns-clause-others
returns-clause-others g c =
    let number = sym c.first_number.ensures ∙ c.in_ok-number.was in
    ap kept c.take.ensures.slots ∙ first-left _ c.self.inside.entries.slots number ∙ ap (drop 1) (ap (λ (l : InQueue g.row.T.Denot). l.entries) c.self.view_is)
