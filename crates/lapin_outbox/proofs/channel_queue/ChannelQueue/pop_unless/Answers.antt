-- The first number of a key that isn't full tells which entry is taken, and what stays.
use Rattle.std.proofs.Common.{sym, ◌∙◌, ap}
use Rattle.std.specs.List.{find}
use Rattle.lapin_rules.specs.Words.{without_first}
use Rattle.lapin_outbox.specs.Order.{first_on}
use Rattle.lapin_outbox.specs.Passing.{not_full, of_key, first_where}
use Rattle.lapin_outbox.specs.ChannelQueue.{InQueue, kept, keys_by}
use Rattle.lapin_outbox.proofs.ChannelQueues.{keys-left}
use Rattle.lapin_outbox.proofs.PassedOver.{found-where, left-where, none-found, never-gone, first-of-entry}
use Rattle.lapin_outbox.proofs.channel_queue.ChannelQueue.pop_unless.Goals as goal

pub returns-in_default-clause-taken : goal.returns-in_default-clause-taken
returns-in_default-clause-taken g c =
    let t = not_full (g.F.FullChannels.full c.args.full.now) in
    let none = ap (first_where t) c.self.invariant ∙ sym c.in_ok-number.ensures.number ∙ c.in_default.is in
    sym (none-found g.T.Keyed.key_of t c.self.inside.entries.slots none).0 ∙ ap (λ (l : InQueue g.row.T.Denot). find (of_key g.T.Keyed.key_of t) l.entries) c.self.view_is

pub returns-in_default-clause-others : goal.returns-in_default-clause-others
returns-in_default-clause-others g c =
    let t = not_full (g.F.FullChannels.full c.args.full.now) in
    let none = ap (first_where t) c.self.invariant ∙ sym c.in_ok-number.ensures.number ∙ c.in_default.is in
    sym (none-found g.T.Keyed.key_of t c.self.inside.entries.slots none).1 ∙ ap (λ (l : InQueue g.row.T.Denot). without_first (of_key g.T.Keyed.key_of t) l.entries) c.self.view_is

pub returns-in_default-take-clause-taken : goal.returns-in_default-take-clause-taken
returns-in_default-take-clause-taken g c =
    let t = not_full (g.F.FullChannels.full c.args.full.now) in
    let number = ap (first_where t) c.self.invariant ∙ sym c.in_ok-number.ensures.number ∙ c.in-Some.is in
    absurd (never-gone g.T.Keyed.key_of t _ c.self.inside.entries.slots number (sym c.in_default-take.ensures.value))

pub returns-in_default-take-clause-others : goal.returns-in_default-take-clause-others
returns-in_default-take-clause-others g c =
    let t = not_full (g.F.FullChannels.full c.args.full.now) in
    let number = ap (first_where t) c.self.invariant ∙ sym c.in_ok-number.ensures.number ∙ c.in-Some.is in
    absurd (never-gone g.T.Keyed.key_of t _ c.self.inside.entries.slots number (sym c.in_default-take.ensures.value))

pub invariant_of-self-2 : goal.invariant_of-self-2
invariant_of-self-2 g c =
    let t = not_full (g.F.FullChannels.full c.args.full.now) in
    let number = ap (first_where t) c.self.invariant ∙ sym c.in_ok-number.ensures.number ∙ c.in-Some.is in
    let first = ap (first_on c.key.result) (c.first_unless.ensures.keys ∙ sym c.self.invariant) ∙ ap (λ n. first_on n (keys_by g.T.Keyed.key_of c.self.inside.entries.slots)) c.key.ensures ∙ first-of-entry g.T.Keyed.key_of t _ _ c.self.inside.entries.slots number (sym c.in-Some-take.ensures.value) in
    keys-left g.T.Keyed.key_of _ c.self.inside.entries.slots _ c.first_unless.new.self.keys _ _ (c.self.invariant ∙ sym c.first_unless.ensures.keys) c.take.ensures.slots first c.take_first.ensures.keys

pub returns-clause-taken : goal.returns-clause-taken
returns-clause-taken g c =
    let t = not_full (g.F.FullChannels.full c.args.full.now) in
    let number = ap (first_where t) c.self.invariant ∙ sym c.in_ok-number.ensures.number ∙ c.in-Some.is in
    c.in-Some-take.ensures.value ∙ found-where g.T.Keyed.key_of t _ c.self.inside.entries.slots number ∙ ap (λ (l : InQueue g.row.T.Denot). find (of_key g.T.Keyed.key_of t) l.entries) c.self.view_is

pub returns-clause-others : goal.returns-clause-others
returns-clause-others g c =
    let t = not_full (g.F.FullChannels.full c.args.full.now) in
    let number = ap (first_where t) c.self.invariant ∙ sym c.in_ok-number.ensures.number ∙ c.in-Some.is in
    ap kept c.take.ensures.slots ∙ left-where g.T.Keyed.key_of t _ c.self.inside.entries.slots number ∙ ap (λ (l : InQueue g.row.T.Denot). without_first (of_key g.T.Keyed.key_of t) l.entries) c.self.view_is
