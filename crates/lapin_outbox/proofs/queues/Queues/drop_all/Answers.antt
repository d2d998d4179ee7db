-- A publish is dropped where nothing stands before it.
use Rattle.std.proofs.Common.{Some, map, drop, sym, ◌∙◌, ap, slice_get}
use Rattle.lapin_rules.specs.Leaving.{Lists}
use Rattle.lapin_outbox.specs.Entries.{entry_of, rest_in}
use Rattle.lapin_outbox.specs.Outgoing.{InQueues, has_entries}
use Rattle.lapin_outbox.specs.Drops.{all_entries, without_entry}
use Rattle.lapin_outbox.proofs.Dropping.{last-told, no-entry, no-first, lists-are}
use Rattle.lapin_outbox.proofs.queues.Queues.drop_all.Goals as goal

pub returns-clause-told : goal.returns-clause-told
returns-clause-told c =
    let lists = ap (λ (o : InQueues). o.lists) c.self.view_is in
    let none = sym c.in_default.is ∙ c.drop_begun.ensures.told in
    let last = last-told (record { rest = rest_in c.self.inside.begun; methods = map entry_of c.self.inside.methods.entries; publishes = c.self.inside.publishes.entries }) _ none (no-entry entry_of _ (sym c.pop.ensures.taken ∙ c.in_default-pop.is)) (sym c.pop-2.ensures.taken ∙ c.in_ok-publish.was) in
    ap Some c.dropped_publish.ensures ∙ last.0 ∙ ap (λ (l : Lists). slice_get (all_entries l) 0) lists

pub returns-clause-pending : goal.returns-clause-pending
returns-clause-pending c =
    let lists = ap (λ (o : InQueues). o.lists) c.self.view_is in
    let none = sym c.in_default.is ∙ c.drop_begun.ensures.told in
    let last = last-told (record { rest = rest_in c.self.inside.begun; methods = map entry_of c.self.inside.methods.entries; publishes = c.self.inside.publishes.entries }) _ none (no-entry entry_of _ (sym c.pop.ensures.taken ∙ c.in_default-pop.is)) (sym c.pop-2.ensures.taken ∙ c.in_ok-publish.was) in
    last.1 ∙ ap has_entries lists

pub returns-clause-lists : goal.returns-clause-lists
returns-clause-lists c =
    let lists = ap (λ (o : InQueues). o.lists) c.self.view_is in
    let none = sym c.in_default.is ∙ c.drop_begun.ensures.told in
    let last = last-told (record { rest = rest_in c.self.inside.begun; methods = map entry_of c.self.inside.methods.entries; publishes = c.self.inside.publishes.entries }) _ none (no-entry entry_of _ (sym c.pop.ensures.taken ∙ c.in_default-pop.is)) (sym c.pop-2.ensures.taken ∙ c.in_ok-publish.was) in
    let methods = ap (map entry_of) (c.pop.ensures.others ∙ ap (drop 1) (no-first _ (sym c.pop.ensures.taken ∙ c.in_default-pop.is))) in
    lists-are _ _ _ _ _ _ c.drop_begun.ensures.left methods c.pop-2.ensures.others ∙ last.2 ∙ ap without_entry lists
