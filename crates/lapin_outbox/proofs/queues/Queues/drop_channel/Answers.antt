-- A method or a publish is dropped where nothing of the channel stands before it.
use Rattle.std.proofs.Common.{Some, map, refl, sym, ◌∙◌, ap, slice_get}
use Rattle.std.specs.Option.{option_map}
use Rattle.lapin_rules.specs.Leaving.{Lists}
use Rattle.lapin_outbox.specs.Entries.{entry_of, rest_in}
use Rattle.lapin_outbox.specs.Outgoing.{InQueues}
use Rattle.lapin_outbox.specs.Drops.{told_publish, entries_of, without_entry_of}
use Rattle.lapin_rules.specs.Drops.{is_on, method_channel}
use Rattle.lapin_outbox.proofs.Dropping.{waiting_channel, rest-stays, method-told, method-left, publish-told, publish-left, map-find, map-without, none-without, lists-are}
use Rattle.lapin_outbox.proofs.queues.Queues.drop_channel.Goals as goal

pub returns-in-Some-pop_of-clause-told : goal.returns-in-Some-pop_of-clause-told
returns-in-Some-pop_of-clause-told c =
    let lists = ap (λ (o : InQueues). o.lists) c.self.view_is in
    let none = sym c.in_default.is ∙ c.drop_begun_of.ensures.told in
    let found = map-find entry_of (is_on waiting_channel c.args.channel) (is_on method_channel c.args.channel) (λ w. refl) c.self.inside.methods.entries ∙ ap (option_map entry_of) (sym c.pop_of.ensures.taken ∙ c.in-Some-pop_of.is) in
    ap Some c.dropped.ensures ∙ method-told c.args.channel (record { rest = rest_in c.self.inside.begun; methods = map entry_of c.self.inside.methods.entries; publishes = c.self.inside.publishes.entries }) none _ found ∙ ap (λ (l : Lists). slice_get (entries_of c.args.channel l) 0) lists

pub returns-in-Some-pop_of-clause-lists : goal.returns-in-Some-pop_of-clause-lists
returns-in-Some-pop_of-clause-lists c =
    let lists = ap (λ (o : InQueues). o.lists) c.self.view_is in
    let none = sym c.in_default.is ∙ c.drop_begun_of.ensures.told in
    let found = map-find entry_of (is_on waiting_channel c.args.channel) (is_on method_channel c.args.channel) (λ w. refl) c.self.inside.methods.entries ∙ ap (option_map entry_of) (sym c.pop_of.ensures.taken ∙ c.in-Some-pop_of.is) in
    let rest = rest-stays c.args.channel (record { rest = rest_in c.self.inside.begun; methods = map entry_of c.self.inside.methods.entries; publishes = c.self.inside.publishes.entries }) none _ c.drop_begun_of.ensures.left in
    let methods = ap (map entry_of) c.pop_of.ensures.others ∙ map-without entry_of (is_on waiting_channel c.args.channel) (is_on method_channel c.args.channel) (λ w. refl) c.self.inside.methods.entries in
    lists-are _ _ _ _ _ _ rest methods refl ∙ method-left c.args.channel (record { rest = rest_in c.self.inside.begun; methods = map entry_of c.self.inside.methods.entries; publishes = c.self.inside.publishes.entries }) none _ found ∙ ap (without_entry_of c.args.channel) lists

pub returns-in_err-publish-clause-told : goal.returns-in_err-publish-clause-told
returns-in_err-publish-clause-told c =
    let lists = ap (λ (o : InQueues). o.lists) c.self.view_is in
    let none = sym c.in_default.is ∙ c.drop_begun_of.ensures.told in
    let absent = map-find entry_of (is_on waiting_channel c.args.channel) (is_on method_channel c.args.channel) (λ w. refl) c.self.inside.methods.entries ∙ ap (option_map entry_of) (sym c.pop_of.ensures.taken ∙ c.in_default-pop_of.is) in
    c.from_residual.ensures
    ∙ sym (ap (option_map told_publish) (sym c.pop_of-2.ensures.taken ∙ c.in_err-publish.was))
    ∙ publish-told c.args.channel (record { rest = rest_in c.self.inside.begun; methods = map entry_of c.self.inside.methods.entries; publishes = c.self.inside.publishes.entries }) none absent
    ∙ ap (λ (l : Lists). slice_get (entries_of c.args.channel l) 0) lists

pub returns-in_err-publish-clause-lists : goal.returns-in_err-publish-clause-lists
returns-in_err-publish-clause-lists c =
    let lists = ap (λ (o : InQueues). o.lists) c.self.view_is in
    let none = sym c.in_default.is ∙ c.drop_begun_of.ensures.told in
    let absent = map-find entry_of (is_on waiting_channel c.args.channel) (is_on method_channel c.args.channel) (λ w. refl) c.self.inside.methods.entries ∙ ap (option_map entry_of) (sym c.pop_of.ensures.taken ∙ c.in_default-pop_of.is) in
    let rest = rest-stays c.args.channel (record { rest = rest_in c.self.inside.begun; methods = map entry_of c.self.inside.methods.entries; publishes = c.self.inside.publishes.entries }) none _ c.drop_begun_of.ensures.left in
    let methods = ap (map entry_of) (c.pop_of.ensures.others ∙ none-without (is_on waiting_channel c.args.channel) c.self.inside.methods.entries (sym c.pop_of.ensures.taken ∙ c.in_default-pop_of.is)) in
    lists-are _ _ _ _ _ _ rest methods c.pop_of-2.ensures.others ∙ publish-left c.args.channel (record { rest = rest_in c.self.inside.begun; methods = map entry_of c.self.inside.methods.entries; publishes = c.self.inside.publishes.entries }) none absent ∙ ap (without_entry_of c.args.channel) lists

pub returns-clause-told : goal.returns-clause-told
returns-clause-told c =
    let lists = ap (λ (o : InQueues). o.lists) c.self.view_is in
    let none = sym c.in_default.is ∙ c.drop_begun_of.ensures.told in
    let absent = map-find entry_of (is_on waiting_channel c.args.channel) (is_on method_channel c.args.channel) (λ w. refl) c.self.inside.methods.entries ∙ ap (option_map entry_of) (sym c.pop_of.ensures.taken ∙ c.in_default-pop_of.is) in
    ap Some c.dropped_publish.ensures
    ∙ sym (ap (option_map told_publish) (sym c.pop_of-2.ensures.taken ∙ c.in_ok-publish.was))
    ∙ publish-told c.args.channel (record { rest = rest_in c.self.inside.begun; methods = map entry_of c.self.inside.methods.entries; publishes = c.self.inside.publishes.entries }) none absent
    ∙ ap (λ (l : Lists). slice_get (entries_of c.args.channel l) 0) lists

pub returns-clause-lists : goal.returns-clause-lists
returns-clause-lists c =
    let lists = ap (λ (o : InQueues). o.lists) c.self.view_is in
    let none = sym c.in_default.is ∙ c.drop_begun_of.ensures.told in
    let absent = map-find entry_of (is_on waiting_channel c.args.channel) (is_on method_channel c.args.channel) (λ w. refl) c.self.inside.methods.entries ∙ ap (option_map entry_of) (sym c.pop_of.ensures.taken ∙ c.in_default-pop_of.is) in
    let rest = rest-stays c.args.channel (record { rest = rest_in c.self.inside.begun; methods = map entry_of c.self.inside.methods.entries; publishes = c.self.inside.publishes.entries }) none _ c.drop_begun_of.ensures.left in
    let methods = ap (map entry_of) (c.pop_of.ensures.others ∙ none-without (is_on waiting_channel c.args.channel) c.self.inside.methods.entries (sym c.pop_of.ensures.taken ∙ c.in_default-pop_of.is)) in
    lists-are _ _ _ _ _ _ rest methods c.pop_of-2.ensures.others ∙ publish-left c.args.channel (record { rest = rest_in c.self.inside.begun; methods = map entry_of c.self.inside.methods.entries; publishes = c.self.inside.publishes.entries }) none absent ∙ ap (without_entry_of c.args.channel) lists
