use Rattle.std.proofs.Common.{◌≡◌, ◌∙◌, ◌<◌, sym, ap, refl, arith, length, Some}
use Rattle.lapin_tables.specs.Index.{place_of}
use Rattle.lapin_tables.proofs.Channels.{found, written}
use Rattle.lapin_tables.proofs.Index.{keeps-index}
use Rattle.lapin_tables.proofs.by_channel.ByChannel.value_at.Goals as goal

pub index_mut-entry-requires : goal.index_mut-entry-requires
index_mut-entry-requires g c =
    let within : c.args.place < length c.self.inside.entries.items = (found _ _ _ (rw (← c.self.view_is) at c.requires)).within in
    omega arith

pub invariant_of-self-lent : goal.invariant_of-self-lent
invariant_of-self-lent g c w =
    let placed : place_of c.args.channel c.self.inside.entries.items ≡ Some c.args.place = rw (← c.self.view_is) at c.requires in
    rw (written c.args.channel c.args.place c.self.inside.entries.items c.index_mut-entry.result.now w placed c.index_mut-entry.ensures.value)
    (keeps-index c.args.channel (λ _. w) _ _ c.self.invariant)

pub returns : goal.returns
returns g c =
    let placed : place_of c.args.channel c.self.inside.entries.items ≡ Some c.args.place = rw (← c.self.view_is) at c.requires in (
      (refl, λ w. rw (← c.self.view_is, written c.args.channel c.args.place c.self.inside.entries.items c.index_mut-entry.result.now w placed c.index_mut-entry.ensures.value) refl),
      record { writes_back = tt; value = rw (← c.self.view_is) ((found _ _ _ placed).value c.index_mut-entry.result.now ∙ ap (λ e. Some e.1) (sym c.index_mut-entry.ensures.value)) },
    )
