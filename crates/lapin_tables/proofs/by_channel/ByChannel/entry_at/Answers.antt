use Rattle.std.proofs.Common.{◌≡◌, ◌∙◌, ◌<◌, sym, ap, arith, length, Some}
use Rattle.std.specs.Option.{option_map}
use Rattle.lapin_tables.specs.Index.{place_of}
use Rattle.lapin_tables.proofs.Channels.{found, entry-found, absent}
use Rattle.lapin_tables.proofs.by_channel.ByChannel.entry_at.Goals as goal

pub index-requires : goal.index-requires
index-requires g c =
    let placed : place_of c.args.number c.self.inside.entries.items ≡ Some c.in-Some.place = rw (← c.self.view_is) at (sym c.in-Some.ensures) in
    let within : c.in-Some.place < length c.self.inside.entries.items = (found _ _ _ placed).within in
    omega arith

pub returns-in-Some : goal.returns-in-Some
returns-in-Some g c =
    let placed : place_of c.args.number c.self.inside.entries.items ≡ Some c.in-Some.place = rw (← c.self.view_is) at (sym c.in-Some.ensures) in
    rw (← c.self.view_is) (ap Some c.index.ensures ∙ entry-found _ _ _ (found _ _ _ placed) c.index.result.now)

pub returns-in-None : goal.returns-in-None
returns-in-None g c = sym (ap (option_map (λ v. (c.args.number, v))) (absent c.args.number c.args.self.now.entries (sym c.in-None.ensures)))
