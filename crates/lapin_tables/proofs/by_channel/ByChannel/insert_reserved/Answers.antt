use Rattle.std.proofs.Common.{◌≡◌, ◌<◌, arith, length, None}
use Rattle.lapin_tables.specs.ByChannel.{at_channel}
use Rattle.lapin_tables.proofs.Index.{keeps-push, place-fits}
use Rattle.lapin_tables.proofs.by_channel.ByChannel.insert_reserved.Goals as goal

pub overflow_cast-place : goal.overflow_cast-place
overflow_cast-place g c =
    let reach = rw (← c.self.view_is) at c.requires.room.1 in
    let room : c.args.channel < length c.self.inside.places.items = omega (arith, reach) in
    let none : at_channel c.args.channel c.self.inside.entries.items ≡ None = rw (← c.self.view_is) at c.requires.absent in
    let fits = place-fits (length c.self.inside.places.items) c.args.channel c.args.value c.self.inside.entries.items c.self.invariant.1.0 room none in
    omega (arith, fits, c.self.invariant.1.1, c.len-place.ensures)

pub invariant_of-self : goal.invariant_of-self
invariant_of-self g c =
    let reach = rw (← c.self.view_is) at c.requires.room.1 in
    let room : c.args.channel < length c.self.inside.places.items = omega (arith, reach) in
    let none : at_channel c.args.channel c.self.inside.entries.items ≡ None = rw (← c.self.view_is) at c.requires.absent in
    let last : c.len-place.result ≡ length c.self.inside.entries.items = omega arith in
    rw (c.from.ensures, last, c.push_reserved.ensures.items) (keeps-push c.args.channel c.args.value c.self.inside.places.items c.self.inside.entries.items c.self.invariant room none)
