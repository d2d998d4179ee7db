use Rattle.std.proofs.Common.{arith, ◌≡◌, ◌≤◌, ◌+◌, ◌-◌, take, length}
use Rattle.std.specs.Prelude.{vec_len}
use Rattle.std.proofs.lemmas.List.{take_all}
use Rattle.lapin_tables.proofs.Index.{keeps-further}
use Rattle.lapin_tables.proofs.by_channel.ByChannel.reach_to.Goals as goal

pub invariant_of-self : goal.invariant_of-self
invariant_of-self g c =
    let kept : take (c.from-reach.result + 1) c.self.inside.places.items ≡ c.self.inside.places.items = take_all _ _ (omega arith) in
    let within : length c.self.inside.places.items + (c.from-reach.result + 1 - vec_len c.self.inside.places) ≤ 65536 = omega (arith, c.self.invariant.1.1, c.ranges.channel.fits) in
    rw (c.in_ok-resize.ensures.items, kept) (keeps-further _ _ _ c.self.invariant within)
