use Rattle.std.proofs.Common.{◌<◌, ◌≤◌, ◌-◌, arith, length, get_or}
use Rattle.std.proofs.lemmas.Bool.{ltb-true}
use Rattle.lapin_tables.proofs.Channels.{absent}
use Rattle.lapin_tables.proofs.Passed.{place-unknown, below-middle}
use Rattle.lapin_tables.proofs.numbered.is_above.Goals as goal

pub returns : goal.returns
returns g c above =
    let within : c.len-count.result - 1 < length c.args.behind.now.items = omega (arith, c.if-count-eq0.false, c.len-count.ensures) in
    absent c.args.number c.args.behind.now.items (place-unknown c.args.number c.args.behind.now.items (λ p d inside.
    let first : p ≤ c.len-count.result - 1 = omega (arith, inside, c.len-count.ensures) in
    let less : (get_or c.args.behind.now.items p d).0 < c.args.number = below-middle p (c.len-count.result - 1) c.args.number c.args.behind.now.items d c.index.result.now c.requires first within c.index.ensures (ltb-true c.index.result.now.0 c.args.number above) in
    omega (arith, less)))
