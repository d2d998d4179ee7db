use Rattle.std.proofs.Common.{◌≡◌, ◌+◌, arith, length}
use Rattle.lapin_tables.proofs.Slots.{length_shown}
use Rattle.lapin_tables.proofs.numbered.Numbered.count.Goals as goal

pub returns : goal.returns
returns g c =
    let counted : c.self.inside.let_go + c.len.result ≡ c.self.inside.let_go + length c.self.inside.slots.items = omega (arith, c.len.ensures) in
    rw (← c.self.view_is, length_shown c.self.inside.let_go c.self.inside.behind.items c.self.inside.slots.items) counted
