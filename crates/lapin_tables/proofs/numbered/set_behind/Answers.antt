use Rattle.std.proofs.Common.{◌≡◌, ◌<◌, sym, arith, length, None}
use Rattle.lapin_tables.specs.Index.{place_of}
use Rattle.lapin_tables.proofs.Channels.{found, absent, on-absent}
use Rattle.lapin_tables.proofs.Slots.{written-at}
use Rattle.lapin_tables.proofs.numbered.set_behind.Goals as goal

pub index_mut-requires : goal.index_mut-requires
index_mut-requires g c =
    let within : c.in-Some.place < length c.args.behind.now.items = (found _ _ _ (sym c.in-Some.ensures)).within in
    omega arith

pub returns-in_default : goal.returns-in_default
returns-in_default g c =
    let none : place_of c.args.number c.args.behind.now.items ≡ None = sym c.in_default.ensures in
    sym (on-absent c.args.number (λ _. c.args.value) c.args.behind.now.items (absent c.args.number c.args.behind.now.items none))

pub returns : goal.returns
returns g c = written-at _ _ _ _ (sym c.in-Some.ensures)
