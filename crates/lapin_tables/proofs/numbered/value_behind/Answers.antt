use Rattle.std.proofs.Common.{◌≡◌, ◌∙◌, ◌<◌, sym, ap, arith, length, Some, None}
use Rattle.lapin_tables.specs.Index.{place_of}
use Rattle.lapin_tables.proofs.Channels.{found, absent}
use Rattle.lapin_tables.proofs.numbered.value_behind.Goals as goal

pub index-requires : goal.index-requires
index-requires g c =
    let within : c.in-Some.place < length c.args.behind.now.items = (found _ _ _ (sym c.in-Some.ensures)).within in
    omega arith

pub returns-in-Some : goal.returns-in-Some
returns-in-Some g c = ap (λ e. Some e.1) c.index.ensures ∙ sym ((found _ _ _ (sym c.in-Some.ensures)).value c.index.result.now)

pub returns-in-None : goal.returns-in-None
returns-in-None g c =
    let none : place_of c.args.number c.args.behind.now.items ≡ None = sym c.in-None.ensures in
    sym (absent c.args.number c.args.behind.now.items none)
