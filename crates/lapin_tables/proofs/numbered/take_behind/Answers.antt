use Rattle.std.proofs.Common.{ℕ, ◌≡◌, ◌∙◌, ◌<◌, sym, ap, arith, length, Some, None, true, false}
use Rattle.lapin_tables.specs.Index.{place_of}
use Rattle.lapin_tables.proofs.Channels.{found, absent}
use Rattle.lapin_tables.proofs.Passed.{rises-remove, removed-gone, removed-other}
use Rattle.lapin_tables.proofs.numbered.take_behind.Goals as goal

pub returns-in_err-place-clause-value : goal.returns-in_err-place-clause-value
returns-in_err-place-clause-value g c =
    let none : place_of c.args.number c.args.behind.now.items ≡ None = sym c.in_err-place.ensures in
    let result : c.from_residual.result ≡ None = c.from_residual.ensures in
    result ∙ sym (absent c.args.number c.args.behind.now.items none)

pub returns-in_err-place-clause-gone : goal.returns-in_err-place-clause-gone
returns-in_err-place-clause-gone g c =
    let none : place_of c.args.number c.args.behind.now.items ≡ None = sym c.in_err-place.ensures in
    absent c.args.number c.args.behind.now.items none

pub returns-in_err-value-clause-value : goal.returns-in_err-value-clause-value
returns-in_err-value-clause-value g c =
    let within : c.in_ok-place.place < length c.args.behind.now.items = (found _ _ _ (sym c.in_ok-place.ensures)).within in
    let no : false ≡ true = c.in_err-value.ensures.variant.1 (omega arith) in
    cc

pub returns-in_err-value-clause-gone : goal.returns-in_err-value-clause-gone
returns-in_err-value-clause-gone g c =
    let within : c.in_ok-place.place < length c.args.behind.now.items = (found _ _ _ (sym c.in_ok-place.ensures)).within in
    let no : false ≡ true = c.in_err-value.ensures.variant.1 (omega arith) in
    cc

pub returns-clause-value : goal.returns-clause-value
returns-clause-value g c = ap (λ (e : ℕ × g.row.T.Denot). Some e.1) c.in_ok-value.ensures.value ∙ sym ((found _ _ _ (sym c.in_ok-place.ensures)).value (c.in_ok-value.field-0-0, c.in_ok-value.value))

pub returns-clause-gone : goal.returns-clause-gone
returns-clause-gone g c = rw c.in_ok-value.ensures.items (removed-gone 0 _ _ _ c.requires (sym c.in_ok-place.ensures))

pub returns-clause-others : goal.returns-clause-others
returns-clause-others g c = λ n apart. rw c.in_ok-value.ensures.items (removed-other _ _ n _ (sym c.in_ok-place.ensures) apart)

pub returns-clause-rises : goal.returns-clause-rises
returns-clause-rises g c = rw c.in_ok-value.ensures.items (rises-remove 0 _ _ c.requires)
