use Rattle.std.proofs.Common.{◌≡◌, ◌≢◌, ◌∙◌, ◌<◌, sym, ap, arith, length, Some, slice_get, get_or}
use Rattle.std.proofs.lemmas.Option.{slice_get-get_or}
use Rattle.lapin_tables.proofs.Index.{nothing-there, another-there, itself-there}
use Rattle.lapin_tables.proofs.by_channel.ByChannel.place_at.Goals as goal

pub returns-then-place-len : goal.returns-then-place-len
returns-then-place-len g c =
    let within : c.args.number < length c.self.inside.places.items = omega arith in
    let read : get_or c.self.inside.places.items c.args.number c.index.result.now ≡ c.from-place.result = sym c.index.ensures ∙ sym c.from-place.ensures in
    let at : slice_get c.self.inside.places.items c.args.number ≡ Some c.from-place.result = slice_get-get_or _ _ c.index.result.now within ∙ ap Some read in
    rw (← c.self.view_is) (sym (nothing-there _ _ _ _ c.self.invariant.0 at (omega arith)))

pub returns-then-from-number : goal.returns-then-from-number
returns-then-from-number g c =
    let within : c.args.number < length c.self.inside.places.items = omega arith in
    let read : get_or c.self.inside.places.items c.args.number c.index.result.now ≡ c.from-place.result = sym c.index.ensures ∙ sym c.from-place.ensures in
    let at : slice_get c.self.inside.places.items c.args.number ≡ Some c.from-place.result = slice_get-get_or _ _ c.index.result.now within ∙ ap Some read in
    let is : (get_or c.self.inside.entries.items c.from-place.result c.index-2.result.now).0 ≡ c.args.number = ap (λ e. e.0) (sym c.index-2.ensures) ∙ sym c.from.ensures ∙ c.if-from-number.true in
    rw (← c.self.view_is) (sym (itself-there _ _ c.index-2.result.now _ _ c.self.invariant.0 at (omega arith) is))

pub returns-else-from-number : goal.returns-else-from-number
returns-else-from-number g c =
    let within : c.args.number < length c.self.inside.places.items = omega arith in
    let read : get_or c.self.inside.places.items c.args.number c.index.result.now ≡ c.from-place.result = sym c.index.ensures ∙ sym c.from-place.ensures in
    let at : slice_get c.self.inside.places.items c.args.number ≡ Some c.from-place.result = slice_get-get_or _ _ c.index.result.now within ∙ ap Some read in
    let other : (get_or c.self.inside.entries.items c.from-place.result c.index-2.result.now).0 ≢ c.args.number = λ is. c.if-from-number.false (c.from.ensures ∙ ap (λ e. e.0) c.index-2.ensures ∙ is) in
    rw (← c.self.view_is) (sym (another-there _ _ c.index-2.result.now _ _ c.self.invariant.0 at other))
