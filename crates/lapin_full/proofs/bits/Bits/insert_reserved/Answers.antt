use Rattle.std.proofs.Common.{◌<◌, length, ◌∙◌, ap, arith}
use Rattle.std.specs.Int.{bit_at}
use Rattle.lapin_full.proofs.Numbers.{here, read-of, others}
use Rattle.lapin_full.proofs.bits.Bits.insert_reserved.Goals as goal

pub returns-clause-here : goal.returns-clause-here
returns-clause-here c = here c.self.inside.words.items c.args.number c.place_of-place.result c.bit_of.result c.with_bit.result c.place_of-place.ensures.place c.bit_of.ensures.bit (omega (arith, c.requires, ap length c.self.view_is, c.place_of-place.ensures.place)) 1 c.with_bit.ensures.set

pub returns-clause-others : goal.returns-clause-others
returns-clause-others c =
    let within : c.place_of-place.result < length c.self.inside.words.items = omega (arith, c.requires, ap length c.self.view_is, c.place_of-place.ensures.place) in
    rw (← c.self.view_is) (others c.self.inside.words.items c.args.number c.place_of-place.result c.bit_of.result c.with_bit.result c.place_of-place.ensures.place c.bit_of.ensures.bit within (λ i low apart. c.with_bit.ensures.others i apart ∙ ap (λ w. bit_at w i) (read-of c.self.inside.words.items c.place_of-place.result c.index.result.now within c.index.ensures)))
