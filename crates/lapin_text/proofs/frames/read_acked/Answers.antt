use Rattle.std.proofs.Common.{◌<◌, ◌^◌, ◌∙◌, ◌∷◌, refl, ap, arith, List, ℕ}
use Rattle.std.specs.Prelude.{codes}
use Rattle.lapin_text.proofs.LineLaws.{acked_said}
use Rattle.lapin_text.proofs.frames.read_acked.Goals as goal

pub returns : goal.returns
returns c =
    let short : c.in_ok-channel.channel < 2 ^ 16 = omega (arith, c.if-channel-gt65535.false) in
    acked_said c.in_ok-channel.channel c.in_ok-delivery_tag.delivery_tag c.in_ok-multiple.multiple c.args.tokens.now c.number.new.self c.number-2.new.self c.flag.new.self
    c.in_ok-channel.ensures.some.0
    (c.if-not-word.ensures.read refl ∙ ap (λ (ps : List (List ℕ)). codes "basic.ack" ∷ ps) c.in_ok-delivery_tag.ensures.some.0)
    c.in_ok-multiple.ensures.some
    short
    c.in_ok-delivery_tag.ensures.some.1
