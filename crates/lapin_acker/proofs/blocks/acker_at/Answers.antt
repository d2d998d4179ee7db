use Rattle.std.proofs.Common.{◌≡◌, ℕ, ◌+◌, ◌*◌, ◌/◌, ◌%◌, ◌<◌, List, Some, slice_get, length, refl, sym, ap, ◌∙◌, arith}
use Rattle.lapin_acker.specs.declared.blocks.Block.{Block}
use Rattle.lapin_acker.specs.Blocks.{laid}
use Rattle.std.proofs.lemmas.Option.{slice_get_read}
use Rattle.lapin_acker.proofs.InBlocks.{get-laid}
use Rattle.lapin_acker.proofs.blocks.acker_at.Goals as goal

pub returns : goal.returns
returns c =
    let bs : List Block = c.args.blocks.now.items in
    let q : ℕ = c.args.place / 64 in
    let r : ℕ = c.args.place % 64 in
    let whole : 64 * q + r ≡ c.args.place = omega arith in
    let within : q < length bs = omega (arith, c.requires) in
    ap (slice_get (laid bs)) (sym whole) ∙ get-laid bs q r c.index.result.now (omega arith) (slice_get_read bs (length bs) q c.index.result.now refl within c.index.ensures) ∙ ap Some (sym c.acker_of.ensures)
