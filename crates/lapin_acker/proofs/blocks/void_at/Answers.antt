use Rattle.std.proofs.Common.{◌≡◌, ℕ, ◌+◌, ◌*◌, ◌/◌, ◌%◌, ◌<◌, List, Some, slice_get, slice_set, length, refl, sym, ap, ◌∙◌, arith}
use Rattle.lapin_acker.specs.declared.blocks.Block.{Block}
use Rattle.lapin_acker.specs.Switches.{used}
use Rattle.lapin_acker.specs.Blocks.{laid, cell_at}
use Rattle.std.proofs.lemmas.Option.{slice_get_read, same_Some}
use Rattle.lapin_acker.proofs.InBlocks.{get-laid, set-laid}
use Rattle.lapin_acker.proofs.blocks.void_at.Goals as goal

pub returns-clause-items : goal.returns-clause-items
returns-clause-items c = λ s at.
    let bs : List Block = c.args.blocks.now.items in
    let b : Block = c.index_mut.result.now in
    let q : ℕ = c.args.place / 64 in
    let r : ℕ = c.args.place % 64 in
    let whole : 64 * q + r ≡ c.args.place = omega arith in
    let within : q < length bs = omega (arith, c.requires) in
    let small : r < 64 = omega arith in
    let there : slice_get bs q ≡ Some b = slice_get_read bs (length bs) q b refl within c.index_mut.ensures.value in
    let found : Some (cell_at b r) ≡ Some s = sym (get-laid bs q r b small there) ∙ ap (slice_get (laid bs)) whole ∙ at in
    let here : cell_at c.void_in.new.block r ≡ used s = c.void_in.ensures.here ∙ ap used (same_Some (cell_at b r) s found) in
    set-laid bs q r b c.void_in.new.block (used s) small there here c.void_in.ensures.others ∙ ap (λ k. slice_set (laid bs) k (used s)) whole
