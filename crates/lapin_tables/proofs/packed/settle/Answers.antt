use Rattle.std.proofs.Common.{◌≡◌, ◌+◌, ◌++◌, ◌∷◌, [], Some, length, ◌∙◌, ap, arith, length-append}
use Rattle.std.proofs.Math.Nat.{div-add-mod}
use Rattle.lapin_tables.specs.Packed.{packed_at}
use Rattle.lapin_tables.proofs.Blocks.{new-block}
use Rattle.lapin_tables.proofs.Packing.{packed-alike, shown-alike}
use Rattle.lapin_tables.proofs.packed.settle.Goals as goal

pub fill-requires-clause-packed : goal.fill-requires-clause-packed
fill-requires-clause-packed g c =
    let told = g.T.Marked.told_by in
    let grown : c.push_reserved.new.self.slots ≡ c.args.blocks.now.slots ++ Some c.new.result ∷ [] = c.push_reserved.ensures.slots ∙ ap (λ bs. bs ++ Some c.new.result ∷ []) c.reserve.ensures.same in
    let long : length c.push_reserved.new.self.slots ≡ length c.args.blocks.now.slots + 1 = ap length grown ∙ length-append c.args.blocks.now.slots (Some c.new.result ∷ []) in
    packed-alike told c.args.blocks.now.slots c.push_reserved.new.self.slots c.args.slots.now.slots
    (λ n. ap (λ bs. packed_at told bs n) grown ∙ new-block told c.new.result c.args.blocks.now.slots c.new.ensures n)
    (omega (arith, long, c.count.ensures, c.count-filled.ensures, div-add-mod c.count.result 64))
    c.requires

pub returns-clause-packed : goal.returns-clause-packed
returns-clause-packed g c =
    packed-alike g.T.Marked.told_by c.fill.new.blocks.slots c.let_go.new.blocks.slots c.fill.new.slots.slots c.let_go.ensures.same (omega (arith, c.let_go.ensures.count, c.fill.ensures.packed.covers)) c.fill.ensures.packed

pub returns-clause-same : goal.returns-clause-same
returns-clause-same g c =
    let told = g.T.Marked.told_by in
    let grown : c.push_reserved.new.self.slots ≡ c.args.blocks.now.slots ++ Some c.new.result ∷ [] = c.push_reserved.ensures.slots ∙ ap (λ bs. bs ++ Some c.new.result ∷ []) c.reserve.ensures.same in
    shown-alike told c.fill.new.blocks.slots c.let_go.new.blocks.slots c.fill.new.slots.slots c.let_go.ensures.same
    ∙ c.fill.ensures.same
    ∙ shown-alike told c.args.blocks.now.slots c.push_reserved.new.self.slots c.args.slots.now.slots (λ n. ap (λ bs. packed_at told bs n) grown ∙ new-block told c.new.result c.args.blocks.now.slots c.new.ensures n)
