use Rattle.std.proofs.Common.{◌≡◌, ℕ, ◌+◌, ◌-◌, ◌++◌, ◌∷◌, [], List, Some, drop, append_assoc, ap, ◌∙◌, arith}
use Rattle.lapin_acker.specs.declared.blocks.Block.{Block}
use Rattle.lapin_acker.specs.declared.switch.Switch.{Switch}
use Rattle.lapin_acker.specs.Blocks.{laid, cell_at, cells_from}
use Rattle.lapin_acker.proofs.InBlocks.{laid-push, block-front}
use Rattle.lapin_acker.proofs.cells.pack.Goals as goal

pub returns-clause-items : goal.returns-clause-items
returns-clause-items c =
    let bs : List Block = c.args.blocks.now.items in
    let ts : List Switch = c.args.tail.now.items in
    let b : Block = c.in-Some.block in
    let pushed : c.push_back_reserved.new.self.items ≡ bs ++ b ∷ [] = c.push_back_reserved.ensures.items ∙ ap (λ (xs : List Block). xs ++ b ∷ []) c.reserve.ensures.items in
    let all : 64 - c.loop-left.left ≡ 64 = omega (arith, c.loop-left-test.false) in
    let rest : c.loop-left.tail.items ≡ drop 64 ts = c.loop-left.invariant.tail ∙ ap (λ (n : ℕ). drop n ts) all in
    ap (λ (xs : List Block). laid xs ++ c.loop-left.tail.items) pushed
    ∙ ap (λ (xs : List Switch). laid (bs ++ b ∷ []) ++ xs) rest
    ∙ ap (λ (us : List Switch). us ++ drop 64 ts) (laid-push bs b)
    ∙ append_assoc (laid bs) (cells_from b 0 64) (drop 64 ts)
    ∙ ap (λ (xs : List Switch). laid bs ++ xs) (block-front b 0 64 ts (λ p lt. let first : p ≡ 0 + p = omega arith in c.in-Some.ensures p lt ∙ ap (λ (k : ℕ). Some (cell_at b k)) first))
