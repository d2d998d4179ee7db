use Rattle.std.proofs.Common.{◌≡◌, ℕ, ◌+◌, ◌<◌, ◌++◌, ◌∷◌, List, length, append_assoc, sym, ap, subst, ◌∙◌, arith}
use Rattle.lapin_acker.specs.declared.blocks.Block.{Block}
use Rattle.lapin_acker.specs.declared.switch.Switch.{Switch}
use Rattle.lapin_acker.specs.declared.switch.Switch.TheVariants as switch
use Rattle.lapin_acker.specs.Blocks.{laid, cell_at, cells_from}
use Rattle.lapin_acker.specs.Store.{seen, shown}
use Rattle.lapin_acker.proofs.Front.{front-of}
use Rattle.lapin_acker.proofs.InBlocks.{pass-cells}
use Rattle.lapin_acker.proofs.cells.pass_block.Goals as goal

pub returns-then-add_many-clause-shown : goal.returns-then-add_many-clause-shown
returns-then-add_many-clause-shown c = λ cells.
    let bs : List Block = c.args.blocks.now.items in
    let b : Block = c.index.result.now in
    let ds : List Block = c.pop_front.new.self.items in
    let g : ℕ = c.args.passed.now.gone in
    let us : List Switch = c.args.passed.now.used in
    let es : List ℕ = c.args.ends.now in
    let front : bs ≡ b ∷ ds = front-of b bs (omega (arith, c.requires.some)) c.index.ensures ∙ ap (λ xs. b ∷ xs) (sym c.pop_front.ensures.rest) in
    let alike : (j : ℕ) → j < 64 → seen es (g + length us + j + 1) (cell_at b (0 + j)) ≡ seen es (g + length us + j + 1) (switch.Used c.in-Some.channel) = λ j lt.
    let first : j ≡ 0 + j = omega arith in
    subst (λ (k : ℕ). seen es (g + length us + j + 1) (cell_at b k) ≡ seen es (g + length us + j + 1) (switch.Used c.in-Some.channel)) first
    (subst (λ (u : ℕ). seen es (u + j + 1) (cell_at b j) ≡ seen es (u + j + 1) (switch.Used c.in-Some.channel)) c.up_to.ensures.count (c.in-Some.ensures j lt)) in
    rw (c.if-add_many.ensures.gone, c.if-add_many.ensures.used)
    (pass-cells g c.in-Some.channel 0 64 es us (laid ds ++ cells) b alike
    ∙ ap (λ xs. shown g es (us ++ xs)) (sym (append_assoc (cells_from b 0 64) (laid ds) cells) ∙ ap (λ xs. laid xs ++ cells) (sym front)))
