use Rattle.std.proofs.Common.{◌≡◌, ℕ, ◌+◌, ◌-◌, ◌*◌, ◌++◌, List, slice_get, length, sym, ap, ◌∙◌, arith}
use Rattle.lapin_acker.specs.declared.switch.Switch.{Switch}
use Rattle.lapin_acker.specs.Blocks.{laid}
use Rattle.lapin_acker.proofs.Front.{get-right}
use Rattle.lapin_acker.proofs.InBlocks.{length-laid}
use Rattle.lapin_acker.proofs.cells.Cells.at.Goals as goal

pub returns : goal.returns
returns c =
    let us : List Switch = laid c.self.inside.blocks.items in
    let ts : List Switch = c.self.inside.tail.items in
    let q : ℕ = c.args.place - c.len-within.result * 64 in
    let place : c.args.place ≡ length us + q = omega (arith, length-laid c.self.inside.blocks.items, c.len-within.ensures, c.if-place-within.false) in
    rw (← c.self.view_is) (c.cell_in.ensures ∙ sym (ap (slice_get (us ++ ts)) place ∙ get-right us ts q))
