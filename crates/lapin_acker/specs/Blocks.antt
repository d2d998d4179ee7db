-- How ackers stand that were given long ago: 64 of one channel in a block. No public clause cites this module.
use Rattle.std.specs.Prelude.{ℕ, zero, suc, ◌+◌, ◌%◌, ◌^◌, ◌==◌, if◌then◌else◌, List, [], ◌∷◌, ◌++◌}
use Rattle.std.specs.Int.{bit_at}
use Rattle.lapin_acker.specs.declared.switch.Switch.{Switch}
use Rattle.lapin_acker.specs.declared.switch.Switch.TheVariants as switch
use Rattle.lapin_acker.specs.declared.blocks.Block.{Block}

-- the acker at a place of a block: its tag is so many more than that of the first one
abbrev pub cell_at : Block → ℕ → Switch
cell_at b i = if bit_at b.usable i == 1 then switch.Usable b.channel ((b.tag + i) % 2 ^ 64) else switch.Used b.channel

-- so many ackers of a block, from this place on
abbrev pub cells_from : Block → ℕ → ℕ → List Switch
cells_from b i zero = []
cells_from b i (suc n) = cell_at b i ∷ cells_from b (suc i) n

-- the ackers of blocks, one block after another
abbrev pub laid : List Block → List Switch
laid [] = []
laid (b ∷ bs) = cells_from b 0 64 ++ laid bs

-- the ackers that have a cell or stand in a block, and for how many more there is room
pub record Stock : Type 0 where
  pub items : List Switch
  pub spare : ℕ
