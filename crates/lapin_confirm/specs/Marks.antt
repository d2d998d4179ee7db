-- The marks of cells and of origins. No public clause cites this module.
use Rattle.std.specs.Prelude.{ℕ, ◌==◌, true, false, if◌then◌else◌, Option, Some, None}
use Rattle.lapin_types.specs.declared.outcome.Outcome.TheVariants as outcome
use Rattle.lapin_confirm.specs.declared.cell.Cell.{Cell}
use Rattle.lapin_confirm.specs.declared.cell.Cell.TheVariants as cell
use Rattle.lapin_confirm.specs.declared.origin.Origin.{Origin}

-- the cell of a mark: an outcome that is there, and is no error
abbrev pub cell_told : ℕ → ℕ → Option Cell
cell_told a m =
    if m == 1 then Some (cell.Resolved outcome.Ack) else
    if m == 2 then Some (cell.Resolved outcome.Nack) else
    if m == 3 then Some (cell.Resolved outcome.NotRequested) else
    None

abbrev pub cell_mark : ℕ → Cell → ℕ
cell_mark a (cell.Resolved outcome.Ack) = 1
cell_mark a (cell.Resolved outcome.Nack) = 2
cell_mark a (cell.Resolved outcome.NotRequested) = 3
cell_mark a c = 0

-- the origin of a mark among those of channel a: whether it was set aside
abbrev pub origin_told : ℕ → ℕ → Option Origin
origin_told a m =
    if m == 1 then Some (record { channel = a; aside = false }) else
    if m == 2 then Some (record { channel = a; aside = true }) else
    None

abbrev pub origin_mark : ℕ → Origin → ℕ
origin_mark a h = if h.channel == a then (if h.aside then 2 else 1) else 0
