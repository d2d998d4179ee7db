use Rattle.std.proofs.Common.{arith}
use Rattle.lapin_scalars.proofs.HexLaws.{bytes_no_x, text_empty, text_none}
use Rattle.lapin_scalars.proofs.bytes.short_of.Goals as goal

pub returns-in-None : goal.returns-in-None
returns-in-None c = text_none c.args.piece.now (bytes_no_x c.args.piece.now c.in-None.ensures.none)

pub returns-in_ok-empty-in-Some-empty : goal.returns-in_ok-empty-in-Some-empty
returns-in_ok-empty-in-Some-empty c = rw (c.in-Some-empty.ensures.some, c.in_ok-empty-in-Some-empty.ensures) (text_empty c.in-Some-empty.field-0.now (omega arith))
