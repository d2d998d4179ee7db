use Rattle.lapin_scalars.proofs.HexLaws.{bytes_are_pairs, bytes_no_x}
use Rattle.lapin_scalars.proofs.bytes.bytes_of.Goals as goal

pub returns-in-Some : goal.returns-in-Some
returns-in-Some c = rw (bytes_are_pairs c.args.piece.now c.in-Some.digits.now c.in-Some.ensures.some) c.pairs_of.ensures

pub returns-in-None : goal.returns-in-None
returns-in-None c = bytes_no_x c.args.piece.now c.in-None.ensures.none
