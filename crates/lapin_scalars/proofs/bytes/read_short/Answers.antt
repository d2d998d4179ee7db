use Rattle.lapin_scalars.proofs.ScalarLaws.{scalar_found, none_fits}
use Rattle.lapin_scalars.specs.Scalars.Scalar.{text}
use Rattle.lapin_scalars.proofs.bytes.read_short.Goals as goal

pub returns-in-Ok-clause-found : goal.returns-in-Ok-clause-found
returns-in-Ok-clause-found c = let f = scalar_found text c.args.piece.now c.in-Ok.short c.in-Ok.ensures in (f.is, f.fits)

pub returns-in-Err-Bad-clause-none : goal.returns-in-Err-Bad-clause-none
returns-in-Err-Bad-clause-none c = none_fits text c.args.piece.now (rw c.in-Err-Bad.field-0-is at c.in-Err-Bad.ensures)
