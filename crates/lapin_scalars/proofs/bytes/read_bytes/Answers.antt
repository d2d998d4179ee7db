use Rattle.lapin_scalars.proofs.ScalarLaws.{scalar_found, none_fits}
use Rattle.lapin_scalars.specs.Scalars.Scalar.{bytes}
use Rattle.lapin_scalars.proofs.bytes.read_bytes.Goals as goal

pub returns-in-Ok-clause-found : goal.returns-in-Ok-clause-found
returns-in-Ok-clause-found c = rw c.from_bytes.ensures (let f = scalar_found bytes c.args.piece.now c.in-Ok.bytes.items c.in-Ok.ensures in (f.is, f.fits))

pub returns-in-Err-Bad-clause-none : goal.returns-in-Err-Bad-clause-none
returns-in-Err-Bad-clause-none c = none_fits bytes c.args.piece.now (rw c.in-Err-Bad.field-0-is at c.in-Err-Bad.ensures)
