use Rattle.lapin_tables.proofs.Shown.{length-shown}
use Rattle.lapin_tables.proofs.packed.Packed.next_number.Goals as goal

pub returns : goal.returns
returns g c = rw (← c.self.view_is, length-shown) c.next_number.ensures
