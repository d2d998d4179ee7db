use Rattle.std.proofs.Common.{◌≡◌, ◌+◌, ◌++◌, length, length-append, arith}
use Rattle.lapin_acker.specs.Store.{shown}
use Rattle.lapin_acker.proofs.Store.{length-shown}
use Rattle.lapin_acker.proofs.switches.Switches.count.Goals as goal

pub returns : goal.returns
returns c =
    let all = c.self.inside.passed.used ++ c.self.inside.cells.items in
    let whole : length (shown c.self.inside.passed.gone c.self.inside.ends.items all) ≡ c.self.inside.passed.gone + length all = length-shown c.self.inside.passed.gone c.self.inside.ends.items all in
    let both : length all ≡ length c.self.inside.passed.used + length c.self.inside.cells.items = length-append c.self.inside.passed.used c.self.inside.cells.items in
    rw (← c.self.view_is) (omega (arith, c.len.ensures, c.up_to.ensures.count, whole, both))
