use Rattle.std.proofs.Common.{◌≡◌, ◌+◌, ◌<◌, length, refl, arith}
use Rattle.lapin_acker.proofs.Front.{passed-cell, first-cell}
use Rattle.lapin_acker.proofs.cells.pass_one.Goals as goal

pub returns-then-add-clause-shown : goal.returns-then-add-clause-shown
returns-then-add-clause-shown c =
    let more : 0 < length c.args.cells.now.items = omega (arith, c.in-Some.ensures.some refl) in
    let first = first-cell c.args.cells.now.items c.pop_front.new.self.items more c.pop_front.ensures.rest in
    let number : c.up_to.result + 1 ≡ c.args.passed.now.gone + length c.args.passed.now.used + 1 = omega (arith, c.up_to.ensures.count) in
    rw (c.if-add.ensures.gone, c.if-add.ensures.used)
    (passed-cell c.args.passed.now.gone (c.up_to.result + 1) c.in-Some.channel c.args.ends.now c.args.passed.now.used c.pop_front.new.self.items c.args.cells.now.items first.0 first.1 number (c.in-Some.ensures.seen first.0 first.2))
