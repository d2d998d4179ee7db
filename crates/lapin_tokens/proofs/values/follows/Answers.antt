use Rattle.std.proofs.Common.{◌-◌, sym, arith}
use Rattle.lapin_values.specs.DataOf.{data_of}
use Rattle.lapin_tokens.proofs.Rising.{rises_as, some_last}
use Rattle.lapin_tokens.proofs.values.follows.Goals as goal

pub returns-in-Some : goal.returns-in-Some
returns-in-Some c = λ d.
    rw (c.lt.ensures, c.as_str.ensures.value, c.as_str-in-Some.ensures.value)
    (rises_as c.args.table.now c.args.key.now d (c.len-count.result - 1) (c.in-Some.last.now, data_of c.in-Some.field-0-1.now) (omega (arith, c.len-count.ensures.count)) (sym c.in-Some.ensures.value) c.len-count.ensures.rising)

pub returns-in-None : goal.returns-in-None
returns-in-None c = λ d. absurd (some_last c.args.table.now (c.len-count.result - 1) (omega (arith, c.len-count.ensures.count)) (sym c.in-None.ensures.value))
