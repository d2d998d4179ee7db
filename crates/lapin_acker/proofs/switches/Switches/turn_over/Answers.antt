use Rattle.std.proofs.Common.{◌++◌, ◌+◌, ◌<◌, ◌≤◌, length, slice_set, ap, ◌∙◌, arith, inl, inr}
use Rattle.std.proofs.lemmas.Bool.{cases_lt}
use Rattle.lapin_acker.specs.Switches.{Board}
use Rattle.lapin_acker.specs.Store.{shown}
use Rattle.lapin_acker.proofs.Store.{length-shown, set-bound, ended, ended-none}
use Rattle.lapin_acker.proofs.switches.Switches.turn_over.Goals as goal

pub invariant_of-self : goal.invariant_of-self
invariant_of-self c =
    let whole = length-shown c.self.inside.passed.gone c.self.inside.ends.items (c.self.inside.passed.used ++ c.self.inside.cells.items) in
    let view = ap (λ (b : Board). length b.switches) c.self.view_is in (
      c.self.invariant.0,
      c.self.invariant.1,
      set-bound c.self.inside.ends.items c.from-then-from-len.result c.count-count.result _ c.self.invariant.2 (omega (arith, whole, view, c.count-count.ensures)),
    )

pub returns-then-from-len-clause-over : goal.returns-then-from-len-clause-over
returns-then-from-len-clause-over c =
    let whole = length-shown c.self.inside.passed.gone c.self.inside.ends.items (c.self.inside.passed.used ++ c.self.inside.cells.items) in
    let view = ap (λ (b : Board). length b.switches) c.self.view_is in
    let within : c.args.channel < length c.self.inside.ends.items = omega (arith, c.from.ensures, c.len.ensures, c.if-from-len.true) in
    let all : c.self.inside.passed.gone + length (c.self.inside.passed.used ++ c.self.inside.cells.items) ≤ c.count-count.result = omega (arith, whole, view, c.count-count.ensures) in
    rw (← c.self.view_is)
    (ap (λ k. shown c.self.inside.passed.gone (slice_set c.self.inside.ends.items k c.count-count.result) (c.self.inside.passed.used ++ c.self.inside.cells.items)) c.from-then-from-len.ensures
    ∙ ended c.args.channel c.count-count.result c.self.inside.passed.gone c.self.inside.ends.items (c.self.inside.passed.used ++ c.self.inside.cells.items) within all)

pub returns-else-from-len-clause-over : goal.returns-else-from-len-clause-over
returns-else-from-len-clause-over c =
    let none : length (c.self.inside.passed.used ++ c.self.inside.cells.items) ≤ 0 =
    elim (cases_lt 0 (length (c.self.inside.passed.used ++ c.self.inside.cells.items))) [
      | inl more ↦ let table = c.self.invariant.1 (omega arith) in absurd (omega (arith, table, c.from.ensures, c.len.ensures, c.if-from-len.false, c.ranges.channel.fits))
      | inr none ↦ none
    ] in
    rw (← c.self.view_is) (ended-none c.args.channel c.self.inside.passed.gone c.self.inside.ends.items (c.self.inside.passed.used ++ c.self.inside.cells.items) none)
