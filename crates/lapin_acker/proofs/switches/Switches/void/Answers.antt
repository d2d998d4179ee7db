use Rattle.std.proofs.Common.{◌≡◌, ℕ, ◌+◌, ◌++◌, List, length, length-append, sym, ap, ◌∙◌, arith, inl, inr}
use Rattle.std.proofs.lemmas.Bool.{cases_lt}
use Rattle.lapin_acker.specs.declared.switch.Switch.{Switch}
use Rattle.lapin_acker.specs.Switches.{Board, used}
use Rattle.lapin_acker.specs.Store.{shown}
use Rattle.lapin_acker.proofs.Front.{spent-passed, get-right, set-right, get-there}
use Rattle.lapin_acker.proofs.Numbers.{none-spent}
use Rattle.lapin_acker.proofs.Store.{length-shown, spent-cell}
use Rattle.lapin_acker.proofs.switches.Switches.void.Goals as goal

pub invariant_of-self : goal.invariant_of-self
invariant_of-self c =
    let us : List Switch = c.self.inside.passed.used in
    let old = length-append us c.self.inside.cells.items in
    let new = length-append us c.void.new.self.items in (
      omega (arith, c.self.invariant.0, c.void.ensures.count, old, new),
      λ some. c.self.invariant.1 (omega (arith, some, c.void.ensures.count, old, new)),
      λ k. omega (arith, c.self.invariant.2 k, c.void.ensures.count, old, new),
    )

pub returns-in_default-clause-spent : goal.returns-in_default-clause-spent
returns-in_default-clause-spent c = rw (← c.self.view_is) (spent-passed c.args.number c.self.inside.passed.gone c.self.inside.ends.items c.self.inside.passed.used c.self.inside.cells.items (omega (arith, c.in_default.ensures, c.up_to.ensures.count)) c.up_to.ensures.used)

pub returns-clause-spent : goal.returns-clause-spent
returns-clause-spent c =
    let us : List Switch = c.self.inside.passed.used in
    let cs : List Switch = c.self.inside.cells.items in
    let p : ℕ = c.in-Some.place in
    let number : c.args.number ≡ c.self.inside.passed.gone + (length us + p) + 1 = omega (arith, c.up_to.ensures.count, c.in-Some.ensures) in
    let whole = length-shown c.self.inside.passed.gone c.self.inside.ends.items (us ++ cs) in
    let both = length-append us cs in
    let view = ap (λ (b : Board). length b.switches) c.self.view_is in
    elim (cases_lt p (length cs)) [
      | inl within ↦
          let there = get-there cs p within in
          rw (← c.self.view_is)
          (ap (λ xs. shown c.self.inside.passed.gone c.self.inside.ends.items (us ++ xs)) (c.void.ensures.there there.0 there.1)
          ∙ ap (shown c.self.inside.passed.gone c.self.inside.ends.items) (sym (set-right us cs p (used there.0)))
          ∙ spent-cell c.args.number c.self.inside.passed.gone (length us + p) c.self.inside.ends.items (us ++ cs) there.0 number (get-right us cs p ∙ there.1))
      | inr past ↦
          ap (λ xs. shown c.self.inside.passed.gone c.self.inside.ends.items (us ++ xs)) (c.void.ensures.past past)
          ∙ ap (λ (b : Board). b.switches) c.self.view_is
          ∙ none-spent c.args.number c.args.self.now (inr (omega (arith, whole, view, both, c.up_to.ensures.count, c.in-Some.ensures, past)))
    ]
