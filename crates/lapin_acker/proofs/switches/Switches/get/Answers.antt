use Rattle.std.proofs.Common.{◌≡◌, ℕ, ◌+◌, ◌-◌, ◌++◌, length, List, Some, option_map, sym, ap, ◌∙◌, arith}
use Rattle.lapin_acker.specs.declared.switch.Switch.{Switch}
use Rattle.lapin_acker.specs.Store.{seen, shown}
use Rattle.lapin_acker.specs.Switches.{switch_at}
use Rattle.lapin_acker.proofs.Front.{get-right}
use Rattle.lapin_acker.proofs.Store.{at-cell}
use Rattle.lapin_acker.proofs.switches.Switches.get.Goals as goal

pub returns-in-Some : goal.returns-in-Some
returns-in-Some c =
    let us : List Switch = c.self.inside.passed.used in
    let p : ℕ = c.args.number - c.up_to-up_to.result - 1 in
    let number : c.args.number ≡ c.self.inside.passed.gone + (length us + p) + 1 = omega (arith, c.up_to-up_to.ensures.count) in
    let told : c.seen.result ≡ seen c.self.inside.ends.items c.args.number c.in-Some.cell = c.seen.ensures ∙ ap (λ (es : List ℕ). seen es c.args.number c.in-Some.cell) c.deref-in-Some.ensures.value in
    rw (← c.self.view_is)
    (ap Some told
    ∙ ap (option_map (seen c.self.inside.ends.items c.args.number)) (c.in-Some.ensures ∙ sym (get-right us c.self.inside.cells.items p))
    ∙ sym (at-cell c.args.number c.self.inside.passed.gone (length us + p) c.self.inside.ends.items (us ++ c.self.inside.cells.items) number))

pub returns-in-None : goal.returns-in-None
returns-in-None c =
    let us : List Switch = c.self.inside.passed.used in
    let p : ℕ = c.args.number - c.up_to-up_to.result - 1 in
    let number : c.args.number ≡ c.self.inside.passed.gone + (length us + p) + 1 = omega (arith, c.up_to-up_to.ensures.count) in
    rw (← c.self.view_is)
    (ap (option_map (seen c.self.inside.ends.items c.args.number)) (c.in-None.ensures ∙ sym (get-right us c.self.inside.cells.items p))
    ∙ sym (at-cell c.args.number c.self.inside.passed.gone (length us + p) c.self.inside.ends.items (us ++ c.self.inside.cells.items) number))

pub returns-then-number-up_to : goal.returns-then-number-up_to
returns-then-number-up_to c =
    let us : List Switch = c.self.inside.passed.used in
    let cs : List Switch = c.self.inside.cells.items in
    rw (← c.self.view_is) (c.seen_passed.ensures cs ∙ ap (λ (es : List ℕ). switch_at c.args.number (shown c.self.inside.passed.gone es (us ++ cs))) c.deref.ensures.value)
