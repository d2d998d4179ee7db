use Rattle.std.proofs.Common.{◌≡◌, ◌∙◌, ◌+◌, ◌-◌, ◌<◌, ◌++◌, ℕ, Some, option_map, length, sym, ap, arith}
use Rattle.lapin_acker.specs.Store.{seen}
use Rattle.lapin_acker.proofs.Front.{at-passed, not-none}
use Rattle.lapin_acker.proofs.Store.{at-cell}
use Rattle.lapin_acker.proofs.switches.seen_passed.Goals as goal

pub returns-in-Some : goal.returns-in-Some
returns-in-Some c = λ cells.
    let p : ℕ = c.args.number - c.gone-gone.result - 1 in
    let number : c.args.number ≡ c.args.passed.now.gone + p + 1 = omega (arith, c.gone-gone.ensures) in
    let within : p < length c.args.passed.now.used = omega (arith, c.gone-gone.ensures, c.requires) in
    ap Some c.seen.ensures
    ∙ ap (option_map (seen c.args.ends.now c.args.number)) (c.in-Some.ensures ∙ sym (at-passed c.args.passed.now.used cells p within))
    ∙ sym (at-cell c.args.number c.args.passed.now.gone p c.args.ends.now (c.args.passed.now.used ++ cells) number)

pub returns-in-None : goal.returns-in-None
returns-in-None c = λ cells.
    let p : ℕ = c.args.number - c.gone-gone.result - 1 in
    let within : p < length c.args.passed.now.used = omega (arith, c.gone-gone.ensures, c.requires) in
    absurd (not-none c.args.passed.now.used p within c.in-None.ensures)
