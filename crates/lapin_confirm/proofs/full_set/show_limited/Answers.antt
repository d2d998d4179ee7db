use Rattle.std.proofs.Common.{◌≡◌, ◌∙◌, sym, refl, arith}
use Rattle.lapin_confirm.proofs.ShownFull.{not-limited}
use Rattle.lapin_confirm.proofs.full_set.show_limited.Goals as goal

pub returns-then-mode-eq0 : goal.returns-then-mode-eq0
returns-then-mode-eq0 c =
    let none : c.args.mode.now.limit ≡ 0 = omega (arith, c.if-mode-eq0.true) in
    record { here = c.requires.unlimited none ∙ sym (not-limited c.args.mode.now none); others = λ d apart. refl; reached = refl }
