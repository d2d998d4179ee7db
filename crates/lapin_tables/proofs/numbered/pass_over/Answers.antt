use Rattle.std.proofs.Common.{◌≡◌, ◌∙◌, ◌+◌, ◌<◌, ℕ, sym, ap, arith, ◌++◌, ◌∷◌}
use Rattle.lapin_tables.specs.ByChannel.{at_channel}
use Rattle.lapin_tables.specs.Behind.{spread}
use Rattle.lapin_tables.proofs.Passed.{passed-next, spread-let_go}
use Rattle.lapin_tables.proofs.numbered.pass_over.Goals as goal

pub returns-clause-slots : goal.returns-clause-slots
returns-clause-slots g c =
    let old = c.reserve.new.self.items in
    let kept : old ≡ c.args.behind.now.items = c.reserve.ensures.items in
    let new = c.stand.new.behind.items in
    let gone = c.args.gone.now in
    let front : c.args.slots.now.items ≡ c.in-Some.first ∷ c.pop_front.new.self.items = c.in-Some.ensures.items in
    let ends : (n : ℕ) → 0 + (gone + 1) < n → at_channel n new ≡ at_channel n old = λ n past. c.stand.ensures.others n (omega arith) in
    spread-let_go 0 (gone + 1) c.let_go.new.gone new c.pop_front.new.self.items c.let_go.new.slots.items c.let_go.ensures.grows (λ n past. ends n past ∙ ap (at_channel n) kept ∙ c.requires.ends n (omega arith)) c.let_go.ensures.slots
    ∙ passed-next gone (gone + 1) c.in-Some.first old new c.pop_front.new.self.items (omega arith) c.stand.ensures.value (λ n below. c.stand.ensures.others n (omega arith))
    ∙ ap (λ xs. spread 0 gone old ++ xs) (sym front)
    ∙ ap (λ es. spread 0 gone es ++ c.args.slots.now.items) kept

pub returns-clause-ends : goal.returns-clause-ends
returns-clause-ends g c = λ n past. c.stand.ensures.others n (omega (arith, c.let_go.ensures.grows)) ∙ ap (at_channel n) c.reserve.ensures.items ∙ c.requires.ends n (omega (arith, c.let_go.ensures.grows))
