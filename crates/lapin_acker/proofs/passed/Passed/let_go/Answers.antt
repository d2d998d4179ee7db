use Rattle.std.proofs.Common.{◌≡◌, ◌∙◌, ◌+◌, ◌≤◌, ◌<◌, ◌∷◌, List, ℕ, length, refl, ap, sym, arith}
use Rattle.lapin_acker.specs.Store.{end_of}
use Rattle.lapin_acker.proofs.Front.{run-front, front-of}
use Rattle.lapin_acker.proofs.passed.Passed.let_go.Goals as goal

pub returns-clause-shown : goal.returns-clause-shown
returns-clause-shown c =
    let rs : List (ℕ × ℕ) = c.self.inside.runs.items in
    let more : 0 < length rs = omega (arith, c.in-Some.ensures.variant.0 refl) in
    let front : rs ≡ c.in-Some.first.now ∷ c.pop_front.new.self.items = front-of c.in-Some.first.now rs more c.in-Some.ensures.lookup ∙ ap (λ ds. c.in-Some.first.now ∷ ds) (sym c.pop_front.ensures.rest) in
    let reached : c.self.inside.let_go + c.from-count.result ≡ c.self.inside.let_go + c.in-Some.first.now.0 = omega (arith, c.from-count.ensures) in
    let ended : c.self.inside.let_go + c.in-Some.first.now.0 ≤ end_of c.in-Some.first.now.1 c.args.ends.now =
    let is : c.end_of.result ≡ end_of c.in-Some.first.now.1 c.args.ends.now = c.end_of.ensures in
    omega (arith, c.from-count.ensures, c.if-self-count.false, is) in
    λ cells. rw (← c.self.view_is) (run-front rs c.pop_front.new.self.items c.in-Some.first.now c.self.inside.count c.self.inside.channel c.self.inside.let_go _ c.args.ends.now cells front reached (rw reached ended))
