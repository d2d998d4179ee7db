use Rattle.std.proofs.Common.{◌≡◌, ◌∙◌, ◌+◌, ◌++◌, ◌∷◌, [], ℕ, List, length, length-append, replicate, ap, arith}
use Rattle.lapin_acker.specs.declared.switch.Switch.{Switch}
use Rattle.lapin_acker.specs.declared.switch.Switch.TheVariants as switch
use Rattle.lapin_acker.specs.Store.{spelled}
use Rattle.lapin_acker.proofs.Front.{run-closed}
use Rattle.lapin_acker.proofs.passed.Passed.add.Goals as goal

pub invariant_of-self-2 : goal.invariant_of-self-2
invariant_of-self-2 c =
    let last : ℕ × ℕ = (c.self.inside.count, c.self.inside.channel) in
    let all : List Switch = spelled c.self.inside.runs.items ++ replicate c.self.inside.count (switch.Used c.self.inside.channel) in
    let closed : spelled c.push_back_reserved.new.self.items ≡ all = ap spelled (c.push_back_reserved.ensures.items ∙ ap (λ (rs : List (ℕ × ℕ)). rs ++ last ∷ []) c.reserve.ensures.items) ∙ run-closed c.self.inside.runs.items c.self.inside.count c.self.inside.channel in
    let more : length (all ++ switch.Used c.args.channel ∷ []) ≡ length all + 1 = length-append all (switch.Used c.args.channel ∷ []) in
    rw closed (omega (arith, more, c.self.invariant))

pub returns-clause-used : goal.returns-clause-used
returns-clause-used c =
    let last : ℕ × ℕ = (c.self.inside.count, c.self.inside.channel) in
    let all : List Switch = spelled c.self.inside.runs.items ++ replicate c.self.inside.count (switch.Used c.self.inside.channel) in
    let closed : spelled c.push_back_reserved.new.self.items ≡ all = ap spelled (c.push_back_reserved.ensures.items ∙ ap (λ (rs : List (ℕ × ℕ)). rs ++ last ∷ []) c.reserve.ensures.items) ∙ run-closed c.self.inside.runs.items c.self.inside.count c.self.inside.channel in
    rw (← c.self.view_is) (ap (λ us. us ++ switch.Used c.args.channel ∷ []) closed)
