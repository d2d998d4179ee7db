use Rattle.std.proofs.Common.{◌≡◌, ℕ, ◌++◌, ◌∷◌, [], List, replicate, length-append, append_assoc, sym, ap, ◌∙◌, arith}
use Rattle.lapin_acker.specs.declared.switch.Switch.{Switch}
use Rattle.lapin_acker.specs.declared.switch.Switch.TheVariants as switch
use Rattle.lapin_acker.specs.Store.{spelled}
use Rattle.lapin_acker.proofs.Front.{run-closed}
use Rattle.std.proofs.lemmas.List.{length-replicate, replicate-append-replicate}
use Rattle.lapin_acker.proofs.passed.Passed.add_many.Goals as goal

pub returns-then-self-clause-used : goal.returns-then-self-clause-used
returns-then-self-clause-used c =
    let run : List Switch = spelled c.self.inside.runs.items in
    let k : ℕ = c.self.inside.count in
    let s : Switch = switch.Used c.self.inside.channel in
    rw (← c.self.view_is)
    (ap (λ vs. run ++ vs) (sym (replicate-append-replicate k 64 s))
    ∙ sym (append_assoc run (replicate k s) (replicate 64 s))
    ∙ ap (λ d. (run ++ replicate k s) ++ replicate 64 (switch.Used d)) c.if-self-channel.true)

pub invariant_of-self-2 : goal.invariant_of-self-2
invariant_of-self-2 c =
    let last : ℕ × ℕ = (c.self.inside.count, c.self.inside.channel) in
    let all : List Switch = spelled c.self.inside.runs.items ++ replicate c.self.inside.count (switch.Used c.self.inside.channel) in
    let closed : spelled c.push_back_reserved.new.self.items ≡ all = ap spelled (c.push_back_reserved.ensures.items ∙ ap (λ (rs : List (ℕ × ℕ)). rs ++ last ∷ []) c.reserve.ensures.items) ∙ run-closed c.self.inside.runs.items c.self.inside.count c.self.inside.channel in
    let more : List Switch = replicate 64 (switch.Used c.args.channel) in
    rw closed (omega (arith, length-append all more, length-replicate 64 (switch.Used c.args.channel), c.self.invariant))

pub returns-clause-used : goal.returns-clause-used
returns-clause-used c =
    let last : ℕ × ℕ = (c.self.inside.count, c.self.inside.channel) in
    let all : List Switch = spelled c.self.inside.runs.items ++ replicate c.self.inside.count (switch.Used c.self.inside.channel) in
    let closed : spelled c.push_back_reserved.new.self.items ≡ all = ap spelled (c.push_back_reserved.ensures.items ∙ ap (λ (rs : List (ℕ × ℕ)). rs ++ last ∷ []) c.reserve.ensures.items) ∙ run-closed c.self.inside.runs.items c.self.inside.count c.self.inside.channel in
    rw (← c.self.view_is) (ap (λ us. us ++ replicate 64 (switch.Used c.args.channel)) closed)
