use Rattle.std.proofs.Common.{rules, ◌≡◌, ◌+◌, ◌<◌, ◌++◌, List, [], ◌∷◌, length, arith, ap, length-append, Some}
use Rattle.lapin_locked.specs.Known.{told}
use Rattle.lapin_shared.specs.Grown.{last_of}
use Rattle.lapin_shared.proofs.Rising.{hand_step}
use Rattle.lapin_shared.proofs.hand.Hand.make.Goals as goal

longer : {T : Type 0} (xs ys : List T) (x : T) → ys ≡ xs ++ x ∷ [] → length ys ≡ length xs + 1
longer xs ys x is = omega (arith, ap length is, length-append xs (x ∷ []))

pub invariant_of-self-2 : goal.invariant_of-self-2
invariant_of-self-2 g c =
    let one = longer _ _ _ c.in-Ok.ensures.history in
    let lt : last_of 0 c.self.inside.log.items < c.in-Ok.place = omega (arith, c.requires, ap (λ s. last_of 0 s.log) c.self.view_is, c.in-Ok.ensures.place, one) in
    hand_step c.self.inside.last c.self.inside.log.items c.push_reserved.new.self.items (told c.in-Ok.place c.stored_at-stored.result.event (Some c.stored_at-stored.result.answer))
    c.self.inside.share.parts c.self.inside.share.amount c.step.new.share.parts c.step.new.share.amount c.self.invariant
    (search rules) lt c.in-Ok.ensures.parts c.in-Ok.ensures.amount
