use Rattle.std.proofs.Common.{◌≡◌, ◌-◌, ◌++◌, List, ap, sym, refl, arith, subst, length, length-append, ◌∙◌, Some, ◌∷◌, []}
use Rattle.std.specs.Prelude.{slice_get}
use Rattle.lapin_locked.specs.declared.entry.Told.{Told}
use Rattle.lapin_locked.specs.Known.{told}
use Rattle.lapin_shared.specs.Read.{unread}
use Rattle.lapin_shared.proofs.Rising.{hand_answered, hand_unread}
use Rattle.lapin_shared.proofs.Placing.{last_got, last_unread, seen_same}
use Rattle.lapin_shared.proofs.hand.Hand.tell_newest.Goals as goal

pub invariant_of-self : goal.invariant_of-self
invariant_of-self g c =
    let h = c.in-Ok.ensures.told in
    hand_answered c.self.inside.last c.self.inside.log.items c.tell_at.new.log.items (c.len-k.result - 1) h.0 c.self.inside.share.parts c.self.inside.share.amount c.self.invariant h.1

pub invariant_of-self-in-Err : goal.invariant_of-self-in-Err
invariant_of-self-in-Err g c =
    let k = c.len-k.result - 1 in
    hand_unread c.self.inside.last c.self.inside.log.items c.forget_at.new.log.items k c.self.inside.share.parts c.self.inside.share.amount c.self.invariant
    (c.forget_at.ensures ∙ ap (λ l. unread l k) c.in-Err.ensures.err)

pub returns-in-Ok : goal.returns-in-Ok
returns-in-Ok g c = λ front e r is.
    let k = c.len-k.result - 1 in
    let t = told c.args.place e (Some r) in
    let log : c.self.inside.log.items ≡ front ++ t ∷ [] = ap (λ s. s.log) c.self.view_is ∙ is in
    let at = last_got front t k (omega (arith, ap length log, length-append front (t ∷ []), c.len-k.ensures)) in
    let Got : List Told → Type 0 = λ l. slice_get l k ≡ Some t in
    let old : slice_get c.self.inside.log.items k ≡ Some t = subst Got (sym log) at in
    let kept = c.tell_at.ensures.same t r old refl in
    let new : slice_get c.tell_at.new.log.items k ≡ Some t = subst Got (sym kept) old in
    let shown = c.in-Ok.ensures.told.2 in
    (cc, seen_same _ _ _ _ (ap (λ s. s.number) c.self.view_is) (kept ∙ log))

pub returns-in-Err : goal.returns-in-Err
returns-in-Err g c = λ front e r is.
    let k = c.len-k.result - 1 in
    let t = told c.args.place e (Some r) in
    let log : c.self.inside.log.items ≡ front ++ t ∷ [] = ap (λ s. s.log) c.self.view_is ∙ is in
    let shorter = last_unread front t k (omega (arith, ap length log, length-append front (t ∷ []), c.len-k.ensures)) in
    (refl, seen_same _ _ _ _ (ap (λ s. s.number) c.self.view_is) (c.forget_at.ensures ∙ ap (λ l. unread l k) (c.in-Err.ensures.err ∙ log) ∙ shorter))
