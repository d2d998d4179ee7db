use Rattle.std.proofs.Common.{◌≡◌, ap, arith, length, refl, subst, ◌∙◌, Some}
use Rattle.std.specs.Prelude.{slice_get}
use Rattle.std.proofs.lemmas.Result.{IfOk-weaker, on_err_weaker}
use Rattle.lapin_shared.specs.Grown.{Seen}
use Rattle.lapin_shared.specs.Read.{IsPlaceAt, answered}
use Rattle.lapin_shared.proofs.Rising.{hand_told, length_answered}
use Rattle.lapin_shared.proofs.Placing.{seen_same}
use Rattle.lapin_shared.proofs.hand.Hand.fetch.Goals as goal

pub invariant_of-self : goal.invariant_of-self
invariant_of-self g c =
    let k = c.index_of-k.result in
    hand_told c.tell_at.result (λ t. slice_get c.tell_at.new.log.items k ≡ Some t) c.self.inside.last c.self.inside.log.items c.tell_at.new.log.items k
    c.self.inside.share.parts c.self.inside.share.amount c.self.invariant c.tell_at.ensures.told c.tell_at.ensures.err

pub returns-clause-read : goal.returns-clause-read
returns-clause-read g c =
    let k = c.index_of-k.result in
    let P : Seen → Type 0 = λ s. IsPlaceAt s.log k c.args.place in
    IfOk-weaker c.tell_at.result _ _ (λ t h. (
      k,
      record {
        number = ap (λ s. s.number) c.self.view_is;
        at = subst P c.self.view_is (rw (← c.deref.ensures.value) c.index_of-k.ensures);
        answer = h.0;
        log = h.1 ∙ ap (λ s. answered s.log k h.0) c.self.view_is;
        inside = omega (arith, c.index_of-k.ensures.inside, ap length c.deref.ensures.value, ap length h.1, length_answered c.self.inside.log.items k h.0);
      },
      h.2,
    )) c.tell_at.ensures.told

pub returns-clause-err : goal.returns-clause-err
returns-clause-err g c =
    on_err_weaker c.tell_at.result (λ same. seen_same _ _ _ _ refl same ∙ c.self.view_is) c.tell_at.ensures.err
