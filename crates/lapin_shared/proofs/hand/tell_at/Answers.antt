use Rattle.std.proofs.Common.{rules, ap, sym, ◌∙◌, Some}
use Rattle.std.specs.Prelude.{slice_set}
use Rattle.std.proofs.lemmas.Result.{IfOk-weaker}
use Rattle.lapin_shared.proofs.Placing.{answered_put, put_same, got_put, got_is}
use Rattle.lapin_shared.proofs.hand.tell_at.Goals as goal

pub returns-clause-told : goal.returns-clause-told
returns-clause-told c =
    let xs = c.args.log.now.items in
    let k = c.args.k in
    let d = c.index_mut-logged.result.now in
    IfOk-weaker c.tell.result _ _ (λ t h. (
      h.0,
      ap (λ u. slice_set xs k u) h.2 ∙ answered_put xs k h.0 d c.requires (search rules),
      got_put xs k c.tell.new.self c.requires ∙ ap Some (h.2 ∙ sym h.1),
    )) c.tell.ensures.told

pub returns-clause-same : goal.returns-clause-same
returns-clause-same c =
    let xs = c.args.log.now.items in
    let k = c.args.k in
    let d = c.index_mut-logged.result.now in
    λ t r at is. put_same xs k d c.tell.new.self c.requires (search rules) (c.tell.ensures.same r (ap (λ u. u.answer) (got_is xs k d t (search rules) at) ∙ is))
