use Rattle.std.proofs.Common.{◌≡◌, ℕ, List, length, get_or, None, ap, arith}
use Rattle.std.proofs.lemmas.List.Edits.{map_over_more}
use Rattle.lapin_resend.specs.declared.message.Submitted.{Submitted}
use Rattle.lapin_resend.proofs.StepLaws.{forgot_all, forgot_places}
use Rattle.lapin_resend.proofs.stepping.forget_all.Goals as goal

pub loop-submitted-preserved : goal.loop-submitted-preserved
loop-submitted-preserved c =
    let f : Submitted → Submitted = λ (s : Submitted). record s { outstanding = None } in
    let xs : List Submitted = c.args.messages.now.items in
    let ys : List Submitted = c.loop-submitted.submitted-items in
    let i : ℕ = c.loop-submitted.submitted-index in
    let x : Submitted = get_or ys i c.submitted-item.result in
    let same : length c.deref_mut-submitted-items.result.now ≡ length xs = ap length c.deref_mut-submitted-items.ensures.value in
    rw c.forget.ensures (map_over_more f xs ys i x (omega (arith, c.loop-submitted-test.true, same)) c.loop-submitted.invariant (ap (get_or ys i) c.submitted-item.is))

pub returns-clause-messages : goal.returns-clause-messages
returns-clause-messages c =
    let xs : List Submitted = c.args.messages.now.items in
    let ys : List Submitted = c.loop-submitted.submitted-items in
    let same : length c.deref_mut-submitted-items.result.now ≡ length xs = ap length c.deref_mut-submitted-items.ensures.value in
    forgot_all c.args.messages.now.len c.loop-submitted.submitted-index xs ys (omega (arith, same, c.loop-submitted.auto.submitted-items)) (omega (arith, same, c.deref_mut-submitted-items.ensures.len, c.loop-submitted.auto.submitted-items)) (omega (arith, same, c.loop-submitted-test.false)) c.loop-submitted.invariant

pub returns-clause-places : goal.returns-clause-places
returns-clause-places c =
    let xs : List Submitted = c.args.messages.now.items in
    let ys : List Submitted = c.loop-submitted.submitted-items in
    let same : length c.deref_mut-submitted-items.result.now ≡ length xs = ap length c.deref_mut-submitted-items.ensures.value in
    forgot_places c.args.messages.now.len c.loop-submitted.submitted-index xs ys (omega (arith, same, c.loop-submitted.auto.submitted-items)) (omega (arith, same, c.deref_mut-submitted-items.ensures.len, c.loop-submitted.auto.submitted-items)) (omega (arith, same, c.loop-submitted-test.false)) c.loop-submitted.invariant
