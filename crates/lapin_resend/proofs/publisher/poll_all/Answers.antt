use Rattle.std.proofs.Common.{◌≡◌, ◌∙◌, ℕ, List, map, length, get_or, sym, ap, subst, arith}
use Rattle.lapin_resend.specs.declared.message.Submitted.{Submitted}
use Rattle.lapin_resend.specs.Publisher.{poll_one}
use Rattle.lapin_resend.proofs.Going.{Going, going_start, going_next, going_end, written_back}
use Rattle.lapin_resend.specs.Follows.{MeetEach, place}
use Rattle.std.proofs.Math.Seq.{map-set_same}
use Rattle.lapin_resend.proofs.publisher.poll_all.Goals as goal

pub loop-submitted-init : goal.loop-submitted-init
loop-submitted-init c = record {
  going = subst (λ (xs : List Submitted). Going poll_one c.args.messages.now.items c.args.joined.now c.args.joined.now xs 0) (sym c.deref_mut-submitted-items.ensures.value) (going_start poll_one c.args.messages.now.items c.args.joined.now);
  steps = omega arith;
  places = ap (map place) c.deref_mut-submitted-items.ensures.value;
  running = λ h. h;
}

pub loop-submitted-preserved : goal.loop-submitted-preserved
loop-submitted-preserved c =
    let ys : List Submitted = c.loop-submitted.submitted-items in
    let i : ℕ = c.loop-submitted.submitted-index in
    let x : Submitted = get_or ys i c.submitted-item.result in
    record {
      going = going_next poll_one c.args.messages.now.items c.args.joined.now c.loop-submitted.joined c.poll_one.new.joined ys i x c.poll_one.new.submitted c.loop-submitted.invariant.going (omega (arith, c.loop-submitted-test.true, c.loop-submitted.auto.submitted-items)) (ap (get_or ys i) c.submitted-item.is) c.in_ok-poll_one.ensures.met;
      steps = omega (arith, c.loop-submitted.invariant.steps, c.in_ok-poll_one.ensures.steps);
      places = map-set_same place ys i c.poll_one.new.submitted x (c.poll_one.ensures.place ∙ ap (λ (z : Submitted). (get_or ys i z).place) c.submitted-item.is) ∙ c.loop-submitted.invariant.places;
      running = λ h. c.in_ok-poll_one.ensures.running (c.loop-submitted.invariant.running h);
    }

pub returns-clause-met : goal.returns-clause-met
returns-clause-met c =
    let xs : List Submitted = c.args.messages.now.items in
    let ys : List Submitted = c.loop-submitted.submitted-items in
    let same : length c.deref_mut-submitted-items.result.now ≡ length xs = ap length c.deref_mut-submitted-items.ensures.value in
    let written = written_back c.args.messages.now.len xs ys (omega (arith, same, c.loop-submitted.auto.submitted-items)) (omega (arith, same, c.deref_mut-submitted-items.ensures.len, c.loop-submitted.auto.submitted-items)) in
    subst (λ (zs : List Submitted). MeetEach poll_one c.args.joined.now c.loop-submitted.joined xs zs) (sym written)
    (going_end poll_one xs c.args.joined.now c.loop-submitted.joined ys c.loop-submitted.submitted-index c.loop-submitted.invariant.going (omega (arith, c.loop-submitted-test.false, c.loop-submitted.auto.submitted-items)))

pub returns-clause-places : goal.returns-clause-places
returns-clause-places c =
    let xs : List Submitted = c.args.messages.now.items in
    let ys : List Submitted = c.loop-submitted.submitted-items in
    let same : length c.deref_mut-submitted-items.result.now ≡ length xs = ap length c.deref_mut-submitted-items.ensures.value in
    let written = written_back c.args.messages.now.len xs ys (omega (arith, same, c.loop-submitted.auto.submitted-items)) (omega (arith, same, c.deref_mut-submitted-items.ensures.len, c.loop-submitted.auto.submitted-items)) in
    ap (map place) written ∙ c.loop-submitted.invariant.places
