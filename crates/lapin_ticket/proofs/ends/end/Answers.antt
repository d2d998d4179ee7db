use Rattle.std.proofs.Common.{◌≡◌, ◌≢◌, ℕ, ◌<◌, length, Some, slice_get, subst, ◌∙◌, sym, refl, arith, inl, inr}
use Rattle.std.proofs.lemmas.Bool.Decides.{eqb_tells}
use Rattle.lapin_ticket.specs.Given.{numbers_on}
use Rattle.lapin_ticket.proofs.Ending.{end-done}
use Rattle.lapin_ticket.proofs.Listing.{get-within}
use Rattle.lapin_ticket.proofs.ends.end.Goals as goal
use Rattle.std.proofs.lemmas.Bool.{true_from_ne_false}

pub loop-place-init : goal.loop-place-init
loop-place-init c = record {
  within = omega arith;
  same = refl;
  spare = refl;
  left = λ n h other. let there = c.requires c.args.channel n h in (there.0, omega arith, there.1);
}

pub loop-place-preserved : goal.loop-place-preserved
loop-place-preserved c = record {
  within = omega arith;
  same = c.fail_at.ensures.same ∙ c.loop-place.invariant.same;
  spare = c.fail_at.ensures.room ∙ c.loop-place.invariant.spare;
  left = λ n h other.
      let was = c.fail_at.ensures.left n h other in
      let there = c.loop-place.invariant.left n was.1 other in
      let P : ℕ → Type 0 = λ k. slice_get (numbers_on c.args.channel c.args.given.now.channels) k ≡ Some n in
      elim (eqb_tells there.0 c.loop-place.place) [
        | inl here ↦ absurd (was.0 (subst P here.1 there.2))
        | inr behind ↦ let apart : there.0 ≢ c.loop-place.place = behind.1 in (there.0, omega (arith, there.1), there.2)
      ];
}

pub returns-clause-slots : goal.returns-clause-slots
returns-clause-slots c =
    sym (end-done c.args.channel c.args.spared c.args.error c.loop-place.slots.slots (λ n h. true_from_ne_false _ (λ other.
    let there = c.loop-place.invariant.left n h other in
    let within : there.0 < length (numbers_on c.args.channel c.args.given.now.channels) = get-within (numbers_on c.args.channel c.args.given.now.channels) there.0 n there.2 in
    omega (arith, there.1, c.count-count.ensures))))
    ∙ c.loop-place.invariant.same
