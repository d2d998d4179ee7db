use Rattle.std.proofs.Common.{◌≡◌, ◌≢◌, ℕ, ◌<◌, length, Some, slice_get, subst, ◌∙◌, sym, refl, arith, inl, inr}
use Rattle.std.proofs.lemmas.Bool.Decides.{eqb_tells}
use Rattle.lapin_tables.specs.Numbered.{under}
use Rattle.lapin_ticket.specs.Given.{numbers_on}
use Rattle.lapin_ticket.proofs.Ending.{close-done}
use Rattle.lapin_ticket.proofs.Listing.{rejects-open, get-within}
use Rattle.lapin_ticket.proofs.ends.close.Goals as goal
use Rattle.std.proofs.lemmas.Bool.{false_from_ne_true}

pub loop-place-init : goal.loop-place-init
loop-place-init c = record {
  within = omega arith;
  same = refl;
  spare = refl;
  left = λ n h. let there = c.requires c.args.channel n (rejects-open c.args.channel (under n c.args.slots.now.slots) h) in (there.0, omega arith, there.1);
}

pub loop-place-preserved : goal.loop-place-preserved
loop-place-preserved c = record {
  within = omega arith;
  same = c.reject_at.ensures.same ∙ c.loop-place.invariant.same;
  spare = c.reject_at.ensures.room ∙ c.loop-place.invariant.spare;
  left = λ n h.
      let was = c.reject_at.ensures.left n h in
      let there = c.loop-place.invariant.left n was.1 in
      let P : ℕ → Type 0 = λ k. slice_get (numbers_on c.args.channel c.args.given.now.channels) k ≡ Some n in
      elim (eqb_tells there.0 c.loop-place.place) [
        | inl here ↦ absurd (was.0 (subst P here.1 there.2))
        | inr behind ↦ let apart : there.0 ≢ c.loop-place.place = behind.1 in (there.0, omega (arith, there.1), there.2)
      ];
}

pub returns-clause-slots : goal.returns-clause-slots
returns-clause-slots c =
    sym (close-done c.args.channel c.args.error c.loop-place.slots.slots (λ n. false_from_ne_true _ (λ h.
    let there = c.loop-place.invariant.left n h in
    let within : there.0 < length (numbers_on c.args.channel c.args.given.now.channels) = get-within (numbers_on c.args.channel c.args.given.now.channels) there.0 n there.2 in
    omega (arith, there.1, c.count-count.ensures))))
    ∙ c.loop-place.invariant.same
