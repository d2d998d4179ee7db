use Rattle.std.proofs.Common.{◌∙◌, ◌+◌, ◌-◌, ◌/◌, ◌<◌, sym, ap, arith, length, inl, inr}
use Rattle.std.proofs.lemmas.Bool.{cases_lt}
use Rattle.lapin_tables.proofs.Passed.{place-known, place-unknown, below-middle, above-middle}
use Rattle.lapin_tables.proofs.numbered.find.Goals as goal

pub returns-then-at-number : goal.returns-then-at-number
returns-then-at-number g c =
    let within : c.loop-low.low + (c.loop-low.high - c.loop-low.low) / 2 < length c.args.behind.now.items = omega (arith, c.loop-low.invariant.within) in
    sym (place-known 0 _ _ _ c.index.result.now c.requires within (ap (λ e. e.0) (sym c.index.ensures) ∙ c.if-at-number.true))

pub loop-low-preserved-then-at-number-2 : goal.loop-low-preserved-then-at-number-2
loop-low-preserved-then-at-number-2 g c =
    let within : c.loop-low.low + (c.loop-low.high - c.loop-low.low) / 2 < length c.args.behind.now.items = omega (arith, c.loop-low.invariant.within) in
    record {
      within = c.loop-low.invariant.within;
      below = λ k d h inside. below-middle k _ _ _ d c.index.result.now c.requires (omega arith) within c.index.ensures c.if-at-number-2.true;
      above = c.loop-low.invariant.above;
    }

pub loop-low-preserved : goal.loop-low-preserved
loop-low-preserved g c =
    let within : c.loop-low.low + (c.loop-low.high - c.loop-low.low) / 2 < length c.args.behind.now.items = omega (arith, c.loop-low.invariant.within) in
    record {
      within = omega arith;
      below = c.loop-low.invariant.below;
      above = λ k d h inside. above-middle k _ _ _ d c.index.result.now c.requires h inside c.index.ensures (omega arith);
    }

pub returns : goal.returns
returns g c = sym (place-unknown _ _ (λ p d inside.
    elim (cases_lt p c.loop-low.low) [
      | inl below ↦ let less = c.loop-low.invariant.below p d below inside in omega arith
      | inr past ↦ let more = c.loop-low.invariant.above p d (omega arith) inside in omega arith
    ]))
