use Rattle.std.proofs.Common.{eqb, ap, sym, ◌∙◌, subst, arith, None}
use Rattle.std.proofs.lemmas.List.{take_rest}
use Rattle.memchr.specs.Find.{IsFirstByte}
use Rattle.lapin_tokens.proofs.FirstPlace.{moved, first_here, first_behind, first_is_position}
use Rattle.lapin_tokens.proofs.tokens.first_space.Goals as goal

pub returns-then-line-place-eq32 : goal.returns-then-line-place-eq32
returns-then-line-place-eq32 c = first_here (λ b. eqb b 32) c.args.line.now c.loop-place.place c.if-place-line.true c.loop-place.invariant.before (ap (λ b. eqb b 32) c.if-line-place-eq32.true)

pub returns-in-Some : goal.returns-in-Some
returns-in-Some c =
    let rest = take_rest c.args.line.now c.loop-place.place in
    ap (moved c.loop-place.place) (sym c.in-Some.is) ∙ first_behind (λ b. eqb b 32) c.args.line.now c.loop-place.place c.memchr.result c.loop-place.invariant.within c.loop-place.invariant.before (subst (λ l. IsFirstByte (λ b. eqb b 32) l c.memchr.result) rest c.memchr.ensures)

pub returns-in-None : goal.returns-in-None
returns-in-None c =
    let rest = take_rest c.args.line.now c.loop-place.place in
    ap (moved c.loop-place.place) (sym c.in-None.is) ∙ first_behind (λ b. eqb b 32) c.args.line.now c.loop-place.place c.memchr.result c.loop-place.invariant.within c.loop-place.invariant.before (subst (λ l. IsFirstByte (λ b. eqb b 32) l c.memchr.result) rest c.memchr.ensures)

pub returns-then-place-line-2 : goal.returns-then-place-line-2
returns-then-place-line-2 c =
    first_is_position (λ b. eqb b 32) c.args.line.now None (λ k low below passes.
    let fails = c.loop-place.invariant.before k (omega arith) in
    absurd cc)
