use Rattle.std.proofs.Common.{ℕ, ◌≡◌, ◌+◌, ◌≤◌, ◌<◌, true, false, arith, w64}
use Rattle.std.proofs.lemmas.Nat.Bits.{bit_at-trailing_zeros}
use Rattle.lapin_full.specs.ChannelSet.{is_in}
use Rattle.lapin_full.proofs.Numbers.{first-here, marked-within, before-marked, behind-marked}
use Rattle.lapin_full.proofs.channel_set.first_marked.Goals as goal

pub loop-marked-init : goal.loop-marked-init
loop-marked-init c = record { from = omega arith; done = λ n on below inside. absurd (omega (arith, on, below)) }

pub number_at-requires : goal.number_at-requires
number_at-requires c = (omega (arith, c.from-place.ensures, marked-within c.args.words.now c.args.places.now c.in-Some.marked c.requires.marked c.in-Some.ensures.inside, c.requires.few), (bit_at-trailing_zeros w64 c.left_at-left.result (omega (arith, c.if-left-ne0.true)) c.left_at-left.type_inv).0)

pub returns-then-left-ne0 : goal.returns-then-left-ne0
returns-then-left-ne0 c =
    let none : (p : ℕ) → c.loop-marked.start ≤ p → p < c.from-place.result → is_in p c.args.places.now ≡ true → false ≡ true = λ p on up. c.in-Some.ensures.first p on (omega (arith, up, c.from-place.ensures)) in
    first-here c.args.words.now c.args.others.now c.from-place.result c.args.from c.left_at-left.result c.number_at.result (before-marked c.args.words.now c.args.others.now c.args.places.now c.args.from c.loop-marked.start c.from-place.result c.requires.marked c.loop-marked.invariant.done none) c.left_at-left.ensures (omega (arith, c.if-left-ne0.true)) c.left_at-left.type_inv c.number_at.ensures

pub loop-marked-preserved : goal.loop-marked-preserved
loop-marked-preserved c =
    let none : (p : ℕ) → c.loop-marked.start ≤ p → p < c.from-place.result → is_in p c.args.places.now ≡ true → false ≡ true = λ p on up. c.in-Some.ensures.first p on (omega (arith, up, c.from-place.ensures)) in
    record {
      from = omega (arith, c.loop-marked.invariant.from, c.in-Some.ensures.from_on, c.from-place.ensures);
      done = λ n on before. behind-marked c.args.words.now c.args.others.now c.args.places.now c.args.from c.loop-marked.start c.from-place.result c.requires.marked c.loop-marked.invariant.done none c.left_at-left.result c.left_at-left.ensures c.if-left-ne0.false n on (omega (arith, before));
    }

pub returns : goal.returns
returns c = λ n on. before-marked c.args.words.now c.args.others.now c.args.places.now c.args.from c.loop-marked.start (n + 1) c.requires.marked c.loop-marked.invariant.done (λ p start up. c.in_default.ensures p start) n on (omega arith)
