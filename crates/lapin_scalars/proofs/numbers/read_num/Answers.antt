use Rattle.std.proofs.Common.{ℕ, arith, rules, Option, Some, None}
use Rattle.std.specs.Prelude.{IfNone}
use Rattle.std.proofs.lemmas.Int.Digits.{digits_more, digits_value_more}
use Rattle.lapin_scalars.proofs.NumberLaws.{starts_as_decimal, num_found, num_none}
use Rattle.lapin_scalars.proofs.numbers.read_num.Goals as goal

if_none : (r : Option ℕ) (P : Type 0) → P → IfNone r P
if_none None P p = p
if_none (Some n) P p = tt

pub returns-then-not-starts_plainly-clause-none : goal.returns-then-not-starts_plainly-clause-none
returns-then-not-starts_plainly-clause-none c = λ n lt e. let yes = c.starts_plainly.ensures.1 (starts_as_decimal _ n lt e) in cc

pub returns-in_err-number-clause-none : goal.returns-in_err-number-clause-none
returns-in_err-number-clause-none c = if_none c.from_residual.result _ (num_none c.args.piece.now c.loop-byte.byte-index c.loop-byte.number (omega arith) c.loop-byte.invariant.0 c.in_err-number.ensures.none)

pub loop-byte-preserved : goal.loop-byte-preserved
loop-byte-preserved c =
    let more = c.in_ok-number.ensures.some in
    let value = digits_value_more 10 c.args.piece.now c.loop-byte.byte-index (omega arith) in
    (omega (arith, more.1, c.loop-byte.invariant.0, value), more.2, digits_more 10 c.args.piece.now c.loop-byte.byte-index (omega arith) c.loop-byte.invariant.2 more.0)

pub returns-clause-found : goal.returns-clause-found
returns-clause-found c = num_found c.args.piece.now c.loop-byte.byte-index c.loop-byte.number (omega arith) (c.starts_plainly.ensures.0 (search rules)) c.loop-byte.invariant.0 c.loop-byte.invariant.2 c.loop-byte.invariant.1
