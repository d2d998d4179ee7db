use Rattle.std.proofs.Common.{◌+◌, ◌*◌, ◌<◌, length, get_or, arith, below_more}
use Rattle.std.proofs.lemmas.Int.Digits.{digits_more, digits_value_more}
use Rattle.std.specs.Char.{digit_value}
use Rattle.lapin_tokens.proofs.SaidLaws.{few_digits, digit_more}
use Rattle.lapin_tokens.proofs.digits.digits_ahead.Goals as goal

pub overflow_mul-number : goal.overflow_mul-number
overflow_mul-number c =
    let room = c.in-Some.ensures.within in
    let digit = c.in-Some.ensures.digit in
    let more = digit_more c.loop-digit.number c.in-Some.digit c.loop-digit.place c.loop-digit.invariant.small digit.0 in
    let fits = few_digits (c.loop-digit.number * 10 + c.in-Some.digit) (c.loop-digit.place + 1) more (omega (arith, room.0)) in
    omega (arith, fits)

pub overflow_add-number : goal.overflow_add-number
overflow_add-number c =
    let room = c.in-Some.ensures.within in
    let digit = c.in-Some.ensures.digit in
    let more = digit_more c.loop-digit.number c.in-Some.digit c.loop-digit.place c.loop-digit.invariant.small digit.0 in
    let fits = few_digits (c.loop-digit.number * 10 + c.in-Some.digit) (c.loop-digit.place + 1) more (omega (arith, room.0)) in
    omega (arith, fits)

pub loop-digit-preserved : goal.loop-digit-preserved
loop-digit-preserved c =
    let room = c.in-Some.ensures.within in
    let digit = c.in-Some.ensures.digit in
    let lt : c.loop-digit.place < length c.args.line.now = room.1 in
    let value = digits_value_more 10 c.args.line.now c.loop-digit.place lt in
    let below : digit_value (get_or c.args.line.now c.loop-digit.place 0) < 10 = omega (arith, digit.0, digit.1) in
    record {
      within = omega (arith, room.1);
      few = omega (arith, room.0);
      small = digit_more c.loop-digit.number c.in-Some.digit c.loop-digit.place c.loop-digit.invariant.small digit.0;
      value = omega (arith, c.loop-digit.invariant.value, value, digit.1);
      digits = digits_more 10 c.args.line.now c.loop-digit.place lt c.loop-digit.invariant.digits below;
      before = below_more _ _ c.loop-digit.invariant.before c.in-Some.ensures.no_space;
    }
