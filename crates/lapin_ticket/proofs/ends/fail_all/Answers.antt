use Rattle.std.proofs.Common.{◌≢◌, ◌≤◌, ◌∙◌, Err, suc, sym, refl, arith}
use Rattle.lapin_tables.proofs.SlotLaws.{given, first-least, first-none}
use Rattle.lapin_ticket.proofs.Failing.{answered-before, answered-none, still_open, first-positive}
use Rattle.lapin_ticket.proofs.ends.fail_all.Goals as goal

pub returns-in_default-clause-slots : goal.returns-in_default-clause-slots
returns-in_default-clause-slots c = sym (answered-none (Err c.args.error) c.args.slots.now.slots (λ k s open_there _. first-none (suc k) s c.args.slots.now.slots (sym c.in_default.ensures) open_there))

pub loop-number-init : goal.loop-number-init
loop-number-init c = record {
  same = refl;
  spare = refl;
  open_left = λ n s there _.
      let least : c.in-Some.first ≤ n = first-least n c.in-Some.first s c.args.slots.now.slots (sym c.in-Some.ensures) there in
      let last = given n s c.args.slots.now.slots there in
      (least, omega (arith, last, c.count-number.ensures));
}

pub overflow_sub-number : goal.overflow_sub-number
overflow_sub-number c = let one : 1 ≤ c.in-Some.first = first-positive c.in-Some.first c.args.slots.now.slots (sym c.in-Some.ensures) in omega arith

pub loop-number-smaller : goal.loop-number-smaller
loop-number-smaller c = let one : 1 ≤ c.in-Some.first = first-positive c.in-Some.first c.args.slots.now.slots (sym c.in-Some.ensures) in omega arith

pub loop-number-preserved : goal.loop-number-preserved
loop-number-preserved c = record {
  same = rw c.fail.ensures.slots (answered-before c.loop-number.number (Err c.args.error) c.loop-number.slots.slots) ∙ c.loop-number.invariant.same;
  spare = c.fail.ensures.room ∙ c.loop-number.invariant.spare;
  open_left = λ n s there open_.
      let was = still_open c.loop-number.number n (Err c.args.error) c.loop-number.slots.slots s (rw c.fail.ensures.slots at there) open_ in
      let apart : n ≢ c.loop-number.number = was.0 in
      let within = c.loop-number.invariant.open_left n s was.1 open_ in
      (within.0, omega (arith, within.1));
}

pub returns-clause-slots : goal.returns-clause-slots
returns-clause-slots c =
    sym (answered-none (Err c.args.error) c.loop-number.slots.slots (λ k s there open_. let within = c.loop-number.invariant.open_left (suc k) s there open_ in absurd (omega (arith, within.0, within.1))))
    ∙ c.loop-number.invariant.same
