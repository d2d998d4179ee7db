use Rattle.std.proofs.Common.{◌≡◌, ◌+◌, ◌-◌, ◌≤◌, sym, ap, ◌∙◌, arith, length}
use Rattle.lapin_confirm.specs.PublishStates.{span_from}
use Rattle.lapin_confirm.proofs.Spans.{first_given}
use Rattle.lapin_confirm.proofs.confirms.span_of.Goals as goal

pub overflow_sub-result : goal.overflow_sub-result
overflow_sub-result c = let in_range = first_given c.in-Some.least c.args.tags.now.slots (sym c.in-Some.ensures) in omega (arith, in_range.1, c.count.ensures)

pub overflow_add-result : goal.overflow_add-result
overflow_add-result c = let in_range = first_given c.in-Some.least c.args.tags.now.slots (sym c.in-Some.ensures) in omega (arith, in_range.0, in_range.1, c.count.ensures)

pub returns-in-Some : goal.returns-in-Some
returns-in-Some c =
    let in_range = first_given c.in-Some.least c.args.tags.now.slots (sym c.in-Some.ensures) in
    let low : 1 ≤ c.in-Some.least = in_range.0 in
    let high : c.in-Some.least ≤ length c.args.tags.now.slots = in_range.1 in
    let same : c.count.result - c.in-Some.least + 1 ≡ length c.args.tags.now.slots + 1 - c.in-Some.least = omega (arith, c.count.ensures) in
    same ∙ ap (span_from (length c.args.tags.now.slots)) c.in-Some.ensures
