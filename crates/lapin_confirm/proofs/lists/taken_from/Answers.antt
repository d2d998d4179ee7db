use Rattle.std.proofs.Common.{◌≡◌, ℕ, ◌<◌, true, false, Some, sym, ◌∙◌, ap, length, arith}
use Rattle.lapin_types.specs.declared.message.BasicReturnMessage.{BasicReturnMessage}
use Rattle.lapin_confirm.proofs.Places.{place-none, place-some}
use Rattle.lapin_confirm.proofs.lists.taken_from.Goals as goal

pub returns-in_default-clause-message : goal.returns-in_default-clause-message
returns-in_default-clause-message c = sym (place-none c.args.number c.args.attached.now.items (sym c.in_default.ensures)).0

pub returns-in_default-clause-items : goal.returns-in_default-clause-items
returns-in_default-clause-items c = sym (place-none c.args.number c.args.attached.now.items (sym c.in_default.ensures)).1

pub returns-in-Some-remove-clause-message : goal.returns-in-Some-remove-clause-message
returns-in-Some-remove-clause-message c =
    let there = place-some c.args.number c.in-Some.place c.args.attached.now.items (sym c.in-Some.ensures) in
    ap (λ (x : ℕ × BasicReturnMessage). Some x.1) c.in-Some-remove.ensures.value ∙ sym (there.message _)

pub returns-in-Some-remove-clause-items : goal.returns-in-Some-remove-clause-items
returns-in-Some-remove-clause-items c =
    let there = place-some c.args.number c.in-Some.place c.args.attached.now.items (sym c.in-Some.ensures) in
    c.in-Some-remove.ensures.items ∙ sym there.without

pub returns-in-None-clause-message : goal.returns-in-None-clause-message
returns-in-None-clause-message c =
    let there = place-some c.args.number c.in-Some.place c.args.attached.now.items (sym c.in-Some.ensures) in
    let within : c.in-Some.place < length c.args.attached.now.items = there.within in
    let no : false ≡ true = c.in-None.ensures.variant.1 (omega arith) in
    cc

pub returns-in-None-clause-items : goal.returns-in-None-clause-items
returns-in-None-clause-items c =
    let there = place-some c.args.number c.in-Some.place c.args.attached.now.items (sym c.in-Some.ensures) in
    let within : c.in-Some.place < length c.args.attached.now.items = there.within in
    let no : false ≡ true = c.in-None.ensures.variant.1 (omega arith) in
    cc
