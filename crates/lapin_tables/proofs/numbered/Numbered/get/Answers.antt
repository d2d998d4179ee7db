use Rattle.std.proofs.Common.{◌≡◌, ◌∙◌, ◌≤◌, ◌<◌, sym, refl, arith, length, true, false, None, inl, inr}
use Rattle.std.proofs.lemmas.Bool.{cases_lt}
use Rattle.std.proofs.lemmas.List.{get_or_past}
use Rattle.lapin_tables.proofs.Slots.{under_kept, under_passed, under-read}
use Rattle.lapin_tables.proofs.numbered.Numbered.get.Goals as goal

pub returns-in_default-clause-value : goal.returns-in_default-clause-value
returns-in_default-clause-value g c = rw (← c.self.view_is) (c.value_behind.ensures ∙ sym (under_passed _ _ _ _ c.in_default.ensures c.self.invariant.2))

pub returns-then-is_above-clause-value : goal.returns-then-is_above-clause-value
returns-then-is_above-clause-value g c = rw (← c.self.view_is) (sym (under_passed _ _ _ _ c.in_default.ensures c.self.invariant.2 ∙ c.is_above.ensures c.if-is_above.true))

pub returns-in_err-slot-clause-value : goal.returns-in_err-slot-clause-value
returns-in_err-slot-clause-value g c =
    let past : length c.self.inside.slots.items ≤ c.in-Some.place =
    elim (cases_lt c.in-Some.place (length c.self.inside.slots.items)) [
      | inl below ↦ let no : false ≡ true = c.in_err-slot.ensures.variant.1 (omega arith) in cc
      | inr past ↦ past
    ] in
    rw (← c.self.view_is, c.from_residual.ensures) (sym (under_kept _ _ _ _ _ c.in-Some.ensures ∙ get_or_past c.self.inside.slots.items c.in-Some.place None past))

pub returns-clause-value : goal.returns-clause-value
returns-clause-value g c =
    let within : c.in-Some.place < length c.self.inside.slots.items = omega (arith, c.in_ok-slot.ensures.variant.0 refl) in
    rw (← c.self.view_is) (c.as_ref.ensures.value ∙ sym (under-read _ c.in-Some.place _ _ c.self.inside.slots.items _ c.in-Some.ensures within c.in_ok-slot.ensures.lookup))
