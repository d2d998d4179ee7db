use Rattle.std.proofs.Common.{◌≡◌, ◌∙◌, ◌++◌, ◌≤◌, ◌<◌, sym, refl, arith, length, slice_set, true, false, None, inl, inr}
use Rattle.std.proofs.lemmas.Bool.{cases_lt}
use Rattle.std.proofs.lemmas.List.{get_or_past}
use Rattle.lapin_tables.specs.Behind.{spread}
use Rattle.lapin_tables.proofs.Passed.{spread-let_go}
use Rattle.lapin_tables.proofs.Slots.{with-kept, with-past, with-passed, under_kept, under_passed, under-read}
use Rattle.lapin_tables.proofs.numbered.Numbered.take.Goals as goal

pub returns-in_default-clause-value : goal.returns-in_default-clause-value
returns-in_default-clause-value g c = rw (← c.self.view_is) (c.take_behind.ensures.value ∙ sym (under_passed _ _ _ _ c.in_default.ensures c.self.invariant.2))

pub returns-in_default-clause-slots : goal.returns-in_default-clause-slots
returns-in_default-clause-slots g c = rw (← c.self.view_is) (sym (with-passed _ _ None _ _ _ c.in_default.ensures c.take_behind.ensures.gone c.take_behind.ensures.others))

pub returns-in_err-get_mut-clause-value : goal.returns-in_err-get_mut-clause-value
returns-in_err-get_mut-clause-value g c =
    let past : length c.self.inside.slots.items ≤ c.in-Some.place =
    elim (cases_lt c.in-Some.place (length c.self.inside.slots.items)) [
      | inl below ↦ let no : false ≡ true = c.in_err-get_mut.ensures.variant.1 (omega arith) in cc
      | inr past ↦ past
    ] in
    let result : c.from_residual.result ≡ None = c.from_residual.ensures in
    rw (← c.self.view_is) (result ∙ sym (under_kept _ _ _ _ _ c.in-Some.ensures ∙ get_or_past c.self.inside.slots.items c.in-Some.place None past))

pub returns-in_err-get_mut-clause-slots : goal.returns-in_err-get_mut-clause-slots
returns-in_err-get_mut-clause-slots g c =
    let past : length c.self.inside.slots.items ≤ c.in-Some.place =
    elim (cases_lt c.in-Some.place (length c.self.inside.slots.items)) [
      | inl below ↦ let no : false ≡ true = c.in_err-get_mut.ensures.variant.1 (omega arith) in cc
      | inr past ↦ past
    ] in
    rw (← c.self.view_is) (sym (with-past _ _ _ None _ _ c.in-Some.ensures past))

pub returns-then-place-ge-FAR-clause-value : goal.returns-then-place-ge-FAR-clause-value
returns-then-place-ge-FAR-clause-value g c =
    let within : c.in-Some.place < length c.self.inside.slots.items = omega (arith, c.in_ok-get_mut.ensures.variant.0 refl) in
    rw (← c.self.view_is) (c.take-value.ensures.value ∙ sym (under-read _ c.in-Some.place _ _ c.self.inside.slots.items _ c.in-Some.ensures within c.in_ok-get_mut.ensures.value))

pub returns-then-place-ge-FAR-clause-slots : goal.returns-then-place-ge-FAR-clause-slots
returns-then-place-ge-FAR-clause-slots g c =
    let es = c.self.inside.behind.items in
    let xs = c.self.inside.slots.items in
    let shown : spread 0 c.let_go.new.gone es ++ c.let_go.new.slots.items ≡ spread 0 c.self.inside.let_go es ++ slice_set xs c.in-Some.place None =
    spread-let_go 0 _ _ es _ _ c.let_go.ensures.grows (λ n past. c.self.invariant.3 n (omega arith)) (rw c.take-value.ensures.after at c.let_go.ensures.slots) in
    rw (← c.self.view_is) (c.pass_over.ensures.slots ∙ shown ∙ sym (with-kept _ _ _ None _ _ c.in-Some.ensures))

pub returns-else-place-ge-FAR-clause-value : goal.returns-else-place-ge-FAR-clause-value
returns-else-place-ge-FAR-clause-value g c =
    let within : c.in-Some.place < length c.self.inside.slots.items = omega (arith, c.in_ok-get_mut.ensures.variant.0 refl) in
    rw (← c.self.view_is) (c.take-value.ensures.value ∙ sym (under-read _ c.in-Some.place _ _ c.self.inside.slots.items _ c.in-Some.ensures within c.in_ok-get_mut.ensures.value))

pub returns-else-place-ge-FAR-clause-slots : goal.returns-else-place-ge-FAR-clause-slots
returns-else-place-ge-FAR-clause-slots g c =
    let es = c.self.inside.behind.items in
    let xs = c.self.inside.slots.items in
    let shown : spread 0 c.let_go.new.gone es ++ c.let_go.new.slots.items ≡ spread 0 c.self.inside.let_go es ++ slice_set xs c.in-Some.place None =
    spread-let_go 0 _ _ es _ _ c.let_go.ensures.grows (λ n past. c.self.invariant.3 n (omega arith)) (rw c.take-value.ensures.after at c.let_go.ensures.slots) in
    rw (← c.self.view_is) (shown ∙ sym (with-kept _ _ _ None _ _ c.in-Some.ensures))
