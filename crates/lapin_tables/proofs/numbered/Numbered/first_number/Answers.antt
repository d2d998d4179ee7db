use Rattle.std.proofs.Common.{◌≡◌, ◌<◌, refl, sym, arith, length, true, false, inl, inr}
use Rattle.std.proofs.lemmas.Bool.{cases_lt}
use Rattle.std.proofs.lemmas.Bool.Decides.{nat_tests}
use Rattle.lapin_tables.proofs.Slots.{none-passed, first-window, first-front}
use Rattle.lapin_tables.proofs.numbered.Numbered.first_number.Goals as goal

pub returns-in-Some : goal.returns-in-Some
returns-in-Some g c =
    let more : 0 < length c.self.inside.behind.items = omega (arith, c.in-Some.ensures.variant.0 refl) in
    rw (← c.self.view_is) (sym (first-front c.self.inside.let_go c.in-Some.entry.now c.self.inside.behind.items c.self.inside.slots.items more c.in-Some.ensures.lookup c.self.invariant.2 c.self.invariant.3))

pub returns-then-is_empty : goal.returns-then-is_empty
returns-then-is_empty g c =
    let nobody : length c.self.inside.behind.items ≡ 0 =
    elim (cases_lt 0 (length c.self.inside.behind.items)) [
      | inl some ↦ let no : false ≡ true = c.in_default.ensures.variant.1 (omega (arith, some)) in cc
      | inr none ↦ omega arith
    ] in
    let none : length c.self.inside.slots.items ≡ 0 = grind (arith, nat_tests, c.if-is_empty.ensures) in
    rw (← c.self.view_is) (sym (none-passed c.self.inside.let_go c.self.inside.behind.items c.self.inside.slots.items nobody none))

pub returns-else-is_empty : goal.returns-else-is_empty
returns-else-is_empty g c =
    let nobody : length c.self.inside.behind.items ≡ 0 =
    elim (cases_lt 0 (length c.self.inside.behind.items)) [
      | inl some ↦ let no : false ≡ true = c.in_default.ensures.variant.1 (omega (arith, some)) in cc
      | inr none ↦ omega arith
    ] in
    let more : 0 < length c.self.inside.slots.items = grind (arith, nat_tests, c.if-is_empty.ensures) in
    rw (← c.self.view_is) (sym (first-window c.self.inside.let_go c.self.inside.behind.items c.self.inside.slots.items nobody c.self.invariant.1 more))
