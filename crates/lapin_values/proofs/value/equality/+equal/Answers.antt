use Rattle.std.proofs.Common.{◌≡◌, sym, ap, ◌∙◌, vec_items}
use Rattle.lapin_values.specs.Table.{rows}
use Rattle.lapin_values.specs.DataOf.{data_of, to_pair}
use Rattle.lapin_values.specs.ValueOf.{values_same, entries_same, read_Decides}
use Rattle.lapin_values.proofs.value.equality.+equal.Goals as goal

pub same_array-returns : goal.same_array-returns
same_array-returns t c = read_Decides data_of values_same c.a.view_is c.b.view_is c.deref.ensures.value c.deref-2.ensures.value c.same_items.ensures

pub same_table-returns-in-Some-Some : goal.same_table-returns-in-Some-Some
same_table-returns-in-Some-Some t c =
    let left : c.deref-in-Some-Some.result.now ≡ rows c.a.inside.entries = c.deref-in-Some-Some.ensures.value ∙ ap vec_items c.deref.ensures ∙ sym (ap rows c.in-Some-Some.is-0) in
    let right : c.deref-in-Some-Some-3.result.now ≡ rows c.b.inside.entries = c.deref-in-Some-Some-3.ensures.value ∙ ap vec_items c.deref-in-Some-Some-2.ensures ∙ sym (ap rows c.in-Some-Some.is-1) in
    read_Decides to_pair entries_same c.a.view_is c.b.view_is left right c.same_entries.ensures
