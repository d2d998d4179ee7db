use Rattle.std.proofs.Common.{◌≡◌, ℕ, List, cond, sym, subst, ap, ◌∙◌, is_ok, vec_items}
use Rattle.lapin_values.specs.Table.{IsRising, put, rows}
use Rattle.lapin_values.specs.declared.value.AMQPValue.{AMQPValue}
use Rattle.lapin_values.proofs.TableLemmas.{put_or_not, rising_or_not}
use Rattle.lapin_values.proofs.value.FieldTable.insert.Goals as goal

pub invariant_of-self : goal.invariant_of-self
invariant_of-self c =
    let old : vec_items c.deref_mut.result.now ≡ rows c.self.inside.entries = ap vec_items c.deref_mut.ensures.value ∙ sym (ap rows c.in-Some.is) in
    let either = λ (xs : List (List ℕ × AMQPValue)). cond (is_ok c.put_entry.result) (put c.args.key c.args.value xs) xs in
    subst IsRising (sym (c.put_entry.ensures ∙ ap either old)) (rising_or_not (is_ok c.put_entry.result) c.args.key c.args.value (rows c.self.inside.entries) c.self.invariant)

pub returns-in-Some : goal.returns-in-Some
returns-in-Some c =
    let old : vec_items c.deref_mut.result.now ≡ rows c.self.inside.entries = ap vec_items c.deref_mut.ensures.value ∙ sym (ap rows c.in-Some.is) in
    let either = λ (xs : List (List ℕ × AMQPValue)). cond (is_ok c.put_entry.result) (put c.args.key c.args.value xs) xs in
    put_or_not (is_ok c.put_entry.result) c.args.key c.args.value (rows c.self.inside.entries) _ _ (c.put_entry.ensures ∙ ap either old) c.self.view_is
