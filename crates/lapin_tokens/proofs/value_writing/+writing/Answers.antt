use Rattle.std.proofs.Common.{◌≡◌, ◌++◌, ◌∷◌, ◌∙◌, ℕ, List, [], length, arith, ap, sym}
use Rattle.std.proofs.lemmas.Result.{on_ok_weaker}
use Rattle.lapin_values.specs.DataOf.{data_of}
use Rattle.lapin_values.specs.declared.value.AMQPValue.{AMQPValue}
use Rattle.lapin_tokens.specs.Values.{value_text, array_text, table_text}
use Rattle.lapin_tokens.specs.Writing.{members_text, pair_text}
use Rattle.lapin_tokens.proofs.WritingLaws.{array_written, table_written, array_behind, table_behind, leaf_alone}
use Rattle.lapin_tokens.proofs.value_writing.+writing.Goals as goal

pub put_array-returns : goal.put_array-returns
put_array-returns t c =
    let all : c.loop-place.place ≡ length c.args.array.now = omega (arith, c.len-place-end.ensures) in
    c.in_ok-push-2.ensures.items
    ∙ ap (λ (o : List ℕ). o ++ 93 ∷ []) (c.loop-place.invariant ∙ ap (λ (n : ℕ). (c.args.out.now.items ++ 91 ∷ []) ++ members_text value_text c.args.array.now n) all)
    ∙ array_written c.args.out.now.items c.args.array.now

pub put_table-returns : goal.put_table-returns
put_table-returns t c =
    let all : c.loop-place.place ≡ length c.args.table.now = omega (arith, c.len-place-end.ensures.count) in
    c.in_ok-push-2.ensures.items
    ∙ ap (λ (o : List ℕ). o ++ 125 ∷ []) (c.loop-place.invariant ∙ ap (λ (n : ℕ). (c.args.out.now.items ++ 123 ∷ []) ++ members_text pair_text c.args.table.now n) all)
    ∙ table_written c.args.out.now.items c.args.table.now

pub put_value-returns-in_ok-push-in-FieldArray : goal.put_value-returns-in_ok-push-in-FieldArray
put_value-returns-in_ok-push-in-FieldArray t c =
    on_ok_weaker c.put_array.result
    (λ e. e ∙ ap (λ (o : List ℕ). o ++ array_text c.in-FieldArray.array) (c.in_ok-push-in-FieldArray.ensures.items ∙ ap (λ (b : ℕ). c.args.out.now.items ++ b ∷ []) c.byte_of.ensures)
    ∙ array_behind c.args.out.now.items c.in-FieldArray.array ∙ ap (λ (v : AMQPValue). c.args.out.now.items ++ value_text (data_of v)) (sym c.in-FieldArray.is))
    c.put_array.ensures

pub put_value-returns-in_ok-push-in-FieldTable : goal.put_value-returns-in_ok-push-in-FieldTable
put_value-returns-in_ok-push-in-FieldTable t c =
    on_ok_weaker c.put_table.result
    (λ e. e ∙ ap (λ (o : List ℕ). o ++ table_text c.in-FieldTable.table) (c.in_ok-push-in-FieldTable.ensures.items ∙ ap (λ (b : ℕ). c.args.out.now.items ++ b ∷ []) c.byte_of-in-FieldTable.ensures)
    ∙ table_behind c.args.out.now.items c.in-FieldTable.table ∙ ap (λ (v : AMQPValue). c.args.out.now.items ++ value_text (data_of v)) (sym c.in-FieldTable.is))
    c.put_table.ensures

pub put_value-returns-in_default : goal.put_value-returns-in_default
put_value-returns-in_default t c =
    on_ok_weaker c.put_leaf.result
    (λ e. e ∙ ap (λ (r : List ℕ). c.args.out.now.items ++ r) (leaf_alone c.args.value.now c.in_default.not-FieldArray c.in_default.not-FieldTable))
    c.put_leaf.ensures
