use Rattle.std.proofs.Common.{refl, ◌∙◌, arith}
use Rattle.lapin_values.proofs.TableLemmas.{keys_below-le, put_over, put_beside}
use Rattle.lapin_values.proofs.value.table.put_at.Goals as goal

pub returns-then-is_at : goal.returns-then-is_at
returns-then-is_at c =
    put_over c.args.key c.args.value c.args.entries.now.items _ _ _ _ _ c.index_mut-entry.result.now refl c.deref.ensures.value refl c.as_str.ensures.value c.requires c.if-is_at.ensures.found c.if-is_at.ensures.same
    c.index_mut-entry.ensures.value

pub returns : goal.returns
returns c =
    c.in_ok-insert.ensures.items
    ∙ put_beside c.args.key c.args.value c.args.entries.now.items _ _ _ _ _ (c.args.key, c.args.value) refl c.deref.ensures.value refl c.as_str.ensures.value c.requires c.if-is_at.ensures.same

pub insert-requires : goal.insert-requires
insert-requires c = omega (arith, c.requires, keys_below-le c.args.key c.args.entries.now.items)
