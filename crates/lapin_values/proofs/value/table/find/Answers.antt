use Rattle.std.proofs.Common.{refl}
use Rattle.lapin_values.proofs.Search.{lookup_at, lookup_none}
use Rattle.lapin_values.proofs.value.table.find.Goals as goal

pub returns-then-is_at : goal.returns-then-is_at
returns-then-is_at c =
    lookup_at c.args.key.now c.args.entries.now _ _ c.place_of-place.ensures.below (c.if-is_at.ensures.found refl) (c.if-is_at.ensures.same _ (c.if-is_at.ensures.found refl))

pub returns-else-is_at : goal.returns-else-is_at
returns-else-is_at c = lookup_none c.args.key.now c.args.entries.now _ c.place_of-place.ensures.below c.requires c.if-is_at.ensures.same
