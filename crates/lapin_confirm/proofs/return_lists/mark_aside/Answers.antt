use Rattle.std.proofs.Common.{true, subst}
use Rattle.lapin_tables.specs.Packed.{Replaces}
use Rattle.lapin_confirm.specs.Marks.{origin_told, origin_mark}
use Rattle.lapin_confirm.proofs.Marking.{aside-replaces}
use Rattle.lapin_confirm.proofs.return_lists.mark_aside.Goals as goal

pub set-requires-clause-replaces : goal.set-requires-clause-replaces
set-requires-clause-replaces c = subst (λ o. Replaces origin_told origin_mark (record c.in-Some.origin { aside = true }) o) c.in-Some.ensures.value (aside-replaces c.in-Some.origin)
