use Rattle.std.proofs.Common.{◌∙◌, ◌<◌, length, sym, ap, arith, slice_set}
use Rattle.std.proofs.lemmas.List.Edits.{map_over_more}
use Rattle.lapin_call.specs.Fates.{ended_by}
use Rattle.lapin_call.proofs.fates.end_waiting.Goals as goal

pub loop-fate-preserved : goal.loop-fate-preserved
loop-fate-preserved c =
    let within : c.loop-fate.fate-index < length c.args.fates.now.items = omega (arith, c.loop-fate-test.true, ap length c.deref_mut-fate-items.ensures.value) in
    ap (λ f. slice_set c.loop-fate.fate-items c.loop-fate.fate-index f) (c.end.ensures ∙ ap (ended_by c.args.error) (sym c.fate-item.is))
    ∙ map_over_more (ended_by c.args.error) c.args.fates.now.items c.loop-fate.fate-items c.loop-fate.fate-index c.fate-item.result within c.loop-fate.invariant c.fate-item.is
