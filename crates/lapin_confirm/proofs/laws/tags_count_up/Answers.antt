use Rattle.lapin_confirm.proofs.Tags.{tag-taken, place-next, place-first, place-still}
use Rattle.lapin_confirm.proofs.laws.tags_count_up.Goals as goal

pub returns : goal.returns
returns c = record { tag = tag-taken; next = place-next; first = place-first; still = place-still }
