use Rattle.std.proofs.Common.{rules, refl}
use Rattle.lapin_pool.proofs.Seated.{seated_more, new_more}
use Rattle.lapin_pool.proofs.seating.seat_last.Goals as goal

pub loop-alloc-preserved : goal.loop-alloc-preserved
loop-alloc-preserved g c = record {
  callers = seated_more _ _ _ _ _ _ c.take_last-caller.ensures.items c.push_reserved.ensures.items c.loop-alloc.invariant.callers;
  new = new_more _ _ _ c.push_reserved.ensures.items c.new.ensures.items refl c.loop-alloc.invariant.new;
  some = search rules;
  within = search rules;
  room = search rules;
  free = search rules;
}
