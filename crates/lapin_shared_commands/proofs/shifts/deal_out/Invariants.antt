use Rattle.std.proofs.Common.{◌≡◌, ◌++◌, List, length, vec_len}
use Rattle.lapin_types.specs.declared.event.Event.{Event}
use Rattle.lapin_shared_commands.specs.Dealt.{AreDealt}
use Rattle.lapin_shared_commands.proofs.shifts.deal_out.Given as goal

-- the events that are no longer left were dealt
abbrev pub invariant-loop-event : goal.invariant-loop-event
invariant-loop-event g l = record {
  count : length l.shifts ≡ length l.fn.shifts;
  dealt : (es : List Event) × (l.events.items ++ es ≡ l.fn.events.items) × AreDealt (length l.fn.shifts) (length l.events.items) es 1 l.shifts;
}

abbrev pub decreases-loop-event : goal.decreases-loop-event
decreases-loop-event g l = vec_len l.events
