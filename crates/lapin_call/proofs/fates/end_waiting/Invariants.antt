use Rattle.std.proofs.Common.{◌≡◌, ◌++◌, map, take, drop}
use Rattle.lapin_call.specs.Fates.{ended_by}
use Rattle.lapin_call.proofs.fates.end_waiting.Given as goal

abbrev pub invariant-loop-fate : goal.invariant-loop-fate
invariant-loop-fate l = l.fate-items ≡ map (ended_by l.error) (take l.fate-index l.fn.fates.items) ++ drop l.fate-index l.fn.fates.items
