use Rattle.std.proofs.Common.{◌≡◌, ◌++◌, map, take, drop}
use Rattle.lapin_keeping.specs.Fates.{begun_anew}
use Rattle.lapin_keeping.proofs.keeping.Keeping.begin_anew.Given as goal

abbrev pub invariant-loop-kept : goal.invariant-loop-kept
invariant-loop-kept l = l.kept-items ≡ map begun_anew (take l.kept-index l.fn.self.kept.items) ++ drop l.kept-index l.fn.self.kept.items
