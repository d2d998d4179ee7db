use Rattle.std.proofs.Common.{◌≡◌, ◌≤◌, ◌+◌, ◌++◌, drop}
use Rattle.lapin_keeping.specs.Keepings.{fates}
use Rattle.lapin_keeping.specs.Runs.{told}
use Rattle.lapin_keeping.proofs.keeping.tell_all.Given as goal

abbrev pub invariant-loop-kept : goal.invariant-loop-kept
invariant-loop-kept l = record {
  told : told l.runs.items ++ fates (drop l.kept-index l.messages) ≡ told l.fn.runs.items ++ fates l.messages;
  len : l.runs.len ≤ l.fn.runs.len + l.kept-index;
  cap : l.runs.cap ≡ l.fn.runs.cap;
}
