use Rattle.std.proofs.Common.{List, ℕ, subst}
use Rattle.lapin_program.specs.Outcome.{PrintsToBadLine}
use Rattle.lapin_program.proofs.Complete.{told_bad_line}
use Rattle.lapin_program.proofs.in_memory.run_in_memory.Goals as goal

pub returns-clause-bad_line : goal.returns-clause-bad_line
returns-clause-bad_line c = record {
  holds = λ d say bad.
      subst (λ (i : List ℕ). PrintsToBadLine d i c.run_program-status.new.sink) c.new-source.ensures.left
      (told_bad_line d c.new-source.result.left _ c.new-sink.result c.run_program-status.new.sink _ _ c.new-sink.ensures (c.run_program-status.ensures.bad_line.holds d say bad));
}
