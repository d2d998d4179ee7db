-- Turns one behind the other.
use Rattle.std.proofs.Common.{◌≢◌, ℕ, ◌+◌, add-one, Ok}
use Rattle.lapin_acker.specs.declared.verdict.Verdict.{Verdict}
use Rattle.lapin_shared.specs.Grown.{Seen}
use Rattle.lapin_work.specs.declared.work.Work.{Work}
use Rattle.lapin_work.specs.declared.work.Work.TheVariants as work
use Rattle.lapin_work.specs.Jobs.{Handed}
use Rattle.lapin_work.specs.Worked.{Worked}
use Rattle.lapin_work.specs.Ran.{Ran}

pub ran_more : (none : ℕ → Type 0) (may : ℕ → Handed → Verdict → Type 0) (n : ℕ) (a b c : Seen) (w : Work) → Ran none may n a b → w ≢ work.NoJob → Worked none may b (Ok w) c
    → Ran none may (n + 1) a c
ran_more none may n a b c w r job more = rw add-one (b, w, r, job, more)
