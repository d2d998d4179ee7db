-- How the log of a worker grows in its turns.
use Rattle.std.specs.Prelude.{◌≡◌, ◌≢◌, ℕ, ◌⊎◌, Bool, true, false, Ok, Err, zero, suc}
use Rattle.lapin_acker.specs.declared.verdict.Verdict.{Verdict}
use Rattle.lapin_threads.specs.declared.tally.Tally.{Tally}
use Rattle.lapin_shared.specs.declared.caller.StepError.{StepError}
use Rattle.lapin_shared.specs.Grown.{Seen}
use Rattle.lapin_work.specs.declared.work.Work.{Work}
use Rattle.lapin_work.specs.declared.work.Work.TheVariants as work
use Rattle.lapin_work.specs.Jobs.{Handed}
use Rattle.lapin_work.specs.Worked.{Worked}

-- n turns, each of which took a job
abbrev pub Ran : (ℕ → Type 0) → (ℕ → Handed → Verdict → Type 0) → ℕ → Seen → Seen → Type 0
Ran none may zero a c = c ≡ a
Ran none may (suc n) a c = (b : Seen) × (w : Work) × Ran none may n a b × (w ≢ work.NoJob) × Worked none may b (Ok w) c

-- the worker took n jobs, and then had had its turns or found no job, or else found no memory
abbrev pub Ended : (ℕ → Type 0) → (ℕ → Handed → Verdict → Type 0) → ℕ → Seen → ℕ → Bool → Seen → Type 0
Ended none may turns a n false c = (Ran none may n a c × (n ≡ turns)) ⊎ ((b : Seen) × Ran none may n a b × Worked none may b (Ok work.NoJob) c)
Ended none may turns a n true c = (b : Seen) × (e : StepError) × Ran none may n a b × Worked none may b (Err e) c

-- the same with a tally, which counts the jobs that were taken and says whether memory was wanting
abbrev pub EndedSo : (ℕ → Type 0) → (ℕ → Handed → Verdict → Type 0) → ℕ → Seen → Tally → Seen → Type 0
EndedSo none may turns a r c = Ended none may turns a r.count r.short c
