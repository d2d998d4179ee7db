-- How a log grows by a turn of work.
use Rattle.std.specs.Prelude.{◌≡◌, ◌≢◌, ℕ, ◌⊎◌, Option, Some, None, Result, Ok, Err}
use Rattle.lapin_types.specs.declared.job.Job.{Job}
use Rattle.lapin_types.specs.declared.job.JobKind.{JobKind}
use Rattle.lapin_types.specs.declared.job.JobKind.TheVariants as job_kind
use Rattle.lapin_types.specs.declared.acker_call.AckerCall.{AckerCall}
use Rattle.lapin_types.specs.declared.record.Record.{Record}
use Rattle.lapin_types.specs.declared.event.Event.TheVariants as event
use Rattle.lapin_acker.specs.declared.verdict.Verdict.{Verdict}
use Rattle.lapin_acker.specs.Verdicts.{call_of}
use Rattle.lapin_shared.specs.declared.caller.StepError.{StepError}
use Rattle.lapin_shared.specs.declared.caller.StepError.TheVariants as failed
use Rattle.lapin_locked.specs.Known.{told}
use Rattle.lapin_shared.specs.Grown.{Seen, Grew}
use Rattle.lapin_work.specs.declared.work.Work.{Work}
use Rattle.lapin_work.specs.declared.work.Work.TheVariants as work
use Rattle.lapin_work.specs.declared.decision.Decision.{Decision}
use Rattle.lapin_work.specs.declared.decision.Decision.TheVariants as decision
use Rattle.lapin_work.specs.Jobs.{Handed, job, no_job}

-- the step of the acker that a verdict asks for, with its record; no step where it asks for none
abbrev pub IsSent : Seen → ℕ → Option AckerCall → Seen → Type 0
IsSent old a None new = new ≡ old
IsSent old a (Some k) new = (p : ℕ) × (r : Record) × Grew old new (told p (event.Acker a k) (Some r))

-- The verdict v on a delivery with acker a was made a step, for consumer n. Where memory ran out, the step is missing, or its record.
abbrev pub IsSettled : Seen → ℕ → ℕ → Verdict → Result Work StepError → Seen → Type 0
IsSettled old n a v (Ok (work.Done m)) new = (m ≡ n) × IsSent old a (call_of v) new
IsSettled old n a v (Ok _) new = ⊥
IsSettled old n a v (Err (failed.Unsent b w)) new = (b ≡ a) × (w ≡ v) × (call_of v ≢ None) × (new ≡ old)
IsSettled old n a v (Err (failed.Unread p)) new = (k : AckerCall) × (call_of v ≡ Some k) × Grew old new (told p (event.Acker a k) None)
IsSettled old n a v (Err failed.NoMemory) new = ⊥

-- what was decided about a job of consumer n was done
abbrev pub IsCarriedOut : Seen → ℕ → Decision → Result Work StepError → Seen → Type 0
IsCarriedOut old n decision.NoDelegate result new = (result ≡ Ok (work.NoDelegate n)) × (new ≡ old)
IsCarriedOut old n decision.Handled result new = (result ≡ Ok (work.Done n)) × (new ≡ old)
IsCarriedOut old n (decision.Judged a v) result new = IsSettled old n a v result new

-- What follows the job of a consumer that has a delegate: the delegate was called on what it is handed, and answered a verdict that it may
-- answer to that. On a delivery the verdict decides the rest; behind an end, an error and a discard nothing follows.
abbrev pub IsFollowed : (Handed → Verdict → Type 0) → Seen → ℕ → JobKind → Result Work StepError → Seen → Type 0
IsFollowed may old n (job_kind.Deliver (Ok (Some d))) result new = (v : Verdict) × may (Ok (Some d)) v × IsSettled old n d.acker.number v result new
IsFollowed may old n (job_kind.Deliver (Ok None)) result new = ((v : Verdict) × may (Ok None) v) × (result ≡ Ok (work.Done n)) × (new ≡ old)
IsFollowed may old n (job_kind.Deliver (Err e)) result new = ((v : Verdict) × may (Err e) v) × (result ≡ Ok (work.Done n)) × (new ≡ old)
IsFollowed may old n job_kind.Discard result new = (result ≡ Ok (work.Done n)) × (new ≡ old)

-- a job was taken in one step, its consumer has a delegate, and what follows was done
abbrev pub TookJob : (ℕ → Type 0) → (ℕ → Handed → Verdict → Type 0) → Seen → Result Work StepError → Seen → Type 0
TookJob none may old result new =
    (p : ℕ) × (j : Job) × (mid : Seen) × Grew old mid (job p j) × (none j.consumer → ⊥) × IsFollowed (may j.consumer) mid j.consumer j.kind result new

-- How a turn of work ends. `none` says that a consumer has no delegate, `may` what the delegate of a consumer may answer.
abbrev pub Worked : (ℕ → Type 0) → (ℕ → Handed → Verdict → Type 0) → Seen → Result Work StepError → Seen → Type 0
Worked none may old (Ok work.NoJob) new = (p : ℕ) × Grew old new (no_job p)
Worked none may old (Ok (work.NoDelegate n)) new = (p : ℕ) × (j : Job) × (j.consumer ≡ n) × none n × Grew old new (job p j)
Worked none may old (Ok (work.Done n)) new = TookJob none may old (Ok (work.Done n)) new
Worked none may old (Err failed.NoMemory) new = new ≡ old
Worked none may old (Err (failed.Unread p)) new = Grew old new (told p event.NextJob None) ⊎ TookJob none may old (Err (failed.Unread p)) new
Worked none may old (Err (failed.Unsent a v)) new = TookJob none may old (Err (failed.Unsent a v)) new
