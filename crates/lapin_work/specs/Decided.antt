-- What a delegate may say to a job. Of the delegates a definition here is told by two predicates: a consumer has none, and the one of a
-- consumer may answer a verdict to what it is handed.
use Rattle.std.specs.Prelude.{◌≡◌, ℕ, Option, Some, None, Ok, Err}
use Rattle.lapin_types.specs.declared.job.Job.{Job}
use Rattle.lapin_types.specs.declared.job.JobKind.{JobKind}
use Rattle.lapin_types.specs.declared.job.JobKind.TheVariants as job_kind
use Rattle.lapin_acker.specs.declared.verdict.Verdict.{Verdict}
use Rattle.lapin_work.specs.declared.decision.Decision.{Decision}
use Rattle.lapin_work.specs.declared.decision.Decision.TheVariants as decision
use Rattle.lapin_work.specs.Jobs.{Handed}

-- the verdict on a delivery, with the delivery's acker; of an end or an error no verdict stays, but the delegate answered one
abbrev pub IsJudged : (Handed → Verdict → Type 0) → Handed → Decision → Type 0
IsJudged may (Ok (Some d)) (decision.Judged a v) = (a ≡ d.acker.number) × may (Ok (Some d)) v
IsJudged may (Ok None) decision.Handled = (v : Verdict) × may (Ok None) v
IsJudged may (Err e) decision.Handled = (v : Verdict) × may (Err e) v
IsJudged may _ _ = ⊥

-- what a delegate may say to a kind of job: to what it is handed a verdict, and to a discard nothing
abbrev pub IsHandled : (Handed → Verdict → Type 0) → JobKind → Decision → Type 0
IsHandled may (job_kind.Deliver y) x = IsJudged may y x
IsHandled may job_kind.Discard decision.Handled = Unit {0}
IsHandled may job_kind.Discard _ = ⊥

-- none exactly where the job's consumer has no delegate
abbrev pub IsDecided : (ℕ → Type 0) → (ℕ → Handed → Verdict → Type 0) → Job → Decision → Type 0
IsDecided none may j decision.NoDelegate = none j.consumer
IsDecided none may j x = (none j.consumer → ⊥) × IsHandled (may j.consumer) j.kind x
