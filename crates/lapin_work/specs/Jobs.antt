-- Jobs in a log.
use Rattle.std.specs.Prelude.{ℕ, Option, Some, None, Result, Ok, Err}
use Rattle.lapin_types.specs.declared.message.Delivery.{Delivery}
use Rattle.lapin_types.specs.declared.job.Job.{Job}
use Rattle.lapin_types.specs.declared.record.Record.{Record}
use Rattle.lapin_types.specs.Types.{Error}
use Rattle.lapin_types.specs.declared.event.Event.TheVariants as event
use Rattle.lapin_types.specs.declared.record.Record.TheVariants as record_
use Rattle.lapin_locked.specs.declared.entry.Told.{Told}
use Rattle.lapin_locked.specs.Known.{told}

-- what a delegate is handed: a delivery, the consumer's end, or the error that ended its channel
abbrev pub Handed : Type 0
Handed = Result (Option Delivery) Error

-- the entry of a step that took this job
abbrev pub job : ℕ → Job → Told
job p j = told p event.NextJob (Some (record_.Job j))

-- the entry of a step that found no job
abbrev pub no_job : ℕ → Told
no_job p = told p event.NextJob (Some record_.NoJob)

-- the job that a record tells, if it tells one
abbrev pub job_in_record : Record → Option Job
job_in_record (record_.Job j) = Some j
job_in_record _ = None

-- the job that an entry's record tells
abbrev pub job_in : Option Record → Option Job
job_in None = None
job_in (Some r) = job_in_record r

-- the delivery among what a delegate is handed
abbrev pub delivery_in : Handed → Option Delivery
delivery_in (Ok (Some d)) = Some d
delivery_in (Ok None) = None
delivery_in (Err e) = None
