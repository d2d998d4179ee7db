-- What becomes of a verdict, and which delivery an entry took.
use Rattle.std.specs.Prelude.{◌≡◌, ℕ, Option, Some, None}
use Rattle.lapin_types.specs.declared.acker_call.AckerCall.{AckerCall}
use Rattle.lapin_types.specs.declared.event.Event.TheVariants as event
use Rattle.lapin_types.specs.declared.job.Job.{Job}
use Rattle.lapin_types.specs.declared.job.JobKind.{JobKind}
use Rattle.lapin_types.specs.declared.job.JobKind.TheVariants as job_kind
use Rattle.lapin_types.specs.declared.message.Delivery.{Delivery}
use Rattle.lapin_types.specs.declared.record.Record.{Record}
use Rattle.lapin_types.specs.declared.record.Record.TheVariants as record_
use Rattle.lapin_locked.specs.Known.{told}
use Rattle.lapin_shared.specs.Grown.{Seen, Grew}
use Rattle.lapin_work.specs.Jobs.{delivery_in as handed}
use Rattle.lapin_pool.specs.declared.card.Sent.{Sent}
use Rattle.lapin_pool.specs.declared.card.Sent.TheVariants as sent

-- the step of the acker was made, at that place, with a record that was read or not; or there was no memory for it
abbrev pub IsPlaced : Seen → ℕ → AckerCall → Sent → Seen → Type 0
IsPlaced old a k (sent.Placed p) new = (r : Option Record) × Grew old new (told p (event.Acker a k) r)
IsPlaced old a k sent.Unsent new = new ≡ old
IsPlaced old a k sent.Silent new = ⊥

-- what a verdict asks of its acker was made a step; nothing where it asks for nothing
abbrev pub IsSent : Seen → ℕ → Option AckerCall → Sent → Seen → Type 0
IsSent old a None s new = (s ≡ sent.Silent) × (new ≡ old)
IsSent old a (Some k) s new = IsPlaced old a k s new

-- the delivery that a kind of job hands over
abbrev pub delivery_handed : JobKind → Option Delivery
delivery_handed (job_kind.Deliver given) = handed given
delivery_handed job_kind.Discard = None

-- the delivery that a record tells
abbrev pub delivery_told : Record → Option Delivery
delivery_told (record_.Job j) = delivery_handed j.kind
delivery_told _ = None

-- the delivery that an entry of a log tells, where its record was read
abbrev pub delivery_in : Option Record → Option Delivery
delivery_in None = None
delivery_in (Some r) = delivery_told r
