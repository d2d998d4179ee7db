-- How the log of a working caller and its cards grow by a turn.
use Rattle.std.specs.Prelude.{◌≡◌, ℕ, Bool, true, false, if◌then◌else◌, List, [], ◌∷◌, ◌++◌, Option, Some, None, ◌⊎◌}
use Rattle.lapin_types.specs.declared.event.Event.TheVariants as event
use Rattle.lapin_types.specs.declared.message.Delivery.{Delivery}
use Rattle.lapin_types.specs.declared.record.Record.{Record}
use Rattle.lapin_types.specs.declared.record.Record.TheVariants as record_
use Rattle.lapin_acker.specs.declared.verdict.Verdict.{Verdict}
use Rattle.lapin_acker.specs.Verdicts.{call_of}
use Rattle.lapin_locked.specs.declared.entry.Told.{Told}
use Rattle.lapin_locked.specs.Known.{told}
use Rattle.lapin_shared.specs.Grown.{Seen, Grew}
use Rattle.lapin_pool.specs.declared.card.Card.{Card}
use Rattle.lapin_pool.specs.declared.turn.Step.{Step}
use Rattle.lapin_pool.specs.declared.turn.Step.TheVariants as step
use Rattle.lapin_pool.specs.declared.turn.Turn.{Turn}
use Rattle.lapin_pool.specs.declared.turn.Turn.TheVariants as turn
use Rattle.lapin_pool.specs.Verdicts.{last_verdict}
use Rattle.lapin_pool.specs.Cards.{IsSent, delivery_told}

-- what stands of a working caller: its number and log, its cards, and the place of a job step whose record could not be read
pub record Standing : Type 0 where
  pub seen : Seen
  pub cards : List Card
  pub unread : Option ℕ

abbrev pub standing : Seen → List Card → Option ℕ → Standing
standing s cs u = record { seen = s; cards = cs; unread = u }

-- whether a record tells a job
abbrev pub tells_job : Record → Bool
tells_job (record_.Job j) = true
tells_job _ = false

-- the entry of a job step, with its record where that was read
abbrev pub job_step : ℕ → Option Record → Told
job_step p r = told p event.NextJob r

-- what a job step came to that stands at this place and has that answer in the log
abbrev pub step_in : Option Record → ℕ → Step
step_in None p = step.NoJob
step_in (Some r) p = if tells_job r then step.Taken p else step.NoJob

-- what a job step came to, and the entry that the log got by it
abbrev pub IsTaken : Seen → Step → Seen → Type 0
IsTaken old (step.Taken p) new = (r : Record) × (tells_job r ≡ true) × Grew old new (job_step p (Some r))
IsTaken old step.NoJob new = (p : ℕ) × (r : Record) × (tells_job r ≡ false) × Grew old new (job_step p (Some r))
IsTaken old (step.Unread p) new = Grew old new (job_step p None)
IsTaken old step.Short new = new ≡ old

-- The card of the delivery that the step at this place took: the duty may answer the verdict, of which the last one was made a step where it
-- asks for one. `may` says what the duty may answer.
pub record IsJudged (may : Delivery → Verdict → Type 0) (mid : Seen) (p : ℕ) (d : Delivery) (c : Card) (new : Seen) : Type 0 where
  pub answered : Verdict
  pub may_be : may d answered
  pub caller : c.caller ≡ mid.number
  pub place : c.place ≡ p
  pub acker : c.acker ≡ d.acker.number
  pub verdict : c.verdict ≡ Some (last_verdict answered d.redelivered)
  pub sent : IsSent mid d.acker.number (call_of (last_verdict answered d.redelivered)) c.sent new

-- a delivery got its card; of another job there is none, and nothing was done
abbrev pub IsTreated : (Delivery → Verdict → Type 0) → Seen → ℕ → Option Delivery → Option Card → Seen → Type 0
IsTreated may mid p None None new = new ≡ mid
IsTreated may mid p None (Some c) new = ⊥
IsTreated may mid p (Some d) None new = ⊥
IsTreated may mid p (Some d) (Some c) new = IsJudged may mid p d c new

-- the cards with one more, where there is one
abbrev pub with_card : List Card → Option Card → List Card
with_card cs None = cs
with_card cs (Some c) = cs ++ c ∷ []

-- a job was taken in one step and treated
abbrev pub TookJob : (Delivery → Verdict → Type 0) → Standing → Standing → Type 0
TookJob may old new =
    (p : ℕ) × (r : Record) × (mid : Seen) × (c : Option Card) × (tells_job r ≡ true) × Grew old.seen mid (job_step p (Some r))
    × IsTreated may mid p (delivery_told r) c new.seen × (new.cards ≡ with_card old.cards c) × (new.unread ≡ old.unread)

-- a job step found none
abbrev pub FoundNone : Standing → Standing → Type 0
FoundNone old new =
    (p : ℕ) × (r : Record) × (tells_job r ≡ false) × Grew old.seen new.seen (job_step p (Some r)) × (new.cards ≡ old.cards) × (new.unread ≡ old.unread)

-- a job step was made, and its record could not be read: its place is noted
abbrev pub LeftUnread : Standing → Standing → Type 0
LeftUnread old new = (p : ℕ) × Grew old.seen new.seen (job_step p None) × (new.cards ≡ old.cards) × (new.unread ≡ Some p)

-- how a turn ends
abbrev pub IsTurn : (Delivery → Verdict → Type 0) → Standing → Turn → Standing → Type 0
IsTurn may old turn.Took new = TookJob may old new
IsTurn may old turn.Over new = FoundNone old new ⊎ LeftUnread old new
IsTurn may old turn.Short new = new ≡ old
