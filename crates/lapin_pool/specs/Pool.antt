-- What the working callers of a client leave: a history, and a card of each delivery that they took in the call.
use Rattle.std.specs.Prelude.{◌≡◌, ℕ, ◌+◌, ◌-◌, ◌<◌, ◌≤◌, ◌&&◌, ◌⊎◌, Bool, true, false, if◌then◌else◌, List, [], ◌∷◌, ◌++◌, map, length, Option, Some, None, All, slice_get}
use Rattle.std.specs.List.{Contains, sum_by}
use Rattle.std.specs.List.Sorted.{IsStrictlyIncreasing}
use Rattle.lapin_types.specs.declared.acker_call.AckerCall.{AckerCall}
use Rattle.lapin_types.specs.declared.event.Event.{Event}
use Rattle.lapin_types.specs.declared.event.Event.TheVariants as event
use Rattle.lapin_types.specs.declared.message.Delivery.{Delivery}
use Rattle.lapin_types.specs.declared.record.Record.{Record}
use Rattle.lapin_types.specs.declared.record.Record.TheVariants as record_
use Rattle.lapin_acker.specs.declared.verdict.Verdict.{Verdict}
use Rattle.lapin_acker.specs.Verdicts.{call_of}
use Rattle.lapin_locked.specs.declared.entry.Entry.{Entry}
use Rattle.lapin_locked.specs.declared.entry.Told.{Told}
use Rattle.lapin_shared.specs.Grown.{Seen, Rise}
use Rattle.lapin_shared.specs.Checked.{AllAt}
use Rattle.lapin_locked.specs.Lawful.{IsLawful}
use Rattle.lapin_pool.specs.declared.card.Card.{Card}
use Rattle.lapin_pool.specs.declared.card.Sent.{Sent}
use Rattle.lapin_pool.specs.declared.card.Sent.TheVariants as sent
use Rattle.lapin_pool.specs.Verdicts.{last_verdict}
use Rattle.lapin_pool.specs.Cards.{delivery_told}
use Rattle.lapin_pool.specs.Turns.{tells_job}

-- ---- the callers

-- a caller as a call found it, and the steps that it made in that call
pub record Stint : Type 0 where
  pub before : Seen
  pub steps : List Told

abbrev pub before_of : Stint → Seen
before_of s = s.before

-- the caller behind its steps
abbrev pub after_of : Stint → Seen
after_of s = record { number = s.before.number; log = s.before.log ++ s.steps }

-- the same caller, whose log got further entries, or none
pub record IsGrown (old new : Seen) : Type 0 where
  pub more : List Told
  pub number : new.number ≡ old.number
  pub log : new.log ≡ old.log ++ more

-- the same callers in the same order, each with such a log
abbrev pub AreGrown : List Seen → List Seen → Type 0
AreGrown [] [] = Unit {0}
AreGrown [] (c ∷ cs) = ⊥
AreGrown (a ∷ olds) [] = ⊥
AreGrown (a ∷ olds) (c ∷ cs) = IsGrown a c × AreGrown olds cs

-- What a finished client gives of its callers: the history is one that a session could have told, and has as many entries as all logs
-- together; each entry of a log stands in it at its place, and the places in a log rise.
pub record IsFinished (frame_max : ℕ) (h : List Entry) (cs : List Seen) : Type 0 where
  pub lawful : IsLawful frame_max h
  pub count : length h ≡ sum_by (λ c. length c.log) cs
  pub stand : All (λ c. AllAt h c) cs
  pub rise : All (λ c. Rise 0 c.log) cs

-- ---- deliveries in a history

-- the entry stands in the history at that place, from 1
abbrev pub StandsAt : List Entry → ℕ → Entry → Type 0
StandsAt h p x = (0 < p) × (slice_get h (p - 1) ≡ Some x)

-- the step is a job step, which the session answered by this delivery
abbrev pub TookDelivery : List Entry → Told → Delivery → Type 0
TookDelivery h t d = (x : Entry) × StandsAt h t.place x × (t.event ≡ event.NextJob) × (delivery_told x.answer ≡ Some d)

-- whether the event asks for a job
abbrev pub is_next_job : Event → Bool
is_next_job event.NextJob = true
is_next_job _ = false

-- whether the entry was answered by a job
abbrev pub tells_in : Option Entry → Bool
tells_in None = false
tells_in (Some x) = tells_job x.answer

-- how many jobs these steps took, by the history
abbrev pub jobs : List Entry → List Told → ℕ
jobs h [] = 0
jobs h (t ∷ ts) = (if is_next_job t.event && tells_in (slice_get h (t.place - 1)) then 1 else 0) + jobs h ts

-- ---- cards

-- the step at place p and the step at place q stand one right behind the other
abbrev pub Adjoin : List Told → ℕ → ℕ → Type 0
Adjoin steps p q =
    (front : List Told) × (t : Told) × (u : Told) × (back : List Told) × (steps ≡ front ++ t ∷ u ∷ back) × (t.place ≡ p) × (u.place ≡ q)

-- the step at place p is the last one
abbrev pub IsLast : List Told → ℕ → Type 0
IsLast steps p = (front : List Told) × (t : Told) × (steps ≡ front ++ t ∷ []) × (t.place ≡ p)

-- What became of a verdict that asks for this call of acker a, on a delivery that caller n took at place p: the caller's next step is
-- that call and stands in the history at the place that is said, or there was no memory for it. It is silent exactly where the verdict asks
-- for no call.
abbrev pub WasSent : List Entry → ℕ → List Told → ℕ → ℕ → Option AckerCall → Sent → Type 0
WasSent h n steps p a None s = s ≡ sent.Silent
WasSent h n steps p a (Some k) (sent.Placed q) =
    (p < q) × ((x : Entry) × StandsAt h q x × (x.caller ≡ n) × (x.event ≡ event.Acker a k)) × Adjoin steps p q
WasSent h n steps p a (Some k) sent.Unsent = Unit {0}
WasSent h n steps p a (Some k) sent.Silent = ⊥

-- What was decided about a delivery, and what became of that: the verdict is the last one of one that the duty may answer to this delivery.
-- There is none where there was no memory to read the delivery; nothing is sent then, and the caller made no further step.
abbrev pub IsOutcome : (Delivery → Verdict → Type 0) → List Entry → ℕ → List Told → Delivery → ℕ → Option Verdict → Sent → Type 0
IsOutcome may h n steps d p None s = (s ≡ sent.Unsent) × IsLast steps p
IsOutcome may h n steps d p (Some v) s =
    ((answered : Verdict) × may d answered × (v ≡ last_verdict answered d.redelivered)) × WasSent h n steps p d.acker.number (call_of v) s

-- The card of a delivery that caller n took in these steps: at the card's place stands its job step, which was answered by the delivery of
-- this acker.
pub record IsCard (may : Delivery → Verdict → Type 0) (h : List Entry) (n : ℕ) (steps : List Told) (c : Card) : Type 0 where
  pub step : Told
  pub made : Contains steps step
  pub place : step.place ≡ c.place
  pub entry : Entry
  pub stands : StandsAt h c.place entry
  pub own : entry.caller ≡ n
  pub job : entry.event ≡ event.NextJob
  pub delivery : Delivery
  pub tells : delivery_told entry.answer ≡ Some delivery
  pub caller : c.caller ≡ n
  pub acker : c.acker ≡ delivery.acker.number
  pub outcome : IsOutcome may h n steps delivery c.place c.verdict c.sent

abbrev pub place_of : Card → ℕ
place_of c = c.place

-- ---- a working caller

-- a step is a job step, or the step of an acker that a card of this caller names
abbrev pub IsJobOrSent : ℕ → List Card → Told → Type 0
IsJobOrSent n cards t =
    (t.event ≡ event.NextJob) ⊎ ((c : Card) × Contains cards c × (c.caller ≡ n) × (c.sent ≡ sent.Placed t.place))

-- a job step at place p found no job, or took an error, an end or a discard, or a delivery that could not be read
abbrev pub TookNothing : List Card → ℕ → Record → Type 0
TookNothing cards p r =
    (r ≡ record_.NoJob)
    ⊎ ((tells_job r ≡ true) × (delivery_told r ≡ None))
    ⊎ ((c : Card) × Contains cards c × (c.place ≡ p) × (c.verdict ≡ None))

-- the last step is such a job step
abbrev pub EndsThere : List Entry → List Card → List Told → Type 0
EndsThere h cards steps =
    (front : List Told) × (t : Told) × (x : Entry) × (steps ≡ front ++ t ∷ []) × (t.event ≡ event.NextJob) × StandsAt h t.place x
    × TookNothing cards t.place x.answer

-- What caller n did: each delivery that it took has a card, each of its steps is a job step or the verdict of a card, and it took as many
-- jobs as it was to, or fewer and its last step is a job step behind which it had to stop.
pub record HasDone (h : List Entry) (turns n : ℕ) (cards : List Card) (steps : List Told) : Type 0 where
  pub all : (t : Told) (d : Delivery) → Contains steps t → TookDelivery h t d → (c : Card) × Contains cards c × (c.place ≡ t.place)
  pub others : (t : Told) → Contains steps t → IsJobOrSent n cards t
  pub at_most : jobs h steps ≤ turns
  pub ended : (jobs h steps ≡ turns) ⊎ EndsThere h cards steps

-- ---- all together

-- The last callers of a list worked, and the others made no step. The cards rise by place; each is the card of a delivery that a working
-- caller took, and each delivery that one took has its card.
pub record IsPool (may : Delivery → Verdict → Type 0) (frame_max turns workers : ℕ) (olds : List Seen) (h : List Entry) (cards : List Card) : Type 0 where
  pub idle : List Seen
  pub stints : List Stint
  pub olds_are : olds ≡ idle ++ map before_of stints
  pub many : length stints ≡ workers
  pub finished : IsFinished frame_max h (idle ++ map after_of stints)
  pub rising : IsStrictlyIncreasing (map place_of cards)
  pub each : (c : Card) → Contains cards c → (s : Stint) × Contains stints s × IsCard may h s.before.number s.steps c
  pub done : (s : Stint) → Contains stints s → HasDone h turns s.before.number cards s.steps
