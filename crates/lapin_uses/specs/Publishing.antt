-- A publish of the window, and how one comes out of it.
use Rattle.std.specs.Prelude.{◌≡◌, ◌≤◌, ◌<◌, ℕ, List, [], ◌∷◌, ◌++◌, length, false, Some, Result, Ok, Err}
use Rattle.lapin_types.specs.declared.event.Event.{Event}
use Rattle.lapin_types.specs.declared.record.Record.{Record}
use Rattle.lapin_types.specs.Types.{Error}
use Rattle.lapin_types.specs.Types.error
use Rattle.lapin_types.specs.declared.call.Call.{Call}
use Rattle.lapin_rules.specs.Wire.{Wire}
use Rattle.lapin_machine.specs.Numbers.{CallCause}
use Rattle.lapin_types.specs.declared.event.Event.TheVariants as event
use Rattle.lapin_types.specs.declared.call.Call.TheVariants as call
use Rattle.lapin_types.specs.declared.record.Record.TheVariants as record_
use Rattle.lapin_values.specs.Properties.{no_properties}
use Rattle.lapin_machine.specs.World.{World, told_by, next}
use Rattle.lapin_machine.specs.declared.channel.PublisherConfirm.{PublisherConfirm}
use Rattle.lapin_uses.specs.declared.outcomes.Advice.{Advice}
use Rattle.lapin_uses.specs.declared.publisher.Message.{Message}
use Rattle.lapin_uses.specs.declared.publisher.Waiting.{Waiting}
use Rattle.lapin_uses.specs.declared.publisher.Settled.{Settled}
use Rattle.lapin_uses.specs.Outcomes.{advised}

-- the call that publishes a message to a queue: by the default exchange, whose key is the queue's name, persistently and
-- under its id
abbrev pub publish_call : List ℕ → Message → Call
publish_call queue m = call.BasicPublish [] queue (record { mandatory = false; immediate = false }) m.payload
    (record no_properties { delivery_mode = Some 2; message_id = Some m.id })

-- and the event that it is
abbrev pub publishing : ℕ → List ℕ → Message → Event
publishing c queue m = event.Call c (publish_call queue m)

-- why nothing was published: the window is full, and its limit is told; else it has room, and the session didn't make the call
abbrev pub PublishCause : Result Unit Error → ℕ → List Waiting → ℕ → Call → Wire → Type 0
PublishCause (Err (error.ConfirmsOutstanding limit)) most waiting c k b = (most ≤ length waiting) × (limit ≡ most)
PublishCause r most waiting c k b = (length waiting < most) × CallCause r c k b

-- a window in which no more stand than that stays one
abbrev pub StaysWithin : ℕ → List Waiting → List Waiting → Type 0
StaysWithin most old new = length old ≤ most → length new ≤ most

-- the call was accepted and gave this confirm, and its ticket was set aside
abbrev pub IsSent : Result PublisherConfirm Error → World → World → Event → Type 0
IsSent (Ok p) before after e = (t : ℕ) × ((told_by before e ≡ record_.Publish t p.number) × (after ≡ next (next before e) (event.AsideTicket t)))
IsSent (Err e) before after ev = Unit {0}

-- where it was accepted: its ticket was set aside, and its confirm stands with the message behind those that waited
abbrev pub IsAccepted : Result Unit Error → World → World → Event → Message → List Waiting → List Waiting → Type 0
IsAccepted (Ok u) before after e m old new = (t : ℕ) × ((n : ℕ) × ((told_by before e ≡ record_.Publish t n) × (after ≡ next (next before e) (event.AsideTicket t))
    × (new ≡ old ++ record { confirm = record { number = n }; message = m } ∷ [])))
IsAccepted (Err e) before after ev m old new = Unit {0}

-- what the poll of a confirm says to do: what its outcome says. A poll that is refused says no more than an error.
abbrev pub Says : Record → Advice → Type 0
Says (record_.Confirmed o) a = a ≡ advised o
Says (record_.Refused e) a = a ≡ advised (Err e)
Says _ a = ⊥

-- the oldest of the window came out of it, and its poll says what to do
pub record IsSettled (s : Settled) (before after : World) (old new : List Waiting) : Type 0 where
  pub confirm : PublisherConfirm
  pub front : old ≡ record { confirm = confirm; message = s.message } ∷ new
  pub says : Says (told_by before (event.PollConfirm confirm.number)) s.advice
  pub polled : after ≡ next before (event.PollConfirm confirm.number)

-- none waits, or the oldest is pending
abbrev pub IsPending : World → World → List Waiting → Type 0
IsPending before after [] = after ≡ before
IsPending before after (x ∷ xs) = (told_by before (event.PollConfirm x.confirm.number) ≡ record_.Pending)
    × (after ≡ next before (event.PollConfirm x.confirm.number))
