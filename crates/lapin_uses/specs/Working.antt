-- What a turn of a worker does: it polls a consumer, a handler decides on the message, and the message's acker sends that.
use Rattle.std.specs.Prelude.{◌≡◌, ℕ, true, false, Some, None, Result, Ok, Err}
use Rattle.lapin_types.specs.declared.acker_call.AckerCall.{AckerCall}
use Rattle.lapin_types.specs.declared.acker_call.AckerCall.TheVariants as acker_call
use Rattle.lapin_types.specs.declared.event.Event.TheVariants as event
use Rattle.lapin_types.specs.declared.message.Delivery.{Delivery}
use Rattle.lapin_types.specs.declared.record.Record.{Record}
use Rattle.lapin_types.specs.declared.record.Record.TheVariants as record_
use Rattle.lapin_types.specs.Types.{Error}
use Rattle.lapin_machine.specs.World.{World, told_by, next}
use Rattle.lapin_session.specs.Acking.{IsAcked}
use Rattle.lapin_uses.specs.declared.worker.Fate.{Fate}
use Rattle.lapin_uses.specs.declared.worker.Fate.TheVariants as fate
use Rattle.lapin_uses.specs.declared.worker.Handled.{Handled}
use Rattle.lapin_uses.specs.declared.worker.Turn.{Turn}
use Rattle.lapin_uses.specs.declared.worker.Turn.TheVariants as turn

-- the acker's call for a fate, of that message alone: an ack, a nack with which the message comes again, a reject with which it
-- doesn't
abbrev pub call_of : Fate → AckerCall
call_of fate.Acknowledge = acker_call.Ack (record { multiple = false })
call_of fate.GiveBack = acker_call.Nack (record { multiple = false; requeue = true })
call_of fate.Refuse = acker_call.Reject (record { requeue = false })

-- A message d was handled, in a session v that is w afterwards: the handler decided on it, and its own acker was called so in that
-- session. The message comes back as it was, but for what the call left of its acker: all of it, unless it is a mock's (`IsAcked`).
pub record IsHandled {H : Type 0} (decides : H → Delivery → Fate → H → Type 0) (d : Delivery) (t : Handled) (h k : H) (v w : World) : Type 0 where
  pub back : t.delivery ≡ record d { acker = t.delivery.acker }
  pub decided : decides h d t.fate k
  pub sent : IsAcked d.acker.number (call_of t.fate) d.acker t.delivery.acker t.answer v w

-- the poll of consumer n told this, and that was all: the session did nothing else, and the handler was not asked
pub record IsPolled {H : Type 0} (n : ℕ) (r : Record) (h k : H) (v w : World) : Type 0 where
  pub told : told_by v (event.PollConsumer n) ≡ r
  pub session : w ≡ next v (event.PollConsumer n)
  pub handler : k ≡ h

-- The poll of consumer n gave a message, which was handled in the session that the poll left. So that session is the one before the
-- acker's call, and where the call was made the last one is `next (next v (event.PollConsumer n)) (event.Acker d.acker.number call)`.
abbrev pub TookMessage : {H : Type 0} → (H → Delivery → Fate → H → Type 0) → ℕ → Handled → H → H → World → World → Type 0
TookMessage decides n t h k v w =
    (d : Delivery) × (told_by v (event.PollConsumer n) ≡ record_.Item (Ok (Some d))) × IsHandled decides d t h k (next v (event.PollConsumer n)) w

-- what a turn with consumer n came to: the handler was h and is k, the session was v and is w
abbrev pub IsTurn : {H : Type 0} → (H → Delivery → Fate → H → Type 0) → ℕ → Result Turn Error → H → H → World → World → Type 0
IsTurn decides n (Ok turn.Pending) h k v w = IsPolled n record_.Pending h k v w
IsTurn decides n (Ok turn.End) h k v w = IsPolled n (record_.Item (Ok None)) h k v w
IsTurn decides n (Ok (turn.Failed e)) h k v w = IsPolled n (record_.Item (Err e)) h k v w
IsTurn decides n (Ok (turn.Handled t)) h k v w = TookMessage decides n t h k v w
IsTurn decides n (Err e) h k v w = IsPolled n (record_.Refused e) h k v w
