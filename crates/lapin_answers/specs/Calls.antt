-- The call that was given a ticket, as the history of a session shows it.
use Rattle.std.specs.Prelude.{◌≡◌, ℕ, Bool, true, false, ◌∷◌, ◌++◌, Option, Some, None}
use Rattle.std.specs.Option.{is_some}
use Rattle.lapin_types.specs.declared.event.Event.{Event}
use Rattle.lapin_types.specs.declared.event.Event.TheVariants as event
use Rattle.lapin_types.specs.declared.call.Call.{Call}
use Rattle.lapin_types.specs.declared.record.Record.{Record}
use Rattle.lapin_types.specs.declared.record.Record.TheVariants as record_
use Rattle.lapin_types.specs.declared.request.Reply.{Reply}
use Rattle.lapin_types.specs.Types.{Method}
use Rattle.lapin_rules.specs.declared.calls.Answered.TheVariants as answered
use Rattle.lapin_rules.specs.declared.calls.Asked.{Asked}
use Rattle.lapin_rules.specs.declared.calls.Asked.TheVariants as ask
use Rattle.lapin_rules.specs.Calls.{asked, awaited_by}
use Rattle.lapin_rules.specs.History.{History}

-- the event is a call on the channel that was given this ticket, and that queues this method, which awaits a reply
pub record IsCall (ticket channel : ℕ) (method : Method) (e : Event) (r : Record) : Type 0 where
  pub call : Call
  pub awaited : Reply
  pub is : e ≡ event.Call channel call
  pub given : r ≡ record_.Ticket ticket
  pub asks : asked call ≡ ask.Method (record { method = method; answered = answered.ByReply awaited })

-- such a call stands in the history
pub record IsCallOf (ticket channel : ℕ) (method : Method) (h : History) : Type 0 where
  pub before : History
  pub behind : History
  pub event : Event
  pub told : Record
  pub all : h ≡ before ++ (event, told) ∷ behind
  pub is : IsCall ticket channel method event told

-- ---- calls that await no reply

-- the ticket that a record gives, if it gives one
abbrev pub ticket_in : Record → Option ℕ
ticket_in (record_.Ticket t) = Some t
ticket_in (record_.Publish t n) = Some t
ticket_in _ = None

-- the call awaits a reply: it opens or closes a channel, closes the connection, or queues a method that is answered by one
abbrev pub awaits_reply : Asked → Bool
awaits_reply ask.Open = true
awaits_reply (ask.CloseChannel code text) = true
awaits_reply (ask.CloseConnection code text) = true
awaits_reply (ask.Method row) = is_some (awaited_by row.answered)
awaits_reply _ = false

-- The event is a call that awaits a reply. A call without wait awaits none; nor do a publish, an acknowledgement, `basic.recover-async`,
-- a limit of outstanding confirms, and a call of an acker.
abbrev pub awaits_by : Event → Bool
awaits_by (event.Call c k) = awaits_reply (asked k)
awaits_by _ = false

-- a call that was given this ticket and awaits no reply stands in the history
pub record IsUnwaitedOf (ticket : ℕ) (h : History) : Type 0 where
  pub before : History
  pub behind : History
  pub event : Event
  pub told : Record
  pub all : h ≡ before ++ (event, told) ∷ behind
  pub given : ticket_in told ≡ Some ticket
  pub unwaited : awaits_by event ≡ false

-- a call that was given this ticket and awaits a reply stands in the history
pub record IsAwaitedOf (ticket : ℕ) (h : History) : Type 0 where
  pub before : History
  pub behind : History
  pub event : Event
  pub told : Record
  pub all : h ≡ before ++ (event, told) ∷ behind
  pub given : ticket_in told ≡ Some ticket
  pub awaited : awaits_by event ≡ true
