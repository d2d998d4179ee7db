-- What a ticket says that open-ok resolved: to which of the client's opens the broker sent it.
use Rattle.std.specs.Prelude.{◌≡◌, ℕ, false, true, List, [], ◌∷◌, ◌++◌, Some}
use Rattle.std.specs.List.{list_any}
use Rattle.lapin_types.specs.declared.event.Event.{Event}
use Rattle.lapin_types.specs.declared.event.Event.TheVariants as event
use Rattle.lapin_types.specs.declared.call.Call.{Call}
use Rattle.lapin_types.specs.declared.leaving.Left.{Left}
use Rattle.lapin_types.specs.declared.record.Record.{Record}
use Rattle.lapin_types.specs.declared.record.Record.TheVariants as record_
use Rattle.lapin_types.specs.Types.{Frame}
use Rattle.lapin_types.specs.Types.frame
use Rattle.lapin_types.specs.Types.method
use Rattle.lapin_types.specs.Types.channel
use Rattle.lapin_rules.specs.declared.calls.Asked.TheVariants as ask
use Rattle.lapin_rules.specs.Calls.{asked}
use Rattle.lapin_rules.specs.History.{History}
use Rattle.lapin_verdicts.specs.Answers.{is_open_ok}
use Rattle.lapin_verdicts.specs.Deeds.{Deed, Read, Sent, on_channel, opens, sents}

-- ---- the call

-- the event is `channel.open` on this channel that was given this ticket
pub record IsOpening (ticket channel : ℕ) (e : Event) (r : Record) : Type 0 where
  pub call : Call
  pub is : e ≡ event.Call channel call
  pub given : r ≡ record_.Ticket ticket
  pub asks : asked call ≡ ask.Open

-- such a call stands in the history
pub record IsOpeningOf (ticket channel : ℕ) (h : History) : Type 0 where
  pub before : History
  pub behind : History
  pub event : Event
  pub told : Record
  pub all : h ≡ before ++ (event, told) ∷ behind
  pub is : IsOpening ticket channel event told

-- ---- open-ok

-- The broker had read the `channel.open` that the call of this ticket made, and read no other of the channel after it; and this open-ok
-- is the first that it sent on the channel since.
pub record IsOpened (c n : ℕ) (reply : Frame) (deeds : List Deed) : Type 0 where
  pub before : List Deed
  pub between : List Deed
  pub behind : List Deed
  pub opener : Left
  pub all : on_channel c deeds ≡ before ++ Read opener ∷ (between ++ Sent reply ∷ behind)
  pub ticket : opener.ticket ≡ Some n
  pub method : opener.frame ≡ frame.Method c (method.Channel channel.Open)
  pub last : list_any opens (between ++ Sent reply ∷ behind) ≡ false
  pub is_ok : is_open_ok reply ≡ true
  pub first : sents between ≡ []
