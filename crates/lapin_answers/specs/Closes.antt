-- What a ticket says that close-ok resolved: to which of the client's closes the broker sent it.
use Rattle.std.specs.Prelude.{◌≡◌, ℕ, suc, ◌==◌, Bool, true, false, ◌&&◌, List, ◌∷◌, ◌++◌, length, Option, Some, None}
use Rattle.std.specs.List.{filter, list_any}
use Rattle.lapin_types.specs.declared.event.Event.{Event}
use Rattle.lapin_types.specs.declared.event.Event.TheVariants as event
use Rattle.lapin_types.specs.declared.call.Call.{Call}
use Rattle.lapin_types.specs.declared.leaving.Left.{Left}
use Rattle.lapin_types.specs.declared.record.Record.{Record}
use Rattle.lapin_types.specs.declared.record.Record.TheVariants as record_
use Rattle.lapin_types.specs.declared.request.Request.{Request}
use Rattle.lapin_types.specs.declared.request.ReplyKind.TheVariants as reply_kind
use Rattle.lapin_types.specs.Types.{Frame, Method}
use Rattle.lapin_types.specs.Types.frame
use Rattle.lapin_types.specs.Types.method
use Rattle.lapin_types.specs.Types.channel
use Rattle.lapin_types.specs.Types.connection
use Rattle.lapin_rules.specs.declared.calls.Asked.TheVariants as ask
use Rattle.lapin_rules.specs.Calls.{asked}
use Rattle.lapin_rules.specs.ChannelClose.{own_close}
use Rattle.lapin_rules.specs.ConnectionClose.{own_connection_close}
use Rattle.lapin_rules.specs.History.{History}
use Rattle.lapin_rules.specs.Requests.{is_kind}
use Rattle.lapin_rules.specs.Wire.{Wire, requests_of}
use Rattle.lapin_broker.specs.declared.frames.BrokerFrame.{BrokerFrame}
use Rattle.lapin_broker.specs.declared.frames.BrokerFrame.TheVariants as broker
use Rattle.lapin_broker.specs.Frames.{channel_of, broker_frame}
use Rattle.lapin_verdicts.specs.Deeds.{Deed, Sent, lefts, sents}
use Rattle.lapin_verdicts.specs.Verdicts.{at_place}

-- ---- closes

-- the method is `channel.close` (AMQP 0-9-1, channel class)
abbrev pub is_close : Method → Bool
is_close (method.Channel (channel.Close code text class number)) = true
is_close _ = false

abbrev pub closes : Frame → Bool
closes (frame.Method c m) = is_close m
closes _ = false

-- the frame that left is `channel.close` on this channel
abbrev pub is_close_on : ℕ → Left → Bool
is_close_on c l = (channel_of l.frame == c) && closes l.frame

-- the frame of the broker is `channel.close-ok`
abbrev pub is_close_ok_as : BrokerFrame → Bool
is_close_ok_as broker.CloseOk = true
is_close_ok_as _ = false

abbrev pub is_close_ok_on : ℕ → Frame → Bool
is_close_ok_on c f = (channel_of f == c) && is_close_ok_as (broker_frame f)

-- the closes of this channel that the broker read, and the close-oks that it sent on it, in all openings, the first one first
abbrev pub closes_in : ℕ → List Deed → List Left
closes_in c ds = filter (is_close_on c) (lefts ds)

abbrev pub close_oks_in : ℕ → List Deed → List Frame
close_oks_in c ds = filter (is_close_ok_on c) (sents ds)

-- ---- the call

-- the event is a close of this channel that was given this ticket, and that queues this method
pub record IsClose (ticket channel : ℕ) (method : Method) (e : Event) (r : Record) : Type 0 where
  pub call : Call
  pub code : ℕ
  pub text : List ℕ
  pub is : e ≡ event.Call channel call
  pub given : r ≡ record_.Ticket ticket
  pub asks : asked call ≡ ask.CloseChannel code text
  pub queues : method ≡ own_close code text

-- such a call stands in the history
pub record IsCloseOf (ticket channel : ℕ) (method : Method) (h : History) : Type 0 where
  pub before : History
  pub behind : History
  pub event : Event
  pub told : Record
  pub all : h ≡ before ++ (event, told) ∷ behind
  pub is : IsClose ticket channel method event told

-- ---- close-ok

-- The broker had read the close that the call of this ticket made, with this method, and after that it sent this close-ok for it: as many
-- close-oks were sent on the channel before as closes were read before that one.
pub record IsClosed (c n : ℕ) (m : Method) (reply : Frame) (deeds : List Deed) : Type 0 where
  pub before : List Deed
  pub behind : List Deed
  pub close : Left
  pub all : deeds ≡ before ++ Sent reply ∷ behind
  pub is_ok : is_close_ok_on c reply ≡ true
  pub was_read : at_place (suc (length (close_oks_in c before))) (closes_in c before) ≡ Some close
  pub ticket : close.ticket ≡ Some n
  pub method : close.frame ≡ frame.Method c m

-- ---- the close of the connection

-- the method is `connection.close` (AMQP 0-9-1, connection class)
abbrev pub is_end : Method → Bool
is_end (method.Connection (connection.Close code text class number)) = true
is_end _ = false

abbrev pub ends : Frame → Bool
ends (frame.Method c m) = is_end m
ends _ = false

abbrev pub is_end_left : Left → Bool
is_end_left l = ends l.frame

-- the frame of the broker is `connection.close-ok`, on the connection's channel
abbrev pub is_end_ok_as : BrokerFrame → Bool
is_end_ok_as broker.ConnectionCloseOk = true
is_end_ok_as _ = false

-- the closes of the connection that the broker read
abbrev pub ends_in : List Deed → List Left
ends_in ds = filter is_end_left (lefts ds)

-- the event is a close of the connection that was given this ticket, and that queues this method
pub record IsEnd (ticket channel : ℕ) (method : Method) (e : Event) (r : Record) : Type 0 where
  pub call : Call
  pub code : ℕ
  pub text : List ℕ
  pub is : e ≡ event.Call channel call
  pub given : r ≡ record_.Ticket ticket
  pub asks : asked call ≡ ask.CloseConnection code text
  pub queues : method ≡ own_connection_close code text

-- such a call stands in the history
pub record IsEndOf (ticket channel : ℕ) (method : Method) (h : History) : Type 0 where
  pub before : History
  pub behind : History
  pub event : Event
  pub told : Record
  pub all : h ≡ before ++ (event, told) ∷ behind
  pub is : IsEnd ticket channel method event told

-- The broker had read the close of the connection that the call of this ticket made, the first that it read, and after that it sent this
-- close-ok.
pub record IsEnded (channel n : ℕ) (m : Method) (reply : Frame) (deeds : List Deed) : Type 0 where
  pub before : List Deed
  pub behind : List Deed
  pub close : Left
  pub all : deeds ≡ before ++ Sent reply ∷ behind
  pub is_ok : is_end_ok_as (broker_frame reply) ≡ true
  pub was_read : at_place 1 (ends_in before) ≡ Some close
  pub ticket : close.ticket ≡ Some n
  pub method : close.frame ≡ frame.Method channel m

-- ---- what else an end of an opening resolves

abbrev pub is_ticket : ℕ → Option ℕ → Bool
is_ticket n None = false
is_ticket n (Some t) = t == n

-- a `basic.cancel` that is open on the channel has the ticket
abbrev pub is_open_cancel : ℕ → ℕ → Wire → Bool
is_open_cancel n c b = list_any (λ (r : Request). is_ticket n r.ticket) (filter (is_kind reply_kind.BasicCancelOk) (requests_of c b))
