-- What the broker may send, and what it does then: a relation, since it may choose among all that its state allows.
use Rattle.std.specs.Prelude.{ℕ, ◌==◌, Bool, true, false, ◌&&◌, ◌||◌, if◌then◌else◌, List, [], ◌∷◌, Option, Some, None, drop}
use Rattle.lapin_types.specs.Types.{Frame}
use Rattle.lapin_tables.specs.ByChannel.{on_channel}
use Rattle.lapin_broker.specs.declared.content.Content.{Content}
use Rattle.lapin_broker.specs.declared.content.Content.TheVariants as content
use Rattle.lapin_broker.specs.declared.request.RequestKind.{RequestKind}
use Rattle.lapin_broker.specs.declared.request.RequestKind.TheVariants as kind
use Rattle.lapin_broker.specs.declared.request.Request.{Request}
use Rattle.lapin_broker.specs.declared.frames.BrokerFrame.{BrokerFrame}
use Rattle.lapin_broker.specs.declared.frames.BrokerFrame.TheVariants as broker
use Rattle.lapin_broker.specs.declared.peer.Connection.{Connection}
use Rattle.lapin_broker.specs.declared.peer.Connection.TheVariants as connection
use Rattle.lapin_broker.specs.declared.peer.Peer.{Peer}
use Rattle.lapin_broker.specs.declared.peer.Peer.TheVariants as peer
use Rattle.lapin_broker.specs.Contents.{of_size, without_bytes, takes_header, takes_body, is_idle}
use Rattle.lapin_broker.specs.Frames.{channel_of, broker_frame, tag_of}
use Rattle.lapin_broker.specs.Requests.{same_kind, echo_name}
use Rattle.lapin_broker.specs.Numbers.{may_settle, after_settlement}
use Rattle.lapin_broker.specs.Tags.{same_text, is_empty, has_tag, with_tag, without_tag}
use Rattle.lapin_broker.specs.States.{Channel, Broker, free_channel, channel_at, is_up, owes_connection}

-- the broker closes the connection
abbrev pub is_connection_close : BrokerFrame → Bool
is_connection_close broker.ConnectionClose = true
is_connection_close _ = false

-- the broker answers the close of the connection
abbrev pub is_connection_close_ok : BrokerFrame → Bool
is_connection_close_ok broker.ConnectionCloseOk = true
is_connection_close_ok _ = false

-- the broker answers the open of a channel
abbrev pub is_open_ok : BrokerFrame → Bool
is_open_ok broker.OpenOk = true
is_open_ok _ = false

-- the broker closes a channel
abbrev pub is_close : BrokerFrame → Bool
is_close broker.Close = true
is_close _ = false

-- the broker answers the close of a channel
abbrev pub is_close_ok : BrokerFrame → Bool
is_close_ok broker.CloseOk = true
is_close_ok _ = false

-- ---- What may be sent on a channel that is Open or Leaving.

-- no request waits
abbrev pub none_waits : List Request → Bool
none_waits [] = true
none_waits (r ∷ rs) = false

-- the first waiting request is of this kind
abbrev pub first_is : RequestKind → List Request → Bool
first_is k [] = false
first_is k (r ∷ rs) = same_kind r.kind k

-- the name that the first waiting request asked for
abbrev pub first_name : List Request → List ℕ
first_name [] = []
first_name (r ∷ rs) = echo_name r.echo

-- While no content is being sent, these alone:
-- the reply to the first waiting request. consume-ok names the asked tag where that isn't empty. cancel-ok names the asked tag.
-- A get is answered by get-empty, a reply like others, or by get-ok.
-- After a `confirm.select` was read: a single ack or nack of a number that was read and isn't settled, a multiple one of any
-- number from 1 to the count. (Before it no number was read.)
-- `basic.deliver` to a tag that may be delivered to, and `basic.return`.
-- `basic.cancel` of a tag that may be delivered to; `channel.flow`.
abbrev pub may_start : Channel → List ℕ → BrokerFrame → Bool
may_start x t (broker.Reply k) = first_is k x.waiting
may_start x t broker.ConsumeOk = first_is kind.Consume x.waiting && (is_empty (first_name x.waiting) || same_text (first_name x.waiting) t)
may_start x t broker.CancelOk = first_is kind.Cancel x.waiting && same_text (first_name x.waiting) t
may_start x t broker.GetOk = first_is kind.Get x.waiting
may_start x t (broker.Settle n multiple) = may_settle n multiple x.numbers
may_start x t broker.Deliver = has_tag t x.tags
may_start x t broker.Return = true
may_start x t broker.Cancel = has_tag t x.tags
may_start x t broker.Flow = true
may_start x t _ = false

-- Content begun: a header of class 60, any size and properties; then bodies of at least 1 byte and at most the bytes left.
-- (AMQP 0-9-1, section 4.2.6.)
abbrev pub may_open : Channel → List ℕ → BrokerFrame → Bool
may_open x t (broker.Header class size) = takes_header class x.sending
may_open x t (broker.Body n) = takes_body n x.sending
may_open x t d = is_idle x.sending && may_start x t d

-- Leaving, no content being sent, no request waiting: `channel.close-ok`.
abbrev pub may_leave : Channel → Bool
may_leave x = is_idle x.sending && none_waits x.waiting

-- ---- What may be sent at all.

-- Asked: `channel.open-ok`. Asked, Open: `channel.close`, any code and text. Stopping that owes: `channel.close-ok`.
abbrev pub may_in : Peer → Channel → List ℕ → BrokerFrame → Bool
may_in peer.Asked x t d = is_open_ok d || is_close d
may_in peer.Open x t d = is_close d || may_open x t d
may_in peer.Leaving x t d = if is_close_ok d then may_leave x else may_open x t d
may_in peer.StoppingOwes x t d = is_close_ok d
may_in peer.StoppingAnswered x t d = is_close_ok d
may_in _ x t d = false

-- Up: `connection.close` on channel 0, any code and text. Leaving or Stopped that owes: `connection.close-ok` on channel 0.
-- Nothing else may be sent in Leaving, Stopped, Done or Broken.
abbrev pub may_sorted : ℕ → List ℕ → BrokerFrame → Broker → Bool
may_sorted c t d b =
    if is_connection_close d then is_up b.connection
    else (if is_connection_close_ok d then owes_connection b.connection
    else is_up b.connection && may_in (channel_at b c).peer (channel_at b c) t d)

-- the broker may send the frame now
abbrev pub may : Broker → Frame → Bool
may b f = may_sorted (channel_of f) (tag_of f) (broker_frame f) b

-- ---- What it does.

-- The first waiting request is answered.
abbrev pub after_reply : Channel → Channel
after_reply x = record x { waiting = drop 1 x.waiting }

-- Stopping that owes: it owes nothing, and is Free where close-ok was read. Leaving: it is Free.
abbrev pub after_close_ok : Peer → Channel → Channel
after_close_ok peer.StoppingOwes x = record x { peer = peer.Stopping }
after_close_ok _ x = free_channel

-- open-ok: Open. close: Stopping, and the content being sent and the waiting requests are dropped.
-- consume-ok: its tag may then be delivered to. cancel-ok: its tag is removed. get-ok, deliver and return begin a content.
-- A settlement: what it covers is settled. `basic.cancel`: its tag is removed.
abbrev pub after_send : List ℕ → BrokerFrame → Channel → Channel
after_send t broker.OpenOk x = record x { peer = peer.Open }
after_send t broker.Close x = record x { peer = peer.Stopping; sending = content.Idle; waiting = [] }
after_send t broker.CloseOk x = after_close_ok x.peer x
after_send t (broker.Reply k) x = after_reply x
after_send t broker.ConsumeOk x = record (after_reply x) { tags = with_tag t x.tags }
after_send t broker.CancelOk x = record (after_reply x) { tags = without_tag t x.tags }
after_send t broker.GetOk x = record (after_reply x) { sending = content.Begun }
after_send t (broker.Settle n multiple) x = record x { numbers = after_settlement n multiple x.numbers }
after_send t broker.Deliver x = record x { sending = content.Begun }
after_send t broker.Return x = record x { sending = content.Begun }
after_send t broker.Cancel x = record x { tags = without_tag t x.tags }
after_send t (broker.Header class size) x = record x { sending = of_size size }
after_send t (broker.Body n) x = record x { sending = without_bytes n x.sending }
after_send t _ x = x

-- That channel after the frame was sent, in its place among the broker's.
abbrev pub send_on : ℕ → List ℕ → BrokerFrame → Broker → Broker
send_on c t d b = record b { channels = on_channel c (after_send t d) b.channels }

-- The content that is being read on a channel is dropped as that starts to stop: what comes is passed over from then on.
abbrev pub is_read_on : ℕ → Option (ℕ × Content) → Bool
is_read_on c None = false
is_read_on c (Some r) = r.0 == c

-- `connection.close`: Stopped. `connection.close-ok`: Leaving becomes Done; Stopped owes nothing.
abbrev pub after_own_close_ok : Connection → Connection
after_own_close_ok connection.StoppedOwes = connection.Stopped
after_own_close_ok _ = connection.Done

-- The close and close-ok of the connection move the connection alone, any other frame its channel.
abbrev pub send_sorted : ℕ → List ℕ → BrokerFrame → Broker → Broker
send_sorted c t d b =
    if is_connection_close d then record b { connection = connection.Stopped }
    else (if is_connection_close_ok d then record b { connection = after_own_close_ok b.connection }
    else record (send_on c t d b) { reading = if is_close d && is_read_on c b.reading then None else b.reading })

-- The broker after it has sent the frame.
abbrev pub send : Broker → Frame → Broker
send b f = send_sorted (channel_of f) (tag_of f) (broker_frame f) b
