-- What the broker reads: a function of its state and the frame. The rules are tried in their order, from `read` at the end of
-- this page upwards.
use Rattle.std.specs.Prelude.{ℕ, ◌-◌, ◌==◌, Bool, true, false, ◌&&◌, not, nat_le, if◌then◌else◌, List, [], ◌∷◌, ◌++◌, Option, Some, None}
use Rattle.lapin_types.specs.Types.{Frame}
use Rattle.lapin_tables.specs.ByChannel.{on_channel}
use Rattle.lapin_broker.specs.declared.content.Content.{Content}
use Rattle.lapin_broker.specs.declared.content.Content.TheVariants as content
use Rattle.lapin_broker.specs.declared.request.RequestKind.{RequestKind}
use Rattle.lapin_broker.specs.declared.request.RequestKind.TheVariants as kind
use Rattle.lapin_broker.specs.declared.request.Request.{Request}
use Rattle.lapin_broker.specs.declared.frames.ClientFrame.{ClientFrame}
use Rattle.lapin_broker.specs.declared.frames.ClientFrame.TheVariants as client
use Rattle.lapin_broker.specs.declared.peer.Connection.{Connection}
use Rattle.lapin_broker.specs.declared.peer.Connection.TheVariants as connection
use Rattle.lapin_broker.specs.declared.peer.Peer.{Peer}
use Rattle.lapin_broker.specs.declared.peer.Peer.TheVariants as peer
use Rattle.lapin_broker.specs.Contents.{of_size, without_bytes, takes_header, takes_body, is_idle}
use Rattle.lapin_broker.specs.Frames.{channel_of, client_frame, tag_of, echo_of}
use Rattle.lapin_broker.specs.Tags.{with_tag, without_tag}
use Rattle.lapin_broker.specs.States.{Channel, Broker, free_channel, channel_at, with_channel, after_break, is_up, is_leaving}

-- the client closes the connection
abbrev pub is_connection_close : ClientFrame → Bool
is_connection_close client.ConnectionClose = true
is_connection_close _ = false

-- the client answers the close of the connection
abbrev pub is_connection_close_ok : ClientFrame → Bool
is_connection_close_ok client.ConnectionCloseOk = true
is_connection_close_ok _ = false

-- the client opens a channel
abbrev pub is_open : ClientFrame → Bool
is_open client.Open = true
is_open _ = false

-- the client begins a publish
abbrev pub is_publish : ClientFrame → Bool
is_publish client.Publish = true
is_publish _ = false

-- ---- A content that is being read. (AMQP 0-9-1, section 4.2.6.)

-- The next frame must be its header or body: a header of class 60, a body of 1 to `frame_max` minus 8 bytes and at most the
-- bytes left.
abbrev pub admits : ℕ → Content → ClientFrame → Bool
admits most x (client.Header class size) = takes_header class x
admits most x (client.Body n) = takes_body n x && nat_le n (most - 8)
admits most x _ = false

-- A size of 0 makes the publish whole at its header, else the last byte does.
abbrev pub content_after : Content → ClientFrame → Content
content_after x (client.Header class size) = of_size size
content_after x (client.Body n) = without_bytes n x
content_after x _ = x

-- A whole publish on a channel that has read `confirm.select` takes the next number. (RabbitMQ's publisher confirms.)
abbrev pub with_next_number : Channel → Channel
with_next_number x = if x.selected then record x { numbers = x.numbers ++ Some tt ∷ [] } else x

-- The broker once a publish came whole on that channel.
abbrev pub number_on : ℕ → Broker → Broker
number_on c b = record b { channels = on_channel c with_next_number b.channels }

-- After a piece of the content on that channel: whole, it takes its number and is read no more; else this is what is left to read.
abbrev pub with_piece : ℕ → Content → Broker → Broker
with_piece c x b = if is_idle x then record (number_on c b) { reading = None } else record b { reading = Some (c, x) }

-- A frame on the channel whose content is being read: its next piece; anything else is Broken.
abbrev pub read_piece : ℕ → Content → ClientFrame → Broker → Broker
read_piece c x u b = if admits b.frame_max x u then with_piece c (content_after x u) b else after_break b

-- ---- A channel that is Open.

-- Any other frame is Broken.
abbrev pub breaks_open : ClientFrame → Bool
breaks_open client.Publish = false
breaks_open (client.Select awaits) = false
breaks_open (client.Ask k) = false
breaks_open client.Consume = false
breaks_open client.Cancel = false
breaks_open client.Tell = false
breaks_open client.Close = false
breaks_open _ = true

-- `basic.publish` begins a content.
abbrev pub begins_in : Peer → ClientFrame → Bool
begins_in peer.Open u = is_publish u
begins_in _ u = false

-- A method that awaits a reply joins the waiting requests.
abbrev pub request_of : RequestKind → Frame → Request
request_of k f = record { kind = k; echo = echo_of f }

-- The request joins those that wait on the channel, at the back.
abbrev pub with_request : RequestKind → Frame → Channel → Channel
with_request k f x = record x { waiting = x.waiting ++ request_of k f ∷ [] }

-- `confirm.select` sets the mark; later ones change nothing of it; one that awaits its reply joins the waiting requests too.
-- `basic.consume` without wait adds its tag to those that may be delivered to; `basic.cancel` without wait removes its tag.
-- `channel.close` makes the channel Leaving. Settlements, flow-ok, cancel-ok and calls without wait change nothing more.
abbrev pub read_open : Frame → Channel → ClientFrame → Channel
read_open f x (client.Select true) = record (with_request kind.Select f x) { selected = true }
read_open f x (client.Select false) = record x { selected = true }
read_open f x (client.Ask k) = with_request k f x
read_open f x client.Consume = record x { tags = with_tag (tag_of f) x.tags }
read_open f x client.Cancel = record x { tags = without_tag (tag_of f) x.tags }
read_open f x client.Close = record x { peer = peer.Leaving }
read_open f x _ = x

-- ---- A channel that is Stopping. (AMQP 0-9-1, `channel.close`: the peer that closed discards all but close and close-ok.)

-- `channel.close` sets the mark owes; `channel.close-ok` sets the mark has read. The channel is Free, with all that it kept
-- dropped, once close-ok was read and none is owed.
abbrev pub read_stopping : Channel → ClientFrame → Channel
read_stopping x client.Close = record x { peer = peer.StoppingOwes }
read_stopping x client.CloseOk = free_channel
read_stopping x _ = x

-- The same where close-ok is owed already: `channel.close-ok` sets the mark has read, all else is passed over.
abbrev pub read_owing : Channel → ClientFrame → Channel
read_owing x client.CloseOk = record x { peer = peer.StoppingAnswered }
read_owing x _ = x

-- ---- Any channel.

-- Free: anything but `channel.open` is Broken. Asked, Leaving: anything is. Stopping: nothing is, all else is passed over.
abbrev pub breaks_in : Peer → ClientFrame → Bool
breaks_in peer.Free u = not (is_open u)
breaks_in peer.Asked u = true
breaks_in peer.Leaving u = true
breaks_in peer.Open u = breaks_open u
breaks_in _ u = false

-- Free: `channel.open` makes it Asked.
abbrev pub read_in : Peer → Frame → Channel → ClientFrame → Channel
read_in peer.Free f x u = if is_open u then record x { peer = peer.Asked } else x
read_in peer.Open f x u = read_open f x u
read_in peer.Stopping f x u = read_stopping x u
read_in peer.StoppingOwes f x u = read_owing x u
read_in _ f x u = x

-- The channel after the frame, in its place among the broker's.
abbrev pub read_channel : ℕ → Frame → ClientFrame → Broker → Broker
read_channel c f u b = record b { channels = with_channel c (read_in (channel_at b c).peer f (channel_at b c) u) b.channels }

-- While no content is being read: a frame that breaks its channel is Broken; else the channel reads it, and a publish begins a content.
abbrev pub read_on : ℕ → Frame → ClientFrame → Broker → Broker
read_on c f u b =
    if breaks_in (channel_at b c).peer u then after_break b
    else record (read_channel c f u b) { reading = if begins_in (channel_at b c).peer u then Some (c, content.Begun) else b.reading }

-- ---- The connection.

-- Up: while a content is being read on an open channel, the next frame must be its header or body on that channel; else Broken.
abbrev pub read_up : Option (ℕ × Content) → ℕ → Frame → ClientFrame → Broker → Broker
read_up (Some r) c f u b = if r.0 == c then read_piece c r.1 u b else after_break b
read_up None c f u b = read_on c f u b

-- In Stopped every other frame is passed over, and so in Done and Broken; in Leaving it is Broken.
abbrev pub read_down : Broker → Broker
read_down b = if is_leaving b.connection then after_break b else b

-- `connection.close` on channel 0: Up becomes Leaving; Stopped now owes close-ok; in Leaving it is Broken.
-- Done and Broken pass every frame over.
abbrev pub after_client_close : Connection → Connection
after_client_close connection.Up = connection.Leaving
after_client_close connection.Stopped = connection.StoppedOwes
after_client_close connection.StoppedOwes = connection.StoppedOwes
after_client_close connection.Done = connection.Done
after_client_close _ = connection.Broken

-- `connection.close-ok` on channel 0: Stopped that owes nothing becomes Done; Stopped that owes close-ok becomes Leaving;
-- otherwise Broken.
abbrev pub after_client_close_ok : Connection → Connection
after_client_close_ok connection.Stopped = connection.Done
after_client_close_ok connection.StoppedOwes = connection.LeavingStopped
after_client_close_ok connection.Done = connection.Done
after_client_close_ok _ = connection.Broken

-- The close and close-ok of the connection move the connection alone; any other frame counts as it is Up or not.
abbrev pub read_sorted : ℕ → Frame → ClientFrame → Broker → Broker
read_sorted c f u b =
    if is_connection_close u then record b { connection = after_client_close b.connection }
    else (if is_connection_close_ok u then record b { connection = after_client_close_ok b.connection }
    else (if is_up b.connection then read_up b.reading c f u b else read_down b))

-- The broker after it has read the frame.
abbrev pub read : Broker → Frame → Broker
read b f = read_sorted (channel_of f) f (client_frame f) b
