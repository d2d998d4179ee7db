-- The plain broker: of the frames that may be sent, the one that it gives, if any. It begins no content, and closes nothing of
-- itself.
use Rattle.std.specs.Prelude.{ℕ, codes, Bool, true, false, ◌&&◌, not, if◌then◌else◌, nat_lt, List, [], ◌∷◌, Option, Some, None, is_some}
use Rattle.std.specs.List.{list_any}
use Rattle.std.specs.Option.{option_map}
use Rattle.lapin_types.specs.Types.{Frame, Method}
use Rattle.lapin_types.specs.Types.frame
use Rattle.lapin_types.specs.Types.method
use Rattle.lapin_types.specs.Types.connection
use Rattle.lapin_types.specs.Types.channel
use Rattle.lapin_types.specs.Types.access
use Rattle.lapin_types.specs.Types.exchange
use Rattle.lapin_types.specs.Types.queue
use Rattle.lapin_types.specs.Types.basic
use Rattle.lapin_types.specs.Types.confirm
use Rattle.lapin_types.specs.Types.tx
use Rattle.lapin_tables.specs.Numbered.{first_kept}
use Rattle.lapin_broker.specs.declared.request.RequestKind.{RequestKind}
use Rattle.lapin_broker.specs.declared.request.RequestKind.TheVariants as kind
use Rattle.lapin_broker.specs.declared.request.Echo.{Echo}
use Rattle.lapin_broker.specs.declared.request.Echo.TheVariants as echo
use Rattle.lapin_broker.specs.declared.request.Request.{Request}
use Rattle.lapin_broker.specs.declared.peer.Peer.{Peer}
use Rattle.lapin_broker.specs.declared.peer.Peer.TheVariants as peer
use Rattle.lapin_broker.specs.Requests.{echo_name}
use Rattle.lapin_broker.specs.Tags.{is_empty}
use Rattle.lapin_broker.specs.States.{Channel, Broker, channel_at, is_up, is_sending, owes_connection}

-- ---- Replies have the asked names and tags (`amq.gen` for an empty one) and counts 0; a get is answered by get-empty; flow-ok
-- repeats the asked value.

-- the name that a reply tells: the asked one, and `amq.gen` for an empty one
abbrev pub given_name : List ℕ → List ℕ
given_name n = if is_empty n then codes "amq.gen" else n

-- the value that flow-ok repeats, and true where none was asked
abbrev pub echo_active : Echo → Bool
echo_active (echo.Active active) = active
echo_active _ = true

-- the reply to a request of this kind, with what of the request it repeats
abbrev pub reply_by : RequestKind → Echo → Method
reply_by kind.Flow a = method.Channel (channel.FlowOk (echo_active a))
reply_by kind.Access a = method.Access access.RequestOk
reply_by kind.ExchangeDeclare a = method.Exchange exchange.DeclareOk
reply_by kind.ExchangeDelete a = method.Exchange exchange.DeleteOk
reply_by kind.ExchangeBind a = method.Exchange exchange.BindOk
reply_by kind.ExchangeUnbind a = method.Exchange exchange.UnbindOk
reply_by kind.QueueDeclare a = method.Queue (queue.DeclareOk (given_name (echo_name a)) 0 0)
reply_by kind.QueueBind a = method.Queue queue.BindOk
reply_by kind.QueuePurge a = method.Queue (queue.PurgeOk 0)
reply_by kind.QueueDelete a = method.Queue (queue.DeleteOk 0)
reply_by kind.QueueUnbind a = method.Queue queue.UnbindOk
reply_by kind.Qos a = method.Basic basic.QosOk
reply_by kind.Consume a = method.Basic (basic.ConsumeOk (given_name (echo_name a)))
-- cancel-ok has to name the asked tag, whichever it is
reply_by kind.Cancel a = method.Basic (basic.CancelOk (echo_name a))
reply_by kind.Get a = method.Basic basic.GetEmpty
reply_by kind.Recover a = method.Basic basic.RecoverOk
reply_by kind.Select a = method.Confirm confirm.SelectOk
reply_by kind.TxSelect a = method.Tx tx.SelectOk
reply_by kind.TxCommit a = method.Tx tx.CommitOk
reply_by kind.TxRollback a = method.Tx tx.RollbackOk

-- ---- One channel: the close-ok that is owed; else, on Asked, open-ok; else the reply to the first waiting request; else a single
-- `basic.ack` of the lowest read number that isn't settled; else, on Leaving, close-ok.

-- a single `basic.ack` of the number, if there is one (RabbitMQ's publisher confirms)
abbrev pub plain_ack : Option ℕ → Option Method
plain_ack None = None
plain_ack (Some n) = Some (method.Basic (basic.Ack n false))

-- the reply to the first of the waiting requests; where none waits, the ack of the lowest read number that isn't settled, if any
abbrev pub plain_open : List Request → Channel → Option Method
plain_open [] x = plain_ack (first_kept x.numbers)
plain_open (r ∷ rs) x = Some (reply_by r.kind r.echo)

-- `channel.close-ok` where there is nothing else to send
abbrev pub or_close_ok : Option Method → Option Method
or_close_ok None = Some (method.Channel channel.CloseOk)
or_close_ok (Some m) = Some m

-- the method that is given on a channel in this state, if any
abbrev pub plain_in : Peer → Channel → Option Method
plain_in peer.StoppingOwes x = Some (method.Channel channel.CloseOk)
plain_in peer.StoppingAnswered x = Some (method.Channel channel.CloseOk)
plain_in peer.Asked x = Some (method.Channel channel.OpenOk)
plain_in peer.Open x = plain_open x.waiting x
plain_in peer.Leaving x = or_close_ok (plain_open x.waiting x)
plain_in _ x = None

-- some method is given on the channel
abbrev pub has_plain : Channel → Bool
has_plain x = is_some (plain_in x.peer x)

-- ---- The lowest channel that has something.

-- the lower one of two channel numbers, the first of which may be missing
abbrev pub least : Option ℕ → ℕ → ℕ
least None c = c
least (Some d) c = if nat_lt c d then c else d

-- the lowest channel so far, once this one was looked at, which counts where it has something
abbrev pub lower : Option ℕ → ℕ × Channel → Option ℕ
lower best e = if has_plain e.1 then Some (least best e.0) else best

-- the lowest channel that has something, among these and the lowest so far; none where none has
abbrev pub lowest_from : Option ℕ → List (ℕ × Channel) → Option ℕ
lowest_from best [] = best
lowest_from best (e ∷ es) = lowest_from (lower best e) es

-- the frame that is given on that channel, if any
abbrev pub plain_at : Broker → Option ℕ → Option Frame
plain_at b None = None
plain_at b (Some c) = option_map (λ m. frame.Method c m) (plain_in (channel_at b c).peer (channel_at b c))

-- a content is being sent on this channel of the list
abbrev pub is_sending_on : ℕ × Channel → Bool
is_sending_on e = is_sending e.1

-- The close-ok of the connection where it is owed; once that is Leaving or Stopped nothing else may be sent. While it is Up none
-- is given as long as a content is being sent on any channel.
abbrev pub plain : Broker → Option Frame
plain b =
    if owes_connection b.connection then Some (frame.Method 0 (method.Connection connection.CloseOk))
    else (if is_up b.connection && not (list_any is_sending_on b.channels) then plain_at b (lowest_from None b.channels) else None)
