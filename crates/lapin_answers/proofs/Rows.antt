-- Which calls ask for a reply, by what their frames are to the broker, and which frames of the broker are replies, by what they are to
-- the session.
use Rattle.std.proofs.Common.{◌≡◌, ◌∙◌, ℕ, ◌==◌, Bool, true, false, cond, ◌&&◌, Option, Some, None, refl, sym, ap}
use Rattle.lapin_types.specs.declared.acker_call.AckerCall.{AckerCall}
use Rattle.lapin_types.specs.declared.acker_call.AckerCall.TheVariants as acker_call
use Rattle.lapin_types.specs.declared.call.Call.{Call}
use Rattle.lapin_types.specs.declared.call.Call.TheVariants as call
use Rattle.lapin_types.specs.declared.answer.Answer.{Answer}
use Rattle.lapin_types.specs.declared.request.Reply.{Reply}
use Rattle.lapin_types.specs.declared.request.Reply.TheVariants as reply
use Rattle.lapin_types.specs.declared.request.ReplyKind.{ReplyKind}
use Rattle.lapin_types.specs.declared.request.ReplyKind.TheVariants as reply_kind
use Rattle.lapin_types.specs.Requests.{kind_of}
use Rattle.lapin_types.specs.ExchangeKinds.{kind_text}
use Rattle.lapin_types.specs.Types.{Frame, Method}
use Rattle.lapin_types.specs.Types.frame
use Rattle.lapin_types.specs.Types.method
use Rattle.lapin_types.specs.Types.exchange
use Rattle.lapin_types.specs.Types.queue
use Rattle.lapin_types.specs.Types.basic
use Rattle.lapin_types.specs.Types.confirm
use Rattle.lapin_rules.specs.declared.calls.Asked.{Asked}
use Rattle.lapin_rules.specs.declared.calls.Asked.TheVariants as ask
use Rattle.lapin_rules.specs.declared.broker_frames.Incoming.TheVariants as incoming
use Rattle.lapin_rules.specs.Ackers.{acker_method}
use Rattle.lapin_rules.specs.Calls.{asked, awaited_by, awaiting, unless_nowait}
use Rattle.lapin_rules.specs.Incoming.{incoming_of}
use Rattle.lapin_broker.specs.declared.request.RequestKind.{RequestKind}
use Rattle.lapin_broker.specs.declared.request.RequestKind.TheVariants as kind
use Rattle.lapin_broker.specs.declared.frames.BrokerFrame.{BrokerFrame}
use Rattle.lapin_broker.specs.declared.frames.BrokerFrame.TheVariants as broker
use Rattle.lapin_broker.specs.declared.frames.ClientFrame.{ClientFrame}
use Rattle.lapin_broker.specs.declared.frames.ClientFrame.TheVariants as client
use Rattle.lapin_broker.specs.Frames.{channel_of, client_frame, broker_frame}
use Rattle.lapin_pairs.specs.Channel.{DownF, BReply}
use Rattle.lapin_pairs.specs.Every.{DownOn, ToD}
use Rattle.lapin_concord.specs.Frames.{number, down_kind}
use Rattle.lapin_concord.specs.Wires.{reply_number, is_asked}
use Rattle.lapin_concord.specs.Incomes.{income_as}
use Rattle.lapin_concord.proofs.Incomes.{sorted}
use Rattle.lapin_verdicts.specs.Answers.{awaits_as, kind_asked, kind_answered, replies_as, replies}
use Rattle.lapin_tables.proofs.Bools.{and_true, and_false}

-- ---- calls

-- the frame asks for this reply
pub record IsAskFor (u : ClientFrame) (r : Reply) : Type 0 where
  pub kind : RequestKind
  pub kind_is : kind_asked u ≡ Some kind
  pub same : number kind ≡ reply_number (kind_of r)
  pub asks : is_asked (kind_of r) ≡ true

-- what a method is that a call queues: it asks for the reply, or for none
abbrev pub Row : ℕ → Method → Option Reply → Type 0
Row c m None = awaits_as (client_frame (frame.Method c m)) ≡ false
Row c m (Some r) = IsAskFor (client_frame (frame.Method c m)) r

abbrev pub RowOf : ℕ → Asked → Type 0
RowOf c (ask.Method row) = Row c row.method (awaited_by row.answered)
RowOf c (ask.Consume m tag queue o) = Row c m None
RowOf c _ = Unit {0}

abbrev for_kind : (u : ClientFrame) (r : Reply) (k : RequestKind) → kind_asked u ≡ Some k → number k ≡ reply_number (kind_of r) → is_asked (kind_of r) ≡ true → IsAskFor u r
for_kind u r k e s a = record { kind = k; kind_is = e; same = s; asks = a }

-- a call with a bit for no wait
unless : (c : ℕ) (f : Bool → Method) (t : Bool) (r : Reply) (a : Answer) → Row c (f true) None → Row c (f false) (Some r) → RowOf c (unless_nowait (f t) t r a)
unless c f true r a x y = x
unless c f false r a x y = y

pub row_of : (c : ℕ) (k : Call) → RowOf c (asked k)
row_of c call.OpenChannel = tt
row_of c (call.ChannelClose code text) = tt
row_of c (call.ConnectionClose code text) = tt
row_of c (call.BasicPublish exchange key o payload properties) = tt
row_of c (call.TryBasicPublish exchange key o payload properties) = tt
row_of c (call.ConfirmLimit limit) = tt
row_of c (call.ChannelFlow o) = for_kind _ reply.ChannelFlowOk kind.Flow refl refl refl
row_of c (call.AccessRequest realm o) = for_kind _ reply.AccessRequestOk kind.Access refl refl refl
row_of c (call.ExchangeDeclare name k o more) = unless c (λ t. method.Exchange (exchange.Declare name (kind_text k) o.passive o.durable o.auto_delete o.internal t more)) o.nowait _ _ refl (for_kind _ _ kind.ExchangeDeclare refl refl refl)
row_of c (call.ExchangeDelete name o) = unless c (λ t. method.Exchange (exchange.Delete name o.if_unused t)) o.nowait _ _ refl (for_kind _ _ kind.ExchangeDelete refl refl refl)
row_of c (call.ExchangeBind to from key o more) = unless c (λ t. method.Exchange (exchange.Bind to from key t more)) o.nowait _ _ refl (for_kind _ _ kind.ExchangeBind refl refl refl)
row_of c (call.ExchangeUnbind to from key o more) = unless c (λ t. method.Exchange (exchange.Unbind to from key t more)) o.nowait _ _ refl (for_kind _ _ kind.ExchangeUnbind refl refl refl)
row_of c (call.QueueDeclare name o more) = unless c (λ t. method.Queue (queue.Declare name o.passive o.durable o.exclusive o.auto_delete t more)) o.nowait _ _ refl (for_kind _ _ kind.QueueDeclare refl refl refl)
row_of c (call.QueueBind name from key o more) = unless c (λ t. method.Queue (queue.Bind name from key t more)) o.nowait _ _ refl (for_kind _ _ kind.QueueBind refl refl refl)
row_of c (call.QueuePurge name o) = unless c (λ t. method.Queue (queue.Purge name t)) o.nowait _ _ refl (for_kind _ _ kind.QueuePurge refl refl refl)
row_of c (call.QueueDelete name o) = unless c (λ t. method.Queue (queue.Delete name o.if_unused o.if_empty t)) o.nowait _ _ refl (for_kind _ _ kind.QueueDelete refl refl refl)
row_of c (call.QueueUnbind name from key more) = for_kind _ (reply.QueueUnbindOk name from key more) kind.QueueUnbind refl refl refl
row_of c (call.BasicQos most o) = for_kind _ reply.BasicQosOk kind.Qos refl refl refl
row_of c (call.BasicConsume name tag o more) = consumes o.nowait
  where
    consumes : (t : Bool) → RowOf c (cond t (ask.Consume (method.Basic (basic.Consume name tag o.no_local o.no_ack o.exclusive t more)) tag name o) (awaiting (method.Basic (basic.Consume name tag o.no_local o.no_ack o.exclusive t more)) (reply.BasicConsumeOk name o)))
    consumes true = refl
    consumes false = for_kind _ (reply.BasicConsumeOk name o) kind.Consume refl refl refl
row_of c (call.BasicCancel tag o) = unless c (λ t. method.Basic (basic.Cancel tag t)) o.nowait _ _ refl (for_kind _ _ kind.Cancel refl refl refl)
row_of c (call.BasicGet name o) = for_kind _ reply.BasicGetOk kind.Get refl refl refl
row_of c (call.BasicAck tag o) = refl
row_of c (call.BasicNack tag o) = refl
row_of c (call.BasicReject tag o) = refl
row_of c (call.BasicRecoverAsync o) = refl
row_of c (call.BasicRecover o) = for_kind _ reply.BasicRecoverOk kind.Recover refl refl refl
row_of c (call.ConfirmSelect o) = unless c (λ t. method.Confirm (confirm.Select t)) o.nowait _ _ refl (for_kind _ _ kind.Select refl refl refl)
row_of c call.TxSelect = for_kind _ reply.TxSelectOk kind.TxSelect refl refl refl
row_of c call.TxCommit = for_kind _ reply.TxCommitOk kind.TxCommit refl refl refl
row_of c call.TxRollback = for_kind _ reply.TxRollbackOk kind.TxRollback refl refl refl

pub acker_row : (c tag : ℕ) (k : AckerCall) → Row c (acker_method k tag) None
acker_row c tag (acker_call.Ack o) = refl
acker_row c tag (acker_call.Nack o) = refl
acker_row c tag (acker_call.Reject o) = refl

-- a frame that asks awaits
pub asked_awaits : (u : ClientFrame) (k : RequestKind) → kind_asked u ≡ Some k → awaits_as u ≡ true
asked_awaits (client.Ask j) k h = refl
asked_awaits (client.Select true) k h = refl
asked_awaits (client.Select false) k h = absurd cc
asked_awaits _ k h = absurd cc

-- ---- replies

-- the frame is a reply on this channel, as the pair of machines has it
abbrev pub is_reply_down : ℕ → DownOn DownF → Bool
is_reply_down c (ToD d (BReply n content)) = d == c
is_reply_down c _ = false

reply_kind_down : (c d : ℕ) (x : BrokerFrame) → is_reply_down c (down_kind d x) ≡ ((d == c) && replies_as x)
reply_kind_down c d broker.ConnectionClose = sym (and_false (d == c))
reply_kind_down c d broker.ConnectionCloseOk = sym (and_false (d == c))
reply_kind_down c d (broker.Reply k) = sym (and_true (d == c))
reply_kind_down c d broker.ConsumeOk = sym (and_true (d == c))
reply_kind_down c d broker.CancelOk = sym (and_true (d == c))
reply_kind_down c d broker.GetOk = sym (and_true (d == c))
reply_kind_down c d _ = sym (and_false (d == c))

-- a frame is a reply on the channel as the session sorts it
pub reply_comes : (c : ℕ) (f : Frame) → ((channel_of f == c) && replies f) ≡ is_reply_down c (income_as (incoming_of f))
reply_comes c f = sym (reply_kind_down c (channel_of f) (broker_frame f)) ∙ ap (is_reply_down c) (sorted f)

-- what a reply of this number is
pub record IsReplyOf (c n : ℕ) (d : ℕ) (x : BrokerFrame) : Type 0 where
  pub on : d ≡ c
  pub kind : RequestKind
  pub kind_is : kind_answered x ≡ Some kind
  pub same : number kind ≡ n
  pub replies : replies_as x ≡ true

to_parts : (c d n m : ℕ) (z w : Bool) → ◌≡◌ {A = DownOn DownF} (ToD d (BReply n z)) (ToD c (BReply m w)) → (d ≡ c) × (n ≡ m)
to_parts c d n m z w h = let x : d ≡ c = cc in let y : n ≡ m = cc in (x, y)

kind_down : (c n d : ℕ) (z : Bool) (x : BrokerFrame) → down_kind d x ≡ ToD c (BReply n z) → IsReplyOf c n d x
kind_down c n d z (broker.Reply k) h = let p = to_parts c d (number k) n false z h in record { on = p.0; kind = k; kind_is = refl; same = p.1; replies = refl }
kind_down c n d z broker.ConsumeOk h = let p = to_parts c d (number kind.Consume) n false z h in record { on = p.0; kind = kind.Consume; kind_is = refl; same = p.1; replies = refl }
kind_down c n d z broker.CancelOk h = let p = to_parts c d (number kind.Cancel) n false z h in record { on = p.0; kind = kind.Cancel; kind_is = refl; same = p.1; replies = refl }
kind_down c n d z broker.GetOk h = let p = to_parts c d (number kind.Get) n true z h in record { on = p.0; kind = kind.Get; kind_is = refl; same = p.1; replies = refl }
kind_down c n d z _ h = absurd cc

pub reply_is : (c n : ℕ) (z : Bool) (f : Frame) → income_as (incoming_of f) ≡ ToD c (BReply n z) → IsReplyOf c n (channel_of f) (broker_frame f)
reply_is c n z f h = kind_down c n (channel_of f) z (broker_frame f) (sorted f ∙ h)

-- a reply that asks for no more goes to its channel as one
pub asked_comes : (c : ℕ) (k : ReplyKind) (a : Answer) → is_asked k ≡ true → income_as (incoming.Reply c k a) ≡ ToD c (BReply (reply_number k) false)
asked_comes c reply_kind.ChannelOpenOk a h = absurd cc
asked_comes c reply_kind.ChannelCloseOk a h = absurd cc
asked_comes c reply_kind.ConnectionCloseOk a h = absurd cc
asked_comes c _ a h = refl

pub other_comes : (c d : ℕ) (k : ReplyKind) (a : Answer) → is_asked k ≡ false → is_reply_down c (income_as (incoming.Reply d k a)) ≡ false
other_comes c d reply_kind.ChannelOpenOk a h = refl
other_comes c d reply_kind.ChannelCloseOk a h = refl
other_comes c d reply_kind.ConnectionCloseOk a h = refl
other_comes c d _ a h = absurd cc
