-- What each call queues, as the pair of machines has it.
use Rattle.std.proofs.Common.{◌≡◌, ℕ, Bool, true, false, cond, List, [], ◌∷◌, ◌++◌, refl, ap, Option, Some, None}
use Rattle.lapin_types.specs.declared.call.Call.{Call}
use Rattle.lapin_types.specs.declared.call.Call.TheVariants as call
use Rattle.lapin_types.specs.declared.request.Request.{Request}
use Rattle.lapin_types.specs.declared.request.Reply.{Reply}
use Rattle.lapin_types.specs.declared.request.Reply.TheVariants as reply
use Rattle.lapin_types.specs.Requests.{kind_of}
use Rattle.lapin_types.specs.declared.answer.Answer.{Answer}
use Rattle.lapin_types.specs.ExchangeKinds.{kind_text}
use Rattle.lapin_types.specs.Types.{Method}
use Rattle.lapin_types.specs.Types.frame
use Rattle.lapin_types.specs.Types.method
use Rattle.lapin_types.specs.Types.exchange
use Rattle.lapin_types.specs.Types.queue
use Rattle.lapin_types.specs.Types.basic
use Rattle.lapin_types.specs.Types.confirm
use Rattle.lapin_rules.specs.declared.calls.Asked.{Asked}
use Rattle.lapin_rules.specs.declared.calls.Asked.TheVariants as ask
use Rattle.lapin_rules.specs.Calls.{asked, awaited_by, unless_nowait, consuming}
use Rattle.lapin_broker.specs.Frames.{client_frame}
use Rattle.lapin_pairs.specs.Machine.{Up, UOther, Opened}
use Rattle.lapin_pairs.specs.Channel as kept
use Rattle.lapin_pairs.specs.Channel.{FTell, FSelect, FAsk}
use Rattle.lapin_pairs.specs.Every.{OnU}
use Rattle.lapin_pairs.specs.Asking.{U2, Plain, SelectAsk, S2, K2, KTell, KAsk, KSelect, call_at, needs2}
use Rattle.lapin_concord.specs.Frames.{up_frame, IsSent}
use Rattle.lapin_concord.specs.Wires.{reply_number, is_asked, asked_in}
use Rattle.lapin_concord.specs.Held.{way}

-- an opened channel with these requests and this content
abbrev pub opened : List ℕ → kept.Content → S2
opened xs z = record { sess = Opened; open_data = Some (record { asked_for = xs; content = z }) }

-- the requests with the one that a call opens
abbrev pub asked_with : Option Reply → List ℕ → List ℕ
asked_with None xs = xs
asked_with (Some r) xs = xs ++ reply_number (kind_of r) ∷ []

-- nothing, or a request that neither opens nor closes
abbrev pub IsAsking : Option Reply → Type 0
IsAsking None = Unit {0}
IsAsking (Some r) = is_asked (kind_of r) ≡ true

-- none of these opens or closes
abbrev pub are_others : List Up → Bool
are_others [] = true
are_others (UOther ∷ us) = are_others us
are_others (_ ∷ us) = false

-- the method is queued by this call of the pair
pub record Queues (c : ℕ) (m : Method) (w : Option Reply) : Type 0 where
  pub call : K2
  pub small : U2
  pub up : up_frame (frame.Method c m) ≡ OnU c small
  pub makes : (xs : List ℕ) (z : kept.Content) → call_at call (opened xs z) Opened ≡ Some (opened (asked_with w xs) z, small ∷ [])
  pub needs : needs2 call ≡ false
  pub others : are_others (way (small ∷ [])) ≡ true
  pub asks : IsAsking w
  pub sent : (most : ℕ) → IsSent most (client_frame (frame.Method c m))

abbrev pub tells : (c : ℕ) (m : Method) → up_frame (frame.Method c m) ≡ OnU c (Plain FTell) → ((most : ℕ) → IsSent most (client_frame (frame.Method c m))) → Queues c m None
tells c m e s = record { call = KTell; small = Plain FTell; up = e; makes = λ xs z. refl; needs = refl; others = refl; asks = tt; sent = s }

abbrev pub asks : (c : ℕ) (m : Method) (r : Reply) → up_frame (frame.Method c m) ≡ OnU c (Plain (FAsk (reply_number (kind_of r)))) → is_asked (kind_of r) ≡ true → ((most : ℕ) → IsSent most (client_frame (frame.Method c m))) → Queues c m (Some r)
asks c m r e a s = record { call = KAsk (reply_number (kind_of r)); small = Plain (FAsk (reply_number (kind_of r))); up = e; makes = λ xs z. refl; needs = refl; others = refl; asks = a; sent = s }

-- what a call queues
abbrev pub QueuesOf : ℕ → Asked → Type 0
QueuesOf c (ask.Method row) = Queues c row.method (awaited_by row.answered)
QueuesOf c (ask.Consume m tag queue o) = Queues c m None
QueuesOf c _ = Unit {0}

abbrev fine : (most : ℕ) → Unit {0}
fine most = tt

-- a call with a bit for no wait
unless : (c : ℕ) (f : Bool → Method) (t : Bool) (r : Reply) (a : Answer) → Queues c (f true) None → Queues c (f false) (Some r) → QueuesOf c (unless_nowait (f t) t r a)
unless c f true r a x y = x
unless c f false r a x y = y

pub queues : (c : ℕ) (k : Call) → QueuesOf c (asked k)
queues c call.OpenChannel = tt
queues c (call.ChannelClose code text) = tt
queues c (call.ConnectionClose code text) = tt
queues c (call.BasicPublish exchange key o payload properties) = tt
queues c (call.TryBasicPublish exchange key o payload properties) = tt
queues c (call.ConfirmLimit limit) = tt
queues c (call.ChannelFlow o) = asks c _ reply.ChannelFlowOk refl refl fine
queues c (call.AccessRequest realm o) = asks c _ reply.AccessRequestOk refl refl fine
queues c (call.ExchangeDeclare name k o more) = unless c (λ t. method.Exchange (exchange.Declare name (kind_text k) o.passive o.durable o.auto_delete o.internal t more)) o.nowait _ _ (tells c _ refl fine) (asks c _ _ refl refl fine)
queues c (call.ExchangeDelete name o) = unless c (λ t. method.Exchange (exchange.Delete name o.if_unused t)) o.nowait _ _ (tells c _ refl fine) (asks c _ _ refl refl fine)
queues c (call.ExchangeBind to from key o more) = unless c (λ t. method.Exchange (exchange.Bind to from key t more)) o.nowait _ _ (tells c _ refl fine) (asks c _ _ refl refl fine)
queues c (call.ExchangeUnbind to from key o more) = unless c (λ t. method.Exchange (exchange.Unbind to from key t more)) o.nowait _ _ (tells c _ refl fine) (asks c _ _ refl refl fine)
queues c (call.QueueDeclare name o more) = unless c (λ t. method.Queue (queue.Declare name o.passive o.durable o.exclusive o.auto_delete t more)) o.nowait _ _ (tells c _ refl fine) (asks c _ _ refl refl fine)
queues c (call.QueueBind name from key o more) = unless c (λ t. method.Queue (queue.Bind name from key t more)) o.nowait _ _ (tells c _ refl fine) (asks c _ _ refl refl fine)
queues c (call.QueuePurge name o) = unless c (λ t. method.Queue (queue.Purge name t)) o.nowait _ _ (tells c _ refl fine) (asks c _ _ refl refl fine)
queues c (call.QueueDelete name o) = unless c (λ t. method.Queue (queue.Delete name o.if_unused o.if_empty t)) o.nowait _ _ (tells c _ refl fine) (asks c _ _ refl refl fine)
queues c (call.QueueUnbind name from key more) = asks c _ (reply.QueueUnbindOk name from key more) refl refl fine
queues c (call.BasicQos most o) = asks c _ reply.BasicQosOk refl refl fine
queues c (call.BasicConsume name tag o more) = consumes o.nowait refl
  where
    consumes : (t : Bool) → o.nowait ≡ t → QueuesOf c (consuming (method.Basic (basic.Consume name tag o.no_local o.no_ack o.exclusive o.nowait more)) tag name o)
    consumes true e = rw e (tells c (method.Basic (basic.Consume name tag o.no_local o.no_ack o.exclusive true more)) refl fine)
    consumes false e = rw e (asks c (method.Basic (basic.Consume name tag o.no_local o.no_ack o.exclusive false more)) _ refl refl fine)
queues c (call.BasicCancel tag o) = unless c (λ t. method.Basic (basic.Cancel tag t)) o.nowait _ _ (tells c _ refl fine) (asks c _ _ refl refl fine)
queues c (call.BasicGet name o) = asks c _ reply.BasicGetOk refl refl fine
queues c (call.BasicAck tag o) = tells c _ refl fine
queues c (call.BasicNack tag o) = tells c _ refl fine
queues c (call.BasicReject tag o) = tells c _ refl fine
queues c (call.BasicRecoverAsync o) = tells c _ refl fine
queues c (call.BasicRecover o) = asks c _ reply.BasicRecoverOk refl refl fine
queues c (call.ConfirmSelect o) = unless c (λ t. method.Confirm (confirm.Select t)) o.nowait _ _
    (record { call = KSelect false; small = Plain FSelect; up = refl; makes = λ xs z. refl; needs = refl; others = refl; asks = tt; sent = fine })
    (record { call = KSelect true; small = SelectAsk; up = refl; makes = λ xs z. refl; needs = refl; others = refl; asks = refl; sent = fine })
queues c call.TxSelect = asks c _ reply.TxSelectOk refl refl fine
queues c call.TxCommit = asks c _ reply.TxCommitOk refl refl fine
queues c call.TxRollback = asks c _ reply.TxRollbackOk refl refl fine

-- ---- the requests that are asked for

pub asked-push : (rs : List Request) (r : Request) → is_asked (kind_of r.reply) ≡ true → asked_in (rs ++ r ∷ []) ≡ asked_in rs ++ reply_number (kind_of r.reply) ∷ []
asked-push [] r h = rw h refl
asked-push (x ∷ xs) r h = elim (is_asked (kind_of x.reply)) as (λ b. cond b (reply_number (kind_of x.reply) ∷ asked_in (xs ++ r ∷ [])) (asked_in (xs ++ r ∷ [])) ≡ cond b (reply_number (kind_of x.reply) ∷ asked_in xs) (asked_in xs) ++ reply_number (kind_of r.reply) ∷ []) [
  | true ↦ ap (λ ys. reply_number (kind_of x.reply) ∷ ys) (asked-push xs r h)
  | false ↦ asked-push xs r h
]

pub asked-push_other : (rs : List Request) (r : Request) → is_asked (kind_of r.reply) ≡ false → asked_in (rs ++ r ∷ []) ≡ asked_in rs
asked-push_other [] r h = rw h refl
asked-push_other (x ∷ xs) r h = elim (is_asked (kind_of x.reply)) as (λ b. cond b (reply_number (kind_of x.reply) ∷ asked_in (xs ++ r ∷ [])) (asked_in (xs ++ r ∷ [])) ≡ cond b (reply_number (kind_of x.reply) ∷ asked_in xs) (asked_in xs)) [
  | true ↦ ap (λ ys. reply_number (kind_of x.reply) ∷ ys) (asked-push_other xs r h)
  | false ↦ asked-push_other xs r h
]
