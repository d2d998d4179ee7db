-- The session and the broker sort the broker's frames alike.
use Rattle.std.proofs.Common.{◌≡◌, ℕ, Bool, true, false, cond, ◌==◌, List, [], ◌∷◌, refl, sym, ◌∙◌, ap, Option, Some, None, inl, inr, eq-eqb}
use Rattle.std.proofs.lemmas.Bool.Decides.{eqb_tells}
use Rattle.lapin_types.specs.Types.{Frame, ChannelMethod, ExchangeMethod, QueueMethod, BasicMethod, TxMethod}
use Rattle.lapin_types.specs.Types.frame
use Rattle.lapin_types.specs.Types.method
use Rattle.lapin_types.specs.Types.connection
use Rattle.lapin_types.specs.Types.channel
use Rattle.lapin_types.specs.Types.access
use Rattle.lapin_types.specs.Types.exchange
use Rattle.lapin_types.specs.Types.queue
use Rattle.lapin_types.specs.Types.basic
use Rattle.lapin_types.specs.Types.confirm
use Rattle.lapin_types.specs.Types.tx
use Rattle.lapin_types.specs.declared.request.Request.{Request}
use Rattle.lapin_types.specs.declared.request.ReplyKind.{ReplyKind}
use Rattle.lapin_types.specs.declared.request.ReplyKind.TheVariants as reply_kind
use Rattle.lapin_types.specs.Requests.{kind_of}
use Rattle.lapin_rules.specs.declared.broker_frames.Incoming.{Incoming}
use Rattle.lapin_rules.specs.declared.broker_frames.Incoming.TheVariants as incoming
use Rattle.lapin_rules.specs.Words.{is_some}
use Rattle.lapin_rules.specs.Incoming.{incoming_of}
use Rattle.lapin_rules.specs.Requests.{same_kind, is_kind, first_request, without_kind}
use Rattle.lapin_broker.specs.declared.frames.BrokerFrame.{BrokerFrame}
use Rattle.lapin_broker.specs.declared.frames.BrokerFrame.TheVariants as broker
use Rattle.lapin_pairs.specs.Channel.{is_none, put_back, take_kind}
use Rattle.lapin_concord.specs.Frames.{down_kind, down_frame}
use Rattle.lapin_concord.specs.Wires.{reply_number, is_asked, asked_in}
use Rattle.lapin_concord.specs.Incomes.{income_as}

own : (c : ℕ) (t : Bool) (x : BrokerFrame) (i : Incoming) → down_kind c x ≡ income_as i → down_kind c (cond t x broker.Other) ≡ income_as (cond t i incoming.Other)
own c true x i h = h
own c false x i h = refl

sorted_basic : (c : ℕ) (m : BasicMethod) → down_frame (frame.Method c (method.Basic m)) ≡ income_as (incoming_of (frame.Method c (method.Basic m)))
sorted_basic c basic.QosOk = refl
sorted_basic c basic.RecoverOk = refl
sorted_basic c basic.GetEmpty = refl
sorted_basic c _ = refl

sorted_exchange : (c : ℕ) (m : ExchangeMethod) → down_frame (frame.Method c (method.Exchange m)) ≡ income_as (incoming_of (frame.Method c (method.Exchange m)))
sorted_exchange c exchange.DeclareOk = refl
sorted_exchange c _ = refl

sorted_queue : (c : ℕ) (m : QueueMethod) → down_frame (frame.Method c (method.Queue m)) ≡ income_as (incoming_of (frame.Method c (method.Queue m)))
sorted_queue c queue.BindOk = refl
sorted_queue c _ = refl

sorted_tx : (c : ℕ) (m : TxMethod) → down_frame (frame.Method c (method.Tx m)) ≡ income_as (incoming_of (frame.Method c (method.Tx m)))
sorted_tx c tx.SelectOk = refl
sorted_tx c _ = refl

sorted_channel : (c : ℕ) (m : ChannelMethod) → down_frame (frame.Method c (method.Channel m)) ≡ income_as (incoming_of (frame.Method c (method.Channel m)))
sorted_channel c channel.OpenOk = refl
sorted_channel c _ = refl

pub sorted : (f : Frame) → down_frame f ≡ income_as (incoming_of f)
sorted (frame.Header c h) = refl
sorted (frame.Body c bytes) = refl
sorted (frame.Method c (method.Connection (connection.Close code text class number))) = own c (c == 0) broker.ConnectionClose (incoming.ConnectionClose code) refl
sorted (frame.Method c (method.Connection connection.CloseOk)) = own c (c == 0) broker.ConnectionCloseOk incoming.ConnectionCloseOk refl
sorted (frame.Method c (method.Channel m)) = sorted_channel c m
sorted (frame.Method c (method.Access access.RequestOk)) = refl
sorted (frame.Method c (method.Access (access.Request a b d e f g))) = refl
sorted (frame.Method c (method.Exchange m)) = sorted_exchange c m
sorted (frame.Method c (method.Queue m)) = sorted_queue c m
sorted (frame.Method c (method.Basic m)) = sorted_basic c m
sorted (frame.Method c (method.Confirm confirm.SelectOk)) = refl
sorted (frame.Method c (method.Confirm (confirm.Select nowait))) = refl
sorted (frame.Method c (method.Tx m)) = sorted_tx c m

-- ---- kinds of replies by their numbers

pub kinds_tell : (a b : ReplyKind) → (reply_number a == reply_number b) ≡ same_kind a b
kinds_tell reply_kind.ConnectionCloseOk reply_kind.ConnectionCloseOk = refl
kinds_tell reply_kind.ChannelOpenOk reply_kind.ChannelOpenOk = refl
kinds_tell reply_kind.ChannelFlowOk reply_kind.ChannelFlowOk = refl
kinds_tell reply_kind.ChannelCloseOk reply_kind.ChannelCloseOk = refl
kinds_tell reply_kind.AccessRequestOk reply_kind.AccessRequestOk = refl
kinds_tell reply_kind.ExchangeDeclareOk reply_kind.ExchangeDeclareOk = refl
kinds_tell reply_kind.ExchangeDeleteOk reply_kind.ExchangeDeleteOk = refl
kinds_tell reply_kind.ExchangeBindOk reply_kind.ExchangeBindOk = refl
kinds_tell reply_kind.ExchangeUnbindOk reply_kind.ExchangeUnbindOk = refl
kinds_tell reply_kind.QueueDeclareOk reply_kind.QueueDeclareOk = refl
kinds_tell reply_kind.QueueBindOk reply_kind.QueueBindOk = refl
kinds_tell reply_kind.QueuePurgeOk reply_kind.QueuePurgeOk = refl
kinds_tell reply_kind.QueueDeleteOk reply_kind.QueueDeleteOk = refl
kinds_tell reply_kind.QueueUnbindOk reply_kind.QueueUnbindOk = refl
kinds_tell reply_kind.BasicQosOk reply_kind.BasicQosOk = refl
kinds_tell reply_kind.BasicConsumeOk reply_kind.BasicConsumeOk = refl
kinds_tell reply_kind.BasicCancelOk reply_kind.BasicCancelOk = refl
kinds_tell reply_kind.BasicGetOk reply_kind.BasicGetOk = refl
kinds_tell reply_kind.BasicRecoverOk reply_kind.BasicRecoverOk = refl
kinds_tell reply_kind.ConfirmSelectOk reply_kind.ConfirmSelectOk = refl
kinds_tell reply_kind.TxSelectOk reply_kind.TxSelectOk = refl
kinds_tell reply_kind.TxCommitOk reply_kind.TxCommitOk = refl
kinds_tell reply_kind.TxRollbackOk reply_kind.TxRollbackOk = refl
kinds_tell _ _ = refl

-- a kind that opens or closes is of no request that asks
pub apart_kind : (a b : ReplyKind) → is_asked a ≡ false → is_asked b ≡ true → same_kind a b ≡ false
apart_kind reply_kind.ChannelOpenOk reply_kind.ChannelOpenOk h k = cc
apart_kind reply_kind.ChannelCloseOk reply_kind.ChannelCloseOk h k = cc
apart_kind reply_kind.ConnectionCloseOk reply_kind.ConnectionCloseOk h k = cc
apart_kind reply_kind.ChannelOpenOk b h k = opens b k
  where
    opens : (b : ReplyKind) → is_asked b ≡ true → same_kind reply_kind.ChannelOpenOk b ≡ false
    opens reply_kind.ChannelOpenOk k = cc
    opens reply_kind.ChannelCloseOk k = cc
    opens reply_kind.ConnectionCloseOk k = cc
    opens _ k = refl
apart_kind reply_kind.ChannelCloseOk b h k = closes b k
  where
    closes : (b : ReplyKind) → is_asked b ≡ true → same_kind reply_kind.ChannelCloseOk b ≡ false
    closes reply_kind.ChannelOpenOk k = cc
    closes reply_kind.ChannelCloseOk k = cc
    closes reply_kind.ConnectionCloseOk k = cc
    closes _ k = refl
apart_kind reply_kind.ConnectionCloseOk b h k = ends b k
  where
    ends : (b : ReplyKind) → is_asked b ≡ true → same_kind reply_kind.ConnectionCloseOk b ≡ false
    ends reply_kind.ChannelOpenOk k = cc
    ends reply_kind.ChannelCloseOk k = cc
    ends reply_kind.ConnectionCloseOk k = cc
    ends _ k = refl
apart_kind _ b h k = cc

-- ---- the request that a reply takes

pub record TakesFirst (k : ReplyKind) (rs : List Request) : Type 0 where
  pub there : is_some (first_request k rs) ≡ true
  pub rest : take_kind (reply_number k) (asked_in rs) ≡ Some (asked_in (without_kind k rs))

put_none : (n : ℕ) (o : Option (List ℕ)) → is_none (put_back n o) ≡ false → is_none o ≡ false
put_none n None h = cc
put_none n (Some xs) h = refl

first_by : (k : ReplyKind) (r : Request) (rs : List Request) → is_asked k ≡ true → (is_none (take_kind (reply_number k) (asked_in rs)) ≡ false → TakesFirst k rs) → is_none (take_kind (reply_number k) (asked_in (r ∷ rs))) ≡ false → TakesFirst k (r ∷ rs)
first_by k r rs a rec h = asked_or (is_asked (kind_of r.reply)) refl
  where
    kind_same : (reply_number (kind_of r.reply) == reply_number k) ≡ is_kind k r
    kind_same = kinds_tell (kind_of r.reply) k

    found : (t : Bool) → is_kind k r ≡ t → is_asked (kind_of r.reply) ≡ true → TakesFirst k (r ∷ rs)
    found true e q = record { there = rw e refl; rest = rw (q, kind_same, e) refl }
    found false e q =
        let n : is_none (put_back (reply_number (kind_of r.reply)) (take_kind (reply_number k) (asked_in rs))) ≡ false = rw (q, kind_same, e) at h in
        let x = rec (put_none (reply_number (kind_of r.reply)) (take_kind (reply_number k) (asked_in rs)) n) in
        record { there = rw e x.there; rest = rw (q, kind_same, e, q) (ap (put_back (reply_number (kind_of r.reply))) x.rest) }

    asked_or : (t : Bool) → is_asked (kind_of r.reply) ≡ t → TakesFirst k (r ∷ rs)
    asked_or true q = found (is_kind k r) refl q
    asked_or false q =
        let e : is_kind k r ≡ false = apart_kind (kind_of r.reply) k q a in
        let n : is_none (take_kind (reply_number k) (asked_in rs)) ≡ false = rw q at h in
        let x = rec n in
        record { there = rw e x.there; rest = rw (q, e, q) x.rest }

pub takes_first : (k : ReplyKind) (rs : List Request) → is_asked k ≡ true → is_none (take_kind (reply_number k) (asked_in rs)) ≡ false → TakesFirst k rs
takes_first k [] a h = cc
takes_first k (r ∷ rs) a h = first_by k r rs a (takes_first k rs a) h

apart : (m n : ℕ) → (m == n) ≡ true → (n == m) ≡ false → ⊥
apart m n x z = elim (eqb_tells m n) [ inl y ↦ let k : true ≡ false = sym (eq-eqb n m (sym y.1)) ∙ z in cc | inr y ↦ let k : true ≡ false = sym x ∙ y.0 in cc ]

without_by : (k : ReplyKind) (r : Request) (rs : List Request) → is_asked k ≡ false → asked_in (without_kind k rs) ≡ asked_in rs → (s t : Bool) → is_asked (kind_of r.reply) ≡ s → is_kind k r ≡ t → asked_in (cond (is_kind k r) rs (r ∷ without_kind k rs)) ≡ asked_in (r ∷ rs)
without_by k r rs a rec true true q e =
    let y : same_kind k (kind_of r.reply) ≡ false = apart_kind k (kind_of r.reply) a q in
    let z : (reply_number k == reply_number (kind_of r.reply)) ≡ false = kinds_tell k (kind_of r.reply) ∙ y in
    let x : (reply_number (kind_of r.reply) == reply_number k) ≡ true = kinds_tell (kind_of r.reply) k ∙ e in
    absurd (apart (reply_number (kind_of r.reply)) (reply_number k) x z)
without_by k r rs a rec false true q e = rw (e, q) refl
without_by k r rs a rec true false q e = rw (e, q) (ap (λ ys. reply_number (kind_of r.reply) ∷ ys) rec)
without_by k r rs a rec false false q e = rw (e, q) rec

-- a reply that opens or closes leaves what is asked for
pub asked-without : (k : ReplyKind) (rs : List Request) → is_asked k ≡ false → asked_in (without_kind k rs) ≡ asked_in rs
asked-without k [] a = refl
asked-without k (r ∷ rs) a = without_by k r rs a (asked-without k rs a) (is_asked (kind_of r.reply)) (is_kind k r) refl refl
