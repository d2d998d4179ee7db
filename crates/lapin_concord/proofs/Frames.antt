-- Which frames close a channel or the connection, as they leave.
use Rattle.std.proofs.Common.{◌≡◌, ℕ, Bool, true, false, cond, ◌==◌, List, refl}
use Rattle.lapin_tables.specs.ByChannel.{on_channel}
use Rattle.lapin_types.specs.Types.{Frame, ExchangeMethod, QueueMethod, BasicMethod, ConfirmMethod, TxMethod}
use Rattle.lapin_types.specs.Types.frame
use Rattle.lapin_types.specs.Types.method
use Rattle.lapin_types.specs.Types.connection
use Rattle.lapin_types.specs.Types.channel
use Rattle.lapin_types.specs.Types.access
use Rattle.lapin_types.specs.Types.exchange
use Rattle.lapin_types.specs.Types.queue
use Rattle.lapin_types.specs.Types.basic
use Rattle.lapin_types.specs.Types.confirm
use Rattle.lapin_types.specs.Types.tx
use Rattle.lapin_rules.specs.declared.phases.ChannelPhase.{ChannelPhase}
use Rattle.lapin_rules.specs.declared.phases.ConnectionPhase.{ConnectionPhase}
use Rattle.lapin_rules.specs.ChannelClose.{close_sent, phases_sent}
use Rattle.lapin_rules.specs.ConnectionClose.{link_close_sent, link_sent}
use Rattle.lapin_broker.specs.Frames.{channel_of, client_frame, ask_unless, client_exchange, client_queue, client_basic, client_confirm, client_tx}
use Rattle.lapin_broker.specs.declared.frames.ClientFrame.{ClientFrame}
use Rattle.lapin_broker.specs.declared.frames.ClientFrame.TheVariants as client
use Rattle.lapin_pairs.specs.Channel as kept
use Rattle.lapin_pairs.specs.Every.{UpOn, OnU, CloseU}
use Rattle.lapin_pairs.specs.Asking.{U2, Plain}
use Rattle.lapin_concord.specs.Frames.{up_kind, up_frame, IsSent}

-- the frame closes a channel
abbrev pub closes_u : U2 → Bool
closes_u (Plain kept.FClose) = true
closes_u _ = false

abbrev pub closes_on : UpOn U2 → Bool
closes_on (OnU c u) = closes_u u
closes_on _ = false

-- it closes the connection
abbrev pub closes_all : UpOn U2 → Bool
closes_all CloseU = true
closes_all _ = false

-- a client's frame that is neither
abbrev is_plain : ClientFrame → Bool
is_plain client.ConnectionClose = false
is_plain client.Close = false
is_plain _ = true

plain_on : (c : ℕ) (u : ClientFrame) → is_plain u ≡ true → (closes_on (up_kind c u) ≡ false) × (closes_all (up_kind c u) ≡ false)
plain_on c client.ConnectionClose h = absurd cc
plain_on c client.Close h = absurd cc
plain_on c (client.Select true) h = (refl, refl)
plain_on c (client.Select false) h = (refl, refl)
plain_on c _ h = (refl, refl)

plain_ask : (t : Bool) (k : _) → is_plain (ask_unless t k) ≡ true
plain_ask true k = refl
plain_ask false k = refl

plain_either : (t : Bool) (x y : ClientFrame) → is_plain x ≡ true → is_plain y ≡ true → is_plain (cond t x y) ≡ true
plain_either true x y h k = h
plain_either false x y h k = k

plain_exchange : (m : ExchangeMethod) → is_plain (client_exchange m) ≡ true
plain_exchange (exchange.Declare a b d e f g nowait h) = plain_ask nowait _
plain_exchange (exchange.Delete a b nowait) = plain_ask nowait _
plain_exchange (exchange.Bind a b d nowait e) = plain_ask nowait _
plain_exchange (exchange.Unbind a b d nowait e) = plain_ask nowait _
plain_exchange _ = refl

plain_queue : (m : QueueMethod) → is_plain (client_queue m) ≡ true
plain_queue (queue.Declare a b d e f nowait h) = plain_ask nowait _
plain_queue (queue.Bind a b d nowait e) = plain_ask nowait _
plain_queue (queue.Purge a nowait) = plain_ask nowait _
plain_queue (queue.Delete a b d nowait) = plain_ask nowait _
plain_queue _ = refl

plain_basic : (m : BasicMethod) → is_plain (client_basic m) ≡ true
plain_basic (basic.Consume a b d e f nowait h) = plain_either nowait _ _ refl refl
plain_basic (basic.Cancel a nowait) = plain_either nowait _ _ refl refl
plain_basic _ = refl

plain_confirm : (m : ConfirmMethod) → is_plain (client_confirm m) ≡ true
plain_confirm (confirm.Select nowait) = refl
plain_confirm confirm.SelectOk = refl

plain_tx : (m : TxMethod) → is_plain (client_tx m) ≡ true
plain_tx tx.Select = refl
plain_tx tx.SelectOk = refl
plain_tx tx.Commit = refl
plain_tx tx.CommitOk = refl
plain_tx tx.Rollback = refl
plain_tx tx.RollbackOk = refl

-- what a frame is as it leaves
pub data Leaves (f : Frame) : Type 0 where
  -- a close of a channel
  Closing : (c : ℕ) → up_frame f ≡ OnU c (Plain kept.FClose) → ((ps : List (ℕ × ChannelPhase)) → phases_sent f ps ≡ on_channel c close_sent ps) → ((l : ConnectionPhase) → link_sent f l ≡ l) → Leaves f
  -- the close of the connection
  Hanging : up_frame f ≡ CloseU → ((ps : List (ℕ × ChannelPhase)) → phases_sent f ps ≡ ps) → ((l : ConnectionPhase) → link_sent f l ≡ link_close_sent l) → Leaves f
  -- any other
  Going : (closes_on (up_frame f) ≡ false) → (closes_all (up_frame f) ≡ false) → ((ps : List (ℕ × ChannelPhase)) → phases_sent f ps ≡ ps) → ((l : ConnectionPhase) → link_sent f l ≡ l) → Leaves f

plain_goes : (f : Frame) → is_plain (client_frame f) ≡ true → ((ps : List (ℕ × ChannelPhase)) → phases_sent f ps ≡ ps) → ((l : ConnectionPhase) → link_sent f l ≡ l) → Leaves f
plain_goes f h p l = let k = plain_on (channel_of f) (client_frame f) h in Going k.0 k.1 p l

pub leaves : (f : Frame) (most : ℕ) → IsSent most (client_frame f) → Leaves f
leaves (frame.Header c h) most s = plain_goes (frame.Header c h) refl (λ ps. refl) (λ l. refl)
leaves (frame.Body c bytes) most s = plain_goes (frame.Body c bytes) refl (λ ps. refl) (λ l. refl)
leaves (frame.Method c (method.Channel (channel.Close code text class number))) most s = Closing c refl (λ ps. refl) (λ l. refl)
leaves (frame.Method c (method.Channel channel.Open)) most s = plain_goes (frame.Method c (method.Channel channel.Open)) (plain_either (c == 0) _ _ refl refl) (λ ps. refl) (λ l. refl)
leaves (frame.Method c (method.Channel channel.OpenOk)) most s = absurd s
leaves (frame.Method c (method.Channel (channel.Flow active))) most s = plain_goes (frame.Method c (method.Channel (channel.Flow active))) refl (λ ps. refl) (λ l. refl)
leaves (frame.Method c (method.Channel (channel.FlowOk active))) most s = plain_goes (frame.Method c (method.Channel (channel.FlowOk active))) refl (λ ps. refl) (λ l. refl)
leaves (frame.Method c (method.Channel channel.CloseOk)) most s = plain_goes (frame.Method c (method.Channel channel.CloseOk)) refl (λ ps. refl) (λ l. refl)
leaves (frame.Method c (method.Connection (connection.Close code text class number))) most s = hangs (c == 0) refl
  where
    hangs : (t : Bool) → (c == 0) ≡ t → Leaves (frame.Method c (method.Connection (connection.Close code text class number)))
    hangs true e = Hanging (rw e refl) (λ ps. refl) (λ l. refl)
    hangs false e = absurd (rw e at s)
leaves (frame.Method c (method.Connection connection.CloseOk)) most s = plain_goes (frame.Method c (method.Connection connection.CloseOk)) (plain_either (c == 0) _ _ refl refl) (λ ps. refl) (λ l. refl)
leaves (frame.Method c (method.Access (access.Request a b d e f g))) most s = plain_goes (frame.Method c (method.Access (access.Request a b d e f g))) refl (λ ps. refl) (λ l. refl)
leaves (frame.Method c (method.Access access.RequestOk)) most s = absurd s
leaves (frame.Method c (method.Exchange m)) most s = plain_goes (frame.Method c (method.Exchange m)) (plain_exchange m) (λ ps. refl) (λ l. refl)
leaves (frame.Method c (method.Queue m)) most s = plain_goes (frame.Method c (method.Queue m)) (plain_queue m) (λ ps. refl) (λ l. refl)
leaves (frame.Method c (method.Basic m)) most s = plain_goes (frame.Method c (method.Basic m)) (plain_basic m) (λ ps. refl) (λ l. refl)
leaves (frame.Method c (method.Confirm m)) most s = plain_goes (frame.Method c (method.Confirm m)) (plain_confirm m) (λ ps. refl) (λ l. refl)
leaves (frame.Method c (method.Tx m)) most s = plain_goes (frame.Method c (method.Tx m)) (plain_tx m) (λ ps. refl) (λ l. refl)
