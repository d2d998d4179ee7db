-- What the phases of the connection and of a channel say of one another, in every crate above.
use Rattle.lapin_rules.specs.declared.phases.ChannelPhase.{ChannelPhase}
use Rattle.lapin_rules.specs.ChannelClose.{kept_at, has_sent_close, after_broker_close, receives_close_ok}
use Rattle.std.proofs.Common.{◌≡◌, cond, true, refl, false, [], Bool, ◌⊎◌, inr, inl}
use Rattle.lapin_rules.specs.Requests.{close_alone, no_requests}
use Rattle.lapin_rules.specs.declared.phases.ConnectionPhase.{ConnectionPhase}
use Rattle.lapin_rules.specs.Phases.{is_up, is_lost, channel_state, is_live}
use Rattle.lapin_types.specs.declared.request.ReplyKind.{ReplyKind}
use Rattle.lapin_rules.specs.Opening.{opens}
use Rattle.lapin_rules.specs.declared.calls.Asked.{Asked}
use Rattle.lapin_rules.specs.Asking.{is_allowed}
use Rattle.lapin_types.specs.Types.{Frame, ChannelState}
use Rattle.lapin_rules.specs.Wire.{is_base}
use Rattle.lapin_rules.specs.ConnectionClose.{link_sent, link_close_sent}
use Rattle.lapin_rules.specs.declared.phases.ChannelPhase.TheVariants as phase
use Rattle.lapin_rules.specs.declared.phases.ConnectionPhase.TheVariants as link
use Rattle.lapin_types.specs.declared.request.ReplyKind.TheVariants as reply_kind
use Rattle.lapin_rules.specs.declared.calls.Asked.TheVariants as ask
use Rattle.lapin_types.specs.Types.channel_state as state
use Rattle.lapin_types.specs.Types.frame
use Rattle.lapin_types.specs.Types.method
use Rattle.lapin_types.specs.Types.connection
use Rattle.lapin_rules.specs.declared.phases.CloseStage.TheVariants as stage

-- a close takes no request from none
pub kept_none : (p : ChannelPhase) → kept_at p [] ≡ []
kept_none p = elim (has_sent_close p) as (λ v. cond v (close_alone []) (no_requests []) ≡ []) [ true ↦ refl | false ↦ refl ]

-- a connection that is up is open
pub up_open : (l : ConnectionPhase) → is_up l ≡ true → l ≡ link.Open
up_open link.Open h = refl
up_open _ h = absurd cc

-- one kind of reply opens a channel
pub opens_only : (k : ReplyKind) → opens k ≡ true → k ≡ reply_kind.ChannelOpenOk
opens_only reply_kind.ChannelOpenOk o = refl
opens_only _ o = absurd cc

-- a lost connection is not up
pub lost_down : (l : ConnectionPhase) → is_lost l ≡ true → is_up l ≡ false
lost_down link.Lost h = refl
lost_down _ h = absurd cc

-- nothing is allowed where the connection is down
pub shut_refuses : (a : Asked) → is_allowed a state.Down ≡ false
shut_refuses ask.Open = refl
shut_refuses (ask.CloseChannel code text) = refl
shut_refuses (ask.CloseConnection code text) = refl
shut_refuses (ask.Publish exchange key o payload properties) = refl
shut_refuses (ask.Method row) = refl
shut_refuses (ask.Consume m tag queue o) = refl
shut_refuses (ask.Limit limit) = refl
shut_refuses ask.Nothing = refl

-- only channel 0 is the base
pub base_here : (t : Bool) (p : ChannelPhase) → is_base (cond t state.Base (channel_state p)) ≡ true → t ≡ true
base_here true p h = refl
base_here false phase.Closed h = cc
base_here false phase.Opening h = cc
base_here false (phase.Open paused) h = cc
base_here false (phase.Closing who sent) h = cc
base_here false phase.Crossed h = cc

-- the broker's close ends a channel's life
pub broker_over : (p : ChannelPhase) → is_live (after_broker_close p) ≡ false
broker_over phase.Closed = refl
broker_over phase.Opening = refl
broker_over (phase.Open paused) = refl
broker_over (phase.Closing who true) = refl
broker_over (phase.Closing who false) = refl
broker_over phase.Crossed = refl

-- a frame that leaves moves the connection only as its close
pub link_moves : (f : Frame) (l : ConnectionPhase) → (link_sent f l ≡ l) ⊎ (link_sent f l ≡ link_close_sent l)
link_moves (frame.Method c (method.Connection (connection.Close code text class number))) l = inr refl
link_moves (frame.Method c (method.Connection connection.CloseOk)) l = inl refl
link_moves (frame.Method c (method.Channel m)) l = inl refl
link_moves (frame.Method c (method.Basic m)) l = inl refl
link_moves (frame.Method c (method.Confirm m)) l = inl refl
link_moves (frame.Method c (method.Access m)) l = inl refl
link_moves (frame.Method c (method.Exchange m)) l = inl refl
link_moves (frame.Method c (method.Queue m)) l = inl refl
link_moves (frame.Method c (method.Tx m)) l = inl refl
link_moves (frame.Header c h) l = inl refl
link_moves (frame.Body c bytes) l = inl refl

-- its close that leaves makes the connection no less up
pub close_leaves_up : (l : ConnectionPhase) → is_up (link_close_sent l) ≡ is_up l
close_leaves_up (link.Closing stage.Queued) = refl
close_leaves_up _ = refl

-- an open channel waits for no close-ok
pub open_hears_no_ok : (z : Bool) → receives_close_ok (cond z state.Base state.Open) ≡ true → ⊥
open_hears_no_ok true h = cc
open_hears_no_ok false h = cc

-- a call is allowed only while the connection is open
pub allowed_up : (l : ConnectionPhase) (a : Asked) (s : ChannelState) → is_allowed a (cond (is_up l) s state.Down) ≡ true → l ≡ link.Open
allowed_up link.Open a s h = refl
allowed_up (link.Closing x) a s h = let x = shut_refuses a in cc
allowed_up link.Closed a s h = let x = shut_refuses a in cc
allowed_up link.Lost a s h = let x = shut_refuses a in cc
