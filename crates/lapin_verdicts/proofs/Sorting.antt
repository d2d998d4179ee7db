-- What the broker takes a client's frame for is what the tally makes of it.
use Rattle.std.proofs.Common.{◌≡◌, ℕ, ◌==◌, Bool, true, false, cond, List, [], length, refl}
use Rattle.lapin_methods.specs.declared.frame.ContentHeader.{ContentHeader}
use Rattle.lapin_types.specs.Types.{Frame, Method, ChannelMethod, ExchangeMethod, QueueMethod, BasicMethod, TxMethod}
use Rattle.lapin_types.specs.Types.frame
use Rattle.lapin_types.specs.Types.method
use Rattle.lapin_types.specs.Types.connection
use Rattle.lapin_types.specs.Types.channel
use Rattle.lapin_types.specs.Types.access
use Rattle.lapin_types.specs.Types.exchange
use Rattle.lapin_types.specs.Types.queue
use Rattle.lapin_types.specs.Types.basic
use Rattle.lapin_types.specs.Types.confirm
use Rattle.lapin_types.specs.Types.tx
use Rattle.lapin_broker.specs.declared.request.RequestKind.{RequestKind}
use Rattle.lapin_broker.specs.declared.frames.ClientFrame.{ClientFrame}
use Rattle.lapin_broker.specs.declared.frames.ClientFrame.TheVariants as client
use Rattle.lapin_broker.specs.Frames.{client_frame, client_method, client_channel, client_exchange, client_queue, client_basic, client_tx, ask_unless}
use Rattle.lapin_verdicts.specs.Deeds.{is_open}
use Rattle.lapin_verdicts.specs.Publishes.{Coming, Begun, Tally, with_header, with_body, tally_after}

-- the publish's method has come, and nothing more of it
abbrev pub IsBegun : Coming → Type 0
IsBegun (Begun m) = m.payload ≡ []
IsBegun _ = ⊥

-- what a frame of this kind does to the tally
abbrev pub Sorts : ClientFrame → Frame → Tally → Type 0
Sorts client.Open f y = is_open f ≡ true
Sorts client.Publish f y = (is_open f ≡ false) × IsBegun (tally_after y f).coming × ((tally_after y f).selected ≡ y.selected) × ((tally_after y f).numbered ≡ y.numbered)
Sorts (client.Select waits) f y = (is_open f ≡ false) × (tally_after y f ≡ record y { selected = true })
Sorts (client.Header class size) f y = (is_open f ≡ false) × (h : ContentHeader) × (h.body_size ≡ size) × (tally_after y f ≡ with_header h y.coming y)
Sorts (client.Body n) f y = (is_open f ≡ false) × (bytes : List ℕ) × (length bytes ≡ n) × (tally_after y f ≡ with_body bytes y.coming y)
Sorts client.Other f y = Unit {0}
Sorts _ f y = (is_open f ≡ false) × (tally_after y f ≡ y)

abbrev Of : ClientFrame → ℕ → Method → Tally → Type 0
Of u c m y = Sorts u (frame.Method c m) y

asked : (nowait : Bool) (k : RequestKind) (f : Frame) (y : Tally) → is_open f ≡ false → tally_after y f ≡ y → Sorts (ask_unless nowait k) f y
asked true k f y o e = (o, e)
asked false k f y o e = (o, e)

connected : (b : Bool) (u : ClientFrame) (f : Frame) (y : Tally) → Sorts u f y → Sorts (cond b u client.Other) f y
connected true u f y s = s
connected false u f y s = tt

opened : (b : Bool) (f : Frame) (y : Tally) → is_open f ≡ true → Sorts (cond b client.Other client.Open) f y
opened true f y o = tt
opened false f y o = o

chosen : (b : Bool) (u v : ClientFrame) (f : Frame) (y : Tally) → Sorts u f y → Sorts v f y → Sorts (cond b u v) f y
chosen true u v f y s t = s
chosen false u v f y s t = t

of_channel : (c : ℕ) (m : ChannelMethod) (y : Tally) → Of (client_channel c m) c (method.Channel m) y
of_channel c channel.Open y = opened (c == 0) _ y refl
of_channel c (channel.Flow active) y = (refl, refl)
of_channel c (channel.FlowOk active) y = (refl, refl)
of_channel c (channel.Close code text class number) y = (refl, refl)
of_channel c channel.CloseOk y = (refl, refl)
of_channel c channel.OpenOk y = tt

of_exchange : (c : ℕ) (m : ExchangeMethod) (y : Tally) → Of (client_exchange m) c (method.Exchange m) y
of_exchange c (exchange.Declare name k passive durable auto_delete internal nowait arguments) y = asked nowait _ _ y refl refl
of_exchange c (exchange.Delete name if_unused nowait) y = asked nowait _ _ y refl refl
of_exchange c (exchange.Bind destination source key nowait arguments) y = asked nowait _ _ y refl refl
of_exchange c (exchange.Unbind destination source key nowait arguments) y = asked nowait _ _ y refl refl
of_exchange c _ y = tt

of_queue : (c : ℕ) (m : QueueMethod) (y : Tally) → Of (client_queue m) c (method.Queue m) y
of_queue c (queue.Declare name passive durable exclusive auto_delete nowait arguments) y = asked nowait _ _ y refl refl
of_queue c (queue.Bind name from key nowait arguments) y = asked nowait _ _ y refl refl
of_queue c (queue.Purge name nowait) y = asked nowait _ _ y refl refl
of_queue c (queue.Delete name if_unused if_empty nowait) y = asked nowait _ _ y refl refl
of_queue c (queue.Unbind name from key arguments) y = (refl, refl)
of_queue c _ y = tt

of_basic : (c : ℕ) (m : BasicMethod) (y : Tally) → Of (client_basic m) c (method.Basic m) y
of_basic c (basic.Qos count global) y = (refl, refl)
of_basic c (basic.Consume name tag no_local no_ack exclusive nowait arguments) y = chosen nowait _ _ _ y (refl, refl) (refl, refl)
of_basic c (basic.Cancel tag nowait) y = chosen nowait _ _ _ y (refl, refl) (refl, refl)
of_basic c (basic.Publish to key mandatory immediate) y = (refl, refl, refl, refl)
of_basic c (basic.Get name no_ack) y = (refl, refl)
of_basic c (basic.Recover requeue) y = (refl, refl)
of_basic c (basic.Ack number multiple) y = (refl, refl)
of_basic c (basic.Nack number multiple requeue) y = (refl, refl)
of_basic c (basic.Reject number requeue) y = (refl, refl)
of_basic c (basic.RecoverAsync requeue) y = (refl, refl)
of_basic c (basic.CancelOk tag) y = (refl, refl)
of_basic c _ y = tt

of_tx : (c : ℕ) (m : TxMethod) (y : Tally) → Of (client_tx m) c (method.Tx m) y
of_tx c tx.Select y = (refl, refl)
of_tx c tx.Commit y = (refl, refl)
of_tx c tx.Rollback y = (refl, refl)
of_tx c _ y = tt

of_method : (c : ℕ) (m : Method) (y : Tally) → Of (client_method c m) c m y
of_method c (method.Connection (connection.Close code text class number)) y = connected (c == 0) client.ConnectionClose _ y (refl, refl)
of_method c (method.Connection connection.CloseOk) y = connected (c == 0) client.ConnectionCloseOk _ y (refl, refl)
of_method c (method.Channel m) y = of_channel c m y
of_method c (method.Access (access.Request realm exclusive passive active write read)) y = (refl, refl)
of_method c (method.Access access.RequestOk) y = tt
of_method c (method.Exchange m) y = of_exchange c m y
of_method c (method.Queue m) y = of_queue c m y
of_method c (method.Basic m) y = of_basic c m y
of_method c (method.Confirm (confirm.Select nowait)) y = (refl, refl)
of_method c (method.Confirm confirm.SelectOk) y = tt
of_method c (method.Tx m) y = of_tx c m y

pub sorted : (f : Frame) (y : Tally) → Sorts (client_frame f) f y
sorted (frame.Method c m) y = of_method c m y
sorted (frame.Header c h) y = (refl, h, refl, refl)
sorted (frame.Body c bytes) y = (refl, bytes, refl, refl)
