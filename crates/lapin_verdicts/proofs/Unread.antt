-- While the broker has a channel's `channel.open` still to read, the session is opening the channel, and nothing is on the way down to it:
-- so says the pair of machines, which each joined run is a run of.
use Rattle.std.proofs.Common.{◌≡◌, ◌∙◌, ℕ, ◌≤◌, ◌==◌, Bool, true, false, cond, ◌&&◌, ◌||◌, List, [], ◌∷◌, ◌++◌, map, ◌⊎◌, inl, inr, refl, sym, ap, subst, eq-eqb}
use Rattle.std.specs.List.{list_any, filter}
use Rattle.std.proofs.lemmas.Bool.{and_parts}
use Rattle.std.proofs.lemmas.Bool.Decides.{eqb_tells}
use Rattle.lapin_types.specs.declared.leaving.Left.{Left}
use Rattle.lapin_types.specs.Types.{Frame, ChannelMethod, ExchangeMethod, QueueMethod, BasicMethod, TxMethod}
use Rattle.lapin_types.specs.Types.frame
use Rattle.lapin_types.specs.Types.method
use Rattle.lapin_types.specs.Types.channel
use Rattle.lapin_types.specs.Types.connection
use Rattle.lapin_types.specs.Types.access
use Rattle.lapin_types.specs.Types.exchange
use Rattle.lapin_types.specs.Types.queue
use Rattle.lapin_types.specs.Types.basic
use Rattle.lapin_types.specs.Types.confirm
use Rattle.lapin_types.specs.Types.tx
use Rattle.lapin_rules.specs.declared.phases.ConnectionPhase.{ConnectionPhase}
use Rattle.lapin_rules.specs.declared.phases.ConnectionPhase.TheVariants as link
use Rattle.lapin_rules.specs.Frames.{MethodEntry, RestEntry}
use Rattle.lapin_rules.specs.Phases.{is_up}
use Rattle.lapin_rules.specs.Wire.{Wire, phase_of}
use Rattle.lapin_machine.specs.World.{World, new_world}
use Rattle.lapin_broker.specs.declared.frames.BrokerFrame.{BrokerFrame}
use Rattle.lapin_broker.specs.declared.frames.BrokerFrame.TheVariants as broker
use Rattle.lapin_broker.specs.declared.frames.ClientFrame.TheVariants as client
use Rattle.lapin_broker.specs.declared.peer.Peer.{Peer as APeer}
use Rattle.lapin_broker.specs.declared.peer.Peer.TheVariants as peer
use Rattle.lapin_broker.specs.Frames.{channel_of, broker_frame, broker_method}
use Rattle.lapin_broker.specs.States.{Channel, Broker, channel_at, is_up as is_broker_up}
use Rattle.lapin_broker.specs.Contents.{is_idle}
use Rattle.lapin_broker.specs.Sends.{may, may_sorted, may_in}
use Rattle.lapin_joint.specs.declared.step.Step.{Step}
use Rattle.lapin_joint.specs.Joint.{Joint, new_joint, run, joined_to}
use Rattle.lapin_machine.specs.Way.{by_machine}
use Rattle.lapin_joint.proofs.Alike.{new_alike}
use Rattle.lapin_pairs.specs.Machine.{Up, UOpen, UClose, UCloseOk, UOther, Down, Sess, Opening, Opened, Peer, Free, Asked, Broken}
use Rattle.lapin_pairs.specs.Channel.{FOpen, DownF, kind_down}
use Rattle.lapin_pairs.specs.Every.{UpOn, DownOn, All, of_u, of_d}
use Rattle.lapin_pairs.specs.Asking.{U2, Plain, asking}
use Rattle.lapin_pairs.proofs.Pairs.{tight, reads, shape_of, accepts, not_dead, no_break, broken-stays}
use Rattle.lapin_pairs.proofs.Every.{of-append, to-append}
use Rattle.lapin_concord.specs.Frames.{up_kind, up_frame, up_frames, down_kind, down_frame}
use Rattle.lapin_concord.specs.Wires.{link_as, phase_as, rest_as, entry_as, waits_as, pair_as}
use Rattle.lapin_concord.specs.Held.{way}
use Rattle.lapin_concord.proofs.Views.{J}
use Rattle.lapin_concord.proofs.Queueing.{way-append}
use Rattle.lapin_concord.proofs.Running.{new_sound, sound_run}
use Rattle.lapin_concord.proofs.Laws.{alike_run}
use Rattle.lapin_verdicts.specs.Deeds.{is_open}
use Rattle.lapin_verdicts.specs.InStep.{is_frame_on, is_open_on, is_open_waiting}
use Rattle.lapin_verdicts.specs.Session.{past_of}
use Rattle.lapin_tables.proofs.Bools.{or_true}

-- ---- one channel

abbrev has_open : List Up → Bool
has_open [] = false
has_open (UOpen ∷ us) = true
has_open (_ ∷ us) = has_open us

open-append : (us vs : List Up) → has_open (us ++ vs) ≡ (has_open us || has_open vs)
open-append [] vs = refl
open-append (UOpen ∷ us) vs = refl
open-append (UClose ∷ us) vs = open-append us vs
open-append (UCloseOk ∷ us) vs = open-append us vs
open-append (UOther ∷ us) vs = open-append us vs

abbrev IsOver : Peer → Type 0
IsOver p = (p ≡ Asked) ⊎ (p ≡ Broken)

over_asked : (us : List Up) → IsOver (reads Asked us)
over_asked [] = inl refl
over_asked (u ∷ us) = inr (broken-stays us)

over_open : (p : Peer) (us : List Up) → IsOver (reads (tight p UOpen) us)
over_open Free us = over_asked us
over_open _ us = inr (broken-stays us)

-- a broker that reads an open has read its last frame
reads_open : (p : Peer) (us : List Up) → has_open us ≡ true → IsOver (reads p us)
reads_open p [] h = absurd cc
reads_open p (UOpen ∷ us) h = over_open p us
reads_open p (UClose ∷ us) h = reads_open (tight p UClose) us h
reads_open p (UCloseOk ∷ us) h = reads_open (tight p UCloseOk) us h
reads_open p (UOther ∷ us) h = reads_open (tight p UOther) us h

only_opening : (s : Sess) (ds : List Down) → accepts (shape_of s Asked) ds ≡ true → (s ≡ Opening) × (ds ≡ [])
only_opening Opening [] h = (refl, refl)
only_opening Opening (d ∷ ds) h = absurd (not_dead ds h)
only_opening _ ds h = absurd (not_dead ds h)

unread : (s : Sess) (p : Peer) (us : List Up) (ds : List Down) → has_open us ≡ true → accepts (shape_of s (reads p us)) ds ≡ true → (s ≡ Opening) × (ds ≡ [])
unread s p us ds o h = elim (reads_open p us o) [
  | inl e ↦ only_opening s ds (subst (λ q. accepts (shape_of s q) ds ≡ true) e h)
  | inr e ↦ absurd (not_dead ds (subst (λ sh. accepts sh ds ≡ true) (no_break s) (subst (λ q. accepts (shape_of s q) ds ≡ true) e h)))
]

-- ---- one channel of all

opens-append : (us vs : List U2) → has_open (way (us ++ vs)) ≡ (has_open (way us) || has_open (way vs))
opens-append us vs = ap has_open (way-append us vs) ∙ open-append (way us) (way vs)

none_of : (ds : List DownF) → map kind_down ds ≡ [] → ds ≡ []
none_of [] h = refl
none_of (d ∷ ds) h = absurd cc

or_either : (a b c : Bool) → (b || c) ≡ true → ((a || b) || c) ≡ true
or_either true b c h = refl
or_either false b c h = h

pair_unread : (w : All asking) (c : ℕ) → J w → w.conn ≡ Opened → (has_open (way (of_u c w.up)) || has_open (way (of_u c w.unsent))) ≡ true → ((w.chans c).sess ≡ Opening) × (of_d c w.down ≡ [])
pair_unread w c g o h =
    let x = g.chans o c in
    let link : has_open (way x.link) ≡ (has_open (way x.gone) || has_open (way (of_u c w.up))) = ap (λ us. has_open (way us)) x.way ∙ opens-append x.gone (of_u c w.up) in
    let ways : has_open (way x.link ++ way (of_u c w.unsent)) ≡ true = open-append (way x.link) (way (of_u c w.unsent)) ∙ (ap (λ b. b || has_open (way (of_u c w.unsent))) link ∙ or_either (has_open (way x.gone)) (has_open (way (of_u c w.up))) (has_open (way (of_u c w.unsent))) h) in
    let k = unread (w.chans c).sess x.side.peer (way x.link ++ way (of_u c w.unsent)) (map kind_down (of_d c w.down)) ways x.good.good.pair in
    (k.0, none_of (of_d c w.down) k.1)

-- ---- frames of the client

and_no : (b : Bool) → (b && false) ≡ true → ⊥
and_no true h = cc
and_no false h = cc

opens_channel : (c d : ℕ) → (c == 0) ≡ false → ((d == c) && true) ≡ true → has_open (way (of_u c (up_frame (frame.Method d (method.Channel channel.Open)) ∷ []))) ≡ true
opens_channel c d z h = elim (eqb_tells d c) [
  | inl y ↦
      let off : (d == 0) ≡ false = ap (λ v. v == 0) y.1 ∙ z in
      ap (λ v. has_open (way (of_u c (up_kind d (cond v client.Other client.Open) ∷ [])))) off ∙ ap (λ v. has_open (way (cond v (Plain FOpen ∷ []) []))) y.0
  | inr n ↦ let w : false ≡ true = sym (ap (λ v. v && true) n.0) ∙ h in absurd cc
]

opens_frame : (c : ℕ) (f : Frame) → (c == 0) ≡ false → (is_frame_on c f && is_open f) ≡ true → has_open (way (of_u c (up_frame f ∷ []))) ≡ true
opens_frame c (frame.Method d (method.Channel channel.Open)) z h = opens_channel c d z h
opens_frame c f z h = absurd (and_no (is_frame_on c f) h)

opens_more : (c : ℕ) (u : UpOn U2) (us : List (UpOn U2)) → has_open (way (of_u c (u ∷ us))) ≡ (has_open (way (of_u c (u ∷ []))) || has_open (way (of_u c us)))
opens_more c u us = ap (λ v. has_open (way v)) (of-append c (u ∷ []) us) ∙ opens-append (of_u c (u ∷ [])) (of_u c us)

opens_up : (c : ℕ) (ls : List Left) → (c == 0) ≡ false → list_any (is_open_on c) ls ≡ true → has_open (way (of_u c (up_frames ls))) ≡ true
opens_up c [] z h = absurd cc
opens_up c (l ∷ ls) z h = opens_more c (up_frame l.frame) (up_frames ls) ∙ elim (is_open_on c l) as (λ b. is_open_on c l ≡ b → (b || list_any (is_open_on c) ls) ≡ true → (has_open (way (of_u c (up_frame l.frame ∷ []))) || has_open (way (of_u c (up_frames ls)))) ≡ true) [
  | true ↦ λ e _. ap (λ v. v || has_open (way (of_u c (up_frames ls)))) (opens_frame c l.frame z e)
  | false ↦ λ _ k. ap (λ v. has_open (way (of_u c (up_frame l.frame ∷ []))) || v) (opens_up c ls z k) ∙ or_true _
] refl h

opens_methods : (c : ℕ) (ms : List MethodEntry) → (c == 0) ≡ false → list_any (is_open_waiting c) ms ≡ true → has_open (way (of_u c (map entry_as ms))) ≡ true
opens_methods c [] z h = absurd cc
opens_methods c (m ∷ ms) z h = opens_more c (entry_as m) (map entry_as ms) ∙ elim (is_open_waiting c m) as (λ b. is_open_waiting c m ≡ b → (b || list_any (is_open_waiting c) ms) ≡ true → (has_open (way (of_u c (entry_as m ∷ []))) || has_open (way (of_u c (map entry_as ms)))) ≡ true) [
  | true ↦ λ e _. ap (λ v. v || has_open (way (of_u c (map entry_as ms)))) (opens_frame c (frame.Method m.channel m.method) z e)
  | false ↦ λ _ k. ap (λ v. has_open (way (of_u c (entry_as m ∷ []))) || v) (opens_methods c ms z k) ∙ or_true _
] refl h

opens_waiting : (c : ℕ) (rs : List RestEntry) (ms : List MethodEntry) → (c == 0) ≡ false → list_any (is_open_waiting c) ms ≡ true → has_open (way (of_u c (map rest_as rs ++ map entry_as ms))) ≡ true
opens_waiting c rs ms z h = ap (λ v. has_open (way v)) (of-append c (map rest_as rs) (map entry_as ms)) ∙ (opens-append (of_u c (map rest_as rs)) (of_u c (map entry_as ms)) ∙ (ap (λ v. has_open (way (of_u c (map rest_as rs))) || v) (opens_methods c ms z h) ∙ or_true _))

-- ---- what waits and the links of a session

up_open : (l : ConnectionPhase) → is_up l ≡ true → link_as l ≡ Opened
up_open link.Open h = refl
up_open (link.Closing s) h = absurd cc
up_open link.Closed h = absurd cc
up_open link.Lost h = absurd cc

-- an open of the channel waits or is on the way up
abbrev pub is_unread : ℕ → Wire → List Left → Bool
is_unread c b up = list_any (is_open_on c) up || list_any (is_open_waiting c) b.methods

either : (a b : Bool) (P : Type 0) → (a || b) ≡ true → (a ≡ true → P) → (b ≡ true → P) → P
either true b P h f g = f refl
either false b P h f g = g h

pub unread_at : (c : ℕ) (b : Wire) (br : Broker) (up : List Left) (down : List Frame) → J (pair_as b br up down) → is_up b.link ≡ true → (c == 0) ≡ false → is_unread c b up ≡ true → (phase_as (phase_of c b) ≡ Opening) × (of_d c (map down_frame down) ≡ [])
unread_at c b br up down g u z h =
    let w : All asking = pair_as b br up down in
    let o : (has_open (way (of_u c (up_frames up))) || has_open (way (of_u c (waits_as b)))) ≡ true = either (list_any (is_open_on c) up) (list_any (is_open_waiting c) b.methods) ((has_open (way (of_u c (up_frames up))) || has_open (way (of_u c (waits_as b)))) ≡ true) h
    (λ e. ap (λ v. v || has_open (way (of_u c (waits_as b)))) (opens_up c up z e))
    (λ e. ap (λ v. has_open (way (of_u c (up_frames up))) || v) (opens_waiting c b.rest b.methods z e) ∙ or_true _) in
    let k = pair_unread w c g (up_open b.link u) o in
    (rw u at k.0, k.1)

-- ---- frames of the broker

-- a frame that goes to its channel, where that isn't the connection's
abbrev pub Goes : Frame → Type 0
Goes f = (c : ℕ) (ds : List (DownOn DownF)) → (channel_of f == c) ≡ true → (c == 0) ≡ false → of_d c (down_frame f ∷ ds) ≡ [] → ⊥

abbrev pub AllGo : List Frame → Type 0
AllGo [] = Unit {0}
AllGo (f ∷ fs) = Goes f × AllGo fs

pub goes-push : (fs : List Frame) (f : Frame) → AllGo fs → Goes f → AllGo (fs ++ f ∷ [])
goes-push [] f h k = (k, tt)
goes-push (x ∷ xs) f h k = (h.0, goes-push xs f h.1 k)

abbrev is_own : BrokerFrame → Bool
is_own broker.ConnectionClose = true
is_own broker.ConnectionCloseOk = true
is_own _ = false

own_zero : (c : ℕ) (x : BrokerFrame) → is_own (cond (c == 0) x broker.Other) ≡ true → c ≡ 0
own_zero c x h = elim (eqb_tells c 0) [ inl y ↦ y.1 | inr n ↦ let w : false ≡ true = sym (ap (λ v. is_own (cond v x broker.Other)) n.0) ∙ h in absurd cc ]

own_channel : (c : ℕ) (m : ChannelMethod) → is_own (broker_method c (method.Channel m)) ≡ false
own_channel c channel.OpenOk = refl
own_channel c _ = refl

own_exchange : (c : ℕ) (m : ExchangeMethod) → is_own (broker_method c (method.Exchange m)) ≡ false
own_exchange c exchange.DeclareOk = refl
own_exchange c _ = refl

own_queue : (c : ℕ) (m : QueueMethod) → is_own (broker_method c (method.Queue m)) ≡ false
own_queue c queue.BindOk = refl
own_queue c _ = refl

own_basic : (c : ℕ) (m : BasicMethod) → is_own (broker_method c (method.Basic m)) ≡ false
own_basic c basic.QosOk = refl
own_basic c basic.RecoverOk = refl
own_basic c basic.GetEmpty = refl
own_basic c _ = refl

own_tx : (c : ℕ) (m : TxMethod) → is_own (broker_method c (method.Tx m)) ≡ false
own_tx c tx.SelectOk = refl
own_tx c _ = refl

never : (P : Type 0) (b : Bool) → b ≡ false → b ≡ true → P
never P b f t = let w : false ≡ true = sym f ∙ t in absurd cc

-- the connection's close and close-ok are on channel 0
own_frame : (f : Frame) → is_own (broker_frame f) ≡ true → channel_of f ≡ 0
own_frame (frame.Header c h) e = absurd cc
own_frame (frame.Body c bytes) e = absurd cc
own_frame (frame.Method c (method.Connection (connection.Close code text class number))) e = own_zero c broker.ConnectionClose e
own_frame (frame.Method c (method.Connection connection.CloseOk)) e = own_zero c broker.ConnectionCloseOk e
own_frame (frame.Method c (method.Channel m)) e = never (c ≡ 0) _ (own_channel c m) e
own_frame (frame.Method c (method.Access access.RequestOk)) e = absurd cc
own_frame (frame.Method c (method.Access (access.Request a b d g h i))) e = absurd cc
own_frame (frame.Method c (method.Exchange m)) e = never (c ≡ 0) _ (own_exchange c m) e
own_frame (frame.Method c (method.Queue m)) e = never (c ≡ 0) _ (own_queue c m) e
own_frame (frame.Method c (method.Basic m)) e = never (c ≡ 0) _ (own_basic c m) e
own_frame (frame.Method c (method.Confirm confirm.SelectOk)) e = absurd cc
own_frame (frame.Method c (method.Confirm (confirm.Select nowait))) e = absurd cc
own_frame (frame.Method c (method.Tx m)) e = never (c ≡ 0) _ (own_tx c m) e

-- one that only a client sends is never sent
other_in : (p : APeer) (x : Channel) (t : List ℕ) → may_in p x t broker.Other ≡ true → ⊥
other_in peer.Open x t h = and_no (is_idle x.sending) h
other_in peer.Leaving x t h = and_no (is_idle x.sending) h
other_in _ x t h = cc

other_never : (c : ℕ) (t : List ℕ) (b : Broker) → may_sorted c t broker.Other b ≡ true → ⊥
other_never c t b h = other_in (channel_at b c).peer (channel_at b c) t (and_parts (is_broker_up b.connection) (may_in (channel_at b c).peer (channel_at b c) t broker.Other) h).1

goes_kind : (c d : ℕ) (ds : List (DownOn DownF)) (t : List ℕ) (b : Broker) (x : BrokerFrame) → may_sorted d t x b ≡ true → (is_own x ≡ true → d ≡ 0) → (d == c) ≡ true → (c == 0) ≡ false → of_d c (down_kind d x ∷ ds) ≡ [] → ⊥
goes_kind c d ds t b x m own on z e = by x m own e
  where
    sent : (k : DownF) → cond (d == c) (k ∷ of_d c ds) (of_d c ds) ≡ [] → ⊥
    sent k h = let w : k ∷ of_d c ds ≡ [] = rw on at h in cc

    zero_off : d ≡ 0 → ⊥
    zero_off h = elim (eqb_tells d c) [
      | inl y ↦ let w : (c == 0) ≡ true = eq-eqb c 0 (sym y.1 ∙ h) in let v : true ≡ false = sym w ∙ z in cc
      | inr n ↦ let v : true ≡ false = sym on ∙ n.0 in cc
    ]

    by : (x : BrokerFrame) → may_sorted d t x b ≡ true → (is_own x ≡ true → d ≡ 0) → of_d c (down_kind d x ∷ ds) ≡ [] → ⊥
    by broker.ConnectionClose m own e = zero_off (own refl)
    by broker.ConnectionCloseOk m own e = zero_off (own refl)
    by broker.Other m own e = other_never d t b m
    by _ m own e = sent _ e

pub sent_goes : (b : Broker) (f : Frame) → may b f ≡ true → Goes f
sent_goes b f m c ds on z e = goes_kind c (channel_of f) ds _ b (broker_frame f) m (own_frame f) on z e

pub none_on : (c : ℕ) (fs : List Frame) → AllGo fs → (c == 0) ≡ false → of_d c (map down_frame fs) ≡ [] → filter (is_frame_on c) fs ≡ []
none_on c [] h z e = refl
none_on c (f ∷ fs) h z e = elim (is_frame_on c f) as (λ b. is_frame_on c f ≡ b → cond b (f ∷ filter (is_frame_on c) fs) (filter (is_frame_on c) fs) ≡ []) [
  | true ↦ λ on. absurd (h.0 c (map down_frame fs) on z e)
  | false ↦ λ off. none_on c fs h.1 z (nils (of_d c (down_frame f ∷ [])) (of_d c (map down_frame fs)) (sym (to-append c (down_frame f ∷ []) (map down_frame fs)) ∙ e))
] refl
  where
    nils : (xs ys : List DownF) → xs ++ ys ≡ [] → ys ≡ []
    nils [] ys h = h
    nils (x ∷ xs) ys h = absurd cc

-- ---- every joined run is a run of the pair

pub pairs : (n : ℕ) (ss : List Step) → 4096 ≤ n → J (pair_as (past_of n ss).wire (joined_to n ss).broker (joined_to n ss).up (joined_to n ss).down)
pairs n ss r =
    let k : Joint World = run by_machine ss (new_joint (new_world n) n) in
    let a = alike_run n ss (new_joint [] n) (new_joint (new_world n) n) refl (new_alike n) in
    let s = sound_run ss (new_joint (new_world n) n) (new_sound n r) in
    subst (λ w. J (pair_as w (joined_to n ss).broker (joined_to n ss).up (joined_to n ss).down)) a.session.wire
    (subst (λ w. J (pair_as k.session.wire w (joined_to n ss).up (joined_to n ss).down)) a.broker
    (subst (λ w. J (pair_as k.session.wire k.broker w (joined_to n ss).down)) a.up
    (subst (λ w. J (pair_as k.session.wire k.broker k.up w)) a.down s.joint)))
