-- In every joined run the broker sends a close-ok only where it has read a close that it has not answered.
use Rattle.std.proofs.Common.{◌≡◌, ◌∙◌, ℕ, ◌+◌, ◌≤◌, ◌==◌, Bool, true, false, cond, ◌&&◌, List, [], ◌∷◌, ◌++◌, length, length-append, Option, Some, None, inl, inr, refl, sym, ap, subst, append-nil, append_assoc, arith, eq-eqb}
use Rattle.std.specs.List.{filter}
use Rattle.std.specs.Option.{option_map}
use Rattle.std.proofs.lemmas.Bool.{and_parts}
use Rattle.std.proofs.lemmas.Bool.Decides.{eqb_tells}
use Rattle.std.proofs.lemmas.List.Elements.{filter-append}
use Rattle.lapin_types.specs.declared.leaving.Left.{Left}
use Rattle.lapin_types.specs.Types.{Frame, ChannelMethod, ExchangeMethod, QueueMethod, BasicMethod, ConfirmMethod, TxMethod}
use Rattle.lapin_types.specs.Types.frame
use Rattle.lapin_types.specs.Types.method
use Rattle.lapin_types.specs.Types.connection as connection_method
use Rattle.lapin_types.specs.Types.channel
use Rattle.lapin_types.specs.Types.access
use Rattle.lapin_types.specs.Types.exchange
use Rattle.lapin_types.specs.Types.queue
use Rattle.lapin_types.specs.Types.basic
use Rattle.lapin_types.specs.Types.confirm
use Rattle.lapin_types.specs.Types.tx
use Rattle.lapin_tables.specs.ByChannel.{at_channel, on_channel as on_table}
use Rattle.lapin_tables.proofs.Channels.{at-on_same, at-on_other}
use Rattle.lapin_broker.specs.declared.content.Content.{Content}
use Rattle.lapin_broker.specs.declared.content.Content.TheVariants as content
use Rattle.lapin_broker.specs.declared.frames.ClientFrame.{ClientFrame}
use Rattle.lapin_broker.specs.declared.frames.ClientFrame.TheVariants as client
use Rattle.lapin_broker.specs.declared.frames.BrokerFrame.{BrokerFrame}
use Rattle.lapin_broker.specs.declared.frames.BrokerFrame.TheVariants as broker
use Rattle.lapin_broker.specs.declared.peer.Peer.{Peer}
use Rattle.lapin_broker.specs.declared.peer.Peer.TheVariants as peer
use Rattle.lapin_broker.specs.declared.peer.Connection.TheVariants as connection
use Rattle.lapin_broker.specs.declared.request.RequestKind.{RequestKind}
use Rattle.lapin_broker.specs.Contents.{is_idle}
use Rattle.lapin_broker.specs.Frames.{channel_of, tag_of, client_frame, client_channel, client_exchange, client_queue, client_basic, client_confirm, client_tx, ask_unless, broker_frame}
use Rattle.lapin_broker.specs.States.{Channel, Broker, channel_in, channel_at, with_channel, is_up, is_leaving, owes_connection, after_break}
use Rattle.lapin_broker.specs.Reads.{is_open, read, read_up, read_channel, with_piece, read_in, read_open, breaks_in, begins_in, content_after, admits, is_connection_close, is_connection_close_ok, after_client_close, after_client_close_ok}
use Rattle.lapin_broker.specs.Sends.{may, may_in, send, send_on, after_send, after_own_close_ok, is_close, is_read_on}
use Rattle.lapin_broker.specs.Sends as sends
use Rattle.lapin_joint.specs.declared.step.Step.{Step}
use Rattle.lapin_joint.specs.declared.step.Step.TheVariants as step
use Rattle.lapin_joint.specs.Joint.{Joint, new_joint, is_lawful, after, run, joined_to, read_first, deliver_first, client as client_step, send_down}
use Rattle.lapin_machine.specs.Way.{Way, by_history}
use Rattle.lapin_joint.specs.Order.{front, along}
use Rattle.lapin_verdicts.specs.Deeds.{Deed, Read, Sent, lefts, sents, reads_of, deed_in, deeds}
use Rattle.lapin_verdicts.proofs.Sending.{own_down}
use Rattle.lapin_verdicts.proofs.TagCounts.{sents-append, lost_down}
use Rattle.lapin_verdicts.proofs.Reading.{of_if, closed_down, answered_down}
use Rattle.lapin_verdicts.proofs.First.{piece_peer}
use Rattle.lapin_verdicts.proofs.Owing.{lefts-append}
use Rattle.lapin_answers.specs.Closes.{closes, is_close_on, is_close_ok_as, is_close_ok_on, closes_in, close_oks_in}
use Rattle.lapin_tables.proofs.Bools.{not_both}
use Rattle.lapin_broker.proofs.SoundLaw.{at_with}
use Rattle.lapin_concord.proofs.Sides.{at_away}

-- ---- a close, as the broker takes it

abbrev is_shut : ClientFrame → Bool
is_shut client.Close = true
is_shut _ = false

shut_asked : (t : Bool) (k : RequestKind) → is_shut (ask_unless t k) ≡ false
shut_asked true k = refl
shut_asked false k = refl

shut_if : (t : Bool) (u v : ClientFrame) → is_shut u ≡ false → is_shut v ≡ false → is_shut (cond t u v) ≡ false
shut_if true u v a b = a
shut_if false u v a b = b

no : (P : Type 0) (v : Bool) → v ≡ false → v ≡ true → P
no P v f t = let w : false ≡ true = sym f ∙ t in absurd cc

shut_exchange : (m : ExchangeMethod) → is_shut (client_exchange m) ≡ false
shut_exchange (exchange.Declare name k passive durable auto_delete internal nowait arguments) = shut_asked nowait _
shut_exchange (exchange.Delete name if_unused nowait) = shut_asked nowait _
shut_exchange (exchange.Bind destination source key nowait arguments) = shut_asked nowait _
shut_exchange (exchange.Unbind destination source key nowait arguments) = shut_asked nowait _
shut_exchange _ = refl

shut_queue : (m : QueueMethod) → is_shut (client_queue m) ≡ false
shut_queue (queue.Declare name passive durable exclusive auto_delete nowait arguments) = shut_asked nowait _
shut_queue (queue.Bind name from key nowait arguments) = shut_asked nowait _
shut_queue (queue.Purge name nowait) = shut_asked nowait _
shut_queue (queue.Delete name if_unused if_empty nowait) = shut_asked nowait _
shut_queue _ = refl

shut_basic : (m : BasicMethod) → is_shut (client_basic m) ≡ false
shut_basic (basic.Consume name tag no_local no_ack exclusive nowait arguments) = shut_if nowait _ _ refl refl
shut_basic (basic.Cancel tag nowait) = shut_if nowait _ _ refl refl
shut_basic _ = refl

shut_tx : (m : TxMethod) → is_shut (client_tx m) ≡ false
shut_tx tx.Select = refl
shut_tx _ = refl

shut_confirm : (m : ConfirmMethod) → is_shut (client_confirm m) ≡ false
shut_confirm (confirm.Select nowait) = refl
shut_confirm confirm.SelectOk = refl

shut_channel : (c : ℕ) (m : ChannelMethod) → is_shut (client_channel c m) ≡ true → closes (frame.Method c (method.Channel m)) ≡ true
shut_channel c (channel.Close code text class number) h = refl
shut_channel c channel.Open h = no _ _ (shut_if (c == 0) client.Other client.Open refl refl) h
shut_channel c _ h = absurd cc

shut_frame : (f : Frame) → is_shut (client_frame f) ≡ true → closes f ≡ true
shut_frame (frame.Header c h) e = absurd cc
shut_frame (frame.Body c bytes) e = absurd cc
shut_frame (frame.Method c (method.Connection (connection_method.Close code text class number))) e = no _ _ (shut_if (c == 0) client.ConnectionClose client.Other refl refl) e
shut_frame (frame.Method c (method.Connection connection_method.CloseOk)) e = no _ _ (shut_if (c == 0) client.ConnectionCloseOk client.Other refl refl) e
shut_frame (frame.Method c (method.Channel m)) e = shut_channel c m e
shut_frame (frame.Method c (method.Access access.RequestOk)) e = absurd cc
shut_frame (frame.Method c (method.Access (access.Request a b d g h i))) e = absurd cc
shut_frame (frame.Method c (method.Exchange m)) e = no _ _ (shut_exchange m) e
shut_frame (frame.Method c (method.Queue m)) e = no _ _ (shut_queue m) e
shut_frame (frame.Method c (method.Basic m)) e = no _ _ (shut_basic m) e
shut_frame (frame.Method c (method.Confirm m)) e = no _ _ (shut_confirm m) e
shut_frame (frame.Method c (method.Tx m)) e = no _ _ (shut_tx m) e

abbrev one_if : Bool → ℕ
one_if true = 1
one_if false = 0

-- ---- one channel

-- a close was read that is not answered
abbrev pub owes : Peer → ℕ
owes peer.Leaving = 1
owes peer.StoppingOwes = 1
owes peer.StoppingAnswered = 1
owes _ = 0

same_owes : (p : Peer) (x : Channel) (n : ℕ) → x.peer ≡ p → owes x.peer ≤ owes p + n
same_owes p x n e = let w : owes x.peer ≡ owes p = ap owes e in omega (arith, w)

open_owes : (f : Frame) (u : ClientFrame) (x : Channel) → x.peer ≡ peer.Open → owes (read_open f x u).peer ≤ 0 + one_if (is_shut u)
open_owes f client.Close x e = omega arith
open_owes f (client.Select true) x e = same_owes peer.Open x 0 e
open_owes f (client.Select false) x e = same_owes peer.Open x 0 e
open_owes f (client.Ask k) x e = same_owes peer.Open x 0 e
open_owes f client.Consume x e = same_owes peer.Open x 0 e
open_owes f client.Cancel x e = same_owes peer.Open x 0 e
open_owes f _ x e = same_owes peer.Open x 0 e

stopping_owes : (f : Frame) (u : ClientFrame) (x : Channel) → x.peer ≡ peer.Stopping → owes (read_in peer.Stopping f x u).peer ≤ 0 + one_if (is_shut u)
stopping_owes f client.Close x e = omega arith
stopping_owes f client.CloseOk x e = omega arith
stopping_owes f _ x e = same_owes peer.Stopping x 0 e

owing_owes : (f : Frame) (u : ClientFrame) (x : Channel) → x.peer ≡ peer.StoppingOwes → owes (read_in peer.StoppingOwes f x u).peer ≤ 1 + one_if (is_shut u)
owing_owes f client.CloseOk x e = omega arith
owing_owes f u x e = by u
  where
    by : (u : ClientFrame) → owes (read_in peer.StoppingOwes f x u).peer ≤ 1 + one_if (is_shut u)
    by client.CloseOk = omega arith
    by client.Close = same_owes peer.StoppingOwes x 1 e
    by _ = same_owes peer.StoppingOwes x 0 e

here_owes : (p : Peer) (f : Frame) (x : Channel) (u : ClientFrame) → x.peer ≡ p → breaks_in p u ≡ false → owes (read_in p f x u).peer ≤ owes p + one_if (is_shut u)
here_owes peer.Free f x u e h = elim (is_open u) as (λ v. owes (cond v (record x { peer = peer.Asked }) x).peer ≤ 0 + one_if (is_shut u)) [ true ↦ omega arith | false ↦ same_owes peer.Free x (one_if (is_shut u)) e ]
here_owes peer.Asked f x u e h = absurd cc
here_owes peer.Leaving f x u e h = absurd cc
here_owes peer.Open f x u e h = open_owes f u x e
here_owes peer.Stopping f x u e h = stopping_owes f u x e
here_owes peer.StoppingOwes f x u e h = owing_owes f u x e
here_owes peer.StoppingAnswered f x u e h = same_owes peer.StoppingAnswered x (one_if (is_shut u)) e

-- ---- the broker reads

-- while the connection is up no more is owed than before, but for a close that was read
abbrev Grows : ℕ → Broker → Broker → ℕ → Type 0
Grows c b b' n = is_up b'.connection ≡ true → (is_up b.connection ≡ true) × (owes (channel_at b' c).peer ≤ owes (channel_at b c).peer + n)

down_grows : (c : ℕ) (b b' : Broker) (n : ℕ) → is_up b'.connection ≡ false → Grows c b b' n
down_grows c b b' n down up = absurd (not_both _ up down)

one_at_most : (c : ℕ) (l : Left) → channel_of l.frame ≡ c → one_if (is_shut (client_frame l.frame)) ≤ one_if (is_close_on c l)
one_at_most c l e = by (is_shut (client_frame l.frame)) refl
  where
    by : (v : Bool) → is_shut (client_frame l.frame) ≡ v → one_if v ≤ one_if (is_close_on c l)
    by true q = let w : is_close_on c l ≡ true = ap (λ v. (channel_of l.frame == c) && v) (shut_frame l.frame q) ∙ ap (λ v. v && true) (eq-eqb (channel_of l.frame) c e) in let z : one_if (is_close_on c l) ≡ 1 = ap one_if w in omega (arith, z)
    by false q = omega arith

up_grows : (c : ℕ) (l : Left) (b : Broker) (r : Option (ℕ × Content)) → is_up b.connection ≡ true → Grows c b (read_up r (channel_of l.frame) l.frame (client_frame l.frame) b) (one_if (is_close_on c l))
up_grows c l b (Some r) up =
    let d : ℕ = channel_of l.frame in
    let u : ClientFrame = client_frame l.frame in
    let n : ℕ = one_if (is_close_on c l) in
    of_if (λ v. Grows c b v n) (r.0 == d) _ _
    (λ _. of_if (λ v. Grows c b v n) (admits b.frame_max r.1 u) _ _
    (λ _ _. (up, (let w : owes (channel_at (with_piece d (content_after r.1 u) b) c).peer ≡ owes (channel_at b c).peer = ap owes (piece_peer c d (content_after r.1 u) b) in omega (arith, w))))
    (λ _. down_grows c b (after_break b) n refl))
    (λ _. down_grows c b (after_break b) n refl)
up_grows c l b None up =
    let d : ℕ = channel_of l.frame in
    let u : ClientFrame = client_frame l.frame in
    let n : ℕ = one_if (is_close_on c l) in
    of_if (λ v. Grows c b v n) (breaks_in (channel_at b d).peer u) _ _ (λ _. down_grows c b (after_break b) n refl)
    (λ goes. elim (eqb_tells d c) [
      | inl z ↦
          let goes' : breaks_in (channel_at b c).peer u ≡ false = subst (λ v. breaks_in (channel_at b v).peer u ≡ false) z.1 goes in
          let x' : Channel = read_in (channel_at b c).peer l.frame (channel_at b c) u in
          let g : owes x'.peer ≤ owes (channel_at b c).peer + one_if (is_shut u) = here_owes (channel_at b c).peer l.frame (channel_at b c) u refl goes' in
          let most : one_if (is_shut u) ≤ n = one_at_most c l z.1 in
          let g' : owes x'.peer ≤ owes (channel_at b c).peer + n = omega (arith, g, most) in
          let K : ℕ → Type 0 = λ v. Grows c b (record (read_channel v l.frame u b) { reading = cond (begins_in (channel_at b v).peer u) (Some (v, content.Begun)) b.reading }) n in
          let here : K c = λ _. (up, subst (λ v. owes (channel_in v).peer ≤ owes (channel_at b c).peer + n) (sym (at_with c x' b.channels)) g') in
          subst K (sym z.1) here
      | inr z ↦
          let x' : Channel = read_in (channel_at b d).peer l.frame (channel_at b d) u in
          λ _. (up, (let w : owes (channel_in (at_channel c (with_channel d x' b.channels))).peer ≡ owes (channel_at b c).peer = ap (λ v. owes (channel_in v).peer) (at_away d c x' b.channels z.0) in omega (arith, w)))
    ])

read_grows : (c : ℕ) (l : Left) (b : Broker) → Grows c b (read b l.frame) (one_if (is_close_on c l))
read_grows c l b =
    let n : ℕ = one_if (is_close_on c l) in
    let P : Broker → Type 0 = λ v. Grows c b v n in
    of_if P (is_connection_close (client_frame l.frame)) _ _ (λ _. down_grows c b (record b { connection = after_client_close b.connection }) n (closed_down b.connection))
    (λ _. of_if P (is_connection_close_ok (client_frame l.frame)) _ _ (λ _. down_grows c b (record b { connection = after_client_close_ok b.connection }) n (answered_down b.connection))
    (λ _. of_if P (is_up b.connection) _ _ (λ up. up_grows c l b b.reading up)
    (λ down. of_if P (is_leaving b.connection) _ _ (λ _. down_grows c b (after_break b) n refl) (λ _. down_grows c b b n down))))

-- ---- the broker sends

ok_owes : (p : Peer) (t : List ℕ) (x : Channel) → x.peer ≡ p → may_in p x t broker.CloseOk ≡ true → owes (sends.after_close_ok p x).peer + 1 ≤ owes p
ok_owes peer.Leaving t x e m = omega arith
ok_owes peer.StoppingOwes t x e m = omega arith
ok_owes peer.StoppingAnswered t x e m = omega arith
ok_owes peer.Free t x e m = absurd cc
ok_owes peer.Asked t x e m = absurd cc
ok_owes peer.Stopping t x e m = absurd cc
ok_owes peer.Open t x e m = absurd (not_both _ (and_parts (is_idle x.sending) false m).1 refl)

sent_owes : (t : List ℕ) (d : BrokerFrame) (x : Channel) → may_in x.peer x t d ≡ true → owes (after_send t d x).peer + one_if (is_close_ok_as d) ≤ owes x.peer
sent_owes t broker.CloseOk x m = ok_owes x.peer t x refl m
sent_owes t broker.OpenOk x m = omega arith
sent_owes t broker.Close x m = omega arith
sent_owes t (broker.Reply k) x m = omega arith
sent_owes t broker.ConsumeOk x m = omega arith
sent_owes t broker.CancelOk x m = omega arith
sent_owes t broker.GetOk x m = omega arith
sent_owes t (broker.Settle k multiple) x m = omega arith
sent_owes t broker.Deliver x m = omega arith
sent_owes t broker.Return x m = omega arith
sent_owes t broker.Cancel x m = omega arith
sent_owes t (broker.Header class size) x m = omega arith
sent_owes t (broker.Body k) x m = omega arith
sent_owes t _ x m = omega arith

table_owes : (c : ℕ) (t : List ℕ) (d : BrokerFrame) (es : List (ℕ × Channel)) (o : Option Channel) → at_channel c es ≡ o → may_in (channel_in o).peer (channel_in o) t d ≡ true → owes (channel_in (at_channel c (on_table c (after_send t d) es))).peer + one_if (is_close_ok_as d) ≤ owes (channel_in o).peer
table_owes c t d es None e m = absurd (not_both _ m refl)
table_owes c t d es (Some x) e m = subst (λ v. owes (channel_in v).peer + one_if (is_close_ok_as d) ≤ owes x.peer) (sym (at-on_same c (after_send t d) es ∙ ap (option_map (after_send t d)) e)) (sent_owes t d x m)

-- a close-ok that may be sent takes from what is owed
record Sends (c : ℕ) (b b' : Broker) (n : ℕ) : Type 0 where
  pub up : is_up b'.connection ≡ true → (is_up b.connection ≡ true) × (owes (channel_at b' c).peer + n ≤ owes (channel_at b c).peer)
  pub ok : n ≡ 1 → (is_up b.connection ≡ true) × (1 ≤ owes (channel_at b c).peer)

zero_one : (P : Type 0) (n : ℕ) → n ≡ 0 → n ≡ 1 → P
zero_one P n h k = let z : ⊥ = omega (arith, h, k) in absurd z

down_sends : (c : ℕ) (b b' : Broker) (n : ℕ) → is_up b'.connection ≡ false → n ≡ 0 → Sends c b b' n
down_sends c b b' n down zero = record { up = λ up. absurd (not_both _ up down); ok = λ one. zero_one _ n zero one }

apart_close : (d : BrokerFrame) → sends.is_connection_close d ≡ true → is_close_ok_as d ≡ false
apart_close broker.ConnectionClose h = refl
apart_close _ h = absurd cc

apart_ok : (d : BrokerFrame) → sends.is_connection_close_ok d ≡ true → is_close_ok_as d ≡ false
apart_ok broker.ConnectionCloseOk h = refl
apart_ok _ h = absurd cc

none_here : (v w : Bool) → w ≡ false → one_if (v && w) ≡ 0
none_here true false h = refl
none_here false w h = refl
none_here true true h = absurd cc

channel_sends : (c : ℕ) (f : Frame) (b : Broker) → is_up b.connection ≡ true → may_in (channel_at b (channel_of f)).peer (channel_at b (channel_of f)) (tag_of f) (broker_frame f) ≡ true → owes (channel_at (send_on (channel_of f) (tag_of f) (broker_frame f) b) c).peer + one_if (is_close_ok_on c f) ≤ owes (channel_at b c).peer
channel_sends c f b up m =
    let a : ℕ = channel_of f in
    let t : List ℕ = tag_of f in
    let d : BrokerFrame = broker_frame f in
    elim (eqb_tells a c) [
      | inl z ↦
          let m' : may_in (channel_at b c).peer (channel_at b c) t d ≡ true = subst (λ v. may_in (channel_at b v).peer (channel_at b v) t d ≡ true) z.1 m in
          let K : ℕ → Type 0 = λ v. owes (channel_in (at_channel c (on_table v (after_send t d) b.channels))).peer + one_if (is_close_ok_as d) ≤ owes (channel_at b c).peer in
          rw z.0 (subst K (sym z.1) (table_owes c t d b.channels (at_channel c b.channels) refl m'))
      | inr z ↦
          let w : owes (channel_in (at_channel c (on_table a (after_send t d) b.channels))).peer ≡ owes (channel_at b c).peer = ap (λ v. owes (channel_in v).peer) (at-on_other a c (after_send t d) b.channels (λ e. not_both (a == c) (eq-eqb a c e) z.0)) in
          rw z.0 (omega (arith, w))
    ]

send_sends : (c : ℕ) (f : Frame) (b : Broker) → may b f ≡ true → Sends c b (send b f) (one_if (is_close_ok_on c f))
send_sends c f b =
    let a : ℕ = channel_of f in
    let t : List ℕ = tag_of f in
    let d : BrokerFrame = broker_frame f in
    let n : ℕ = one_if (is_close_ok_on c f) in
    let after_close : Broker = record b { connection = connection.Stopped } in
    let after_ok : Broker = record b { connection = after_own_close_ok b.connection } in
    let other : Broker = record (send_on a t d b) { reading = cond (is_close d && is_read_on a b.reading) None b.reading } in
    let goes : Bool = is_up b.connection && may_in (channel_at b a).peer (channel_at b a) t d in
    elim (sends.is_connection_close d) as (λ v. sends.is_connection_close d ≡ v → cond v (is_up b.connection) (cond (sends.is_connection_close_ok d) (owes_connection b.connection) goes) ≡ true → Sends c b (cond v after_close (cond (sends.is_connection_close_ok d) after_ok other)) n) [
      | true ↦ λ e m. down_sends c b after_close n refl (none_here (a == c) (is_close_ok_as d) (apart_close d e))
      | false ↦ λ _. elim (sends.is_connection_close_ok d) as (λ v. sends.is_connection_close_ok d ≡ v → cond v (owes_connection b.connection) goes ≡ true → Sends c b (cond v after_ok other) n) [
        | true ↦ λ e m. down_sends c b after_ok n (own_down b.connection m) (none_here (a == c) (is_close_ok_as d) (apart_ok d e))
        | false ↦ λ _ m.
            let both = and_parts (is_up b.connection) _ m in
            let less : owes (channel_at other c).peer + n ≤ owes (channel_at b c).peer = channel_sends c f b both.0 both.1 in
            record {
              up = λ _. (both.0, less);
              ok = λ one. (both.0, omega (arith, less, one));
            }
      ] refl
    ] refl

-- ---- all that were sent

abbrev pub AreOwed : ℕ → List Deed → List Deed → Type 0
AreOwed c seen [] = Unit {0}
AreOwed c seen (Read l ∷ ds) = AreOwed c (seen ++ Read l ∷ []) ds
AreOwed c seen (Sent f ∷ ds) = (is_close_ok_on c f ≡ true → length (close_oks_in c seen) + 1 ≤ length (closes_in c seen)) × AreOwed c (seen ++ Sent f ∷ []) ds

owed-push : (c : ℕ) (seen o : List Deed) (d : Deed) → AreOwed c seen o → AreOwed c (seen ++ o) (d ∷ []) → AreOwed c seen (o ++ d ∷ [])
owed-push c seen [] d h k = subst (λ v. AreOwed c v (d ∷ [])) (append-nil seen) k
owed-push c seen (Read l ∷ o) d h k = owed-push c (seen ++ Read l ∷ []) o d h (subst (λ v. AreOwed c v (d ∷ [])) (sym (append_assoc seen (Read l ∷ []) o)) k)
owed-push c seen (Sent f ∷ o) d h k = (h.0, owed-push c (seen ++ Sent f ∷ []) o d h.1 (subst (λ v. AreOwed c v (d ∷ [])) (sym (append_assoc seen (Sent f ∷ []) o)) k))

abbrev IsOwedAt : ℕ → List Deed → Type 0
IsOwedAt c ds = length (close_oks_in c ds) + 1 ≤ length (closes_in c ds)

owed-at : (c : ℕ) (seen before behind : List Deed) (f : Frame) → AreOwed c seen (before ++ Sent f ∷ behind) → is_close_ok_on c f ≡ true → IsOwedAt c (seen ++ before)
owed-at c seen [] behind f h r = subst (IsOwedAt c) (sym (append-nil seen)) (h.0 r)
owed-at c seen (Read l ∷ before) behind f h r = subst (IsOwedAt c) (append_assoc seen (Read l ∷ []) before) (owed-at c (seen ++ Read l ∷ []) before behind f h r)
owed-at c seen (Sent g ∷ before) behind f h r = subst (IsOwedAt c) (append_assoc seen (Sent g ∷ []) before) (owed-at c (seen ++ Sent g ∷ []) before behind f h.1 r)

-- ---- every joined run

pub record Okay (c : ℕ) (b : Broker) (ds : List Deed) : Type 0 where
  pub most : length (close_oks_in c ds) ≤ length (closes_in c ds)
  pub owed : is_up b.connection ≡ true → length (close_oks_in c ds) + owes (channel_at b c).peer ≤ length (closes_in c ds)
  pub all : AreOwed c [] ds

-- numbers of both, one deed longer
if_one : {X : Type 0} (v : Bool) (x : X) → length (cond v (x ∷ []) []) ≡ one_if v
if_one true x = refl
if_one false x = refl

oks-read : (c : ℕ) (ds : List Deed) (l : Left) → length (close_oks_in c (ds ++ Read l ∷ [])) ≡ length (close_oks_in c ds)
oks-read c ds l = ap (λ v. length (filter (is_close_ok_on c) v)) (sents-append ds (Read l ∷ []) ∙ append-nil (sents ds))

pub closes-read : (c : ℕ) (ds : List Deed) (l : Left) → length (closes_in c (ds ++ Read l ∷ [])) ≡ length (closes_in c ds) + one_if (is_close_on c l)
closes-read c ds l = ap (λ v. length (filter (is_close_on c) v)) (lefts-append ds (Read l ∷ [])) ∙ (ap length (filter-append (is_close_on c) (lefts ds) (l ∷ [])) ∙ (length-append (closes_in c ds) (filter (is_close_on c) (l ∷ [])) ∙ ap (λ v. length (closes_in c ds) + v) (if_one (is_close_on c l) l)))

pub oks-sent : (c : ℕ) (ds : List Deed) (f : Frame) → length (close_oks_in c (ds ++ Sent f ∷ [])) ≡ length (close_oks_in c ds) + one_if (is_close_ok_on c f)
oks-sent c ds f = ap (λ v. length (filter (is_close_ok_on c) v)) (sents-append ds (Sent f ∷ [])) ∙ (ap length (filter-append (is_close_ok_on c) (sents ds) (f ∷ [])) ∙ (length-append (close_oks_in c ds) (filter (is_close_ok_on c) (f ∷ [])) ∙ ap (λ v. length (close_oks_in c ds) + v) (if_one (is_close_ok_on c f) f)))

closes-sent : (c : ℕ) (ds : List Deed) (f : Frame) → length (closes_in c (ds ++ Sent f ∷ [])) ≡ length (closes_in c ds)
closes-sent c ds f = ap (λ v. length (filter (is_close_on c) v)) (lefts-append ds (Sent f ∷ []) ∙ append-nil (lefts ds))

okay_read : (c : ℕ) (b : Broker) (ds : List Deed) (l : Left) → Okay c b ds → Okay c (read b l.frame) (ds ++ Read l ∷ [])
okay_read c b ds l k =
    let oks = oks-read c ds l in
    let cls = closes-read c ds l in
    let most = k.most in
    record {
      most = omega (arith, oks, cls, most);
      owed = λ up. (let g = read_grows c l b up in let owed = k.owed g.0 in let more = g.1 in omega (arith, oks, cls, owed, more));
      all = owed-push c [] ds (Read l) k.all tt;
    }

okay_send : (c : ℕ) (b : Broker) (ds : List Deed) (f : Frame) → may b f ≡ true → Okay c b ds → Okay c (send b f) (ds ++ Sent f ∷ [])
okay_send c b ds f m k =
    let s = send_sends c f b m in
    let oks = oks-sent c ds f in
    let cls = closes-sent c ds f in
    record {
      most = by (is_close_ok_on c f) refl s oks cls;
      owed = λ up. (let g = s.up up in let owed = k.owed g.0 in let less = g.1 in omega (arith, oks, cls, owed, less));
      all = owed-push c [] ds (Sent f) k.all ((λ r. (let g = s.ok (ap one_if r) in let owed = k.owed g.0 in let one = g.1 in omega (arith, owed, one))), tt);
    }
  where
    by : (v : Bool) → is_close_ok_on c f ≡ v → Sends c b (send b f) (one_if (is_close_ok_on c f)) → length (close_oks_in c (ds ++ Sent f ∷ [])) ≡ length (close_oks_in c ds) + one_if (is_close_ok_on c f) → length (closes_in c (ds ++ Sent f ∷ [])) ≡ length (closes_in c ds) → length (close_oks_in c (ds ++ Sent f ∷ [])) ≤ length (closes_in c (ds ++ Sent f ∷ []))
    by true e s oks cls = let g = s.ok (ap one_if e) in let owed = k.owed g.0 in let one = g.1 in let n : one_if (is_close_ok_on c f) ≡ 1 = ap one_if e in omega (arith, oks, cls, owed, one, n)
    by false e s oks cls = let most = k.most in let n : one_if (is_close_ok_on c f) ≡ 0 = ap one_if e in omega (arith, oks, cls, most, n)

more_none : (c : ℕ) (b : Broker) (ds : List Deed) → Okay c b ds → Okay c b (ds ++ [])
more_none c b ds k = subst (Okay c b) (sym (append-nil ds)) k

client_okay : {S : Type 0} (c : ℕ) (v : Bool) (j k : Joint S) (ds : List Deed) → k.broker ≡ j.broker → Okay c j.broker ds → Okay c (cond v k j).broker (ds ++ [])
client_okay c true j k ds e h = more_none c _ ds (subst (λ b. Okay c b ds) (sym e) h)
client_okay c false j k ds e h = more_none c _ ds h

read_okay : {S : Type 0} (c : ℕ) (ls : List Left) (j : Joint S) (ds : List Deed) → Okay c j.broker ds → Okay c (read_first ls j).broker (ds ++ reads_of (front ls))
read_okay c [] j ds h = more_none c _ ds h
read_okay c (l ∷ ls) j ds h = okay_read c j.broker ds l h

send_okay : {S : Type 0} (c : ℕ) (f : Frame) (j : Joint S) (ds : List Deed) → Okay c j.broker ds → Okay c (cond (may j.broker f) (send_down f j) j).broker (ds ++ cond (may j.broker f) (Sent f ∷ []) [])
send_okay c f j ds h = elim (may j.broker f) as (λ v. may j.broker f ≡ v → Okay c (cond v (send_down f j) j).broker (ds ++ cond v (Sent f ∷ []) [])) [ true ↦ λ m. okay_send c j.broker ds f m h | false ↦ λ m. more_none c _ ds h ] refl

deliver_okay : {S : Type 0} (c : ℕ) (m : Way S) (fs : List Frame) (j : Joint S) (ds : List Deed) → Okay c j.broker ds → Okay c (deliver_first m fs j).broker (ds ++ [])
deliver_okay c m [] j ds h = more_none c _ ds h
deliver_okay c m (f ∷ fs) j ds h = more_none c _ ds h

okay_after : {S : Type 0} (c : ℕ) (m : Way S) (s : Step) (j : Joint S) (ds : List Deed) → Okay c j.broker ds → Okay c (after m s j).broker (ds ++ deed_in s j)
okay_after c m (step.Client e) j ds h = client_okay c (is_lawful e) j (client_step m e j) ds refl h
okay_after c m step.Read j ds h = read_okay c j.up j ds h
okay_after c m (step.Send f) j ds h = send_okay c f j ds h
okay_after c m step.Deliver j ds h = deliver_okay c m j.down j ds h
okay_after c m step.Lose j ds h = more_none c _ ds (record { most = h.most; owed = λ up. absurd (not_both _ up (lost_down j.broker.connection)); all = h.all })

okay_all : {S : Type 0} (c : ℕ) (m : Way S) (ss : List Step) (j : Joint S) (ds : List Deed) → Okay c j.broker ds → Okay c (run m ss j).broker (ds ++ along m deed_in ss j)
okay_all c m [] j ds h = more_none c _ ds h
okay_all c m (s ∷ ss) j ds h = subst (Okay c _) (append_assoc ds (deed_in s j) (along m deed_in ss (after m s j))) (okay_all c m ss (after m s j) (ds ++ deed_in s j) (okay_after c m s j ds h))

pub okay_in : (n c : ℕ) (ss : List Step) → Okay c (joined_to n ss).broker (deeds n ss)
okay_in n c ss = okay_all c (by_history n) ss (new_joint [] n) [] (record { most = omega arith; owed = λ up. omega arith; all = tt })

-- at each close-ok that was sent more closes were read than close-oks were sent before
pub owed_in : (n c : ℕ) (ss : List Step) (before behind : List Deed) (f : Frame) → deeds n ss ≡ before ++ Sent f ∷ behind → is_close_ok_on c f ≡ true → length (close_oks_in c before) + 1 ≤ length (closes_in c before)
owed_in n c ss before behind f e r = owed-at c [] before behind f (subst (AreOwed c []) e (okay_in n c ss).all) r
