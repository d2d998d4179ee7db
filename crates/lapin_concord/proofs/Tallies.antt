-- A run of the pair with tags and counts goes with each joined run: without them it is the pair that the joined run is, and its counts
-- are the free broker's.
use Rattle.std.proofs.Common.{◌≡◌, ℕ, Bool, true, false, cond, ◌&&◌, List, [], ◌∷◌, refl, sym, ◌∙◌, ap, ap₂, subst, Option, Some, None, eq-eqb}
use Rattle.lapin_types.specs.Types.{Frame}
use Rattle.lapin_broker.specs.declared.content.Content.{Content}
use Rattle.lapin_broker.specs.declared.frames.ClientFrame.{ClientFrame}
use Rattle.lapin_broker.specs.declared.frames.ClientFrame.TheVariants as client
use Rattle.lapin_broker.specs.declared.frames.BrokerFrame.{BrokerFrame}
use Rattle.lapin_broker.specs.declared.frames.BrokerFrame.TheVariants as broker
use Rattle.lapin_broker.specs.declared.peer.Connection.{Connection}
use Rattle.lapin_broker.specs.declared.peer.Connection.TheVariants as connection
use Rattle.lapin_broker.specs.Frames.{channel_of, client_frame, broker_frame, tag_of}
use Rattle.lapin_broker.specs.States.{Channel, Broker, free_channel, channel_at, after_break, is_up, is_leaving}
use Rattle.lapin_broker.specs.Reads.{is_connection_close, is_connection_close_ok, read_piece, read_up, read_down, read_sorted, read}
use Rattle.lapin_broker.specs.Sends.{may_in, may_sorted, may, send_sorted, send_on, send}
use Rattle.lapin_pairs.specs.Every.{UpOn, OnU, CloseU, CloseOkU, DownOn, ToD, CloseD, CloseOkD, All, StepA, CallA, SendA, HangUpA, NextA, ReadA, DeliverA, LoseA, called_a, calls_a, hangs_a, hands_a, received_a, delivers_a, sides_after, reads_a, may_a, sides_sent, sends_a, happens_a, run_a, start_a, has_any, put}
use Rattle.lapin_pairs.specs.Machine as pair
use Rattle.lapin_pairs.specs.Machine.{Sess, Closed, Opening, Opened, Closing, Crossed, Refused}
use Rattle.lapin_pairs.specs.Asking.{U2, K2, needs2, asking}
use Rattle.lapin_pairs.specs.Tags.{TagCount}
use Rattle.lapin_pairs.specs.Tagging.{S3, B3, call3, reads3b, tagging}
use Rattle.lapin_pairs.proofs.Every.{Joint, joint_keeps, joint_start}
use Rattle.lapin_pairs.proofs.Tagging.{Tagged, Calm3, tags_fact}
use Rattle.lapin_concord.specs.Frames.{up_kind, up_frame, down_kind, down_frame}
use Rattle.lapin_concord.specs.Peers.{connection_as, sides_as, IsReady}
use Rattle.lapin_concord.specs.Numbering.{IsCountIn, AreCounts}
use Rattle.lapin_concord.proofs.Views.{Told, is_own, AreOwn, Follows}
use Rattle.lapin_concord.proofs.Reading.{small, up_small, IsPlaced, is_piece, MayRead}
use Rattle.lapin_concord.proofs.Sending.{low, gives_in}
use Rattle.lapin_concord.proofs.Lifting.{bare, tagged_step, IsAllowed, bare_step, may_bare, allowed_at}
use Rattle.lapin_concord.proofs.Counted.{none_counts, some_counts, allowed_send, sent_counts}
use Rattle.lapin_tables.proofs.Bools.{and_second}

-- the fact of the pair with tags and counts, over all channels
abbrev pub J3 : All tagging → Type 0
J3 t = Joint tagging Tagged Calm3 tags_fact t

abbrev pub tag_counts : (ℕ → B3) → ℕ → TagCount
tag_counts t c = (t c).tag_count

pub record Tallied (w : All asking) (b : Broker) : Type 0 where
  pub pair : All tagging
  pub is : bare pair ≡ w
  pub counts : AreCounts b (tag_counts pair.sides)
  pub joint : J3 pair

-- ---- steps that aren't the broker's leave its counts

called_sides : (t : All tagging) (c : ℕ) (o : Option (S3 × List U2)) → (called_a tagging t c o).sides ≡ t.sides
called_sides t c None = refl
called_sides t c (Some x) = refl

calls_sides : (t : All tagging) (s : Sess) (c : ℕ) (k : K2) (b : Bool) → (calls_a tagging t s c k b).sides ≡ t.sides
calls_sides t Opened c k false = called_sides t c (call3 k (t.chans c))
calls_sides t Opened c k true = refl
calls_sides t Closed c k b = refl
calls_sides t Opening c k b = refl
calls_sides t Closing c k b = refl
calls_sides t Crossed c k b = refl
calls_sides t Refused c k b = refl

hangs_sides : (t : All tagging) (s : Sess) → (hangs_a tagging t s).sides ≡ t.sides
hangs_sides t Opened = refl
hangs_sides t _ = refl

hands_sides : (t : All tagging) (fs : List (UpOn U2)) → (hands_a tagging t fs).sides ≡ t.sides
hands_sides t [] = refl
hands_sides t (f ∷ fs) = refl

own_step : (t : All tagging) (s : StepA asking) → is_own s ≡ true → ((happens_a tagging t (tagged_step s)).sides ≡ t.sides) × IsAllowed t s
own_step t (CallA c k) o = (calls_sides t t.conn c k (needs2 k && has_any t.unsent), tt)
own_step t (SendA f) o = absurd cc
own_step t HangUpA o = (hangs_sides t t.conn, tt)
own_step t NextA o = (hands_sides t t.unsent, tt)
own_step t ReadA o = absurd cc
own_step t DeliverA o = (delivered t.down, tt)
  where
    received : (s : Sess) (d : DownOn _) (ds : List (DownOn _)) → (received_a tagging t s d ds).sides ≡ t.sides
    received Opened (ToD c d) ds = refl
    received Opened CloseD ds = refl
    received Opened CloseOkD ds = refl
    received _ d ds = refl

    delivered : (ds : List (DownOn _)) → (delivers_a tagging t ds).sides ≡ t.sides
    delivered [] = refl
    delivered (d ∷ ds) = received t.conn d ds
own_step t LoseA o = (refl, tt)

-- the same steps of the pair with tags and counts
abbrev pub tagged_run : List (StepA asking) → All tagging → All tagging
tagged_run [] t = t
tagged_run (s ∷ ss) t = tagged_run ss (happens_a tagging t (tagged_step s))

own_run : (ss : List (StepA asking)) (w : All asking) (b : Broker) → AreOwn ss → (t : Tallied w b) → (x : Tallied (run_a asking ss w) b) × (x.pair ≡ tagged_run ss t.pair)
own_run [] w b o t = (t, refl)
own_run (s ∷ ss) w b o t =
    let x = own_step t.pair s o.0 in
    own_run ss (happens_a asking w s) b o.1 (record {
      pair = happens_a tagging t.pair (tagged_step s);
      is = bare_step t.pair s x.1 ∙ ap (λ v. happens_a asking v s) t.is;
      counts = subst (λ k. AreCounts b (tag_counts k)) (sym x.0) t.counts;
      joint = joint_keeps tagging Tagged Calm3 tags_fact t.pair (tagged_step s) t.joint;
    })

pub tallied_own : (k : Told) (w v : All asking) (b : Broker) (f : Follows k w v) (t : Tallied w b) → (x : Tallied v b) × (x.pair ≡ tagged_run f.steps t.pair)
tallied_own k w v b f t = let x = own_run f.steps w b f.own t in (record { pair = x.0.pair; is = x.0.is ∙ f.ends; counts = x.0.counts; joint = x.0.joint }, x.1)

-- ---- the broker reads

down_tag_counts : (b : Broker) (s : ℕ → B3) → AreCounts b (tag_counts s) → AreCounts (read_down b) (tag_counts s)
down_tag_counts b s h = elim (is_leaving b.connection) as (λ t. AreCounts (cond t (after_break b) b) (tag_counts s)) [ true ↦ h | false ↦ h ]

tag_counts_on : (f : Frame) (c : ℕ) (u : ClientFrame) (b : Broker) (s : ℕ → B3) → up_kind c u ≡ OnU c (small u) → is_connection_close u ≡ false → is_connection_close_ok u ≡ false → MayRead b c u → (λ e. (s e).base) ≡ sides_as b → AreCounts b (tag_counts s)
    → AreCounts (cond (is_up b.connection) (read_up b.reading c f u b) (read_down b)) (tag_counts (sides_after tagging (connection_as b.connection) s (up_kind c u)))
tag_counts_on f c u b s k n m h e counts = by_conn b.connection refl
  where
    here : (s c).base ≡ sides_as b c
    here = ap (λ g. g c) e

    by_reading : (r : Option (ℕ × Content)) → b.reading ≡ r → connection_as b.connection ≡ pair.Open → AreCounts (read_up r c f u b) (tag_counts (put c (reads3b (s c) (small u)) s))
    by_reading None y o = let w = h.whole o c (small u) k in none_counts c f u b s y h.sent n m h.ready w.0 w.1 here counts
    by_reading (Some r) y o =
        let w = h.whole o c (small u) k in
        let q : (r.0 ≡ c) × (is_piece u ≡ true) = subst (λ x. IsPlaced x c u) y (h.placed o c (small u) k) in
        let z : b.reading ≡ Some (c, r.1) = y ∙ ap (λ d. Some (d, r.1)) q.0 in
        subst (λ d. AreCounts d (tag_counts (put c (reads3b (s c) (small u)) s))) (sym (ap (λ x. cond x (read_piece c r.1 u b) (after_break b)) (eq-eqb r.0 c q.0))) (some_counts c u r.1 b s z q.1 h.sent h.ready w.1 here counts)

    at : (p : Connection) → b.connection ≡ p → AreCounts (cond (is_up p) (read_up b.reading c f u b) (read_down b)) (tag_counts (sides_after tagging (connection_as p) s (up_kind c u))) → AreCounts (cond (is_up b.connection) (read_up b.reading c f u b) (read_down b)) (tag_counts (sides_after tagging (connection_as b.connection) s (up_kind c u)))
    at p y g = subst (λ q. AreCounts (cond (is_up q) (read_up b.reading c f u b) (read_down b)) (tag_counts (sides_after tagging (connection_as q) s (up_kind c u)))) (sym y) g

    by_conn : (p : Connection) → b.connection ≡ p → AreCounts (cond (is_up b.connection) (read_up b.reading c f u b) (read_down b)) (tag_counts (sides_after tagging (connection_as b.connection) s (up_kind c u)))
    by_conn connection.Up y = at connection.Up y (subst (λ x. AreCounts (read_up b.reading c f u b) (tag_counts (sides_after tagging pair.Open s x))) (sym k) (by_reading b.reading refl (ap connection_as y)))
    by_conn connection.Leaving y = at connection.Leaving y (down_tag_counts b s counts)
    by_conn connection.Stopped y = at connection.Stopped y (down_tag_counts b s counts)
    by_conn connection.StoppedOwes y = at connection.StoppedOwes y (down_tag_counts b s counts)
    by_conn connection.LeavingStopped y = at connection.LeavingStopped y (down_tag_counts b s counts)
    by_conn connection.Done y = at connection.Done y (down_tag_counts b s counts)
    by_conn connection.Broken y = at connection.Broken y (down_tag_counts b s counts)

still_tag_counts : (p : pair.Peer) (s : ℕ → B3) (x : UpOn U2) → ((c : ℕ) (u : U2) → x ≡ OnU c u → ⊥) → sides_after tagging p s x ≡ s
still_tag_counts pair.Open s (OnU c u) n = absurd (n c u refl)
still_tag_counts pair.Open s CloseU n = refl
still_tag_counts pair.Open s CloseOkU n = refl
still_tag_counts _ s x n = refl

sorted_tag_counts : (f : Frame) (c : ℕ) (u : ClientFrame) (b : Broker) (s : ℕ → B3) → MayRead b c u → (λ e. (s e).base) ≡ sides_as b → AreCounts b (tag_counts s) → AreCounts (read_sorted c f u b) (tag_counts (sides_after tagging (connection_as b.connection) s (up_kind c u)))
sorted_tag_counts f c client.ConnectionClose b s h e counts = subst (λ g. AreCounts b (tag_counts g)) (sym (still_tag_counts (connection_as b.connection) s CloseU (λ d v y. cc))) counts
sorted_tag_counts f c client.ConnectionCloseOk b s h e counts = subst (λ g. AreCounts b (tag_counts g)) (sym (still_tag_counts (connection_as b.connection) s CloseOkU (λ d v y. cc))) counts
sorted_tag_counts f c u b s h e counts = tag_counts_on f c u b s (up_small c u refl refl) refl refl h e counts

pub tallied_read : (w v : All asking) (b : Broker) (f : Frame) (us : List (UpOn U2)) → w.broker ≡ connection_as b.connection → w.sides ≡ sides_as b → w.up ≡ up_frame f ∷ us → MayRead b (channel_of f) (client_frame f) → happens_a asking w ReadA ≡ v → (t : Tallied w b) → (y : Tallied v (read b f)) × (y.pair ≡ happens_a tagging t.pair ReadA)
tallied_read w v b f us p g y h ends t =
    let x : All tagging = t.pair in
    let sides : (λ e. (x.sides e).base) ≡ sides_as b = ap (λ (z : All asking). z.sides) t.is ∙ g in
    let up : x.up ≡ up_frame f ∷ us = ap (λ (z : All asking). z.up) t.is ∙ y in
    let conn : x.broker ≡ connection_as b.connection = ap (λ (z : All asking). z.broker) t.is ∙ p in
    let after : (happens_a tagging x ReadA).sides ≡ sides_after tagging (connection_as b.connection) x.sides (up_frame f) = ap (λ fs. (reads_a tagging x fs).sides) up ∙ ap (λ q. sides_after tagging q x.sides (up_frame f)) conn in (
      record {
        pair = happens_a tagging x ReadA;
        is = bare_step x ReadA tt ∙ (ap (λ z. happens_a asking z ReadA) t.is ∙ ends);
        counts = subst (λ k. AreCounts (read b f) (tag_counts k)) (sym after) (sorted_tag_counts f (channel_of f) (client_frame f) b x.sides h sides t.counts);
        joint = joint_keeps tagging Tagged Calm3 tags_fact x ReadA t.joint;
      },
      refl,
    )

-- ---- the broker sends

named_low : (b : Broker) (c : ℕ) (t : List ℕ) (d : BrokerFrame) → (is_up b.connection && may_in (channel_at b c).peer (channel_at b c) t d) ≡ true → IsReady b → down_kind c d ≡ ToD c (low d)
named_low b c t d m h = (gives_in (channel_at b c).peer (channel_at b c) t d refl (h.bare c) (and_second (is_up b.connection) _ m)).named c

on_tag_counts : (b : Broker) (c : ℕ) (t : List ℕ) (d : BrokerFrame) (r : Option (ℕ × Content)) (s : ℕ → B3) → (is_up b.connection && may_in (channel_at b c).peer (channel_at b c) t d) ≡ true → IsReady b → AreCounts b (tag_counts s) → AreCounts (record (send_on c t d b) { reading = r }) (tag_counts (sides_sent tagging s (down_kind c d)))
on_tag_counts b c t d r s m h counts = subst (λ x. AreCounts (record (send_on c t d b) { reading = r }) (tag_counts (sides_sent tagging s x))) (sym (named_low b c t d m h)) (sent_counts b c t d r s (and_second (is_up b.connection) _ m) counts)

sorted_sent : (b : Broker) (c : ℕ) (t : List ℕ) (d : BrokerFrame) (s : ℕ → B3) → may_sorted c t d b ≡ true → IsReady b → AreCounts b (tag_counts s) → AreCounts (send_sorted c t d b) (tag_counts (sides_sent tagging s (down_kind c d)))
sorted_sent b c t broker.ConnectionClose s m h counts = counts
sorted_sent b c t broker.ConnectionCloseOk s m h counts = counts
sorted_sent b c t d s m h counts = on_tag_counts b c t d b.reading s m h counts

sorted_allowed : (x : All tagging) (b : Broker) (c : ℕ) (t : List ℕ) (d : BrokerFrame) → may_sorted c t d b ≡ true → IsReady b → AreCounts b (tag_counts x.sides) → IsAllowed x (SendA (down_kind c d))
sorted_allowed x b c t broker.ConnectionClose m h counts = tt
sorted_allowed x b c t broker.ConnectionCloseOk m h counts = tt
sorted_allowed x b c t d m h counts = subst (λ q. IsAllowed x (SendA q)) (sym (named_low b c t d m h)) (allowed_send b c t d (tag_counts x.sides) (and_second (is_up b.connection) _ m) counts)

pub tallied_send : (w v : All asking) (b : Broker) (f : Frame) → w.broker ≡ connection_as b.connection → w.sides ≡ sides_as b → may b f ≡ true → IsReady b → may_a asking (connection_as b.connection) (sides_as b) (down_frame f) ≡ true → happens_a asking w (SendA (down_frame f)) ≡ v → (t : Tallied w b) → (y : Tallied v (send b f)) × (y.pair ≡ happens_a tagging t.pair (SendA (down_frame f)))
tallied_send w v b f p g m h a ends t =
    let x : All tagging = t.pair in
    let q : DownOn _ = down_frame f in
    let sides : (λ e. (x.sides e).base) ≡ sides_as b = ap (λ (z : All asking). z.sides) t.is ∙ g in
    let conn : x.broker ≡ connection_as b.connection = ap (λ (z : All asking). z.broker) t.is ∙ p in
    let allowed : IsAllowed x (SendA q) = sorted_allowed x b (channel_of f) (tag_of f) (broker_frame f) m h t.counts in
    let may_too : may_a tagging x.broker x.sides q ≡ true = may_bare x.broker x.sides q (allowed_at x q allowed) ∙ (ap₂ (λ y z. may_a asking y z q) conn sides ∙ a) in
    let after : (happens_a tagging x (SendA q)).sides ≡ sides_sent tagging x.sides q = ap (λ y. (cond y (sends_a tagging x q) x).sides) may_too in (
      record {
        pair = happens_a tagging x (SendA q);
        is = bare_step x (SendA q) allowed ∙ (ap (λ z. happens_a asking z (SendA q)) t.is ∙ ends);
        counts = subst (λ k. AreCounts (send b f) (tag_counts k)) (sym after) (sorted_sent b (channel_of f) (tag_of f) (broker_frame f) x.sides m h t.counts);
        joint = joint_keeps tagging Tagged Calm3 tags_fact x (SendA q) t.joint;
      },
      refl,
    )

-- ---- a new run

pub tallied_new : (w : All asking) (b : Broker) → start_a asking ≡ w → ((c : ℕ) → channel_at b c ≡ free_channel) → (y : Tallied w b) × (y.pair ≡ start_a tagging)
tallied_new w b e f = (
  record {
    pair = start_a tagging;
    is = e;
    counts = λ c. subst (λ (y : Channel). IsCountIn y.peer y (tag_counts (start_a tagging).sides c)) (sym (f c)) (refl, refl);
    joint = joint_start tagging Tagged Calm3 tags_fact;
  },
  refl,
)
