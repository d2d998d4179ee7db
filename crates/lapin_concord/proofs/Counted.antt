-- The counts of the free broker and of the pair's, on every channel, as a frame is read and as one is sent.
use Rattle.std.proofs.Common.{◌≡◌, ℕ, ◌==◌, Bool, true, false, cond, List, refl, sym, ◌∙◌, ap, subst, Option, Some, None, inl, inr}
use Rattle.std.proofs.lemmas.Bool.Decides.{eqb_tells}
use Rattle.lapin_types.specs.Types.{Frame}
use Rattle.lapin_tables.specs.ByChannel.{at_channel}
use Rattle.lapin_broker.specs.declared.content.Content.{Content}
use Rattle.lapin_broker.specs.declared.content.Content.TheVariants as content
use Rattle.lapin_broker.specs.declared.frames.ClientFrame.{ClientFrame}
use Rattle.lapin_broker.specs.declared.frames.ClientFrame.TheVariants as client
use Rattle.lapin_broker.specs.declared.frames.BrokerFrame.{BrokerFrame}
use Rattle.lapin_broker.specs.declared.frames.BrokerFrame.TheVariants as broker
use Rattle.lapin_broker.specs.declared.peer.Peer.{Peer}
use Rattle.lapin_broker.specs.declared.peer.Peer.TheVariants as peer
use Rattle.lapin_broker.specs.Contents.{is_idle}
use Rattle.lapin_broker.specs.Numbers.{may_settle, after_settlement}
use Rattle.lapin_broker.specs.States.{Channel, Broker, free_channel, channel_in, channel_at, with_channel, after_break}
use Rattle.lapin_broker.specs.Reads.{is_connection_close, is_connection_close_ok, content_after, with_next_number, number_on, with_piece, read_piece, begins_in, read_in, read_on}
use Rattle.lapin_broker.specs.Sends.{may_in, after_close_ok, after_send, send_on}
use Rattle.lapin_broker.specs.Sound.{IsReadOpen}
use Rattle.lapin_pairs.specs.Machine as pair
use Rattle.lapin_pairs.specs.Channel as kept
use Rattle.lapin_pairs.specs.Channel.{is_none}
use Rattle.lapin_pairs.specs.Every.{put}
use Rattle.lapin_pairs.specs.Asking.{B2, reads2b}
use Rattle.lapin_pairs.specs.Tags.{TagCount, counted, logged}
use Rattle.lapin_pairs.specs.Tags as tags
use Rattle.lapin_pairs.specs.Tagging.{B3, reads3b, gives3}
use Rattle.lapin_concord.specs.Frames.{IsSent}
use Rattle.lapin_concord.specs.Peers.{content_as, side_as, sides_as, IsPart, IsReady}
use Rattle.lapin_concord.specs.Numbering.{IsCount, IsCountIn, AreCounts}
use Rattle.lapin_concord.proofs.Sides.{chan_with, chan_away, chan_on, chan_on_away, reading_here}
use Rattle.lapin_concord.proofs.Reading.{small, as_side, one_else, is_piece, piece, numbered_peer}
use Rattle.lapin_concord.proofs.Sending.{low}
use Rattle.lapin_concord.proofs.Numbering.{settles_as, settled_counts}
use Rattle.lapin_concord.proofs.Counting.{count_as, read_counts, piece_counts}
use Rattle.lapin_tables.proofs.Bools.{and_second}

-- one channel changes
at_one : (c : ℕ) (g h : ℕ → Channel) (s : B3) (t : ℕ → B3) → IsCountIn (h c).peer (h c) s.tag_count → ((e : ℕ) → (c == e) ≡ false → h e ≡ g e) → ((e : ℕ) → IsCountIn (g e).peer (g e) (t e).tag_count) → (e : ℕ) → IsCountIn (h e).peer (h e) (put c s t e).tag_count
at_one c g h s t here away k e = elim (eqb_tells c e) [
  | inl z ↦ subst (λ q. IsCountIn (h e).peer (h e) (cond q s (t e)).tag_count) (sym z.0) (subst (λ n. IsCountIn (h n).peer (h n) s.tag_count) z.1 here)
  | inr n ↦ subst (λ q. IsCountIn (h e).peer (h e) (cond q s (t e)).tag_count) (sym n.0) (subst (λ (y : Channel). IsCountIn y.peer y (t e).tag_count) (sym (away e n.0)) (k e))
]

-- a frame that is read while no content is
pub none_counts : (c : ℕ) (f : Frame) (u : ClientFrame) (b : Broker) (t : ℕ → B3) → b.reading ≡ None → IsSent b.frame_max u → is_connection_close u ≡ false → is_connection_close_ok u ≡ false → IsReady b
    → pair.is_broken (reads2b (sides_as b c) (small u)).peer ≡ false → is_none (reads2b (sides_as b c) (small u)).reading ≡ false
    → (t c).base ≡ sides_as b c → AreCounts b (λ e. (t e).tag_count) → AreCounts (read_on c f u b) (λ e. (put c (reads3b (t c) (small u)) t e).tag_count)
none_counts c f u b t n s h k g w r same counts =
    let x : Channel = channel_at b c in
    let p : Peer = x.peer in
    let y : Channel = read_in p f x u in
    let here : sides_as b c ≡ as_side x (Some kept.Idle) = ap (side_as c x) n in
    let one = one_else p f x u b.frame_max refl (g.bare c) s h k (ap (λ (q : B2). pair.is_broken (reads2b q (small u)).peer) (sym here) ∙ w) (ap (λ (q : B2). is_none (reads2b q (small u)).reading) (sym here) ∙ r) in
    let d : Broker = record b { channels = with_channel c y b.channels; reading = cond (begins_in p u) (Some (c, content.Begun)) b.reading } in
    let is : read_on c f u b ≡ d = ap (λ z. cond z (after_break b) d) one.0 in
    let side : B3 = record { base = as_side x (Some kept.Idle); tag_count = (t c).tag_count } in
    let tag_count : (reads3b (t c) (small u)).tag_count ≡ (reads3b side (small u)).tag_count = ap (λ (q : B2). (reads3b (record { base = q; tag_count = (t c).tag_count }) (small u)).tag_count) (same ∙ here) in
    let read : IsCountIn y.peer y (reads3b side (small u)).tag_count = read_counts p f x (t c).tag_count u refl one.0 (counts c) in
    subst (λ (z : Broker). AreCounts z (λ e. (put c (reads3b (t c) (small u)) t e).tag_count)) (sym is)
    (at_one c (channel_at b) (channel_at d) (reads3b (t c) (small u)) t
    (subst (λ (z : Channel). IsCountIn z.peer z (reads3b (t c) (small u)).tag_count) (sym (chan_with c y b.channels)) (subst (IsCountIn y.peer y) (sym tag_count) read))
    (λ e m. chan_away c e y b.channels m) counts)

-- a piece of the content that is being read
pub some_counts : (c : ℕ) (u : ClientFrame) (z : Content) (b : Broker) (t : ℕ → B3) → b.reading ≡ Some (c, z) → is_piece u ≡ true → IsSent b.frame_max u → IsReady b
    → is_none (reads2b (sides_as b c) (small u)).reading ≡ false
    → (t c).base ≡ sides_as b c → AreCounts b (λ e. (t e).tag_count) → AreCounts (read_piece c z u b) (λ e. (put c (reads3b (t c) (small u)) t e).tag_count)
some_counts c u z b t n i s g r same counts =
    let x : Channel = channel_at b c in
    let o : x.peer ≡ peer.Open = subst (IsReadOpen b.channels) n g.sound in
    let m : is_idle z ≡ false = subst IsPart n g.part in
    let v : Content = content_after z u in
    let here : sides_as b c ≡ as_side x (Some (content_as z)) = ap (side_as c x) n ∙ ap (as_side x) (reading_here c z) in
    let y = piece b.frame_max x z u o i s m (ap (λ (q : B2). is_none (reads2b q (small u)).reading) (sym here) ∙ r) in
    let taken : read_piece c z u b ≡ with_piece c v b = ap (λ q. cond q (with_piece c v b) (after_break b)) y.taken in
    let side : B3 = record { base = as_side x (Some (content_as z)); tag_count = (t c).tag_count } in
    let tag_count : (reads3b (t c) (small u)).tag_count ≡ (reads3b side (small u)).tag_count = ap (λ (q : B2). (reads3b (record { base = q; tag_count = (t c).tag_count }) (small u)).tag_count) (same ∙ here) in
    let count : IsCount x (t c).tag_count = subst (λ p. IsCountIn p x (t c).tag_count) o (counts c) in
    let counted_ : (reads3b side (small u)).tag_count ≡ counted (t c).tag_count (Some (content_as v)) = next u i o ∙ ap (counted (t c).tag_count) (sym (ap (λ (q : B2). q.reading) y.same)) in
    let after : IsCount (cond (is_idle v) (with_next_number x) x) (reads3b (t c) (small u)).tag_count = subst (IsCount (cond (is_idle v) (with_next_number x) x)) (sym (tag_count ∙ counted_)) (piece_counts x (t c).tag_count v count) in
    subst (λ (w : Broker). AreCounts w (λ e. (put c (reads3b (t c) (small u)) t e).tag_count)) (sym taken) (by_end (is_idle v) v refl o after)
  where
    next : (u : ClientFrame) → is_piece u ≡ true → (channel_at b c).peer ≡ peer.Open
        → (reads3b (record { base = as_side (channel_at b c) (Some (content_as z)); tag_count = (t c).tag_count }) (small u)).tag_count ≡ counted (t c).tag_count (reads2b (as_side (channel_at b c) (Some (content_as z))) (small u)).reading
    next (client.Header class size) i o = rw o refl
    next (client.Body n) i o = rw o refl
    next _ i o = cc

    in_open : (y : Channel) (k : TagCount) → y.peer ≡ peer.Open → IsCount y k → IsCountIn y.peer y k
    in_open y k o h = subst (λ p. IsCountIn p y k) (sym o) h

    by_end : (q : Bool) (v : Content) → is_idle v ≡ q → (channel_at b c).peer ≡ peer.Open → IsCount (cond (is_idle v) (with_next_number (channel_at b c)) (channel_at b c)) (reads3b (t c) (small u)).tag_count → AreCounts (with_piece c v b) (λ e. (put c (reads3b (t c) (small u)) t e).tag_count)
    by_end true v q o after =
        let x : Channel = channel_at b c in
        let d : Broker = record (number_on c b) { reading = None } in
        let count : IsCount (with_next_number x) (reads3b (t c) (small u)).tag_count = subst (λ p. IsCount (cond p (with_next_number x) x) (reads3b (t c) (small u)).tag_count) q after in
        subst (λ (w : Broker). AreCounts w (λ e. (put c (reads3b (t c) (small u)) t e).tag_count)) (sym (ap (λ p. cond p d (record b { reading = Some (c, v) })) q))
        (at_one c (channel_at b) (channel_at d) (reads3b (t c) (small u)) t
        (subst (λ (w : Channel). IsCountIn w.peer w (reads3b (t c) (small u)).tag_count) (sym (chan_on c with_next_number b.channels (λ _. refl))) (in_open (with_next_number x) (reads3b (t c) (small u)).tag_count (numbered_peer x ∙ o) count))
        (λ e m. chan_on_away c e with_next_number b.channels m) counts)
    by_end false v q o after =
        let x : Channel = channel_at b c in
        let d : Broker = record b { reading = Some (c, v) } in
        let count : IsCount x (reads3b (t c) (small u)).tag_count = subst (λ p. IsCount (cond p (with_next_number x) x) (reads3b (t c) (small u)).tag_count) q after in
        subst (λ (w : Broker). AreCounts w (λ e. (put c (reads3b (t c) (small u)) t e).tag_count)) (sym (ap (λ p. cond p (record (number_on c b) { reading = None }) d) q))
        (at_one c (channel_at b) (channel_at d) (reads3b (t c) (small u)) t (in_open x (reads3b (t c) (small u)).tag_count o count) (λ e m. refl) counts)

-- ---- sends

not_free : (q : Peer) (y : Channel) (k : TagCount) → (q ≡ peer.Free → ⊥) → IsCount y k → IsCountIn q y k
not_free peer.Free y k n h = absurd (n refl)
not_free _ y k n h = h

gave_counts : (x : Channel) (t : List ℕ) (d : BrokerFrame) (k : TagCount) → IsCount x k → (x.peer ≡ peer.Free → ⊥) → ((n : ℕ) (m : Bool) → d ≡ broker.Settle n m → may_settle n m x.numbers ≡ true) → IsCountIn (after_send t d x).peer (after_send t d x) (logged k (low d))
gave_counts x t broker.OpenOk k h n m = count_as x (record x { peer = peer.Open }) k k refl refl refl refl refl h
gave_counts x t broker.Close k h n m = count_as x (after_send t broker.Close x) k k refl refl refl refl refl h
gave_counts x t broker.CloseOk k h n m = answered x.peer
  where
    answered : (q : Peer) → IsCountIn (after_close_ok q x).peer (after_close_ok q x) k
    answered peer.StoppingOwes = count_as x (record x { peer = peer.Stopping }) k k refl refl refl refl refl h
    answered _ = (refl, refl)
gave_counts x t (broker.Settle i multiple) k h n m = not_free x.peer (record x { numbers = after_settlement i multiple x.numbers }) _ n (settled_counts i multiple x k (m i multiple refl) h)
gave_counts x t d k h n m = not_free x.peer (after_send t d x) k n (count_as x (after_send t d x) k k refl refl refl refl refl h)

-- a settlement that may be sent is one of a number that may be settled
settles_in : (p : Peer) (x : Channel) (t : List ℕ) (n : ℕ) (m : Bool) → may_in p x t (broker.Settle n m) ≡ true → may_settle n m x.numbers ≡ true
settles_in peer.Open x t n m h = and_second (is_idle x.sending) _ h
settles_in peer.Leaving x t n m h = and_second (is_idle x.sending) _ h
settles_in _ x t n m h = cc

-- nothing is sent on a free channel
sends_none : (p : Peer) (x : Channel) (t : List ℕ) (d : BrokerFrame) → may_in p x t d ≡ true → p ≡ peer.Free → ⊥
sends_none p x t d m e = let j : false ≡ true = sym (ap (λ q. may_in q x t d) e) ∙ m in cc

is_count : (p : Peer) (x : Channel) (k : TagCount) → (p ≡ peer.Free → ⊥) → IsCountIn p x k → IsCount x k
is_count peer.Free x k n h = absurd (n refl)
is_count _ x k n h = h

-- the pair's broker may send it by its count
pub allowed_send : (b : Broker) (c : ℕ) (t : List ℕ) (d : BrokerFrame) (k : ℕ → TagCount) → may_in (channel_at b c).peer (channel_at b c) t d ≡ true → AreCounts b k → tags.may_settle (k c) (low d) ≡ true
allowed_send b c t (broker.Settle n m) k h counts =
    let x : Channel = channel_at b c in
    settles_as n m x (k c) (settles_in x.peer x t n m h) (is_count x.peer x (k c) (sends_none x.peer x t (broker.Settle n m) h) (counts c))
allowed_send b c t _ k h counts = refl

-- both count on alike
pub sent_counts : (b : Broker) (c : ℕ) (t : List ℕ) (d : BrokerFrame) (r : Option (ℕ × Content)) (s : ℕ → B3) → may_in (channel_at b c).peer (channel_at b c) t d ≡ true → AreCounts b (λ e. (s e).tag_count) → AreCounts (record (send_on c t d b) { reading = r }) (λ e. (put c (gives3 (s c) (low d)) s e).tag_count)
sent_counts b c t d r s m counts =
    let x : Channel = channel_at b c in
    let n : x.peer ≡ peer.Free → ⊥ = sends_none x.peer x t d m in
    let there : at_channel c b.channels ≡ None → after_send t d free_channel ≡ free_channel = λ o. absurd (n (ap (λ q. (channel_in q).peer) o)) in
    at_one c (channel_at b) (channel_at (record (send_on c t d b) { reading = r })) (gives3 (s c) (low d)) s
    (subst (λ (y : Channel). IsCountIn y.peer y (logged (s c).tag_count (low d))) (sym (chan_on c (after_send t d) b.channels there))
    (gave_counts x t d (s c).tag_count (is_count x.peer x (s c).tag_count n (counts c)) n (λ i q e. settles_in x.peer x t i q (subst (λ a. may_in x.peer x t a ≡ true) e m))))
    (λ e a. chan_on_away c e (after_send t d) b.channels a) counts
