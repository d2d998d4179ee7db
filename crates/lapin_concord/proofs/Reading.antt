-- What the free broker reads, as the pair of machines has it.
use Rattle.std.proofs.Common.{◌≡◌, ℕ, ◌-◌, ◌==◌, Bool, true, false, cond, ◌&&◌, nat_lt, nat_le, List, [], ◌∷◌, ◌++◌, map, refl, sym, ◌∙◌, ap, ap₂, subst, Option, Some, None, inl, inr, eq-eqb, arith}
use Rattle.std.proofs.lemmas.Bool.Decides.{eqb_tells, nat_tests}
use Rattle.lapin_types.specs.Types.{Frame}
use Rattle.lapin_tables.specs.ByChannel.{at_channel, on_channel}
use Rattle.lapin_broker.specs.declared.content.Content.{Content}
use Rattle.lapin_broker.specs.declared.content.Content.TheVariants as content
use Rattle.lapin_broker.specs.declared.request.Request.{Request}
use Rattle.lapin_broker.specs.declared.frames.ClientFrame.{ClientFrame}
use Rattle.lapin_broker.specs.declared.frames.ClientFrame.TheVariants as client
use Rattle.lapin_broker.specs.declared.peer.Connection.{Connection}
use Rattle.lapin_broker.specs.declared.peer.Connection.TheVariants as connection
use Rattle.lapin_broker.specs.declared.peer.Peer.{Peer}
use Rattle.lapin_broker.specs.declared.peer.Peer.TheVariants as peer
use Rattle.lapin_broker.specs.Contents.{of_size, is_idle}
use Rattle.lapin_broker.specs.Frames.{channel_of, client_frame}
use Rattle.lapin_broker.specs.States.{Channel, Broker, free_channel, channel_at, with_channel, after_break, is_up}
use Rattle.lapin_broker.specs.Reads.{is_connection_close, is_connection_close_ok, admits, content_after, with_next_number, number_on, with_piece, read_piece, breaks_in, begins_in, read_open, read_in, read_on, read_up, read_down, after_client_close, after_client_close_ok, read_sorted, read}
use Rattle.lapin_broker.specs.Sound.{IsReadOpen}
use Rattle.lapin_broker.proofs.SoundLaw.{read_keeps}
use Rattle.lapin_pairs.specs.Machine as pair
use Rattle.lapin_pairs.specs.Channel as kept
use Rattle.lapin_pairs.specs.Channel.{is_none}
use Rattle.lapin_pairs.specs.Every.{UpOn, OnU, CloseU, CloseOkU, conn_u, sides_after, put}
use Rattle.lapin_pairs.specs.Asking.{U2, Plain, SelectAsk, B2, read_flat, reads2b, flat, asking}
use Rattle.lapin_pairs.proofs.Pairs.{tight}
use Rattle.lapin_pairs.proofs.Erase.{map-append}
use Rattle.lapin_concord.specs.Frames.{number, up_kind, up_frame, IsSent}
use Rattle.lapin_concord.specs.Peers.{connection_as, peer_as, content_as, request_as, kept_as, reading_as, side_as, sides_as, IsBareIn, IsPart, IsReady}
use Rattle.lapin_concord.proofs.Sides.{chan, chan_with, chan_away, chan_on, chan_on_away, put_is, reading_here, reading_away}
use Rattle.lapin_tables.proofs.Bools.{and_second}

-- ---- contents

size_as : (n : ℕ) → content_as (of_size n) ≡ cond (n == 0) kept.Idle (kept.Left n)
size_as n = elim (n == 0) as (λ b. content_as (cond b content.Idle (content.Left n)) ≡ cond b kept.Idle (kept.Left n)) [ true ↦ refl | false ↦ refl ]

pub less_is : (n m : ℕ) → nat_le n m ≡ true → (m - n == 0) ≡ (n == m)
less_is n m h = grind (arith, nat_tests)

pub bytes_as : (n m : ℕ) → nat_le n m ≡ true → content_as (of_size (m - n)) ≡ cond (n == m) kept.Idle (kept.Left (m - n))
bytes_as n m h = size_as (m - n) ∙ ap (λ b. cond b kept.Idle (kept.Left (m - n))) (less_is n m h)

-- ---- one channel, while no content is being read on it

-- the broker's side of an own machine that reads a client's frame of that channel
abbrev pub small : ClientFrame → U2
small client.Open = Plain kept.FOpen
small client.Close = Plain kept.FClose
small client.CloseOk = Plain kept.FCloseOk
small client.Publish = Plain (kept.FPublish 0)
small (client.Header class size) = Plain (kept.FHeader size)
small (client.Body n) = Plain (kept.FBody n)
small (client.Select true) = SelectAsk
small (client.Select false) = Plain kept.FSelect
small (client.Ask k) = Plain (kept.FAsk (number k))
small _ = Plain kept.FTell

-- the content of the channel once it has read the frame
abbrev begun_by : Peer → ClientFrame → Option kept.Content
begun_by p u = Some (cond (begins_in p u) kept.Begun kept.Idle)

-- a channel, with this state and this content that is being read
abbrev pub as_side : Channel → Option kept.Content → B2
as_side x r = record { peer = peer_as x.peer; kept = kept_as x; reading = r }

waits_more : (x : Channel) (r : Request) → map request_as (x.waiting ++ r ∷ []) ≡ map request_as x.waiting ++ number r.kind ∷ []
waits_more x r = map-append request_as x.waiting (r ∷ [])

one_open : (f : Frame) (x : Channel) (u : ClientFrame) (most : ℕ) → x.peer ≡ peer.Open → IsSent most u → is_connection_close u ≡ false → is_connection_close_ok u ≡ false
    → pair.is_broken (read_flat (as_side x (Some kept.Idle)) (flat (small u))).peer ≡ false → is_none (read_flat (as_side x (Some kept.Idle)) (flat (small u))).reading ≡ false
    → (breaks_in peer.Open u ≡ false) × (as_side (read_open f x u) (begun_by peer.Open u) ≡ read_flat (as_side x (Some kept.Idle)) (flat (small u)))
one_open f x client.ConnectionClose most e s n m b r = cc
one_open f x client.ConnectionCloseOk most e s n m b r = cc
one_open f x client.Open most e s n m b r = let k : pair.is_broken (pair.read (peer_as x.peer) pair.UOpen) ≡ false = b in absurd (let j : true ≡ false = rw e at k in cc)
one_open f x client.Close most e s n m b r = (refl, rw e refl)
one_open f x client.CloseOk most e s n m b r = let k : pair.is_broken (pair.read (peer_as x.peer) pair.UCloseOk) ≡ false = b in absurd (let j : true ≡ false = rw e at k in cc)
one_open f x client.Publish most e s n m b r = (refl, rw e refl)
one_open f x (client.Header class size) most e s n m b r = absurd (let j : true ≡ false = rw e at r in cc)
one_open f x (client.Body size) most e s n m b r = absurd (let j : true ≡ false = rw e at r in cc)
one_open f x (client.Select true) most e s n m b r = (refl, rw e (ap (λ ws. record { peer = pair.Open; kept = record { asked_for = ws; content = content_as x.sending }; reading = Some kept.Idle }) (waits_more x _)))
one_open f x (client.Select false) most e s n m b r = (refl, rw e refl)
one_open f x (client.Ask k) most e s n m b r = (refl, rw e (ap (λ ws. record { peer = pair.Open; kept = record { asked_for = ws; content = content_as x.sending }; reading = Some kept.Idle }) (waits_more x _)))
one_open f x client.Consume most e s n m b r = (refl, rw e refl)
one_open f x client.Cancel most e s n m b r = (refl, rw e refl)
one_open f x client.Tell most e s n m b r = (refl, rw e refl)
one_open f x client.Other most e s n m b r = absurd s

-- in any other state
pub one_else : (p : Peer) (f : Frame) (x : Channel) (u : ClientFrame) (most : ℕ) → x.peer ≡ p → IsBareIn p x → IsSent most u → is_connection_close u ≡ false → is_connection_close_ok u ≡ false
    → pair.is_broken (read_flat (as_side x (Some kept.Idle)) (flat (small u))).peer ≡ false → is_none (read_flat (as_side x (Some kept.Idle)) (flat (small u))).reading ≡ false
    → (breaks_in p u ≡ false) × (as_side (read_in p f x u) (begun_by p u) ≡ read_flat (as_side x (Some kept.Idle)) (flat (small u)))
one_else peer.Open f x u most e h s n m b r = one_open f x u most e s n m b r
one_else peer.Free f x client.Open most e h s n m b r = (refl, rw e refl)
one_else peer.Free f x client.ConnectionClose most e h s n m b r = cc
one_else peer.Free f x client.ConnectionCloseOk most e h s n m b r = cc
one_else peer.Free f x (client.Select true) most e h s n m b r = let k : pair.is_broken (pair.read (pair.read (peer_as x.peer) pair.UOther) pair.UOther) ≡ false = b in absurd (let j : true ≡ false = rw e at k in cc)
one_else peer.Free f x client.Close most e h s n m b r = let k : pair.is_broken (pair.read (peer_as x.peer) pair.UClose) ≡ false = b in absurd (let j : true ≡ false = rw e at k in cc)
one_else peer.Free f x client.CloseOk most e h s n m b r = let k : pair.is_broken (pair.read (peer_as x.peer) pair.UCloseOk) ≡ false = b in absurd (let j : true ≡ false = rw e at k in cc)
one_else peer.Free f x client.Other most e h s n m b r = absurd s
one_else peer.Free f x _ most e h s n m b r = let k : pair.is_broken (pair.read (peer_as x.peer) pair.UOther) ≡ false = b in absurd (let j : true ≡ false = rw e at k in cc)
one_else peer.Asked f x u most e h s n m b r = absurd (broken_asked x u e n m s b)
  where
    broken_asked : (x : Channel) (u : ClientFrame) → x.peer ≡ peer.Asked → is_connection_close u ≡ false → is_connection_close_ok u ≡ false → IsSent most u → pair.is_broken (read_flat (as_side x (Some kept.Idle)) (flat (small u))).peer ≡ false → ⊥
    broken_asked x client.ConnectionClose e n m s b = cc
    broken_asked x client.ConnectionCloseOk e n m s b = cc
    broken_asked x (client.Select true) e n m s b = let k : pair.is_broken (pair.read (pair.read (peer_as x.peer) pair.UOther) pair.UOther) ≡ false = b in let j : true ≡ false = rw e at k in cc
    broken_asked x client.Open e n m s b = let k : pair.is_broken (pair.read (peer_as x.peer) pair.UOpen) ≡ false = b in let j : true ≡ false = rw e at k in cc
    broken_asked x client.Close e n m s b = let k : pair.is_broken (pair.read (peer_as x.peer) pair.UClose) ≡ false = b in let j : true ≡ false = rw e at k in cc
    broken_asked x client.CloseOk e n m s b = let k : pair.is_broken (pair.read (peer_as x.peer) pair.UCloseOk) ≡ false = b in let j : true ≡ false = rw e at k in cc
    broken_asked x _ e n m s b = let k : pair.is_broken (pair.read (peer_as x.peer) pair.UOther) ≡ false = b in let j : true ≡ false = rw e at k in cc
one_else peer.Leaving f x u most e h s n m b r = absurd (broken_leaving x u e n m s b)
  where
    broken_leaving : (x : Channel) (u : ClientFrame) → x.peer ≡ peer.Leaving → is_connection_close u ≡ false → is_connection_close_ok u ≡ false → IsSent most u → pair.is_broken (read_flat (as_side x (Some kept.Idle)) (flat (small u))).peer ≡ false → ⊥
    broken_leaving x client.ConnectionClose e n m s b = cc
    broken_leaving x client.ConnectionCloseOk e n m s b = cc
    broken_leaving x (client.Select true) e n m s b = let k : pair.is_broken (pair.read (pair.read (peer_as x.peer) pair.UOther) pair.UOther) ≡ false = b in let j : true ≡ false = rw e at k in cc
    broken_leaving x client.Open e n m s b = let k : pair.is_broken (pair.read (peer_as x.peer) pair.UOpen) ≡ false = b in let j : true ≡ false = rw e at k in cc
    broken_leaving x client.Close e n m s b = let k : pair.is_broken (pair.read (peer_as x.peer) pair.UClose) ≡ false = b in let j : true ≡ false = rw e at k in cc
    broken_leaving x client.CloseOk e n m s b = let k : pair.is_broken (pair.read (peer_as x.peer) pair.UCloseOk) ≡ false = b in let j : true ≡ false = rw e at k in cc
    broken_leaving x _ e n m s b = let k : pair.is_broken (pair.read (peer_as x.peer) pair.UOther) ≡ false = b in let j : true ≡ false = rw e at k in cc
one_else peer.Stopping f x client.Close most e h s n m b r = (refl, rw e refl)
one_else peer.Stopping f x client.CloseOk most e h s n m b r = (refl, rw (e, h.waiting, h.sending) refl)
one_else peer.Stopping f x client.ConnectionClose most e h s n m b r = cc
one_else peer.Stopping f x client.ConnectionCloseOk most e h s n m b r = cc
one_else peer.Stopping f x (client.Select true) most e h s n m b r = (refl, rw e refl)
one_else peer.Stopping f x (client.Select false) most e h s n m b r = (refl, rw e refl)
one_else peer.Stopping f x _ most e h s n m b r = (refl, rw e refl)
one_else peer.StoppingOwes f x client.CloseOk most e h s n m b r = (refl, rw e refl)
one_else peer.StoppingOwes f x client.ConnectionClose most e h s n m b r = cc
one_else peer.StoppingOwes f x client.ConnectionCloseOk most e h s n m b r = cc
one_else peer.StoppingOwes f x (client.Select true) most e h s n m b r = (refl, rw e refl)
one_else peer.StoppingOwes f x (client.Select false) most e h s n m b r = (refl, rw e refl)
one_else peer.StoppingOwes f x _ most e h s n m b r = (refl, rw e refl)
one_else peer.StoppingAnswered f x client.ConnectionClose most e h s n m b r = cc
one_else peer.StoppingAnswered f x client.ConnectionCloseOk most e h s n m b r = cc
one_else peer.StoppingAnswered f x (client.Select true) most e h s n m b r = (refl, rw e refl)
one_else peer.StoppingAnswered f x (client.Select false) most e h s n m b r = (refl, rw e refl)
one_else peer.StoppingAnswered f x _ most e h s n m b r = (refl, rw e refl)

-- ---- the next piece of a content

-- a header or a body
abbrev pub is_piece : ClientFrame → Bool
is_piece (client.Header class size) = true
is_piece (client.Body n) = true
is_piece _ = false

pub record Piece (most : ℕ) (x : Channel) (y : Content) (u : ClientFrame) : Type 0 where
  pub taken : admits most y u ≡ true
  pub same : as_side x (Some (content_as (content_after y u))) ≡ read_flat (as_side x (Some (content_as y))) (flat (small u))

pub piece : (most : ℕ) (x : Channel) (y : Content) (u : ClientFrame) → x.peer ≡ peer.Open → is_piece u ≡ true → IsSent most u → is_idle y ≡ false → is_none (read_flat (as_side x (Some (content_as y))) (flat (small u))).reading ≡ false → Piece most x y u
piece most x content.Begun (client.Header class size) e p s i r = record { taken = rw s refl; same = rw e (ap (λ c. record { peer = pair.Open; kept = kept_as x; reading = Some c }) (size_as size)) }
piece most x (content.Left m) (client.Header class size) e p s i r = absurd (let j : true ≡ false = rw e at r in cc)
piece most x content.Begun (client.Body n) e p s i r = absurd (let j : true ≡ false = rw e at r in cc)
piece most x (content.Left m) (client.Body n) e p s i r = part (nat_lt 0 n && nat_le n m) refl
  where
    part : (t : Bool) → (nat_lt 0 n && nat_le n m) ≡ t → Piece most x (content.Left m) (client.Body n)
    part true t =
        let le : nat_le n m ≡ true = and_second (nat_lt 0 n) (nat_le n m) t in
        let fits : nat_le n (most - 8) ≡ true = grind (arith, nat_tests) in
        record {
          taken = rw (t, fits) refl;
          same = rw (e, t) (ap (λ c. record { peer = pair.Open; kept = kept_as x; reading = Some c }) (bytes_as n m le));
        }
    part false t = absurd (let j : true ≡ false = rw (e, t) at r in cc)
piece most x content.Idle u e p s i r = absurd cc
piece most x content.Begun _ e p s i r = cc
piece most x (content.Left m) _ e p s i r = cc

-- ---- what is bare stays so

bare_at : (p : Peer) (x y : Channel) → y.peer ≡ p → IsBareIn p y → IsBareIn y.peer y
bare_at p x y e h = subst (λ q. IsBareIn q y) (sym e) h

bare_open : (f : Frame) (x : Channel) (u : ClientFrame) → x.peer ≡ peer.Open → IsBareIn (read_open f x u).peer (read_open f x u)
bare_open f x client.Close e = tt
bare_open f x (client.Select true) e = bare_at peer.Open x _ e tt
bare_open f x (client.Select false) e = bare_at peer.Open x _ e tt
bare_open f x (client.Ask k) e = bare_at peer.Open x _ e tt
bare_open f x client.Consume e = bare_at peer.Open x _ e tt
bare_open f x client.Cancel e = bare_at peer.Open x _ e tt
bare_open f x _ e = bare_at peer.Open x _ e tt

bare_read : (p : Peer) (f : Frame) (x : Channel) (u : ClientFrame) → x.peer ≡ p → IsBareIn p x → IsBareIn (read_in p f x u).peer (read_in p f x u)
bare_read peer.Open f x u e h = bare_open f x u e
bare_read peer.Free f x client.Open e h = record { waiting = h.waiting; sending = h.sending }
bare_read peer.Free f x _ e h = bare_at peer.Free x x e h
bare_read peer.Asked f x u e h = bare_at peer.Asked x x e h
bare_read peer.Leaving f x u e h = bare_at peer.Leaving x x e h
bare_read peer.Stopping f x client.Close e h = record { waiting = h.waiting; sending = h.sending }
bare_read peer.Stopping f x client.CloseOk e h = record { waiting = refl; sending = refl }
bare_read peer.Stopping f x _ e h = bare_at peer.Stopping x x e h
bare_read peer.StoppingOwes f x client.CloseOk e h = record { waiting = h.waiting; sending = h.sending }
bare_read peer.StoppingOwes f x _ e h = bare_at peer.StoppingOwes x x e h
bare_read peer.StoppingAnswered f x u e h = bare_at peer.StoppingAnswered x x e h

-- ---- the whole broker

abbrev Bares : List (ℕ × Channel) → Type 0
Bares es = (c : ℕ) → IsBareIn (chan c es).peer (chan c es)

bares_with : (c : ℕ) (y : Channel) (es : List (ℕ × Channel)) → IsBareIn y.peer y → Bares es → Bares (with_channel c y es)
bares_with c y es h k e = elim (eqb_tells c e) [
  | inl s ↦ subst (λ (z : Channel). IsBareIn z.peer z) (sym (ap (λ n. chan n (with_channel c y es)) (sym s.1) ∙ chan_with c y es)) h
  | inr n ↦ subst (λ (z : Channel). IsBareIn z.peer z) (sym (chan_away c e y es n.0)) (k e)
]

bares_on : (c : ℕ) (g : Channel → Channel) (es : List (ℕ × Channel)) → (at_channel c es ≡ None → g free_channel ≡ free_channel) → IsBareIn (g (chan c es)).peer (g (chan c es)) → Bares es → Bares (on_channel c g es)
bares_on c g es n h k e = elim (eqb_tells c e) [
  | inl s ↦ subst (λ (z : Channel). IsBareIn z.peer z) (sym (ap (λ m. chan m (on_channel c g es)) (sym s.1) ∙ chan_on c g es n)) h
  | inr m ↦ subst (λ (z : Channel). IsBareIn z.peer z) (sym (chan_on_away c e g es m.0)) (k e)
]

begun_here : (c : ℕ) (t : Bool) → reading_as c (cond t (Some (c, content.Begun)) None) ≡ Some (cond t kept.Begun kept.Idle)
begun_here c true = reading_here c content.Begun
begun_here c false = refl

begun_away : (c e : ℕ) (t : Bool) → (c == e) ≡ false → reading_as e (cond t (Some (c, content.Begun)) None) ≡ Some kept.Idle
begun_away c e true n = reading_away c e content.Begun n
begun_away c e false n = refl

-- what a frame of a channel leaves, while the connection is up
record ReadUp (c : ℕ) (u : ClientFrame) (b d : Broker) : Type 0 where
  up : d.connection ≡ b.connection
  sides : sides_as d ≡ put c (reads2b (sides_as b c) (small u)) (sides_as b)
  part : IsPart d.reading
  bare : Bares d.channels

-- while no content is being read
read_none : (c : ℕ) (f : Frame) (u : ClientFrame) (b : Broker) → b.reading ≡ None → IsSent b.frame_max u → is_connection_close u ≡ false → is_connection_close_ok u ≡ false → IsReady b
    → pair.is_broken (reads2b (sides_as b c) (small u)).peer ≡ false → is_none (reads2b (sides_as b c) (small u)).reading ≡ false → ReadUp c u b (read_on c f u b)
read_none c f u b n s h k g w r =
    let x : Channel = channel_at b c in
    let p : Peer = x.peer in
    let y : Channel = read_in p f x u in
    let t : Bool = begins_in p u in
    let here : sides_as b c ≡ as_side x (Some kept.Idle) = ap (side_as c x) n in
    let one = one_else p f x u b.frame_max refl (g.bare c) s h k (ap (λ (q : B2). pair.is_broken (reads2b q (small u)).peer) (sym here) ∙ w) (ap (λ (q : B2). is_none (reads2b q (small u)).reading) (sym here) ∙ r) in
    let reading : Option (ℕ × Content) = cond t (Some (c, content.Begun)) b.reading in
    let d : Broker = record b { channels = with_channel c y b.channels; reading = reading } in
    let is : read_on c f u b ≡ d = ap (λ z. cond z (after_break b) d) one.0 in
    let o : reading ≡ cond t (Some (c, content.Begun)) None = ap (cond t (Some (c, content.Begun))) n in
    subst (ReadUp c u b) (sym is) (record {
      up = refl;
      sides = put_is c (reads2b (sides_as b c) (small u)) (sides_as d) (sides_as b)
          (ap₂ (side_as c) (chan_with c y b.channels) o ∙ (ap (as_side y) (begun_here c t) ∙ (one.1 ∙ ap (λ (q : B2). reads2b q (small u)) (sym here))))
          (λ e m. ap₂ (side_as e) (chan_away c e y b.channels m) o ∙ (ap (as_side (channel_at b e)) (begun_away c e t m) ∙ ap (side_as e (channel_at b e)) (sym n)));
      part = subst IsPart (sym o) (part t);
      bare = bares_with c y b.channels (bare_read p f x u refl (g.bare c)) g.bare;
    })
  where
    part : (t : Bool) → IsPart (cond t (Some (c, content.Begun)) None)
    part true = refl
    part false = tt

idle_as : (z : Content) → is_idle z ≡ true → content_as z ≡ kept.Idle
idle_as content.Idle h = refl
idle_as content.Begun h = cc
idle_as (content.Left n) h = cc

numbered_side : (x : Channel) (r : Option kept.Content) → as_side (with_next_number x) r ≡ as_side x r
numbered_side x r = elim x.selected as (λ t. as_side (cond t (record x { numbers = x.numbers ++ Some tt ∷ [] }) x) r ≡ as_side x r) [ true ↦ refl | false ↦ refl ]

pub numbered_peer : (x : Channel) → (with_next_number x).peer ≡ x.peer
numbered_peer x = elim x.selected as (λ t. (cond t (record x { numbers = x.numbers ++ Some tt ∷ [] }) x).peer ≡ x.peer) [ true ↦ refl | false ↦ refl ]

-- while a content is being read on the channel
read_some : (c : ℕ) (u : ClientFrame) (z : Content) (b : Broker) → b.reading ≡ Some (c, z) → is_piece u ≡ true → IsSent b.frame_max u → IsReady b
    → is_none (reads2b (sides_as b c) (small u)).reading ≡ false → ReadUp c u b (read_piece c z u b)
read_some c u z b n i s g r =
    let x : Channel = channel_at b c in
    let o : x.peer ≡ peer.Open = subst (IsReadOpen b.channels) n g.sound in
    let m : is_idle z ≡ false = partly b.reading n g.part in
    let here : sides_as b c ≡ as_side x (Some (content_as z)) = ap (side_as c x) n ∙ ap (as_side x) (reading_here c z) in
    let y = piece b.frame_max x z u o i s m (ap (λ (q : B2). is_none (reads2b q (small u)).reading) (sym here) ∙ r) in
    let taken : read_piece c z u b ≡ with_piece c (content_after z u) b = ap (λ t. cond t (with_piece c (content_after z u) b) (after_break b)) y.taken in
    let same : as_side x (Some (content_as (content_after z u))) ≡ reads2b (sides_as b c) (small u) = y.same ∙ ap (λ (q : B2). reads2b q (small u)) (sym here) in
    subst (ReadUp c u b) (sym taken) (after (content_after z u) (is_idle (content_after z u)) refl o same)
  where
    partly : (q : Option (ℕ × Content)) → q ≡ Some (c, z) → IsPart q → is_idle z ≡ false
    partly q e h = subst IsPart e h

    after : (v : Content) (t : Bool) → is_idle v ≡ t → (channel_at b c).peer ≡ peer.Open → as_side (channel_at b c) (Some (content_as v)) ≡ reads2b (sides_as b c) (small u) → ReadUp c u b (with_piece c v b)
    after v true t o same =
        let x : Channel = channel_at b c in
        let d : Broker = record (number_on c b) { reading = None } in
        let free : at_channel c b.channels ≡ None → with_next_number free_channel ≡ free_channel = λ _. refl in
        subst (ReadUp c u b) (sym (ap (λ q. cond q d (record b { reading = Some (c, v) })) t)) (record {
          up = refl;
          sides = put_is c (reads2b (sides_as b c) (small u)) (sides_as d) (sides_as b)
              (ap (λ w. side_as c w None) (chan_on c with_next_number b.channels free) ∙ (numbered_side x (Some kept.Idle) ∙ (ap (λ k. as_side x (Some k)) (sym (idle_as v t)) ∙ same)))
              (λ e m. ap (λ w. side_as e w None) (chan_on_away c e with_next_number b.channels m) ∙ (ap (as_side (channel_at b e)) (sym (reading_away c e z m)) ∙ ap (side_as e (channel_at b e)) (sym n)));
          part = tt;
          bare = bares_on c with_next_number b.channels free (bare_at peer.Open x (with_next_number x) (numbered_peer x ∙ o) tt) g.bare;
        })
    after v false t o same =
        let d : Broker = record b { reading = Some (c, v) } in
        subst (ReadUp c u b) (sym (ap (λ q. cond q (record (number_on c b) { reading = None }) d) t)) (record {
          up = refl;
          sides = put_is c (reads2b (sides_as b c) (small u)) (sides_as d) (sides_as b)
              (ap (as_side (channel_at b c)) (reading_here c v) ∙ same)
              (λ e m. ap (as_side (channel_at b e)) (reading_away c e v m ∙ sym (reading_away c e z m)) ∙ ap (side_as e (channel_at b e)) (sym n));
          part = t;
          bare = g.bare;
        })

-- ---- the connection

client_closes : (p : Connection) → pair.is_broken (tight (connection_as p) pair.UClose) ≡ false → connection_as (after_client_close p) ≡ pair.read (connection_as p) pair.UClose
client_closes connection.Up h = refl
client_closes connection.Stopped h = refl
client_closes _ h = cc

client_answers : (p : Connection) → pair.is_broken (tight (connection_as p) pair.UCloseOk) ≡ false → connection_as (after_client_close_ok p) ≡ pair.read (connection_as p) pair.UCloseOk
client_answers connection.Stopped h = refl
client_answers connection.StoppedOwes h = refl
client_answers _ h = cc

-- any other frame
record ReadElse (p : Connection) : Type 0 where
  same : (b : Broker) → b.connection ≡ p → is_up p ≡ false → read_down b ≡ b
  conn : connection_as p ≡ pair.read (connection_as p) pair.UOther
  open_up : connection_as p ≡ pair.Open → is_up p ≡ true

reads_else : (p : Connection) → pair.is_broken (tight (connection_as p) pair.UOther) ≡ false → ReadElse p
reads_else connection.Up h = record { same = λ b e u. cc; conn = refl; open_up = λ _. refl }
reads_else connection.Stopped h = record { same = λ b e u. rw e refl; conn = refl; open_up = λ k. cc }
reads_else _ h = cc

-- ---- any frame

-- the frame is the next piece of the content that is being read, if one is
abbrev pub IsPlaced : Option (ℕ × Content) → ℕ → ClientFrame → Type 0
IsPlaced None c u = Unit {0}
IsPlaced (Some r) c u = (r.0 ≡ c) × (is_piece u ≡ true)

pub record MayRead (b : Broker) (c : ℕ) (u : ClientFrame) : Type 0 where
  pub ready : IsReady b
  pub tight_ : pair.is_broken (tight (connection_as b.connection) (conn_u (up_kind c u))) ≡ false
  pub whole : connection_as b.connection ≡ pair.Open → (e : ℕ) (v : U2) → up_kind c u ≡ OnU e v → (pair.is_broken (reads2b (sides_as b e) v).peer ≡ false) × (is_none (reads2b (sides_as b e) v).reading ≡ false)
  pub sent : IsSent b.frame_max u
  pub placed : connection_as b.connection ≡ pair.Open → (e : ℕ) (v : U2) → up_kind c u ≡ OnU e v → IsPlaced b.reading c u

pub record ReadsAs (b : Broker) (f : Frame) (d : Broker) : Type 0 where
  pub conn : connection_as d.connection ≡ pair.read (connection_as b.connection) (conn_u (up_frame f))
  pub sides : sides_as d ≡ sides_after asking (connection_as b.connection) (sides_as b) (up_frame f)
  pub part : IsPart d.reading
  pub bare : (c : ℕ) → IsBareIn (channel_at d c).peer (channel_at d c)

pub up_small : (c : ℕ) (u : ClientFrame) → is_connection_close u ≡ false → is_connection_close_ok u ≡ false → up_kind c u ≡ OnU c (small u)
up_small c client.ConnectionClose h k = cc
up_small c client.ConnectionCloseOk h k = cc
up_small c (client.Select true) h k = refl
up_small c (client.Select false) h k = refl
up_small c _ h k = refl

-- any frame but the connection's close and close-ok
reads_on : (f : Frame) (c : ℕ) (u : ClientFrame) (b : Broker) → channel_of f ≡ c → client_frame f ≡ u → up_kind c u ≡ OnU c (small u) → is_connection_close u ≡ false → is_connection_close_ok u ≡ false → MayRead b c u → ReadsAs b f (cond (is_up b.connection) (read_up b.reading c f u b) (read_down b))
reads_on f c u b ec eu k n m h =
    let t : pair.is_broken (tight (connection_as b.connection) pair.UOther) ≡ false = ap (λ q. pair.is_broken (tight (connection_as b.connection) (conn_u q))) (sym k) ∙ h.tight_ in
    let i = reads_else b.connection t in
    let j : up_frame f ≡ OnU c (small u) = ap₂ up_kind ec eu ∙ k in
    up (is_up b.connection) refl i j
  where
    open_of : (p : Connection) → is_up p ≡ true → connection_as p ≡ pair.Open
    open_of connection.Up h = refl
    open_of connection.Leaving h = cc
    open_of connection.Stopped h = cc
    open_of connection.StoppedOwes h = cc
    open_of connection.LeavingStopped h = cc
    open_of connection.Done h = cc
    open_of connection.Broken h = cc

    by_reading : (r : Option (ℕ × Content)) → b.reading ≡ r → connection_as b.connection ≡ pair.Open → ReadUp c u b (read_up r c f u b)
    by_reading None e o = let w = h.whole o c (small u) k in read_none c f u b e h.sent n m h.ready w.0 w.1
    by_reading (Some r) e o =
        let w = h.whole o c (small u) k in
        let q : (r.0 ≡ c) × (is_piece u ≡ true) = subst (λ x. IsPlaced x c u) e (h.placed o c (small u) k) in
        let y : b.reading ≡ Some (c, r.1) = e ∙ ap (λ d. Some (d, r.1)) q.0 in
        let z : (r.0 == c) ≡ true = eq-eqb r.0 c q.0 in
        subst (ReadUp c u b) (sym (ap (λ x. cond x (read_piece c r.1 u b) (after_break b)) z)) (read_some c u r.1 b y q.1 h.sent h.ready w.1)

    as_up : (d : Broker) → connection_as b.connection ≡ pair.Open → up_frame f ≡ OnU c (small u) → ReadUp c u b d → ReadsAs b f d
    as_up d o j x = record {
      conn = ap connection_as x.up ∙ (o ∙ (ap (λ q. pair.read q pair.UOther) (sym o) ∙ ap (λ q. pair.read (connection_as b.connection) (conn_u q)) (sym j)));
      sides = x.sides ∙ (ap (λ q. sides_after asking q (sides_as b) (OnU c (small u))) (sym o) ∙ ap (sides_after asking (connection_as b.connection) (sides_as b)) (sym j));
      part = x.part;
      bare = x.bare;
    }

    down_sides : (p : pair.Peer) (g : ℕ → B2) (q : UpOn U2) → (p ≡ pair.Open → ⊥) → g ≡ sides_after asking p g q
    down_sides pair.Open g q n = absurd (n refl)
    down_sides _ g (OnU e v) n = refl
    down_sides _ g CloseU n = refl
    down_sides _ g CloseOkU n = refl

    up : (t : Bool) → is_up b.connection ≡ t → ReadElse b.connection → up_frame f ≡ OnU c (small u) → ReadsAs b f (cond (is_up b.connection) (read_up b.reading c f u b) (read_down b))
    up true e i j = let o = open_of b.connection e in subst (ReadsAs b f) (sym (ap (λ q. cond q (read_up b.reading c f u b) (read_down b)) e)) (as_up (read_up b.reading c f u b) o j (by_reading b.reading refl o))
    up false e i j = subst (ReadsAs b f) (sym (ap (λ q. cond q (read_up b.reading c f u b) (read_down b)) e ∙ i.same b refl e)) (record {
      conn = i.conn ∙ ap (λ q. pair.read (connection_as b.connection) (conn_u q)) (sym j);
      sides = down_sides (connection_as b.connection) (sides_as b) (up_frame f) (λ o. let x : true ≡ false = sym (i.open_up o) ∙ e in cc);
      part = h.ready.part;
      bare = h.ready.bare;
    })

reads_sorted : (f : Frame) (c : ℕ) (u : ClientFrame) (b : Broker) → channel_of f ≡ c → client_frame f ≡ u → MayRead b c u → ReadsAs b f (read_sorted c f u b)
reads_sorted f c client.ConnectionClose b ec eu h =
    let j : up_frame f ≡ CloseU = ap₂ up_kind ec eu in
    record {
      conn = client_closes b.connection h.tight_ ∙ ap (λ q. pair.read (connection_as b.connection) (conn_u q)) (sym j);
      sides = still (connection_as b.connection) (sides_as b) ∙ ap (sides_after asking (connection_as b.connection) (sides_as b)) (sym j);
      part = h.ready.part;
      bare = h.ready.bare;
    }
  where
    still : (p : pair.Peer) (g : ℕ → B2) → g ≡ sides_after asking p g CloseU
    still pair.Open g = refl
    still _ g = refl
reads_sorted f c client.ConnectionCloseOk b ec eu h =
    let j : up_frame f ≡ CloseOkU = ap₂ up_kind ec eu in
    record {
      conn = client_answers b.connection h.tight_ ∙ ap (λ q. pair.read (connection_as b.connection) (conn_u q)) (sym j);
      sides = still (connection_as b.connection) (sides_as b) ∙ ap (sides_after asking (connection_as b.connection) (sides_as b)) (sym j);
      part = h.ready.part;
      bare = h.ready.bare;
    }
  where
    still : (p : pair.Peer) (g : ℕ → B2) → g ≡ sides_after asking p g CloseOkU
    still pair.Open g = refl
    still _ g = refl
reads_sorted f c (client.Select true) b ec eu h = reads_on f c (client.Select true) b ec eu refl refl refl h
reads_sorted f c (client.Select false) b ec eu h = reads_on f c (client.Select false) b ec eu refl refl refl h
reads_sorted f c client.Open b ec eu h = reads_on f c client.Open b ec eu refl refl refl h
reads_sorted f c client.Close b ec eu h = reads_on f c client.Close b ec eu refl refl refl h
reads_sorted f c client.CloseOk b ec eu h = reads_on f c client.CloseOk b ec eu refl refl refl h
reads_sorted f c client.Publish b ec eu h = reads_on f c client.Publish b ec eu refl refl refl h
reads_sorted f c (client.Header class size) b ec eu h = reads_on f c (client.Header class size) b ec eu refl refl refl h
reads_sorted f c (client.Body n) b ec eu h = reads_on f c (client.Body n) b ec eu refl refl refl h
reads_sorted f c (client.Ask k) b ec eu h = reads_on f c (client.Ask k) b ec eu refl refl refl h
reads_sorted f c client.Consume b ec eu h = reads_on f c client.Consume b ec eu refl refl refl h
reads_sorted f c client.Cancel b ec eu h = reads_on f c client.Cancel b ec eu refl refl refl h
reads_sorted f c client.Tell b ec eu h = reads_on f c client.Tell b ec eu refl refl refl h
reads_sorted f c client.Other b ec eu h = reads_on f c client.Other b ec eu refl refl refl h

-- the free broker reads a frame as the pair of machines does, and is as ready as before
pub reads_as : (b : Broker) (f : Frame) → MayRead b (channel_of f) (client_frame f) → ReadsAs b f (read b f) × IsReady (read b f)
reads_as b f h = let r = reads_sorted f (channel_of f) (client_frame f) b refl refl h in (r, record { sound = read_keeps b f h.ready.sound; part = r.part; bare = r.bare })
