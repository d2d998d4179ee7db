-- What the free broker may send, and what it does then, as the pair of machines has it.
use Rattle.std.proofs.Common.{◌≡◌, ℕ, ◌==◌, Bool, true, false, cond, ◌&&◌, nat_lt, nat_le, List, [], ◌∷◌, map, drop, refl, sym, ◌∙◌, ap, ap₂, subst, Option, Some, None, inl, inr}
use Rattle.std.proofs.lemmas.Bool.Decides.{eqb_tells}
use Rattle.lapin_types.specs.Types.{Frame}
use Rattle.lapin_tables.specs.ByChannel.{at_channel, on_channel}
use Rattle.lapin_broker.specs.declared.content.Content.{Content}
use Rattle.lapin_broker.specs.declared.content.Content.TheVariants as content
use Rattle.lapin_broker.specs.declared.request.RequestKind.{RequestKind}
use Rattle.lapin_broker.specs.declared.request.RequestKind.TheVariants as kind
use Rattle.lapin_broker.specs.declared.request.Request.{Request}
use Rattle.lapin_broker.specs.declared.frames.BrokerFrame.{BrokerFrame}
use Rattle.lapin_broker.specs.declared.frames.BrokerFrame.TheVariants as broker
use Rattle.lapin_broker.specs.declared.peer.Connection.{Connection}
use Rattle.lapin_broker.specs.declared.peer.Connection.TheVariants as connection
use Rattle.lapin_broker.specs.declared.peer.Peer.{Peer}
use Rattle.lapin_broker.specs.declared.peer.Peer.TheVariants as peer
use Rattle.lapin_broker.specs.Contents.{of_size, without_bytes, takes_header, takes_body, is_idle}
use Rattle.lapin_broker.specs.Requests.{same_kind}
use Rattle.lapin_broker.specs.Frames.{channel_of, tag_of, broker_frame}
use Rattle.lapin_broker.specs.States.{Channel, Broker, free_channel, channel_in, channel_at, is_up, owes_connection}
use Rattle.lapin_broker.specs.Sends.{is_close, none_waits, first_is, may_open, may_in, may_sorted, may, after_send, send_on, is_read_on, after_own_close_ok, send_sorted, send}
use Rattle.lapin_broker.proofs.SoundLaw.{send_keeps}
use Rattle.lapin_pairs.specs.Machine as pair
use Rattle.lapin_pairs.specs.Channel as kept
use Rattle.lapin_pairs.specs.Channel.{DownF, may_data, starts_with, tail}
use Rattle.lapin_pairs.specs.Every.{ToD, CloseD, CloseOkD, conn_d, may_a, sides_sent}
use Rattle.lapin_pairs.specs.Asking.{B2, may2, gives2, asking}
use Rattle.lapin_concord.specs.Frames.{number, down_kind, down_frame, IsGiven}
use Rattle.lapin_concord.specs.Peers.{connection_as, peer_as, content_as, request_as, kept_as, reading_as, sides_as, IsBareIn, IsPart, IsReady}
use Rattle.lapin_concord.proofs.Sides.{chan, chan_on, chan_on_away, put_is}
use Rattle.lapin_concord.proofs.Numbering.{above}
use Rattle.lapin_concord.proofs.Reading.{bytes_as}
use Rattle.lapin_tables.proofs.Bools.{and_first, and_second}

-- ---- kinds of requests

pub same_number : (a b : RequestKind) → same_kind a b ≡ true → (number a == number b) ≡ true
same_number kind.Select kind.Select h = refl
same_number kind.Flow kind.Flow h = refl
same_number kind.Access kind.Access h = refl
same_number kind.ExchangeDeclare kind.ExchangeDeclare h = refl
same_number kind.ExchangeDelete kind.ExchangeDelete h = refl
same_number kind.ExchangeBind kind.ExchangeBind h = refl
same_number kind.ExchangeUnbind kind.ExchangeUnbind h = refl
same_number kind.QueueDeclare kind.QueueDeclare h = refl
same_number kind.QueueBind kind.QueueBind h = refl
same_number kind.QueuePurge kind.QueuePurge h = refl
same_number kind.QueueDelete kind.QueueDelete h = refl
same_number kind.QueueUnbind kind.QueueUnbind h = refl
same_number kind.Qos kind.Qos h = refl
same_number kind.Consume kind.Consume h = refl
same_number kind.Cancel kind.Cancel h = refl
same_number kind.Get kind.Get h = refl
same_number kind.Recover kind.Recover h = refl
same_number kind.TxSelect kind.TxSelect h = refl
same_number kind.TxCommit kind.TxCommit h = refl
same_number kind.TxRollback kind.TxRollback h = refl
same_number _ _ h = cc

first_as : (k : RequestKind) (rs : List Request) → first_is k rs ≡ true → starts_with (number k) (map request_as rs) ≡ true
first_as k [] h = cc
first_as k (r ∷ rs) h = same_number r.kind k h

tail_as : (rs : List Request) → map request_as (drop 1 rs) ≡ tail (map request_as rs)
tail_as [] = refl
tail_as (r ∷ rs) = refl

none_as : (rs : List Request) → none_waits rs ≡ true → kept.is_empty (map request_as rs) ≡ true
none_as [] h = refl
none_as (r ∷ rs) h = cc

idle_too : (x : Content) → is_idle x ≡ true → kept.is_idle (content_as x) ≡ true
idle_too content.Idle h = refl
idle_too content.Begun h = cc
idle_too (content.Left n) h = cc

-- ---- one channel

-- a channel without the content that is being read
abbrev as_side : Channel → Option kept.Content → B2
as_side x r = record { peer = peer_as x.peer; kept = kept_as x; reading = r }

-- a frame on a channel, by what it is
abbrev pub low : BrokerFrame → DownF
low broker.OpenOk = kept.BOpenOk
low broker.Close = kept.BClose
low broker.CloseOk = kept.BCloseOk
low (broker.Reply k) = kept.BReply (number k) false
low broker.ConsumeOk = kept.BReply (number kind.Consume) false
low broker.CancelOk = kept.BReply (number kind.Cancel) false
low broker.GetOk = kept.BReply (number kind.Get) true
low (broker.Settle n multiple) = kept.BSettle (record { tag = n; multiple = multiple })
low broker.Deliver = kept.BStart
low broker.Return = kept.BStart
low (broker.Header class size) = kept.BHeader size
low (broker.Body n) = kept.BBody n
low _ = kept.BTell

-- what the own machine may send, and what it keeps then
pub record Gives (x y : Channel) (d : BrokerFrame) : Type 0 where
  may : (r : Option kept.Content) → may2 (as_side x r) (low d) ≡ true
  kept : (r : Option kept.Content) → gives2 (as_side x r) (low d) ≡ as_side y (kept.reading_after (low d) r)
  bare : IsBareIn y.peer y
  given : IsGiven d
  pub named : (c : ℕ) → down_kind c d ≡ ToD c (low d)

-- of a channel in that state, with this list of numbers of requests, and this content
abbrev State : pair.Peer → List ℕ → kept.Content → Option kept.Content → B2
State p ws z r = record { peer = p; kept = record { asked_for = ws; content = z }; reading = r }

bare_by : (p : Peer) (x : Channel) → x.peer ≡ p → IsBareIn p x → IsBareIn x.peer x
bare_by p x e h = subst (λ q. IsBareIn q x) (sym e) h

-- an open or leaving channel sends anything but closes and their answers
record Serves (p : Peer) : Type 0 where
  sends : pair.may_send (peer_as p) pair.DOther ≡ true
  stays : pair.sent (peer_as p) pair.DOther ≡ peer_as p
  free : (x : Channel) → IsBareIn p x

open_serves : Serves peer.Open
open_serves = record { sends = refl; stays = refl; free = λ x. tt }

leaving_serves : Serves peer.Leaving
leaving_serves = record { sends = refl; stays = refl; free = λ x. tt }

idle_of : (x : Channel) (t : Bool) → (is_idle x.sending && t) ≡ true → kept.is_idle (content_as x.sending) ≡ true
idle_of x t h = idle_too x.sending (and_first (is_idle x.sending) t h)

body_left : (n : ℕ) (z : Content) → takes_body n z ≡ true → (kept.may_body n (content_as z) ≡ true) × (kept.after_body n (content_as z) ≡ content_as (without_bytes n z))
body_left n content.Idle h = cc
body_left n content.Begun h = cc
body_left n (content.Left m) h = (h, sym (bytes_as n m (and_second (nat_lt 0 n) (nat_le n m) h)))

header_left : (class size : ℕ) (z : Content) → takes_header class z ≡ true → (class ≡ 60) × (kept.may_header (content_as z) ≡ true)
header_left class size content.Idle h = cc
header_left class size (content.Left m) h = cc
header_left class size content.Begun h = (elim (eqb_tells class 60) [ inl y ↦ y.1 | inr n ↦ let j : true ≡ false = sym h ∙ n.0 in absurd cc ], refl)

size_left : (n : ℕ) → kept.after_header n ≡ content_as (of_size n)
size_left n = elim (n == 0) as (λ b. cond b kept.Idle (kept.Left n) ≡ content_as (cond b content.Idle (content.Left n))) [ true ↦ refl | false ↦ refl ]

serve : (p : Peer) (t : List ℕ) (x : Channel) (d : BrokerFrame) → x.peer ≡ p → Serves p → may_open x t d ≡ true → Gives x (after_send t d x) d
serve p t x (broker.Reply k) e s m =
    let i = idle_of x _ m in
    let f = first_as k x.waiting (and_second (is_idle x.sending) _ m) in
    record {
      may = λ r. rw (e, s.sends, i, f) refl;
      kept = λ r. rw (e, s.stays) (ap (λ ws. State (peer_as p) ws (content_as x.sending) r) (sym (tail_as x.waiting)));
      bare = bare_by p _ e (s.free _);
      given = tt;
      named = λ c. refl;
    }
serve p t x broker.ConsumeOk e s m =
    let i = idle_of x _ m in
    let f = first_as kind.Consume x.waiting (and_first (first_is kind.Consume x.waiting) _ (and_second (is_idle x.sending) _ m)) in
    record {
      may = λ r. rw (e, s.sends, i, f) refl;
      kept = λ r. rw (e, s.stays) (ap (λ ws. State (peer_as p) ws (content_as x.sending) r) (sym (tail_as x.waiting)));
      bare = bare_by p _ e (s.free _);
      given = tt;
      named = λ c. refl;
    }
serve p t x broker.CancelOk e s m =
    let i = idle_of x _ m in
    let f = first_as kind.Cancel x.waiting (and_first (first_is kind.Cancel x.waiting) _ (and_second (is_idle x.sending) _ m)) in
    record {
      may = λ r. rw (e, s.sends, i, f) refl;
      kept = λ r. rw (e, s.stays) (ap (λ ws. State (peer_as p) ws (content_as x.sending) r) (sym (tail_as x.waiting)));
      bare = bare_by p _ e (s.free _);
      given = tt;
      named = λ c. refl;
    }
serve p t x broker.GetOk e s m =
    let i = idle_of x _ m in
    let f = first_as kind.Get x.waiting (and_second (is_idle x.sending) _ m) in
    record {
      may = λ r. rw (e, s.sends, i, f) refl;
      kept = λ r. rw (e, s.stays) (ap (λ ws. State (peer_as p) ws kept.Begun r) (sym (tail_as x.waiting)));
      bare = bare_by p _ e (s.free _);
      given = tt;
      named = λ c. refl;
    }
serve p t x (broker.Settle n multiple) e s m = let i = idle_of x _ m in record { may = λ r. rw (e, s.sends, i) refl; kept = λ r. rw (e, s.stays) refl; bare = bare_by p _ e (s.free _); given = above n multiple x.numbers (and_second (is_idle x.sending) _ m); named = λ c. refl }
serve p t x broker.Deliver e s m = let i = idle_of x _ m in record { may = λ r. rw (e, s.sends, i) refl; kept = λ r. rw (e, s.stays) refl; bare = bare_by p _ e (s.free _); given = tt; named = λ c. refl }
serve p t x broker.Return e s m = let i = idle_of x _ m in record { may = λ r. rw (e, s.sends, i) refl; kept = λ r. rw (e, s.stays) refl; bare = bare_by p _ e (s.free _); given = tt; named = λ c. refl }
serve p t x broker.Cancel e s m = let i = idle_of x _ m in record { may = λ r. rw (e, s.sends, i) refl; kept = λ r. rw (e, s.stays) refl; bare = bare_by p _ e (s.free _); given = tt; named = λ c. refl }
serve p t x broker.Flow e s m = let i = idle_of x _ m in record { may = λ r. rw (e, s.sends, i) refl; kept = λ r. rw (e, s.stays) refl; bare = bare_by p _ e (s.free _); given = tt; named = λ c. refl }
serve p t x (broker.Header class size) e s m =
    let h = header_left class size x.sending m in
    record { may = λ r. rw (e, s.sends, h.1) refl; kept = λ r. rw (e, s.stays) (ap (λ z. State (peer_as p) (map request_as x.waiting) z r) (size_left size)); bare = bare_by p _ e (s.free _); given = h.0; named = λ c. refl }
serve p t x (broker.Body n) e s m =
    let h = body_left n x.sending m in
    record { may = λ r. rw (e, s.sends, h.0) refl; kept = λ r. rw (e, s.stays) (ap (λ z. State (peer_as p) (map request_as x.waiting) z r) h.1); bare = bare_by p _ e (s.free _); given = tt; named = λ c. refl }
serve p t x broker.ConnectionClose e s m = let j = and_second (is_idle x.sending) false m in absurd cc
serve p t x broker.ConnectionCloseOk e s m = let j = and_second (is_idle x.sending) false m in absurd cc
serve p t x broker.OpenOk e s m = let j = and_second (is_idle x.sending) false m in absurd cc
serve p t x broker.Close e s m = let j = and_second (is_idle x.sending) false m in absurd cc
serve p t x broker.CloseOk e s m = let j = and_second (is_idle x.sending) false m in absurd cc
serve p t x broker.Other e s m = let j = and_second (is_idle x.sending) false m in absurd cc

-- ---- in each state

gives_close : (x : Channel) (t : List ℕ) → (pair.may_send (peer_as x.peer) pair.DClose ≡ true) → (pair.sent (peer_as x.peer) pair.DClose ≡ pair.Stopping) → Gives x (after_send t broker.Close x) broker.Close
gives_close x t m s = record {
  may = λ r. rw m (by_data (peer_as x.peer));
  kept = λ r. ap (λ p. record { peer = p; kept = kept.none_kept; reading = Some kept.Idle }) s ∙ refl;
  bare = record { waiting = refl; sending = refl };
  given = tt;
  named = λ c. refl;
}
  where
    by_data : (p : pair.Peer) → may_data p (kept_as x) kept.BClose ≡ true
    by_data pair.Leaving = refl
    by_data _ = refl

pub gives_in : (p : Peer) (x : Channel) (t : List ℕ) (d : BrokerFrame) → x.peer ≡ p → IsBareIn p x → may_in p x t d ≡ true → Gives x (after_send t d x) d
gives_in peer.Asked x t broker.OpenOk e h m = record { may = λ r. rw e refl; kept = λ r. rw e refl; bare = tt; given = tt; named = λ c. refl }
gives_in peer.Asked x t broker.Close e h m = gives_close x t (rw e refl) (rw e refl)
gives_in peer.Asked x t _ e h m = cc
gives_in peer.Open x t broker.Close e h m = gives_close x t (rw e refl) (rw e refl)
gives_in peer.Open x t broker.OpenOk e h m = let j = and_second (is_idle x.sending) false m in absurd cc
gives_in peer.Open x t broker.CloseOk e h m = let j = and_second (is_idle x.sending) false m in absurd cc
gives_in peer.Open x t broker.ConnectionClose e h m = let j = and_second (is_idle x.sending) false m in absurd cc
gives_in peer.Open x t broker.ConnectionCloseOk e h m = let j = and_second (is_idle x.sending) false m in absurd cc
gives_in peer.Open x t d e h m = serve peer.Open t x d e open_serves m
gives_in peer.Leaving x t broker.CloseOk e h m =
    let i = idle_too x.sending (and_first (is_idle x.sending) _ m) in
    let w = none_as x.waiting (and_second (is_idle x.sending) _ m) in
    record { may = λ r. rw (e, i, w) refl; kept = λ r. rw e refl; bare = rw e (record { waiting = refl; sending = refl }); given = tt; named = λ c. refl }
gives_in peer.Leaving x t broker.Close e h m = let j = and_second (is_idle x.sending) false m in absurd cc
gives_in peer.Leaving x t d e h m = serve peer.Leaving t x d e leaving_serves m
gives_in peer.StoppingOwes x t broker.CloseOk e h m = record { may = λ r. rw e refl; kept = λ r. rw (e, h.waiting, h.sending) refl; bare = rw e (record { waiting = h.waiting; sending = h.sending }); given = tt; named = λ c. refl }
gives_in peer.StoppingOwes x t _ e h m = cc
gives_in peer.StoppingAnswered x t broker.CloseOk e h m = record { may = λ r. rw e refl; kept = λ r. rw e refl; bare = rw e (record { waiting = refl; sending = refl }); given = tt; named = λ c. refl }
gives_in peer.StoppingAnswered x t _ e h m = cc
gives_in peer.Free x t d e h m = cc
gives_in peer.Stopping x t d e h m = cc

-- ---- the whole broker

abbrev Bares : List (ℕ × Channel) → Type 0
Bares es = (c : ℕ) → IsBareIn (chan c es).peer (chan c es)

bares_on : (c : ℕ) (g : Channel → Channel) (es : List (ℕ × Channel)) → (at_channel c es ≡ None → g free_channel ≡ free_channel) → IsBareIn (g (chan c es)).peer (g (chan c es)) → Bares es → Bares (on_channel c g es)
bares_on c g es n h k e = elim (eqb_tells c e) [
  | inl s ↦ subst (λ (z : Channel). IsBareIn z.peer z) (sym (ap (λ m. chan m (on_channel c g es)) (sym s.1) ∙ chan_on c g es n)) h
  | inr m ↦ subst (λ (z : Channel). IsBareIn z.peer z) (sym (chan_on_away c e g es m.0)) (k e)
]

-- the content that is being read, once the frame was sent on channel c
abbrev reading_sent : ℕ → BrokerFrame → Option (ℕ × Content) → Option (ℕ × Content)
reading_sent c d r = cond (is_close d && is_read_on c r) None r

closed_here : (c : ℕ) (r : Option (ℕ × Content)) → reading_as c (reading_sent c broker.Close r) ≡ Some kept.Idle
closed_here c None = refl
closed_here c (Some r) = elim (r.0 == c) as (λ t. r.0 == c ≡ t → reading_as c (cond t None (Some r)) ≡ Some kept.Idle) [ true ↦ λ e. refl | false ↦ λ e. rw e refl ] refl

closed_away : (c e : ℕ) (r : Option (ℕ × Content)) → (c == e) ≡ false → reading_as e (reading_sent c broker.Close r) ≡ reading_as e r
closed_away c e None n = refl
closed_away c e (Some r) n = elim (eqb_tells r.0 c) [
  | inl y ↦ let z : (r.0 == e) ≡ false = ap (λ k. k == e) y.1 ∙ n in rw (y.0, z) refl
  | inr m ↦ rw m.0 refl
]

sent_here : (c : ℕ) (d : BrokerFrame) (r : Option (ℕ × Content)) → reading_as c (reading_sent c d r) ≡ kept.reading_after (low d) (reading_as c r)
sent_here c broker.Close r = closed_here c r
sent_here c _ r = refl

sent_away : (c e : ℕ) (d : BrokerFrame) (r : Option (ℕ × Content)) → (c == e) ≡ false → reading_as e (reading_sent c d r) ≡ reading_as e r
sent_away c e broker.Close r n = closed_away c e r n
sent_away c e _ r n = refl

part_sent : (c : ℕ) (d : BrokerFrame) (r : Option (ℕ × Content)) → IsPart r → IsPart (reading_sent c d r)
part_sent c d r h = elim (is_close d && is_read_on c r) as (λ t. IsPart (cond t None r)) [ true ↦ tt | false ↦ h ]

pub record SendsAs (b : Broker) (f : Frame) (e : Broker) : Type 0 where
  pub may : may_a asking (connection_as b.connection) (sides_as b) (down_frame f) ≡ true
  pub conn : connection_as e.connection ≡ pair.sent (connection_as b.connection) (conn_d (down_frame f))
  pub sides : sides_as e ≡ sides_sent asking (sides_as b) (down_frame f)
  pub part : IsPart e.reading
  pub bare : (c : ℕ) → IsBareIn (channel_at e c).peer (channel_at e c)
  pub given : IsGiven (broker_frame f)

up_is : (p : Connection) → is_up p ≡ true → p ≡ connection.Up
up_is connection.Up h = refl
up_is connection.Leaving h = cc
up_is connection.Stopped h = cc
up_is connection.StoppedOwes h = cc
up_is connection.LeavingStopped h = cc
up_is connection.Done h = cc
up_is connection.Broken h = cc

-- a frame on a channel
sends_on : (f : Frame) (c : ℕ) (t : List ℕ) (d : BrokerFrame) (b : Broker) → channel_of f ≡ c → broker_frame f ≡ d → (is_up b.connection && may_in (channel_at b c).peer (channel_at b c) t d) ≡ true → IsReady b → SendsAs b f (record (send_on c t d b) { reading = reading_sent c d b.reading })
sends_on f c t d b ec ed m h =
    let x : Channel = channel_at b c in
    let u : b.connection ≡ connection.Up = up_is b.connection (and_first (is_up b.connection) _ m) in
    let may : may_in x.peer x t d ≡ true = and_second (is_up b.connection) _ m in
    let g = gives_in x.peer x t d refl (h.bare c) may in
    let named : down_frame f ≡ ToD c (low d) = ap₂ down_kind ec ed ∙ g.named c in
    let e : Broker = record (send_on c t d b) { reading = reading_sent c d b.reading } in
    let there : at_channel c b.channels ≡ None → after_send t d free_channel ≡ free_channel = λ n. absurd (nowhere (ap channel_in n) may) in
    record {
      may = ap₂ (λ p q. may_a asking p (sides_as b) q) (ap connection_as u) named ∙ g.may (reading_as c b.reading);
      conn = ap connection_as u ∙ ap₂ (λ p q. pair.sent (connection_as p) (conn_d q)) (sym u) (sym named);
      sides = put_is c (gives2 (sides_as b c) (low d)) (sides_as e) (sides_as b)
          (ap₂ (λ (y : Channel) q. record { peer = peer_as y.peer; kept = kept_as y; reading = q }) (chan_on c (after_send t d) b.channels there) (sent_here c d b.reading) ∙ sym (g.kept (reading_as c b.reading)))
          (λ k n. ap₂ (λ (y : Channel) q. record { peer = peer_as y.peer; kept = kept_as y; reading = q }) (chan_on_away c k (after_send t d) b.channels n) (sent_away c k d b.reading n))
          ∙ ap (sides_sent asking (sides_as b)) (sym named);
      part = part_sent c d b.reading h.part;
      bare = bares_on c (after_send t d) b.channels there g.bare h.bare;
      given = subst IsGiven (sym ed) g.given;
    }
  where
    nowhere : channel_at b c ≡ free_channel → may_in (channel_at b c).peer (channel_at b c) t d ≡ true → ⊥
    nowhere e m = let j : false ≡ true = subst (λ (y : Channel). may_in y.peer y t d ≡ true) e m in cc

owes_send : (p : Connection) → owes_connection p ≡ true → (pair.may_send (connection_as p) pair.DCloseOk ≡ true) × (connection_as (after_own_close_ok p) ≡ pair.sent (connection_as p) pair.DCloseOk)
owes_send connection.Leaving h = (refl, refl)
owes_send connection.LeavingStopped h = (refl, refl)
owes_send connection.StoppedOwes h = (refl, refl)
owes_send connection.Up h = cc
owes_send connection.Stopped h = cc
owes_send connection.Done h = cc
owes_send connection.Broken h = cc

may_ok : (p : pair.Peer) (g : ℕ → B2) → may_a asking p g CloseOkD ≡ pair.may_send p pair.DCloseOk
may_ok pair.Open g = refl
may_ok _ g = refl

sends_sorted : (f : Frame) (c : ℕ) (t : List ℕ) (d : BrokerFrame) (b : Broker) → channel_of f ≡ c → broker_frame f ≡ d → may_sorted c t d b ≡ true → IsReady b → SendsAs b f (send_sorted c t d b)
sends_sorted f c t broker.ConnectionClose b ec ed m h =
    let u : b.connection ≡ connection.Up = up_is b.connection m in
    let named : down_frame f ≡ CloseD = ap₂ down_kind ec ed in
    record {
      may = ap₂ (λ p q. may_a asking p (sides_as b) q) (ap connection_as u) named;
      conn = ap₂ (λ p q. pair.sent (connection_as p) (conn_d q)) (sym u) (sym named);
      sides = ap (sides_sent asking (sides_as b)) (sym named);
      part = h.part;
      bare = h.bare;
      given = subst IsGiven (sym ed) tt;
    }
sends_sorted f c t broker.ConnectionCloseOk b ec ed m h =
    let o = owes_send b.connection m in
    let named : down_frame f ≡ CloseOkD = ap₂ down_kind ec ed in
    record {
      may = ap (may_a asking (connection_as b.connection) (sides_as b)) named ∙ (may_ok (connection_as b.connection) (sides_as b) ∙ o.0);
      conn = o.1 ∙ ap (λ q. pair.sent (connection_as b.connection) (conn_d q)) (sym named);
      sides = ap (sides_sent asking (sides_as b)) (sym named);
      part = h.part;
      bare = h.bare;
      given = subst IsGiven (sym ed) tt;
    }
sends_sorted f c t broker.OpenOk b ec ed m h = sends_on f c t broker.OpenOk b ec ed m h
sends_sorted f c t broker.Close b ec ed m h = sends_on f c t broker.Close b ec ed m h
sends_sorted f c t broker.CloseOk b ec ed m h = sends_on f c t broker.CloseOk b ec ed m h
sends_sorted f c t (broker.Reply k) b ec ed m h = sends_on f c t (broker.Reply k) b ec ed m h
sends_sorted f c t broker.ConsumeOk b ec ed m h = sends_on f c t broker.ConsumeOk b ec ed m h
sends_sorted f c t broker.CancelOk b ec ed m h = sends_on f c t broker.CancelOk b ec ed m h
sends_sorted f c t broker.GetOk b ec ed m h = sends_on f c t broker.GetOk b ec ed m h
sends_sorted f c t (broker.Settle n multiple) b ec ed m h = sends_on f c t (broker.Settle n multiple) b ec ed m h
sends_sorted f c t broker.Deliver b ec ed m h = sends_on f c t broker.Deliver b ec ed m h
sends_sorted f c t broker.Return b ec ed m h = sends_on f c t broker.Return b ec ed m h
sends_sorted f c t broker.Cancel b ec ed m h = sends_on f c t broker.Cancel b ec ed m h
sends_sorted f c t broker.Flow b ec ed m h = sends_on f c t broker.Flow b ec ed m h
sends_sorted f c t (broker.Header class size) b ec ed m h = sends_on f c t (broker.Header class size) b ec ed m h
sends_sorted f c t (broker.Body n) b ec ed m h = sends_on f c t (broker.Body n) b ec ed m h
sends_sorted f c t broker.Other b ec ed m h = sends_on f c t broker.Other b ec ed m h

-- what the free broker may send the pair's broker may send, and both then stand alike
pub sends_as : (b : Broker) (f : Frame) → may b f ≡ true → IsReady b → SendsAs b f (send b f) × IsReady (send b f)
sends_as b f m h = let s = sends_sorted f (channel_of f) (tag_of f) (broker_frame f) b refl refl m h in (s, record { sound = send_keeps b f m h.sound; part = s.part; bare = s.bare })
