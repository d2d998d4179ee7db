-- A frame that the broker sends: what it keeps of the channel is still what the tally says, and a settlement is of what it counted.
use Rattle.std.proofs.Common.{◌≡◌, ◌∙◌, ℕ, zero, suc, ◌≤◌, ◌<◌, ◌==◌, Bool, true, false, cond, ◌&&◌, List, [], ◌∷◌, length, Option, Some, None, inl, inr, refl, sym, ap, subst, eq-eqb, arith}
use Rattle.std.specs.Prelude.{nat_lt, nat_le}
use Rattle.std.specs.Option.{is_some, option_map}
use Rattle.std.proofs.lemmas.Bool.{and_parts}
use Rattle.std.proofs.lemmas.Bool.Decides.{eqb_tells, nat_tests}
use Rattle.lapin_types.specs.Types.{Frame, BasicMethod}
use Rattle.lapin_types.specs.Types.frame
use Rattle.lapin_types.specs.Types.method
use Rattle.lapin_types.specs.Types.basic
use Rattle.lapin_rules.specs.declared.marks.Settlement.{Settlement}
use Rattle.lapin_tables.specs.ByChannel.{at_channel, on_channel as on_table}
use Rattle.lapin_tables.specs.Numbered.{under}
use Rattle.lapin_tables.proofs.Channels.{at-on_same, at-on_other}
use Rattle.lapin_tables.proofs.SlotLaws.{given, length-with}
use Rattle.lapin_broker.specs.declared.content.Content.{Content}
use Rattle.lapin_broker.specs.declared.frames.BrokerFrame.{BrokerFrame}
use Rattle.lapin_broker.specs.declared.frames.BrokerFrame.TheVariants as broker
use Rattle.lapin_broker.specs.declared.peer.Peer.{Peer}
use Rattle.lapin_broker.specs.declared.peer.Peer.TheVariants as peer
use Rattle.lapin_broker.specs.declared.peer.Connection.{Connection}
use Rattle.lapin_broker.specs.declared.peer.Connection.TheVariants as connection
use Rattle.lapin_broker.specs.Contents.{is_idle}
use Rattle.lapin_broker.specs.Numbers.{settled_through, may_settle, after_settlement}
use Rattle.lapin_broker.specs.Frames.{channel_of, tag_of, broker_frame}
use Rattle.lapin_broker.specs.States.{Channel, Broker, free_channel, channel_in, channel_at, is_up, owes_connection}
use Rattle.lapin_broker.specs.Sends.{may, may_sorted, may_in, send, send_sorted, send_on, after_send, after_own_close_ok, is_close, is_close_ok, is_read_on, is_connection_close, is_connection_close_ok}
use Rattle.lapin_verdicts.specs.Publishes.{Tally, no_tally}
use Rattle.lapin_verdicts.specs.Verdicts.{settlement_in}
use Rattle.lapin_verdicts.proofs.Counting.{IsAlong, Counts, Fits}
use Rattle.lapin_verdicts.proofs.Reading.{Keeps, elsewhere}
use Rattle.lapin_tables.proofs.Bools.{not_both}

-- ---- one channel

-- what is read on the channel goes with its close
abbrev Dropped : ℕ → BrokerFrame → Option (ℕ × Content) → Option (ℕ × Content)
Dropped c d r = cond (is_close d && is_read_on c r) None r

-- the channel of the table that the frame went to
abbrev Went : ℕ → List ℕ → BrokerFrame → Option (ℕ × Content) → Channel → Tally → Type 0
Went c t d r x y = Fits (after_send t d x).peer c (Dropped c d r) (after_send t d x) y

length-settled : {T : Type 0} (n : ℕ) (xs : List (Option T)) → length (settled_through n xs) ≡ length xs
length-settled zero xs = refl
length-settled (suc n) [] = refl
length-settled (suc n) (x ∷ xs) = ap suc (length-settled n xs)

settled_counts : (n : ℕ) (multiple : Bool) (x : Channel) (y : Tally) → Counts x y → Counts (record x { numbers = after_settlement n multiple x.numbers }) y
settled_counts n true x y k = record { selected = k.selected; numbers = length-settled n x.numbers ∙ k.numbers }
settled_counts n false x y k = record { selected = k.selected; numbers = length-with n None x.numbers ∙ k.numbers }

unread : (c : ℕ) (r : Option (ℕ × Content)) → is_read_on c (cond (is_read_on c r) None r) ≡ false
unread c r = elim (is_read_on c r) as (λ b. is_read_on c r ≡ b → is_read_on c (cond b None r) ≡ false) [ true ↦ λ h. refl | false ↦ λ h. h ] refl

open_went : (c : ℕ) (t : List ℕ) (d : BrokerFrame) (r : Option (ℕ × Content)) (x : Channel) (y : Tally) → x.peer ≡ peer.Open → Counts x y × IsAlong c r y.coming → may_in peer.Open x t d ≡ true → Went c t d r x y
open_went c t broker.Close r x y e k m = unread c r
open_went c t broker.OpenOk r x y e k m = absurd (not_both _ (and_parts (is_idle x.sending) false m).1 refl)
open_went c t broker.CloseOk r x y e k m = absurd (not_both _ (and_parts (is_idle x.sending) false m).1 refl)
open_went c t (broker.Settle n multiple) r x y e k m = let s = settled_counts n multiple x y k.0 in rw e (record { selected = s.selected; numbers = s.numbers }, k.1)
open_went c t (broker.Reply q) r x y e k m = rw e (record { selected = k.0.selected; numbers = k.0.numbers }, k.1)
open_went c t broker.ConsumeOk r x y e k m = rw e (record { selected = k.0.selected; numbers = k.0.numbers }, k.1)
open_went c t broker.CancelOk r x y e k m = rw e (record { selected = k.0.selected; numbers = k.0.numbers }, k.1)
open_went c t broker.GetOk r x y e k m = rw e (record { selected = k.0.selected; numbers = k.0.numbers }, k.1)
open_went c t broker.Deliver r x y e k m = rw e (record { selected = k.0.selected; numbers = k.0.numbers }, k.1)
open_went c t broker.Return r x y e k m = rw e (record { selected = k.0.selected; numbers = k.0.numbers }, k.1)
open_went c t broker.Cancel r x y e k m = rw e (record { selected = k.0.selected; numbers = k.0.numbers }, k.1)
open_went c t (broker.Header class size) r x y e k m = rw e (record { selected = k.0.selected; numbers = k.0.numbers }, k.1)
open_went c t (broker.Body n) r x y e k m = rw e (record { selected = k.0.selected; numbers = k.0.numbers }, k.1)
open_went c t _ r x y e k m = rw e (record { selected = k.0.selected; numbers = k.0.numbers }, k.1)

leaving_went : (c : ℕ) (t : List ℕ) (d : BrokerFrame) (r : Option (ℕ × Content)) (x : Channel) (y : Tally) → x.peer ≡ peer.Leaving → Counts x y × (is_read_on c r ≡ false) → may_in peer.Leaving x t d ≡ true → Went c t d r x y
leaving_went c t broker.Close r x y e k m = absurd (not_both _ (and_parts (is_idle x.sending) false m).1 refl)
leaving_went c t broker.OpenOk r x y e k m = absurd (not_both _ (and_parts (is_idle x.sending) false m).1 refl)
leaving_went c t broker.CloseOk r x y e k m = rw e (refl, k.1)
leaving_went c t (broker.Settle n multiple) r x y e k m = let s = settled_counts n multiple x y k.0 in rw e (record { selected = s.selected; numbers = s.numbers }, k.1)
leaving_went c t (broker.Reply q) r x y e k m = rw e (record { selected = k.0.selected; numbers = k.0.numbers }, k.1)
leaving_went c t broker.ConsumeOk r x y e k m = rw e (record { selected = k.0.selected; numbers = k.0.numbers }, k.1)
leaving_went c t broker.CancelOk r x y e k m = rw e (record { selected = k.0.selected; numbers = k.0.numbers }, k.1)
leaving_went c t broker.GetOk r x y e k m = rw e (record { selected = k.0.selected; numbers = k.0.numbers }, k.1)
leaving_went c t broker.Deliver r x y e k m = rw e (record { selected = k.0.selected; numbers = k.0.numbers }, k.1)
leaving_went c t broker.Return r x y e k m = rw e (record { selected = k.0.selected; numbers = k.0.numbers }, k.1)
leaving_went c t broker.Cancel r x y e k m = rw e (record { selected = k.0.selected; numbers = k.0.numbers }, k.1)
leaving_went c t (broker.Header class size) r x y e k m = rw e (record { selected = k.0.selected; numbers = k.0.numbers }, k.1)
leaving_went c t (broker.Body n) r x y e k m = rw e (record { selected = k.0.selected; numbers = k.0.numbers }, k.1)
leaving_went c t _ r x y e k m = rw e (record { selected = k.0.selected; numbers = k.0.numbers }, k.1)

asked_went : (c : ℕ) (t : List ℕ) (d : BrokerFrame) (r : Option (ℕ × Content)) (x : Channel) (y : Tally) → x ≡ record free_channel { peer = peer.Asked } → is_read_on c r ≡ false → y ≡ no_tally → may_in peer.Asked x t d ≡ true → Went c t d r x y
asked_went c t broker.OpenOk r x y e off z m = rw (e, z) (elsewhere peer.Open c None r _ no_tally refl off (record { selected = refl; numbers = refl }, refl))
asked_went c t broker.Close r x y e off z m = unread c r
asked_went c t _ r x y e off z m = absurd cc

owes_went : (c : ℕ) (t : List ℕ) (d : BrokerFrame) (r : Option (ℕ × Content)) (x : Channel) (y : Tally) → x.peer ≡ peer.StoppingOwes → is_read_on c r ≡ false → is_close_ok d ≡ true → Went c t d r x y
owes_went c t broker.CloseOk r x y e off m = rw e off
owes_went c t _ r x y e off m = absurd cc

answered_went : (c : ℕ) (t : List ℕ) (d : BrokerFrame) (r : Option (ℕ × Content)) (x : Channel) (y : Tally) → x.peer ≡ peer.StoppingAnswered → is_read_on c r ≡ false → is_close_ok d ≡ true → Went c t d r x y
answered_went c t broker.CloseOk r x y e off m = rw e (refl, off)
answered_went c t _ r x y e off m = absurd cc

went : (p : Peer) (c : ℕ) (t : List ℕ) (d : BrokerFrame) (r : Option (ℕ × Content)) (x : Channel) (y : Tally) → x.peer ≡ p → Fits p c r x y → may_in p x t d ≡ true → Went c t d r x y
went peer.Free c t d r x y e k m = absurd (not_both _ m refl)
went peer.Asked c t d r x y e k m = asked_went c t d r x y k.0 k.1 k.2 m
went peer.Open c t d r x y e k m = open_went c t d r x y e k m
went peer.Leaving c t d r x y e k m = leaving_went c t d r x y e k m
went peer.Stopping c t d r x y e k m = absurd (not_both _ m refl)
went peer.StoppingOwes c t d r x y e k m = owes_went c t d r x y e k m
went peer.StoppingAnswered c t d r x y e k m = answered_went c t d r x y e k m

-- ---- the broker

here_went : (c : ℕ) (t : List ℕ) (d : BrokerFrame) (r : Option (ℕ × Content)) (es : List (ℕ × Channel)) (y : Tally) (o : Option Channel) → at_channel c es ≡ o → Fits (channel_in o).peer c r (channel_in o) y → may_in (channel_in o).peer (channel_in o) t d ≡ true → Fits (channel_in (at_channel c (on_table c (after_send t d) es))).peer c (Dropped c d r) (channel_in (at_channel c (on_table c (after_send t d) es))) y
here_went c t d r es y None e k m = absurd (not_both _ m refl)
here_went c t d r es y (Some x) e k m =
    let there : at_channel c (on_table c (after_send t d) es) ≡ Some (after_send t d x) = at-on_same c (after_send t d) es ∙ ap (option_map (after_send t d)) e in
    subst (λ v. Fits (channel_in v).peer c (Dropped c d r) (channel_in v) y) (sym there) (went x.peer c t d r x y refl k m)

apart_off : (a c : ℕ) (b : Bool) (r : Option (ℕ × Content)) (x : Channel) (y : Tally) → (a == c) ≡ false → Fits x.peer c r x y → Fits x.peer c (cond (b && is_read_on a r) None r) x y
apart_off a c true None x y h k = k
apart_off a c false r x y h k = k
apart_off a c true (Some r) x y h k = elim (eqb_tells r.0 a) [
  | inl z ↦ let off : (r.0 == c) ≡ false = subst (λ v. (v == c) ≡ false) (sym z.1) h in rw z.0 (elsewhere x.peer c (Some r) None x y off refl k)
  | inr z ↦ rw z.0 k
]

channel_sent : (c a : ℕ) (t : List ℕ) (d : BrokerFrame) (b : Broker) (y : Tally) → Keeps c b y → is_up b.connection ≡ true → may_in (channel_at b a).peer (channel_at b a) t d ≡ true → Keeps c (record (send_on a t d b) { reading = cond (is_close d && is_read_on a b.reading) None b.reading }) y
channel_sent c a t d b y k up m _ = elim (eqb_tells a c) [
  | inl z ↦
      let m' : may_in (channel_at b c).peer (channel_at b c) t d ≡ true = subst (λ v. may_in (channel_at b v).peer (channel_at b v) t d ≡ true) z.1 m in
      let K : ℕ → Type 0 = λ v. Fits (channel_in (at_channel c (on_table v (after_send t d) b.channels))).peer c (Dropped v d b.reading) (channel_in (at_channel c (on_table v (after_send t d) b.channels))) y in
      subst K (sym z.1) (here_went c t d b.reading b.channels y (at_channel c b.channels) refl (k up) m')
  | inr z ↦
      let same : at_channel c (on_table a (after_send t d) b.channels) ≡ at_channel c b.channels = at-on_other a c (after_send t d) b.channels (λ e. not_both (a == c) (eq-eqb a c e) z.0) in
      subst (λ v. Fits (channel_in v).peer c (Dropped a d b.reading) (channel_in v) y) (sym same) (apart_off a c (is_close d) b.reading (channel_at b c) y z.0 (k up))
]

pub own_down : (k : Connection) → owes_connection k ≡ true → is_up (after_own_close_ok k) ≡ false
own_down connection.Up h = refl
own_down connection.Leaving h = refl
own_down connection.LeavingStopped h = refl
own_down connection.Stopped h = refl
own_down connection.StoppedOwes h = refl
own_down connection.Done h = refl
own_down connection.Broken h = refl

sorted_keeps : (c a : ℕ) (t : List ℕ) (d : BrokerFrame) (b : Broker) (y : Tally) → Keeps c b y → may_sorted a t d b ≡ true → Keeps c (send_sorted a t d b) y
sorted_keeps c a t d b y k =
    let after_close : Broker = record b { connection = connection.Stopped } in
    let after_ok : Broker = record b { connection = after_own_close_ok b.connection } in
    let other : Broker = record (send_on a t d b) { reading = cond (is_close d && is_read_on a b.reading) None b.reading } in
    let goes : Bool = is_up b.connection && may_in (channel_at b a).peer (channel_at b a) t d in
    elim (is_connection_close d) as (λ v. cond v (is_up b.connection) (cond (is_connection_close_ok d) (owes_connection b.connection) goes) ≡ true → Keeps c (cond v after_close (cond (is_connection_close_ok d) after_ok other)) y) [
      | true ↦ λ m up. absurd (not_both (is_up connection.Stopped) up refl)
      | false ↦ elim (is_connection_close_ok d) as (λ v. cond v (owes_connection b.connection) goes ≡ true → Keeps c (cond v after_ok other) y) [
        | true ↦ λ m up. absurd (not_both (is_up (after_own_close_ok b.connection)) up (own_down b.connection m))
        | false ↦ λ m. let both = and_parts (is_up b.connection) _ m in channel_sent c a t d b y k both.0 both.1
      ]
    ]

pub send_keeps : (c : ℕ) (f : Frame) (b : Broker) (y : Tally) → Keeps c b y → may b f ≡ true → Keeps c (send b f) y
send_keeps c f b y k m = sorted_keeps c (channel_of f) (tag_of f) (broker_frame f) b y k m

-- ---- a settlement is of what was counted

-- the settlement's number is one of those that were counted
abbrev pub InRange : ℕ → Tally → Type 0
InRange n y = (0 < n) × (n ≤ length y.numbered)

some_range : {T : Type 0} (n : ℕ) (xs : List (Option T)) (o : Option T) → under n xs ≡ o → is_some o ≡ true → (0 < n) × (n ≤ length xs)
some_range n xs None e h = cc
some_range zero xs (Some v) e h = cc
some_range (suc n) xs (Some v) e h = (omega arith, given (suc n) v xs e)

many_range : (n m : ℕ) → (nat_lt 0 n && nat_le n m) ≡ true → (0 < n) × (n ≤ m)
many_range n m h = let both = and_parts (nat_lt 0 n) (nat_le n m) h in let lt = both.0 in let le = both.1 in (grind (arith, nat_tests), grind (arith, nat_tests))

settle_range : {T : Type 0} (n : ℕ) (multiple : Bool) (xs : List (Option T)) → may_settle n multiple xs ≡ true → (0 < n) × (n ≤ length xs)
settle_range n true xs h = many_range n (length xs) h
settle_range n false xs h = some_range n xs (under n xs) refl h

counted_range : (n : ℕ) (x : Channel) (y : Tally) → Counts x y → (0 < n) × (n ≤ length x.numbers) → InRange n y
counted_range n x y k r = (r.0, subst (λ v. n ≤ v) k.numbers r.1)

peer_range : (p : Peer) (c n : ℕ) (multiple : Bool) (t : List ℕ) (r : Option (ℕ × Content)) (x : Channel) (y : Tally) → Fits p c r x y → may_in p x t (broker.Settle n multiple) ≡ true → InRange n y
peer_range peer.Open c n multiple t r x y k m = counted_range n x y k.0 (settle_range n multiple x.numbers (and_parts (is_idle x.sending) _ m).1)
peer_range peer.Leaving c n multiple t r x y k m = counted_range n x y k.0 (settle_range n multiple x.numbers (and_parts (is_idle x.sending) _ m).1)
peer_range _ c n multiple t r x y k m = absurd cc

here_range : (c n : ℕ) (multiple : Bool) (t : List ℕ) (b : Broker) (y : Tally) → Keeps c b y → (is_up b.connection && may_in (channel_at b c).peer (channel_at b c) t (broker.Settle n multiple)) ≡ true → InRange n y
here_range c n multiple t b y k m =
    let both = and_parts (is_up b.connection) _ m in
    peer_range (channel_at b c).peer c n multiple t b.reading (channel_at b c) y (k both.0) both.1

abbrev pub RangeBy : Option Settlement → Tally → Type 0
RangeBy None y = Unit {0}
RangeBy (Some s) y = InRange s.tag y

basic_range : (d : ℕ) (m : BasicMethod) (b : Broker) (y : Tally) → Keeps d b y → may b (frame.Method d (method.Basic m)) ≡ true → RangeBy (settlement_in (frame.Method d (method.Basic m))) y
basic_range d (basic.Ack tag multiple) b y k m = here_range d tag multiple [] b y k m
basic_range d (basic.Nack tag multiple requeue) b y k m = here_range d tag multiple [] b y k m
basic_range d _ b y k m = tt

pub settlement_range : (f : Frame) (b : Broker) (y : Tally) → Keeps (channel_of f) b y → may b f ≡ true → RangeBy (settlement_in f) y
settlement_range (frame.Method d (method.Basic m)) b y k h = basic_range d m b y k h
settlement_range (frame.Method d _) b y k h = tt
settlement_range (frame.Header d h) b y k _ = tt
settlement_range (frame.Body d bytes) b y k _ = tt
