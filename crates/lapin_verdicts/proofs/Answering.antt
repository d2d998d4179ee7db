-- In every joined run each reply that the broker sends in an opening is to the request at its place.
use Rattle.std.proofs.Common.{◌≡◌, ◌∙◌, ℕ, suc, ◌+◌, ◌≤◌, ◌==◌, Bool, true, false, cond, ◌&&◌, ◌||◌, List, [], ◌∷◌, ◌++◌, length, drop, Option, Some, None, inl, inr, refl, sym, ap, subst, append-nil, append_assoc, length-append, arith, eq-eqb}
use Rattle.std.specs.List.{filter}
use Rattle.std.specs.Option.{option_map}
use Rattle.std.proofs.lemmas.Bool.{and_parts}
use Rattle.std.proofs.lemmas.Bool.Decides.{eqb_tells}
use Rattle.lapin_types.specs.declared.leaving.Left.{Left}
use Rattle.lapin_types.specs.Types.{Frame}
use Rattle.lapin_tables.specs.ByChannel.{at_channel, on_channel as on_table}
use Rattle.lapin_tables.proofs.Channels.{at-on_same, at-on_other}
use Rattle.lapin_rules.specs.Wire.{state_of, receives_on}
use Rattle.lapin_broker.specs.declared.frames.BrokerFrame.{BrokerFrame}
use Rattle.lapin_broker.specs.declared.frames.BrokerFrame.TheVariants as broker
use Rattle.lapin_broker.specs.declared.request.Request.{Request}
use Rattle.lapin_broker.specs.declared.request.RequestKind.{RequestKind}
use Rattle.lapin_broker.specs.declared.request.RequestKind.TheVariants as kind
use Rattle.lapin_broker.specs.declared.peer.Peer.{Peer}
use Rattle.lapin_broker.specs.declared.peer.Peer.TheVariants as peer
use Rattle.lapin_broker.specs.declared.peer.Connection.TheVariants as connection
use Rattle.lapin_broker.specs.Contents.{is_idle}
use Rattle.lapin_broker.specs.Frames.{channel_of, tag_of, client_frame, broker_frame}
use Rattle.lapin_broker.specs.States.{Channel, Broker, free_channel, channel_in, channel_at, is_up, owes_connection}
use Rattle.lapin_broker.specs.Reads.{read}
use Rattle.lapin_broker.specs.Sends.{may, may_in, may_start, first_is, send, send_on, after_send, after_reply, after_own_close_ok, is_close, is_close_ok, is_connection_close, is_connection_close_ok, is_read_on}
use Rattle.lapin_joint.specs.declared.step.Step.{Step}
use Rattle.lapin_joint.specs.declared.step.Step.TheVariants as step
use Rattle.lapin_joint.specs.Joint.{Joint, new_joint, is_lawful, after, run, joined_to, read_first, deliver_first, client, send_down}
use Rattle.lapin_machine.specs.Way.{Way, by_history}
use Rattle.lapin_joint.specs.Order.{front, along}
use Rattle.lapin_verdicts.specs.Deeds.{Deed, Read, Sent, is_open, joined_opening, last_opening, reads_of, deed_in, deeds}
use Rattle.lapin_verdicts.specs.InStep.{is_frame_on}
use Rattle.lapin_verdicts.specs.Session.{past_of}
use Rattle.lapin_verdicts.specs.Verdicts.{at_place}
use Rattle.lapin_verdicts.specs.Answers.{replies_as, replies, requests_in, replies_in, kind_asked, kind_answered, are_same, IsAnswer}
use Rattle.lapin_verdicts.proofs.Sending.{own_down}
use Rattle.lapin_verdicts.proofs.TagCounts.{last-push, last-sent, lost_down}
use Rattle.lapin_verdicts.proofs.Runs.{split_at}
use Rattle.lapin_verdicts.proofs.Owing.{AreOf, Waiting, Owes, Goes, Owing, goes_at, same_waiting, requests-append, replies-append, read_owes}
use Rattle.lapin_verdicts.proofs.Together.{in_step}
use Rattle.lapin_tables.proofs.Bools.{not_both}

-- ---- one channel sends

-- the request that comes next is of the kind
record Next (rs : List Left) (n : ℕ) (o : Option RequestKind) : Type 0 where
  pub request : Left
  pub at : at_place (suc n) rs ≡ Some request
  pub kind : are_same (kind_asked (client_frame request.frame)) o ≡ true

place_next : (xs : List Left) (l : Left) (ls : List Left) → at_place (suc (length xs)) (xs ++ l ∷ ls) ≡ Some l
place_next [] l ls = refl
place_next (x ∷ xs) l ls = place_next xs l ls

answered : (x : Channel) (rs : List Left) (n : ℕ) (k : RequestKind) → Waiting x rs n → first_is k x.waiting ≡ true → Waiting (after_reply x) rs (n + 1) × Next rs n (Some k)
answered x rs n k w h = by w.rest x.waiting refl refl w.are h
  where
    by : (ls : List Left) (ws : List Request) → w.rest ≡ ls → x.waiting ≡ ws → AreOf ls ws → first_is k ws ≡ true → Waiting (after_reply x) rs (n + 1) × Next rs n (Some k)
    by [] [] e f a h = absurd cc
    by [] (r ∷ ws) e f a h = absurd a
    by (l ∷ ls) [] e f a h = absurd cc
    by (l ∷ ls) (r ∷ ws) e f a h =
        let all : rs ≡ w.done ++ l ∷ ls = w.all ∙ ap (λ v. w.done ++ v) e in (
          record {
            done = w.done ++ l ∷ [];
            rest = ls;
            all = all ∙ sym (append_assoc w.done (l ∷ []) ls);
            count = length-append w.done (l ∷ []) ∙ ap (λ v. v + 1) w.count;
            are = subst (AreOf ls) (sym (ap (drop 1) f)) a.1;
          },
          record {
            request = l;
            at = ap (λ v. at_place (suc v) rs) (sym w.count) ∙ (ap (at_place (suc (length w.done))) all ∙ place_next w.done l ls);
            kind = ap (λ v. are_same v (Some k)) a.0 ∙ h;
          },
        )

-- which request a reply needs
first_kind : (x : Channel) (t : List ℕ) (d : BrokerFrame) → may_start x t d ≡ true → replies_as d ≡ true → (k : RequestKind) × (kind_answered d ≡ Some k) × (first_is k x.waiting ≡ true)
first_kind x t (broker.Reply k) m r = (k, refl, m)
first_kind x t broker.ConsumeOk m r = (kind.Consume, refl, (and_parts (first_is kind.Consume x.waiting) _ m).0)
first_kind x t broker.CancelOk m r = (kind.Cancel, refl, (and_parts (first_is kind.Cancel x.waiting) _ m).0)
first_kind x t broker.GetOk m r = (kind.Get, refl, m)
first_kind x t _ m r = absurd cc

-- so many were sent with this frame
abbrev with_reply : BrokerFrame → ℕ → ℕ
with_reply d n = cond (replies_as d) (n + 1) n

-- a reply leaves the other requests
open_answers : (x : Channel) (t : List ℕ) (d : BrokerFrame) (rs : List Left) (n : ℕ) → Waiting x rs n → (is_idle x.sending && may_start x t d) ≡ true → replies_as d ≡ true → Waiting (after_reply x) rs (n + 1) × Next rs n (kind_answered d)
open_answers x t d rs n w m r =
    let f = first_kind x t d (and_parts (is_idle x.sending) (may_start x t d) m).1 r in
    let a = answered x rs n f.0 w f.2 in
    (a.0, subst (Next rs n) (sym f.1) a.1)

open_sent : (q : Peer) → ((z : Channel) (rs : List Left) (n : ℕ) → Waiting z rs n → Owes q z rs n) → (t : List ℕ) (d : BrokerFrame) (x : Channel) (rs : List Left) (n : ℕ) → x.peer ≡ q → Waiting x rs n → (is_close d || is_close_ok d) ≡ false → may_in peer.Open x t d ≡ true → Goes (after_send t d x) rs (with_reply d n)
open_sent q fits t broker.Close x rs n e w c m = absurd cc
open_sent q fits t broker.CloseOk x rs n e w c m = absurd cc
open_sent q fits t broker.OpenOk x rs n e w c m = absurd (not_both _ (and_parts (is_idle x.sending) false m).1 refl)
open_sent q fits t (broker.Reply k) x rs n e w c m = goes_at (after_send t (broker.Reply k) x) rs (n + 1) q e (fits (after_send t (broker.Reply k) x) rs (n + 1) (open_answers x t (broker.Reply k) rs n w m refl).0)
open_sent q fits t broker.ConsumeOk x rs n e w c m = goes_at (after_send t broker.ConsumeOk x) rs (n + 1) q e (fits (after_send t broker.ConsumeOk x) rs (n + 1) (same_waiting (after_reply x) (after_send t broker.ConsumeOk x) rs (n + 1) refl (open_answers x t broker.ConsumeOk rs n w m refl).0))
open_sent q fits t broker.CancelOk x rs n e w c m = goes_at (after_send t broker.CancelOk x) rs (n + 1) q e (fits (after_send t broker.CancelOk x) rs (n + 1) (same_waiting (after_reply x) (after_send t broker.CancelOk x) rs (n + 1) refl (open_answers x t broker.CancelOk rs n w m refl).0))
open_sent q fits t broker.GetOk x rs n e w c m = goes_at (after_send t broker.GetOk x) rs (n + 1) q e (fits (after_send t broker.GetOk x) rs (n + 1) (same_waiting (after_reply x) (after_send t broker.GetOk x) rs (n + 1) refl (open_answers x t broker.GetOk rs n w m refl).0))
open_sent q fits t (broker.Settle k multiple) x rs n e w c m = goes_at (after_send t (broker.Settle k multiple) x) rs n q e (fits (after_send t (broker.Settle k multiple) x) rs n (same_waiting x (after_send t (broker.Settle k multiple) x) rs n refl w))
open_sent q fits t broker.Deliver x rs n e w c m = goes_at (after_send t broker.Deliver x) rs n q e (fits (after_send t broker.Deliver x) rs n (same_waiting x (after_send t broker.Deliver x) rs n refl w))
open_sent q fits t broker.Return x rs n e w c m = goes_at (after_send t broker.Return x) rs n q e (fits (after_send t broker.Return x) rs n (same_waiting x (after_send t broker.Return x) rs n refl w))
open_sent q fits t broker.Cancel x rs n e w c m = goes_at (after_send t broker.Cancel x) rs n q e (fits (after_send t broker.Cancel x) rs n (same_waiting x (after_send t broker.Cancel x) rs n refl w))
open_sent q fits t (broker.Header class size) x rs n e w c m = goes_at (after_send t (broker.Header class size) x) rs n q e (fits (after_send t (broker.Header class size) x) rs n (same_waiting x (after_send t (broker.Header class size) x) rs n refl w))
open_sent q fits t (broker.Body k) x rs n e w c m = goes_at (after_send t (broker.Body k) x) rs n q e (fits (after_send t (broker.Body k) x) rs n (same_waiting x (after_send t (broker.Body k) x) rs n refl w))
open_sent q fits t _ x rs n e w c m = goes_at x rs n q e (fits x rs n w)

in_open : (t : List ℕ) (d : BrokerFrame) (x : Channel) (rs : List Left) (n : ℕ) → x.peer ≡ peer.Open → Waiting x rs n → may_in peer.Open x t d ≡ true → Goes (after_send t d x) rs (with_reply d n)
in_open t broker.Close x rs n e w m = tt
in_open t broker.CloseOk x rs n e w m = absurd (not_both _ (and_parts (is_idle x.sending) false m).1 refl)
in_open t d x rs n e w m = open_sent peer.Open (λ z ls k v. v) t d x rs n e w refl m

in_leaving : (t : List ℕ) (d : BrokerFrame) (x : Channel) (rs : List Left) (n : ℕ) → x.peer ≡ peer.Leaving → Waiting x rs n → may_in peer.Leaving x t d ≡ true → Goes (after_send t d x) rs (with_reply d n)
in_leaving t broker.Close x rs n e w m = absurd (not_both _ (and_parts (is_idle x.sending) false m).1 refl)
in_leaving t broker.CloseOk x rs n e w m = rw e refl
in_leaving t d x rs n e w m = open_sent peer.Leaving (λ z ls k v. v) t d x rs n e w refl m

in_asked : (t : List ℕ) (d : BrokerFrame) (x : Channel) (rs : List Left) (n : ℕ) → x ≡ record free_channel { peer = peer.Asked } → rs ≡ [] → n ≡ 0 → may_in peer.Asked x t d ≡ true → Goes (after_send t d x) rs (with_reply d n)
in_asked t broker.OpenOk x rs n e r z m = record { done = []; rest = []; all = r; count = sym z; are = rw e tt }
in_asked t broker.Close x rs n e r z m = tt
in_asked t _ x rs n e r z m = absurd cc

in_owes : (t : List ℕ) (d : BrokerFrame) (x : Channel) (rs : List Left) (n : ℕ) → x.peer ≡ peer.StoppingOwes → is_close_ok d ≡ true → Goes (after_send t d x) rs (with_reply d n)
in_owes t broker.CloseOk x rs n e m = rw e tt
in_owes t _ x rs n e m = absurd cc

in_answered : (t : List ℕ) (d : BrokerFrame) (x : Channel) (rs : List Left) (n : ℕ) → x.peer ≡ peer.StoppingAnswered → is_close_ok d ≡ true → Goes (after_send t d x) rs (with_reply d n)
in_answered t broker.CloseOk x rs n e m = rw e refl
in_answered t _ x rs n e m = absurd cc

channel_sends : (p : Peer) (t : List ℕ) (d : BrokerFrame) (x : Channel) (rs : List Left) (n : ℕ) → x.peer ≡ p → Owes p x rs n → may_in p x t d ≡ true → Goes (after_send t d x) rs (with_reply d n)
channel_sends peer.Free t d x rs n e w m = absurd (not_both _ m refl)
channel_sends peer.Asked t d x rs n e w m = in_asked t d x rs n w.0 w.1 w.2 m
channel_sends peer.Open t d x rs n e w m = in_open t d x rs n e w m
channel_sends peer.Leaving t d x rs n e w m = in_leaving t d x rs n e w m
channel_sends peer.Stopping t d x rs n e w m = absurd (not_both _ m refl)
channel_sends peer.StoppingOwes t d x rs n e w m = in_owes t d x rs n e m
channel_sends peer.StoppingAnswered t d x rs n e w m = in_answered t d x rs n e m

-- a reply is to the request that comes next
start_only : (x : Channel) (t : List ℕ) (d : BrokerFrame) → may_in peer.Open x t d ≡ true → replies_as d ≡ true → (is_idle x.sending && may_start x t d) ≡ true
start_only x t (broker.Reply k) m r = m
start_only x t broker.ConsumeOk m r = m
start_only x t broker.CancelOk m r = m
start_only x t broker.GetOk m r = m
start_only x t _ m r = absurd cc

leave_only : (x : Channel) (t : List ℕ) (d : BrokerFrame) → may_in peer.Leaving x t d ≡ true → replies_as d ≡ true → (is_idle x.sending && may_start x t d) ≡ true
leave_only x t (broker.Reply k) m r = m
leave_only x t broker.ConsumeOk m r = m
leave_only x t broker.CancelOk m r = m
leave_only x t broker.GetOk m r = m
leave_only x t _ m r = absurd cc

asked_none : (x : Channel) (t : List ℕ) (d : BrokerFrame) → may_in peer.Asked x t d ≡ true → replies_as d ≡ true → ⊥
asked_none x t broker.OpenOk m r = cc
asked_none x t broker.Close m r = cc
asked_none x t _ m r = cc

close_none : (d : BrokerFrame) → is_close_ok d ≡ true → replies_as d ≡ true → ⊥
close_none broker.CloseOk m r = cc
close_none _ m r = cc

next_in : (p : Peer) (t : List ℕ) (d : BrokerFrame) (x : Channel) (rs : List Left) (n : ℕ) → Owes p x rs n → may_in p x t d ≡ true → replies_as d ≡ true → Next rs n (kind_answered d)
next_in peer.Open t d x rs n w m r = (open_answers x t d rs n w (start_only x t d m r) r).1
next_in peer.Leaving t d x rs n w m r = (open_answers x t d rs n w (leave_only x t d m r) r).1
next_in peer.Asked t d x rs n w m r = absurd (asked_none x t d m r)
next_in peer.Free t d x rs n w m r = absurd (not_both _ m refl)
next_in peer.Stopping t d x rs n w m r = absurd (not_both _ m refl)
next_in peer.StoppingOwes t d x rs n w m r = absurd (close_none d m r)
next_in peer.StoppingAnswered t d x rs n w m r = absurd (close_none d m r)

-- ---- the broker sends

sent_table : (c : ℕ) (t : List ℕ) (d : BrokerFrame) (es : List (ℕ × Channel)) (o : Option Channel) (rs : List Left) (n : ℕ) → at_channel c es ≡ o → Goes (channel_in o) rs n → may_in (channel_in o).peer (channel_in o) t d ≡ true → Goes (channel_in (at_channel c (on_table c (after_send t d) es))) rs (with_reply d n)
sent_table c t d es None rs n e w m = absurd (not_both _ m refl)
sent_table c t d es (Some x) rs n e w m = subst (λ v. Goes (channel_in v) rs (with_reply d n)) (sym (at-on_same c (after_send t d) es ∙ ap (option_map (after_send t d)) e)) (channel_sends x.peer t d x rs n refl w m)

-- what of it is on the channel
abbrev sent_opening : ℕ → List Deed → Frame → List Deed
sent_opening c o f = cond (channel_of f == c) (o ++ Sent f ∷ []) o

reply_count : (o : List Deed) (f : Frame) → length (replies_in (o ++ Sent f ∷ [])) ≡ with_reply (broker_frame f) (length (replies_in o))
reply_count o f = ap length (replies-append o (Sent f ∷ [])) ∙ (length-append (replies_in o) (filter replies (f ∷ [])) ∙ elim (replies f) as (λ v. length (replies_in o) + length (cond v (f ∷ []) []) ≡ cond v (length (replies_in o) + 1) (length (replies_in o))) [ true ↦ refl | false ↦ omega arith ])

same_requests : (o : List Deed) (f : Frame) → requests_in (o ++ Sent f ∷ []) ≡ requests_in o
same_requests o f = requests-append o (Sent f ∷ []) ∙ append-nil (requests_in o)

channel_sent : (c : ℕ) (f : Frame) (b : Broker) (o : List Deed) → Owing c b o → is_up b.connection ≡ true → may_in (channel_at b (channel_of f)).peer (channel_at b (channel_of f)) (tag_of f) (broker_frame f) ≡ true → Goes (channel_at (send_on (channel_of f) (tag_of f) (broker_frame f) b) c) (requests_in (sent_opening c o f)) (length (replies_in (sent_opening c o f)))
channel_sent c f b o k up m =
    let a : ℕ = channel_of f in
    let t : List ℕ = tag_of f in
    let d : BrokerFrame = broker_frame f in
    elim (eqb_tells a c) [
      | inl z ↦
          let m' : may_in (channel_at b c).peer (channel_at b c) t d ≡ true = subst (λ v. may_in (channel_at b v).peer (channel_at b v) t d ≡ true) z.1 m in
          let g : Goes (channel_in (at_channel c (on_table c (after_send t d) b.channels))) (requests_in o) (with_reply d (length (replies_in o))) = sent_table c t d b.channels (at_channel c b.channels) _ _ refl (k up) m' in
          let h : Goes (channel_in (at_channel c (on_table c (after_send t d) b.channels))) (requests_in (o ++ Sent f ∷ [])) (length (replies_in (o ++ Sent f ∷ []))) = subst (λ v. Goes (channel_in (at_channel c (on_table c (after_send t d) b.channels))) v (length (replies_in (o ++ Sent f ∷ [])))) (sym (same_requests o f)) (subst (λ v. Goes (channel_in (at_channel c (on_table c (after_send t d) b.channels))) (requests_in o) v) (sym (reply_count o f)) g) in
          let K : ℕ → Type 0 = λ v. Goes (channel_in (at_channel c (on_table v (after_send t d) b.channels))) (requests_in (o ++ Sent f ∷ [])) (length (replies_in (o ++ Sent f ∷ []))) in
          rw z.0 (subst K (sym z.1) h)
      | inr z ↦
          let same : at_channel c (on_table a (after_send t d) b.channels) ≡ at_channel c b.channels = at-on_other a c (after_send t d) b.channels (λ e. not_both (a == c) (eq-eqb a c e) z.0) in
          rw z.0 (subst (λ v. Goes (channel_in v) (requests_in o) (length (replies_in o))) (sym same) (k up))
    ]

send_owes : (c : ℕ) (f : Frame) (b : Broker) (o : List Deed) → Owing c b o → may b f ≡ true → Owing c (send b f) (sent_opening c o f)
send_owes c f b o k =
    let a : ℕ = channel_of f in
    let t : List ℕ = tag_of f in
    let d : BrokerFrame = broker_frame f in
    let after_close : Broker = record b { connection = connection.Stopped } in
    let after_ok : Broker = record b { connection = after_own_close_ok b.connection } in
    let other : Broker = record (send_on a t d b) { reading = cond (is_close d && is_read_on a b.reading) None b.reading } in
    let goes : Bool = is_up b.connection && may_in (channel_at b a).peer (channel_at b a) t d in
    elim (is_connection_close d) as (λ v. cond v (is_up b.connection) (cond (is_connection_close_ok d) (owes_connection b.connection) goes) ≡ true → Owing c (cond v after_close (cond (is_connection_close_ok d) after_ok other)) (sent_opening c o f)) [
      | true ↦ λ m up. absurd (not_both (is_up connection.Stopped) up refl)
      | false ↦ elim (is_connection_close_ok d) as (λ v. cond v (owes_connection b.connection) goes ≡ true → Owing c (cond v after_ok other) (sent_opening c o f)) [
        | true ↦ λ m up. absurd (not_both (is_up (after_own_close_ok b.connection)) up (own_down b.connection m))
        | false ↦ λ m _. let both = and_parts (is_up b.connection) _ m in channel_sent c f b o k both.0 both.1
      ]
    ]

conn_none : (d : BrokerFrame) → replies_as d ≡ true → (is_connection_close d ≡ false) × (is_connection_close_ok d ≡ false)
conn_none broker.ConnectionClose r = absurd cc
conn_none broker.ConnectionCloseOk r = absurd cc
conn_none _ r = (refl, refl)

-- a reply that is sent is to the request at its place
answer_sent : (f : Frame) (b : Broker) (o : List Deed) → Owing (channel_of f) b o → may b f ≡ true → replies f ≡ true → IsAnswer o f
answer_sent f b o k m r =
    let n = conn_none (broker_frame f) r in
    let both = and_parts (is_up b.connection) (may_in (channel_at b (channel_of f)).peer (channel_at b (channel_of f)) (tag_of f) (broker_frame f)) (rw (n.0, n.1) at m) in
    let x = next_in (channel_at b (channel_of f)).peer (tag_of f) (broker_frame f) (channel_at b (channel_of f)) (requests_in o) (length (replies_in o)) (k both.0) both.1 r in
    record { request = x.request; was_read = x.at; kind = x.kind }

-- ---- all that were sent

abbrev pub AreAnswered : List Deed → List Deed → Type 0
AreAnswered seen [] = Unit {0}
AreAnswered seen (Read l ∷ ds) = AreAnswered (seen ++ Read l ∷ []) ds
AreAnswered seen (Sent f ∷ ds) = (replies f ≡ true → IsAnswer seen f) × AreAnswered (seen ++ Sent f ∷ []) ds

answered-push : (seen o : List Deed) (d : Deed) → AreAnswered seen o → AreAnswered (seen ++ o) (d ∷ []) → AreAnswered seen (o ++ d ∷ [])
answered-push seen [] d h k = subst (λ v. AreAnswered v (d ∷ [])) (append-nil seen) k
answered-push seen (Read l ∷ o) d h k = answered-push (seen ++ Read l ∷ []) o d h (subst (λ v. AreAnswered v (d ∷ [])) (sym (append_assoc seen (Read l ∷ []) o)) k)
answered-push seen (Sent f ∷ o) d h k = (h.0, answered-push (seen ++ Sent f ∷ []) o d h.1 (subst (λ v. AreAnswered v (d ∷ [])) (sym (append_assoc seen (Sent f ∷ []) o)) k))

answered-at : (seen before behind : List Deed) (f : Frame) → AreAnswered seen (before ++ Sent f ∷ behind) → replies f ≡ true → IsAnswer (seen ++ before) f
answered-at seen [] behind f h r = subst (λ v. IsAnswer v f) (sym (append-nil seen)) (h.0 r)
answered-at seen (Read l ∷ before) behind f h r = subst (λ v. IsAnswer v f) (append_assoc seen (Read l ∷ []) before) (answered-at (seen ++ Read l ∷ []) before behind f h r)
answered-at seen (Sent g ∷ before) behind f h r = subst (λ v. IsAnswer v f) (append_assoc seen (Sent g ∷ []) before) (answered-at (seen ++ Sent g ∷ []) before behind f h.1 r)

-- ---- every joined run

pub record Ledger (c : ℕ) (b : Broker) (ds : List Deed) : Type 0 where
  pub owes : Owing c b (last_opening c ds)
  pub answers : AreAnswered [] (last_opening c ds)

ledger_read : (c : ℕ) (b : Broker) (ds : List Deed) (l : Left) → Ledger c b ds → Ledger c (read b l.frame) (ds ++ Read l ∷ [])
ledger_read c b ds l k = record {
  owes = subst (Owing c (read b l.frame)) (sym (last-push c ds (Read l))) (read_owes c l b (last_opening c ds) k.owes);
  answers = subst (AreAnswered []) (sym (last-push c ds (Read l))) (elim (channel_of l.frame == c) as (λ v. AreAnswered [] (cond v (joined_opening (last_opening c ds) (Read l)) (last_opening c ds))) [
    | true ↦ elim (is_open l.frame) as (λ v. AreAnswered [] (cond v [] (last_opening c ds ++ Read l ∷ []))) [ true ↦ tt | false ↦ answered-push [] (last_opening c ds) (Read l) k.answers tt ]
    | false ↦ k.answers
  ]);
}

ledger_send : (c : ℕ) (b : Broker) (ds : List Deed) (f : Frame) → may b f ≡ true → Ledger c b ds → Ledger c (send b f) (ds ++ Sent f ∷ [])
ledger_send c b ds f m k = record {
  owes = subst (Owing c (send b f)) (sym (last-sent c ds f)) (send_owes c f b (last_opening c ds) k.owes m);
  answers = subst (AreAnswered []) (sym (last-sent c ds f)) (elim (eqb_tells (channel_of f) c) [
    | inl z ↦ rw z.0 (answered-push [] (last_opening c ds) (Sent f) k.answers ((λ r. answer_sent f b (last_opening c ds) (subst (λ v. Owing v b (last_opening c ds)) (sym z.1) k.owes) m r), tt))
    | inr z ↦ rw z.0 k.answers
  ]);
}

more_none : (c : ℕ) (b : Broker) (ds : List Deed) → Ledger c b ds → Ledger c b (ds ++ [])
more_none c b ds k = subst (Ledger c b) (sym (append-nil ds)) k

client_ledger : {S : Type 0} (c : ℕ) (v : Bool) (j k : Joint S) (ds : List Deed) → k.broker ≡ j.broker → Ledger c j.broker ds → Ledger c (cond v k j).broker (ds ++ [])
client_ledger c true j k ds e h = more_none c _ ds (subst (λ b. Ledger c b ds) (sym e) h)
client_ledger c false j k ds e h = more_none c _ ds h

read_ledger : {S : Type 0} (c : ℕ) (ls : List Left) (j : Joint S) (ds : List Deed) → Ledger c j.broker ds → Ledger c (read_first ls j).broker (ds ++ reads_of (front ls))
read_ledger c [] j ds h = more_none c _ ds h
read_ledger c (l ∷ ls) j ds h = ledger_read c j.broker ds l h

send_ledger : {S : Type 0} (c : ℕ) (f : Frame) (j : Joint S) (ds : List Deed) → Ledger c j.broker ds → Ledger c (cond (may j.broker f) (send_down f j) j).broker (ds ++ cond (may j.broker f) (Sent f ∷ []) [])
send_ledger c f j ds h = elim (may j.broker f) as (λ v. may j.broker f ≡ v → Ledger c (cond v (send_down f j) j).broker (ds ++ cond v (Sent f ∷ []) [])) [ true ↦ λ m. ledger_send c j.broker ds f m h | false ↦ λ m. more_none c _ ds h ] refl

deliver_ledger : {S : Type 0} (c : ℕ) (m : Way S) (fs : List Frame) (j : Joint S) (ds : List Deed) → Ledger c j.broker ds → Ledger c (deliver_first m fs j).broker (ds ++ [])
deliver_ledger c m [] j ds h = more_none c _ ds h
deliver_ledger c m (f ∷ fs) j ds h = more_none c _ ds h

ledger_after : {S : Type 0} (c : ℕ) (m : Way S) (s : Step) (j : Joint S) (ds : List Deed) → Ledger c j.broker ds → Ledger c (after m s j).broker (ds ++ deed_in s j)
ledger_after c m (step.Client e) j ds h = client_ledger c (is_lawful e) j (client m e j) ds refl h
ledger_after c m step.Read j ds h = read_ledger c j.up j ds h
ledger_after c m (step.Send f) j ds h = send_ledger c f j ds h
ledger_after c m step.Deliver j ds h = deliver_ledger c m j.down j ds h
ledger_after c m step.Lose j ds h = more_none c _ ds (record { owes = λ up. absurd (not_both _ up (lost_down j.broker.connection)); answers = h.answers })

ledger_all : {S : Type 0} (c : ℕ) (m : Way S) (ss : List Step) (j : Joint S) (ds : List Deed) → Ledger c j.broker ds → Ledger c (run m ss j).broker (ds ++ along m deed_in ss j)
ledger_all c m [] j ds h = more_none c _ ds h
ledger_all c m (s ∷ ss) j ds h = subst (Ledger c _) (append_assoc ds (deed_in s j) (along m deed_in ss (after m s j))) (ledger_all c m ss (after m s j) (ds ++ deed_in s j) (ledger_after c m s j ds h))

pub ledger_of : (n c : ℕ) (ss : List Step) → Ledger c (joined_to n ss).broker (deeds n ss)
ledger_of n c ss = ledger_all c (by_history n) ss (new_joint [] n) [] (record { owes = λ up. refl; answers = tt })

pub answers_in : (n : ℕ) (ss : List Step) (c : ℕ) (before behind : List Deed) (f : Frame) → last_opening c (deeds n ss) ≡ before ++ Sent f ∷ behind → replies f ≡ true → IsAnswer before f
answers_in n ss c before behind f e r = answered-at [] before behind f (subst (AreAnswered []) e (ledger_of n c ss).answers) r

-- so is the one that the session receives next on a channel that it hears
pub answer_comes : (n : ℕ) → 4096 ≤ n → (ss : List Step) (f : Frame) (way : List Frame) → (joined_to n ss).down ≡ f ∷ way → receives_on (state_of (channel_of f) (past_of n ss).wire) ≡ true → replies f ≡ true → (before : List Deed) × (behind : List Deed) × (last_opening (channel_of f) (deeds n ss) ≡ before ++ Sent f ∷ behind) × IsAnswer before f
answer_comes n most ss f way down on r =
    let c : ℕ = channel_of f in
    let t = in_step n most ss c on in
    let here : filter (is_frame_on c) (joined_to n ss).down ≡ f ∷ filter (is_frame_on c) way = ap (filter (is_frame_on c)) down ∙ ap (λ v. cond v (f ∷ filter (is_frame_on c) way) (filter (is_frame_on c) way)) (eq-eqb c c refl) in
    let s = split_at (last_opening c (deeds n ss)) t.came f (filter (is_frame_on c) way) (t.way ∙ ap (λ v. t.came ++ v) here) in
    (s.before, s.behind, s.all, answers_in n ss c s.before s.behind f s.all r)
