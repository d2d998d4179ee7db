-- A frame request is a run of the pair of machines, and keeps what the session holds.
use Rattle.std.proofs.Common.{◌≡◌, ℕ, ◌<◌, Bool, true, false, cond, ◌==◌, List, [], ◌∷◌, ◌++◌, map, refl, sym, ◌∙◌, ap, ap₂, subst, subst₂, append-nil, Option, Some, None, ◌⊎◌, inl, inr}
use Rattle.std.proofs.lemmas.Bool.Decides.{eqb_tells}
use Rattle.std.specs.List.{find}
use Rattle.std.specs.Option.{option_map}
use mathlib.Core.Path.{fun_ext}
use Rattle.lapin_tables.specs.ByChannel.{on_channel}
use Rattle.lapin_types.specs.declared.leaving.Left.{Left}
use Rattle.lapin_types.specs.declared.leaving.Publish.{Publish}
use Rattle.lapin_types.specs.declared.request.Request.{Request}
use Rattle.lapin_types.specs.Types.{Frame}
use Rattle.lapin_types.specs.Types.frame
use Rattle.lapin_content.specs.Channels.{Channels, expected_on}
use Rattle.lapin_rules.specs.declared.phases.ChannelPhase.{ChannelPhase}
use Rattle.lapin_rules.specs.declared.phases.ChannelPhase.TheVariants as phase
use Rattle.lapin_rules.specs.declared.phases.ConnectionPhase.{ConnectionPhase}
use Rattle.lapin_rules.specs.declared.phases.ConnectionPhase.TheVariants as link
use Rattle.lapin_rules.specs.declared.phases.CloseStage.TheVariants as stage
use Rattle.lapin_rules.specs.Words.{without_first}
use Rattle.lapin_rules.specs.Phases.{is_up}
use Rattle.lapin_rules.specs.ChannelClose.{close_sent, phases_sent}
use Rattle.lapin_rules.specs.ConnectionClose.{link_close_sent, link_sent}
use Rattle.lapin_rules.specs.Drops.{frame_channel}
use Rattle.lapin_rules.specs.Frames.{MethodEntry, RestEntry, rest_of, left_rest, left_method, left_publish}
use Rattle.lapin_rules.specs.Leaving.{may_begin, begun_rest, handed_of, left_of, left_lists}
use Rattle.lapin_rules.specs.Handing.{handed_out, began_on, frame_record, sent, after_handing, after_next}
use Rattle.lapin_rules.specs.Wire.{Wire, phase_of, requests_of, lists_of, with_lists}
use Rattle.lapin_machine.proofs.Handed.{handed_told, left_told}
use Rattle.lapin_broker.specs.States.{Broker}
use Rattle.lapin_broker.specs.Frames.{client_frame}
use Rattle.lapin_pairs.specs.Machine.{Up, UClose, has_close}
use Rattle.lapin_pairs.specs.Channel as kept
use Rattle.lapin_pairs.specs.Channel.{UpF, FHeader, FBody, kind_up, sum_suc, bodies_of, publish_frames}
use Rattle.lapin_pairs.specs.Every.{UpOn, OnU, CloseU, CloseOkU, of_u, on_all, has_any, All, CallA, NextA, calls_a, called_a, hands_a, happens_a, run_a}
use Rattle.lapin_pairs.specs.Asking.{U2, Plain, SelectAsk, plains, KBegin, call2, asking}
use Rattle.lapin_pairs.proofs.Erase.{map-append}
use Rattle.lapin_pairs.proofs.Every.{of_on, of_on_other}
use Rattle.lapin_pairs.proofs.Asking.{flats-plains}
use Rattle.lapin_concord.specs.Frames.{up_frame, IsSent}
use Rattle.lapin_concord.specs.Wires.{phase_as, link_as, asked_in, contents_as, chan_as, chans_as, chans_up, rest_as, waiting_as, waits_as, pair_as}
use Rattle.lapin_concord.specs.Held.{ends_close, way, IsMarked, IsLinked, AreOn, is_open_phase, AreOpen, IsWhole, HeldAt, Held, AreRestSent, AreMethodsSent}
use Rattle.lapin_concord.proofs.Views.{Told, Untold, Departs, Begins, Follows, stays, one_step, phase_at, phase_on_here, phase_on_away, HeldOn, put_same}
use Rattle.lapin_concord.proofs.Queues.{opened}
use Rattle.lapin_concord.proofs.Queueing.{open_is}
use Rattle.lapin_concord.proofs.Frames.{closes_u, closes_on, closes_all, Leaves, Closing, Hanging, Going, leaves}
use Rattle.lapin_concord.proofs.Bodies.{sizes_of, rest_frames, whole_rest, rest_fits}
use Rattle.lapin_rules.proofs.PhaseLaws.{up_open}

-- ---- where the connection and the channels stand

link_kept : (l : ConnectionPhase) → (link_as (link_close_sent l) ≡ link_as l) × (is_up (link_close_sent l) ≡ is_up l)
link_kept (link.Closing stage.Queued) = (refl, refl)
link_kept _ = (refl, refl)

link_same : (f : Frame) (l : ConnectionPhase) → Leaves f → (link_as (link_sent f l) ≡ link_as l) × (is_up (link_sent f l) ≡ is_up l)
link_same f l (Closing c u p k) = (ap link_as (k l), ap is_up (k l))
link_same f l (Hanging u p k) = (ap link_as (k l) ∙ (link_kept l).0, ap is_up (k l) ∙ (link_kept l).1)
link_same f l (Going u v p k) = (ap link_as (k l), ap is_up (k l))

phase_kept : (p : ChannelPhase) → phase_as (close_sent p) ≡ phase_as p
phase_kept phase.Closed = refl
phase_kept phase.Opening = refl
phase_kept (phase.Open t) = refl
phase_kept (phase.Closing who sent) = refl
phase_kept phase.Crossed = refl

chans_closed : (c : ℕ) (ps : List (ℕ × ChannelPhase)) (rs : List (ℕ × List Request)) (es : Channels) → chans_as (on_channel c close_sent ps) rs es ≡ chans_as ps rs es
chans_closed c ps rs es = fun_ext (λ e. elim (eqb_tells c e) [
  | inl y ↦ let h : phase_as (phase_at e (on_channel c close_sent ps)) ≡ phase_as (phase_at e ps) = subst (λ k. phase_as (phase_at k (on_channel c close_sent ps)) ≡ phase_as (phase_at k ps)) y.1 (ap phase_as (phase_on_here c close_sent ps refl) ∙ phase_kept (phase_at c ps)) in λ i. record (chans_as ps rs es e) { sess = h i }
  | inr n ↦ let h = phase_on_away c e close_sent ps n.0 in λ i. record (chans_as ps rs es e) { sess = phase_as (h i) }
])

chans_left : (f : Frame) (ps : List (ℕ × ChannelPhase)) (rs : List (ℕ × List Request)) (es : Channels) → Leaves f → chans_as (phases_sent f ps) rs es ≡ chans_as ps rs es
chans_left f ps rs es (Closing c u p k) = ap (λ q. chans_as q rs es) (p ps) ∙ chans_closed c ps rs es
chans_left f ps rs es (Hanging u p k) = ap (λ q. chans_as q rs es) (p ps)
chans_left f ps rs es (Going u v p k) = ap (λ q. chans_as q rs es) (p ps)

chans_up_left : (f : Frame) (l : ConnectionPhase) (ps : List (ℕ × ChannelPhase)) (rs : List (ℕ × List Request)) (es : Channels) → Leaves f → chans_up (is_up (link_sent f l)) (phases_sent f ps) rs es ≡ chans_up (is_up l) ps rs es
chans_up_left f l ps rs es h = ap (λ t. chans_up t (phases_sent f ps) rs es) (link_same f l h).1 ∙ elim (is_up l) as (λ t. chans_up t (phases_sent f ps) rs es ≡ chans_up t ps rs es) [ true ↦ chans_left f ps rs es h | false ↦ refl ]

-- ---- the marks

some_way : (us : List U2) → way us ≡ [] → us ≡ []
some_way [] h = refl
some_way (Plain u ∷ us) h = cc
some_way (SelectAsk ∷ us) h = cc

-- this side's close leaves
mark_close : (p : ChannelPhase) (us : List U2) → IsMarked p (Plain kept.FClose ∷ us) → IsMarked (close_sent p) us
mark_close phase.Closed us h = cc
mark_close phase.Opening us h = cc
mark_close (phase.Open t) us h = cc
mark_close (phase.Closing who true) us h = cc
mark_close (phase.Closing who false) us h = some_way us (alone (way us) h)
  where
    alone : (vs : List Up) → ends_close (UClose ∷ vs) ≡ true → vs ≡ []
    alone [] h = refl
    alone (v ∷ vs) h = cc
mark_close phase.Crossed us h = cc

-- another frame of the channel leaves
record Quiet (u : U2) : Type 0 where
  ends : (us : List U2) → ends_close (way (u ∷ us)) ≡ ends_close (way us)
  has : (us : List U2) → has_close (way (u ∷ us)) ≡ has_close (way us)

quiet : (u : U2) → closes_u u ≡ false → Quiet u
quiet (Plain kept.FClose) h = cc
quiet (Plain kept.FOpen) h = record { ends = λ us. refl; has = λ us. refl }
quiet (Plain kept.FCloseOk) h = record { ends = λ us. refl; has = λ us. refl }
quiet (Plain kept.FTell) h = record { ends = λ us. refl; has = λ us. refl }
quiet (Plain kept.FSelect) h = record { ends = λ us. refl; has = λ us. refl }
quiet (Plain (kept.FAsk k)) h = record { ends = λ us. refl; has = λ us. refl }
quiet (Plain (kept.FPublish i)) h = record { ends = λ us. refl; has = λ us. refl }
quiet (Plain (kept.FHeader n)) h = record { ends = λ us. refl; has = λ us. refl }
quiet (Plain (kept.FBody n)) h = record { ends = λ us. refl; has = λ us. refl }
quiet SelectAsk h = record { ends = λ us. refl; has = λ us. refl }

mark_quiet : (p : ChannelPhase) (u : U2) (us : List U2) → Quiet u → IsMarked p (u ∷ us) → IsMarked p us
mark_quiet phase.Closed u us q h = sym (q.has us) ∙ h
mark_quiet phase.Opening u us q h = sym (q.has us) ∙ h
mark_quiet (phase.Open t) u us q h = sym (q.has us) ∙ h
mark_quiet (phase.Closing who true) u us q h = cc
mark_quiet (phase.Closing who false) u us q h = sym (q.ends us) ∙ h
mark_quiet phase.Crossed u us q h = sym (q.has us) ∙ h

mark_left : (p : ChannelPhase) (e : ℕ) (x : UpOn U2) (fs : List (UpOn U2)) → closes_on x ≡ false → IsMarked p (of_u e (x ∷ fs)) → IsMarked p (of_u e fs)
mark_left p e (OnU c u) fs n h = (elim (c == e) as (λ t. IsMarked p (cond t (u ∷ of_u e fs) (of_u e fs)) → IsMarked p (of_u e fs)) [ true ↦ λ h. mark_quiet p u (of_u e fs) (quiet u n) h | false ↦ λ h. h ]) h
mark_left p e CloseU fs n h = h
mark_left p e CloseOkU fs n h = h

back_opening : (p : ChannelPhase) → close_sent p ≡ phase.Opening → p ≡ phase.Opening
back_opening phase.Closed h = cc
back_opening phase.Opening h = refl
back_opening (phase.Open t) h = cc
back_opening (phase.Closing who sent) h = cc
back_opening phase.Crossed h = cc

back_crossed : (p : ChannelPhase) → close_sent p ≡ phase.Crossed → p ≡ phase.Crossed
back_crossed phase.Closed h = cc
back_crossed phase.Opening h = cc
back_crossed (phase.Open t) h = cc
back_crossed (phase.Closing who sent) h = cc
back_crossed phase.Crossed h = refl

open_kept : (p : ChannelPhase) → is_open_phase (close_sent p) ≡ is_open_phase p
open_kept phase.Closed = refl
open_kept phase.Opening = refl
open_kept (phase.Open t) = refl
open_kept (phase.Closing who sent) = refl
open_kept phase.Crossed = refl

-- ---- one frame leaves

-- b with these frames that wait, once f has left
abbrev gone : Frame → List RestEntry → List MethodEntry → Wire → Wire
gone f rest methods b = record b { link = link_sent f b.link; phases = phases_sent f b.phases; rest = rest; methods = methods }

held_on : (p q : ChannelPhase) (b : Wire) (e : ℕ) (us : List U2) → (q ≡ phase.Opening → p ≡ phase.Opening) → (q ≡ phase.Crossed → p ≡ phase.Crossed) → (IsMarked p (of_u e (waits_as b)) → IsMarked q us) → HeldAt p (requests_of e b) (expected_on e b.contents) (of_u e (waits_as b)) → HeldAt q (requests_of e b) (expected_on e b.contents) us
held_on p q b e us o x m h = record { opening = λ y. h.opening (o y); crossed = λ y. h.crossed (x y); marks = m h.marks; contents = h.contents }

gone_each : (f : Frame) (rest : List RestEntry) (methods : List MethodEntry) (b : Wire) → waits_as b ≡ up_frame f ∷ waiting_as rest methods → Leaves f → ((e : ℕ) → HeldOn e b) → (e : ℕ) → HeldOn e (gone f rest methods b)
gone_each f rest methods b w (Going u v p k) h e = held_on (phase_of e b) (phase_at e (phases_sent f b.phases)) b e (of_u e (waiting_as rest methods)) (λ y. sym (ap (phase_at e) (p b.phases)) ∙ y) (λ y. sym (ap (phase_at e) (p b.phases)) ∙ y)
    (λ m. subst (λ q. IsMarked q (of_u e (waiting_as rest methods))) (sym (ap (phase_at e) (p b.phases))) (mark_left (phase_of e b) e (up_frame f) (waiting_as rest methods) u (subst (λ fs. IsMarked (phase_of e b) (of_u e fs)) w m))) (h e)
gone_each f rest methods b w (Hanging u p k) h e = held_on (phase_of e b) (phase_at e (phases_sent f b.phases)) b e (of_u e (waiting_as rest methods)) (λ y. sym (ap (phase_at e) (p b.phases)) ∙ y) (λ y. sym (ap (phase_at e) (p b.phases)) ∙ y)
    (λ m. subst (λ q. IsMarked q (of_u e (waiting_as rest methods))) (sym (ap (phase_at e) (p b.phases))) (mark_left (phase_of e b) e CloseU (waiting_as rest methods) refl (subst (λ fs. IsMarked (phase_of e b) (of_u e fs)) (w ∙ ap (λ x. x ∷ waiting_as rest methods) u) m))) (h e)
gone_each f rest methods b w (Closing c u p k) h e =
    let fs : List (UpOn U2) = waiting_as rest methods in
    let ways : waits_as b ≡ OnU c (Plain kept.FClose) ∷ fs = w ∙ ap (λ x. x ∷ fs) u in
    elim (eqb_tells c e) [
      | inl y ↦
          let q : phase_at e (phases_sent f b.phases) ≡ close_sent (phase_of e b) = ap (phase_at e) (p b.phases) ∙ subst (λ i. phase_at i (on_channel c close_sent b.phases) ≡ close_sent (phase_of i b)) y.1 (phase_on_here c close_sent b.phases refl) in
          let here : of_u e (OnU c (Plain kept.FClose) ∷ fs) ≡ Plain kept.FClose ∷ of_u e fs = rw y.0 refl in
          held_on (phase_of e b) (phase_at e (phases_sent f b.phases)) b e (of_u e fs) (λ x. back_opening (phase_of e b) (sym q ∙ x)) (λ x. back_crossed (phase_of e b) (sym q ∙ x))
          (λ m. subst (λ r. IsMarked r (of_u e fs)) (sym q) (mark_close (phase_of e b) (of_u e fs) (subst (λ us. IsMarked (phase_of e b) us) (ap (of_u e) ways ∙ here) m))) (h e)
      | inr n ↦
          let q : phase_at e (phases_sent f b.phases) ≡ phase_of e b = ap (phase_at e) (p b.phases) ∙ phase_on_away c e close_sent b.phases n.0 in
          let here : of_u e (OnU c (Plain kept.FClose) ∷ fs) ≡ of_u e fs = rw n.0 refl in
          held_on (phase_of e b) (phase_at e (phases_sent f b.phases)) b e (of_u e fs) (λ x. sym q ∙ x) (λ x. sym q ∙ x)
          (λ m. subst (λ r. IsMarked r (of_u e fs)) (sym q) (subst (λ us. IsMarked (phase_of e b) us) (ap (of_u e) ways ∙ here) m)) (h e)
    ]

phase_gone : (f : Frame) (e : ℕ) (ps : List (ℕ × ChannelPhase)) → Leaves f → (phase_at e (phases_sent f ps) ≡ phase_at e ps) ⊎ (phase_at e (phases_sent f ps) ≡ close_sent (phase_at e ps))
phase_gone f e ps (Closing c u p k) = elim (eqb_tells c e) [
  | inl y ↦ inr (ap (phase_at e) (p ps) ∙ subst (λ i. phase_at i (on_channel c close_sent ps) ≡ close_sent (phase_at i ps)) y.1 (phase_on_here c close_sent ps refl))
  | inr n ↦ inl (ap (phase_at e) (p ps) ∙ phase_on_away c e close_sent ps n.0)
]
phase_gone f e ps (Hanging u p k) = inl (ap (phase_at e) (p ps))
phase_gone f e ps (Going u v p k) = inl (ap (phase_at e) (p ps))

open_gone : (f : Frame) (ps : List (ℕ × ChannelPhase)) (qs : List Publish) → Leaves f → AreOpen ps qs → AreOpen (phases_sent f ps) qs
open_gone f ps [] l h = tt
open_gone f ps (q ∷ qs) l h = (elim (phase_gone f q.channel ps l) [ inl y ↦ ap is_open_phase y ∙ h.0 | inr y ↦ ap is_open_phase y ∙ (open_kept (phase_at q.channel ps) ∙ h.0) ], open_gone f ps qs l h.1)

linked_gone : (f : Frame) (l : ConnectionPhase) (fs : List (UpOn U2)) → Leaves f → IsLinked l (up_frame f ∷ fs) → IsLinked (link_sent f l) fs
linked_gone f link.Open fs (Closing c u p k) h = subst (λ q. IsLinked q fs) (sym (k link.Open)) tt
linked_gone f link.Open fs (Hanging u p k) h = subst (λ q. IsLinked q fs) (sym (k link.Open)) tt
linked_gone f link.Open fs (Going u v p k) h = subst (λ q. IsLinked q fs) (sym (k link.Open)) tt
linked_gone f (link.Closing stage.Sent) fs l h = cc
linked_gone f (link.Closing stage.Crossed) fs (Closing c u p k) h = subst (λ q. IsLinked q fs) (sym (k (link.Closing stage.Crossed))) tt
linked_gone f (link.Closing stage.Crossed) fs (Hanging u p k) h = subst (λ q. IsLinked q fs) (sym (k (link.Closing stage.Crossed))) tt
linked_gone f (link.Closing stage.Crossed) fs (Going u v p k) h = subst (λ q. IsLinked q fs) (sym (k (link.Closing stage.Crossed))) tt
linked_gone f (link.Closing stage.Queued) fs (Hanging u p k) h = subst (λ q. IsLinked q fs) (sym (k (link.Closing stage.Queued))) (let t : fs ≡ [] = cc in t)
linked_gone f (link.Closing stage.Queued) fs (Closing c u p k) h = let x : up_frame f ≡ CloseU = cc in let y : OnU c (Plain kept.FClose) ≡ CloseU = sym u ∙ x in absurd cc
linked_gone f (link.Closing stage.Queued) fs (Going u v p k) h = let x : up_frame f ≡ CloseU = cc in let y : true ≡ false = ap closes_all (sym x) ∙ v in absurd cc
linked_gone f link.Closed fs (Closing c u p k) h = subst (λ q. IsLinked q fs) (sym (k link.Closed)) tt
linked_gone f link.Closed fs (Hanging u p k) h = subst (λ q. IsLinked q fs) (sym (k link.Closed)) tt
linked_gone f link.Closed fs (Going u v p k) h = subst (λ q. IsLinked q fs) (sym (k link.Closed)) tt
linked_gone f link.Lost fs l h = cc

-- the wire after a frame request, with what left
pub record Hands (k : Told) (b d : Wire) (us : List Left) : Type 0 where
  pub held : Held d
  pub follows : (br : Broker) (vs : List Left) (ds : List Frame) → Follows k (pair_as b br vs ds) (pair_as d br (vs ++ us) ds)

gone_hands : (l : Left) (rest : List RestEntry) (methods : List MethodEntry) (b : Wire) → waits_as b ≡ up_frame l.frame ∷ waiting_as rest methods → IsSent b.frame_max (client_frame l.frame) → (IsWhole b.rest → IsWhole rest) → AreRestSent b.frame_max rest → AreMethodsSent b.frame_max methods → Held b → Hands Departs b (gone l.frame rest methods b) (l ∷ [])
gone_hands l rest methods b w s r x y h =
    let f : Frame = l.frame in
    let k = leaves f b.frame_max s in
    let i = link_same f b.link k in
    record {
      held = record {
        up = λ o.
            let e : b.link ≡ link.Open = up_open b.link (sym i.1 ∙ ap is_up o) in
            let u = h.up e in
            record {
              zero = elim (phase_gone f 0 b.phases k) [ inl y ↦ y ∙ u.zero | inr y ↦ y ∙ ap close_sent u.zero ];
              each = gone_each f rest methods b w k u.each;
              publishes = open_gone f b.phases b.publishes k u.publishes;
              rest = r u.rest;
            };
        shut = λ o. h.shut (sym i.1 ∙ o);
        linked = linked_gone f b.link (waiting_as rest methods) k (subst (IsLinked b.link) w h.linked);
        rest = x;
        methods = y;
      };
      follows = λ br vs ds.
          let v : All asking = pair_as b br vs ds in
          one_step Departs v _ NextA refl (refl, tt) (ap (hands_a asking v) w ∙ (λ j. record v {
            conn = sym i.0 j;
            chans = sym (chans_up_left f b.link b.phases b.requests b.contents k) j;
            unsent = waiting_as rest methods;
            up = sym (map-append (λ (q : Left). up_frame q.frame) vs (l ∷ [])) j;
          }));
    }

-- ---- a publish begins

pub open_found : (q : Publish → Bool) (ps : List (ℕ × ChannelPhase)) (qs : List Publish) (p : Publish) → find q qs ≡ Some p → AreOpen ps qs → is_open_phase (phase_at p.channel ps) ≡ true
open_found q ps [] p e h = cc
open_found q ps (x ∷ xs) p e h = elim (q x) as (λ t. cond t (Some x) (find q xs) ≡ Some p → is_open_phase (phase_at p.channel ps) ≡ true) [
  | true ↦ λ e. let y : x ≡ p = cc in subst (λ (z : Publish). is_open_phase (phase_at z.channel ps) ≡ true) y h.0
  | false ↦ λ e. open_found q ps xs p e h.1
] e

open_without : (q : Publish → Bool) (ps : List (ℕ × ChannelPhase)) (qs : List Publish) → AreOpen ps qs → AreOpen ps (without_first q qs)
open_without q ps [] h = tt
open_without q ps (x ∷ xs) h = elim (q x) as (λ t. AreOpen ps (cond t xs (x ∷ without_first q xs))) [ true ↦ h.1 | false ↦ (h.0, open_without q ps xs h.1) ]

bodies_way : (ns : List ℕ) → has_close (map kind_up (bodies_of ns)) ≡ false
bodies_way [] = refl
bodies_way (n ∷ ns) = bodies_way ns

begin_hands : (p : Publish) (qs : List Publish) (b : Wire) → 8 < b.frame_max → b.link ≡ link.Open → is_open_phase (phase_of p.channel b) ≡ true → AreOpen b.phases qs → b.rest ≡ [] → b.methods ≡ [] → Held b → Hands (Begins p.channel) b (record b { rest = rest_of b.frame_max p; methods = []; publishes = qs }) (left_publish p ∷ [])
begin_hands p qs b g e o q r m h =
    let c : ℕ = p.channel in
    let d : Wire = record b { rest = rest_of b.frame_max p; methods = []; publishes = qs } in
    let ns : List ℕ = sizes_of b.frame_max p in
    let pieces : List UpF = FHeader (sum_suc ns) ∷ bodies_of ns in
    let u = h.up e in
    let n = open_is (phase_of c b) o in
    let none : waits_as b ≡ [] = ap₂ waiting_as r m in
    let ways : waits_as d ≡ on_all c (plains pieces) = append-nil (map rest_as (rest_of b.frame_max p)) ∙ rest_frames b.frame_max p g in
    let xs : List ℕ = asked_in (requests_of c b) in
    let z : kept.Content = contents_as (expected_on c b.contents) in
    record {
      held = record {
        up = λ x. record {
          zero = u.zero;
          each = λ k. elim (eqb_tells c k) [
            | inl y ↦
                let is : phase_of k b ≡ phase.Open n.paused = subst (λ i. phase_of i b ≡ phase.Open n.paused) y.1 n.is in
                let way_is : way (of_u k (waits_as d)) ≡ map kind_up pieces = ap (λ i. way (of_u i (waits_as d))) (sym y.1) ∙ (ap (λ fs. way (of_u c fs)) ways ∙ (ap way (of_on c (plains pieces)) ∙ ap (map kind_up) (flats-plains pieces))) in
                let clear : has_close (way (of_u k (waits_as d))) ≡ false = ap has_close way_is ∙ bodies_way ns in
                held_on (phase_of k b) (phase_of k b) b k (of_u k (waits_as d)) (λ x. x) (λ x. x) (λ m. subst (λ i. IsMarked i (of_u k (waits_as d))) (sym is) clear) (u.each k)
            | inr y ↦
                let way_is : of_u k (waits_as d) ≡ of_u k (waits_as b) = ap (of_u k) ways ∙ (of_on_other c k (plains pieces) y.0 ∙ sym (ap (of_u k) none)) in
                held_on (phase_of k b) (phase_of k b) b k (of_u k (waits_as d)) (λ x. x) (λ x. x) (λ m. subst (IsMarked (phase_of k b)) (sym way_is) m) (u.each k)
          ];
          publishes = q;
          rest = whole_rest b.frame_max p;
        };
        shut = λ x. let y : true ≡ false = ap is_up (sym e) ∙ x in cc;
        linked = subst (λ l. IsLinked l (waits_as d)) (sym e) tt;
        rest = rest_fits b.frame_max p;
        methods = tt;
      };
      follows = λ br us ds.
          let v : All asking = pair_as b br us ds in
          let there : v.chans c ≡ opened xs z = ap (λ l. chans_up (is_up l) b.phases b.requests b.contents c) e ∙ ap (λ x. chan_as x (requests_of c b) (expected_on c b.contents)) n.is in
          let first : happens_a asking v (CallA c (KBegin 0 ns)) ≡ record v { unsent = on_all c (plains (publish_frames 0 ns)) } =
          ap (λ fs. calls_a asking v v.conn c (KBegin 0 ns) (has_any fs)) none
          ∙ (ap (λ s. calls_a asking v s c (KBegin 0 ns) false) (ap link_as e)
          ∙ (ap (λ s. called_a asking v c (call2 (KBegin 0 ns) s)) there
          ∙ ap₂ (λ x y. record v { chans = x; unsent = y ++ on_all c (plains (publish_frames 0 ns)) }) (put_same c (opened xs z) v.chans there) none)) in
          record {
            steps = CallA c (KBegin 0 ns) ∷ NextA ∷ [];
            own = (refl, (refl, tt));
            told = (ns, refl);
            ends = ap (λ w. run_a asking (NextA ∷ []) w) first
                ∙ (λ i. record v { unsent = sym ways i; up = sym (map-append (λ (q : Left). up_frame q.frame) us (left_publish p ∷ [])) i });
          };
    }

-- ---- any frame request

-- what left, alone in a list
abbrev pub alone : Option Left → List Left
alone None = []
alone (Some l) = l ∷ []

whole_tail : (f : RestEntry) (fs : List RestEntry) → IsWhole (f ∷ fs) → IsWhole fs
whole_tail f [] h = tt
whole_tail f (g ∷ fs) h = on_own h.2.0 h.2
  where
    on_own : frame_channel g.frame ≡ frame_channel f.frame → AreOn (frame_channel f.frame) (g ∷ fs) → AreOn (frame_channel g.frame) (g ∷ fs)
    on_own e h = subst (λ k. AreOn k (g ∷ fs)) (sym e) h

same_lists : (b : Wire) (ps : List Publish) → b.rest ≡ [] → b.methods ≡ [] → b.publishes ≡ ps → record b { rest = []; methods = []; publishes = ps } ≡ b
same_lists b ps r m q = λ i. record b { rest = sym r i; methods = sym m i; publishes = sym q i }

pub none_stays : (q : Publish → Bool) (ps : List Publish) → find q ps ≡ None → without_first q ps ≡ ps
none_stays q [] h = refl
none_stays q (p ∷ ps) h = elim (q p) as (λ t. cond t (Some p) (find q ps) ≡ None → cond t ps (p ∷ without_first q ps) ≡ p ∷ ps) [ true ↦ λ h. cc | false ↦ λ h. ap (λ xs. p ∷ xs) (none_stays q ps h) ] h

-- what a frame request is to the tags
abbrev pub told_begin : Option Publish → Told
told_begin None = Untold
told_begin (Some p) = Begins p.channel

abbrev pub told_next : (ℕ → Bool) → List RestEntry → List MethodEntry → List Publish → Told
told_next t (f ∷ fs) ms ps = Departs
told_next t [] (m ∷ ms) ps = Departs
told_next t [] [] ps = told_begin (find (may_begin t) ps)

handing_hands : (t : ℕ → Bool) (b : Wire) (rest : List RestEntry) (methods : List MethodEntry) → b.rest ≡ rest → b.methods ≡ methods → 8 < b.frame_max → Held b → Hands (told_next t rest methods b.publishes) b (after_handing t b) (alone (handed_out t b))
handing_hands t b (f ∷ fs) ms r m g h =
    let x : (IsSent b.frame_max (client_frame f.frame)) × AreRestSent b.frame_max fs = subst (AreRestSent b.frame_max) r h.rest in
    let y = gone_hands (left_rest f) fs b.methods b (ap (λ k. waiting_as k b.methods) r) x.0 (λ w. whole_tail f fs (subst IsWhole r w)) x.1 h.methods h in
    subst₂ (λ d us. Hands Departs b d us) (sym (ap (λ k. sent (handed_of t k b.methods b.publishes) (with_lists (left_of b.frame_max t k b.methods b.publishes) b)) r)) (sym (ap (λ k. alone (handed_of t k b.methods b.publishes)) r)) y
handing_hands t b [] (x ∷ ms) r m g h =
    let y : (IsSent b.frame_max (client_frame (frame.Method x.channel x.method))) × AreMethodsSent b.frame_max ms = subst (AreMethodsSent b.frame_max) m h.methods in
    let z = gone_hands (left_method x) [] ms b (ap₂ waiting_as r m) y.0 (λ w. tt) tt y.1 h in
    subst₂ (λ d us. Hands Departs b d us)
    (sym (ap₂ (λ k j. sent (handed_of t k j b.publishes) (with_lists (left_of b.frame_max t k j b.publishes) b)) r m))
    (sym (ap₂ (λ k j. alone (handed_of t k j b.publishes)) r m)) z
handing_hands t b [] [] r m g h = begins (find (may_begin t) b.publishes) refl
  where
    here : (o : Option Publish) → find (may_begin t) b.publishes ≡ o → Hands (told_begin o) b (sent (option_map left_publish o) (record b { rest = begun_rest b.frame_max o; methods = []; publishes = without_first (may_begin t) b.publishes })) (alone (option_map left_publish o))
    here None e = subst₂ (λ d us. Hands Untold b d us) (sym (ap (λ ps. record b { rest = []; methods = []; publishes = ps }) (none_stays (may_begin t) b.publishes e) ∙ same_lists b b.publishes r m refl)) refl
        (record { held = h; follows = λ br vs ds. stays _ _ (ap (λ us. pair_as b br us ds) (sym (append-nil vs))) })
    here (Some p) e = up (is_up b.link) refl
      where
        up : (s : Bool) → is_up b.link ≡ s → Hands (Begins p.channel) b (record b { rest = rest_of b.frame_max p; methods = []; publishes = without_first (may_begin t) b.publishes }) (left_publish p ∷ [])
        up true s =
            let k : b.link ≡ link.Open = up_open b.link s in
            let u = h.up k in
            begin_hands p (without_first (may_begin t) b.publishes) b g k (open_found (may_begin t) b.phases b.publishes p e u.publishes) (open_without (may_begin t) b.phases b.publishes u.publishes) r m h
        up false s = let x : None ≡ Some p = sym (ap (find (may_begin t)) (h.shut s)) ∙ e in absurd cc

    begins : (o : Option Publish) → find (may_begin t) b.publishes ≡ o → Hands (told_begin o) b (after_handing t b) (alone (handed_out t b))
    begins o e = subst₂ (λ d us. Hands (told_begin o) b d us)
        (sym (ap₂ (λ k j. sent (handed_of t k j b.publishes) (with_lists (left_of b.frame_max t k j b.publishes) b)) r m ∙ ap (λ x. sent (option_map left_publish x) (record b { rest = begun_rest b.frame_max x; methods = []; publishes = without_first (may_begin t) b.publishes })) e))
        (sym (ap₂ (λ k j. alone (handed_of t k j b.publishes)) r m ∙ ap (λ x. alone (option_map left_publish x)) e))
        (here o e)

-- a frame request, by its record, whatever channels are full
pub next_hands : (t : ℕ → Bool) (b : Wire) → 8 < b.frame_max → Held b → Hands (told_next t b.rest b.methods b.publishes) b (after_next (frame_record (handed_out t b)) b) (alone (handed_out t b))
next_hands t b g h =
    let o = handed_told t b in
    let same : after_next (frame_record (handed_out t b)) b ≡ after_handing t b =
    ap (λ x. sent x (with_lists (left_lists b.frame_max (began_on (frame_record (handed_out t b))) (lists_of b)) b)) o ∙ ap (λ ls. sent (handed_out t b) (with_lists ls b)) (left_told t b) in
    subst (λ d. Hands (told_next t b.rest b.methods b.publishes) b d (alone (handed_out t b))) (sym same) (handing_hands t b b.rest b.methods refl refl g h)
