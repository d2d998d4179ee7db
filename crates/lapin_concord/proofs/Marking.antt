-- With each joined run goes a history whose marks note the tags of the pair's session, event by event.
use Rattle.std.proofs.Common.{◌≡◌, ℕ, Bool, true, false, cond, ◌==◌, List, [], ◌∷◌, ◌++◌, refl, sym, ◌∙◌, ap, ap₂, subst, append-nil, append_assoc, Option, Some, None}
use Rattle.lapin_types.specs.declared.event.Event.{Event}
use Rattle.lapin_types.specs.declared.record.Record.{Record}
use Rattle.lapin_types.specs.declared.leaving.Left.{Left}
use Rattle.lapin_types.specs.declared.request.Reply.{Reply}
use Rattle.lapin_types.specs.Types.{Frame, Method}
use Rattle.lapin_types.specs.Types.channel_state as state
use Rattle.lapin_rules.specs.declared.calls.Asked.{Asked}
use Rattle.lapin_rules.specs.declared.calls.Asked.TheVariants as ask
use Rattle.lapin_rules.specs.declared.phases.ConnectionPhase.TheVariants as link
use Rattle.lapin_rules.specs.ConfirmMarks.{ConfirmMark}
use Rattle.lapin_rules.specs.ConfirmMarks as mark
use Rattle.lapin_rules.specs.Events.{confirm_marks}
use Rattle.lapin_rules.specs.History.{History, past}
use Rattle.lapin_rules.specs.Phases.{is_up, channel_state}
use Rattle.lapin_rules.specs.Select as history
use Rattle.lapin_rules.specs.Wire.{Wire, phase_of, state_of}
use Rattle.lapin_rules.specs.Asking.{is_allowed, after_call, call_marks}
use Rattle.lapin_machine.specs.World.{World, told_by, told_or, told_anew, next}
use Rattle.lapin_machine.specs.Stands.{Stands}
use Rattle.lapin_machine.proofs.Back.{given_none}
use Rattle.lapin_machine.proofs.Standing.{stands-next, past-push}
use Rattle.lapin_confirm.specs.Follows.{CameAfter}
use Rattle.lapin_broker.specs.States.{Broker}
use Rattle.lapin_pairs.specs.Machine.{Closed, Opened}
use Rattle.lapin_pairs.specs.Channel as kept
use Rattle.lapin_pairs.specs.Every.{UpOn, CloseU, of_u, All, StepA, CallA, SendA, HangUpA, NextA, ReadA, DeliverA, LoseA, happens_a}
use Rattle.lapin_pairs.specs.Asking.{K2, KOpen, KClose, KTell, KAsk, KSelect, KBegin, call_at, needs2, asking}
use Rattle.lapin_pairs.specs.Tagging.{tagging}
use Rattle.lapin_concord.specs.Wires.{phase_as, link_as, chans_up, waits_as, pair_as}
use Rattle.lapin_concord.specs.Held.{Held}
use Rattle.lapin_concord.proofs.Views.{is_own, AreOwn, Untold, Opens, told_call, told_by_step, AreUntold, AreTold}
use Rattle.lapin_concord.proofs.Lifting.{bare, tagged_step}
use Rattle.lapin_concord.proofs.Queues.{opened, Queues, QueuesOf}
use Rattle.lapin_concord.proofs.Calling.{closed_here, told_asked}
use Rattle.lapin_concord.proofs.Tallies.{tagged_run}
use Rattle.lapin_concord.proofs.Noting.{has_select, AreNoted, concerns, noted_beside}
use Rattle.lapin_concord.proofs.Stepping.{is_calm, calls_noted, open_noted}
use Rattle.lapin_concord.proofs.Arriving.{shut_noted}
use Rattle.lapin_rules.proofs.PhaseLaws.{allowed_up}

-- ---- a history that the session stands for, whose marks note the tags

pub record Marked (w : World) (t : All tagging) : Type 0 where
  pub most : ℕ
  pub history : History
  pub stands : Stands most history w
  pub noted : AreNoted t (past most history).confirms

came_behind : (before ms ks : List ConfirmMark) → CameAfter before (ms ++ ks) → CameAfter (before ++ ms) ks
came_behind before [] ks h = subst (λ x. CameAfter x ks) (sym (append-nil before)) h
came_behind before (m ∷ ms) ks h = subst (λ x. CameAfter x ks) (append_assoc before (m ∷ []) ms) (came_behind (before ++ m ∷ []) ms ks h.1)

-- an event goes on, where its marks note what the pair comes to
pub marked-next : (w : World) (e : Event) (t v : All tagging) → w.returned ≡ None → ((ms : List ConfirmMark) → CameAfter ms (confirm_marks w.wire e (told_anew w e)) → AreNoted t ms → AreNoted v (ms ++ confirm_marks w.wire e (told_anew w e))) → Marked w t → Marked (next w e) v
marked-next w e t v n f m =
    let r : Record = told_by w e in
    let s : Stands m.most (m.history ++ (e, r) ∷ []) (next w e) = (stands-next m.most m.history w (next w e) e r (given_none w.returned e n) m.stands refl refl).1 in
    let ms : List ConfirmMark = (past m.most m.history).confirms in
    let ks : List ConfirmMark = confirm_marks w.wire e (told_anew w e) in
    let told : r ≡ told_anew w e = ap (λ g. told_or g (told_anew w e)) (given_none w.returned e n) in
    let marks : (past m.most (m.history ++ (e, r) ∷ [])).confirms ≡ ms ++ ks =
    ap (λ q. q.confirms) (past-push _ m.history e r) ∙ ap₂ (λ b q. ms ++ confirm_marks b e q) (sym m.stands.wire) told in
    record {
      most = m.most;
      history = m.history ++ (e, r) ∷ [];
      stands = s;
      noted = subst (AreNoted v) (sym marks) (f ms (came_behind [] ms ks (subst (CameAfter []) marks s.confirms.confirm_state.came)) m.noted);
    }

-- ---- marks that say nothing of tags

abbrev pub is_beside : ConfirmMark → Bool
is_beside (mark.Begun c) = false
is_beside (mark.SelectLeft c) = false
is_beside (mark.Left c k) = false
is_beside (mark.Settled c s) = false
is_beside (mark.Ended c e) = false
is_beside _ = true

abbrev pub AreBeside : List ConfirmMark → Type 0
AreBeside [] = Unit {0}
AreBeside (k ∷ ks) = (is_beside k ≡ true) × AreBeside ks

beside_any : (c : ℕ) (k : ConfirmMark) → is_beside k ≡ true → concerns c k ≡ false
beside_any c (mark.Begun d) h = cc
beside_any c (mark.SelectLeft d) h = cc
beside_any c (mark.Left d k) h = cc
beside_any c (mark.Settled d s) h = cc
beside_any c (mark.Ended d e) h = cc
beside_any c _ h = refl

pub beside : (t : All tagging) (ms ks : List ConfirmMark) → AreBeside ks → AreNoted t ms → AreNoted t (ms ++ ks)
beside t ms [] b h = subst (AreNoted t) (sym (append-nil ms)) h
beside t ms (k ∷ ks) b h = subst (AreNoted t) (append_assoc ms (k ∷ []) ks) (beside t (ms ++ k ∷ []) ks b.1 (λ c. noted_beside (t.chans c).base.sess (t.chans c) c ms (of_u c t.unsent) k (beside_any c k b.0) (h c)))

-- ---- steps that tell nothing, and calls

untold_step : (t : All tagging) (ms : List ConfirmMark) (s : StepA asking) → is_own s ≡ true → told_by_step s ≡ Untold → AreNoted t ms → AreNoted (happens_a tagging t (tagged_step s)) ms
untold_step t ms (CallA c KOpen) o u h = cc
untold_step t ms (CallA c (KSelect b)) o u h = cc
untold_step t ms (CallA c (KBegin i ns)) o u h = cc
untold_step t ms (CallA c KClose) o u h = calls_noted t ms c KClose t.conn false refl h
untold_step t ms (CallA c KTell) o u h = calls_noted t ms c KTell t.conn false refl h
untold_step t ms (CallA c (KAsk k)) o u h = calls_noted t ms c (KAsk k) t.conn false refl h
untold_step t ms (SendA f) o u h = cc
untold_step t ms HangUpA o u h = cc
untold_step t ms NextA o u h = cc
untold_step t ms ReadA o u h = cc
untold_step t ms DeliverA o u h = cc
untold_step t ms LoseA o u h = cc

pub untold_run : (ss : List (StepA asking)) (t : All tagging) (ms : List ConfirmMark) → AreOwn ss → AreUntold ss → AreNoted t ms → AreNoted (tagged_run ss t) ms
untold_run [] t ms o u h = h
untold_run (s ∷ ss) t ms o u h = untold_run ss (happens_a tagging t (tagged_step s)) ms o.1 u.1 (untold_step t ms s o.0 u.0 h)

select_step : (t : All tagging) (ms : List ConfirmMark) (c : ℕ) (b : Bool) (s : StepA asking) → told_by_step s ≡ told_call c (KSelect b) → AreNoted t ms → AreNoted (happens_a tagging t (tagged_step s)) ms
select_step t ms c b (CallA d KOpen) u h = cc
select_step t ms c b (CallA d (KSelect x)) u h = calls_noted t ms d (KSelect x) t.conn false refl h
select_step t ms c b (CallA d (KBegin i ns)) u h = cc
select_step t ms c b (CallA d KClose) u h = cc
select_step t ms c b (CallA d KTell) u h = cc
select_step t ms c b (CallA d (KAsk k)) u h = cc
select_step t ms c b (SendA f) u h = cc
select_step t ms c b HangUpA u h = cc
select_step t ms c b NextA u h = cc
select_step t ms c b ReadA u h = cc
select_step t ms c b DeliverA u h = cc
select_step t ms c b LoseA u h = cc

-- a call that begins neither an opening nor a publish
calm_run : (ss : List (StepA asking)) (t : All tagging) (ms : List ConfirmMark) (c : ℕ) (k : K2) → is_calm k ≡ true → AreOwn ss → AreTold (told_call c k) ss → AreNoted t ms → AreNoted (tagged_run ss t) ms
calm_run ss t ms c KOpen k o u h = cc
calm_run ss t ms c (KBegin i ns) k o u h = cc
calm_run ss t ms c KClose k o u h = untold_run ss t ms o u h
calm_run ss t ms c KTell k o u h = untold_run ss t ms o u h
calm_run ss t ms c (KAsk x) k o u h = untold_run ss t ms o u h
calm_run [] t ms c (KSelect b) k o u h = absurd u
calm_run (s ∷ ss) t ms c (KSelect b) k o u h = untold_run ss (happens_a tagging t (tagged_step s)) ms o.1 u.1 (select_step t ms c b s u.0 h)

queue_calm : (c : ℕ) (m : Method) (w : Option Reply) (q : Queues c m w) → is_calm q.call ≡ true
queue_calm c m w q = by_call q.call q.needs (ap (λ x. has_answer x) (q.makes [] kept.Idle))
  where
    has_answer : {X : Type 0} → Option X → Bool
    has_answer None = false
    has_answer (Some x) = true

    by_call : (k : K2) → needs2 k ≡ false → has_answer (call_at k (opened [] kept.Idle) Opened) ≡ true → is_calm k ≡ true
    by_call KOpen n h = cc
    by_call (KBegin i ns) n h = cc
    by_call KClose n h = refl
    by_call KTell n h = refl
    by_call (KAsk k) n h = refl
    by_call (KSelect b) n h = refl

-- ---- what the pair shows of the session

pub conn_of : (t : All tagging) (b : Wire) (br : Broker) (us : List Left) (ds : List Frame) → bare t ≡ pair_as b br us ds → t.conn ≡ link_as b.link
conn_of t b br us ds e = ap (λ (z : All asking). z.conn) e

pub unsent_of : (t : All tagging) (b : Wire) (br : Broker) (us : List Left) (ds : List Frame) → bare t ≡ pair_as b br us ds → t.unsent ≡ waits_as b
unsent_of t b br us ds e = ap (λ (z : All asking). z.unsent) e

pub sess_of : (t : All tagging) (b : Wire) (br : Broker) (us : List Left) (ds : List Frame) (c : ℕ) → bare t ≡ pair_as b br us ds → b.link ≡ link.Open → (t.chans c).base.sess ≡ phase_as (phase_of c b)
sess_of t b br us ds c e o = ap (λ (z : All asking). (z.chans c).sess) e ∙ ap (λ l. (chans_up (is_up l) b.phases b.requests b.contents c).sess) o

pub shut_of : (t : All tagging) (b : Wire) (br : Broker) (us : List Left) (ds : List Frame) (c : ℕ) → bare t ≡ pair_as b br us ds → is_up b.link ≡ false → (t.chans c).base.sess ≡ Closed
shut_of t b br us ds c e o = ap (λ (z : All asking). (z.chans c).sess) e ∙ ap (λ l. (chans_up l b.phases b.requests b.contents c).sess) o

-- once the connection isn't open any marks do
pub shut_any : (t : All tagging) (b : Wire) (br : Broker) (us : List Left) (ds : List Frame) (ms : List ConfirmMark) → bare t ≡ pair_as b br us ds → is_up b.link ≡ false → ((c : ℕ) → has_select (of_u c (waits_as b)) ≡ false) → AreNoted t ms
shut_any t b br us ds ms e o n = shut_noted t.chans ms t.unsent (λ c. shut_of t b br us ds c e o) (λ c. ap (λ ws. has_select (of_u c ws)) (unsent_of t b br us ds e) ∙ n c)

-- ---- calls

open_step : (t : All tagging) (ms : List ConfirmMark) (c : ℕ) (s : StepA asking) → told_by_step s ≡ Opens c → t.conn ≡ Opened → (t.chans c).base.sess ≡ Closed → AreNoted t ms → AreNoted (happens_a tagging t (tagged_step s)) (ms ++ mark.Begun c ∷ [])
open_step t ms c (CallA d KOpen) u o p h = let e : c ≡ d = cc in subst (λ i. AreNoted (happens_a tagging t (CallA i KOpen)) (ms ++ mark.Begun c ∷ [])) e (open_noted t ms c o p h)
open_step t ms c (CallA d (KSelect x)) u o p h = cc
open_step t ms c (CallA d (KBegin i ns)) u o p h = cc
open_step t ms c (CallA d KClose) u o p h = cc
open_step t ms c (CallA d KTell) u o p h = cc
open_step t ms c (CallA d (KAsk k)) u o p h = cc
open_step t ms c (SendA f) u o p h = cc
open_step t ms c HangUpA u o p h = cc
open_step t ms c NextA u o p h = cc
open_step t ms c ReadA u o p h = cc
open_step t ms c DeliverA u o p h = cc
open_step t ms c LoseA u o p h = cc

open_run : (ss : List (StepA asking)) (t : All tagging) (ms : List ConfirmMark) (c : ℕ) → AreOwn ss → AreTold (Opens c) ss → t.conn ≡ Opened → (t.chans c).base.sess ≡ Closed → AreNoted t ms → AreNoted (tagged_run ss t) (ms ++ mark.Begun c ∷ [])
open_run [] t ms c o u p q h = absurd u
open_run (s ∷ ss) t ms c o u p q h = untold_run ss (happens_a tagging t (tagged_step s)) (ms ++ mark.Begun c ∷ []) o.1 u.1 (open_step t ms c s u.0 p q h)

closing_selects : (fs : List (UpOn _)) (c : ℕ) → fs ≡ CloseU ∷ [] → has_select (of_u c fs) ≡ false
closing_selects fs c e = ap (λ ws. has_select (of_u c ws)) e

queued_beside : (c : ℕ) (m : Method) → AreBeside (history.queued_marks c m)
queued_beside c m = elim (history.is_select m) as (λ b. AreBeside (cond b (mark.SelectCalled c ∷ []) [])) [ true ↦ (refl, tt) | false ↦ tt ]

allowed_noted : (c : ℕ) (k : Asked) (q : QueuesOf c k) (ss : List (StepA asking)) (t : All tagging) (b : Wire) (br : Broker) (us : List Left) (ds : List Frame) (ms : List ConfirmMark) → AreOwn ss → AreTold (told_asked c k q) ss → is_allowed k (cond (c == 0) state.Base (channel_state (phase_of c b))) ≡ true → b.link ≡ link.Open → bare t ≡ pair_as b br us ds → bare (tagged_run ss t) ≡ pair_as (after_call c k b) br us ds → Held (after_call c k b) → AreNoted t ms → AreNoted (tagged_run ss t) (ms ++ call_marks c k b)
allowed_noted c ask.Open q ss t b br us ds ms o u a l e f d h = open_run ss t ms c o u (conn_of t b br us ds e ∙ ap link_as l) (sess_of t b br us ds c e l ∙ ap phase_as (closed_here (c == 0) (phase_of c b) a).1) h
allowed_noted c (ask.CloseChannel code text) q ss t b br us ds ms o u a l e f d h = beside (tagged_run ss t) ms _ (refl, tt) (untold_run ss t ms o u h)
allowed_noted c (ask.CloseConnection code text) q ss t b br us ds ms o u a l e f d h = shut_any (tagged_run ss t) (after_call c (ask.CloseConnection code text) b) br us ds _ f refl (λ i. closing_selects _ i d.linked)
allowed_noted c (ask.Publish exchange key op payload properties) q ss t b br us ds ms o u a l e f d h = beside (tagged_run ss t) ms _ (refl, tt) (untold_run ss t ms o u h)
allowed_noted c (ask.Method row) q ss t b br us ds ms o u a l e f d h = beside (tagged_run ss t) ms _ (queued_beside c row.method) (calm_run ss t ms c q.call (queue_calm c row.method _ q) o u h)
allowed_noted c (ask.Consume m tag queue op) q ss t b br us ds ms o u a l e f d h = beside (tagged_run ss t) ms [] tt (calm_run ss t ms c q.call (queue_calm c m None q) o u h)
allowed_noted c (ask.Limit limit) q ss t b br us ds ms o u a l e f d h = beside (tagged_run ss t) ms _ (refl, tt) (untold_run ss t ms o u h)
allowed_noted c ask.Nothing q ss t b br us ds ms o u a l e f d h = beside (tagged_run ss t) ms [] tt (untold_run ss t ms o u h)

-- any call
pub call_noted : (c : ℕ) (k : Asked) (q : QueuesOf c k) (ss : List (StepA asking)) (t : All tagging) (b : Wire) (br : Broker) (us : List Left) (ds : List Frame) (ms : List ConfirmMark) (x : Bool) → is_allowed k (state_of c b) ≡ x → AreOwn ss → AreTold (cond x (told_asked c k q) Untold) ss → bare t ≡ pair_as b br us ds → bare (tagged_run ss t) ≡ pair_as (cond x (after_call c k b) b) br us ds → Held (cond x (after_call c k b) b) → AreNoted t ms
    → AreNoted (tagged_run ss t) (ms ++ cond x (call_marks c k b) [])
call_noted c k q ss t b br us ds ms false a o u e f d h = beside (tagged_run ss t) ms [] tt (untold_run ss t ms o u h)
call_noted c k q ss t b br us ds ms true a o u e f d h =
    let l = allowed_up b.link k (cond (c == 0) state.Base (channel_state (phase_of c b))) a in
    let y : is_allowed k (cond (c == 0) state.Base (channel_state (phase_of c b))) ≡ true = sym (ap (λ i. is_allowed k (cond (is_up i) (cond (c == 0) state.Base (channel_state (phase_of c b))) state.Down)) l) ∙ a in
    allowed_noted c k q ss t b br us ds ms o u y l e f d h
