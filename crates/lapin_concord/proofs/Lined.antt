-- Each step of the pair of machines keeps the frames of a content together, up to the close of the connection.
use Rattle.std.proofs.Common.{◌≡◌, ℕ, ◌+◌, Bool, true, false, cond, ◌&&◌, List, [], ◌∷◌, ◌++◌, map, refl, sym, ◌∙◌, ap, ap₂, subst, append_assoc, append-nil, Option, Some, None, inl, inr, eq-eqb}
use Rattle.std.proofs.lemmas.Bool.Decides.{eqb_tells}
use Rattle.lapin_pairs.specs.Machine as pair
use Rattle.lapin_pairs.specs.Machine.{Up, Sess, Closed, Opening, Opened, Closing, Crossed, Refused, has_close, state_after}
use Rattle.lapin_pairs.specs.Channel as kept
use Rattle.lapin_pairs.specs.Channel.{Content, UpF, DownF, kind_up, kind_down, reading_in, reading_after, is_none, bodies_of, publish_frames, sum_suc}
use Rattle.lapin_pairs.specs.Every.{Left, Drop, Push, has_any, UpOn, OnU, CloseU, CloseOkU, DownOn, ToD, CloseD, CloseOkD, conn_u, conn_d, of_u, off_u, on_all, left_all, conn_left, All, StepA, CallA, SendA, HangUpA, NextA, ReadA, DeliverA, LoseA, called_a, calls_a, hangs_a, hands_a, sides_after, reads_a, received_a, delivers_a, may_a, sides_sent, sends_a, happens_a, run_a}
use Rattle.lapin_pairs.specs.Asking.{U2, Plain, SelectAsk, S2, B2, K2, KOpen, KClose, KTell, KAsk, KSelect, KBegin, flat, flats, plains, call2, call_at, needs2, left_at, left2, read_one, read_flat, reads2b, may2, gives2, asking}
use Rattle.lapin_pairs.proofs.Pairs.{tight, reads, unbroken, real, star}
use Rattle.lapin_pairs.proofs.Erase.{and_left}
use Rattle.lapin_pairs.proofs.Data.{read_all, read_sent}
use Rattle.lapin_pairs.proofs.Whole.{some_read}
use Rattle.lapin_pairs.proofs.Every.{of-append}
use Rattle.lapin_pairs.proofs.Asking.{Calm, calm_whole, calm_read, calm_give, flats-append}
use Rattle.lapin_concord.proofs.Views.{J, j_keeps}
use Rattle.lapin_concord.proofs.Lines.{is_more, together_from, together, begins, together_append, tail_together, together_off, first_of}
use Rattle.lapin_pairs.proofs.Others.{serving_back}
use Rattle.std.proofs.lemmas.Option.{same_Some}

-- ---- the broker's side has read all contents whole once it has read these

pub record Ends (b : B2) (us : List U2) : Type 0 where
  pub calm : Calm b us
  pub ends : read_all b.peer b.reading (flats us) ≡ Some kept.Idle

read_on : (b : B2) (fs gs : List UpF) → pair.is_broken (reads b.peer (map kind_up (fs ++ gs))) ≡ false → read_all b.peer b.reading (fs ++ gs) ≡ read_all (read_flat b fs).peer (read_flat b fs).reading gs
read_on b [] gs h = refl
read_on b (f ∷ fs) gs h =
    let e : pair.read b.peer (kind_up f) ≡ tight b.peer (kind_up f) = real b.peer (kind_up f) (unbroken (tight b.peer (kind_up f)) (map kind_up (fs ++ gs)) h) in
    ap (λ p. read_all p (reading_in b.peer b.reading f) (fs ++ gs)) (sym e) ∙ read_on (read_one b f) fs gs (ap (λ p. pair.is_broken (reads p (map kind_up (fs ++ gs)))) e ∙ h)

ends_read : (b : B2) (u : U2) (us : List U2) → Ends b (u ∷ us) → Ends (reads2b b u) us
ends_read b u us h = record { calm = calm_read b u us h.calm; ends = sym (read_on b (flat u) (flats us) h.calm.phases) ∙ h.ends }

ends_give : (b : B2) (d : DownF) (us : List U2) → may2 b d ≡ true → Ends b us → Ends (gives2 b d) us
ends_give b d us m h =
    let n = and_left (pair.may_send b.peer (kind_down d)) _ m in
    let t = star b.peer (kind_down d) n in
    record { calm = calm_give b d us m h.calm; ends = ap (λ p. read_all p (reading_after d b.reading) (flats us)) (sym t.0) ∙ read_sent b.peer d b.reading (flats us) t.1 h.calm.phases h.ends }

-- ---- what holds

abbrev pub are_closes : List (UpOn U2) → Bool
are_closes [] = true
are_closes (OnU c u ∷ fs) = false
are_closes (_ ∷ fs) = are_closes fs

-- once the connection is not open: what was to leave as it was left still stands behind what is on its way
pub record Frozen (w : All asking) : Type 0 where
  pub on : List (UpOn U2)
  pub tail : List (UpOn U2)
  pub dropped : List (UpOn U2)
  pub up_is : w.up ≡ on ++ tail
  pub closes : are_closes tail ≡ true
  pub lined : together (on ++ dropped) ≡ true
  pub ends : w.broker ≡ pair.Open → (c : ℕ) → Ends (w.sides c) (of_u c (on ++ dropped))

pub record Lined (w : All asking) : Type 0 where
  pub open_ : w.conn ≡ Opened → together (w.up ++ w.unsent) ≡ true
  pub shut : (w.conn ≡ Opened → ⊥) → Frozen w

-- while it is open the pair says how each channel's content ends
open_ends : (w : All asking) → J w → w.conn ≡ Opened → w.broker ≡ pair.Open → (c : ℕ) → Ends (w.sides c) (of_u c (w.up ++ w.unsent))
open_ends w g o k c =
    let x = g.chans o c in
    let here = x.here k in
    let way : flats (of_u c (w.up ++ w.unsent)) ≡ flats x.link ++ flats (of_u c w.unsent) = ap flats (of-append c w.up w.unsent) ∙ (flats-append (of_u c w.up) (of_u c w.unsent) ∙ ap (λ l. flats l ++ flats (of_u c w.unsent)) (sym here.1)) in
    let calm : Calm x.side (x.link ++ of_u c w.unsent) = calm_whole _ x.side x.link (of_u c w.unsent) refl refl refl refl refl x.good in
    let us : x.link ++ of_u c w.unsent ≡ of_u c (w.up ++ w.unsent) = ap (λ l. l ++ of_u c w.unsent) here.1 ∙ sym (of-append c w.up w.unsent) in
    record {
      calm = subst (λ (b : B2). Calm b (of_u c (w.up ++ w.unsent))) here.0 (subst (Calm x.side) us calm);
      ends = ap₂ (λ (b : B2) fs. read_all b.peer b.reading fs) (sym here.0) way ∙ x.good.ends;
    }

freezes : (w : All asking) (u : List (UpOn U2)) (s : Sess) (cs : ℕ → S2) (ds : List (DownOn DownF)) → J w → Lined w → w.conn ≡ Opened → Frozen (record w { conn = s; chans = cs; unsent = u; down = ds })
freezes w u s cs ds g l o = record {
  on = w.up;
  tail = [];
  dropped = w.unsent;
  up_is = sym (append-nil w.up);
  closes = refl;
  lined = l.open_ o;
  ends = λ k. open_ends w g o k;
}

shut_lined : (w : All asking) → (w.conn ≡ Opened → ⊥) → Frozen w → Lined w
shut_lined w n f = record { open_ = λ e. absurd (n e); shut = λ _. f }

pub open_lined : (w : All asking) → w.conn ≡ Opened → together (w.up ++ w.unsent) ≡ true → Lined w
open_lined w e h = record { open_ = λ _. h; shut = λ n. absurd (n e) }

-- ---- calls

record Queue (c : ℕ) (us : List U2) : Type 0 where
  lined : together (on_all c us) ≡ true
  starts : begins (on_all c us) ≡ true

bodies_lined : (c : ℕ) (u : U2) (ns : List ℕ) → together_from (OnU c u) (on_all c (plains (bodies_of ns))) ≡ true
bodies_lined c u [] = refl
bodies_lined c u (n ∷ ns) = rw (eq-eqb c c refl) (bodies_lined c (Plain (kept.FBody (n + 1))) ns)

publish_queue : (c i : ℕ) (ns : List ℕ) → Queue c (plains (publish_frames i ns))
publish_queue c i ns = record { lined = rw (eq-eqb c c refl) (bodies_lined c (Plain (kept.FHeader (sum_suc ns))) ns); starts = refl }

call_queue : (c : ℕ) (k : K2) (s : S2) (q : Sess) (x : S2 × List U2) → call_at k s q ≡ Some x → Queue c x.1
call_queue c KOpen s Closed x e = subst (λ (y : S2 × List U2). Queue c y.1) (same_Some _ x e) (record { lined = refl; starts = refl })
call_queue c KClose s Opened x e = subst (λ (y : S2 × List U2). Queue c y.1) (same_Some _ x e) (record { lined = refl; starts = refl })
call_queue c KTell s Opened x e = subst (λ (y : S2 × List U2). Queue c y.1) (same_Some _ x e) (record { lined = refl; starts = refl })
call_queue c (KAsk k) s Opened x e = subst (λ (y : S2 × List U2). Queue c y.1) (same_Some _ x e) (record { lined = refl; starts = refl })
call_queue c (KSelect false) s Opened x e = subst (λ (y : S2 × List U2). Queue c y.1) (same_Some _ x e) (record { lined = refl; starts = refl })
call_queue c (KSelect true) s Opened x e = subst (λ (y : S2 × List U2). Queue c y.1) (same_Some _ x e) (record { lined = refl; starts = refl })
call_queue c (KBegin i ns) s Opened x e = subst (λ (y : S2 × List U2). Queue c y.1) (same_Some _ x e) (publish_queue c i ns)
call_queue c KOpen s Opening x e = cc
call_queue c KOpen s Opened x e = cc
call_queue c KOpen s Closing x e = cc
call_queue c KOpen s Crossed x e = cc
call_queue c KOpen s Refused x e = cc
call_queue c KClose s Opening x e = cc
call_queue c KClose s Closed x e = cc
call_queue c KClose s Closing x e = cc
call_queue c KClose s Crossed x e = cc
call_queue c KClose s Refused x e = cc
call_queue c KTell s Opening x e = cc
call_queue c KTell s Closed x e = cc
call_queue c KTell s Closing x e = cc
call_queue c KTell s Crossed x e = cc
call_queue c KTell s Refused x e = cc
call_queue c (KAsk k) s Opening x e = cc
call_queue c (KAsk k) s Closed x e = cc
call_queue c (KAsk k) s Closing x e = cc
call_queue c (KAsk k) s Crossed x e = cc
call_queue c (KAsk k) s Refused x e = cc
call_queue c (KSelect false) s Opening x e = cc
call_queue c (KSelect false) s Closed x e = cc
call_queue c (KSelect false) s Closing x e = cc
call_queue c (KSelect false) s Crossed x e = cc
call_queue c (KSelect false) s Refused x e = cc
call_queue c (KSelect true) s Opening x e = cc
call_queue c (KSelect true) s Closed x e = cc
call_queue c (KSelect true) s Closing x e = cc
call_queue c (KSelect true) s Crossed x e = cc
call_queue c (KSelect true) s Refused x e = cc
call_queue c (KBegin i ns) s Opening x e = cc
call_queue c (KBegin i ns) s Closed x e = cc
call_queue c (KBegin i ns) s Closing x e = cc
call_queue c (KBegin i ns) s Crossed x e = cc
call_queue c (KBegin i ns) s Refused x e = cc

more_lined : (w : All asking) (c : ℕ) (us : List U2) → together (w.up ++ w.unsent) ≡ true → Queue c us → together (w.up ++ (w.unsent ++ on_all c us)) ≡ true
more_lined w c us h q = ap together (sym (append_assoc w.up w.unsent (on_all c us))) ∙ together_append (w.up ++ w.unsent) (on_all c us) h q.lined q.starts

called_lined : (w : All asking) (c : ℕ) (k : K2) (o : Option (S2 × List U2)) → call2 k (w.chans c) ≡ o → Lined w → w.conn ≡ Opened → Lined (called_a asking w c o)
called_lined w c k None e l o = l
called_lined w c k (Some x) e l o = open_lined _ o (more_lined w c x.1 (l.open_ o) (call_queue c k (w.chans c) (w.chans c).sess x e))

calls_lined : (w : All asking) (s : Sess) (c : ℕ) (k : K2) (t : Bool) → w.conn ≡ s → Lined w → Lined (calls_a asking w s c k t)
calls_lined w Opened c k false e l = called_lined w c k (call2 k (w.chans c)) refl l e
calls_lined w Opened c k true e l = l
calls_lined w Closed c k t e l = l
calls_lined w Opening c k t e l = l
calls_lined w Closing c k t e l = l
calls_lined w Crossed c k t e l = l
calls_lined w Refused c k t e l = l

hangs_lined : (w : All asking) (s : Sess) → w.conn ≡ s → J w → Lined w → Lined (hangs_a asking w s)
hangs_lined w Opened e g l = shut_lined _ (λ x. cc) (freezes w (CloseU ∷ []) Closing (λ c. asking.begun) w.down g l e)
hangs_lined w Closed e g l = l
hangs_lined w Opening e g l = l
hangs_lined w Closing e g l = l
hangs_lined w Crossed e g l = l
hangs_lined w Refused e g l = l

-- ---- a frame leaves

closes_push : (fs : List (UpOn U2)) (f : UpOn U2) → are_closes fs ≡ true → are_closes (f ∷ []) ≡ true → are_closes (fs ++ f ∷ []) ≡ true
closes_push [] f h k = k
closes_push (OnU c u ∷ fs) f h k = cc
closes_push (CloseU ∷ fs) f h k = closes_push fs f h k
closes_push (CloseOkU ∷ fs) f h k = closes_push fs f h k

quiet_close : (f : UpOn U2) (fs : List (UpOn U2)) → ((c : ℕ) → of_u c (f ∷ fs) ≡ []) → are_closes (f ∷ []) ≡ true
quiet_close (OnU c u) fs h = let x : u ∷ of_u c fs ≡ [] = sym (rw (eq-eqb c c refl) refl) ∙ h c in cc
quiet_close CloseU fs h = refl
quiet_close CloseOkU fs h = refl

hands_lined : (w : All asking) (fs : List (UpOn U2)) → w.unsent ≡ fs → J w → Lined w → Lined (hands_a asking w fs)
hands_lined w [] e g l = l
hands_lined w (f ∷ fs) e g l = record {
  open_ = λ o. ap together (append_assoc w.up (f ∷ []) fs) ∙ (ap (λ us. together (w.up ++ us)) (sym e) ∙ l.open_ o);
  shut = λ n.
      let z = l.shut n in
      record {
        on = z.on;
        tail = z.tail ++ f ∷ [];
        dropped = z.dropped;
        up_is = ap (λ us. us ++ f ∷ []) z.up_is ∙ append_assoc z.on z.tail (f ∷ []);
        closes = closes_push z.tail f z.closes (quiet_close f fs (λ c. ap (of_u c) (sym e) ∙ g.quiet n c));
        lined = z.lined;
        ends = z.ends;
      };
}

-- ---- the broker reads

sides_read : (p : pair.Peer) (ss : ℕ → B2) (f : UpOn U2) (gs : List (UpOn U2)) → p ≡ pair.Open → conn_u f ≡ pair.UOther → ((c : ℕ) → Ends (ss c) (of_u c (f ∷ gs))) → (c : ℕ) → Ends (sides_after asking p ss f c) (of_u c gs)
sides_read p ss CloseU gs o k h c = absurd cc
sides_read p ss CloseOkU gs o k h c = absurd cc
sides_read p ss (OnU d u) gs o k h c = subst (λ q. Ends (sides_after asking q ss (OnU d u) c) (of_u c gs)) (sym o) (elim (eqb_tells d c) [
  | inl y ↦
      let x : Ends (ss d) (u ∷ of_u d gs) = subst (λ us. Ends (ss d) us) (rw (eq-eqb d d refl) refl) (h d) in
      let z : Ends (reads2b (ss d) u) (of_u d gs) = ends_read (ss d) u (of_u d gs) x in
      let a : Ends (reads2b (ss d) u) (of_u c gs) = subst (λ i. Ends (reads2b (ss d) u) (of_u i gs)) y.1 z in
      rw y.0 a
  | inr y ↦ let a : Ends (ss c) (of_u c gs) = subst (λ us. Ends (ss c) us) (rw y.0 refl) (h c) in rw y.0 a
])

reads_lined : (w : All asking) (us : List (UpOn U2)) → w.up ≡ us → Lined w → Lined (reads_a asking w us)
reads_lined w [] e l = l
reads_lined w (f ∷ fs) e l = record {
  open_ = λ o. tail_together f (fs ++ w.unsent) (ap (λ us. together (us ++ w.unsent)) (sym e) ∙ l.open_ o);
  shut = λ n. let z = l.shut n in reads z z.on z.tail refl refl;
}
  where
    reads : (z : Frozen w) (on tail : List (UpOn U2)) → z.on ≡ on → z.tail ≡ tail → Frozen (reads_a asking w (f ∷ fs))
    reads z (x ∷ on) tail a b =
        let same : f ∷ fs ≡ x ∷ (on ++ tail) = sym e ∙ (z.up_is ∙ ap₂ (λ i j. i ++ j) a b) in
        let head : f ≡ x = cc in
        let rest : fs ≡ on ++ tail = cc in
        record {
          on = on;
          tail = tail;
          dropped = z.dropped;
          up_is = rest;
          closes = ap are_closes (sym b) ∙ z.closes;
          lined = tail_together x (on ++ z.dropped) (ap (λ i. together (i ++ z.dropped)) (sym a) ∙ z.lined);
          ends = λ o.
              let q = serving_back w.broker (conn_u f) o in
              sides_read w.broker w.sides f (on ++ z.dropped) q.0 q.1 (λ c. subst (λ i. Ends (w.sides c) (of_u c i)) (ap (λ i. i ++ z.dropped) a ∙ ap (λ i. i ∷ (on ++ z.dropped)) (sym head)) (z.ends q.0 c));
        }
    reads z [] [] a b = let same : f ∷ fs ≡ [] = sym e ∙ (z.up_is ∙ ap₂ (λ i j. i ++ j) a b) in absurd cc
    reads z [] (x ∷ tail) a b =
        let same : f ∷ fs ≡ x ∷ tail = sym e ∙ (z.up_is ∙ ap₂ (λ i j. i ++ j) a b) in
        let head : f ≡ x = cc in
        let rest : fs ≡ tail = cc in
        let cs : are_closes (x ∷ tail) ≡ true = ap are_closes (sym b) ∙ z.closes in
        record {
          on = [];
          tail = tail;
          dropped = z.dropped;
          up_is = rest;
          closes = drop_close x tail cs;
          lined = ap (λ i. together (i ++ z.dropped)) (sym a) ∙ z.lined;
          ends = λ o. let q = serving_back w.broker (conn_u f) o in absurd (close_not x tail cs (ap conn_u (sym head) ∙ q.1));
        }
      where
        drop_close : (x : UpOn U2) (tail : List (UpOn U2)) → are_closes (x ∷ tail) ≡ true → are_closes tail ≡ true
        drop_close (OnU c u) tail h = cc
        drop_close CloseU tail h = h
        drop_close CloseOkU tail h = h

        close_not : (x : UpOn U2) (tail : List (UpOn U2)) → are_closes (x ∷ tail) ≡ true → conn_u x ≡ pair.UOther → ⊥
        close_not (OnU c u) tail h k = cc
        close_not CloseU tail h k = cc
        close_not CloseOkU tail h k = cc

-- ---- the broker sends

sent_open : (p : pair.Peer) → pair.sent p pair.DOther ≡ pair.Open → p ≡ pair.Open
sent_open pair.Open h = refl
sent_open pair.Free h = cc
sent_open pair.Asked h = cc
sent_open pair.Leaving h = cc
sent_open pair.Stopping h = cc
sent_open pair.StoppingOwes h = cc
sent_open pair.StoppingAnswered h = cc
sent_open pair.Broken h = cc

close_stops : (p : pair.Peer) (ss : ℕ → B2) → may_a asking p ss CloseD ≡ true → pair.sent p pair.DClose ≡ pair.Open → ⊥
close_stops pair.Open ss m h = cc
close_stops pair.Free ss m h = cc
close_stops pair.Asked ss m h = cc
close_stops pair.Leaving ss m h = cc
close_stops pair.Stopping ss m h = cc
close_stops pair.StoppingOwes ss m h = cc
close_stops pair.StoppingAnswered ss m h = cc
close_stops pair.Broken ss m h = cc

answer_stops : (p : pair.Peer) (ss : ℕ → B2) → may_a asking p ss CloseOkD ≡ true → pair.sent p pair.DCloseOk ≡ pair.Open → ⊥
answer_stops pair.Open ss m h = cc
answer_stops pair.Free ss m h = cc
answer_stops pair.Asked ss m h = cc
answer_stops pair.Leaving ss m h = cc
answer_stops pair.Stopping ss m h = cc
answer_stops pair.StoppingOwes ss m h = cc
answer_stops pair.StoppingAnswered ss m h = cc
answer_stops pair.Broken ss m h = cc

ends_sent : (w : All asking) (f : DownOn DownF) (fs : List (UpOn U2)) → may_a asking w.broker w.sides f ≡ true → pair.sent w.broker (conn_d f) ≡ pair.Open → (w.broker ≡ pair.Open → (c : ℕ) → Ends (w.sides c) (of_u c fs)) → (c : ℕ) → Ends (sides_sent asking w.sides f c) (of_u c fs)
ends_sent w CloseD fs m o h c = absurd (close_stops w.broker w.sides m o)
ends_sent w CloseOkD fs m o h c = absurd (answer_stops w.broker w.sides m o)
ends_sent w (ToD d x) fs m o h c =
    let p = sent_open w.broker o in
    let n : may2 (w.sides d) x ≡ true = ap (λ q. may_a asking q w.sides (ToD d x)) (sym p) ∙ m in
    elim (eqb_tells d c) [
      | inl y ↦ let a : Ends (gives2 (w.sides d) x) (of_u c fs) = subst (λ i. Ends (gives2 (w.sides d) x) (of_u i fs)) y.1 (ends_give (w.sides d) x (of_u d fs) n (h p d)) in rw y.0 a
      | inr y ↦ rw y.0 (h p c)
    ]

sends_lined : (w : All asking) (f : DownOn DownF) → may_a asking w.broker w.sides f ≡ true → Lined w → Lined (sends_a asking w f)
sends_lined w f m l = record { open_ = l.open_; shut = λ n. let z = l.shut n in record { on = z.on; tail = z.tail; dropped = z.dropped; up_is = z.up_is; closes = z.closes; lined = z.lined; ends = λ o. ends_sent w f (z.on ++ z.dropped) m o z.ends } }

-- ---- the session receives

abbrev LeftLined : ℕ → Left U2 → Type 0
LeftLined c (Drop us) = Queue c us
LeftLined c (Push us) = Queue c us

none_queue : (c : ℕ) → Queue c []
none_queue c = record { lined = refl; starts = refl }

ok_queue : (c : ℕ) → Queue c (Plain kept.FCloseOk ∷ [])
ok_queue c = record { lined = refl; starts = refl }

left_lined : (c : ℕ) (s : Sess) (b : Bool) (d : DownF) → LeftLined c (left_at s b d)
left_lined c Opening b kept.BClose = ok_queue c
left_lined c Opened b kept.BClose = ok_queue c
left_lined c Closing true kept.BClose = ok_queue c
left_lined c Closing false kept.BClose = ok_queue c
left_lined c Closing true kept.BCloseOk = none_queue c
left_lined c Closing false kept.BCloseOk = none_queue c
left_lined c Closing true _ = none_queue c
left_lined c Closing false _ = none_queue c
left_lined c Closed b d = none_queue c
left_lined c Crossed b d = none_queue c
left_lined c Refused b d = none_queue c
left_lined c Opening b _ = none_queue c
left_lined c Opened b _ = none_queue c

left_all_lined : (w : All asking) (c : ℕ) (x : Left U2) → together (w.up ++ w.unsent) ≡ true → LeftLined c x → together (w.up ++ left_all c x w.unsent) ≡ true
left_all_lined w c (Push us) h q = more_lined w c us h q
left_all_lined w c (Drop us) h q = more_lined (record w { unsent = off_u c w.unsent }) c us (together_off c w.up w.unsent h) q

still : (s : Sess) (us : List Up) (f : DownOn DownF) → (s ≡ Opened → ⊥) → state_after s us (conn_d f) ≡ Opened → ⊥
still Opened us f n h = n refl
still Opening us (ToD c d) n h = cc
still Opening us CloseD n h = cc
still Opening us CloseOkD n h = cc
still Closing us CloseD n h = (elim (has_close us) as (λ b. cond b Closed Crossed ≡ Opened → ⊥) [ true ↦ λ h. cc | false ↦ λ h. cc ]) h
still Closing us (ToD c d) n h = cc
still Closing us CloseOkD n h = cc
still Crossed us (ToD c d) n h = cc
still Crossed us CloseD n h = cc
still Crossed us CloseOkD n h = cc
still Closed us f n h = cc
still Refused us f n h = cc

-- a frame that comes once the connection is not open
down_lined : (w : All asking) (f : DownOn DownF) (ds : List (DownOn DownF)) → (w.conn ≡ Opened → ⊥) → Lined w → Lined (record w { conn = state_after w.conn (map conn_u w.unsent) (conn_d f); unsent = conn_left w.conn w.unsent f; down = ds })
down_lined w f ds n l =
    let z = l.shut n in
    shut_lined _ (still w.conn (map conn_u w.unsent) f n) (record { on = z.on; tail = z.tail; dropped = z.dropped; up_is = z.up_is; closes = z.closes; lined = z.lined; ends = z.ends })

received_lined : (w : All asking) (s : Sess) (f : DownOn DownF) (ds : List (DownOn DownF)) → w.conn ≡ s → J w → Lined w → Lined (received_a asking w s f ds)
received_lined w Opened (ToD c d) ds e g l = open_lined _ e (left_all_lined w c (left2 (w.chans c) (of_u c w.unsent) d) (l.open_ e) (left_lined c (w.chans c).sess (has_close (map kind_up (flats (of_u c w.unsent)))) d))
received_lined w Opened CloseD ds e g l = shut_lined _ (λ x. cc) (freezes w (CloseOkU ∷ []) Closed (λ c. asking.begun) ds g l e)
received_lined w Opened CloseOkD ds e g l = shut_lined _ (λ x. cc) (freezes w w.unsent Refused w.chans ds g l e)
received_lined w Closed f ds e g l = subst (λ s. Lined (record w { conn = state_after s (map conn_u w.unsent) (conn_d f); unsent = conn_left s w.unsent f; down = ds })) e (down_lined w f ds (λ x. let y : Closed ≡ Opened = sym e ∙ x in cc) l)
received_lined w Opening f ds e g l = subst (λ s. Lined (record w { conn = state_after s (map conn_u w.unsent) (conn_d f); unsent = conn_left s w.unsent f; down = ds })) e (down_lined w f ds (λ x. let y : Opening ≡ Opened = sym e ∙ x in cc) l)
received_lined w Closing f ds e g l = subst (λ s. Lined (record w { conn = state_after s (map conn_u w.unsent) (conn_d f); unsent = conn_left s w.unsent f; down = ds })) e (down_lined w f ds (λ x. let y : Closing ≡ Opened = sym e ∙ x in cc) l)
received_lined w Crossed f ds e g l = subst (λ s. Lined (record w { conn = state_after s (map conn_u w.unsent) (conn_d f); unsent = conn_left s w.unsent f; down = ds })) e (down_lined w f ds (λ x. let y : Crossed ≡ Opened = sym e ∙ x in cc) l)
received_lined w Refused f ds e g l = subst (λ s. Lined (record w { conn = state_after s (map conn_u w.unsent) (conn_d f); unsent = conn_left s w.unsent f; down = ds })) e (down_lined w f ds (λ x. let y : Refused ≡ Opened = sym e ∙ x in cc) l)

delivers_lined : (w : All asking) (ds : List (DownOn DownF)) → J w → Lined w → Lined (delivers_a asking w ds)
delivers_lined w [] g l = l
delivers_lined w (f ∷ fs) g l = received_lined w w.conn f fs refl g l

-- ---- any step

lined_keeps : (w : All asking) (s : StepA asking) → J w → Lined w → Lined (happens_a asking w s)
lined_keeps w (CallA c k) g l = calls_lined w w.conn c k (needs2 k && has_any w.unsent) refl l
lined_keeps w (SendA f) g l = by_may (may_a asking w.broker w.sides f) refl
  where
    by_may : (t : Bool) → may_a asking w.broker w.sides f ≡ t → Lined (cond t (sends_a asking w f) w)
    by_may true m = sends_lined w f m l
    by_may false m = l
lined_keeps w HangUpA g l = hangs_lined w w.conn refl g l
lined_keeps w NextA g l = hands_lined w w.unsent refl g l
lined_keeps w ReadA g l = reads_lined w w.up refl l
lined_keeps w DeliverA g l = delivers_lined w w.down g l
lined_keeps w LoseA g l = shut_lined _ (λ x. cc) (record { on = []; tail = []; dropped = []; up_is = refl; closes = refl; lined = refl; ends = λ o. absurd cc })

pub lined_run : (w : All asking) (ss : List (StepA asking)) → J w → Lined w → Lined (run_a asking ss w)
lined_run w [] g l = l
lined_run w (s ∷ ss) g l = lined_run (happens_a asking w s) ss (j_keeps w s g) (lined_keeps w s g l)

-- ---- the next frame of a content that is being read

record More (us : List U2) : Type 0 where
  first : U2
  rest : List U2
  is : us ≡ first ∷ rest
  more : is_more first ≡ true

piece_of : (x : Content) (g : UpF) → (x ≡ kept.Idle → ⊥) → is_none (reading_in pair.Open (Some x) g) ≡ false → is_more (Plain g) ≡ true
piece_of kept.Idle g n h = absurd (n refl)
piece_of kept.Begun (kept.FHeader k) n h = refl
piece_of kept.Begun (kept.FBody k) n h = refl
piece_of kept.Begun _ n h = cc
piece_of (kept.Left m) (kept.FHeader k) n h = refl
piece_of (kept.Left m) (kept.FBody k) n h = refl
piece_of (kept.Left m) _ n h = cc

starts : (x : Content) (us : List U2) → (x ≡ kept.Idle → ⊥) → pair.is_broken (reads pair.Open (map kind_up (flats us))) ≡ false → read_all pair.Open (Some x) (flats us) ≡ Some kept.Idle → More us
starts x [] n b h = let y : x ≡ kept.Idle = cc in absurd (n y)
starts x (Plain g ∷ us) n b h = record { first = Plain g; rest = us; is = refl; more = piece_of x g n (some_read pair.Open (Some x) g (flats us) refl b h) }
starts x (SelectAsk ∷ us) n b h = let y : false ≡ true = piece_of x kept.FSelect n (some_read pair.Open (Some x) kept.FSelect (kept.FAsk 0 ∷ flats us) refl b h) in absurd cc

found : (c : ℕ) (b : B2) (f : UpOn U2) (gs : List (UpOn U2)) (x : Content) → b.peer ≡ pair.Open → b.reading ≡ Some x → (x ≡ kept.Idle → ⊥) → together (f ∷ gs) ≡ true → Ends b (of_u c (f ∷ gs)) → (v : U2) × (f ≡ OnU c v) × (is_more v ≡ true)
found c b f gs x p r n t e =
    let m = starts x (of_u c (f ∷ gs)) n (ap (λ q. pair.is_broken (reads q (map kind_up (flats (of_u c (f ∷ gs)))))) (sym p) ∙ e.calm.phases) (ap₂ (λ q o. read_all q o (flats (of_u c (f ∷ gs)))) (sym p) (sym r) ∙ e.ends) in
    (m.first, first_of c f gs m.first m.rest t m.is m.more, m.more)

pub next_piece : (w : All asking) (c e : ℕ) (u : U2) (gs : List (UpOn U2)) (x : Content) → J w → Lined w → w.broker ≡ pair.Open → w.up ≡ OnU e u ∷ gs → (w.sides c).peer ≡ pair.Open → (w.sides c).reading ≡ Some x → (x ≡ kept.Idle → ⊥) → (v : U2) × (OnU e u ≡ OnU c v) × (is_more v ≡ true)
next_piece w c e u gs x g l o k p r n = by_conn w.conn refl
  where
    shut : (w.conn ≡ Opened → ⊥) → (v : U2) × (OnU e u ≡ OnU c v) × (is_more v ≡ true)
    shut y = let z = l.shut y in by_on z z.on z.tail refl refl
      where
        by_on : (z : Frozen w) (on tail : List (UpOn U2)) → z.on ≡ on → z.tail ≡ tail → (v : U2) × (OnU e u ≡ OnU c v) × (is_more v ≡ true)
        by_on z (h ∷ on) tail a b =
            let same : OnU e u ∷ gs ≡ h ∷ (on ++ tail) = sym k ∙ (z.up_is ∙ ap₂ (λ i j. i ++ j) a b) in
            let head : h ≡ OnU e u = cc in
            let ls : z.on ++ z.dropped ≡ OnU e u ∷ (on ++ z.dropped) = ap (λ i. i ++ z.dropped) a ∙ ap (λ i. i ∷ (on ++ z.dropped)) head in
            found c (w.sides c) (OnU e u) (on ++ z.dropped) x p r n (ap together (sym ls) ∙ z.lined) (subst (λ i. Ends (w.sides c) (of_u c i)) ls (z.ends o c))
        by_on z [] [] a b = let same : OnU e u ∷ gs ≡ [] = sym k ∙ (z.up_is ∙ ap₂ (λ i j. i ++ j) a b) in absurd cc
        by_on z [] (h ∷ tail) a b =
            let same : OnU e u ∷ gs ≡ h ∷ tail = sym k ∙ (z.up_is ∙ ap₂ (λ i j. i ++ j) a b) in
            let head : h ≡ OnU e u = cc in
            let q : are_closes (OnU e u ∷ tail) ≡ true = ap (λ i. are_closes (i ∷ tail)) (sym head) ∙ (ap are_closes (sym b) ∙ z.closes) in
            absurd cc

    open_ : w.conn ≡ Opened → (v : U2) × (OnU e u ≡ OnU c v) × (is_more v ≡ true)
    open_ y =
        let ls : w.up ++ w.unsent ≡ OnU e u ∷ (gs ++ w.unsent) = ap (λ i. i ++ w.unsent) k in
        found c (w.sides c) (OnU e u) (gs ++ w.unsent) x p r n (ap together (sym ls) ∙ l.open_ y) (subst (λ i. Ends (w.sides c) (of_u c i)) ls (open_ends w g y o c))

    by_conn : (s : Sess) → w.conn ≡ s → (v : U2) × (OnU e u ≡ OnU c v) × (is_more v ≡ true)
    by_conn Opened y = open_ y
    by_conn Closed y = shut (λ z. let q : Closed ≡ Opened = sym y ∙ z in cc)
    by_conn Opening y = shut (λ z. let q : Opening ≡ Opened = sym y ∙ z in cc)
    by_conn Closing y = shut (λ z. let q : Closing ≡ Opened = sym y ∙ z in cc)
    by_conn Crossed y = shut (λ z. let q : Crossed ≡ Opened = sym y ∙ z in cc)
    by_conn Refused y = shut (λ z. let q : Refused ≡ Opened = sym y ∙ z in cc)
