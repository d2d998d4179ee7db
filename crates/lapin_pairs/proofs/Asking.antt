-- The channel with requests and contents keeps its invariant.
use Rattle.std.proofs.Common.{◌≡◌, Bool, true, false, cond, ◌&&◌, List, [], ◌∷◌, ◌++◌, map, refl, sym, ◌∙◌, ap, ap₂, subst, append_assoc, append-nil, Option, Some, None}
use Rattle.lapin_pairs.specs.Machine.{Down, DOpenOk, DClose, DCloseOk, Sess, Closed, Opening, Opened, Closing, Crossed, Refused, Peer, Asked, Open, Leaving, Stopping, StoppingOwes, StoppingAnswered, Broken, has_close, read, may_send, is_broken, is_refused}
use Rattle.lapin_pairs.specs.Channel.{Content, Idle, Begun, Left as Rest, UpF, FOpen, FClose, FCloseOk, FTell, FSelect, FAsk, DownF, BClose, BCloseOk, kind_up, kind_down, publish_frames, reading_in, reading_after, World2, Step2, CallOpen2, CallClose2, CallTell2, CallSelect2, Next2, Read2, Deliver2, CallAsk2, Begin2, Send2, left_after, hands2, delivers2, sends2, happens2, run2, erase, is_none}
use Rattle.lapin_pairs.specs.Every.{One, Step1, Call1, Send1, Next1, Read1, Deliver1, has_any, left_one, called1, calls1, hands1, reads1, delivers1, happens1}
use Rattle.lapin_pairs.specs.Asking.{U2, Plain, SelectAsk, flat, flats, plains, S2, B2, K2, KOpen, KClose, KTell, KAsk, KSelect, KBegin, call_at, needs2, left_at, read_one, read_flat, reads2b, may2, gives2, asking, to2}
use Rattle.lapin_pairs.proofs.Pairs.{tight, reads, reads-append, broken-stays, may_star, sent_star, unbroken, whole, real, star, live, all_read, commutes, not_refused}
use Rattle.lapin_pairs.proofs.Erase.{map-append, and_left}
use Rattle.lapin_pairs.proofs.Data.{read_all, serves, read_still, still_on}
use Rattle.lapin_pairs.proofs.Whole.{off_sent, none_serving, after_some, Whole, whole_keeps, whole_run, whole_start, same_way, no_data_refused}
use Rattle.lapin_pairs.proofs.Every.{Fact}

pub flats-append : (us vs : List U2) → flats (us ++ vs) ≡ flats us ++ flats vs
flats-append [] vs = refl
flats-append (u ∷ us) vs = ap (λ xs. flat u ++ xs) (flats-append us vs) ∙ sym (append_assoc (flat u) (flats us) (flats vs))

pub flats-plains : (fs : List UpF) → flats (plains fs) ≡ fs
flats-plains [] = refl
flats-plains (f ∷ fs) = ap (λ xs. f ∷ xs) (flats-plains fs)

abbrev pub Asks : One asking → Type 0
Asks w = Whole (to2 w)

-- ---- calls

queued : (w : One asking) (s : S2) (us : List U2) → Whole (record (to2 w) { sess = s.sess; open_data = s.open_data; unsent = flats w.unsent ++ flats us }) → Asks (record w { sess = s; unsent = w.unsent ++ us })
queued w s us g = subst (λ x. Whole (record (to2 w) { sess = s.sess; open_data = s.open_data; unsent = x })) (sym (flats-append w.unsent us)) g

by_step : (w : World2) (s : Step2) (v : World2) → happens2 w s ≡ v → Whole w → Whole v
by_step w s v e g = subst Whole e (whole_keeps w s g)

by_two : (w : World2) (s t : Step2) (v : World2) → happens2 (happens2 w s) t ≡ v → Whole w → Whole v
by_two w s t v e g = subst Whole e (whole_keeps (happens2 w s) t (whole_keeps w s g))

call_asks : (w : One asking) (k : K2) (s : Sess) → w.sess.sess ≡ s → (needs2 k && has_any w.unsent) ≡ false → Asks w → Asks (called1 asking w (call_at k w.sess s))
call_asks w KOpen Closed e n g = queued w (record w.sess { sess = Opening }) (Plain FOpen ∷ []) (by_step (to2 w) CallOpen2 _ (rw e refl) g)
call_asks w KClose Opened e n g = queued w (record w.sess { sess = Closing }) (Plain FClose ∷ []) (by_step (to2 w) CallClose2 _ (rw e refl) g)
call_asks w KTell Opened e n g = queued w (record w.sess { sess = Opened }) (Plain FTell ∷ []) (by_step (to2 w) CallTell2 _ (rw e refl) g)
call_asks w (KAsk k) Opened e n g = queued w (record w.sess { sess = Opened; open_data = _ }) (Plain (FAsk k) ∷ []) (by_step (to2 w) (CallAsk2 k) _ (rw e refl) g)
call_asks w (KSelect false) Opened e n g = queued w (record w.sess { sess = Opened }) (Plain FSelect ∷ []) (by_step (to2 w) CallSelect2 _ (rw e refl) g)
call_asks w (KSelect true) Opened e n g = queued w (record w.sess { sess = Opened; open_data = _ }) (SelectAsk ∷ []) (by_two (to2 w) CallSelect2 (CallAsk2 0) _ (rw (e, append_assoc) refl) g)
call_asks w (KBegin i ns) Opened e n g = queued w (record w.sess { sess = Opened }) (plains (publish_frames i ns)) (by_step (to2 w) (Begin2 i ns) _ (begins w.unsent refl n) g)
  where
    begins : (us : List U2) → w.unsent ≡ us → has_any us ≡ false → happens2 (to2 w) (Begin2 i ns) ≡ record (to2 w) { sess = Opened; unsent = flats us ++ flats (plains (publish_frames i ns)) }
    begins [] u h = rw (e, u) (ap (λ x. record (to2 w) { sess = Opened; unsent = x }) (sym (flats-plains (publish_frames i ns))))
    begins (u ∷ us) x h = cc
call_asks w KOpen Opening e n g = g
call_asks w KOpen Opened e n g = g
call_asks w KOpen Closing e n g = g
call_asks w KOpen Crossed e n g = g
call_asks w KOpen Refused e n g = g
call_asks w KClose Opening e n g = g
call_asks w KClose Closed e n g = g
call_asks w KClose Closing e n g = g
call_asks w KClose Crossed e n g = g
call_asks w KClose Refused e n g = g
call_asks w KTell Opening e n g = g
call_asks w KTell Closed e n g = g
call_asks w KTell Closing e n g = g
call_asks w KTell Crossed e n g = g
call_asks w KTell Refused e n g = g
call_asks w (KAsk k) Opening e n g = g
call_asks w (KAsk k) Closed e n g = g
call_asks w (KAsk k) Closing e n g = g
call_asks w (KAsk k) Crossed e n g = g
call_asks w (KAsk k) Refused e n g = g
call_asks w (KSelect false) Opening e n g = g
call_asks w (KSelect false) Closed e n g = g
call_asks w (KSelect false) Closing e n g = g
call_asks w (KSelect false) Crossed e n g = g
call_asks w (KSelect false) Refused e n g = g
call_asks w (KSelect true) Opening e n g = g
call_asks w (KSelect true) Closed e n g = g
call_asks w (KSelect true) Closing e n g = g
call_asks w (KSelect true) Crossed e n g = g
call_asks w (KSelect true) Refused e n g = g
call_asks w (KBegin i ns) Opening e n g = g
call_asks w (KBegin i ns) Closed e n g = g
call_asks w (KBegin i ns) Closing e n g = g
call_asks w (KBegin i ns) Crossed e n g = g
call_asks w (KBegin i ns) Refused e n g = g

calls_asks : (w : One asking) (k : K2) (b : Bool) → (needs2 k && has_any w.unsent) ≡ b → Asks w → Asks (calls1 asking w k b)
calls_asks w k true n g = g
calls_asks w k false n g = call_asks w k w.sess.sess refl n g

-- ---- frames go on

-- as many small steps as a frame has small frames
abbrev times : Step2 → List UpF → List Step2
times s [] = []
times s (f ∷ fs) = s ∷ times s fs

hand_on : (w : World2) (fs vs : List UpF) → w.unsent ≡ fs ++ vs → run2 (times Next2 fs) w ≡ record w { unsent = vs; up = w.up ++ fs }
hand_on w [] vs e = λ i. record w { unsent = e i; up = sym (append-nil w.up) i }
hand_on w (f ∷ fs) vs e = ap (λ us. run2 (times Next2 fs) (hands2 w us)) e ∙ (hand_on (record w { unsent = fs ++ vs; up = w.up ++ f ∷ [] }) fs vs refl ∙ ap (λ us. record w { unsent = vs; up = us }) (append_assoc w.up (f ∷ []) fs))

next_asks : (w : One asking) (us : List U2) → w.unsent ≡ us → Asks w → Asks (hands1 asking w us)
next_asks w [] e g = g
next_asks w (u ∷ us) e g = subst Whole (hand_on (to2 w) (flat u) (flats us) (ap flats e) ∙ (λ i. record (to2 w) { unsent = flats us; up = (ap (λ xs. flats w.up ++ xs) (sym (append-nil (flat u))) ∙ sym (flats-append w.up (u ∷ []))) i })) (whole_run (to2 w) (times Next2 (flat u)) g)

abbrev with_side : World2 → B2 → World2
with_side w b = record w { peer = b.peer; kept = b.kept; reading = b.reading }

read_on : (w : World2) (b : B2) (fs vs : List UpF) → run2 (times Read2 fs) (record (with_side w b) { up = fs ++ vs }) ≡ record (with_side w (read_flat b fs)) { up = vs }
read_on w b [] vs = refl
read_on w b (f ∷ fs) vs = read_on w (read_one b f) fs vs

read_asks : (w : One asking) (us : List U2) → w.up ≡ us → Asks w → Asks (reads1 asking w us)
read_asks w [] e g = g
read_asks w (u ∷ us) e g = subst Whole (read_on (to2 w) w.broker (flat u) (flats us)) (whole_run (record (to2 w) { up = flat u ++ flats us }) (times Read2 (flat u)) (subst (λ x. Whole (record (to2 w) { up = flats x })) e g))

-- ---- frames of the broker

pub left_same : (s : Sess) (us : List U2) (d : DownF) → flats (left_one (left_at s (has_close (map kind_up (flats us))) d) us) ≡ left_after s (flats us) d
left_same Opening us BClose = refl
left_same Opened us BClose = refl
left_same Closing us BClose = elim (has_close (map kind_up (flats us))) as (λ b. flats (left_one (left_at Closing b BClose) us) ≡ cond b (FCloseOk ∷ []) (flats us ++ FCloseOk ∷ [])) [ true ↦ refl | false ↦ flats-append us (Plain FCloseOk ∷ []) ]
left_same Closing us BCloseOk = elim (has_close (map kind_up (flats us))) as (λ b. flats (left_one (left_at Closing b BCloseOk) us) ≡ []) [ true ↦ refl | false ↦ refl ]
left_same Closing us d = (elim (has_close (map kind_up (flats us))) as (λ b. flats (left_one (left_at Closing b d) us) ≡ flats us) [ true ↦ ap flats (append-nil us) | false ↦ ap flats (append-nil us) ])
left_same Opening us d = ap flats (append-nil us)
left_same Opened us d = ap flats (append-nil us)
left_same Closed us d = ap flats (append-nil us)
left_same Crossed us d = ap flats (append-nil us)
left_same Refused us d = ap flats (append-nil us)

deliver_asks : (w : One asking) (ds : List DownF) → w.down ≡ ds → Asks w → Asks (delivers1 asking w ds)
deliver_asks w [] e g = g
deliver_asks w (d ∷ ds) e g =
    let h : Whole (delivers2 (to2 w) (d ∷ ds)) = subst (λ x. Whole (delivers2 (to2 w) x)) e (whole_keeps (to2 w) Deliver2 g) in
    subst (λ x. Whole (record (delivers2 (to2 w) (d ∷ ds)) { unsent = x })) (sym (left_same w.sess.sess w.unsent d)) h

send_asks : (w : One asking) (d : DownF) (b : Bool) → may2 w.broker d ≡ b → Asks w → Asks (cond b (record w { broker = gives2 w.broker d; down = w.down ++ d ∷ [] }) w)
send_asks w d true e g = subst (λ b. Whole (cond b (sends2 (to2 w) d) (to2 w))) e (whole_keeps (to2 w) (Send2 d) g)
send_asks w d false e g = g

asks_kept : (w : One asking) (s : Step1 asking) → Asks w → Asks (happens1 asking w s)
asks_kept w (Call1 k) g = calls_asks w k (needs2 k && has_any w.unsent) refl g
asks_kept w (Send1 d) g = send_asks w d (may2 w.broker d) refl g
asks_kept w Next1 g = next_asks w w.unsent refl g
asks_kept w Read1 g = read_asks w w.up refl g
asks_kept w Deliver1 g = deliver_asks w w.down refl g

-- ---- what the broker reads breaks nothing

pub record Calm (b : B2) (us : List U2) : Type 0 where
  pub phases : is_broken (reads b.peer (map kind_up (flats us))) ≡ false
  pub some : is_none (read_all b.peer b.reading (flats us)) ≡ false
  pub off : serves b.peer ≡ false → b.reading ≡ Some Idle

-- of any state over small frames with this broker's side and these ways
pub calm_whole : (w : World2) (b : B2) (us vs : List U2) → w.peer ≡ b.peer → w.kept ≡ b.kept → w.reading ≡ b.reading → w.up ≡ flats us → w.unsent ≡ flats vs → Whole w → Calm b (us ++ vs)
calm_whole w b us vs ep ek er eu en g =
    let way : w.up ++ w.unsent ≡ flats (us ++ vs) = ap₂ (λ x y. x ++ y) eu en ∙ sym (flats-append us vs) in
    record {
      phases = ap₂ (λ p fs. is_broken (reads p (map kind_up fs))) (sym ep) (sym way) ∙ (ap is_broken (same_way w) ∙ whole w.sess (all_read (erase w)) (live (erase w) g.good));
      some = ap₂ (λ p fs. is_none (read_all p b.reading fs)) (sym ep) (sym way) ∙ (ap (λ r. is_none (read_all w.peer r (w.up ++ w.unsent))) (sym er) ∙ ap is_none g.ends);
      off = λ s. sym er ∙ g.off (ap serves ep ∙ s);
    }

calm_of : (w : One asking) → Asks w → Calm w.broker (w.up ++ w.unsent)
calm_of w g = calm_whole (to2 w) w.broker w.up w.unsent refl refl refl refl refl g

off_close : (r : Option Content) → is_none (reading_in Open r FClose) ≡ false → reading_in Open r FClose ≡ Some Idle
off_close None h = cc
off_close (Some Idle) h = refl
off_close (Some Begun) h = cc
off_close (Some (Rest n)) h = cc

off_next : (p : Peer) (r : Option Content) (u : UpF) (us : List UpF) → is_broken (reads (tight p (kind_up u)) (map kind_up us)) ≡ false → is_none (read_all (tight p (kind_up u)) (reading_in p r u) us) ≡ false → serves (tight p (kind_up u)) ≡ false → reading_in p r u ≡ Some Idle
off_next Open r FClose [] a h s = off_close r h
off_next Open r FClose (u ∷ us) a h s = let k = broken-stays (map kind_up us) in cc
off_next Open r FOpen us a h s = let k = broken-stays (map kind_up us) in cc
off_next Open r FCloseOk us a h s = let k = broken-stays (map kind_up us) in cc
off_next Open r u us a h s = cc
off_next p r u us a h s = refl

start_some : (p : Peer) (r : Option Content) (vs : List UpF) → is_broken (reads p (map kind_up vs)) ≡ false → is_none (read_all p r vs) ≡ false → (serves p ≡ false → r ≡ Some Idle) → is_none r ≡ false
start_some Open None vs a h f = let k = none_serving vs a in cc
start_some Open (Some c) vs a h f = refl
start_some p r vs a h f = rw (f refl) refl

front_some : (p : Peer) (r : Option Content) (us vs : List UpF) → is_broken (reads p (map kind_up (us ++ vs))) ≡ false → is_none (read_all p r (us ++ vs)) ≡ false → (serves p ≡ false → r ≡ Some Idle) → is_none (read_all p r us) ≡ false
front_some p r [] vs a h f = start_some p r vs a h f
front_some p r (u ∷ us) vs a h f = front_some (tight p (kind_up u)) (reading_in p r u) us vs a h (off_next p r u (us ++ vs) a h)

pub calm_front : (b : B2) (us vs : List U2) → Calm b (us ++ vs) → Calm b us
calm_front b us vs h =
    let a : is_broken (reads b.peer (map kind_up (flats us ++ flats vs))) ≡ false = ap (λ fs. is_broken (reads b.peer (map kind_up fs))) (sym (flats-append us vs)) ∙ h.phases in
    let k : is_broken (reads (reads b.peer (map kind_up (flats us))) (map kind_up (flats vs))) ≡ false = ap is_broken (sym (reads-append b.peer (map kind_up (flats us)) (map kind_up (flats vs))) ∙ ap (reads b.peer) (sym (map-append kind_up (flats us) (flats vs)))) ∙ a in
    record {
      phases = unbroken (reads b.peer (map kind_up (flats us))) (map kind_up (flats vs)) k;
      some = front_some b.peer b.reading (flats us) (flats vs) a (ap (λ fs. is_none (read_all b.peer b.reading fs)) (sym (flats-append us vs)) ∙ h.some) h.off;
      off = h.off;
    }

-- the same over small frames
record Still (b : B2) (fs : List UpF) : Type 0 where
  phases : is_broken (reads b.peer (map kind_up fs)) ≡ false
  some : is_none (read_all b.peer b.reading fs) ≡ false
  off : serves b.peer ≡ false → b.reading ≡ Some Idle

still_one : (b : B2) (f : UpF) (fs : List UpF) → Still b (f ∷ fs) → Still (read_one b f) fs
still_one b f fs h =
    let e : read b.peer (kind_up f) ≡ tight b.peer (kind_up f) = real b.peer (kind_up f) (unbroken (tight b.peer (kind_up f)) (map kind_up fs) h.phases) in
    record {
      phases = ap (λ p. is_broken (reads p (map kind_up fs))) e ∙ h.phases;
      some = ap (λ p. is_none (read_all p (reading_in b.peer b.reading f) fs)) e ∙ h.some;
      off = λ s. off_next b.peer b.reading f fs h.phases h.some (ap serves (sym e) ∙ s);
    }

still_flat : (b : B2) (fs gs : List UpF) → Still b (fs ++ gs) → Still (read_flat b fs) gs
still_flat b [] gs h = h
still_flat b (f ∷ fs) gs h = still_flat (read_one b f) fs gs (still_one b f (fs ++ gs) h)

pub calm_read : (b : B2) (u : U2) (us : List U2) → Calm b (u ∷ us) → Calm (reads2b b u) us
calm_read b u us h = let s = still_flat b (flat u) (flats us) (record { phases = h.phases; some = h.some; off = h.off }) in record { phases = s.phases; some = s.some; off = s.off }

sent_whole : (q : Peer) (d : Down) → may_star q d ≡ true → is_broken (sent_star q d) ≡ false
sent_whole Broken d m = cc
sent_whole Asked DOpenOk m = refl
sent_whole Open DClose m = refl
sent_whole Leaving DClose m = refl
sent_whole StoppingOwes DCloseOk m = refl
sent_whole StoppingAnswered DCloseOk m = refl
sent_whole Leaving DCloseOk m = refl
sent_whole Asked DClose m = refl
sent_whole _ _ m = refl

some_sent : (p : Peer) (d : DownF) (r : Option Content) (us : List UpF) → may_star p (kind_down d) ≡ true → is_broken (reads p (map kind_up us)) ≡ false → is_none (read_all p r us) ≡ false → is_none (read_all (sent_star p (kind_down d)) (reading_after d r) us) ≡ false
some_sent p d r [] m a h = after_some d r h
some_sent Open BClose r (u ∷ us) m a h = ap is_none (read_still (tight Stopping (kind_up u)) us (still_on Stopping (kind_up u) refl))
some_sent Open d r (u ∷ us) m a h = h
some_sent StoppingOwes BCloseOk r (u ∷ us) m a h = ap is_none (read_still (tight Stopping (kind_up u)) us (still_on Stopping (kind_up u) refl))
some_sent StoppingOwes d r (u ∷ us) m a h = cc
some_sent _ d r (u ∷ us) m a h = let k = broken-stays (map kind_up us) in cc

pub calm_give : (b : B2) (d : DownF) (us : List U2) → may2 b d ≡ true → Calm b us → Calm (gives2 b d) us
calm_give b d us m h =
    let n = and_left (may_send b.peer (kind_down d)) _ m in
    let t = star b.peer (kind_down d) n in
    let j = commutes b.peer (kind_down d) (map kind_up (flats us)) t.1 h.phases in
    record {
      phases = ap (λ p. is_broken (reads p (map kind_up (flats us)))) (sym t.0) ∙ (ap is_broken j.0 ∙ sent_whole _ (kind_down d) j.1);
      some = ap (λ p. is_none (read_all p (reading_after d b.reading) (flats us))) (sym t.0) ∙ some_sent b.peer d b.reading (flats us) t.1 h.phases h.some;
      off = off_sent b.peer d b.reading n h.off;
    }

pub asks_fact : Fact asking Asks Calm
asks_fact = record { kept = asks_kept; first = whole_start; fits = calm_of; front = calm_front; read = calm_read; give = calm_give; none = record { phases = refl; some = refl; off = λ s. refl } }

-- ---- what follows for one channel

pub asks_sess : (w : One asking) → Asks w → is_refused w.sess.sess ≡ false
asks_sess w g = not_refused (erase (to2 w)) g.good

pub asks_data : (w : One asking) → Asks w → is_none w.sess.open_data ≡ false
asks_data w g = no_data_refused (to2 w) g

pub asks_reading : (w : One asking) → Asks w → is_none w.broker.reading ≡ false
asks_reading w g = g.some

pub calm_now : (b : B2) (us : List U2) → Calm b us → (is_broken b.peer ≡ false) × (is_none b.reading ≡ false)
calm_now b us h = (unbroken b.peer (map kind_up (flats us)) h.phases, start_some b.peer b.reading (flats us) h.phases h.some h.off)
