-- What holds after each step of the pair of machines with requests and contents, so that no data is refused.
use Rattle.std.proofs.Common.{◌≡◌, ℕ, Bool, true, false, cond, ◌&&◌, List, [], ◌∷◌, ◌++◌, map, refl, sym, ◌∙◌, ap, append_assoc, append-nil, Option, Some, None, inl, inr}
use Rattle.lapin_pairs.specs.Machine.{Sess, Closed, Opening, Opened, Closing, Peer, Open, Stopping, may_send, sent, is_broken}
use Rattle.lapin_pairs.specs.Channel.{Content, Idle, UpF, FOpen, FClose, FCloseOk, FTell, FSelect, FAsk, FPublish, FHeader, FBody, DownF, BOpenOk, BClose, BCloseOk, kind_up, kind_down, Data, asked, asks, reading_in, may_data, World2, left_after, Step2, CallOpen2, CallClose2, CallTell2, CallSelect2, Next2, Read2, Deliver2, CallAsk2, Begin2, Send2, bodies_of, publish_frames, opens2, closes2, tells2, asks2, begins2, hands2, reads2, delivers2, reading_after, sends2, happens2, erase, is_none, run2, start2}
use Rattle.lapin_pairs.proofs.Pairs.{Good, tight, reads, reads-append, shape_of, accepts, not_dead, unbroken, whole, real, star, live, all_read, broken-stays, commutes, good_start}
use Rattle.lapin_pairs.proofs.Erase.{map-append, good2, and_left, and_right}
use Rattle.lapin_pairs.proofs.Data.{takes-append, kept-append, mirror, is_ask, quiet, kept_commutes, some_stays, asks_plain, asks_ended, kept_still, kept_quiet, not_served, not_serves, left_or_still, read-append, read_still, after_sent, read_sent, whole_publish, takes_all, kept_all, read_all, no_asks, serves}

-- what holds after each step
pub record Whole (w : World2) : Type 0 where
  pub good : Good (erase w)
  pub same : takes_all w.open_data w.down ≡ Some (kept_all w.peer w.kept (w.up ++ w.unsent))
  pub ends : read_all w.peer w.reading (w.up ++ w.unsent) ≡ Some Idle
  pub some : is_none w.reading ≡ false
  pub off : serves w.peer ≡ false → w.reading ≡ Some Idle

-- a frame that asks for nothing and is no part of a content
abbrev pub is_plain : UpF → Bool
is_plain (FAsk k) = false
is_plain (FPublish i) = false
is_plain (FHeader n) = false
is_plain (FBody n) = false
is_plain _ = true

plain_read : (p : Peer) (u : UpF) → is_plain u ≡ true → reading_in p (Some Idle) u ≡ Some Idle
plain_read Open (FPublish i) h = cc
plain_read Open (FHeader n) h = cc
plain_read Open (FBody n) h = cc
plain_read Open _ h = refl
plain_read _ u h = refl

ask_read : (p : Peer) (k : ℕ) → reading_in p (Some Idle) (FAsk k) ≡ Some Idle
ask_read Open k = refl
ask_read _ k = refl

plain_quiet : (u : UpF) → is_plain u ≡ true → is_ask u ≡ false
plain_quiet (FAsk k) h = cc
plain_quiet _ h = refl

push_kept : (w : World2) (u : UpF) → kept_all w.peer w.kept (w.up ++ (w.unsent ++ u ∷ [])) ≡ asked (reads w.peer (map kind_up (w.up ++ w.unsent))) (kept_all w.peer w.kept (w.up ++ w.unsent)) u
push_kept w u = rw (← append_assoc, kept-append w.peer w.kept (w.up ++ w.unsent) (u ∷ [])) refl

push_read : (w : World2) (u : UpF) → read_all w.peer w.reading (w.up ++ (w.unsent ++ u ∷ [])) ≡ reading_in (reads w.peer (map kind_up (w.up ++ w.unsent))) (read_all w.peer w.reading (w.up ++ w.unsent)) u
push_read w u = rw (← append_assoc, read-append w.peer w.reading (w.up ++ w.unsent) (u ∷ [])) refl

pub whole_push : (w : World2) (s : Sess) (u : UpF) → is_plain u ≡ true → Whole w → Good (erase (record w { sess = s; unsent = w.unsent ++ u ∷ [] })) → Whole (record w { sess = s; unsent = w.unsent ++ u ∷ [] })
whole_push w s u h g k = record {
  good = k;
  same = rw (push_kept w u, quiet (reads w.peer (map kind_up (w.up ++ w.unsent))) (kept_all w.peer w.kept (w.up ++ w.unsent)) u (plain_quiet u h)) g.same;
  ends = rw (push_read w u, g.ends) (plain_read _ u h);
  some = g.some;
  off = g.off;
}

-- the broker once it has read the whole way up, in both forms
pub same_way : (w : World2) → reads w.peer (map kind_up (w.up ++ w.unsent)) ≡ all_read (erase w)
same_way w = rw map-append refl

pub whole_open : (w : World2) (s : Sess) → w.sess ≡ s → Whole w → Good (erase (opens2 w s)) → Whole (opens2 w s)
whole_open w Closed e g k = whole_push w Opening FOpen refl g k
whole_open w _ e g k = g

pub whole_close : (w : World2) (s : Sess) → w.sess ≡ s → Whole w → Good (erase (closes2 w s)) → Whole (closes2 w s)
whole_close w Opened e g k = whole_push w Closing FClose refl g k
whole_close w _ e g k = g

pub whole_tell : (w : World2) (s : Sess) (u : UpF) → is_plain u ≡ true → w.sess ≡ s → Whole w → Good (erase (tells2 w s u)) → Whole (tells2 w s u)
whole_tell w Opened u h e g k = whole_push w w.sess u h g k
whole_tell w _ u h e g k = g

ask_same : (q : Peer) (o : Option Data) (x : Data) (ds : List DownF) (k : ℕ) → accepts (shape_of Opened q) (map kind_down ds) ≡ true → takes_all o ds ≡ Some x → takes_all (asks k o) ds ≡ Some (asked q x (FAsk k))
ask_same Open o x ds k a h = asks_plain k o ds a (rw h refl) ∙ ap (asks k) h
ask_same Stopping o x ds k a h = asks_ended k o ds a (rw h refl) ∙ h
ask_same _ o x ds k a h = absurd (not_dead (map kind_down ds) a)

pub whole_ask : (w : World2) (s : Sess) (j : ℕ) → w.sess ≡ s → Whole w → Good (erase (asks2 w s j)) → Whole (asks2 w s j)
whole_ask w Opened j e g k = record {
  good = k;
  same = rw push_kept (ask_same (reads w.peer (map kind_up (w.up ++ w.unsent))) w.open_data (kept_all w.peer w.kept (w.up ++ w.unsent)) w.down j (rw (same_way w, ← e) g.good.pair) g.same);
  ends = rw (push_read w (FAsk j), g.ends) (ask_read _ j);
  some = g.some;
  off = g.off;
}
whole_ask w _ j e g k = g

bodies_quiet : (ns : List ℕ) → no_asks (bodies_of ns) ≡ true
bodies_quiet [] = refl
bodies_quiet (n ∷ ns) = bodies_quiet ns

pub publish_read : (p : Peer) (i : ℕ) (ns : List ℕ) → read_all p (Some Idle) (publish_frames i ns) ≡ Some Idle
publish_read Open i ns = whole_publish i ns
publish_read p i ns = read_still p (publish_frames i ns) refl

pub whole_begin : (w : World2) (s : Sess) (us : List UpF) (i : ℕ) (ns : List ℕ) → w.sess ≡ s → w.unsent ≡ us → Whole w → Good (erase (begins2 w s us i ns)) → Whole (begins2 w s us i ns)
whole_begin w Opened [] i ns e u g k =
    let a : takes_all w.open_data w.down ≡ Some (kept_all w.peer w.kept w.up) = rw (u, append-nil) at g.same in
    let b : read_all w.peer w.reading w.up ≡ Some Idle = rw (u, append-nil) at g.ends in
    record {
      good = k;
      same = rw (kept-append, kept_quiet (reads w.peer (map kind_up w.up)) (kept_all w.peer w.kept w.up) (publish_frames i ns) (bodies_quiet ns)) a;
      ends = rw (read-append, b) (publish_read _ i ns);
      some = g.some;
      off = g.off;
    }
whole_begin w _ _ i ns e u g k = g

pub whole_next : (w : World2) (us : List UpF) → w.unsent ≡ us → Whole w → Good (erase (hands2 w us)) → Whole (hands2 w us)
whole_next w [] e g k = g
whole_next w (u ∷ us) e g k = record { good = k; same = rw append_assoc (rw e at g.same); ends = rw append_assoc (rw e at g.ends); some = g.some; off = g.off }

pub after_some : (d : DownF) (r : Option Content) → is_none r ≡ false → is_none (reading_after d r) ≡ false
after_some BClose r h = refl
after_some _ r h = h

pub off_sent : (p : Peer) (d : DownF) (r : Option Content) → may_send p (kind_down d) ≡ true → (serves p ≡ false → r ≡ Some Idle) → serves (sent p (kind_down d)) ≡ false → reading_after d r ≡ Some Idle
off_sent Open BClose r m f h = refl
off_sent Open BOpenOk r m f h = cc
off_sent Open BCloseOk r m f h = cc
off_sent Open d r m f h = cc
off_sent p d r m f h = after_sent d r (f refl)

pub whole_send : (w : World2) (d : DownF) → may_send w.peer (kind_down d) ≡ true → may_data w.peer w.kept d ≡ true → Whole w → Good (erase (sends2 w d)) → Whole (sends2 w d)
whole_send w d m n g k =
    let way : List UpF = w.up ++ w.unsent in
    let st = star w.peer (kind_down d) m in
    let un : is_broken (reads w.peer (map kind_up (w.up ++ w.unsent))) ≡ false = rw (same_way w) (whole w.sess (all_read (erase w)) (live (erase w) g.good)) in
    let c = kept_commutes w.peer w.kept d (w.up ++ w.unsent) st.1 n un in
    let j = commutes w.peer (kind_down d) (map kind_up (w.up ++ w.unsent)) st.1 un in
    record {
      good = k;
      same = rw (takes-append, g.same, ← st.0, c.0) (mirror (reads w.peer (map kind_up (w.up ++ w.unsent))) (kept_all w.peer w.kept (w.up ++ w.unsent)) d j.1 c.1);
      ends = rw (← st.0) (read_sent w.peer d w.reading (w.up ++ w.unsent) st.1 un g.ends);
      some = after_some d w.reading g.some;
      off = off_sent w.peer d w.reading m g.off;
    }

pub none_serving : (us : List UpF) → is_broken (reads Open (map kind_up us)) ≡ false → read_all Open None us ≡ None
none_serving [] a = refl
none_serving (FClose ∷ []) a = refl
none_serving (FClose ∷ u ∷ us) a = let k = broken-stays (map kind_up us) in cc
none_serving (FOpen ∷ us) a = let k = broken-stays (map kind_up us) in cc
none_serving (FCloseOk ∷ us) a = let k = broken-stays (map kind_up us) in cc
none_serving (u ∷ us) a = none_serving us a

pub some_read : (p : Peer) (r : Option Content) (u : UpF) (us : List UpF) → is_none r ≡ false → is_broken (reads (tight p (kind_up u)) (map kind_up us)) ≡ false → read_all (tight p (kind_up u)) (reading_in p r u) us ≡ Some Idle → is_none (reading_in p r u) ≡ false
some_read Open r FClose [] n a h = rw h refl
some_read Open r FClose (u ∷ us) n a h = let k = broken-stays (map kind_up us) in cc
some_read Open r FOpen us n a h = let k = broken-stays (map kind_up us) in cc
some_read Open r FCloseOk us n a h = let k = broken-stays (map kind_up us) in cc
some_read Open r u us n a h =
    elim (reading_in Open r u) as (λ o. read_all Open o us ≡ Some Idle → is_none o ≡ false)
    [ None ↦ λ h. let k = none_serving us a in cc | Some c ↦ λ h. refl ] h
some_read p r u us n a h = refl

off_read : (p : Peer) (r : Option Content) (u : UpF) (us : List UpF) → is_broken (reads (tight p (kind_up u)) (map kind_up us)) ≡ false → read_all (tight p (kind_up u)) (reading_in p r u) us ≡ Some Idle → serves (tight p (kind_up u)) ≡ false → reading_in p r u ≡ Some Idle
off_read Open r FClose [] a h s = h
off_read Open r FClose (u ∷ us) a h s = let k = broken-stays (map kind_up us) in cc
off_read Open r FOpen us a h s = let k = broken-stays (map kind_up us) in cc
off_read Open r FCloseOk us a h s = let k = broken-stays (map kind_up us) in cc
off_read Open r u us a h s = cc
off_read p r u us a h s = refl

pub whole_read : (w : World2) (us : List UpF) → w.up ≡ us → Whole w → Good (erase (reads2 w us)) → Whole (reads2 w us)
whole_read w [] e g k = g
whole_read w (u ∷ us) e g k =
    let un : is_broken (reads w.peer (map kind_up (w.up ++ w.unsent))) ≡ false = rw (same_way w) (whole w.sess (all_read (erase w)) (live (erase w) g.good)) in
    let v : is_broken (reads (tight w.peer (kind_up u)) (map kind_up (us ++ w.unsent))) ≡ false = rw e at un in
    let l = real w.peer (kind_up u) (unbroken (tight w.peer (kind_up u)) (map kind_up (us ++ w.unsent)) v) in
    let d : read_all (tight w.peer (kind_up u)) (reading_in w.peer w.reading u) (us ++ w.unsent) ≡ Some Idle = rw e at g.ends in
    let s : takes_all w.open_data w.down ≡ Some (kept_all (tight w.peer (kind_up u)) (asked w.peer w.kept u) (us ++ w.unsent)) = rw e at g.same in
    record {
      good = k;
      same = rw l s;
      ends = rw l d;
      some = some_read w.peer w.reading u (us ++ w.unsent) g.some v d;
      off = rw l (off_read w.peer w.reading u (us ++ w.unsent) v d);
    }

pub whole_deliver : (w : World2) (ds : List DownF) → w.down ≡ ds → Whole w → Good (erase (delivers2 w ds)) → Whole (delivers2 w ds)
whole_deliver w [] e g k = g
whole_deliver w (d ∷ ds) e g k =
    elim (left_or_still w.sess (all_read (erase w)) (reads w.peer (map kind_up w.up)) w.unsent d (map kind_down ds) (sym (reads-append w.peer (map kind_up w.up) (map kind_up w.unsent))) g.good.clean (rw e at g.good.pair)) [
      | inl l ↦ record { good = k; same = rw l (rw e at g.same); ends = rw l g.ends; some = g.some; off = g.off }
      | inr p ↦
          let n = not_serves _ p.past in
          let o = g.off (not_served w.peer (map kind_up w.up) p.past) in
          let a = kept-append w.peer w.kept w.up w.unsent ∙ kept_still _ (kept_all w.peer w.kept w.up) w.unsent n in
          let b = kept-append w.peer w.kept w.up (left_after w.sess w.unsent d) ∙ kept_still _ (kept_all w.peer w.kept w.up) (left_after w.sess w.unsent d) n in
          record {
            good = k;
            same = rw (b, ← a) (rw e at g.same);
            ends = rw o (rw (read-append, read_still w.peer w.up (not_served w.peer (map kind_up w.up) p.past)) (read_still _ (left_after w.sess w.unsent d) n));
            some = g.some;
            off = g.off;
          }
    ]

pub whole_keeps : (w : World2) (s : Step2) → Whole w → Whole (happens2 w s)
whole_keeps w s g = go s (good2 w s g.good)
  where
    go : (s : Step2) → Good (erase (happens2 w s)) → Whole (happens2 w s)
    go CallOpen2 k = whole_open w w.sess refl g k
    go CallClose2 k = whole_close w w.sess refl g k
    go CallTell2 k = whole_tell w w.sess FTell refl refl g k
    go CallSelect2 k = whole_tell w w.sess FSelect refl refl g k
    go (CallAsk2 j) k = whole_ask w w.sess j refl g k
    go (Begin2 i ns) k = whole_begin w w.sess w.unsent i ns refl refl g k
    go Next2 k = whole_next w w.unsent refl g k
    go Read2 k = whole_read w w.up refl g k
    go Deliver2 k = whole_deliver w w.down refl g k
    go (Send2 d) k =
        elim (may_send w.peer (kind_down d) && may_data w.peer w.kept d) as (λ b. (may_send w.peer (kind_down d) && may_data w.peer w.kept d) ≡ b → Good (erase (cond b (sends2 w d) w)) → Whole (cond b (sends2 w d) w))
        [ true ↦ λ m k. whole_send w d (and_left _ _ m) (and_right (may_send w.peer (kind_down d)) (may_data w.peer w.kept d) m) g k | false ↦ λ m k. g ] refl k

pub whole_run : (w : World2) (ss : List Step2) → Whole w → Whole (run2 ss w)
whole_run w [] g = g
whole_run w (s ∷ ss) g = whole_run (happens2 w s) ss (whole_keeps w s g)

pub whole_start : Whole start2
whole_start = record { good = good_start; same = refl; ends = refl; some = refl; off = λ h. refl }

pub no_data_refused : (w : World2) → Whole w → is_none w.open_data ≡ false
no_data_refused w g = some_stays w.open_data w.down (rw g.same refl)
