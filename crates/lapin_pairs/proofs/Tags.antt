-- The session's tags are the broker's numbers, after each step.
use Rattle.std.proofs.Common.{◌≡◌, ℕ, Bool, true, false, cond, ◌&&◌, ◌||◌, not, ◌==◌, List, [], ◌∷◌, ◌++◌, map, length, refl, sym, ◌∙◌, ap, subst, append_assoc, append-nil, length-append, Option, Some, arith, inl, inr, ◌-◌, ◌≤◌, ◌<◌, zero, suc, slice_get, nat_lt, nat_le}
use Rattle.std.proofs.lemmas.Bool.Decides.{nat_tests}
use Rattle.std.specs.List.{list_any}
use Rattle.lapin_pairs.specs.Machine.{Sess, Closed, Opened, Peer, Free, may_send, is_broken}
use Rattle.lapin_pairs.specs.Channel.{Content, Idle, Settle, UpF, FClose, FTell, FSelect, FAsk, DownF, BSettle, kind_up, kind_down, may_data, reading_in, left_after, World2, Step2, CallOpen2, CallClose2, CallTell2, CallSelect2, Next2, Read2, Deliver2, CallAsk2, Begin2, Send2, closes2, asks2, hands2, tells2, delivers2, erase}
use Rattle.lapin_pairs.specs.Tags.{covers, TagCount, tag_count_next, may_tag, may_settle, logged, World3, with_settle, is_odd, opens3, selects3, begins3, reads3, delivers3, sends3, happens3, run3, start3, first_covering}
use Rattle.lapin_pairs.proofs.Pairs.{Good, tight, reads, reads-append, shape_of, is_dead, accepts, not_dead, unbroken, whole, real, live, all_read}
use Rattle.lapin_pairs.proofs.Erase.{good_open, good_close, good_tell, good_ask, good_begin, good_next, good_read, good_deliver, good_send, and_right}
use Rattle.lapin_pairs.proofs.Data.{left_or_still, read_all}
use Rattle.lapin_pairs.proofs.Whole.{Whole, whole_start, whole_open, whole_close, whole_tell, whole_ask, whole_begin, whole_next, whole_read, whole_deliver, whole_send, same_way}
use Rattle.lapin_pairs.proofs.Counted.{Grew, one_step, tag_count_grew, Count, count_calm, count_open, count_select, count_begin, count_came, count_drop, count_send, Lawful, settles, tag_count_all}

pub record Tags (w : World3) : Type 0 where
  pub whole : Whole w.base
  pub count : Count w.base.peer w.base.reading w.tag_count (w.base.up ++ w.base.unsent) w.received w.base.down w.tagged w.selected
  pub lawful : Lawful (length w.tag_count.numbered) [] w.tag_count.log
  pub never : w.refusals ≡ false

longer : (xs ys zs : List ℕ) → xs ++ ys ≡ zs → length xs ≤ length zs
longer xs ys zs e = omega (arith, length-append xs ys, ap length e)

below_more' : (t n m : ℕ) → nat_le t n ≡ true → n ≤ m → nat_le t m ≡ true
below_more' t n m a h = grind (arith, nat_tests)

lawful_more : (n m : ℕ) (before ss : List Settle) → n ≤ m → Lawful n before ss → Lawful m before ss
lawful_more n m before [] h l = tt
lawful_more n m before (s ∷ ss) h l = (l.0, below_more' s.tag n m l.1 h, l.2, lawful_more n m (before ++ s ∷ []) ss h l.3)

lawful-push : (n : ℕ) (before ss : List Settle) (s : Settle) → nat_lt 0 s.tag ≡ true → nat_le s.tag n ≡ true → (s.multiple || not (list_any (covers s.tag) (before ++ ss))) ≡ true → Lawful n before ss → Lawful n before (ss ++ s ∷ [])
lawful-push n before [] s a b c l = (a, b, rw append-nil at c, tt)
lawful-push n before (x ∷ ss) s a b c l = (l.0, l.1, l.2, lawful-push n (before ++ x ∷ []) ss s a b (rw append_assoc c) l.3)

pub record At (n : ℕ) (before : List Settle) (s : Settle) : Type 0 where
  pub above : nat_lt 0 s.tag ≡ true
  pub below : nat_le s.tag n ≡ true
  pub first : (s.multiple || not (list_any (covers s.tag) before)) ≡ true

lawful_at : (n : ℕ) (before xs : List Settle) (s : Settle) (ys : List Settle) → Lawful n before (xs ++ s ∷ ys) → At n (before ++ xs) s
lawful_at n before [] s ys l = record { above = l.0; below = l.1; first = rw append-nil l.2 }
lawful_at n before (x ∷ xs) s ys l = subst (λ b. At n b s) (append_assoc before (x ∷ []) xs) (lawful_at n (before ++ x ∷ []) xs s ys l.3)

-- the broker once it has read the whole way up breaks nothing
unbroken_way : (w : World2) → Good (erase w) → is_broken (reads w.peer (map kind_up (w.up ++ w.unsent))) ≡ false
unbroken_way w g = rw (same_way w) (whole w.sess (all_read (erase w)) (live (erase w) g))

closed_nil : (q : Peer) (ds : List DownF) → accepts (shape_of Closed q) (map kind_down ds) ≡ true → (q ≡ Free) × (ds ≡ [])
closed_nil Free [] h = (refl, refl)
closed_nil Free (d ∷ ds) h = absurd (not_dead (map kind_down ds) h)
closed_nil _ ds h = absurd (not_dead (map kind_down ds) h)

keep_open : (w : World3) (s : Sess) → w.base.sess ≡ s → Tags w → Tags (opens3 w s)
keep_open w Closed e g =
    let n = closed_nil (all_read (erase w.base)) w.base.down (rw e at g.whole.good.pair) in
    let f : reads w.base.peer (map kind_up (w.base.up ++ w.base.unsent)) ≡ Free = same_way w.base ∙ n.0 in
    record {
      whole = whole_open w.base Closed e g.whole (good_open w.base Closed e g.whole.good);
      count = rw (n.1, ← append_assoc) (count_open w.base.peer w.base.reading w.tag_count (w.base.up ++ w.base.unsent) f);
      lawful = g.lawful;
      never = g.never;
    }
keep_open w _ e g = g

keep_close : (w : World3) (s : Sess) → w.base.sess ≡ s → Tags w → Tags (record w { base = closes2 w.base s })
keep_close w Opened e g = record {
  whole = whole_close w.base Opened e g.whole (good_close w.base Opened e g.whole.good);
  count = rw (← append_assoc) (count_calm _ _ _ _ _ _ _ _ FClose refl g.count);
  lawful = g.lawful;
  never = g.never;
}
keep_close w _ e g = g

keep_tell : (w : World3) (s : Sess) → w.base.sess ≡ s → Tags w → Tags (record w { base = tells2 w.base s FTell })
keep_tell w Opened e g = record {
  whole = whole_tell w.base Opened FTell refl e g.whole (good_tell w.base Opened FTell refl e g.whole.good);
  count = rw (← append_assoc) (count_calm _ _ _ _ _ _ _ _ FTell refl g.count);
  lawful = g.lawful;
  never = g.never;
}
keep_tell w _ e g = g

keep_ask : (w : World3) (s : Sess) (k : ℕ) → w.base.sess ≡ s → Tags w → Tags (record w { base = asks2 w.base s k })
keep_ask w Opened k e g = record {
  whole = whole_ask w.base Opened k e g.whole (good_ask w.base Opened k e g.whole.good);
  count = rw (← append_assoc) (count_calm _ _ _ _ _ _ _ _ (FAsk k) refl g.count);
  lawful = g.lawful;
  never = g.never;
}
keep_ask w _ k e g = g

opened_alive : (w : World3) → w.base.sess ≡ Opened → Tags w → is_dead (shape_of Opened (reads w.base.peer (map kind_up (w.base.up ++ w.base.unsent)))) ≡ false
opened_alive w e g = rw (same_way w.base, ← e) (live (erase w.base) g.whole.good)

keep_select : (w : World3) (s : Sess) → w.base.sess ≡ s → Tags w → Tags (selects3 w s)
keep_select w Opened e g = record {
  whole = whole_tell w.base Opened FSelect refl e g.whole (good_tell w.base Opened FSelect refl e g.whole.good);
  count = rw (← append_assoc) (count_select _ _ _ _ _ _ _ _ (opened_alive w e g) g.count);
  lawful = g.lawful;
  never = g.never;
}
keep_select w _ e g = g

keep_begin : (w : World3) (s : Sess) (us : List UpF) (i : ℕ) (ns : List ℕ) → w.base.sess ≡ s → w.base.unsent ≡ us → Tags w → Tags (begins3 w s us i ns)
keep_begin w Opened [] i ns e u g =
    let c : Count w.base.peer w.base.reading w.tag_count w.base.up w.received w.base.down w.tagged w.selected = rw (u, append-nil) at g.count in
    let a : is_dead (shape_of Opened (reads w.base.peer (map kind_up w.base.up))) ≡ false = rw (u, append-nil) at (opened_alive w e g) in
    let o : read_all w.base.peer w.base.reading w.base.up ≡ Some Idle = rw (u, append-nil) at g.whole.ends in
    record {
      whole = whole_begin w.base Opened [] i ns e u g.whole (good_begin w.base Opened [] i ns e u g.whole.good);
      count = count_begin _ _ _ _ _ _ _ _ i ns a o c;
      lawful = g.lawful;
      never = g.never;
    }
keep_begin w _ _ i ns e u g = g

keep_next : (w : World3) (us : List UpF) → w.base.unsent ≡ us → Tags w → Tags (record w { base = hands2 w.base us })
keep_next w [] e g = g
keep_next w (u ∷ us) e g = record { whole = whole_next w.base (u ∷ us) e g.whole (good_next w.base (u ∷ us) e g.whole.good); count = rw append_assoc (rw e at g.count); lawful = g.lawful; never = g.never }

lawful_read : (p : Peer) (r : Option Content) (b : TagCount) (u : UpF) → Lawful (length b.numbered) [] b.log → Lawful (length (tag_count_next p r b u).numbered) [] (tag_count_next p r b u).log
lawful_read p r b u l =
    elim (one_step p r b u) [
      | inl g ↦ rw g.log (lawful_more (length b.numbered) _ [] b.log (longer b.numbered g.more _ g.numbers) l)
      | inr e ↦ rw e.1 tt
    ]

keep_read : (w : World3) (us : List UpF) → w.base.up ≡ us → Tags w → Tags (reads3 w us)
keep_read w [] e g = g
keep_read w (u ∷ us) e g =
    let c : Count w.base.peer w.base.reading w.tag_count (u ∷ (us ++ w.base.unsent)) w.received w.base.down w.tagged w.selected = rw e at g.count in
    let k : Count (tight w.base.peer (kind_up u)) (reading_in w.base.peer w.base.reading u) (tag_count_next w.base.peer w.base.reading w.tag_count u) (us ++ w.base.unsent) w.received w.base.down w.tagged w.selected = record { log = c.log; rest = c.rest; tags = c.tags; all = c.all; chosen = c.chosen } in
    let v : is_broken (reads (tight w.base.peer (kind_up u)) (map kind_up (us ++ w.base.unsent))) ≡ false = rw e at (unbroken_way w.base g.whole.good) in
    let l = real w.base.peer (kind_up u) (unbroken (tight w.base.peer (kind_up u)) (map kind_up (us ++ w.base.unsent)) v) in
    record {
      whole = whole_read w.base (u ∷ us) e g.whole (good_read w.base (u ∷ us) e g.whole.good);
      count = rw l k;
      lawful = lawful_read w.base.peer w.base.reading w.tag_count u g.lawful;
      never = g.never;
    }

no_nil : (xs : List Settle) (s : Settle) (ys : List Settle) → xs ++ s ∷ ys ≡ [] → ⊥
no_nil [] s ys h = cc
no_nil (x ∷ xs) s ys h = cc

-- what a settlement on its way down is
coming : (w : World3) (s : Settle) (ds : List DownF) → Tags w → w.base.down ≡ BSettle s ∷ ds → At (length w.tagged) w.received s
coming w s ds g e =
    let h : w.received ++ s ∷ settles ds ≡ (tag_count_all w.base.peer w.base.reading w.tag_count (w.base.up ++ w.base.unsent)).log = rw e at g.count.log in
    elim (tag_count_grew w.base.peer w.base.reading w.tag_count (w.base.up ++ w.base.unsent)) [
      | inl k ↦
          let l : Lawful (length w.tag_count.numbered) [] (w.received ++ s ∷ settles ds) = rw (sym (h ∙ k.log)) at g.lawful in
          let a = lawful_at (length w.tag_count.numbered) [] w.received s (settles ds) l in
          let n : length w.tag_count.numbered ≤ length w.tagged = longer w.tag_count.numbered (k.more ++ g.count.rest) w.tagged (sym (append_assoc w.tag_count.numbered k.more g.count.rest) ∙ (ap (λ xs. xs ++ g.count.rest) k.numbers ∙ g.count.tags)) in
          record { above = a.above; below = below_more' s.tag _ _ a.below n; first = a.first }
      | inr z ↦ absurd (no_nil w.received s (settles ds) (h ∙ z))
    ]

not_odd : (w : World3) (d : DownF) (ds : List DownF) → Tags w → w.base.down ≡ d ∷ ds → is_odd w d ≡ false
not_odd w (BSettle s) ds g e =
    let a = coming w s ds g e in
    rw (a.above, a.below) (elim s.multiple as (λ b. (b || not (list_any (covers s.tag) w.received)) ≡ true → (not b && not (not (list_any (covers s.tag) w.received))) ≡ false) [ true ↦ λ h. refl | false ↦ λ h. rw h refl ] a.first)
not_odd w _ ds g e = refl

keep_deliver : (w : World3) (ds : List DownF) → w.base.down ≡ ds → Tags w → Tags (delivers3 w ds)
keep_deliver w [] e g = g
keep_deliver w (d ∷ ds) e g =
    let k = good_deliver w.base (d ∷ ds) e g.whole.good in
    let c = count_came w.base.peer w.base.reading w.tag_count (w.base.up ++ w.base.unsent) w.received d ds w.tagged w.selected (rw e at g.count) in
    record {
      whole = whole_deliver w.base (d ∷ ds) e g.whole k;
      count =
          elim (left_or_still w.base.sess (all_read (erase w.base)) (reads w.base.peer (map kind_up w.base.up)) w.base.unsent d (map kind_down ds) (sym (reads-append w.base.peer (map kind_up w.base.up) (map kind_up w.base.unsent))) g.whole.good.clean (rw e at g.whole.good.pair)) [
            | inl l ↦ rw l c
            | inr p ↦ count_drop w.base.peer w.base.reading w.tag_count w.base.up w.base.unsent (left_after w.base.sess w.base.unsent d) (with_settle w.received d) ds w.tagged w.selected (rw (← same_way w.base) at p) (unbroken_way w.base g.whole.good) (unbroken_way (delivers2 w.base (d ∷ ds)) k) c
          ];
      lawful = g.lawful;
      never = rw (g.never, not_odd w d ds g e) refl;
    }

three : (a b c : Bool) → (a && b && c) ≡ true → (a ≡ true) × (b ≡ true) × (c ≡ true)
three true true c h = (refl, refl, h)
three true false c h = absurd cc
three false b c h = absurd cc

lawful_sent : (b : TagCount) (d : DownF) → may_settle b d ≡ true → Lawful (length b.numbered) [] b.log → Lawful (length (logged b d).numbered) [] (logged b d).log
lawful_sent b (BSettle s) m l = let t = three _ _ _ (and_right b.chosen (may_tag s b) m) in lawful-push (length b.numbered) [] b.log s t.0 t.1 t.2 l
lawful_sent b _ m l = l

keep_send : (w : World3) (d : DownF) → may_send w.base.peer (kind_down d) ≡ true → may_data w.base.peer w.base.kept d ≡ true → may_settle w.tag_count d ≡ true → Tags w → Tags (sends3 w d)
keep_send w d m n t g = record {
  whole = whole_send w.base d m n g.whole (good_send w.base d m g.whole.good);
  count = count_send w.base.peer w.base.reading w.tag_count (w.base.up ++ w.base.unsent) w.received w.base.down d w.tagged w.selected m (unbroken_way w.base g.whole.good) g.count;
  lawful = lawful_sent w.tag_count d t g.lawful;
  never = g.never;
}

pub tags_keep : (w : World3) (s : Step2) → Tags w → Tags (happens3 w s)
tags_keep w CallOpen2 g = keep_open w w.base.sess refl g
tags_keep w CallClose2 g = keep_close w w.base.sess refl g
tags_keep w CallTell2 g = keep_tell w w.base.sess refl g
tags_keep w CallSelect2 g = keep_select w w.base.sess refl g
tags_keep w (CallAsk2 k) g = keep_ask w w.base.sess k refl g
tags_keep w (Begin2 i ns) g = keep_begin w w.base.sess w.base.unsent i ns refl refl g
tags_keep w Next2 g = keep_next w w.base.unsent refl g
tags_keep w Read2 g = keep_read w w.base.up refl g
tags_keep w Deliver2 g = keep_deliver w w.base.down refl g
tags_keep w (Send2 d) g =
    elim (may_send w.base.peer (kind_down d) && may_data w.base.peer w.base.kept d && may_settle w.tag_count d) as (λ b. (may_send w.base.peer (kind_down d) && may_data w.base.peer w.base.kept d && may_settle w.tag_count d) ≡ b → Tags (cond b (sends3 w d) w))
    [ true ↦ λ m. let t = three (may_send w.base.peer (kind_down d)) (may_data w.base.peer w.base.kept d) (may_settle w.tag_count d) m in keep_send w d t.0 t.1 t.2 g | false ↦ λ m. g ] refl

pub tags_run : (w : World3) (ss : List Step2) → Tags w → Tags (run3 ss w)
tags_run w [] g = g
tags_run w (s ∷ ss) g = tags_run (happens3 w s) ss (tags_keep w s g)

pub tags_start : Tags start3
tags_start = record { whole = whole_start; count = record { log = refl; rest = []; tags = refl; all = λ h. refl; chosen = λ h. refl }; lawful = tt; never = refl }

first_kept : (t : ℕ) (xs ys : List Settle) (s : Settle) → first_covering t xs ≡ Some s → first_covering t (xs ++ ys) ≡ Some s
first_kept t [] ys s h = cc
first_kept t (x ∷ xs) ys s h = elim (covers t x) as (λ b. cond b (Some x) (first_covering t xs) ≡ Some s → cond b (Some x) (first_covering t (xs ++ ys)) ≡ Some s) [ true ↦ λ h. h | false ↦ λ h. first_kept t xs ys s h ] h

pub record In (t : ℕ) (s : Settle) (xs : List Settle) : Type 0 where
  pub front : List Settle
  pub back : List Settle
  pub parts : front ++ s ∷ back ≡ xs
  pub covers : covers t s ≡ true

first_in : (t : ℕ) (xs : List Settle) (s : Settle) → first_covering t xs ≡ Some s → In t s xs
first_in t [] s h = absurd cc
first_in t (x ∷ xs) s h =
    elim (covers t x) as (λ b. covers t x ≡ b → cond b (Some x) (first_covering t xs) ≡ Some s → In t s (x ∷ xs)) [
      | true ↦ λ c h. let e : x ≡ s = cc in record { front = []; back = xs; parts = rw e refl; covers = rw (← e) c }
      | false ↦ λ c h. let i = first_in t xs s h in record { front = x ∷ i.front; back = i.back; parts = ap (λ ys. x ∷ ys) i.parts; covers = i.covers }
    ] refl h

pub first_log : (w : World3) → Tags w → (t : ℕ) (s : Settle) → first_covering t w.received ≡ Some s → Grew w.tag_count (tag_count_all w.base.peer w.base.reading w.tag_count (w.base.up ++ w.base.unsent)) × (first_covering t w.tag_count.log ≡ Some s)
first_log w g t s h =
    elim (tag_count_grew w.base.peer w.base.reading w.tag_count (w.base.up ++ w.base.unsent)) [
      | inl k ↦ (k, rw (← k.log, ← g.count.log) (first_kept t w.received (settles w.base.down) s h))
      | inr z ↦ let i = first_in t w.received s h in absurd (no_nil i.front s (i.back ++ settles w.base.down) (sym (append_assoc i.front (s ∷ i.back) (settles w.base.down)) ∙ (ap (λ xs. xs ++ settles w.base.down) i.parts ∙ (g.count.log ∙ z))))
    ]

reach : (t : ℕ) (s : Settle) (n : ℕ) → covers t s ≡ true → nat_le s.tag n ≡ true → t ≤ n
reach t s n c h = elim s.multiple as (λ b. cond b (nat_le t s.tag) (t == s.tag) ≡ true → t ≤ n) [ true ↦ λ c. one c | false ↦ λ c. two c ] c
  where
    one : nat_le t s.tag ≡ true → t ≤ n
    one c = grind (arith, nat_tests)

    two : (t == s.tag) ≡ true → t ≤ n
    two c = grind (arith, nat_tests)

get-front : (xs ys : List ℕ) (k : ℕ) → k < length xs → slice_get (xs ++ ys) k ≡ slice_get xs k
get-front [] ys k h = absurd (omega arith)
get-front (x ∷ xs) ys zero h = refl
get-front (x ∷ xs) ys (suc k) h = get-front xs ys k (omega arith)

pub very : (w : World3) → Tags w → (t : ℕ) (s : Settle) → 0 < t → first_covering t w.received ≡ Some s → (t ≤ length w.tag_count.numbered) × (slice_get w.tagged (t - 1) ≡ slice_get w.tag_count.numbered (t - 1))
very w g t s p h =
    let f = first_log w g t s h in
    let i = first_in t w.tag_count.log s f.1 in
    let a = lawful_at (length w.tag_count.numbered) [] i.front s i.back (rw i.parts g.lawful) in
    let n = reach t s (length w.tag_count.numbered) i.covers a.below in
    let l : t - 1 < length w.tag_count.numbered = omega arith in
    let e : w.tag_count.numbered ++ (f.0.more ++ g.count.rest) ≡ w.tagged = sym (append_assoc w.tag_count.numbered f.0.more g.count.rest) ∙ (ap (λ xs. xs ++ g.count.rest) f.0.numbers ∙ g.count.tags) in
    (n, rw (← e) (get-front w.tag_count.numbered (f.0.more ++ g.count.rest) (t - 1) l))
