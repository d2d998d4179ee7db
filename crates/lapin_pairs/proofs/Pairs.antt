-- The invariant: what the session, the broker that has read the whole way up, and the way down are together.
use Rattle.std.proofs.Common.{◌≡◌, Bool, true, false, cond, List, [], ◌∷◌, ◌++◌, refl, sym, subst, append_assoc}
use Rattle.lapin_pairs.specs.Machine.{Up, UOpen, UClose, UCloseOk, UOther, Down, DOpenOk, DClose, DCloseOk, DOther, Sess, Closed, Opening, Opened, Closing, Crossed, Refused, Peer, Free, Asked, Open, Leaving, Stopping, StoppingOwes, StoppingAnswered, Broken, World, has_close, read, may_send, sent, state_after, unsent_after, Step, CallOpen, CallClose, CallOther, Next, Read, Deliver, Send, happens, calls_open, calls_close, calls_other, hands_out, reads_one, delivers, run, start, is_refused, is_broken}

-- a broker that bears less than the real one
abbrev pub tight : Peer → Up → Peer
tight Free UOpen = Asked
tight Open UClose = Leaving
tight Open UOther = Open
tight Stopping UOther = Stopping
tight Stopping UClose = StoppingOwes
tight Stopping UCloseOk = Free
tight StoppingOwes UCloseOk = StoppingAnswered
tight _ _ = Broken

-- the broker once it has read the whole way up
abbrev pub reads : Peer → List Up → Peer
reads p [] = p
reads p (u ∷ us) = reads (tight p u) us

-- what the way down may still bring
pub data Shape : Type 0 where
  Dead Nil Plain ToClose ToCloseOk ToBoth JustCloseOk OpenPlain OpenToClose : Shape

-- the table of pairs: the session, and the broker once it has read the whole way up
abbrev pub shape_of : Sess → Peer → Shape
shape_of Closed Free = Nil
shape_of Opening Asked = Nil
shape_of Opening Open = OpenPlain
shape_of Opening Stopping = OpenToClose
shape_of Opened Open = Plain
shape_of Opened Stopping = ToClose
shape_of Closing Leaving = Plain
shape_of Closing Free = ToCloseOk
shape_of Closing StoppingOwes = ToClose
shape_of Closing Stopping = ToBoth
shape_of Crossed StoppingAnswered = Nil
shape_of Crossed Free = JustCloseOk
shape_of _ _ = Dead

abbrev pub next : Shape → Down → Shape
next Plain DOther = Plain
next ToClose DOther = ToClose
next ToClose DClose = Nil
next ToCloseOk DOther = ToCloseOk
next ToCloseOk DCloseOk = Nil
next ToBoth DOther = ToBoth
next ToBoth DClose = JustCloseOk
next JustCloseOk DCloseOk = Nil
next OpenPlain DOpenOk = Plain
next OpenToClose DOpenOk = ToClose
next OpenToClose DClose = Nil
next _ _ = Dead

abbrev pub may_end : Shape → Bool
may_end Nil = true
may_end Plain = true
may_end _ = false

abbrev pub accepts : Shape → List Down → Bool
accepts sh [] = may_end sh
accepts sh (d ∷ ds) = accepts (next sh d) ds

abbrev pub is_dead : Shape → Bool
is_dead Dead = true
is_dead _ = false

abbrev pub has_ok : List Up → Bool
has_ok [] = false
has_ok (UCloseOk ∷ us) = true
has_ok (_ ∷ us) = has_ok us

-- a session that closes has no close-ok unsent
abbrev pub clean : Sess → List Up → Bool
clean Closing us = has_ok us
clean _ us = false

pub record Good (w : World) : Type 0 where
  pub pair : accepts (shape_of w.sess (reads w.peer (w.up ++ w.unsent))) w.down ≡ true
  pub clean : clean w.sess w.unsent ≡ false

pub reads-append : (p : Peer) (us vs : List Up) → reads p (us ++ vs) ≡ reads (reads p us) vs
reads-append p [] vs = refl
reads-append p (u ∷ us) vs = reads-append (tight p u) us vs

pub broken-stays : (us : List Up) → reads Broken us ≡ Broken
broken-stays [] = refl
broken-stays (u ∷ us) = broken-stays us

pub not_dead : (ds : List Down) → accepts Dead ds ≡ true → ⊥
not_dead [] h = cc
not_dead (d ∷ ds) h = not_dead ds h

pub no_break : (s : Sess) → shape_of s Broken ≡ Dead
no_break Closed = refl
no_break _ = refl

-- the client's calls
pub open_keeps : (p : Peer) → is_dead (shape_of Closed p) ≡ false → shape_of Opening (tight p UOpen) ≡ shape_of Closed p
open_keeps Free h = refl
open_keeps _ h = cc

pub close_keeps : (p : Peer) → is_dead (shape_of Opened p) ≡ false → shape_of Closing (tight p UClose) ≡ shape_of Opened p
close_keeps Open h = refl
close_keeps Stopping h = refl
close_keeps _ h = cc

pub other_keeps : (p : Peer) → is_dead (shape_of Opened p) ≡ false → tight p UOther ≡ p
other_keeps Open h = refl
other_keeps Stopping h = refl
other_keeps _ h = cc

-- the broker's sends, also where the way up holds a close
abbrev pub may_star : Peer → Down → Bool
may_star Leaving DClose = true
may_star p d = may_send p d

abbrev pub sent_star : Peer → Down → Peer
sent_star Leaving DClose = StoppingOwes
sent_star p d = sent p d

abbrev pub push : Shape → Down → Shape
push Nil DOpenOk = OpenPlain
push Nil DClose = OpenToClose
push Nil DCloseOk = JustCloseOk
push Plain DOther = Plain
push Plain DClose = ToClose
push Plain DCloseOk = ToCloseOk
push OpenPlain DOther = OpenPlain
push OpenPlain DClose = OpenToClose
push ToClose DCloseOk = ToBoth
push _ _ = Dead

pub push_next : (sh : Shape) (d x : Down) → is_dead (next sh x) ≡ false → is_dead (push sh d) ≡ false → (next (push sh d) x ≡ push (next sh x) d) × (is_dead (push (next sh x) d) ≡ false)
push_next Plain DOther DOther a b = (refl, refl)
push_next Plain DClose DOther a b = (refl, refl)
push_next Plain DCloseOk DOther a b = (refl, refl)
push_next OpenPlain DOther DOpenOk a b = (refl, refl)
push_next OpenPlain DClose DOpenOk a b = (refl, refl)
push_next ToClose DCloseOk DOther a b = (refl, refl)
push_next ToClose DCloseOk DClose a b = (refl, refl)
push_next _ _ _ a b = absurd cc

pub push_ends : (sh : Shape) (d : Down) → may_end sh ≡ true → is_dead (push sh d) ≡ false → accepts (push sh d) (d ∷ []) ≡ true
push_ends Nil DOpenOk a b = refl
push_ends Nil DClose a b = refl
push_ends Nil DCloseOk a b = refl
push_ends Plain DOther a b = refl
push_ends Plain DClose a b = refl
push_ends Plain DCloseOk a b = refl
push_ends _ _ a b = cc

pub alive : (sh : Shape) (ds : List Down) → accepts sh ds ≡ true → is_dead sh ≡ false
alive Dead ds h = absurd (not_dead ds h)
alive _ ds h = refl

pub push_accepts : (sh : Shape) (d : Down) (ds : List Down) → is_dead (push sh d) ≡ false → accepts sh ds ≡ true → accepts (push sh d) (ds ++ d ∷ []) ≡ true
push_accepts sh d [] a h = push_ends sh d h a
push_accepts sh d (x ∷ ds) a h =
    let k = push_next sh d x (alive (next sh x) ds h) a in
    subst (λ y. accepts y (ds ++ d ∷ []) ≡ true) (sym k.0) (push_accepts (next sh x) d ds k.1 h)

-- the table is closed under sends
pub sent_shape : (s : Sess) (p : Peer) (d : Down) → may_star p d ≡ true → is_dead (shape_of s p) ≡ false → (shape_of s (sent_star p d) ≡ push (shape_of s p) d) × (is_dead (push (shape_of s p) d) ≡ false)
sent_shape Opening Asked DOpenOk m a = (refl, refl)
sent_shape Opening Asked DClose m a = (refl, refl)
sent_shape Opening Open DOther m a = (refl, refl)
sent_shape Opening Open DClose m a = (refl, refl)
sent_shape Opened Open DOther m a = (refl, refl)
sent_shape Opened Open DClose m a = (refl, refl)
sent_shape Closing Leaving DOther m a = (refl, refl)
sent_shape Closing Leaving DClose m a = (refl, refl)
sent_shape Closing Leaving DCloseOk m a = (refl, refl)
sent_shape Closing StoppingOwes DCloseOk m a = (refl, refl)
sent_shape Crossed StoppingAnswered DCloseOk m a = (refl, refl)
sent_shape Closed Broken d m a = absurd cc
sent_shape _ _ _ m a = absurd cc

-- a send and a read commute
abbrev pub is_star_broken : Peer → Bool
is_star_broken Broken = true
is_star_broken _ = false

pub commute : (p : Peer) (d : Down) (u : Up) → may_star p d ≡ true → is_broken (tight p u) ≡ false → (tight (sent_star p d) u ≡ sent_star (tight p u) d) × (may_star (tight p u) d ≡ true)
commute Open DClose UClose m a = (refl, refl)
commute Open DClose UOther m a = (refl, refl)
commute Open DOther UClose m a = (refl, refl)
commute Open DOther UOther m a = (refl, refl)
commute StoppingOwes DCloseOk UCloseOk m a = (refl, refl)
commute _ _ _ m a = absurd cc

pub unbroken : (p : Peer) (us : List Up) → is_broken (reads p us) ≡ false → is_broken p ≡ false
unbroken Broken us h = rw broken-stays at h
unbroken _ us h = refl

pub commutes : (p : Peer) (d : Down) (us : List Up) → may_star p d ≡ true → is_broken (reads p us) ≡ false → (reads (sent_star p d) us ≡ sent_star (reads p us) d) × (may_star (reads p us) d ≡ true)
commutes p d [] m a = (refl, m)
commutes p d (u ∷ us) m a =
    let k = commute p d u m (unbroken (tight p u) us a) in
    let i = commutes (tight p u) d us k.1 a in
    (subst (λ q. reads q us ≡ sent_star (reads (tight p u) us) d) (sym k.0) i.0, i.1)

-- where the way up ends says where it began
pub to_stop : (p : Peer) (u : Up) (us : List Up) → tight p u ≡ Stopping → has_close us ≡ false → (p ≡ Stopping) × (has_close (u ∷ us) ≡ false)
to_stop Stopping UOther us e h = (refl, h)
to_stop Free UOpen us e h = absurd cc
to_stop Open UOther us e h = absurd cc
to_stop StoppingOwes UOther us e h = absurd cc
to_stop _ _ us e h = absurd cc

pub from_stop : (p : Peer) (us : List Up) → reads p us ≡ Stopping → (p ≡ Stopping) × (has_close us ≡ false)
from_stop p [] e = (e, refl)
from_stop p (u ∷ us) e = let k = from_stop (tight p u) us e in to_stop p u us k.0 k.1

-- a close is in the way up exactly where the broker hasn't read it
pub to_owes : (p : Peer) (u : Up) → tight p u ≡ StoppingOwes → (p ≡ Stopping) × (u ≡ UClose)
to_owes Stopping UClose e = (refl, refl)
to_owes Free UOpen e = absurd cc
to_owes Open UOther e = absurd cc
to_owes StoppingOwes UOther e = absurd cc
to_owes _ _ e = absurd cc

abbrev pub Owed : Peer → Bool → Type 0
Owed p true = p ≡ Stopping
Owed p false = p ≡ StoppingOwes

pub owed_more : (p : Peer) (u : Up) (us : List Up) (b : Bool) → has_close us ≡ b → Owed (tight p u) b → Owed p (has_close (u ∷ us))
owed_more p UClose us true h k = let e = (to_stop p UClose [] k refl).1 in absurd cc
owed_more p UClose us false h k = (to_owes p UClose k).0
owed_more p u us true h k = rw h (to_stop p u [] k refl).0
owed_more p u us false h k = let e = (to_owes p u k).1 in absurd cc

pub from_owes : (p : Peer) (us : List Up) → reads p us ≡ StoppingOwes → Owed p (has_close us)
from_owes p [] e = e
from_owes p (u ∷ us) e = owed_more p u us (has_close us) refl (from_owes (tight p u) us e)

pub to_free : (p : Peer) (u : Up) → tight p u ≡ Free → u ≡ UCloseOk
to_free Stopping UCloseOk e = refl
to_free Free UOpen e = cc
to_free Open UOther e = cc
to_free StoppingOwes UOther e = cc
to_free _ _ e = cc

pub from_free : (p : Peer) (us : List Up) → reads p us ≡ Free → has_ok us ≡ false → p ≡ Free
from_free p [] e h = e
from_free p (UCloseOk ∷ us) e h = cc
from_free p (UOpen ∷ us) e h = let k = to_free p UOpen (from_free (tight p UOpen) us e h) in cc
from_free p (u ∷ us) e h = let k = to_free p u (from_free (tight p u) us e h) in cc

-- no unsent close-ok where the broker goes on or stops
abbrev pub gone : Peer → Bool
gone Open = false
gone Leaving = false
gone Stopping = false
gone StoppingOwes = false
gone _ = true

pub gone_on : (p : Peer) (u : Up) → gone p ≡ true → gone (tight p u) ≡ true
gone_on Free UOpen h = refl
gone_on _ u h = cc

pub gone_stays : (p : Peer) (us : List Up) → gone p ≡ true → gone (reads p us) ≡ true
gone_stays p [] h = h
gone_stays p (u ∷ us) h = gone_stays (tight p u) us (gone_on p u h)

pub after_ok : (p : Peer) → gone (tight p UCloseOk) ≡ true
after_ok Free = refl
after_ok _ = refl

pub no_ok : (p : Peer) (us : List Up) → gone (reads p us) ≡ false → has_ok us ≡ false
no_ok p [] e = refl
no_ok p (UCloseOk ∷ us) e = let k = gone_stays (tight p UCloseOk) us (after_ok p) in cc
no_ok p (u ∷ us) e = no_ok (tight p u) us e

-- a frame is delivered: p is the broker once it has read the link up, q once it has read what is unsent too
pub delivered : (s : Sess) (q p : Peer) (us : List Up) (d : Down) (ds : List Down) → reads p us ≡ q → clean s us ≡ false → accepts (next (shape_of s q) d) ds ≡ true → accepts (shape_of (state_after s us d) (reads p (unsent_after s us d))) ds ≡ true
delivered Opening Open p us DOpenOk ds e c h = rw e h
delivered Opening Stopping p us DOpenOk ds e c h = rw e h
delivered Opening Stopping p us DClose ds e c h = rw (from_stop p us e).0 h
delivered Opened Open p us DOther ds e c h = rw e h
delivered Opened Stopping p us DOther ds e c h = rw e h
delivered Opened Stopping p us DClose ds e c h = rw (from_stop p us e).0 h
delivered Closing Leaving p us DOther ds e c h = rw e h
delivered Closing Free p us DOther ds e c h = rw e h
delivered Closing StoppingOwes p us DOther ds e c h = rw e h
delivered Closing Stopping p us DOther ds e c h = rw e h
delivered Closing Free p us DCloseOk ds e c h = rw (from_free p us e c) h
delivered Closing StoppingOwes p us DClose ds e c h =
    elim (has_close us) as (λ b. Owed p b → accepts (shape_of (cond b Closed Crossed) (reads p (cond b (UCloseOk ∷ []) (us ++ UCloseOk ∷ [])))) ds ≡ true)
    [ true ↦ λ o. rw o h | false ↦ λ o. rw (reads-append p us (UCloseOk ∷ []), e) h ] (from_owes p us e)
delivered Closing Stopping p us DClose ds e c h = rw ((from_stop p us e).1, reads-append p us (UCloseOk ∷ []), e) h
delivered Crossed Free p us DCloseOk ds e c h = rw e h
delivered Closed Broken p us d ds e c h = absurd (not_dead ds h)
delivered _ _ p us _ ds e c h = absurd (not_dead ds h)

pub clean_after : (s : Sess) (us : List Up) (d : Down) → clean s us ≡ false → clean (state_after s us d) (unsent_after s us d) ≡ false
clean_after Closing us DOther c = c
clean_after Closing us DClose c = elim (has_close us) as (λ b. clean (cond b Closed Crossed) (cond b (UCloseOk ∷ []) (us ++ UCloseOk ∷ [])) ≡ false) [ true ↦ refl | false ↦ refl ]
clean_after Opening us DOther c = refl
clean_after Opened us DOther c = refl
clean_after Crossed us DOther c = refl
clean_after _ _ _ c = refl

pub whole : (s : Sess) (q : Peer) → is_dead (shape_of s q) ≡ false → is_broken q ≡ false
whole s Broken h = let k = no_break s in cc
whole s _ h = refl

pub real : (p : Peer) (u : Up) → is_broken (tight p u) ≡ false → read p u ≡ tight p u
real Free UOpen h = refl
real Open UOther h = refl
real Stopping UOther h = refl
real StoppingOwes UOther h = cc
real _ _ h = cc

pub ok-push : (us : List Up) (u : Up) → has_ok us ≡ false → has_ok (u ∷ []) ≡ false → has_ok (us ++ u ∷ []) ≡ false
ok-push [] u h k = k
ok-push (UCloseOk ∷ us) u h k = cc
ok-push (v ∷ us) u h k = ok-push us u h k

pub clean_tail : (s : Sess) (u : Up) (us : List Up) → clean s (u ∷ us) ≡ false → clean s us ≡ false
clean_tail Closing UCloseOk us h = cc
clean_tail Closing _ us h = h
clean_tail _ _ us h = refl

pub opened_on : (q : Peer) → is_dead (shape_of Opened q) ≡ false → gone q ≡ false
opened_on Open h = refl
opened_on Stopping h = refl
opened_on _ h = cc

pub star : (p : Peer) (d : Down) → may_send p d ≡ true → (sent_star p d ≡ sent p d) × (may_star p d ≡ true)
star Leaving DClose m = absurd cc
star Leaving _ m = (refl, m)
star _ _ m = (refl, m)

-- each step keeps what is good
abbrev pub all_read : World → Peer
all_read w = reads w.peer (w.up ++ w.unsent)

pub push_way : (w : World) (u : Up) → reads w.peer (w.up ++ (w.unsent ++ u ∷ [])) ≡ tight (all_read w) u
push_way w u = rw (← append_assoc, reads-append w.peer (w.up ++ w.unsent) (u ∷ [])) refl

pub live : (w : World) → Good w → is_dead (shape_of w.sess (all_read w)) ≡ false
live w g = alive _ w.down g.pair

pub keeps_open : (w : World) (s : Sess) → w.sess ≡ s → Good w → Good (calls_open w s)
keeps_open w Closed e g = record { pair = rw (push_way w UOpen, open_keeps (all_read w) (rw e at (live w g))) (rw e at g.pair); clean = refl }
keeps_open w _ e g = g

pub keeps_close : (w : World) (s : Sess) → w.sess ≡ s → Good w → Good (calls_close w s)
keeps_close w Opened e g =
    let a : is_dead (shape_of Opened (all_read w)) ≡ false = rw e at (live w g) in
    record {
      pair = rw (push_way w UClose, close_keeps (all_read w) a) (rw e at g.pair);
      clean = ok-push w.unsent UClose (no_ok (reads w.peer w.up) w.unsent (rw reads-append at (opened_on (all_read w) a))) refl;
    }
keeps_close w _ e g = g

pub keeps_other : (w : World) (s : Sess) → w.sess ≡ s → Good w → Good (calls_other w s)
keeps_other w Opened e g = record { pair = rw (push_way w UOther, other_keeps (all_read w) (rw e at (live w g))) g.pair; clean = rw e refl }
keeps_other w _ e g = g

pub keeps_next : (w : World) (us : List Up) → w.unsent ≡ us → Good w → Good (hands_out w us)
keeps_next w [] e g = g
keeps_next w (u ∷ us) e g = record { pair = rw append_assoc (rw e at g.pair); clean = clean_tail w.sess u us (rw e at g.clean) }

pub keeps_read : (w : World) (us : List Up) → w.up ≡ us → Good w → Good (reads_one w us)
keeps_read w [] e g = g
keeps_read w (u ∷ us) e g =
    let h : accepts (shape_of w.sess (reads (tight w.peer u) (us ++ w.unsent))) w.down ≡ true = rw e at g.pair in
    let k = real w.peer u (unbroken _ (us ++ w.unsent) (whole w.sess _ (alive _ w.down h))) in
    record { pair = rw k h; clean = g.clean }

pub keeps_deliver : (w : World) (ds : List Down) → w.down ≡ ds → Good w → Good (delivers w ds)
keeps_deliver w [] e g = g
keeps_deliver w (d ∷ ds) e g = record {
  pair = rw reads-append (delivered w.sess (all_read w) (reads w.peer w.up) w.unsent d ds (sym (reads-append w.peer w.up w.unsent)) g.clean (rw e at g.pair));
  clean = clean_after w.sess w.unsent d g.clean;
}

pub keeps_send : (w : World) (d : Down) → may_send w.peer d ≡ true → Good w → Good (record w { peer = sent w.peer d; down = w.down ++ d ∷ [] })
keeps_send w d m g =
    let k = star w.peer d m in
    let j = commutes w.peer d (w.up ++ w.unsent) k.1 (whole w.sess _ (live w g)) in
    let i = sent_shape w.sess (all_read w) d j.1 (live w g) in
    record { pair = rw (← k.0, j.0, i.0) (push_accepts _ d w.down i.1 g.pair); clean = g.clean }

pub keeps : (w : World) (s : Step) → Good w → Good (happens w s)
keeps w CallOpen g = keeps_open w w.sess refl g
keeps w CallClose g = keeps_close w w.sess refl g
keeps w CallOther g = keeps_other w w.sess refl g
keeps w Next g = keeps_next w w.unsent refl g
keeps w Read g = keeps_read w w.up refl g
keeps w Deliver g = keeps_deliver w w.down refl g
keeps w (Send d) g =
    elim (may_send w.peer d) as (λ b. may_send w.peer d ≡ b → Good (cond b (record w { peer = sent w.peer d; down = w.down ++ d ∷ [] }) w))
    [ true ↦ λ m. keeps_send w d m g | false ↦ λ m. g ] refl

pub all_good : (w : World) (ss : List Step) → Good w → Good (run ss w)
all_good w [] g = g
all_good w (s ∷ ss) g = all_good (happens w s) ss (keeps w s g)

refused : (s : Sess) (p : Peer) → is_dead (shape_of s p) ≡ false → is_refused s ≡ false
refused Refused p h = cc
refused _ p h = refl

pub not_refused : (w : World) → Good w → is_refused w.sess ≡ false
not_refused w g = refused w.sess _ (live w g)

pub not_broken : (w : World) → Good w → is_broken w.peer ≡ false
not_broken w g = unbroken w.peer (w.up ++ w.unsent) (whole w.sess _ (live w g))

pub good_start : Good start
good_start = record { pair = refl; clean = refl }
