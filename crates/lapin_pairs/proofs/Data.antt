-- Requests and contents: what the session keeps, once it has received the whole way down, is what the broker keeps once it has read the whole way up.
use Rattle.std.proofs.Common.{◌≡◌, ℕ, Bool, true, false, cond, ◌==◌, List, [], ◌∷◌, ◌++◌, map, refl, sym, ◌∙◌, subst, subst₂, Option, Some, None, arith, ◌⊎◌, inl, inr, ◌+◌, ◌-◌, nat_lt, nat_le}
use Rattle.std.proofs.lemmas.Bool.Decides.{nat_tests}
use Rattle.lapin_pairs.specs.Machine.{Up, UOpen, UCloseOk, UOther, Down, DOther, Sess, Opening, Opened, Closing, Peer, Free, Asked, Open, Leaving, Stopping, StoppingOwes, Broken, has_close, is_broken}
use Rattle.lapin_pairs.specs.Channel.{Content, Idle, Begun, Left, UpF, FOpen, FClose, FCloseOk, FAsk, FBody, DownF, BOpenOk, BClose, BCloseOk, BTell, BStart, BReply, BHeader, BBody, BSettle, kind_up, kind_down, with_header, with_body, with_content, begun, replied, put_back, take_kind, is_idle, starts_with, tail, may_header, may_body, after_header, after_body, Data, takes, takes_in, asked, asks, reading_in, reading_next, sum_suc, may_data, gave, left_after, bodies_of, publish_frames, reading_after, is_none}
use Rattle.lapin_pairs.proofs.Pairs.{tight, reads, reads-append, shape_of, accepts, may_star, sent_star, Plain, ToClose, next, not_dead, from_stop, from_owes, from_free, commute, unbroken, clean, Owed, broken-stays}
use Rattle.lapin_pairs.proofs.Erase.{map-append, and_left, and_right}
use Rattle.std.proofs.lemmas.Bool.{and_from}

abbrev pub takes_all : Option Data → List DownF → Option Data
takes_all o [] = o
takes_all o (d ∷ ds) = takes_all (takes_in o d) ds

-- what the broker keeps once it has read these
abbrev pub kept_all : Peer → Data → List UpF → Data
kept_all p x [] = x
kept_all p x (u ∷ us) = kept_all (tight p (kind_up u)) (asked p x u) us

pub takes-append : (o : Option Data) (ds es : List DownF) → takes_all o (ds ++ es) ≡ takes_all (takes_all o ds) es
takes-append o [] es = refl
takes-append o (d ∷ ds) es = takes-append (takes_in o d) ds es

pub kept-append : (p : Peer) (x : Data) (us vs : List UpF) → kept_all p x (us ++ vs) ≡ kept_all (reads p (map kind_up us)) (kept_all p x us) vs
kept-append p x [] vs = refl
kept-append p x (u ∷ us) vs = kept-append (tight p (kind_up u)) (asked p x u) us vs

-- the session refuses nothing that the broker may send, and keeps what the broker keeps
take_first : (k : ℕ) (xs : List ℕ) → starts_with k xs ≡ true → take_kind k xs ≡ Some (tail xs)
take_first k [] h = cc
take_first k (x ∷ xs) h = rw h refl

idle : (c : Content) → is_idle c ≡ true → c ≡ Idle
idle Idle h = refl
idle _ h = cc

headless : (c : Content) → may_header c ≡ true → c ≡ Begun
headless Begun h = refl
headless _ h = cc

mirror_body : (x : Data) (n : ℕ) (c : Content) → may_body n c ≡ true → with_content x (with_body n c) ≡ Some (record { asked_for = x.asked_for; content = after_body n c })
mirror_body x n (Left m) h = rw h refl
mirror_body x n _ h = cc

pub mirror : (p : Peer) (x : Data) (d : DownF) → may_star p (kind_down d) ≡ true → may_data p x d ≡ true → takes x d ≡ Some (gave x d)
mirror p x BOpenOk m h = refl
mirror p x BClose m h = refl
mirror p x BCloseOk m h = refl
mirror p x BTell m h = refl
mirror p x (BSettle s) m h = refl
mirror p x BStart m h = rw (idle x.content h) refl
mirror p x (BReply k true) m h = rw (idle x.content (and_left (is_idle x.content) (starts_with k x.asked_for) h), take_first k x.asked_for (and_right (is_idle x.content) (starts_with k x.asked_for) h)) refl
mirror p x (BReply k false) m h = rw (take_first k x.asked_for (and_right (is_idle x.content) (starts_with k x.asked_for) h)) refl
mirror p x (BHeader n) m h = rw (headless x.content h) refl
mirror p x (BBody n) m h = mirror_body x n x.content h

abbrev pub is_ask : UpF → Bool
is_ask (FAsk k) = true
is_ask _ = false

pub quiet : (p : Peer) (x : Data) (u : UpF) → is_ask u ≡ false → asked p x u ≡ x
quiet Open x (FAsk k) h = cc
quiet Open x _ h = refl
quiet _ x u h = refl

-- a send and a read commute on what is kept
tail-push : (k j : ℕ) (xs : List ℕ) → starts_with k xs ≡ true → (tail (xs ++ j ∷ []) ≡ tail xs ++ j ∷ []) × (starts_with k (xs ++ j ∷ []) ≡ true)
tail-push k j [] h = absurd cc
tail-push k j (x ∷ xs) h = (refl, h)

may_still : (p : Peer) (x : Data) (d : DownF) → may_star Open (kind_down d) ≡ true → may_data Open x d ≡ true → may_data p x d ≡ true
may_still p x BCloseOk m h = cc
may_still p x BOpenOk m h = cc
may_still p x BClose m h = refl
may_still p x _ m h = h

asked_more : (p : Peer) (x : Data) (d : DownF) (j : ℕ) → may_star Open (kind_down d) ≡ true → may_data Open x d ≡ true → (asked (sent_star Open (kind_down d)) (gave x d) (FAsk j) ≡ gave (asked Open x (FAsk j)) d) × (may_data Open (asked Open x (FAsk j)) d ≡ true)
asked_more p x BCloseOk j m h = absurd cc
asked_more p x BOpenOk j m h = absurd cc
asked_more p x BClose j m h = (refl, refl)
asked_more p x (BReply k b) j m h =
    let t = tail-push k j x.asked_for (and_right (is_idle x.content) (starts_with k x.asked_for) h) in
    (rw t.0 refl, and_from _ _ (and_left (is_idle x.content) (starts_with k x.asked_for) h) t.1)
asked_more p x _ j m h = (refl, h)

kept_commute : (p : Peer) (x : Data) (d : DownF) (u : UpF) → may_star p (kind_down d) ≡ true → may_data p x d ≡ true → is_broken (tight p (kind_up u)) ≡ false → (asked (sent_star p (kind_down d)) (gave x d) u ≡ gave (asked p x u) d) × (may_data (tight p (kind_up u)) (asked p x u) d ≡ true)
kept_commute Open x d (FAsk j) m h a = asked_more Open x d j m h
kept_commute Open x d FClose m h a = (quiet _ _ FClose refl, may_still Leaving x d m h)
kept_commute Open x d FOpen m h a = absurd cc
kept_commute Open x d FCloseOk m h a = absurd cc
kept_commute Open x d u m h a = (quiet _ _ u refl, h)
kept_commute StoppingOwes x BCloseOk FCloseOk m h a = (refl, refl)
kept_commute StoppingOwes x BCloseOk u m h a = absurd cc
kept_commute StoppingOwes x d u m h a = absurd cc
kept_commute _ x d u m h a = absurd cc

pub kept_commutes : (p : Peer) (x : Data) (d : DownF) (us : List UpF) → may_star p (kind_down d) ≡ true → may_data p x d ≡ true → is_broken (reads p (map kind_up us)) ≡ false → (kept_all (sent_star p (kind_down d)) (gave x d) us ≡ gave (kept_all p x us) d) × (may_data (reads p (map kind_up us)) (kept_all p x us) d ≡ true)
kept_commutes p x d [] m h a = (refl, h)
kept_commutes p x d (u ∷ us) m h a =
    let b = unbroken (tight p (kind_up u)) (map kind_up us) a in
    let j = commute p (kind_down d) (kind_up u) m b in
    let k = kept_commute p x d u m h b in
    let i = kept_commutes (tight p (kind_up u)) (asked p x u) d us j.1 k.1 a in
    (subst₂ (λ q y. kept_all q y us ≡ gave (kept_all (tight p (kind_up u)) (asked p x u) us) d) (sym j.0) (sym k.0) i.0, i.1)

-- one more open request changes nothing of what the session takes
none_stays : (ds : List DownF) → takes_all None ds ≡ None
none_stays [] = refl
none_stays (d ∷ ds) = none_stays ds

pub some_stays : (o : Option Data) (ds : List DownF) → is_none (takes_all o ds) ≡ false → is_none o ≡ false
some_stays None ds h = rw none_stays at h
some_stays (Some x) ds h = refl

push_some : (k : ℕ) → Option (List ℕ) → Option (List ℕ)
push_some k None = None
push_some k (Some xs) = Some (xs ++ k ∷ [])

abbrev more : ℕ → Data → Data
more k x = record { asked_for = x.asked_for ++ k ∷ []; content = x.content }

take-push : (j k : ℕ) (xs : List ℕ) → is_none (take_kind j xs) ≡ false → take_kind j (xs ++ k ∷ []) ≡ push_some k (take_kind j xs)
unfolding push_some
take-push j k [] h = cc
take-push j k (x ∷ xs) h =
    elim (x == j) as (λ b. is_none (cond b (Some xs) (put_back x (take_kind j xs))) ≡ false → cond b (Some (xs ++ k ∷ [])) (put_back x (take_kind j (xs ++ k ∷ []))) ≡ push_some k (cond b (Some xs) (put_back x (take_kind j xs))))
    [ true ↦ λ h. refl | false ↦ λ h. rw (take-push j k xs (from_put x (take_kind j xs) h)) (put x (take_kind j xs)) ] h
  where
    from_put : (x : ℕ) (o : Option (List ℕ)) → is_none (put_back x o) ≡ false → is_none o ≡ false
    from_put x None h = h
    from_put x (Some ys) h = refl

    put : (x : ℕ) (o : Option (List ℕ)) → put_back x (push_some k o) ≡ push_some k (put_back x o)
    put x None = refl
    put x (Some ys) = refl

with_more : (k : ℕ) (x : Data) (o : Option Content) → with_content (more k x) o ≡ asks k (with_content x o)
with_more k x None = refl
with_more k x (Some c) = refl

replied_more : (k : ℕ) (c : Content) (b : Bool) (o : Option (List ℕ)) → replied c b (push_some k o) ≡ asks k (replied c b o)
unfolding push_some
replied_more k c b None = refl
replied_more k c true (Some xs) = with_more k (record { asked_for = xs; content = c }) (begun c)
replied_more k c false (Some xs) = refl

replied_some : (c : Content) (b : Bool) (o : Option (List ℕ)) → is_none (replied c b o) ≡ false → is_none o ≡ false
replied_some c b None h = h
replied_some c b (Some xs) h = refl

takes_more : (k : ℕ) (x : Data) (d : DownF) → kind_down d ≡ DOther → is_none (takes x d) ≡ false → takes (more k x) d ≡ asks k (takes x d)
takes_more k x BClose e h = cc
takes_more k x BCloseOk e h = cc
takes_more k x BStart e h = with_more k x (begun x.content)
takes_more k x (BReply j b) e h = rw (take-push j k x.asked_for (replied_some x.content b _ h)) (replied_more k x.content b (take_kind j x.asked_for))
takes_more k x (BHeader n) e h = with_more k x (with_header n x.content)
takes_more k x (BBody n) e h = with_more k x (with_body n x.content)
takes_more k x _ e h = refl

plain_others : (d : Down) (ds : List Down) → accepts Plain (d ∷ ds) ≡ true → d ≡ DOther
plain_others DOther ds h = refl
plain_others _ ds h = absurd (not_dead ds h)

pub asks_plain : (k : ℕ) (o : Option Data) (ds : List DownF) → accepts Plain (map kind_down ds) ≡ true → is_none (takes_all o ds) ≡ false → takes_all (asks k o) ds ≡ asks k (takes_all o ds)
asks_plain k o [] a h = refl
asks_plain k None (d ∷ ds) a h = rw none_stays refl
asks_plain k (Some x) (d ∷ ds) a h =
    let e = plain_others (kind_down d) (map kind_down ds) a in
    let t = takes_more k x d e (some_stays (takes x d) ds h) in
    let r : accepts Plain (map kind_down ds) ≡ true = rw e at a in
    subst (λ y. takes_all y ds ≡ asks k (takes_all (takes x d) ds)) (sym t) (asks_plain k (takes x d) ds r h)

data_ended : (d : DownF) (ds : List Down) → accepts ToClose (kind_down d ∷ ds) ≡ true → (kind_down d ≡ DOther) ⊎ (d ≡ BClose)
data_ended BClose ds h = inr refl
data_ended BOpenOk ds h = absurd (not_dead ds h)
data_ended BCloseOk ds h = absurd (not_dead ds h)
data_ended _ ds h = inl refl

pub asks_ended : (k : ℕ) (o : Option Data) (ds : List DownF) → accepts ToClose (map kind_down ds) ≡ true → is_none (takes_all o ds) ≡ false → takes_all (asks k o) ds ≡ takes_all o ds
asks_ended k o [] a h = cc
asks_ended k None (d ∷ ds) a h = refl
asks_ended k (Some x) (d ∷ ds) a h =
    elim (data_ended d (map kind_down ds) a) [
      | inl e ↦
          let t = takes_more k x d e (some_stays (takes x d) ds h) in
          let r : accepts ToClose (map kind_down ds) ≡ true = rw e at a in
          subst (λ y. takes_all y ds ≡ takes_all (takes x d) ds) (sym t) (asks_ended k (takes x d) ds r h)
      | inr e ↦ rw e refl
    ]

-- only a broker in service keeps what it reads
abbrev pub serves : Peer → Bool
serves Open = true
serves _ = false

pub still_on : (p : Peer) (u : Up) → serves p ≡ false → serves (tight p u) ≡ false
still_on Open u h = cc
still_on Free UOpen h = refl
still_on Stopping UOther h = refl
still_on StoppingOwes UOther h = refl
still_on _ _ h = refl

asked_still : (p : Peer) (x : Data) (u : UpF) → serves p ≡ false → asked p x u ≡ x
asked_still Open x u h = cc
asked_still _ x u h = refl

pub kept_still : (p : Peer) (x : Data) (us : List UpF) → serves p ≡ false → kept_all p x us ≡ x
kept_still p x [] h = refl
kept_still p x (u ∷ us) h = kept_still (tight p (kind_up u)) (asked p x u) us (still_on p (kind_up u) h) ∙ asked_still p x u h

abbrev pub no_asks : List UpF → Bool
no_asks [] = true
no_asks (FAsk k ∷ us) = false
no_asks (_ ∷ us) = no_asks us

pub kept_quiet : (p : Peer) (x : Data) (us : List UpF) → no_asks us ≡ true → kept_all p x us ≡ x
kept_quiet p x [] h = refl
kept_quiet p x (FAsk k ∷ us) h = cc
kept_quiet p x (u ∷ us) h = subst (λ y. kept_all (tight p (kind_up u)) y us ≡ x) (sym (quiet p x u refl)) (kept_quiet (tight p (kind_up u)) x us h)

-- a broker that serves goes on to serve or to leave
abbrev pub in_service : Peer → Bool
in_service Open = true
in_service Leaving = true
in_service Broken = true
in_service _ = false

pub service_on : (p : Peer) (u : Up) → in_service p ≡ true → in_service (tight p u) ≡ true
service_on Open UOpen h = refl
service_on Open _ h = refl
service_on Leaving u h = refl
service_on Broken u h = refl
service_on _ u h = cc

pub service_stays : (p : Peer) (us : List Up) → in_service p ≡ true → in_service (reads p us) ≡ true
service_stays p [] h = h
service_stays p (u ∷ us) h = service_stays (tight p u) us (service_on p u h)

pub not_served : (p : Peer) (us : List Up) → in_service (reads p us) ≡ false → serves p ≡ false
not_served Open us h = let k = service_stays Open us refl in cc
not_served _ us h = refl

pub not_serves : (p : Peer) → in_service p ≡ false → serves p ≡ false
not_serves Open h = cc
not_serves _ h = refl

-- a broker with an opening that goes on
abbrev pub goes_on : Peer → Bool
goes_on Asked = true
goes_on Open = true
goes_on Leaving = true
goes_on _ = false

ok_ends : (p : Peer) → goes_on (tight p UCloseOk) ≡ false
ok_ends Free = refl
ok_ends _ = refl

closing_ends : (m : Peer) (us : List UpF) → goes_on (reads m (map kind_up (left_after Closing us BClose))) ≡ false
closing_ends m us = elim (has_close (map kind_up us)) as (λ b. goes_on (reads m (map kind_up (cond b (FCloseOk ∷ []) (us ++ FCloseOk ∷ [])))) ≡ false) [ true ↦ ok_ends m | false ↦ rw (map-append, reads-append) (ok_ends _) ]

-- frames were dropped: the broker is past service once it has read the link, and before and after the drop no opening goes on
pub record Dropped (m q : Peer) (left : List UpF) : Type 0 where
  pub past : in_service m ≡ false
  pub was : goes_on q ≡ false
  pub then : goes_on (reads m (map kind_up left)) ≡ false

pub left_or_still : (s : Sess) (q m : Peer) (us : List UpF) (d : DownF) (ds : List Down) → reads m (map kind_up us) ≡ q → clean s (map kind_up us) ≡ false → accepts (next (shape_of s q) (kind_down d)) ds ≡ true → (left_after s us d ≡ us) ⊎ Dropped m q (left_after s us d)
left_or_still Opening Stopping m us BClose ds e c h = inr (record { past = rw (from_stop m (map kind_up us) e).0 refl; was = refl; then = ok_ends m })
left_or_still Opened Stopping m us BClose ds e c h = inr (record { past = rw (from_stop m (map kind_up us) e).0 refl; was = refl; then = ok_ends m })
left_or_still Closing Stopping m us BClose ds e c h = inr (record { past = rw (from_stop m (map kind_up us) e).0 refl; was = refl; then = closing_ends m us })
left_or_still Closing Free m us BCloseOk ds e c h = let f = from_free m (map kind_up us) e c in inr (record { past = rw f refl; was = refl; then = rw f refl })
left_or_still Closing StoppingOwes m us BClose ds e c h = inr (record { past = elim (has_close (map kind_up us)) as (λ b. Owed m b → in_service m ≡ false) [ true ↦ λ o. rw o refl | false ↦ λ o. rw o refl ] (from_owes m (map kind_up us) e); was = refl; then = closing_ends m us })
left_or_still Opening q m us BClose ds e c h = absurd (not_dead ds h)
left_or_still Opened q m us BClose ds e c h = absurd (not_dead ds h)
left_or_still Closing q m us BClose ds e c h = absurd (not_dead ds h)
left_or_still Closing q m us BCloseOk ds e c h = absurd (not_dead ds h)
left_or_still _ q m us _ ds e c h = inl refl

-- the content that is being read
abbrev pub read_all : Peer → Option Content → List UpF → Option Content
read_all p r [] = r
read_all p r (u ∷ us) = read_all (tight p (kind_up u)) (reading_in p r u) us

pub read-append : (p : Peer) (r : Option Content) (us vs : List UpF) → read_all p r (us ++ vs) ≡ read_all (reads p (map kind_up us)) (read_all p r us) vs
read-append p r [] vs = refl
read-append p r (u ∷ us) vs = read-append (tight p (kind_up u)) (reading_in p r u) us vs

reading_still : (p : Peer) (r : Option Content) (u : UpF) → serves p ≡ false → reading_in p r u ≡ Some Idle
reading_still Open r u h = cc
reading_still _ r u h = refl

pub read_still : (p : Peer) (us : List UpF) → serves p ≡ false → read_all p (Some Idle) us ≡ Some Idle
read_still p [] h = refl
read_still p (u ∷ us) h = subst (λ r. read_all (tight p (kind_up u)) r us ≡ Some Idle) (sym (reading_still p (Some Idle) u h)) (read_still (tight p (kind_up u)) us (still_on p (kind_up u) h))

pub after_sent : (d : DownF) (r : Option Content) → r ≡ Some Idle → reading_after d r ≡ Some Idle
after_sent BClose r h = refl
after_sent _ r h = h

pub read_sent : (p : Peer) (d : DownF) (r : Option Content) (us : List UpF) → may_star p (kind_down d) ≡ true → is_broken (reads p (map kind_up us)) ≡ false → read_all p r us ≡ Some Idle → read_all (sent_star p (kind_down d)) (reading_after d r) us ≡ Some Idle
read_sent p d r [] m a h = after_sent d r h
read_sent Open BClose r (u ∷ us) m a h = read_still (tight Stopping (kind_up u)) us (still_on Stopping (kind_up u) refl)
read_sent Open d r (u ∷ us) m a h = h
read_sent StoppingOwes BCloseOk r (u ∷ us) m a h = read_still (tight Stopping (kind_up u)) us (still_on Stopping (kind_up u) refl)
read_sent StoppingOwes d r (u ∷ us) m a h = cc
read_sent _ d r (u ∷ us) m a h = let k = broken-stays (map kind_up us) in cc

-- a whole publish leaves nothing to be read
pub body_step : (n k : ℕ) → reading_next (after_header ((n + 1) + k)) (FBody (n + 1)) ≡ Some (after_header k)
body_step n k =
    let z : ((n + 1) + k == 0) ≡ false = grind (arith, nat_tests) in
    let l : nat_lt 0 (n + 1) ≡ true = grind (arith, nat_tests) in
    let g : nat_le (n + 1) ((n + 1) + k) ≡ true = grind (arith, nat_tests) in
    let e : (n + 1 == (n + 1) + k) ≡ (k == 0) = grind (arith, nat_tests) in
    let m : ((n + 1) + k) - (n + 1) ≡ k = omega arith in
    rw z (rw (l, g, e, m) refl)

read_bodies : (ns : List ℕ) → read_all Open (Some (after_header (sum_suc ns))) (bodies_of ns) ≡ Some Idle
read_bodies [] = refl
read_bodies (n ∷ ns) = subst (λ r. read_all Open r (bodies_of ns) ≡ Some Idle) (sym (body_step n (sum_suc ns))) (read_bodies ns)

pub whole_publish : (i : ℕ) (ns : List ℕ) → read_all Open (Some Idle) (publish_frames i ns) ≡ Some Idle
whole_publish i ns = read_bodies ns
