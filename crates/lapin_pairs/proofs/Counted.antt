-- The session's tags are the broker's numbers.
use Rattle.std.proofs.Common.{◌≡◌, ℕ, Bool, true, false, cond, ◌||◌, not, ◌==◌, List, [], ◌∷◌, ◌++◌, map, refl, sym, ◌∙◌, ap, subst, subst₂, append_assoc, append-nil, Option, Some, None, arith, ◌⊎◌, inl, inr, ◌+◌, nat_lt, nat_le}
use Rattle.std.proofs.lemmas.Bool.Decides.{nat_tests}
use Rattle.std.specs.List.{list_any}
use Rattle.lapin_pairs.specs.Machine.{Opened, Peer, Free, Asked, Open, Leaving, Stopping, StoppingOwes, StoppingAnswered, Broken, DClose, may_send, sent, is_broken}
use Rattle.lapin_pairs.specs.Channel.{Content, Idle, Settle, UpF, FOpen, FClose, FCloseOk, FTell, FSelect, FAsk, FPublish, FHeader, FBody, DownF, BOpenOk, BClose, BCloseOk, BSettle, kind_up, kind_down, reading_in, reading_after, bodies_of, publish_frames, after_header, sum_suc}
use Rattle.lapin_pairs.specs.Tags.{covers, TagCount, new_tag_count, counted, tag_count_next, logged, with_settle}
use Rattle.lapin_pairs.proofs.Pairs.{tight, reads, reads-append, shape_of, is_dead, sent_star, broken-stays, commutes}
use Rattle.lapin_pairs.proofs.Erase.{map-append}
use Rattle.lapin_pairs.proofs.Data.{in_service, service_on, service_stays, goes_on, Dropped, body_step, read_all}

-- the broker's tag count once it has read these
abbrev pub tag_count_all : Peer → Option Content → TagCount → List UpF → TagCount
tag_count_all p r b [] = b
tag_count_all p r b (u ∷ us) = tag_count_all (tight p (kind_up u)) (reading_in p r u) (tag_count_next p r b u) us

tag_count-append : (p : Peer) (r : Option Content) (b : TagCount) (us vs : List UpF) → tag_count_all p r b (us ++ vs) ≡ tag_count_all (reads p (map kind_up us)) (read_all p r us) (tag_count_all p r b us) vs
tag_count-append p r b [] vs = refl
tag_count-append p r b (u ∷ us) vs = tag_count-append (tight p (kind_up u)) (reading_in p r u) (tag_count_next p r b u) us vs

abbrev pub settles : List DownF → List Settle
settles [] = []
settles (BSettle s ∷ ds) = s ∷ settles ds
settles (_ ∷ ds) = settles ds

-- settlements are of numbers that were read, and a single one is the first that covers its number
abbrev pub Lawful : ℕ → List Settle → List Settle → Type 0
Lawful n before [] = Unit {0}
Lawful n before (s ∷ ss) = (nat_lt 0 s.tag ≡ true) × (nat_le s.tag n ≡ true) × ((s.multiple || not (list_any (covers s.tag) before)) ≡ true) × Lawful n (before ++ s ∷ []) ss

-- numbers are added at the end, and settlements stay
pub record Grew (b s : TagCount) : Type 0 where
  pub more : List ℕ
  pub numbers : b.numbered ++ more ≡ s.numbered
  pub log : s.log ≡ b.log

same_tag_count : (b : TagCount) → Grew b b
same_tag_count b = record { more = []; numbers = append-nil b.numbered; log = refl }

counted_grew : (b : TagCount) (o : Option Content) → Grew b (counted b o)
counted_grew b None = same_tag_count b
counted_grew b (Some Idle) = elim b.chosen as (λ c. Grew b (record b { numbered = cond c (b.numbered ++ b.current ∷ []) b.numbered })) [ true ↦ record { more = b.current ∷ []; numbers = refl; log = refl } | false ↦ record { more = []; numbers = append-nil b.numbered; log = refl } ]
counted_grew b (Some c) = same_tag_count b

pub one_step : (p : Peer) (r : Option Content) (b : TagCount) (u : UpF) → Grew b (tag_count_next p r b u) ⊎ ((p ≡ Free) × (tag_count_next p r b u ≡ new_tag_count))
one_step Free r b FOpen = inr (refl, refl)
one_step Open r b FSelect = inl (record { more = []; numbers = append-nil b.numbered; log = refl })
one_step Open r b (FPublish i) = inl (record { more = []; numbers = append-nil b.numbered; log = refl })
one_step Open r b (FHeader n) = inl (counted_grew b (reading_in Open r (FHeader n)))
one_step Open r b (FBody n) = inl (counted_grew b (reading_in Open r (FBody n)))
one_step Free r b _ = inl (same_tag_count b)
one_step Open r b _ = inl (same_tag_count b)
one_step _ r b u = inl (same_tag_count b)

grew_more : (a b c : TagCount) → Grew a b → Grew b c → Grew a c
grew_more a b c g h = record { more = g.more ++ h.more; numbers = sym append_assoc' ∙ (ap (λ xs. xs ++ h.more) g.numbers ∙ h.numbers); log = h.log ∙ g.log }
  where
    append_assoc' : (a.numbered ++ g.more) ++ h.more ≡ a.numbered ++ (g.more ++ h.more)
    append_assoc' = append_assoc a.numbered g.more h.more

pub served_grew : (p : Peer) (r : Option Content) (b : TagCount) (us : List UpF) → in_service p ≡ true → Grew b (tag_count_all p r b us)
served_grew p r b [] h = same_tag_count b
served_grew p r b (u ∷ us) h =
    let k = served_grew (tight p (kind_up u)) (reading_in p r u) (tag_count_next p r b u) us (service_on p (kind_up u) h) in
    elim (one_step p r b u) [ inl g ↦ grew_more b (tag_count_next p r b u) _ g k | inr e ↦ let f = e.0 in absurd cc ]

empty_stays : (p : Peer) (r : Option Content) (b : TagCount) (us : List UpF) → b.log ≡ [] → (tag_count_all p r b us).log ≡ []
empty_stays p r b [] h = h
empty_stays p r b (u ∷ us) h = empty_stays (tight p (kind_up u)) (reading_in p r u) (tag_count_next p r b u) us (elim (one_step p r b u) [ inl g ↦ g.log ∙ h | inr e ↦ ap (λ x. x.log) e.1 ])

pub tag_count_grew : (p : Peer) (r : Option Content) (b : TagCount) (us : List UpF) → Grew b (tag_count_all p r b us) ⊎ ((tag_count_all p r b us).log ≡ [])
tag_count_grew p r b [] = inl (same_tag_count b)
tag_count_grew p r b (u ∷ us) =
    elim (one_step p r b u) [
      | inl g ↦ elim (tag_count_grew (tight p (kind_up u)) (reading_in p r u) (tag_count_next p r b u) us) [ inl k ↦ inl (grew_more b (tag_count_next p r b u) _ g k) | inr e ↦ inr e ]
      | inr e ↦ inr (empty_stays (tight p (kind_up u)) (reading_in p r u) (tag_count_next p r b u) us (ap (λ x. x.log) e.1))
    ]

-- a broker that is past service counts nothing more before it reads an open
pub tag_count_idle : (p : Peer) (r : Option Content) (b : TagCount) (us : List UpF) → in_service p ≡ false → is_broken (reads p (map kind_up us)) ≡ false → goes_on (reads p (map kind_up us)) ≡ false → tag_count_all p r b us ≡ b
tag_count_idle p r b [] s a h = refl
tag_count_idle Free r b (FOpen ∷ []) s a h = cc
tag_count_idle Free r b (FOpen ∷ u ∷ us) s a h = let k = broken-stays (map kind_up us) in absurd cc
tag_count_idle Stopping r b (FOpen ∷ us) s a h = let k = broken-stays (map kind_up us) in absurd cc
tag_count_idle Stopping r b (FCloseOk ∷ us) s a h = tag_count_idle Free (Some Idle) b us refl a h
tag_count_idle Stopping r b (FClose ∷ us) s a h = tag_count_idle StoppingOwes (Some Idle) b us refl a h
tag_count_idle Stopping r b (u ∷ us) s a h = tag_count_idle Stopping (Some Idle) b us refl a h
tag_count_idle StoppingOwes r b (FCloseOk ∷ us) s a h = tag_count_idle StoppingAnswered (Some Idle) b us refl a h
tag_count_idle StoppingOwes r b (u ∷ us) s a h = let k = broken-stays (map kind_up us) in absurd cc
tag_count_idle Open r b (u ∷ us) s a h = absurd cc
tag_count_idle Leaving r b (u ∷ us) s a h = absurd cc
tag_count_idle _ r b (u ∷ us) s a h = let k = broken-stays (map kind_up us) in absurd cc

-- what the broker counted, once it has read the whole way up, against what the session counted
pub record Count (p : Peer) (r : Option Content) (b : TagCount) (us : List UpF) (recv : List Settle) (ds : List DownF) (tagged : List ℕ) (sel : Bool) : Type 0 where
  pub log : recv ++ settles ds ≡ (tag_count_all p r b us).log
  pub rest : List ℕ
  pub tags : (tag_count_all p r b us).numbered ++ rest ≡ tagged
  pub all : goes_on (reads p (map kind_up us)) ≡ true → rest ≡ []
  pub chosen : goes_on (reads p (map kind_up us)) ≡ true → (tag_count_all p r b us).chosen ≡ sel

peer-push : (p : Peer) (us : List UpF) (u : UpF) → reads p (map kind_up (us ++ u ∷ [])) ≡ tight (reads p (map kind_up us)) (kind_up u)
peer-push p us u = rw (map-append, reads-append) refl

tag_count-push : (p : Peer) (r : Option Content) (b : TagCount) (us : List UpF) (u : UpF) → tag_count_all p r b (us ++ u ∷ []) ≡ tag_count_next (reads p (map kind_up us)) (read_all p r us) (tag_count_all p r b us) u
tag_count-push p r b us u = tag_count-append p r b us (u ∷ [])

abbrev calm : UpF → Bool
calm FClose = true
calm FTell = true
calm (FAsk k) = true
calm _ = false

calm_tag_count : (p : Peer) (r : Option Content) (b : TagCount) (u : UpF) → calm u ≡ true → tag_count_next p r b u ≡ b
calm_tag_count Free r b FClose h = refl
calm_tag_count Free r b FOpen h = cc
calm_tag_count Open r b FSelect h = cc
calm_tag_count Open r b (FPublish i) h = cc
calm_tag_count Open r b (FHeader i) h = cc
calm_tag_count Open r b (FBody i) h = cc
calm_tag_count Free r b _ h = refl
calm_tag_count Open r b _ h = refl
calm_tag_count _ r b u h = refl

calm_back : (q : Peer) (u : UpF) → calm u ≡ true → goes_on (tight q (kind_up u)) ≡ true → goes_on q ≡ true
calm_back Open u c h = refl
calm_back Leaving u c h = refl
calm_back Asked u c h = refl
calm_back Free FOpen c h = cc
calm_back Free _ c h = cc
calm_back Stopping FOpen c h = cc
calm_back Stopping _ c h = cc
calm_back StoppingOwes FOpen c h = cc
calm_back StoppingOwes _ c h = cc
calm_back _ u c h = cc

pub count_calm : (p : Peer) (r : Option Content) (b : TagCount) (us : List UpF) (recv : List Settle) (ds : List DownF) (tagged : List ℕ) (sel : Bool) (u : UpF) → calm u ≡ true → Count p r b us recv ds tagged sel → Count p r b (us ++ u ∷ []) recv ds tagged sel
count_calm p r b us recv ds tagged sel u c g =
    let e = tag_count-push p r b us u ∙ calm_tag_count (reads p (map kind_up us)) (read_all p r us) (tag_count_all p r b us) u c in
    record {
      log = rw e g.log;
      rest = g.rest;
      tags = rw e g.tags;
      all = λ h. g.all (calm_back _ u c (rw peer-push at h));
      chosen = λ h. rw e (g.chosen (calm_back _ u c (rw peer-push at h)));
    }

pub count_open : (p : Peer) (r : Option Content) (b : TagCount) (us : List UpF) → reads p (map kind_up us) ≡ Free → Count p r b (us ++ FOpen ∷ []) [] [] [] false
count_open p r b us f =
    let e : tag_count_all p r b (us ++ FOpen ∷ []) ≡ new_tag_count = rw (tag_count-push p r b us FOpen, f) refl in
    record { log = rw e refl; rest = []; tags = rw e refl; all = λ h. refl; chosen = λ h. rw e refl }

pub count_select : (p : Peer) (r : Option Content) (b : TagCount) (us : List UpF) (recv : List Settle) (ds : List DownF) (tagged : List ℕ) (sel : Bool) → is_dead (shape_of Opened (reads p (map kind_up us))) ≡ false → Count p r b us recv ds tagged sel → Count p r b (us ++ FSelect ∷ []) recv ds tagged true
count_select p r b us recv ds tagged sel d g = go (reads p (map kind_up us)) refl
  where
    go : (q : Peer) → reads p (map kind_up us) ≡ q → Count p r b (us ++ FSelect ∷ []) recv ds tagged true
    go Open f =
        let e : tag_count_all p r b (us ++ FSelect ∷ []) ≡ record (tag_count_all p r b us) { chosen = true } = rw (tag_count-push p r b us FSelect, f) refl in
        record { log = rw e g.log; rest = g.rest; tags = rw e g.tags; all = λ h. g.all (rw f refl); chosen = λ h. rw e refl }
    go Stopping f =
        let e : tag_count_all p r b (us ++ FSelect ∷ []) ≡ tag_count_all p r b us = rw (tag_count-push p r b us FSelect, f) refl in
        let n : goes_on (reads p (map kind_up (us ++ FSelect ∷ []))) ≡ false = rw (peer-push p us FSelect, f) refl in
        record { log = rw e g.log; rest = g.rest; tags = rw e g.tags; all = λ h. cc; chosen = λ h. cc }
    go q f = let k : is_dead (shape_of Opened q) ≡ false = rw f at d in absurd cc

-- a whole publish is counted once
not_whole : (b : TagCount) (n k : ℕ) → counted b (Some (after_header ((n + 1) + k))) ≡ b
not_whole b n k = let z : ((n + 1) + k == 0) ≡ false = grind (arith, nat_tests) in rw z refl

count_bodies : (b : TagCount) (ns : List ℕ) → tag_count_all Open (Some (after_header (sum_suc ns))) (counted b (Some (after_header (sum_suc ns)))) (bodies_of ns) ≡ counted b (Some Idle)
count_bodies b [] = refl
count_bodies b (n ∷ ns) =
    subst₂ (λ c o. tag_count_all Open o (counted c o) (bodies_of ns) ≡ counted b (Some Idle)) (sym (not_whole b n (sum_suc ns))) (sym (body_step n (sum_suc ns))) (count_bodies b ns)

count_publish : (b : TagCount) (i : ℕ) (ns : List ℕ) → tag_count_all Open (Some Idle) b (publish_frames i ns) ≡ counted (record b { current = i }) (Some Idle)
count_publish b i ns = count_bodies (record b { current = i }) ns

serving_bodies : (ns : List ℕ) → reads Open (map kind_up (bodies_of ns)) ≡ Open
serving_bodies [] = refl
serving_bodies (n ∷ ns) = serving_bodies ns

stop_bodies : (ns : List ℕ) → reads Stopping (map kind_up (bodies_of ns)) ≡ Stopping
stop_bodies [] = refl
stop_bodies (n ∷ ns) = stop_bodies ns

abbrev tagged_with : Bool → List ℕ → ℕ → List ℕ
tagged_with sel xs i = cond sel (xs ++ i ∷ []) xs

pub count_begin : (p : Peer) (r : Option Content) (b : TagCount) (us : List UpF) (recv : List Settle) (ds : List DownF) (tagged : List ℕ) (sel : Bool) (i : ℕ) (ns : List ℕ) → is_dead (shape_of Opened (reads p (map kind_up us))) ≡ false → read_all p r us ≡ Some Idle → Count p r b us recv ds tagged sel → Count p r b (us ++ publish_frames i ns) recv ds (tagged_with sel tagged i) sel
count_begin p r b us recv ds tagged sel i ns d o g = go (reads p (map kind_up us)) refl
  where
    go : (q : Peer) → reads p (map kind_up us) ≡ q → Count p r b (us ++ publish_frames i ns) recv ds (tagged_with sel tagged i) sel
    go Open f =
        let e : tag_count_all p r b (us ++ publish_frames i ns) ≡ counted (record (tag_count_all p r b us) { current = i }) (Some Idle) = rw (tag_count-append p r b us (publish_frames i ns), f, o) (count_publish (tag_count_all p r b us) i ns) in
        let c : (tag_count_all p r b us).chosen ≡ sel = g.chosen (rw f refl) in
        let x : (tag_count_all p r b us).numbered ≡ tagged = sym (append-nil (tag_count_all p r b us).numbered) ∙ (ap (λ y. (tag_count_all p r b us).numbered ++ y) (sym (g.all (rw f refl))) ∙ g.tags) in
        record { log = rw e g.log; rest = []; tags = rw (e, append-nil, c, x) refl; all = λ h. refl; chosen = λ h. rw e c }
    go Stopping f =
        let q : reads Stopping (map kind_up (publish_frames i ns)) ≡ Stopping = stop_bodies ns in
        let e : tag_count_all p r b (us ++ publish_frames i ns) ≡ tag_count_all p r b us = rw (tag_count-append p r b us (publish_frames i ns), f) (tag_count_idle Stopping (read_all p r us) (tag_count_all p r b us) (publish_frames i ns) refl (rw q refl) (rw q refl)) in
        let n : goes_on (reads p (map kind_up (us ++ publish_frames i ns))) ≡ false = rw (map-append kind_up us (publish_frames i ns), reads-append, f, q) refl in
        record {
          log = rw e g.log;
          rest = cond sel (g.rest ++ i ∷ []) g.rest;
          tags = rw e (elim sel as (λ c. (tag_count_all p r b us).numbered ++ cond c (g.rest ++ i ∷ []) g.rest ≡ tagged_with c tagged i) [ true ↦ sym (append_assoc (tag_count_all p r b us).numbered g.rest (i ∷ [])) ∙ ap (λ y. y ++ i ∷ []) g.tags | false ↦ g.tags ]);
          all = λ h. cc;
          chosen = λ h. cc;
        }
    go q f = let k : is_dead (shape_of Opened q) ≡ false = rw f at d in absurd cc

-- a frame is delivered
abbrev settled_with : List Settle → DownF → List Settle
settled_with rs (BSettle s) = rs ++ s ∷ []
settled_with rs _ = rs

came : (recv : List Settle) (d : DownF) (ds : List DownF) → recv ++ settles (d ∷ ds) ≡ with_settle recv d ++ settles ds
came recv (BSettle s) ds = sym (append_assoc recv (s ∷ []) (settles ds))
came recv _ ds = refl

pub count_came : (p : Peer) (r : Option Content) (b : TagCount) (us : List UpF) (recv : List Settle) (d : DownF) (ds : List DownF) (tagged : List ℕ) (sel : Bool) → Count p r b us recv (d ∷ ds) tagged sel → Count p r b us (with_settle recv d) ds tagged sel
count_came p r b us recv d ds tagged sel g = record { log = sym (came recv d ds) ∙ g.log; rest = g.rest; tags = g.tags; all = g.all; chosen = g.chosen }

pub count_drop : (p : Peer) (r : Option Content) (b : TagCount) (up us left : List UpF) (recv : List Settle) (ds : List DownF) (tagged : List ℕ) (sel : Bool) → Dropped (reads p (map kind_up up)) (reads p (map kind_up (up ++ us))) left → is_broken (reads p (map kind_up (up ++ us))) ≡ false → is_broken (reads p (map kind_up (up ++ left))) ≡ false → Count p r b (up ++ us) recv ds tagged sel → Count p r b (up ++ left) recv ds tagged sel
count_drop p r b up us left recv ds tagged sel d x y g =
    let a = tag_count-append p r b up us ∙ tag_count_idle (reads p (map kind_up up)) (read_all p r up) (tag_count_all p r b up) us d.past (rw (map-append, reads-append) at x) (rw (map-append, reads-append) at d.was) in
    let c = tag_count-append p r b up left ∙ tag_count_idle (reads p (map kind_up up)) (read_all p r up) (tag_count_all p r b up) left d.past (rw (map-append, reads-append) at y) d.then in
    let e = c ∙ sym a in
    let n : goes_on (reads p (map kind_up (up ++ left))) ≡ false = rw (map-append, reads-append) d.then in
    record { log = rw e g.log; rest = g.rest; tags = rw e g.tags; all = λ h. cc; chosen = λ h. cc }

-- a frame is sent
settles-push : (ds : List DownF) (d : DownF) → settles (ds ++ d ∷ []) ≡ settles ds ++ settles (d ∷ [])
settles-push [] d = refl
settles-push (BSettle s ∷ ds) d = ap (λ xs. s ∷ xs) (settles-push ds d)
settles-push (_ ∷ ds) d = settles-push ds d

silent : (recv : List Settle) (ds : List DownF) (d : DownF) → settles (d ∷ []) ≡ [] → recv ++ settles (ds ++ d ∷ []) ≡ recv ++ settles ds
silent recv ds d e = rw (settles-push ds d, e, append-nil) refl

count_tiny : (p q : Peer) (r s : Option Content) (b : TagCount) (recv : List Settle) (ds : List DownF) (d : DownF) (tagged : List ℕ) (sel : Bool) → settles (d ∷ []) ≡ [] → (goes_on q ≡ true → goes_on p ≡ true) → Count p r b [] recv ds tagged sel → Count q s b [] recv (ds ++ d ∷ []) tagged sel
count_tiny p q r s b recv ds d tagged sel e f g = record { log = silent recv ds d e ∙ g.log; rest = g.rest; tags = g.tags; all = λ h. g.all (f h); chosen = λ h. g.chosen (f h) }

logged_next : (p : Peer) (r : Option Content) (b : TagCount) (s : Settle) (u : UpF) → in_service p ≡ true → tag_count_next p r (logged b (BSettle s)) u ≡ logged (tag_count_next p r b u) (BSettle s)
logged_next Free r b s u h = cc
logged_next Open r b s (FHeader n) h = logged_counted b (reading_in Open r (FHeader n)) s
  where
    logged_counted : (b : TagCount) (o : Option Content) (s : Settle) → counted (logged b (BSettle s)) o ≡ logged (counted b o) (BSettle s)
    logged_counted b None s = refl
    logged_counted b (Some Idle) s = refl
    logged_counted b (Some c) s = refl
logged_next Open r b s (FBody n) h = logged_counted b (reading_in Open r (FBody n)) s
  where
    logged_counted : (b : TagCount) (o : Option Content) (s : Settle) → counted (logged b (BSettle s)) o ≡ logged (counted b o) (BSettle s)
    logged_counted b None s = refl
    logged_counted b (Some Idle) s = refl
    logged_counted b (Some c) s = refl
logged_next Open r b s _ h = refl
logged_next _ r b s u h = refl

logged_all : (p : Peer) (r : Option Content) (b : TagCount) (s : Settle) (us : List UpF) → in_service p ≡ true → tag_count_all p r (logged b (BSettle s)) us ≡ logged (tag_count_all p r b us) (BSettle s)
logged_all p r b s [] h = refl
logged_all p r b s (u ∷ us) h =
    subst (λ c. tag_count_all (tight p (kind_up u)) (reading_in p r u) c us ≡ logged (tag_count_all (tight p (kind_up u)) (reading_in p r u) (tag_count_next p r b u) us) (BSettle s)) (sym (logged_next p r b s u h))
    (logged_all (tight p (kind_up u)) (reading_in p r u) (tag_count_next p r b u) s us (service_on p (kind_up u) h))

count_settle : (p : Peer) (r : Option Content) (b : TagCount) (us : List UpF) (recv : List Settle) (ds : List DownF) (s : Settle) (tagged : List ℕ) (sel : Bool) → in_service p ≡ true → Count p r b us recv ds tagged sel → Count p r (logged b (BSettle s)) us recv (ds ++ BSettle s ∷ []) tagged sel
count_settle p r b us recv ds s tagged sel v g =
    let e = logged_all p r b s us v in
    record {
      log = rw (e, settles-push ds (BSettle s), ← append_assoc recv (settles ds) (s ∷ [])) (ap (λ xs. xs ++ s ∷ []) g.log);
      rest = g.rest;
      tags = rw e g.tags;
      all = g.all;
      chosen = λ h. rw e (g.chosen h);
    }

end_star : (q : Peer) → in_service q ≡ true → is_broken q ≡ false → (goes_on (sent_star q DClose) ≡ false) × (is_broken (sent_star q DClose) ≡ false)
end_star Open v h = (refl, refl)
end_star Leaving v h = (refl, refl)
end_star _ v h = absurd cc

count_close : (r : Option Content) (b : TagCount) (us : List UpF) (recv : List Settle) (ds : List DownF) (tagged : List ℕ) (sel : Bool) → is_broken (reads Open (map kind_up us)) ≡ false → Count Open r b us recv ds tagged sel → Count Stopping (Some Idle) b us recv (ds ++ BClose ∷ []) tagged sel
count_close r b us recv ds tagged sel h g =
    let c = commutes Open DClose (map kind_up us) refl h in
    let n = end_star (reads Open (map kind_up us)) (service_stays Open (map kind_up us) refl) h in
    let e = tag_count_idle Stopping (Some Idle) b us refl (rw c.0 n.1) (rw c.0 n.0) in
    let w = served_grew Open r b us refl in
    let k : goes_on (reads Stopping (map kind_up us)) ≡ false = rw c.0 n.0 in
    record {
      log = silent recv ds BClose refl ∙ (g.log ∙ (w.log ∙ ap (λ x. x.log) (sym e)));
      rest = w.more ++ g.rest;
      tags = rw e (sym (append_assoc b.numbered w.more g.rest) ∙ (ap (λ xs. xs ++ g.rest) w.numbers ∙ g.tags));
      all = λ h. cc;
      chosen = λ h. cc;
    }

pub count_send : (p : Peer) (r : Option Content) (b : TagCount) (us : List UpF) (recv : List Settle) (ds : List DownF) (d : DownF) (tagged : List ℕ) (sel : Bool) → may_send p (kind_down d) ≡ true → is_broken (reads p (map kind_up us)) ≡ false → Count p r b us recv ds tagged sel → Count (sent p (kind_down d)) (reading_after d r) (logged b d) us recv (ds ++ d ∷ []) tagged sel
count_send Open r b us recv ds BClose tagged sel m h g = count_close r b us recv ds tagged sel h g
count_send Open r b us recv ds (BSettle s) tagged sel m h g = count_settle Open r b us recv ds s tagged sel refl g
count_send Open r b us recv ds BOpenOk tagged sel m h g = absurd cc
count_send Open r b us recv ds BCloseOk tagged sel m h g = absurd cc
count_send Open r b us recv ds d tagged sel m h g = record { log = silent recv ds d refl ∙ g.log; rest = g.rest; tags = g.tags; all = g.all; chosen = g.chosen }
count_send Leaving r b [] recv ds (BSettle s) tagged sel m h g = count_settle Leaving r b [] recv ds s tagged sel refl g
count_send Leaving r b [] recv ds BCloseOk tagged sel m h g = count_tiny Leaving Free r r b recv ds BCloseOk tagged sel refl (λ h. refl) g
count_send Leaving r b [] recv ds BClose tagged sel m h g = absurd cc
count_send Leaving r b [] recv ds BOpenOk tagged sel m h g = absurd cc
count_send Leaving r b [] recv ds d tagged sel m h g = count_tiny Leaving Leaving r r b recv ds d tagged sel refl (λ h. h) g
count_send Asked r b [] recv ds BOpenOk tagged sel m h g = count_tiny Asked Open r r b recv ds BOpenOk tagged sel refl (λ h. refl) g
count_send Asked r b [] recv ds BClose tagged sel m h g = count_tiny Asked Stopping r (Some Idle) b recv ds BClose tagged sel refl (λ h. refl) g
count_send Asked r b [] recv ds d tagged sel m h g = absurd cc
count_send StoppingOwes r b [] recv ds BCloseOk tagged sel m h g = count_tiny StoppingOwes Stopping r r b recv ds BCloseOk tagged sel refl (λ h. h) g
count_send StoppingOwes r b (FCloseOk ∷ []) recv ds BCloseOk tagged sel m h g = record { log = silent recv ds BCloseOk refl ∙ g.log; rest = g.rest; tags = g.tags; all = λ h. cc; chosen = λ h. cc }
count_send StoppingOwes r b (FCloseOk ∷ u ∷ us) recv ds BCloseOk tagged sel m h g = let k = broken-stays (map kind_up us) in absurd cc
count_send StoppingOwes r b (u ∷ us) recv ds BCloseOk tagged sel m h g = let k = broken-stays (map kind_up us) in absurd cc
count_send StoppingOwes r b us recv ds d tagged sel m h g = absurd cc
count_send StoppingAnswered r b [] recv ds BCloseOk tagged sel m h g = count_tiny StoppingAnswered Free r r b recv ds BCloseOk tagged sel refl (λ h. h) g
count_send StoppingAnswered r b [] recv ds d tagged sel m h g = absurd cc
count_send Free r b us recv ds d tagged sel m h g = absurd cc
count_send Stopping r b us recv ds d tagged sel m h g = absurd cc
count_send Broken r b us recv ds d tagged sel m h g = absurd cc
count_send _ r b (u ∷ us) recv ds d tagged sel m h g = let k = broken-stays (map kind_up us) in absurd cc
