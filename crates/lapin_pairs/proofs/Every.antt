-- What each step of one channel keeps, every channel of a joined run keeps: for any machine of one channel and any such fact P.
use Rattle.std.proofs.Common.{◌≡◌, ℕ, Bool, true, false, cond, ◌==◌, ◌&&◌, List, [], ◌∷◌, ◌++◌, map, refl, sym, ◌∙◌, ap, subst, append_assoc, append-nil, Option, Some, None, ◌⊎◌, inl, inr, eq-eqb}
use Rattle.std.proofs.lemmas.Bool.Decides.{eqb_tells}
use Rattle.lapin_pairs.specs.Machine.{Up, UCloseOk, DCloseOk, Sess, Closed, Opening, Opened, Closing, Crossed, Refused, Peer, Free, Asked, Open, Leaving, Stopping, StoppingOwes, StoppingAnswered, Broken, has_close, read, may_send, sent, state_after, unsent_after}
use Rattle.lapin_pairs.specs.Every.{Left, Drop, Push, Channel, One, Step1, Call1, Send1, Next1, Read1, Deliver1, has_any, left_one, called1, calls1, hands1, reads1, delivers1, happens1, start1, UpOn, OnU, CloseU, CloseOkU, DownOn, ToD, CloseD, CloseOkD, conn_u, conn_d, of_u, of_d, off_u, on_all, left_all, conn_left, All, StepA, CallA, SendA, HangUpA, NextA, ReadA, DeliverA, LoseA, called_a, calls_a, hangs_a, hands_a, sides_after, reads_a, received_a, delivers_a, may_a, sides_sent, sends_a, happens_a, run_a, start_a, conn_a, chan_a}
use Rattle.lapin_pairs.proofs.Pairs.{Good, all_read, keeps_close, keeps_next, keeps_read, keeps_deliver, keeps_send}
use Rattle.lapin_pairs.proofs.Erase.{map-append}
use Rattle.lapin_pairs.proofs.Others.{others, others-append, opened_others, swap, no_ok_opened, serving_back}

-- ---- lists

pub of-append : {U : Type 0} (c : ℕ) (fs gs : List (UpOn U)) → of_u c (fs ++ gs) ≡ of_u c fs ++ of_u c gs
of-append c [] gs = refl
of-append c (OnU d u ∷ fs) gs = elim (d == c) as (λ b. cond b (u ∷ of_u c (fs ++ gs)) (of_u c (fs ++ gs)) ≡ cond b (u ∷ of_u c fs) (of_u c fs) ++ of_u c gs) [ true ↦ ap (λ xs. u ∷ xs) (of-append c fs gs) | false ↦ of-append c fs gs ]
of-append c (CloseU ∷ fs) gs = of-append c fs gs
of-append c (CloseOkU ∷ fs) gs = of-append c fs gs

pub to-append : {D : Type 0} (c : ℕ) (fs gs : List (DownOn D)) → of_d c (fs ++ gs) ≡ of_d c fs ++ of_d c gs
to-append c [] gs = refl
to-append c (ToD d u ∷ fs) gs = elim (d == c) as (λ b. cond b (u ∷ of_d c (fs ++ gs)) (of_d c (fs ++ gs)) ≡ cond b (u ∷ of_d c fs) (of_d c fs) ++ of_d c gs) [ true ↦ ap (λ xs. u ∷ xs) (to-append c fs gs) | false ↦ to-append c fs gs ]
to-append c (CloseD ∷ fs) gs = to-append c fs gs
to-append c (CloseOkD ∷ fs) gs = to-append c fs gs

pub of_off : {U : Type 0} (c : ℕ) (fs : List (UpOn U)) → of_u c (off_u c fs) ≡ []
of_off c [] = refl
of_off c (OnU d u ∷ fs) = elim (d == c) as (λ b. d == c ≡ b → of_u c (cond b (off_u c fs) (OnU d u ∷ off_u c fs)) ≡ []) [ true ↦ λ e. of_off c fs | false ↦ λ e. rw e (of_off c fs) ] refl
of_off c (CloseU ∷ fs) = of_off c fs
of_off c (CloseOkU ∷ fs) = of_off c fs

pub of_off_other : {U : Type 0} (c d : ℕ) (fs : List (UpOn U)) → (d == c) ≡ false → of_u c (off_u d fs) ≡ of_u c fs
of_off_other c d [] h = refl
of_off_other c d (OnU e u ∷ fs) h =
    elim (eqb_tells e d) [
      | inl y ↦ rw (y.0, y.1, h) (of_off_other c d fs h)
      | inr n ↦ rw n.0 (elim (e == c) as (λ b. cond b (u ∷ of_u c (off_u d fs)) (of_u c (off_u d fs)) ≡ cond b (u ∷ of_u c fs) (of_u c fs)) [ true ↦ ap (λ xs. u ∷ xs) (of_off_other c d fs h) | false ↦ of_off_other c d fs h ])
    ]
of_off_other c d (CloseU ∷ fs) h = of_off_other c d fs h
of_off_other c d (CloseOkU ∷ fs) h = of_off_other c d fs h

pub of_on : {U : Type 0} (c : ℕ) (us : List U) → of_u c (on_all c us) ≡ us
of_on c [] = refl
of_on c (u ∷ us) = rw (eq-eqb c c refl) (ap (λ xs. u ∷ xs) (of_on c us))

pub of_on_other : {U : Type 0} (c e : ℕ) (us : List U) → (c == e) ≡ false → of_u e (on_all c us) ≡ []
of_on_other c e [] h = refl
of_on_other c e (u ∷ us) h = rw h (of_on_other c e us h)

pub of_more : {U : Type 0} (c : ℕ) (us : List U) (fs : List (UpOn U)) → of_u c (fs ++ on_all c us) ≡ of_u c fs ++ us
of_more c us fs = of-append c fs (on_all c us) ∙ ap (λ xs. of_u c fs ++ xs) (of_on c us)

pub of_away : {U : Type 0} (c e : ℕ) (us : List U) (fs : List (UpOn U)) → (c == e) ≡ false → of_u e (fs ++ on_all c us) ≡ of_u e fs
of_away c e us fs h = of-append e fs (on_all c us) ∙ (ap (λ xs. of_u e fs ++ xs) (of_on_other c e us h) ∙ append-nil (of_u e fs))

pub left_same : {U : Type 0} (c : ℕ) (l : Left U) (fs : List (UpOn U)) → of_u c (left_all c l fs) ≡ left_one l (of_u c fs)
left_same c (Drop us) fs = of_more c us (off_u c fs) ∙ ap (λ xs. xs ++ us) (of_off c fs)
left_same c (Push us) fs = of_more c us fs

pub left_other : {U : Type 0} (c e : ℕ) (l : Left U) (fs : List (UpOn U)) → (c == e) ≡ false → of_u e (left_all c l fs) ≡ of_u e fs
left_other c e (Drop us) fs h = of_away c e us (off_u c fs) h ∙ of_off_other e c fs h
left_other c e (Push us) fs h = of_away c e us fs h

-- to the connection all of these are frames of channels
pub others_on : {U : Type 0} (c : ℕ) (us : List U) → others (map conn_u (on_all c us)) ≡ true
others_on c [] = refl
others_on c (u ∷ us) = others_on c us

pub others_more : {U : Type 0} (c : ℕ) (us : List U) (fs : List (UpOn U)) → others (map conn_u fs) ≡ true → others (map conn_u (fs ++ on_all c us)) ≡ true
others_more c us fs h = rw map-append (others-append (map conn_u fs) (map conn_u (on_all c us)) h (others_on c us))

pub others_off : {U : Type 0} (c : ℕ) (fs : List (UpOn U)) → others (map conn_u fs) ≡ true → others (map conn_u (off_u c fs)) ≡ true
others_off c [] h = refl
others_off c (OnU d u ∷ fs) h = elim (d == c) as (λ b. others (map conn_u (cond b (off_u c fs) (OnU d u ∷ off_u c fs))) ≡ true) [ true ↦ others_off c fs h | false ↦ others_off c fs h ]
others_off c (CloseU ∷ fs) h = cc
others_off c (CloseOkU ∷ fs) h = cc

pub others_left : {U : Type 0} (c : ℕ) (l : Left U) (fs : List (UpOn U)) → others (map conn_u fs) ≡ true → others (map conn_u (left_all c l fs)) ≡ true
others_left c (Drop us) fs h = others_more c us (off_u c fs) (others_off c fs h)
others_left c (Push us) fs h = others_more c us fs h

none_any : {A : Type 0} (xs : List A) → has_any xs ≡ false → xs ≡ []
none_any [] h = refl
none_any (x ∷ xs) h = cc

of_none : {U : Type 0} (c : ℕ) (fs : List (UpOn U)) → has_any fs ≡ false → has_any (of_u c fs) ≡ false
of_none c fs h = rw (none_any fs h) refl

-- ---- the connection

conn_kinds : {U D : Type 0} (s : Sess) (us : List (UpOn U)) (f : DownOn D) → map conn_u (conn_left s us f) ≡ unsent_after s (map conn_u us) (conn_d f)
conn_kinds Opened us CloseD = refl
conn_kinds Opened us _ = refl
conn_kinds Closing us CloseD = elim (has_close (map conn_u us)) as (λ b. map conn_u (cond b (CloseOkU ∷ []) (us ++ CloseOkU ∷ [])) ≡ cond b (UCloseOk ∷ []) (map conn_u us ++ UCloseOk ∷ [])) [ true ↦ refl | false ↦ map-append conn_u us (CloseOkU ∷ []) ]
conn_kinds Closing us CloseOkD = refl
conn_kinds Closing us _ = refl
conn_kinds Opening us CloseD = refl
conn_kinds Opening us _ = refl
conn_kinds Closed us CloseD = refl
conn_kinds _ us CloseD = refl
conn_kinds _ us _ = refl

still_shut : {D : Type 0} (s : Sess) (us : List Up) (f : DownOn D) → (s ≡ Opened → ⊥) → state_after s us (conn_d f) ≡ Opened → ⊥
still_shut Opened us f n h = n refl
still_shut Opening us (ToD c d) n h = cc
still_shut Opening us CloseD n h = cc
still_shut Opening us CloseOkD n h = cc
still_shut Closing us CloseD n h = (elim (has_close us) as (λ b. cond b Closed Crossed ≡ Opened → ⊥) [ true ↦ λ h. cc | false ↦ λ h. cc ]) h
still_shut Closing us (ToD c d) n h = cc
still_shut Closing us CloseOkD n h = cc
still_shut Crossed us (ToD c d) n h = cc
still_shut Crossed us CloseD n h = cc
still_shut Crossed us CloseOkD n h = cc
still_shut Closed us f n h = cc
still_shut Refused us f n h = cc

quiet_left : {U D : Type 0} (s : Sess) (us : List (UpOn U)) (f : DownOn D) (c : ℕ) → of_u c us ≡ [] → of_u c (conn_left s us f) ≡ []
quiet_left Opened us CloseD c h = refl
quiet_left Closing us CloseD c h = elim (has_close (map conn_u us)) as (λ b. of_u c (cond b (CloseOkU ∷ []) (us ++ CloseOkU ∷ [])) ≡ []) [ true ↦ refl | false ↦ of-append c us (CloseOkU ∷ []) ∙ (append-nil (of_u c us) ∙ h) ]
quiet_left Closing us CloseOkD c h = refl
quiet_left Opening us CloseD c h = refl
quiet_left Opening us _ c h = h
quiet_left Opened us _ c h = h
quiet_left Closing us _ c h = h
quiet_left _ us f c h = h

-- ---- the lift

-- what P keeps: that reading the way up breaks nothing goes with it
pub record Fact (m : Channel) (P : One m → Type 0) (Fits : m.B → List m.U → Type 0) : Type 0 where
  pub kept : (w : One m) (s : Step1 m) → P w → P (happens1 m w s)
  pub first : P (start1 m)
  pub fits : (w : One m) → P w → Fits w.broker (w.up ++ w.unsent)
  pub front : (b : m.B) (us vs : List m.U) → Fits b (us ++ vs) → Fits b us
  pub read : (b : m.B) (u : m.U) (us : List m.U) → Fits b (u ∷ us) → Fits (m.reads b u) us
  pub give : (b : m.B) (d : m.D) (us : List m.U) → m.may b d ≡ true → Fits b us → Fits (m.gives b d) us
  pub none : Fits m.made []

module _ (m : Channel) (P : One m → Type 0) (Fits : m.B → List m.U → Type 0) (fact : Fact m P Fits) where
  p_call : (w : One m) (k : m.K) (o : Option (m.S × List m.U)) → (m.needs k && has_any w.unsent) ≡ false → m.call k w.sess ≡ o → P w → P (called1 m w o)
  p_call w k o n e g = subst (λ x. P (called1 m w x)) e (subst (λ b. P (calls1 m w k b)) n (fact.kept w (Call1 k) g))

  p_next : (w : One m) (us : List m.U) → w.unsent ≡ us → P w → P (hands1 m w us)
  p_next w us e g = subst (λ x. P (hands1 m w x)) e (fact.kept w Next1 g)

  p_read : (w : One m) (us : List m.U) → w.up ≡ us → P w → P (reads1 m w us)
  p_read w us e g = subst (λ x. P (reads1 m w x)) e (fact.kept w Read1 g)

  p_deliver : (w : One m) (ds : List m.D) → w.down ≡ ds → P w → P (delivers1 m w ds)
  p_deliver w ds e g = subst (λ x. P (delivers1 m w x)) e (fact.kept w Deliver1 g)

  p_send : (w : One m) (d : m.D) → m.may w.broker d ≡ true → P w → P (record w { broker = m.gives w.broker d; down = w.down ++ d ∷ [] })
  p_send w d e g = subst (λ b. P (cond b (record w { broker = m.gives w.broker d; down = w.down ++ d ∷ [] }) w)) e (fact.kept w (Send1 d) g)

  -- a channel: with the broker's side and the link as they are while the broker is up, and as they were since
  pub record Chan (w : All m) (c : ℕ) : Type 0 where
    pub side : m.B
    pub link : List m.U
    pub good : P (chan_a m c w side link)
    pub here : w.broker ≡ Open → (side ≡ w.sides c) × (link ≡ of_u c w.up)
    -- what is still on the way is the end of that link
    pub gone : List m.U
    pub way : link ≡ gone ++ of_u c w.up

  pub record Joint (w : All m) : Type 0 where
    pub conn : Good (conn_a m w)
    pub chans : w.conn ≡ Opened → (c : ℕ) → Chan w c
    pub sides : w.broker ≡ Open → (c : ℕ) → Fits (w.sides c) (of_u c w.up)
    pub quiet : (w.conn ≡ Opened → ⊥) → (c : ℕ) → of_u c w.unsent ≡ []

  -- a call on a channel
  chan_called : (w : All m) (c e : ℕ) (k : m.K) (t : m.S × List m.U) → (m.needs k && has_any w.unsent) ≡ false → m.call k (w.chans c) ≡ Some t → Chan w e → Chan (called_a m w c (Some t)) e
  chan_called w c e k t n h g =
      elim (eqb_tells c e) [
        | inl y ↦
            let x : m.call k (w.chans e) ≡ Some t = ap (λ i. m.call k (w.chans i)) (sym y.1) ∙ h in
            let here : P (record { sess = t.0; unsent = of_u e w.unsent ++ t.1; up = g.link; broker = g.side; down = of_d e w.down }) = p_call (chan_a m e w g.side g.link) k (Some t) (no_need (m.needs k) n) x g.good in
            let ways : of_u e (w.unsent ++ on_all c t.1) ≡ of_u e w.unsent ++ t.1 = ap (λ i. of_u e (w.unsent ++ on_all i t.1)) y.1 ∙ of_more e t.1 w.unsent in
            record { side = g.side; link = g.link; good = rw (y.0, ways) here; here = g.here; gone = g.gone; way = g.way }
        | inr x ↦ record { side = g.side; link = g.link; good = rw (x.0, of_away c e t.1 w.unsent x.0) g.good; here = g.here; gone = g.gone; way = g.way }
      ]
    where
      no_need : (b : Bool) → (b && has_any w.unsent) ≡ false → (b && has_any (of_u e w.unsent)) ≡ false
      no_need true h = of_none e w.unsent h
      no_need false h = refl

  shift : (s : m.S) (b : m.B) (us o vs : List m.U) (ds : List m.D) → P (record { sess = s; unsent = o ++ vs; up = us; broker = b; down = ds }) → P (record { sess = s; unsent = vs; up = us ++ o; broker = b; down = ds })
  shift s b us [] vs ds g = rw append-nil g
  shift s b us (u ∷ o) vs ds g = rw (← append_assoc us (u ∷ []) o) (shift s b (us ++ u ∷ []) o vs ds (p_next (record { sess = s; unsent = u ∷ (o ++ vs); up = us; broker = b; down = ds }) (u ∷ (o ++ vs)) refl g))

  chan_next : (w : All m) (f : UpOn m.U) (fs : List (UpOn m.U)) (e : ℕ) → w.unsent ≡ f ∷ fs → Chan w e → Chan (hands_a m w (f ∷ fs)) e
  chan_next w f fs e h g =
      let x : of_u e w.unsent ≡ of_u e (f ∷ []) ++ of_u e fs = ap (of_u e) h ∙ of-append e (f ∷ []) fs in
      record {
        side = g.side;
        link = g.link ++ of_u e (f ∷ []);
        good = shift (w.chans e) g.side g.link (of_u e (f ∷ [])) (of_u e fs) (of_d e w.down) (rw x at g.good);
        here = λ s. ((g.here s).0, ap (λ l. l ++ of_u e (f ∷ [])) (g.here s).1 ∙ sym (of-append e w.up (f ∷ [])));
        gone = g.gone;
        way = ap (λ l. l ++ of_u e (f ∷ [])) g.way ∙ (append_assoc g.gone (of_u e w.up) (of_u e (f ∷ [])) ∙ ap (λ l. g.gone ++ l) (sym (of-append e w.up (f ∷ []))));
      }

  way_on : (w : All m) (f : UpOn m.U) (fs : List (UpOn m.U)) (e : ℕ) → w.up ≡ f ∷ fs → (g : Chan w e) → g.link ≡ (g.gone ++ of_u e (f ∷ [])) ++ of_u e fs
  way_on w f fs e h g = g.way ∙ (ap (λ l. g.gone ++ of_u e l) h ∙ (ap (λ l. g.gone ++ l) (of-append e (f ∷ []) fs) ∙ sym (append_assoc g.gone (of_u e (f ∷ [])) (of_u e fs))))

  -- a frame is read
  chan_read : (w : All m) (f : UpOn m.U) (fs : List (UpOn m.U)) (e : ℕ) → w.up ≡ f ∷ fs → Chan w e → (b : Peer) → w.broker ≡ b → Chan (reads_a m w (f ∷ fs)) e
  chan_read w (OnU c u) fs e h g Open k =
      elim (eqb_tells c e) [
        | inl y ↦
            let l : g.link ≡ u ∷ of_u e fs = (g.here k).1 ∙ (ap (of_u e) h ∙ one y.0) in
            record {
              side = m.reads g.side u;
              link = of_u e fs;
              good = p_read (chan_a m e w g.side g.link) (u ∷ of_u e fs) l g.good;
              here = λ s. (ap (λ b. m.reads b u) (g.here k).0 ∙ rw (k, y.0, y.1) refl, refl);
              gone = [];
              way = refl;
            }
        | inr n ↦ record { side = g.side; link = g.link; good = g.good; here = λ s. ((g.here k).0 ∙ rw (k, n.0) refl, (g.here k).1 ∙ (ap (of_u e) h ∙ away n.0)); gone = g.gone ++ of_u e (OnU c u ∷ []); way = way_on w (OnU c u) fs e h g }
      ]
    where
      one : (c == e) ≡ true → of_u e (OnU c u ∷ fs) ≡ u ∷ of_u e fs
      one y = rw y refl

      away : (c == e) ≡ false → of_u e (OnU c u ∷ fs) ≡ of_u e fs
      away y = rw y refl
  chan_read w f fs e h g b k = record { side = g.side; link = g.link; good = g.good; here = λ s. let j = serving_back w.broker (conn_u f) s in let x = j.0 in let y = j.1 in absurd cc; gone = g.gone ++ of_u e (f ∷ []); way = way_on w f fs e h g }

  sides_read : (w : All m) (f : UpOn m.U) (fs : List (UpOn m.U)) (e : ℕ) → w.up ≡ f ∷ fs → Fits (w.sides e) (of_u e w.up) → (b : Peer) → w.broker ≡ b → read w.broker (conn_u f) ≡ Open → Fits (sides_after m w.broker w.sides f e) (of_u e fs)
  sides_read w (OnU c u) fs e h g Open k s =
      elim (eqb_tells c e) [
        | inl y ↦
            let v : Fits (w.sides e) (u ∷ of_u e fs) = subst (Fits (w.sides e)) (ap (of_u e) h ∙ one y.0) g in
            let r : Fits (m.reads (w.sides e) u) (of_u e fs) = fact.read (w.sides e) u (of_u e fs) v in
            rw (k, y.0, y.1) r
        | inr n ↦ rw (k, n.0) (subst (Fits (w.sides e)) (ap (of_u e) h ∙ away n.0) g)
      ]
    where
      one : (c == e) ≡ true → of_u e (OnU c u ∷ fs) ≡ u ∷ of_u e fs
      one y = rw y refl

      away : (c == e) ≡ false → of_u e (OnU c u ∷ fs) ≡ of_u e fs
      away y = rw y refl
  sides_read w f fs e h g b k s = let j = serving_back w.broker (conn_u f) s in let x = j.0 in let y = j.1 in absurd cc

  -- a frame is sent
  chan_send : (w : All m) (f : DownOn m.D) (e : ℕ) (b : Peer) → w.broker ≡ b → may_a m b w.sides f ≡ true → Chan w e → Chan (sends_a m w f) e
  chan_send w (ToD c d) e Open k n g =
      elim (eqb_tells c e) [
        | inl y ↦
            let x : m.may g.side d ≡ true = ap (λ b. m.may b d) ((g.here k).0 ∙ ap w.sides (sym y.1)) ∙ n in
            record {
              side = m.gives g.side d;
              link = g.link;
              good = rw (to-append e w.down (ToD c d ∷ []), y.0) (p_send (chan_a m e w g.side g.link) d x g.good);
              here = λ s. (ap (λ b. m.gives b d) (g.here k).0 ∙ rw (y.0, y.1) refl, (g.here k).1);
              gone = g.gone;
              way = g.way;
            }
        | inr x ↦ record {
          side = g.side;
          link = g.link;
          good = rw (to-append e w.down (ToD c d ∷ []), x.0, append-nil) g.good;
          here = λ s. ((g.here k).0 ∙ rw x.0 refl, (g.here k).1);
          gone = g.gone;
          way = g.way;
        }
      ]
  chan_send w CloseD e Open k n g = record { side = g.side; link = g.link; good = rw (to-append e w.down (CloseD ∷ []), append-nil) g.good; here = λ s. let x : Stopping ≡ Open = rw k at s in absurd cc; gone = g.gone; way = g.way }
  chan_send w CloseOkD e b k n g = record { side = g.side; link = g.link; good = rw (to-append e w.down (CloseOkD ∷ []), append-nil) g.good; here = λ s. absurd (not_back b n (rw k at s)); gone = g.gone; way = g.way }
    where
      not_back : (b : Peer) → may_a m b w.sides CloseOkD ≡ true → sent b DCloseOk ≡ Open → ⊥
      not_back Leaving n h = cc
      not_back StoppingOwes n h = cc
      not_back StoppingAnswered n h = cc
      not_back _ n h = cc
  chan_send w _ e b k n g = absurd cc

  sides_send : (w : All m) (f : DownOn m.D) (e : ℕ) (b : Peer) → w.broker ≡ b → may_a m b w.sides f ≡ true → Fits (w.sides e) (of_u e w.up) → Fits (sides_sent m w.sides f e) (of_u e w.up)
  sides_send w (ToD c d) e Open k n g =
      elim (eqb_tells c e) [
        | inl y ↦ let x : Fits (m.gives (w.sides e) d) (of_u e w.up) = fact.give (w.sides e) d (of_u e w.up) (ap (λ i. m.may (w.sides i) d) (sym y.1) ∙ n) g in rw (y.0, y.1) x
        | inr x ↦ rw x.0 g
      ]
  sides_send w (ToD c d) e b k n g = absurd cc
  sides_send w CloseD e b k n g = g
  sides_send w CloseOkD e b k n g = g

  -- a frame is delivered
  chan_deliver : (w : All m) (c : ℕ) (d : m.D) (fs : List (DownOn m.D)) (e : ℕ) → w.down ≡ ToD c d ∷ fs → Chan w e → Chan (received_a m w Opened (ToD c d) fs) e
  chan_deliver w c d fs e h g =
      elim (eqb_tells c e) [
        | inl y ↦
            let l : of_d e w.down ≡ d ∷ of_d e fs = ap (of_d e) h ∙ one y.0 in
            record { side = g.side; link = g.link; good = rw (y.0, y.1, left_same e (m.left (w.chans e) (of_u e w.unsent) d) w.unsent) (p_deliver (chan_a m e w g.side g.link) (d ∷ of_d e fs) l g.good); here = g.here; gone = g.gone; way = g.way }
        | inr n ↦ record { side = g.side; link = g.link; good = rw (n.0, left_other c e (m.left (w.chans c) (of_u c w.unsent) d) w.unsent n.0) (rw (ap (of_d e) h ∙ away n.0) at g.good); here = g.here; gone = g.gone; way = g.way }
      ]
    where
      one : (c == e) ≡ true → of_d e (ToD c d ∷ fs) ≡ d ∷ of_d e fs
      one y = rw y refl

      away : (c == e) ≡ false → of_d e (ToD c d ∷ fs) ≡ of_d e fs
      away y = rw y refl

  -- ---- the steps

  swapped : (w : All m) (vs : List (UpOn m.U)) → w.conn ≡ Opened → others (map conn_u vs) ≡ true → Good (conn_a m w) → Good (conn_a m (record w { unsent = vs }))
  swapped w vs e o g = swap (conn_a m w) (map conn_u vs) e o g

  joint_call : (w : All m) (c : ℕ) (k : m.K) → Joint w → w.conn ≡ Opened → (m.needs k && has_any w.unsent) ≡ false → (o : Option (m.S × List m.U)) → m.call k (w.chans c) ≡ o → Joint (called_a m w c o)
  joint_call w c k g e n None h = g
  joint_call w c k g e n (Some t) h = record {
    conn = swapped w (w.unsent ++ on_all c t.1) e (others_more c t.1 w.unsent (opened_others (conn_a m w) e g.conn)) g.conn;
    chans = λ x d. let a = chan_called w c d k t n h (g.chans x d) in record { side = a.side; link = a.link; good = a.good; here = a.here; gone = a.gone; way = a.way };
    sides = g.sides;
    quiet = λ x. absurd (x e);
  }

  joint_calls : (w : All m) (s : Sess) (c : ℕ) (k : m.K) (b : Bool) → w.conn ≡ s → (m.needs k && has_any w.unsent) ≡ b → Joint w → Joint (calls_a m w s c k b)
  joint_calls w Opened c k false e n g = joint_call w c k g e n (m.call k (w.chans c)) refl
  joint_calls w Opened c k true e n g = g
  joint_calls w Closed c k b e n g = g
  joint_calls w Opening c k b e n g = g
  joint_calls w Closing c k b e n g = g
  joint_calls w Crossed c k b e n g = g
  joint_calls w Refused c k b e n g = g

  not_opened : (s : Sess) → s ≡ Closing → s ≡ Opened → ⊥
  not_opened s e h = cc

  joint_hang : (w : All m) (s : Sess) → w.conn ≡ s → Joint w → Joint (hangs_a m w s)
  joint_hang w Opened e g = record {
    conn = keeps_close (record (conn_a m w) { unsent = [] }) Opened e (swap (conn_a m w) [] e refl g.conn);
    chans = λ x. absurd (not_opened Closing refl x);
    sides = g.sides;
    quiet = λ n c. refl;
  }
  joint_hang w Closed e g = g
  joint_hang w Opening e g = g
  joint_hang w Closing e g = g
  joint_hang w Crossed e g = g
  joint_hang w Refused e g = g

  joint_next : (w : All m) (fs : List (UpOn m.U)) → w.unsent ≡ fs → Joint w → Joint (hands_a m w fs)
  joint_next w [] e g = g
  joint_next w (f ∷ fs) e g = record {
    conn = rw map-append (keeps_next (conn_a m w) (conn_u f ∷ map conn_u fs) (ap (map conn_u) e) g.conn);
    chans = λ x c. chan_next w f fs c e (g.chans x c);
    sides = λ b c. next_sides b c (opened_or w.conn);
    quiet = λ n c. (split c (ap (of_u c) (sym e) ∙ g.quiet n c)).1;
  }
    where
      opened_or : (s : Sess) → (s ≡ Opened) ⊎ (s ≡ Opened → ⊥)
      opened_or Opened = inl refl
      opened_or _ = inr (λ h. cc)

      nils : (xs ys : List m.U) → xs ++ ys ≡ [] → (xs ≡ []) × (ys ≡ [])
      nils [] ys h = (refl, h)
      nils (x ∷ xs) ys h = absurd cc

      split : (c : ℕ) → of_u c (f ∷ fs) ≡ [] → (of_u c (f ∷ []) ≡ []) × (of_u c fs ≡ [])
      split c h = nils (of_u c (f ∷ [])) (of_u c fs) (sym (of-append c (f ∷ []) fs) ∙ h)

      next_sides : w.broker ≡ Open → (c : ℕ) → (w.conn ≡ Opened) ⊎ (w.conn ≡ Opened → ⊥) → Fits (w.sides c) (of_u c (w.up ++ f ∷ []))
      next_sides b c (inr n) =
          let k : of_u c (w.up ++ f ∷ []) ≡ of_u c w.up = of-append c w.up (f ∷ []) ∙ (ap (λ xs. of_u c w.up ++ xs) (split c (ap (of_u c) (sym e) ∙ g.quiet n c)).0 ∙ append-nil (of_u c w.up)) in
          subst (Fits (w.sides c)) (sym k) (g.sides b c)
      next_sides b c (inl x) =
          let h = g.chans x c in
          let l : of_u c w.unsent ≡ of_u c (f ∷ []) ++ of_u c fs = ap (of_u c) e ∙ of-append c (f ∷ []) fs in
          let v : Fits h.side ((h.link ++ of_u c (f ∷ [])) ++ of_u c fs) = subst (Fits h.side) (ap (λ xs. h.link ++ xs) l ∙ sym (append_assoc h.link (of_u c (f ∷ [])) (of_u c fs))) (fact.fits (chan_a m c w h.side h.link) h.good) in
          let q : Fits h.side (h.link ++ of_u c (f ∷ [])) = fact.front h.side (h.link ++ of_u c (f ∷ [])) (of_u c fs) v in
          rw (of-append c w.up (f ∷ []), ← (h.here b).0, ← (h.here b).1) q

  joint_read : (w : All m) (fs : List (UpOn m.U)) → w.up ≡ fs → Joint w → Joint (reads_a m w fs)
  joint_read w [] e g = g
  joint_read w (f ∷ fs) e g = record {
    conn = keeps_read (conn_a m w) (conn_u f ∷ map conn_u fs) (ap (map conn_u) e) g.conn;
    chans = λ x c. chan_read w f fs c e (g.chans x c) w.broker refl;
    sides = λ b c. let j = serving_back w.broker (conn_u f) b in sides_read w f fs c e (g.sides j.0 c) w.broker refl b;
    quiet = g.quiet;
  }

  joint_send : (w : All m) (f : DownOn m.D) → may_a m w.broker w.sides f ≡ true → Joint w → Joint (sends_a m w f)
  joint_send w f n g = record {
    conn = rw map-append (keeps_send (conn_a m w) (conn_d f) (may_conn w.broker f n) g.conn);
    chans = λ x c. chan_send w f c w.broker refl n (g.chans x c);
    sides = λ b c. sides_send w f c w.broker refl n (g.sides (was w.broker f n b) c);
    quiet = g.quiet;
  }
    where
      may_conn : (b : Peer) (f : DownOn m.D) → may_a m b w.sides f ≡ true → may_send b (conn_d f) ≡ true
      may_conn Open (ToD c d) n = refl
      may_conn Open CloseD n = refl
      may_conn Open CloseOkD n = n
      may_conn Leaving CloseOkD n = n
      may_conn StoppingOwes CloseOkD n = n
      may_conn StoppingAnswered CloseOkD n = n
      may_conn Leaving _ n = cc
      may_conn StoppingOwes _ n = cc
      may_conn StoppingAnswered _ n = cc
      may_conn Free CloseOkD n = cc
      may_conn Asked CloseOkD n = cc
      may_conn Stopping CloseOkD n = cc
      may_conn Broken CloseOkD n = cc
      may_conn _ _ n = cc

      was : (b : Peer) (f : DownOn m.D) → may_a m b w.sides f ≡ true → sent b (conn_d f) ≡ Open → b ≡ Open
      was Open f n h = refl
      was Leaving CloseOkD n h = cc
      was StoppingOwes CloseOkD n h = cc
      was StoppingAnswered CloseOkD n h = cc
      was Free CloseOkD n h = cc
      was Asked CloseOkD n h = cc
      was Stopping CloseOkD n h = cc
      was Broken CloseOkD n h = cc
      was _ _ n h = cc

  shut : (w : All m) (s : Sess) (f : DownOn m.D) (fs : List (DownOn m.D)) → w.conn ≡ s → (s ≡ Opened → ⊥) → Joint w → Good (record { sess = state_after s (map conn_u w.unsent) (conn_d f); unsent = unsent_after s (map conn_u w.unsent) (conn_d f); up = map conn_u w.up; peer = w.broker; down = map conn_d fs }) → Joint (record w { conn = state_after s (map conn_u w.unsent) (conn_d f); unsent = conn_left s w.unsent f; down = fs })
  shut w s f fs k n g a = record {
    conn = rw (conn_kinds s w.unsent f) a;
    chans = λ x. absurd (still_shut s (map conn_u w.unsent) f n x);
    sides = g.sides;
    quiet = λ x c. quiet_left s w.unsent f c (g.quiet (λ h. n (sym k ∙ h)) c);
  }

  joint_received : (w : All m) (s : Sess) (f : DownOn m.D) (fs : List (DownOn m.D)) → w.conn ≡ s → w.down ≡ f ∷ fs → Joint w → Good (record { sess = state_after w.conn (map conn_u w.unsent) (conn_d f); unsent = unsent_after w.conn (map conn_u w.unsent) (conn_d f); up = map conn_u w.up; peer = w.broker; down = map conn_d fs }) → Joint (received_a m w s f fs)
  joint_received w Opened (ToD c d) fs k e g a =
      let b : Good (record { sess = Opened; unsent = map conn_u w.unsent; up = map conn_u w.up; peer = w.broker; down = map conn_d fs }) = rw k at a in
      let l : Left m.U = m.left (w.chans c) (of_u c w.unsent) d in
      record {
        conn = rw k (swap (record { sess = Opened; unsent = map conn_u w.unsent; up = map conn_u w.up; peer = w.broker; down = map conn_d fs }) (map conn_u (left_all c l w.unsent)) refl (others_left c l w.unsent (opened_others (conn_a m w) k g.conn)) b);
        chans = λ x i. let n = chan_deliver w c d fs i e (g.chans k i) in record { side = n.side; link = n.link; good = n.good; here = n.here; gone = n.gone; way = n.way };
        sides = g.sides;
        quiet = λ n. absurd (n k);
      }
  joint_received w Opened CloseD fs k e g a = record {
    conn = rw k at a;
    chans = λ x. absurd cc;
    sides = g.sides;
    quiet = λ n c. refl;
  }
  joint_received w Opened CloseOkD fs k e g a = absurd (no_ok_opened (all_read (conn_a m w)) (map conn_d fs) (rw (k, e) at g.conn.pair))
  joint_received w Closed f fs k e g a = shut w Closed f fs k (λ h. cc) g (rw k at a)
  joint_received w Opening f fs k e g a = shut w Opening f fs k (λ h. cc) g (rw k at a)
  joint_received w Closing f fs k e g a = shut w Closing f fs k (λ h. cc) g (rw k at a)
  joint_received w Crossed f fs k e g a = shut w Crossed f fs k (λ h. cc) g (rw k at a)
  joint_received w Refused f fs k e g a = shut w Refused f fs k (λ h. cc) g (rw k at a)

  joint_deliver : (w : All m) (fs : List (DownOn m.D)) → w.down ≡ fs → Joint w → Joint (delivers_a m w fs)
  joint_deliver w [] e g = g
  joint_deliver w (f ∷ fs) e g = joint_received w w.conn f fs refl e g (keeps_deliver (conn_a m w) (conn_d f ∷ map conn_d fs) (ap (map conn_d) e) g.conn)

  pub joint_keeps : (w : All m) (s : StepA m) → Joint w → Joint (happens_a m w s)
  joint_keeps w (CallA c k) g = joint_calls w w.conn c k (m.needs k && has_any w.unsent) refl refl g
  joint_keeps w HangUpA g = joint_hang w w.conn refl g
  joint_keeps w NextA g = joint_next w w.unsent refl g
  joint_keeps w ReadA g = joint_read w w.up refl g
  joint_keeps w DeliverA g = joint_deliver w w.down refl g
  joint_keeps w LoseA g = record { conn = record { pair = refl; clean = refl }; chans = λ x. absurd cc; sides = λ x. absurd cc; quiet = λ n c. refl }
  joint_keeps w (SendA f) g =
      elim (may_a m w.broker w.sides f) as (λ b. may_a m w.broker w.sides f ≡ b → Joint (cond b (sends_a m w f) w))
      [ true ↦ λ n. joint_send w f n g | false ↦ λ n. g ] refl

  pub joint_run : (w : All m) (ss : List (StepA m)) → Joint w → Joint (run_a m ss w)
  joint_run w [] g = g
  joint_run w (s ∷ ss) g = joint_run (happens_a m w s) ss (joint_keeps w s g)

  pub joint_start : Joint (start_a m)
  joint_start = record {
    conn = record { pair = refl; clean = refl };
    chans = λ x c. record { side = m.made; link = []; good = fact.first; here = λ s. (refl, refl); gone = []; way = refl };
    sides = λ s c. fact.none;
    quiet = λ n c. refl;
  }
