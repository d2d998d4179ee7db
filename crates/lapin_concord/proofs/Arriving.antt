-- What a frame that comes, and one that leaves, leave of the tags of the pair's session.
use Rattle.std.proofs.Common.{◌≡◌, ℕ, Bool, true, false, cond, not, ◌||◌, nat_lt, nat_le, List, [], ◌∷◌, ◌++◌, length, refl, sym, ◌∙◌, ap, subst, append-nil, inl, inr, eq-eqb}
use Rattle.std.specs.List.{list_any}
use Rattle.std.proofs.lemmas.List.Folds.{list_any-append}
use Rattle.std.proofs.lemmas.Bool.Decides.{eqb_tells}
use Rattle.lapin_rules.specs.ConfirmMarks.{ConfirmMark}
use Rattle.lapin_rules.specs.ConfirmMarks as mark
use Rattle.lapin_rules.specs.ConfirmReadings.{is_selected}
use Rattle.lapin_confirm.specs.Follows.{MayCome}
use Rattle.lapin_pairs.specs.Machine.{Sess, Closed, Opening, Opened, Closing, Crossed, Refused, has_close, state_after}
use Rattle.lapin_pairs.specs.Channel.{Settle, FCloseOk, FHeader, DownF, BOpenOk, BClose, BCloseOk, BSettle, kind_down, bodies_of, sum_suc, publish_frames}
use Rattle.lapin_pairs.specs.Every.{put, has_any, UpOn, OnU, DownOn, ToD, of_u, on_all, left_one, left_all, All, CallA, NextA, called_a, calls_a, hands_a, received_a, happens_a}
use Rattle.lapin_pairs.specs.Asking.{U2, Plain, plains, KBegin, call_at, left_at}
use Rattle.lapin_pairs.specs.Tags.{covers, with_settle}
use Rattle.lapin_pairs.specs.Tagging.{S3, on_base, marked, take3, left3, tagging}
use Rattle.lapin_pairs.proofs.Every.{of_on, of_on_other, left_same, left_other}
use Rattle.lapin_concord.specs.Held.{way}
use Rattle.lapin_concord.proofs.Noting.{is_select, has_select, NotedAt, IsNotedIn, AreNoted, and_parts, and_all, noted_beside, noted_select, noted_left}
use Rattle.lapin_concord.proofs.Stepping.{Noted, same_select, more_select, noted_put}
use Rattle.std.proofs.lemmas.Bool.{not-true, not_from_false}

-- ---- a frame comes to a channel

-- a settlement is noted
fewer : (rs : List Settle) (x : DownF) (n : ℕ) → list_any (covers n) (with_settle rs x) ≡ false → list_any (covers n) rs ≡ false
fewer rs (BSettle s) n h = left_none (list_any (covers n) rs) _ (sym (list_any-append (covers n) rs (s ∷ [])) ∙ h)
  where
    left_none : (a b : Bool) → (a || b) ≡ false → a ≡ false
    left_none true b h = cc
    left_none false b h = refl
fewer rs _ n h = h

-- the channel stays live
grown : (s : S3) (c : ℕ) (ms : List ConfirmMark) (us ws : List U2) (x : DownF) → NotedAt s c ms us → NotedAt (take3 s ws x) c ms (us ++ [])
grown s c ms us ws x h = record {
  begun = h.begun;
  chosen = h.chosen ∙ ap (λ vs. is_selected c ms || has_select vs) (sym (append-nil us));
  count = h.count;
  pending = λ n p.
      let q = and_parts (nat_lt 0 n) (nat_le n (length s.tagged)) (not (list_any (covers n) (with_settle s.received x))) p in
      h.pending n (and_all (nat_lt 0 n) (nat_le n (length s.tagged)) (not (list_any (covers n) s.received)) q.0 q.1 (not_from_false (list_any (covers n) s.received) (fewer s.received x n (not-true (list_any (covers n) (with_settle s.received x)) q.2))));
}

-- a closing channel whose close has left has nothing that waits
abbrev pub IsClosingDone : Sess → List U2 → Type 0
IsClosingDone Closing us = has_close (way us) ≡ false → has_select us ≡ false
IsClosingDone _ us = Unit {0}

closing_taken : (s : S3) (c : ℕ) (ms : List ConfirmMark) (us ws : List U2) (b : Bool) → has_close (way us) ≡ b → IsClosingDone Closing us → IsNotedIn (cond b Closed Crossed) (take3 s ws BClose) c ms (left_one (left_at Closing b BClose) us)
closing_taken s c ms us ws true e d = refl
closing_taken s c ms us ws false e d = more_select us (Plain FCloseOk ∷ []) refl ∙ d e

taken : (p : Sess) (s : S3) (c : ℕ) (ms : List ConfirmMark) (us ws : List U2) (x : DownF) → IsClosingDone p us → IsNotedIn p s c ms us → IsNotedIn (state_after p (way us) (kind_down x)) (take3 s ws x) c ms (left_one (left_at p (has_close (way us)) x) us)
taken Closed s c ms us ws x d h = tt
taken Refused s c ms us ws x d h = tt
taken Crossed s c ms us ws BCloseOk d h = more_select us [] refl ∙ h
taken Crossed s c ms us ws _ d h = tt
taken Opening s c ms us ws BOpenOk d h = grown s c ms us ws BOpenOk h
taken Opening s c ms us ws BClose d h = refl
taken Opening s c ms us ws _ d h = tt
taken Opened s c ms us ws BClose d h = refl
taken Opened s c ms us ws BOpenOk d h = tt
taken Opened s c ms us ws BCloseOk d h = tt
taken Opened s c ms us ws x d h = grown s c ms us ws x h
taken Closing s c ms us ws BClose d h = closing_taken s c ms us ws (has_close (way us)) refl d
taken Closing s c ms us ws BCloseOk d h = elim (has_close (way us)) as (λ b. has_select (left_one (left_at Closing b BCloseOk) us) ≡ false) [ true ↦ refl | false ↦ refl ]
taken Closing s c ms us ws BOpenOk d h = tt
taken Closing s c ms us ws x d h = elim (has_close (way us)) as (λ b. NotedAt (take3 s ws x) c ms (left_one (left_at Closing b x) us)) [ true ↦ grown s c ms us ws x h | false ↦ grown s c ms us ws x h ]

-- ---- a frame comes

pub channel_noted : (t : All tagging) (ms : List ConfirmMark) (c : ℕ) (x : DownF) (ds : List (DownOn DownF)) → IsClosingDone (t.chans c).base.sess (of_u c t.unsent) → AreNoted t ms → AreNoted (received_a tagging t Opened (ToD c x) ds) ms
channel_noted t ms c x ds d h =
    let s : S3 = t.chans c in
    let us : List U2 = of_u c t.unsent in
    noted_put c (take3 s us x) t.chans ms ms t.unsent (left_all c (left3 s us x) t.unsent)
    (subst (λ ws. Noted (take3 s us x) c ms ws) (sym (left_same c (left3 s us x) t.unsent)) (taken s.base.sess s c ms us us x d (h c)))
    (λ e n. left_other c e (left3 s us x) t.unsent n) (λ e n y. y) h

-- channels that are all closed, and no select waits
pub shut_noted : (f : ℕ → S3) (ms : List ConfirmMark) (ws : List (UpOn U2)) → ((e : ℕ) → (f e).base.sess ≡ Closed) → ((e : ℕ) → has_select (of_u e ws) ≡ false) → (e : ℕ) → Noted (f e) e ms (of_u e ws)
shut_noted f ms ws k h e = subst (λ p. IsNotedIn p (f e) e ms (of_u e ws)) (sym (k e)) (h e)

-- ---- a frame leaves

-- of a frame that is no select nothing changes
pub next_other : (t : All tagging) (ms : List ConfirmMark) (u : UpOn U2) (us : List (UpOn U2)) → t.unsent ≡ u ∷ us → ((e : ℕ) → has_select (of_u e (u ∷ us)) ≡ has_select (of_u e us)) → AreNoted t ms → AreNoted (happens_a tagging t NextA) ms
next_other t ms u us y k h = subst (λ ws. AreNoted (hands_a tagging t ws) ms) (sym y) (λ e. same_select (t.chans e).base.sess (t.chans e) e ms (of_u e (u ∷ us)) (of_u e us) (sym (k e)) (subst (λ ws. Noted (t.chans e) e ms (of_u e ws)) y (h e)))

-- a select leaves
pub next_select : (t : All tagging) (ms : List ConfirmMark) (c : ℕ) (u : U2) (us : List (UpOn U2)) → t.unsent ≡ OnU c u ∷ us → is_select u ≡ true → AreNoted t ms → AreNoted (happens_a tagging t NextA) (ms ++ mark.SelectLeft c ∷ [])
next_select t ms c u us y k h = subst (λ ws. AreNoted (hands_a tagging t ws) (ms ++ mark.SelectLeft c ∷ [])) (sym y) (λ e. elim (eqb_tells c e) [
  | inl z ↦ subst (λ i. Noted (t.chans i) i (ms ++ mark.SelectLeft c ∷ []) (of_u i us)) z.1
      (noted_select (t.chans c).base.sess (t.chans c) c ms (of_u c (OnU c u ∷ us)) (of_u c us) (rw (eq-eqb c c refl, k) refl) (subst (λ ws. Noted (t.chans c) c ms (of_u c ws)) y (h c)))
  | inr n ↦ noted_beside (t.chans e).base.sess (t.chans e) e ms (of_u e us) (mark.SelectLeft c) n.0 (subst (λ ws. Noted (t.chans e) e ms ws) (ap (of_u e) y ∙ ap (λ b. cond b (u ∷ of_u e us) (of_u e us)) n.0) (h e))
])

-- ---- a publish begins and its method leaves

none_selects : (ns : List ℕ) → has_select (plains (bodies_of ns)) ≡ false
none_selects [] = refl
none_selects (n ∷ ns) = none_selects ns

pub begin_noted : (t : All tagging) (ms : List ConfirmMark) (c k : ℕ) (ns : List ℕ) → t.conn ≡ Opened → t.unsent ≡ [] → (t.chans c).base.sess ≡ Opened → MayCome ms (mark.Left c k) → AreNoted t ms → AreNoted (happens_a tagging (happens_a tagging t (CallA c (KBegin 0 ns))) NextA) (ms ++ mark.Left c k ∷ [])
begin_noted t ms c k ns o y p may h = subst (λ v. AreNoted (hands_a tagging v v.unsent) (ms ++ mark.Left c k ∷ [])) (sym first) behind
  where
    s : S3
    s = record (t.chans c) { base = record (t.chans c).base { sess = Opened }; tagged = cond (t.chans c).selected ((t.chans c).tagged ++ 0 ∷ []) (t.chans c).tagged }

    first : happens_a tagging t (CallA c (KBegin 0 ns)) ≡ record t { chans = put c s t.chans; unsent = on_all c (plains (publish_frames 0 ns)) }
    first = ap (λ fs. calls_a tagging t t.conn c (KBegin 0 ns) (has_any fs)) y
        ∙ (ap (λ l. calls_a tagging t l c (KBegin 0 ns) false) o
        ∙ (ap (λ q. called_a tagging t c (on_base (marked (KBegin 0 ns) (t.chans c)) (call_at (KBegin 0 ns) (t.chans c).base q))) p
        ∙ ap (λ fs. record t { chans = put c s t.chans; unsent = fs ++ on_all c (plains (publish_frames 0 ns)) }) y))

    pieces : List U2
    pieces = plains (FHeader (sum_suc ns) ∷ bodies_of ns)

    here : NotedAt (t.chans c) c ms []
    here = subst (λ ws. NotedAt (t.chans c) c ms (of_u c ws)) y (subst (λ q. IsNotedIn q (t.chans c) c ms (of_u c t.unsent)) p (h c))

    behind : (e : ℕ) → Noted (put c s t.chans e) e (ms ++ mark.Left c k ∷ []) (of_u e (on_all c pieces))
    behind = noted_put c s t.chans ms (ms ++ mark.Left c k ∷ []) t.unsent (on_all c pieces)
        (noted_left (t.chans c) s c k ms [] (of_u c (on_all c pieces)) may refl refl refl refl (ap has_select (of_on c pieces) ∙ none_selects ns) here)
        (λ e n. of_on_other c e pieces n ∙ sym (ap (of_u e) y))
        (λ e n x. noted_beside (t.chans e).base.sess (t.chans e) e ms (of_u e t.unsent) (mark.Left c k) n x) h
