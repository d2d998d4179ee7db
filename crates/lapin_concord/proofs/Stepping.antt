-- What the steps of the pair leave of its session's tags, beside the same marks.
use Rattle.std.proofs.Common.{◌≡◌, ℕ, Bool, true, false, cond, not, ◌==◌, ◌&&◌, ◌||◌, nat_lt, nat_le, List, [], ◌∷◌, ◌++◌, length, refl, sym, ◌∙◌, ap, ap₂, subst, subst₂, inl, inr}
use Rattle.std.specs.List.{list_any}
use Rattle.std.proofs.lemmas.List.Folds.{list_any-append}
use Rattle.std.proofs.lemmas.Bool.Decides.{eqb_tells}
use Rattle.lapin_rules.specs.ConfirmMarks.{ConfirmMark}
use Rattle.lapin_rules.specs.ConfirmMarks as mark
use Rattle.lapin_rules.specs.ConfirmReadings.{is_selected}
use Rattle.lapin_pairs.specs.Machine.{Sess, Closed, Opening, Opened, Crossed, Refused}
use Rattle.lapin_pairs.specs.Channel.{FOpen, FClose, FTell, FSelect, FAsk}
use Rattle.lapin_pairs.specs.Every.{put, UpOn, of_u, on_all, All, CallA, called_a, calls_a, happens_a}
use Rattle.lapin_pairs.specs.Asking.{U2, Plain, SelectAsk, K2, KOpen, KClose, KTell, KAsk, KSelect, KBegin, call_at}
use Rattle.lapin_pairs.specs.Tags.{covers}
use Rattle.lapin_pairs.specs.Tagging.{S3, on_base, marked, tagging}
use Rattle.lapin_pairs.proofs.Every.{of_more, of_away}
use Rattle.lapin_concord.proofs.Noting.{is_select, has_select, NotedAt, IsNotedIn, AreNoted, noted_beside, noted_begun}
use Rattle.lapin_tables.proofs.Bools.{or_true}
use Rattle.lapin_rules.proofs.ListLaws.{or_false}

-- one channel with these marks
abbrev pub Noted : S3 → ℕ → List ConfirmMark → List U2 → Type 0
Noted s c ms us = IsNotedIn s.base.sess s c ms us

-- ---- what waits

pub same_select : (p : Sess) (s : S3) (c : ℕ) (ms : List ConfirmMark) (us vs : List U2) → has_select vs ≡ has_select us → IsNotedIn p s c ms us → IsNotedIn p s c ms vs
same_select Closed s c ms us vs e h = e ∙ h
same_select Crossed s c ms us vs e h = e ∙ h
same_select Refused s c ms us vs e h = tt
same_select _ s c ms us vs e h = record { begun = h.begun; chosen = h.chosen ∙ ap (λ b. is_selected c ms || b) (sym e); count = h.count; pending = h.pending }

pub more_select : (us vs : List U2) → has_select vs ≡ false → has_select (us ++ vs) ≡ has_select us
more_select us vs h = list_any-append is_select us vs ∙ (ap (λ b. has_select us || b) h ∙ or_false (has_select us))

-- ---- one channel changes, and no other

pub at_put : (c e : ℕ) (s : S3) (f : ℕ → S3) → (c == e) ≡ true → put c s f e ≡ s
at_put c e s f h = ap (λ b. cond b s (f e)) h

off_put : (c e : ℕ) (s : S3) (f : ℕ → S3) → (c == e) ≡ false → put c s f e ≡ f e
off_put c e s f h = ap (λ b. cond b s (f e)) h

-- the tags of channel c and what waits there become these; the others keep theirs and theirs
pub noted_put : (c : ℕ) (s : S3) (f : ℕ → S3) (ms ks : List ConfirmMark) (us ws : List (UpOn U2)) → Noted s c ks (of_u c ws) → ((e : ℕ) → (c == e) ≡ false → of_u e ws ≡ of_u e us) → ((e : ℕ) → (c == e) ≡ false → Noted (f e) e ms (of_u e us) → Noted (f e) e ks (of_u e us)) → ((e : ℕ) → Noted (f e) e ms (of_u e us)) → (e : ℕ) → Noted (put c s f e) e ks (of_u e ws)
noted_put c s f ms ks us ws here away beside h e = elim (eqb_tells c e) [
  | inl y ↦ subst (λ x. Noted x e ks (of_u e ws)) (sym (at_put c e s f y.0)) (subst (λ k. Noted s k ks (of_u k ws)) y.1 here)
  | inr n ↦ subst₂ (λ x us. Noted x e ks us) (sym (off_put c e s f n.0)) (sym (away e n.0)) (beside e n.0 (h e))
]

-- what a call queues
noted_queued : (t : All tagging) (c : ℕ) (s : S3) (us : List U2) (ms : List ConfirmMark) → Noted s c ms (of_u c t.unsent ++ us) → AreNoted t ms → AreNoted (record t { chans = put c s t.chans; unsent = t.unsent ++ on_all c us }) ms
noted_queued t c s us ms here h = noted_put c s t.chans ms ms t.unsent (t.unsent ++ on_all c us) (subst (λ xs. Noted s c ms xs) (sym (of_more c us t.unsent)) here) (λ e n. of_away c e us t.unsent n) (λ e n x. x) h

-- ---- calls but for those that begin an opening or a publish

abbrev pub is_calm : K2 → Bool
is_calm KOpen = false
is_calm (KBegin i ns) = false
is_calm _ = true

opened_at : (t : All tagging) (c : ℕ) (ms : List ConfirmMark) → (t.chans c).base.sess ≡ Opened → AreNoted t ms → NotedAt (t.chans c) c ms (of_u c t.unsent)
opened_at t c ms e h = subst (λ p. IsNotedIn p (t.chans c) c ms (of_u c t.unsent)) e (h c)

-- a frame that is no select
plainly : (t : All tagging) (c : ℕ) (s : S3) (u : U2) (ms : List ConfirmMark) → is_select u ≡ false → s.selected ≡ (t.chans c).selected → s.tagged ≡ (t.chans c).tagged → s.received ≡ (t.chans c).received → NotedAt (t.chans c) c ms (of_u c t.unsent) → NotedAt s c ms (of_u c t.unsent ++ u ∷ [])
plainly t c s u ms n a b r h = record {
  begun = h.begun;
  chosen = a ∙ (h.chosen ∙ ap (λ x. is_selected c ms || x) (sym (more_select (of_u c t.unsent) (u ∷ []) (ap (λ x. x || false) n))));
  count = ap length b ∙ h.count;
  pending = λ i p. h.pending i (sym (ap₂ (λ xs ys. nat_lt 0 i && nat_le i (length xs) && not (list_any (covers i) ys)) b r) ∙ p);
}

selects_at : (t : All tagging) (c : ℕ) (s : S3) (u : U2) (ms : List ConfirmMark) → is_select u ≡ true → s.selected ≡ true → s.tagged ≡ (t.chans c).tagged → s.received ≡ (t.chans c).received → NotedAt (t.chans c) c ms (of_u c t.unsent) → NotedAt s c ms (of_u c t.unsent ++ u ∷ [])
selects_at t c s u ms n a b r h = record {
  begun = h.begun;
  chosen = a ∙ sym (ap (λ x. is_selected c ms || x) (list_any-append is_select (of_u c t.unsent) (u ∷ []) ∙ (ap (λ x. has_select (of_u c t.unsent) || (x || false)) n ∙ or_true (has_select (of_u c t.unsent)))) ∙ or_true (is_selected c ms));
  count = ap length b ∙ h.count;
  pending = λ i p. h.pending i (sym (ap₂ (λ xs ys. nat_lt 0 i && nat_le i (length xs) && not (list_any (covers i) ys)) b r) ∙ p);
}

call_noted : (t : All tagging) (ms : List ConfirmMark) (c : ℕ) (k : K2) (p : Sess) → (t.chans c).base.sess ≡ p → is_calm k ≡ true → AreNoted t ms → AreNoted (called_a tagging t c (on_base (marked k (t.chans c)) (call_at k (t.chans c).base p))) ms
call_noted t ms c KOpen p e o h = cc
call_noted t ms c (KBegin i ns) p e o h = cc
call_noted t ms c KClose Opened e o h = noted_queued t c _ (Plain FClose ∷ []) ms (plainly t c _ (Plain FClose) ms refl refl refl refl (opened_at t c ms e h)) h
call_noted t ms c KTell Opened e o h = noted_queued t c _ (Plain FTell ∷ []) ms (plainly t c _ (Plain FTell) ms refl refl refl refl (opened_at t c ms e h)) h
call_noted t ms c (KAsk k) Opened e o h = noted_queued t c _ (Plain (FAsk k) ∷ []) ms (plainly t c _ (Plain (FAsk k)) ms refl refl refl refl (opened_at t c ms e h)) h
call_noted t ms c (KSelect false) Opened e o h = noted_queued t c _ (Plain FSelect ∷ []) ms (selects_at t c _ (Plain FSelect) ms refl refl refl refl (opened_at t c ms e h)) h
call_noted t ms c (KSelect true) Opened e o h = noted_queued t c _ (SelectAsk ∷ []) ms (selects_at t c _ SelectAsk ms refl refl refl refl (opened_at t c ms e h)) h
call_noted t ms c KClose _ e o h = h
call_noted t ms c KTell _ e o h = h
call_noted t ms c (KAsk k) _ e o h = h
call_noted t ms c (KSelect false) _ e o h = h
call_noted t ms c (KSelect true) _ e o h = h

pub calls_noted : (t : All tagging) (ms : List ConfirmMark) (c : ℕ) (k : K2) (l : Sess) (b : Bool) → is_calm k ≡ true → AreNoted t ms → AreNoted (calls_a tagging t l c k b) ms
calls_noted t ms c k Opened false o h = call_noted t ms c k (t.chans c).base.sess refl o h
calls_noted t ms c k Opened true o h = h
calls_noted t ms c k _ b o h = h

-- ---- an opening begins

pub open_noted : (t : All tagging) (ms : List ConfirmMark) (c : ℕ) → t.conn ≡ Opened → (t.chans c).base.sess ≡ Closed → AreNoted t ms → AreNoted (happens_a tagging t (CallA c KOpen)) (ms ++ mark.Begun c ∷ [])
open_noted t ms c o e h = subst (λ l. AreNoted (calls_a tagging t l c KOpen false) (ms ++ mark.Begun c ∷ [])) (sym o) (subst (λ p. AreNoted (called_a tagging t c (on_base (marked KOpen (t.chans c)) (call_at KOpen (t.chans c).base p))) (ms ++ mark.Begun c ∷ [])) (sym e) opened_)
  where
    none : has_select (of_u c t.unsent) ≡ false
    none = subst (λ p. IsNotedIn p (t.chans c) c ms (of_u c t.unsent)) e (h c)

    s : S3
    s = record (t.chans c) { base = record (t.chans c).base { sess = Opening }; selected = false; tagged = []; received = [] }

    opened_ : (d : ℕ) → Noted (put c s t.chans d) d (ms ++ mark.Begun c ∷ []) (of_u d (t.unsent ++ on_all c (Plain FOpen ∷ [])))
    opened_ = noted_put c s t.chans ms (ms ++ mark.Begun c ∷ []) t.unsent (t.unsent ++ on_all c (Plain FOpen ∷ []))
        (noted_begun s c ms _ refl refl (ap has_select (of_more c (Plain FOpen ∷ []) t.unsent) ∙ (more_select (of_u c t.unsent) (Plain FOpen ∷ []) refl ∙ none)))
        (λ d n. of_away c d (Plain FOpen ∷ []) t.unsent n)
        (λ d n x. noted_beside (t.chans d).base.sess (t.chans d) d ms (of_u d t.unsent) (mark.Begun c) n x) h
