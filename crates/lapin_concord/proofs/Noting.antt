-- What the tags of the pair's session are to the marks of a history, and what one more mark leaves of it.
use Rattle.std.proofs.Common.{◌≡◌, ℕ, ◌+◌, ◌<◌, ◌≤◌, Bool, true, false, cond, not, ◌==◌, ◌&&◌, ◌||◌, nat_lt, nat_le, List, [], ◌∷◌, ◌++◌, length, length-append, refl, sym, ◌∙◌, ap, ap₂, subst, Option, Some, None, eq-eqb, arith}
use Rattle.std.specs.List.{list_any}
use Rattle.std.proofs.lemmas.Bool.{leb-true, leb-false, le-leb, ltb-true}
use Rattle.std.proofs.lemmas.List.Folds.{list_any-append}
use Rattle.lapin_types.specs.declared.outcome.Outcome.{Outcome}
use Rattle.lapin_rules.specs.declared.marks.Settlement.{Settlement}
use Rattle.lapin_rules.specs.ConfirmMarks.{ConfirmMark}
use Rattle.lapin_rules.specs.ConfirmMarks as mark
use Rattle.lapin_rules.specs.ConfirmReadings.{begins, selects, leaves, leaves_on, is_begun, is_selected, place, has_left, channel_of, tag_of, outcome_at, outcome_after, first_rejected, life, covers}
use Rattle.lapin_rules.specs.Words.{after}
use Rattle.lapin_rules.proofs.ListLaws.{after-push, since-push, or_false}
use Rattle.lapin_confirm.specs.Follows.{WasAdded, MayCome, Resolves}
use Rattle.lapin_confirm.proofs.Facts.{added_still}
use Rattle.lapin_confirm.proofs.ConfirmModeFollowing.{selected-push}
use Rattle.lapin_confirm.proofs.CellFollowing.{left-push, queued_facts}
use Rattle.lapin_confirm.proofs.Tags.{place-next, place-first, place-still, tag-taken, tag-kept, resolved-by}
use Rattle.lapin_pairs.specs.Machine.{Sess, Closed, Crossed, Refused}
use Rattle.lapin_pairs.specs.Channel.{FSelect}
use Rattle.lapin_pairs.specs.Every.{of_u, All}
use Rattle.lapin_pairs.specs.Asking.{U2, Plain, SelectAsk}
use Rattle.lapin_pairs.specs.Tags.{covers as pair_covers}
use Rattle.lapin_pairs.specs.Tagging.{S3, tagging}
use Rattle.lapin_concord.proofs.Tags.{channel_stays}
use Rattle.lapin_concord.proofs.Settling.{pends}
use Rattle.lapin_tables.proofs.Bools.{or_true, and_false}

-- a frame of `confirm.select`
abbrev pub is_select : U2 → Bool
is_select SelectAsk = true
is_select (Plain FSelect) = true
is_select _ = false

-- one waits
abbrev pub has_select : List U2 → Bool
has_select us = list_any is_select us

-- a publish that left on channel c with tag n has no outcome yet
pub record Pends (c n : ℕ) (ms : List ConfirmMark) : Type 0 where
  pub publish : ℕ
  pub added : WasAdded publish ms
  pub left : has_left publish ms ≡ true
  pub channel : channel_of publish ms ≡ c
  pub tag : tag_of publish ms ≡ Some n
  pub outcome : outcome_at publish ms ≡ None

-- One live channel. The pair has a select from its call on, the history from its leaving on: between these it waits. Both count the same
-- tags, and what is pending by the pair is pending by the history.
pub record NotedAt (s : S3) (c : ℕ) (ms : List ConfirmMark) (us : List U2) : Type 0 where
  pub begun : is_begun c ms ≡ true
  pub chosen : s.selected ≡ (is_selected c ms || has_select us)
  pub count : length s.tagged ≡ place c ms
  pub pending : (n : ℕ) → pends s n ≡ true → Pends c n ms

-- on a channel that isn't live no select waits
abbrev pub IsNotedIn : Sess → S3 → ℕ → List ConfirmMark → List U2 → Type 0
IsNotedIn Closed s c ms us = has_select us ≡ false
IsNotedIn Crossed s c ms us = has_select us ≡ false
IsNotedIn Refused s c ms us = Unit {0}
IsNotedIn _ s c ms us = NotedAt s c ms us

-- so on every channel
abbrev pub AreNoted : All tagging → List ConfirmMark → Type 0
AreNoted t ms = (c : ℕ) → IsNotedIn (t.chans c).base.sess (t.chans c) c ms (of_u c t.unsent)

-- ---- one more mark

none_else : (o : Option Outcome) → ((x : Outcome) → o ≡ Some x → ⊥) → o ≡ None
none_else None h = refl
none_else (Some x) h = absurd (h x refl)

pub begun-push : (c : ℕ) (ms : List ConfirmMark) (m : ConfirmMark) → is_begun c ms ≡ true → is_begun c (ms ++ m ∷ []) ≡ true
begun-push c ms m h = list_any-append (begins c) ms (m ∷ []) ∙ ap (λ b. b || list_any (begins c) (m ∷ [])) h

pends-push : (c n : ℕ) (ms : List ConfirmMark) (m : ConfirmMark) → ((o : Outcome) → Resolves c n o m → ⊥) → Pends c n ms → Pends c n (ms ++ m ∷ [])
pends-push c n ms m r p = record {
  publish = p.publish;
  added = added_still p.publish ms m p.added;
  left = left-push p.publish ms m ∙ ap (λ b. b || leaves p.publish m) p.left;
  channel = channel_stays p.publish ms (m ∷ []) p.added ∙ p.channel;
  tag = tag-kept p.publish ms m p.added p.left ∙ p.tag;
  outcome = none_else (outcome_at p.publish (ms ++ m ∷ [])) (λ o e. r o (subst (λ k. Resolves k n o m) p.channel ((resolved-by p.publish n o ms m p.added p.left p.tag p.outcome).0 e)));
}

-- a mark that begins, selects and leaves nothing here, and resolves nothing that is pending
noted_by : (s : S3) (c : ℕ) (ms : List ConfirmMark) (us : List U2) (m : ConfirmMark) → begins c m ≡ false → selects c m ≡ false → leaves_on c m ≡ false → ((n : ℕ) (o : Outcome) → pends s n ≡ true → Resolves c n o m → ⊥) → NotedAt s c ms us → NotedAt s c (ms ++ m ∷ []) us
noted_by s c ms us m b k l r h = record {
  begun = begun-push c ms m h.begun;
  chosen = h.chosen ∙ ap (λ x. x || has_select us) (sym (selected-push c ms m b h.begun ∙ (ap (λ x. is_selected c ms || x) k ∙ or_false (is_selected c ms))));
  count = h.count ∙ sym (place-still c ms m b (ap (λ x. is_selected c ms && x) l ∙ and_false (is_selected c ms)));
  pending = λ n p. pends-push c n ms m (λ o. r n o p) (h.pending n p);
}

-- the mark says something of the tags of channel c
abbrev pub concerns : ℕ → ConfirmMark → Bool
concerns c (mark.Begun d) = d == c
concerns c (mark.SelectLeft d) = d == c
concerns c (mark.Left d k) = d == c
concerns c (mark.Settled d s) = d == c
concerns c (mark.Ended d e) = d == c
concerns c _ = false

begins_not : (c : ℕ) (m : ConfirmMark) → concerns c m ≡ false → begins c m ≡ false
begins_not c (mark.Begun d) h = h
begins_not c _ h = refl

selects_not : (c : ℕ) (m : ConfirmMark) → concerns c m ≡ false → selects c m ≡ false
selects_not c (mark.SelectLeft d) h = h
selects_not c _ h = refl

leaves_not : (c : ℕ) (m : ConfirmMark) → concerns c m ≡ false → leaves_on c m ≡ false
leaves_not c (mark.Left d k) h = h
leaves_not c _ h = refl

apart : (c d : ℕ) → c ≡ d → (d == c) ≡ false → ⊥
apart c d e h = let x : true ≡ false = sym (eq-eqb d c (sym e)) ∙ h in cc

resolves_not : (c n : ℕ) (o : Outcome) (m : ConfirmMark) → concerns c m ≡ false → Resolves c n o m → ⊥
resolves_not c n o (mark.Settled d s) h r = apart c d r.0 h
resolves_not c n o (mark.Ended d e) h r = apart c d r.0 h
resolves_not c n o _ h r = r

pub noted_beside : (p : Sess) (s : S3) (c : ℕ) (ms : List ConfirmMark) (us : List U2) (m : ConfirmMark) → concerns c m ≡ false → IsNotedIn p s c ms us → IsNotedIn p s c (ms ++ m ∷ []) us
noted_beside Closed s c ms us m k h = h
noted_beside Crossed s c ms us m k h = h
noted_beside Refused s c ms us m k h = h
noted_beside _ s c ms us m k h = noted_by s c ms us m (begins_not c m k) (selects_not c m k) (leaves_not c m k) (λ n o p. resolves_not c n o m k) h

-- a settlement that covers nothing which is pending by the pair
pub noted_settled : (p : Sess) (s : S3) (c : ℕ) (ms : List ConfirmMark) (us : List U2) (x : Settlement) → ((n : ℕ) → pends s n ≡ true → covers x n ≡ false) → IsNotedIn p s c ms us → IsNotedIn p s c (ms ++ mark.Settled c x ∷ []) us
noted_settled Closed s c ms us x k h = h
noted_settled Crossed s c ms us x k h = h
noted_settled Refused s c ms us x k h = h
noted_settled _ s c ms us x k h = noted_by s c ms us (mark.Settled c x) refl refl refl (λ n o p r. let y : true ≡ false = sym r.1 ∙ k n p in cc) h

-- a select leaves
pub noted_select : (p : Sess) (s : S3) (c : ℕ) (ms : List ConfirmMark) (us vs : List U2) → has_select us ≡ true → IsNotedIn p s c ms us → IsNotedIn p s c (ms ++ mark.SelectLeft c ∷ []) vs
noted_select Closed s c ms us vs k h = let y : true ≡ false = sym k ∙ h in cc
noted_select Crossed s c ms us vs k h = let y : true ≡ false = sym k ∙ h in cc
noted_select Refused s c ms us vs k h = tt
noted_select _ s c ms us vs k h = record {
  begun = begun-push c ms (mark.SelectLeft c) h.begun;
  chosen = h.chosen ∙ (ap (λ b. is_selected c ms || b) k ∙ (or_true (is_selected c ms) ∙ ap (λ b. b || has_select vs) (sym (selected-push c ms (mark.SelectLeft c) refl h.begun ∙ (ap (λ b. is_selected c ms || b) (eq-eqb c c refl) ∙ or_true (is_selected c ms))))));
  count = h.count ∙ sym (place-still c ms (mark.SelectLeft c) refl (and_false (is_selected c ms)));
  pending = λ n p. pends-push c n ms (mark.SelectLeft c) (λ o r. r) (h.pending n p);
}

-- ---- an opening begins

pub and_parts : (a b c : Bool) → (a && b && c) ≡ true → (a ≡ true) × (b ≡ true) × (c ≡ true)
and_parts true true true h = (refl, refl, refl)
and_parts true true false h = cc
and_parts true false c h = cc
and_parts false b c h = cc

pub and_all : (a b c : Bool) → a ≡ true → b ≡ true → c ≡ true → (a && b && c) ≡ true
and_all a b c x y z = rw (x, y, z) refl

none_pends : (s : S3) (n : ℕ) → s.tagged ≡ [] → pends s n ≡ true → ⊥
none_pends s n e p =
    let x = and_parts (nat_lt 0 n) (nat_le n (length s.tagged)) (not (list_any (pair_covers n) s.received)) p in
    let low : 0 < n = ltb-true 0 n x.0 in
    let high : n ≤ length s.tagged = leb-true n (length s.tagged) x.1 in
    let none : length s.tagged ≡ 0 = ap length e in
    omega (arith, low, high, none)

pub noted_begun : (s : S3) (c : ℕ) (ms : List ConfirmMark) (us : List U2) → s.selected ≡ false → s.tagged ≡ [] → has_select us ≡ false → NotedAt s c (ms ++ mark.Begun c ∷ []) us
noted_begun s c ms us a b k = record {
  begun = list_any-append (begins c) ms (mark.Begun c ∷ []) ∙ (ap (λ x. list_any (begins c) ms || (x || false)) (eq-eqb c c refl) ∙ or_true (list_any (begins c) ms));
  chosen = a ∙ sym (rw (since-push (begins c) ms (mark.Begun c), eq-eqb c c refl) k);
  count = ap length b ∙ sym (place-first c ms);
  pending = λ n p. absurd (none_pends s n b p);
}

-- ---- a publish leaves

none_later : (k : ℕ) (ms : List ConfirmMark) (m : ConfirmMark) → has_left k ms ≡ false → after (leaves k) (ms ++ m ∷ []) ≡ []
none_later k ms m h = after-push (leaves k) ms m ∙ ap (λ b. cond b (after (leaves k) ms ++ m ∷ []) []) h

-- it is pending with the next tag
newly_pends : (c k : ℕ) (ms : List ConfirmMark) → MayCome ms (mark.Left c k) → is_selected c ms ≡ true → Pends c (place c ms + 1) (ms ++ mark.Left c k ∷ [])
newly_pends c k ms may e =
    let m : ConfirmMark = mark.Left c k in
    let q = queued_facts c k ms may.1 in
    let left_ : has_left k (ms ++ m ∷ []) ≡ true = left-push k ms m ∙ (ap (λ b. has_left k ms || b) (eq-eqb k k refl) ∙ or_true (has_left k ms)) in
    let tag_ : tag_of k (ms ++ m ∷ []) ≡ Some (place c ms + 1) = tag-taken c k ms may e in
    record {
      publish = k;
      added = added_still k ms m may.0;
      left = left_;
      channel = channel_stays k ms (m ∷ []) may.0 ∙ q.channel;
      tag = tag_;
      outcome = ap (λ b. cond b (outcome_after (channel_of k (ms ++ m ∷ [])) (tag_of k (ms ++ m ∷ [])) (after (leaves k) (ms ++ m ∷ []))) (first_rejected (channel_of k (ms ++ m ∷ [])) (life k (ms ++ m ∷ [])))) left_
          ∙ ap₂ (λ t later. outcome_after (channel_of k (ms ++ m ∷ [])) t later) tag_ (none_later k ms m q.waits);
    }

pub noted_left : (s v : S3) (c k : ℕ) (ms : List ConfirmMark) (us vs : List U2) → MayCome ms (mark.Left c k) → v.selected ≡ s.selected → v.received ≡ s.received → v.tagged ≡ cond s.selected (s.tagged ++ 0 ∷ []) s.tagged → has_select us ≡ false → has_select vs ≡ false → NotedAt s c ms us → NotedAt v c (ms ++ mark.Left c k ∷ []) vs
noted_left s v c k ms us vs may a r g x y h = by_selected (is_selected c ms) refl
  where
    m : ConfirmMark
    m = mark.Left c k

    chosen_ : s.selected ≡ is_selected c ms
    chosen_ = h.chosen ∙ (ap (λ b. is_selected c ms || b) x ∙ or_false (is_selected c ms))

    here : v.selected ≡ (is_selected c (ms ++ mark.Left c k ∷ []) || has_select vs)
    here = a ∙ (chosen_ ∙ (sym (selected-push c ms (mark.Left c k) refl h.begun ∙ or_false (is_selected c ms)) ∙ sym (ap (λ b. is_selected c (ms ++ mark.Left c k ∷ []) || b) y ∙ or_false (is_selected c (ms ++ mark.Left c k ∷ [])))))

    -- what was pending with a tag that was there before
    older : (n : ℕ) → n ≤ length s.tagged → pends v n ≡ true → Pends c n (ms ++ mark.Left c k ∷ [])
    older n le p =
        let q = and_parts (nat_lt 0 n) (nat_le n (length v.tagged)) (not (list_any (pair_covers n) v.received)) p in
        let f : not (list_any (pair_covers n) s.received) ≡ true = ap (λ xs. not (list_any (pair_covers n) xs)) (sym r) ∙ q.2 in
        pends-push c n ms (mark.Left c k) (λ o z. z) (h.pending n (and_all (nat_lt 0 n) (nat_le n (length s.tagged)) (not (list_any (pair_covers n) s.received)) q.0 (le-leb n (length s.tagged) le) f))

    by_selected : (b : Bool) → is_selected c ms ≡ b → NotedAt v c (ms ++ mark.Left c k ∷ []) vs
    by_selected true e =
        let t : v.tagged ≡ s.tagged ++ 0 ∷ [] = g ∙ ap (λ z. cond z (s.tagged ++ 0 ∷ []) s.tagged) (chosen_ ∙ e) in
        let size : length (s.tagged ++ 0 ∷ []) ≡ length s.tagged + 1 = length-append s.tagged (0 ∷ []) in
        let long : length v.tagged ≡ length s.tagged + 1 = ap length t ∙ size in
        let was : length s.tagged ≡ place c ms = h.count in
        record {
          begun = begun-push c ms (mark.Left c k) h.begun;
          chosen = here;
          count = long ∙ (ap (λ i. i + 1) h.count ∙ sym (place-next c k ms e));
          pending = λ n p.
              let q = and_parts (nat_lt 0 n) (nat_le n (length v.tagged)) (not (list_any (pair_covers n) v.received)) p in
              let top : n ≤ length v.tagged = leb-true n (length v.tagged) q.1 in
              elim (nat_le n (length s.tagged)) as (λ z. nat_le n (length s.tagged) ≡ z → Pends c n (ms ++ mark.Left c k ∷ [])) [
                | true ↦ λ z. older n (leb-true n (length s.tagged) z) p
                | false ↦ λ z.
                    let over : length s.tagged < n = leb-false n (length s.tagged) z in
                    let is : n ≡ place c ms + 1 = omega (arith, over, top, long, was) in
                    subst (λ i. Pends c i (ms ++ mark.Left c k ∷ [])) (sym is) (newly_pends c k ms may e)
              ] refl;
        }
    by_selected false e =
        let t : v.tagged ≡ s.tagged = g ∙ ap (λ z. cond z (s.tagged ++ 0 ∷ []) s.tagged) (chosen_ ∙ e) in
        record {
          begun = begun-push c ms (mark.Left c k) h.begun;
          chosen = here;
          count = ap length t ∙ (h.count ∙ sym (place-still c ms (mark.Left c k) refl (ap (λ b. b && leaves_on c (mark.Left c k)) e)));
          pending = λ n p. older n (subst (λ xs. n ≤ length xs) t (leb-true n (length v.tagged) (and_parts (nat_lt 0 n) (nat_le n (length v.tagged)) (not (list_any (pair_covers n) v.received)) p).1)) p;
        }
