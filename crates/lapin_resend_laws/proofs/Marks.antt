-- Marks in which each publish of channel 1 leaves after its opening was selected: none of their confirms is not requested.
use Rattle.std.proofs.Common.{◌≡◌, ◌∙◌, ℕ, zero, suc, ◌+◌, ◌<◌, ◌==◌, Bool, true, false, true≢false, ◌&&◌, ◌||◌, cond, List, [], ◌∷◌, ◌++◌, Option, Some, None, refl, sym, ap, subst, append_assoc, append-nil, arith}
use Rattle.std.specs.Prelude.{nat_lt, nat_le}
use Rattle.std.specs.List.{list_any, AllByRecursion}
use Rattle.std.specs.Option.{option_or}
use Rattle.std.proofs.lemmas.Bool.Decides.{nat_tests}
use Rattle.lapin_rules.specs.declared.marks.SettleKind.{SettleKind}
use Rattle.lapin_rules.specs.declared.marks.SettleKind.TheVariants as kind
use Rattle.lapin_rules.specs.declared.marks.Settlement.{Settlement}
use Rattle.lapin_types.specs.declared.outcome.Outcome.{Outcome}
use Rattle.lapin_types.specs.declared.outcome.Outcome.TheVariants as outcome
use Rattle.lapin_rules.specs.ConfirmMarks.{ConfirmMark}
use Rattle.lapin_rules.specs.ConfirmMarks as mark
use Rattle.lapin_rules.specs.ConfirmReadings.{begins, adds, selects, leaves, is_begun, is_selected, place, channel_in, channel_of, added, was_added, has_left, tag_of, tag_on, covers, kind_outcome, outcome_of, first_settled, first_rejected, outcome_at, outcome_after, life}
use Rattle.lapin_rules.specs.Words.{since, through, after, many, one_after}
use Rattle.lapin_rules.proofs.ListLaws.{since-push, since_none, any-push}
use Rattle.lapin_effects.specs.Effects.{grows}
use Rattle.std.proofs.lemmas.Bool.{or_parts}

-- ---- selected

-- a mark that begins no opening
pub begun-push : (ms : List ConfirmMark) (m : ConfirmMark) → is_begun 1 ms ≡ true → is_begun 1 (ms ++ m ∷ []) ≡ true
begun-push ms m h = any-push (begins 1) ms m ∙ rw h refl

pub selected_begun : (ms : List ConfirmMark) → is_selected 1 ms ≡ true → is_begun 1 ms ≡ true
selected_begun ms h = at (is_begun 1 ms) refl
  where
    at : (b : Bool) → is_begun 1 ms ≡ b → b ≡ true
    at true is = refl
    at false is = absurd (true≢false (sym h ∙ ap (list_any (selects 1)) (since_none (begins 1) ms is)))

pub selected-push : (ms : List ConfirmMark) (m : ConfirmMark) → begins 1 m ≡ false → is_begun 1 ms ≡ true → is_selected 1 (ms ++ m ∷ []) ≡ (is_selected 1 ms || selects 1 m)
selected-push ms m quiet begun =
    ap (list_any (selects 1)) (since-push (begins 1) ms m ∙ ap (λ (b : Bool). cond b [] (cond (list_any (begins 1) ms) (since (begins 1) ms ++ m ∷ []) [])) quiet ∙ ap (λ (b : Bool). cond b (since (begins 1) ms ++ m ∷ []) []) begun)
    ∙ any-push (selects 1) (since (begins 1) ms) m

-- what is selected stays so
pub selected_stays : (ms : List ConfirmMark) (m : ConfirmMark) → begins 1 m ≡ false → is_selected 1 ms ≡ true → is_selected 1 (ms ++ m ∷ []) ≡ true
selected_stays ms m quiet h = selected-push ms m quiet (selected_begun ms h) ∙ rw h refl

-- ---- what is kept of marks

-- a publish leaves where the marks before it have its opening selected
abbrev pub IsRight : List ConfirmMark → ConfirmMark → Type 0
IsRight seen (mark.Left d k) = is_selected 1 seen ≡ true
IsRight seen _ = Unit {0}

abbrev pub AreRight : List ConfirmMark → List ConfirmMark → Type 0
AreRight seen [] = Unit {0}
AreRight seen (m ∷ ms) = IsRight seen m × AreRight (seen ++ m ∷ []) ms

-- a publish is accepted on channel 1
abbrev pub IsOnOne : ConfirmMark → Type 0
IsOnOne (mark.Added d) = d ≡ 1
IsOnOne _ = Unit {0}

pub record Requested (ms : List ConfirmMark) : Type 0 where
  pub on : AllByRecursion IsOnOne ms
  pub right : AreRight [] ms

right-push : (seen ms : List ConfirmMark) (m : ConfirmMark) → AreRight seen ms → IsRight (seen ++ ms) m → AreRight seen (ms ++ m ∷ [])
right-push seen [] m h one = (subst (λ (xs : List ConfirmMark). IsRight xs m) (append-nil seen) one, tt)
right-push seen (x ∷ xs) m h one = (h.0, right-push (seen ++ x ∷ []) xs m h.1 (subst (λ (ys : List ConfirmMark). IsRight ys m) (sym (append_assoc seen (x ∷ []) xs)) one))

on-push : (ms : List ConfirmMark) (m : ConfirmMark) → AllByRecursion IsOnOne ms → IsOnOne m → AllByRecursion IsOnOne (ms ++ m ∷ [])
on-push [] m h one = (one, tt)
on-push (x ∷ xs) m h one = (h.0, on-push xs m h.1 one)

pub requested-push : (ms : List ConfirmMark) (m : ConfirmMark) → IsOnOne m → IsRight ms m → Requested ms → Requested (ms ++ m ∷ [])
requested-push ms m on right h = record { on = on-push ms m h.on on; right = right-push [] ms m h.right right }

-- ---- marks that begin nothing, add nothing, and are of no frame that leaves

quiet_right : (seen : List ConfirmMark) (m : ConfirmMark) → grows m ≡ false → IsRight seen m
quiet_right seen (mark.Left d k) h = absurd (true≢false h)
quiet_right seen _ h = tt

quiet_on : (m : ConfirmMark) → grows m ≡ false → IsOnOne m
quiet_on (mark.Added d) h = absurd (true≢false h)
quiet_on _ h = tt

quiet_begins : (m : ConfirmMark) → grows m ≡ false → begins 1 m ≡ false
quiet_begins (mark.Begun d) h = absurd (true≢false h)
quiet_begins _ h = refl

-- what such marks leave of it
pub record Still (ms more : List ConfirmMark) : Type 0 where
  pub requested : Requested ms → Requested (ms ++ more)
  pub begun : is_begun 1 ms ≡ true → is_begun 1 (ms ++ more) ≡ true
  pub selected : is_selected 1 ms ≡ true → is_selected 1 (ms ++ more) ≡ true

pub quiet_still : (more ms : List ConfirmMark) → list_any grows more ≡ false → Still ms more
quiet_still [] ms h = record {
  requested = λ r. subst Requested (sym (append-nil ms)) r;
  begun = λ b. ap (is_begun 1) (append-nil ms) ∙ b;
  selected = λ s. ap (is_selected 1) (append-nil ms) ∙ s;
}
quiet_still (m ∷ more) ms h =
    let both = or_parts (grows m) (list_any grows more) h in
    let rest = quiet_still more (ms ++ m ∷ []) both.1 in
    let same : (ms ++ m ∷ []) ++ more ≡ ms ++ m ∷ more = append_assoc ms (m ∷ []) more in
    record {
      requested = λ r. subst Requested same (rest.requested (requested-push ms m (quiet_on m both.0) (quiet_right ms m both.0) r));
      begun = λ b. ap (is_begun 1) (sym same) ∙ rest.begun (begun-push ms m b);
      selected = λ s. ap (is_selected 1) (sym same) ∙ rest.selected (selected_stays ms m (quiet_begins m both.0) s);
    }

-- what one mark leaves of it that begins no opening of channel 1
pub one_still : (ms : List ConfirmMark) (m : ConfirmMark) → begins 1 m ≡ false → IsOnOne m → IsRight ms m → Still ms (m ∷ [])
one_still ms m quiet on right = record { requested = requested-push ms m on right; begun = begun-push ms m; selected = selected_stays ms m quiet }

-- ---- no confirm is not requested

-- the marks up to the one by which a publish left have its opening selected
through_selected : (k : ℕ) (seen ms : List ConfirmMark) → AreRight seen ms → list_any (leaves k) ms ≡ true → is_selected 1 (seen ++ through (leaves k) ms) ≡ true
through_selected k seen [] h left = absurd (true≢false (sym left))
through_selected k seen (m ∷ ms) h left = at (leaves k m) refl (λ later. through_selected k (seen ++ m ∷ []) ms h.1 later)
  where
    first : (m : ConfirmMark) → leaves k m ≡ true → IsRight seen m → is_selected 1 (seen ++ m ∷ []) ≡ true
    first (mark.Left d j) is right = selected_stays seen (mark.Left d j) refl right
    first _ is right = absurd (true≢false (sym is))

    at : (b : Bool) → leaves k m ≡ b → (list_any (leaves k) ms ≡ true → is_selected 1 ((seen ++ m ∷ []) ++ through (leaves k) ms) ≡ true) → is_selected 1 (seen ++ through (leaves k) (m ∷ ms)) ≡ true
    at true is rest = rw is (first m is h.0)
    at false is rest =
        let later : list_any (leaves k) ms ≡ true = rw is at left in
        rw is (ap (is_selected 1) (sym (append_assoc seen (m ∷ []) (through (leaves k) ms))) ∙ rest later)

-- the n-th publish was accepted on channel 1
on_one : (n : ℕ) (ms : List ConfirmMark) → AllByRecursion IsOnOne ms → n < many adds ms → channel_in (one_after adds n ms) ≡ 1
on_one n [] h few = absurd (omega arith)
on_one zero (m ∷ ms) h few = at (adds m) refl (on_one 0 ms h.1)
  where
    one : (x : ConfirmMark) → adds x ≡ true → IsOnOne x → channel_in (Some x) ≡ 1
    one (mark.Added d) a on = on
    one _ a on = absurd (true≢false (sym a))

    at : (b : Bool) → adds m ≡ b → (0 < many adds ms → channel_in (one_after adds 0 ms) ≡ 1) → channel_in (one_after adds 0 (m ∷ ms)) ≡ 1
    at true a rest = rw a (one m a h.0)
    at false a rest = let fewer : 0 < many adds ms = rw a at few in rw a (rest fewer)
on_one (suc k) (m ∷ ms) h few = at (adds m) refl (on_one k ms h.1) (on_one (suc k) ms h.1)
  where
    at : (b : Bool) → adds m ≡ b → (k < many adds ms → channel_in (one_after adds k ms) ≡ 1) → (suc k < many adds ms → channel_in (one_after adds (suc k) ms) ≡ 1) → channel_in (one_after adds (suc k) (m ∷ ms)) ≡ 1
    at true a less more = let fewer : suc k < many adds ms + 1 = rw a at few in rw a (less (omega arith))
    at false a less more = let fewer : suc k < many adds ms = rw a at few in rw a (more fewer)

added_few : (k : ℕ) (ms : List ConfirmMark) → was_added (suc k) ms ≡ true → k < many adds ms
added_few k ms h = few k (many adds ms) h
  where
    few : (k n : ℕ) → (nat_lt 0 (suc k) && nat_le (suc k) n) ≡ true → k < n
    few k n h = grind (arith, nat_tests)

pub on_channel : (k : ℕ) (ms : List ConfirmMark) → AllByRecursion IsOnOne ms → was_added k ms ≡ true → channel_of k ms ≡ 1
on_channel zero ms h added = absurd (true≢false (sym added))
on_channel (suc k) ms h added = on_one k ms h (added_few k ms added)

-- an outcome that isn't that
abbrev IsOther : Option Outcome → Type 0
IsOther o = o ≡ Some outcome.NotRequested → ⊥

kind_other : (k : SettleKind) → IsOther (Some (kind_outcome k))
kind_other kind.Ack h = cc
kind_other kind.Nack h = cc

settled_other : (b : Bool) (s : Settlement) (o : Option Outcome) → IsOther o → IsOther (option_or (cond b (Some (outcome_of s)) None) o)
settled_other true s o h = kind_other s.kind
settled_other false s o h = h

failed_other : (b : Bool) (x : Outcome) (o : Option Outcome) → IsOther (Some x) → IsOther o → IsOther (option_or (cond b (Some x) None) o)
failed_other true x o one h = one
failed_other false x o one h = h

first_other : (c t : ℕ) (ms : List ConfirmMark) → IsOther (first_settled c t ms)
first_other c t [] = λ h. cc
first_other c t (mark.Settled d s ∷ ms) = settled_other (c == d && covers s t) s (first_settled c t ms) (first_other c t ms)
first_other c t (mark.Ended d e ∷ ms) = failed_other (c == d) (outcome.Failed e) (first_settled c t ms) (λ h. cc) (first_other c t ms)
first_other c t (_ ∷ ms) = first_other c t ms

rejected_other : (c : ℕ) (ms : List ConfirmMark) → IsOther (first_rejected c ms)
rejected_other c [] = λ h. cc
rejected_other c (mark.ClosedHere d e ∷ ms) = failed_other (c == d) (outcome.Failed e) (first_rejected c ms) (λ h. cc) (rejected_other c ms)
rejected_other c (mark.Ended d e ∷ ms) = failed_other (c == d) (outcome.Failed e) (first_rejected c ms) (λ h. cc) (rejected_other c ms)
rejected_other c (_ ∷ ms) = rejected_other c ms

pub none_not_requested : (ms : List ConfirmMark) → Requested ms → (k : ℕ) → was_added k ms ≡ true → outcome_at k ms ≡ Some outcome.NotRequested → ⊥
none_not_requested ms h k added = at (has_left k ms) refl
  where
    at : (b : Bool) → has_left k ms ≡ b → IsOther (cond b (outcome_after (channel_of k ms) (tag_of k ms) (after (leaves k) ms)) (first_rejected (channel_of k ms) (life k ms)))
    at true left =
        let chosen : is_selected 1 (through (leaves k) ms) ≡ true = through_selected k [] ms h.right left in
        let tag : tag_of k ms ≡ Some (place 1 (through (leaves k) ms)) = ap (λ (c : ℕ). tag_on c (through (leaves k) ms)) (on_channel k ms h.on added) ∙ ap (λ (b : Bool). cond b (Some (place 1 (through (leaves k) ms))) None) chosen in
        subst (λ (o : Option ℕ). IsOther (outcome_after (channel_of k ms) o (after (leaves k) ms))) (sym tag) (first_other (channel_of k ms) (place 1 (through (leaves k) ms)) (after (leaves k) ms))
    at false left = rejected_other (channel_of k ms) (life k ms)
