-- Tags count up in order of leaving, and a confirm is resolved by what covers its tag.
use Rattle.std.proofs.Common.{◌≡◌, ℕ, zero, suc, ◌+◌, ◌<◌, ◌≤◌, ◌==◌, Bool, true, false, cond, ◌&&◌, List, [], ◌∷◌, ◌++◌, Some, None, refl, sym, ◌∙◌, ap, arith, inl, inr, eq-eqb, eqb-true}
use Rattle.std.specs.Prelude.{◌↔◌}
use Rattle.std.specs.List.{list_any}
use Rattle.std.proofs.lemmas.Bool.Decides.{eqb_tells}
use Rattle.lapin_types.specs.declared.outcome.Outcome.{Outcome}
use Rattle.lapin_types.specs.declared.outcome.Outcome.TheVariants as outcome
use Rattle.lapin_rules.specs.ConfirmMarks.{ConfirmMark}
use Rattle.lapin_rules.specs.ConfirmMarks as mark
use Rattle.lapin_rules.specs.Words.{after}
use Rattle.lapin_rules.specs.ConfirmReadings.{begins, selects, leaves, leaves_on, is_begun, is_selected, place, has_left, channel_of, tag_of, added, covers, outcome_of, outcome_at, outcome_after, first_settled, settlement_on}
use Rattle.lapin_rules.proofs.ListLaws.{after-push, through-push, since-push, since_none}
use Rattle.lapin_rules.proofs.ConfirmLaws.{settled-push, accepted-push}
use Rattle.lapin_confirm.specs.Follows.{WasAdded, MayCome, Resolves}
use Rattle.lapin_confirm.proofs.ConfirmModeFollowing.{place-push, tag-push}
use Rattle.lapin_confirm.proofs.CellFollowing.{left-push, IsQueued, queued_facts}

-- an opening that is selected has begun
pub selected-begun : (c : ℕ) (ms : List ConfirmMark) → is_selected c ms ≡ true → is_begun c ms ≡ true
selected-begun c ms h =
    elim (is_begun c ms) as (λ b. is_begun c ms ≡ b → b ≡ true) [
      | true ↦ λ _. refl
      | false ↦ λ none. let no : is_selected c ms ≡ false = ap (list_any (selects c)) (since_none (begins c) ms none) in cc
    ] refl

pub place-next : (c k : ℕ) (ms : List ConfirmMark) → is_selected c ms ≡ true → place c (ms ++ mark.Left c k ∷ []) ≡ place c ms + 1
place-next c k ms h = place-push c ms (mark.Left c k) refl (selected-begun c ms h) ∙ rw (h, eq-eqb c c refl) refl

pub place-first : (c : ℕ) (ms : List ConfirmMark) → place c (ms ++ mark.Begun c ∷ []) ≡ 0
place-first c ms = rw (since-push (begins c) ms (mark.Begun c), eq-eqb c c refl) refl

pub place-still : (c : ℕ) (ms : List ConfirmMark) (m : ConfirmMark) → begins c m ≡ false → (is_selected c ms && leaves_on c m) ≡ false → place c (ms ++ m ∷ []) ≡ place c ms
place-still c ms m old still =
    elim (is_begun c ms) as (λ b. is_begun c ms ≡ b → place c (ms ++ m ∷ []) ≡ place c ms) [
      | true ↦ λ h. place-push c ms m old h ∙ rw still refl
      | false ↦ λ h. rw (since-push (begins c) ms m, since_none (begins c) ms h, old, h) refl
    ] refl

pub tag-taken : (c n : ℕ) (ms : List ConfirmMark) → MayCome ms (mark.Left c n) → is_selected c ms ≡ true → tag_of n (ms ++ mark.Left c n ∷ []) ≡ Some (place c ms + 1)
tag-taken c zero ms may h = let none : 1 ≤ 0 = may.0.0 in absurd (omega arith)
tag-taken c (suc k) ms may h =
    let facts : IsQueued c (suc k) ms = queued_facts c (suc k) ms may.1 in
    let last : suc k ≤ added ms = may.0.1 in
    rw (accepted-push k ms (mark.Left c (suc k)) (omega arith), facts.channel, through-push (leaves (suc k)) ms (mark.Left c (suc k)), facts.waits)
    (tag-push c (suc k) ms ∙ rw (selected-begun c ms h, h) refl)

pub tag-kept : (n : ℕ) (ms : List ConfirmMark) (m : ConfirmMark) → WasAdded n ms → has_left n ms ≡ true → tag_of n (ms ++ m ∷ []) ≡ tag_of n ms
tag-kept zero ms m known left = let none : 1 ≤ 0 = known.0 in absurd (omega arith)
tag-kept (suc k) ms m known left = let last : suc k ≤ added ms = known.1 in rw (accepted-push k ms m (omega arith), through-push (leaves (suc k)) ms m, left) refl

-- ---- what resolves a confirm that is pending

there : (b : Bool) (x o : Outcome) → cond b (Some x) None ≡ Some o → (b ≡ true) × (o ≡ x)
there true x o h = (refl, cc)
there false x o h = cc

covered : (c d : ℕ) (b : Bool) (x o : Outcome) → cond (c == d && b) (Some x) None ≡ Some o → (c ≡ d) × (b ≡ true) × (o ≡ x)
covered c d b x o h =
    elim (eqb_tells c d) [
      | inl same ↦ let is = there b x o (rw same.0 at h) in (same.1, is.0, is.1)
      | inr away ↦ let no : None ≡ Some o = rw away.0 at h in cc
    ]

resolves : (c t : ℕ) (o : Outcome) (m : ConfirmMark) → (settlement_on c t m ≡ Some o) ↔ Resolves c t o m
resolves c t o (mark.Settled d s) = (covered c d (covers s t) (outcome_of s) o, λ is. rw (eq-eqb c d is.0, is.1, is.2) refl)
resolves c t o (mark.Ended d e) = (λ h. let is = there (c == d) (outcome.Failed e) o h in (eqb-true c d is.0, is.1), λ is. rw (eq-eqb c d is.0, is.1) refl)
resolves c t o _ = (λ h. cc, λ never. absurd never)

outcome-next : (k t : ℕ) (ms : List ConfirmMark) (m : ConfirmMark) → k < added ms → has_left (suc k) ms ≡ true → tag_of (suc k) ms ≡ Some t → outcome_at (suc k) ms ≡ None → outcome_at (suc k) (ms ++ m ∷ []) ≡ settlement_on (channel_of (suc k) ms) t m
outcome-next k t ms m known left tag none =
    let later : List ConfirmMark = after (leaves (suc k)) ms in
    let here : outcome_after (channel_of (suc k) ms) (tag_of (suc k) ms) later ≡ None = rw left at none in
    let unsettled : first_settled (channel_of (suc k) ms) t later ≡ None = ap (λ u. outcome_after (channel_of (suc k) ms) u later) (sym tag) ∙ here in
    rw (left-push (suc k) ms m, left, accepted-push k ms m known, through-push (leaves (suc k)) ms m, left, after-push (leaves (suc k)) ms m, left)
    (ap (λ u. outcome_after (channel_of (suc k) ms) u (later ++ m ∷ [])) tag ∙ settled-push (channel_of (suc k) ms) t later m ∙ rw unsettled refl)

pub resolved-by : (n t : ℕ) (o : Outcome) (ms : List ConfirmMark) (m : ConfirmMark) → WasAdded n ms → has_left n ms ≡ true → tag_of n ms ≡ Some t → outcome_at n ms ≡ None → (outcome_at n (ms ++ m ∷ []) ≡ Some o) ↔ Resolves (channel_of n ms) t o m
resolved-by zero t o ms m known left tag none = let no : 1 ≤ 0 = known.0 in absurd (omega arith)
resolved-by (suc k) t o ms m known left tag none = let last : suc k ≤ added ms = known.1 in rw (outcome-next k t ms m (omega arith) left tag none) (resolves (channel_of (suc k) ms) t o m)
