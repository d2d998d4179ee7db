-- What the readings of a history count and find is what the confirms have: who is queued, who is pending with a tag, in which order,
-- and who is resolved.
use Rattle.std.proofs.Common.{◌≡◌, ◌≤◌, nat_lt, nat_le, eq-eqb, ne_eqb, ℕ, zero, suc, ◌+◌, ◌<◌, ◌==◌, Bool, true, false, not, cond, ◌&&◌, ◌||◌, List, [], ◌∷◌, length, Option, Some, None, refl, sym, ◌∙◌, ap, subst, arith, slice_get}
use Rattle.std.specs.List.{list_any, count_by, range_with_len, find}
use Rattle.std.proofs.Math.Bool.{or-true}
use Rattle.std.proofs.lemmas.Bool.{leb-true}
use Rattle.lapin_tables.proofs.Counts.{count-cons}
use Rattle.lapin_types.specs.declared.outcome.Outcome.{Outcome}
use Rattle.lapin_rules.specs.declared.marks.Settlement.{Settlement}
use Rattle.lapin_rules.specs.ConfirmMarks.{ConfirmMark}
use Rattle.lapin_rules.proofs.ListLaws.{since_none}
use Rattle.lapin_tables.specs.Numbered.{under}
use Rattle.lapin_rules.specs.ConfirmReadings as read
use Rattle.lapin_rules.specs.ConfirmReadings.{has_left, is_taken, is_aside, channel_of, tag_of, is_tag, covers, first_rejected, first_settled, life, added, outcome_at, outcome_after, is_open_outcome, is_begun, is_asked, is_selected, place, numbers, is_full, limit_of, is_at_limit}
use Rattle.lapin_rules.specs.ReturnReadings.{is_done, is_gone, return_lists_of, taking, pending_with, covered, is_waited}
use Rattle.lapin_rules.specs.Words.{after, is_some}
use Rattle.lapin_tables.specs.ByChannel.{at_channel}
use Rattle.lapin_confirm.specs.declared.cell.Cell.{Cell}
use Rattle.lapin_confirm.specs.PublishStates.{is_queued_on, is_pending_on, is_pending_as, is_open_on, queued_count, pending_count, asked_in, asked_on, last_in, last_on, selected_in, selected_on, is_pending, is_resolved, full_on, limit_in, limit_on, at_limit_on}
use Rattle.lapin_confirm.specs.ConfirmState.{ConfirmState, number_from, covered_in, waits_on}
use Rattle.lapin_confirm.specs.Drain.{is_over}
use Rattle.lapin_confirm.specs.Follows.{Follows, WasAdded, NoneWaitsAside, cell_in, open_cell, left_cell, pending_cell, queued_cell}
use Rattle.lapin_confirm.proofs.Covered.{taking-same}
use Rattle.lapin_confirm.proofs.AsideFollowing.{stands}
use Rattle.lapin_confirm.proofs.Facts.{facts}
use Rattle.std.proofs.lemmas.Option.{slice_get_within}

-- ---- one list by its places, and the numbers of the places

count-places : {X : Type 0} (p : X → Bool) (q : ℕ → Bool) (t : ℕ) (xs : List X) → ((k : ℕ) (x : X) → slice_get xs k ≡ Some x → p x ≡ q (t + k)) → count_by p xs ≡ count_by q (range_with_len t (length xs))
count-places p q t [] same = refl
count-places p q t (x ∷ xs) same =
    let rest : count_by p xs ≡ count_by q (range_with_len (t + 1) (length xs)) = count-places p q (t + 1) xs (λ k y there. let far : t + suc k ≡ t + 1 + k = omega arith in same (suc k) y there ∙ ap q far) in
    let here : t + 0 ≡ t = omega arith in
    let first : p x ≡ q t = same 0 x refl ∙ ap q here in
    count-cons p x xs ∙ rw (first, rest) (sym (count-cons q t (range_with_len (t + 1) (length xs))))

any-places : {X : Type 0} (p : X → Bool) (q : ℕ → Bool) (t : ℕ) (xs : List X) → ((k : ℕ) (x : X) → slice_get xs k ≡ Some x → p x ≡ q (t + k)) → list_any p xs ≡ list_any q (range_with_len t (length xs))
any-places p q t [] same = refl
any-places p q t (x ∷ xs) same =
    let rest : list_any p xs ≡ list_any q (range_with_len (t + 1) (length xs)) = any-places p q (t + 1) xs (λ k y there. let far : t + suc k ≡ t + 1 + k = omega arith in same (suc k) y there ∙ ap q far) in
    let here : t + 0 ≡ t = omega arith in
    let first : p x ≡ q t = same 0 x refl ∙ ap q here in
    rw (first, rest) refl

found-places : (c u t : ℕ) (q : ℕ → Bool) (xs : List (Option Cell)) → ((k : ℕ) (x : Option Cell) → slice_get xs k ≡ Some x → is_pending_as c u x ≡ q (t + k)) → number_from c u t xs ≡ find q (range_with_len t (length xs))
found-places c u t q [] same = refl
found-places c u t q (x ∷ xs) same =
    let next : suc t ≡ t + 1 = omega arith in
    let rest : number_from c u (suc t) xs ≡ find q (range_with_len (t + 1) (length xs)) =
    found-places c u (suc t) q xs (λ k y there. let far : t + suc k ≡ suc t + k = omega arith in same (suc k) y there ∙ ap q far) ∙ ap (λ (i : ℕ). find q (range_with_len i (length xs))) next in
    let here : t + 0 ≡ t = omega arith in
    let first : is_pending_as c u x ≡ q t = same 0 x refl ∙ ap q here in
    rw (first, rest) refl

-- ---- one cell

queued_same : (c d : ℕ) (o : Option Outcome) → is_queued_on c (Some (queued_cell d o)) ≡ (d == c && is_open_outcome o)
queued_same c d None = elim (d == c) as (λ b. b ≡ (b && true)) [ true ↦ refl | false ↦ refl ]
queued_same c d (Some o) = elim (d == c) as (λ b. false ≡ (b && false)) [ true ↦ refl | false ↦ refl ]

left_unqueued : (c d : ℕ) (t : Option ℕ) (later : List ConfirmMark) → is_queued_on c (Some (left_cell d t later)) ≡ false
left_unqueued c d None later = refl
left_unqueued c d (Some t) later = by (first_settled d t later)
  where
    by : (o : Option Outcome) → is_queued_on c (Some (pending_cell d t o)) ≡ false
    by None = refl
    by (Some o) = refl

pending_same : (c d : ℕ) (t : Option ℕ) (later : List ConfirmMark) → is_pending_on c (Some (left_cell d t later)) ≡ (d == c && is_open_outcome (outcome_after d t later))
pending_same c d None later = elim (d == c) as (λ b. false ≡ (b && false)) [ true ↦ refl | false ↦ refl ]
pending_same c d (Some t) later = by (first_settled d t later)
  where
    by : (o : Option Outcome) → is_pending_on c (Some (pending_cell d t o)) ≡ (d == c && is_open_outcome o)
    by None = elim (d == c) as (λ b. b ≡ (b && true)) [ true ↦ refl | false ↦ refl ]
    by (Some o) = elim (d == c) as (λ b. false ≡ (b && false)) [ true ↦ refl | false ↦ refl ]

named_same : (c u d : ℕ) (t : Option ℕ) (later : List ConfirmMark) → is_pending_as c u (Some (left_cell d t later)) ≡ (d == c && (is_tag u t && is_open_outcome (outcome_after d t later)))
named_same c u d None later = elim (d == c) as (λ b. false ≡ (b && false)) [ true ↦ refl | false ↦ refl ]
named_same c u d (Some t) later = by (first_settled d t later)
  where
    none : (a b : Bool) → false ≡ (a && (b && false))
    none true true = refl
    none true false = refl
    none false b = refl

    all : (a b : Bool) → (a && b) ≡ (a && (b && true))
    all true true = refl
    all true false = refl
    all false b = refl

    by : (o : Option Outcome) → is_pending_as c u (Some (pending_cell d t o)) ≡ (d == c && (t == u && is_open_outcome o))
    by None = all (d == c) (t == u)
    by (Some o) = none (d == c) (t == u)

queued_unpended : (c d : ℕ) (o : Option Outcome) → is_pending_on c (Some (queued_cell d o)) ≡ false
queued_unpended c d None = refl
queued_unpended c d (Some o) = refl

queued_unnamed : (c u d : ℕ) (o : Option Outcome) → is_pending_as c u (Some (queued_cell d o)) ≡ false
queued_unnamed c u d None = refl
queued_unnamed c u d (Some o) = refl

-- a reading of what is open is false of what was given
abbrev Reads : (Option Cell → Bool) → (ℕ → Bool) → ℕ → List ConfirmMark → Type 0
Reads p q n ms = p (Some (open_cell n ms)) ≡ q n

queued_open : (c n : ℕ) (ms : List ConfirmMark) → Reads (is_queued_on c) (read.is_queued_on c ms) n ms
queued_open c n ms =
    elim (has_left n ms) as (λ b. is_queued_on c (Some (cond b (left_cell (channel_of n ms) (tag_of n ms) (after (read.leaves n) ms)) (queued_cell (channel_of n ms) (first_rejected (channel_of n ms) (life n ms))))) ≡ (not b && (channel_of n ms == c && is_open_outcome (cond b (outcome_after (channel_of n ms) (tag_of n ms) (after (read.leaves n) ms)) (first_rejected (channel_of n ms) (life n ms)))))) [
      | true ↦ left_unqueued c (channel_of n ms) (tag_of n ms) (after (read.leaves n) ms)
      | false ↦ queued_same c (channel_of n ms) (first_rejected (channel_of n ms) (life n ms))
    ]

pending_open : (c n : ℕ) (ms : List ConfirmMark) → Reads (is_pending_on c) (read.is_pending_on c ms) n ms
pending_open c n ms =
    elim (has_left n ms) as (λ b. is_pending_on c (Some (cond b (left_cell (channel_of n ms) (tag_of n ms) (after (read.leaves n) ms)) (queued_cell (channel_of n ms) (first_rejected (channel_of n ms) (life n ms))))) ≡ (b && (channel_of n ms == c && is_open_outcome (cond b (outcome_after (channel_of n ms) (tag_of n ms) (after (read.leaves n) ms)) (first_rejected (channel_of n ms) (life n ms)))))) [
      | true ↦ pending_same c (channel_of n ms) (tag_of n ms) (after (read.leaves n) ms)
      | false ↦ queued_unpended c (channel_of n ms) (first_rejected (channel_of n ms) (life n ms))
    ]

named_open : (c u n : ℕ) (ms : List ConfirmMark) → Reads (is_pending_as c u) (read.is_pending_as c u ms) n ms
named_open c u n ms =
    elim (has_left n ms) as (λ b. is_pending_as c u (Some (cond b (left_cell (channel_of n ms) (tag_of n ms) (after (read.leaves n) ms)) (queued_cell (channel_of n ms) (first_rejected (channel_of n ms) (life n ms))))) ≡ (b && (channel_of n ms == c && (is_tag u (tag_of n ms) && is_open_outcome (cond b (outcome_after (channel_of n ms) (tag_of n ms) (after (read.leaves n) ms)) (first_rejected (channel_of n ms) (life n ms))))))) [
      | true ↦ named_same c u (channel_of n ms) (tag_of n ms) (after (read.leaves n) ms)
      | false ↦ queued_unnamed c u (channel_of n ms) (first_rejected (channel_of n ms) (life n ms))
    ]

-- whether the outcome is there
pub resolved_open : (n : ℕ) (ms : List ConfirmMark) → is_resolved (Some (open_cell n ms)) ≡ not (is_open_outcome (outcome_at n ms))
resolved_open n ms =
    elim (has_left n ms) as (λ b. is_resolved (Some (cond b (left_cell (channel_of n ms) (tag_of n ms) (after (read.leaves n) ms)) (queued_cell (channel_of n ms) (first_rejected (channel_of n ms) (life n ms))))) ≡ not (is_open_outcome (cond b (outcome_after (channel_of n ms) (tag_of n ms) (after (read.leaves n) ms)) (first_rejected (channel_of n ms) (life n ms))))) [
      | true ↦ left (tag_of n ms)
      | false ↦ waits (first_rejected (channel_of n ms) (life n ms))
    ]
  where
    waits : (o : Option Outcome) → is_resolved (Some (queued_cell (channel_of n ms) o)) ≡ not (is_open_outcome o)
    waits None = refl
    waits (Some o) = refl

    settled : (t : ℕ) (o : Option Outcome) → is_resolved (Some (pending_cell (channel_of n ms) t o)) ≡ not (is_open_outcome o)
    settled t None = refl
    settled t (Some o) = refl

    left : (t : Option ℕ) → is_resolved (Some (left_cell (channel_of n ms) t (after (read.leaves n) ms))) ≡ not (is_open_outcome (outcome_after (channel_of n ms) t (after (read.leaves n) ms)))
    left None = refl
    left (Some t) = settled t (first_settled (channel_of n ms) t (after (read.leaves n) ms))

open_same : (c d : ℕ) (o : Option Outcome) → is_open_on c (Some (queued_cell d o)) ≡ (d == c && is_open_outcome o)
open_same c d None = elim (d == c) as (λ b. b ≡ (b && true)) [ true ↦ refl | false ↦ refl ]
open_same c d (Some o) = elim (d == c) as (λ b. false ≡ (b && false)) [ true ↦ refl | false ↦ refl ]

open_left : (c d : ℕ) (t : Option ℕ) (later : List ConfirmMark) → is_open_on c (Some (left_cell d t later)) ≡ (d == c && is_open_outcome (outcome_after d t later))
open_left c d None later = elim (d == c) as (λ b. false ≡ (b && false)) [ true ↦ refl | false ↦ refl ]
open_left c d (Some t) later = by (first_settled d t later)
  where
    by : (o : Option Outcome) → is_open_on c (Some (pending_cell d t o)) ≡ (d == c && is_open_outcome o)
    by None = elim (d == c) as (λ b. b ≡ (b && true)) [ true ↦ refl | false ↦ refl ]
    by (Some o) = elim (d == c) as (λ b. false ≡ (b && false)) [ true ↦ refl | false ↦ refl ]

open_open : (c n : ℕ) (ms : List ConfirmMark) → is_open_on c (Some (open_cell n ms)) ≡ (channel_of n ms == c && is_open_outcome (outcome_at n ms))
open_open c n ms =
    elim (has_left n ms) as (λ b. is_open_on c (Some (cond b (left_cell (channel_of n ms) (tag_of n ms) (after (read.leaves n) ms)) (queued_cell (channel_of n ms) (first_rejected (channel_of n ms) (life n ms))))) ≡ (channel_of n ms == c && is_open_outcome (cond b (outcome_after (channel_of n ms) (tag_of n ms) (after (read.leaves n) ms)) (first_rejected (channel_of n ms) (life n ms))))) [
      | true ↦ open_left c (channel_of n ms) (tag_of n ms) (after (read.leaves n) ms)
      | false ↦ open_same c (channel_of n ms) (first_rejected (channel_of n ms) (life n ms))
    ]

-- ---- every cell of a publish states

never : (a b : Bool) → (a && (b && false)) ≡ false
never true true = refl
never true false = refl
never false b = refl

never-named : (a b d : Bool) → (a && (b && (d && false))) ≡ false
never-named true true true = refl
never-named true true false = refl
never-named true false d = refl
never-named false b d = refl

at_place : (xs : List (Option Cell)) (j : ℕ) (x : Option Cell) → slice_get xs j ≡ Some x → under (suc j) xs ≡ x
at_place [] j x h = cc
at_place (y ∷ ys) zero x h = cc
at_place (y ∷ ys) (suc j) x h = at_place ys j x h

-- a reading that is false of what has an outcome
cell-reads : (r : Option Cell → Bool) (q : ℕ → Bool) (ms : List ConfirmMark) (p : ConfirmState) → Follows ms p → r None ≡ false → ((n : ℕ) → Reads r q n ms) → ((n : ℕ) → is_open_outcome (outcome_at n ms) ≡ false → q n ≡ false) → (k : ℕ) (x : Option Cell) → slice_get p.publish_states.cells k ≡ Some x → r x ≡ q (1 + k)
cell-reads r q ms p f none open_ over k x there =
    let count : length p.publish_states.cells ≡ added ms = f.count in
    let within : k < length p.publish_states.cells = slice_get_within p.publish_states.cells k x there in
    let lt : k < added ms = omega arith in
    let same : x ≡ cell_in (suc k) ms = sym (at_place p.publish_states.cells k x there) ∙ f.cells k lt in
    let number : suc k ≡ 1 + k = omega arith in
    ap r same ∙ by (is_gone (suc k) ms) refl ∙ ap q number
  where
    by : (a : Bool) → is_gone (suc k) ms ≡ a → r (cond a None (Some (open_cell (suc k) ms))) ≡ q (suc k)
    by true gone = none ∙ sym (over (suc k) ((facts ms f.came).done (suc k) gone))
    by false kept = open_ (suc k)

pub queued-reads : (c : ℕ) (ms : List ConfirmMark) (p : ConfirmState) → Follows ms p → queued_count c p.publish_states ≡ read.queued_count c ms
queued-reads c ms p f =
    count-places (is_queued_on c) (read.is_queued_on c ms) 1 p.publish_states.cells (cell-reads (is_queued_on c) (read.is_queued_on c ms) ms p f refl (λ n. queued_open c n ms) (λ n over. rw over (never (not (has_left n ms)) (channel_of n ms == c))))
    ∙ ap (λ (n : ℕ). count_by (read.is_queued_on c ms) (range_with_len 1 n)) f.count

pub pending-reads : (c : ℕ) (ms : List ConfirmMark) (p : ConfirmState) → Follows ms p → pending_count c p.publish_states ≡ read.pending_count c ms
pending-reads c ms p f =
    count-places (is_pending_on c) (read.is_pending_on c ms) 1 p.publish_states.cells (cell-reads (is_pending_on c) (read.is_pending_on c ms) ms p f refl (λ n. pending_open c n ms) (λ n over. rw over (never (has_left n ms) (channel_of n ms == c))))
    ∙ ap (λ (n : ℕ). count_by (read.is_pending_on c ms) (range_with_len 1 n)) f.count

pub number-reads : (c u : ℕ) (ms : List ConfirmMark) (p : ConfirmState) → Follows ms p → number_from c u 1 p.publish_states.cells ≡ pending_with c ms u
number-reads c u ms p f =
    found-places c u 1 (read.is_pending_as c u ms) p.publish_states.cells (cell-reads (is_pending_as c u) (read.is_pending_as c u ms) ms p f refl (λ n. named_open c u n ms) (λ n over. rw over (never-named (has_left n ms) (channel_of n ms == c) (is_tag u (tag_of n ms)))))
    ∙ ap (λ (n : ℕ). find (read.is_pending_as c u ms) (range_with_len 1 n)) f.count

-- ---- what the laws say

opened_some : {X : Type 0} (b : Bool) (x : X) → is_some (cond b (Some x) None) ≡ b
opened_some true x = refl
opened_some false x = refl

pub opening-read : (c : ℕ) (ms : List ConfirmMark) (p : ConfirmState) → Follows ms p → is_some (at_channel c p.publish_states.confirm_modes) ≡ is_begun c ms
opening-read c ms p f = ap is_some (f.confirm_modes c) ∙ opened_some (is_begun c ms) _

selected_none : (c : ℕ) (ms : List ConfirmMark) → is_begun c ms ≡ false → is_selected c ms ≡ false
selected_none c ms none = ap (list_any (read.selects c)) (since_none (read.begins c) ms none)

pub selected-read : (c : ℕ) (ms : List ConfirmMark) (p : ConfirmState) → Follows ms p → selected_on c p.publish_states ≡ is_selected c ms
selected-read c ms p f =
    ap selected_in (f.confirm_modes c)
    ∙ elim (is_begun c ms) as (λ b. is_begun c ms ≡ b → selected_in (cond b (Some (record { selected = is_selected c ms; last = place c ms; asked = is_asked c ms; limit = limit_of c ms })) None) ≡ is_selected c ms) [
      | true ↦ λ h. refl
      | false ↦ λ h. sym (selected_none c ms h)
    ] refl

pub last-read : (c : ℕ) (ms : List ConfirmMark) (p : ConfirmState) → Follows ms p → last_on c p.publish_states ≡ place c ms
last-read c ms p f =
    ap last_in (f.confirm_modes c)
    ∙ elim (is_begun c ms) as (λ b. is_begun c ms ≡ b → last_in (cond b (Some (record { selected = is_selected c ms; last = place c ms; asked = is_asked c ms; limit = limit_of c ms })) None) ≡ place c ms) [
      | true ↦ λ h. refl
      | false ↦ λ h. sym (ap (λ xs. count_by (read.leaves_on c) (after (read.selects c) xs)) (since_none (read.begins c) ms h))
    ] refl

pub tag-read : (c t : ℕ) (ms : List ConfirmMark) (p : ConfirmState) → Follows ms p → is_pending c t p.publish_states ≡ read.is_pending c t ms
tag-read c t ms p f =
    any-places (is_pending_as c t) (read.is_pending_as c t ms) 1 p.publish_states.cells (cell-reads (is_pending_as c t) (read.is_pending_as c t ms) ms p f refl (λ n. named_open c t n ms) (λ n over. rw over (never-named (has_left n ms) (channel_of n ms == c) (is_tag t (tag_of n ms)))))
    ∙ ap (λ (n : ℕ). list_any (read.is_pending_as c t ms) (range_with_len 1 n)) f.count

pub covered-read : (c : ℕ) (s : Settlement) (ms : List ConfirmMark) (p : ConfirmState) → Follows ms p → covered_in c (covers s) p.publish_states ≡ covered c s ms
covered-read c s ms p f =
    ap (λ (n : ℕ). taking (covers s) (λ t. number_from c t 1 p.publish_states.cells) (range_with_len 1 n)) (last-read c ms p f)
    ∙ taking-same (covers s) (covers s) (λ t. number_from c t 1 p.publish_states.cells) (pending_with c ms) (range_with_len 1 (place c ms)) (λ t. refl) (λ t. number-reads c t ms p f)

pub full-read : (c : ℕ) (ms : List ConfirmMark) (p : ConfirmState) → Follows ms p → full_on c p.publish_states ≡ is_full c ms
full-read c ms p f =
    elim (is_begun c ms) as (λ b. is_begun c ms ≡ b → full_on c p.publish_states ≡ is_full c ms) [
      | true ↦ λ h.
          let limit : limit_on c p.publish_states ≡ limit_of c ms = ap limit_in (f.confirm_modes c) ∙ rw h refl in
          rw (selected-read c ms p f, limit, pending-reads c ms p f) refl
      | false ↦ λ h. rw (selected-read c ms p f, selected_none c ms h) refl
    ] refl

-- a channel without an opening has no publish

is-none : (q : ℕ → Bool) (t n : ℕ) → ((k : ℕ) → t ≤ k → k < t + n → q k ≡ false) → count_by q (range_with_len t n) ≡ 0
is-none q t zero none = refl
is-none q t (suc n) none = count-cons q t (range_with_len (t + 1) n) ∙ rw (none t (omega arith) (omega arith), is-none q (t + 1) n (λ k low high. none k (omega arith) (omega arith))) refl

elsewhere : (c k : ℕ) (ms : List ConfirmMark) (p : ConfirmState) → Follows ms p → is_begun c ms ≡ false → k < added ms → (channel_of (suc k) ms == c) ≡ false
elsewhere c k ms p f none lt =
    ne_eqb (channel_of (suc k) ms) c (λ same.
    let P : ℕ → Type 0 = λ i. is_begun i ms ≡ true in
    let no : false ≡ true = sym none ∙ subst P same ((facts ms f.came).begun k lt) in
    cc)

none-of : (c : ℕ) (ms : List ConfirmMark) (p : ConfirmState) (a : ℕ → Bool) (o : ℕ → Bool) → Follows ms p → is_begun c ms ≡ false → count_by (λ n. a n && (channel_of n ms == c && o n)) (numbers ms) ≡ 0
none-of c ms p a o f none = is-none (λ n. a n && (channel_of n ms == c && o n)) 1 (added ms) at
  where
    both : (x y : Bool) → (x && (false && y)) ≡ false
    both true y = refl
    both false y = refl

    at : (k : ℕ) → 1 ≤ k → k < 1 + added ms → (a k && (channel_of k ms == c && o k)) ≡ false
    at zero low high = absurd (omega arith)
    at (suc k) low high = rw (elsewhere c k ms p f none (omega arith)) (both (a (suc k)) (o (suc k)))

-- a limit above 0 is more than none
none_reached : (l : ℕ) → (nat_lt 0 l && nat_le l 0) ≡ false
none_reached l =
    elim (nat_le l 0) as (λ b. nat_le l 0 ≡ b → (nat_lt 0 l && b) ≡ false) [
      | true ↦ λ h. let most : l ≤ 0 = leb-true l 0 h in let none : l ≡ 0 = omega (arith, most) in rw none refl
      | false ↦ λ h. elim (nat_lt 0 l) as (λ x. (x && false) ≡ false) [ true ↦ refl | false ↦ refl ]
    ] refl

pub limit-read : (c : ℕ) (ms : List ConfirmMark) (p : ConfirmState) → Follows ms p → is_begun c ms ≡ true → limit_on c p.publish_states ≡ limit_of c ms
limit-read c ms p f h = ap limit_in (f.confirm_modes c) ∙ rw h refl

pub at-limit-read : (c : ℕ) (ms : List ConfirmMark) (p : ConfirmState) → Follows ms p → at_limit_on c p.publish_states ≡ is_at_limit c ms
at-limit-read c ms p f =
    elim (is_begun c ms) as (λ b. is_begun c ms ≡ b → at_limit_on c p.publish_states ≡ is_at_limit c ms) [
      | true ↦ λ h. rw (limit-read c ms p f h, queued-reads c ms p f, pending-reads c ms p f) refl
      | false ↦ λ h.
          let limit : limit_on c p.publish_states ≡ 0 = ap limit_in (f.confirm_modes c) ∙ rw h refl in
          let queued : read.queued_count c ms ≡ 0 = none-of c ms p (λ n. not (has_left n ms)) (λ n. is_open_outcome (outcome_at n ms)) f h in
          let pending : read.pending_count c ms ≡ 0 = none-of c ms p (λ n. has_left n ms) (λ n. is_open_outcome (outcome_at n ms)) f h in
          rw (limit, queued, pending) (sym (none_reached (limit_of c ms)))
    ] refl

-- a channel that never had an opening is not at a limit
pub unbegun_unlimited : (c : ℕ) (ms : List ConfirmMark) (p : ConfirmState) → Follows ms p → is_begun c ms ≡ false → at_limit_on c p.publish_states ≡ false
unbegun_unlimited c ms p f h = let limit : limit_on c p.publish_states ≡ 0 = ap limit_in (f.confirm_modes c) ∙ rw h refl in rw limit refl

pub waits-read : (c : ℕ) (ms : List ConfirmMark) (p : ConfirmState) → Follows ms p → waits_on c p.publish_states ≡ is_waited c ms
waits-read c ms p f =
    elim (is_begun c ms) as (λ b. is_begun c ms ≡ b → waits_on c p.publish_states ≡ is_waited c ms) [
      | true ↦ λ h.
          let asked : asked_on c p.publish_states ≡ is_asked c ms = ap asked_in (f.confirm_modes c) ∙ rw h refl in
          rw (asked, queued-reads c ms p f, pending-reads c ms p f) refl
      | false ↦ λ h.
          let asked : asked_on c p.publish_states ≡ false = ap asked_in (f.confirm_modes c) ∙ rw h refl in
          let queued : read.queued_count c ms ≡ 0 = none-of c ms p (λ n. not (has_left n ms)) (λ n. is_open_outcome (outcome_at n ms)) f h in
          let pending : read.pending_count c ms ≡ 0 = none-of c ms p (λ n. has_left n ms) (λ n. is_open_outcome (outcome_at n ms)) f h in
          rw (asked, queued, pending) (elim (is_asked c ms) as (λ b. false ≡ (b && false)) [ true ↦ refl | false ↦ refl ])
    ] refl

-- ---- what becomes of confirms

-- a confirm that is not gone
pub cell-there : (n : ℕ) (ms : List ConfirmMark) (p : ConfirmState) → Follows ms p → WasAdded n ms → is_gone n ms ≡ false → under n p.publish_states.cells ≡ Some (open_cell n ms)
cell-there zero ms p f known kept = let one : 1 ≤ 0 = known.0 in absurd (omega arith)
cell-there (suc k) ms p f known kept = let last : suc k ≤ added ms = known.1 in f.cells k (omega arith) ∙ rw kept refl

pub origin-there : (n : ℕ) (ms : List ConfirmMark) (p : ConfirmState) → Follows ms p → WasAdded n ms → is_gone n ms ≡ false → under n p.origins ≡ Some (record { channel = channel_of n ms; aside = is_aside n ms })
origin-there zero ms p f known kept = let one : 1 ≤ 0 = known.0 in absurd (omega arith)
origin-there (suc k) ms p f known kept = let last : suc k ≤ added ms = known.1 in f.origins k (omega arith) ∙ rw kept refl

pub done-read : (n : ℕ) (ms : List ConfirmMark) (p : ConfirmState) → Follows ms p → WasAdded n ms → is_gone n ms ≡ false → is_resolved (under n p.publish_states.cells) ≡ is_done ms n
done-read n ms p f known kept = ap is_resolved (cell-there n ms p f known kept) ∙ resolved_open n ms

-- of those that stand aside too
pub over-read : (c n : ℕ) (ms : List ConfirmMark) (p : ConfirmState) → Follows ms p → stands n (return_lists_of c ms).aside ≡ true → is_over p.publish_states.cells n ≡ is_done ms n
over-read c n ms p f there =
    let known = facts ms f.came in
    let here = resting (channel_of n ms == c) (is_aside n ms) (is_gone n ms) (sym (known.aside c n) ∙ there) in
    done-read n ms p f (known.known n (rw here.0 (or-true (is_taken n ms)))) here.1
  where
    resting : (x a g : Bool) → (x && (a && not g)) ≡ true → (a ≡ true) × (g ≡ false)
    resting true true true h = cc
    resting true true false h = (refl, refl)
    resting true false g h = cc
    resting false a g h = cc

-- where nothing of a channel is open, an opening of it may begin
pub may-begin : (c : ℕ) (ms : List ConfirmMark) (p : ConfirmState) → Follows ms p → list_any (is_open_on c) p.publish_states.cells ≡ false → NoneWaitsAside c ms
may-begin c ms p f none n known own aside =
    elim (is_gone n ms) as (λ b. is_gone n ms ≡ b → is_open_outcome (outcome_at n ms) ≡ false) [
      | true ↦ λ gone. (facts ms f.came).done n gone
      | false ↦ λ kept.
          let shut : is_open_on c (under n p.publish_states.cells) ≡ false = none-under n p.publish_states.cells none in
          let said : (channel_of n ms == c && is_open_outcome (outcome_at n ms)) ≡ false = sym (ap (is_open_on c) (cell-there n ms p f known kept) ∙ open_open c n ms) ∙ shut in
          rw (eq-eqb (channel_of n ms) c own) at said
    ] refl
  where
    at_none : (k : ℕ) (xs : List (Option Cell)) → list_any (is_open_on c) xs ≡ false → is_open_on c (under (suc k) xs) ≡ false
    at_none k [] h = refl
    at_none zero (x ∷ xs) h = elim (is_open_on c x) as (λ b. (b || list_any (is_open_on c) xs) ≡ false → b ≡ false) [ true ↦ λ h. cc | false ↦ λ h. refl ] h
    at_none (suc k) (x ∷ xs) h = elim (is_open_on c x) as (λ b. (b || list_any (is_open_on c) xs) ≡ false → is_open_on c (under (suc k) xs) ≡ false) [ true ↦ λ h. cc | false ↦ λ h. at_none k xs h ] h

    none-under : (n : ℕ) (xs : List (Option Cell)) → list_any (is_open_on c) xs ≡ false → is_open_on c (under n xs) ≡ false
    none-under zero xs h = refl
    none-under (suc k) xs h = at_none k xs h
