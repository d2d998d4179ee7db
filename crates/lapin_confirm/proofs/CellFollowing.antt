-- What one more mark does to the cell and the origin of a publish.
use Rattle.std.proofs.Common.{◌≡◌, ℕ, suc, ◌<◌, ◌==◌, true, false, cond, ◌||◌, ◌&&◌, List, [], ◌∷◌, ◌++◌, Option, Some, None, refl, ◌∙◌, ap, eq-eqb}
use Rattle.std.specs.Option.{option_or, option_map}
use Rattle.lapin_types.specs.declared.outcome.Outcome.{Outcome}
use Rattle.lapin_types.specs.declared.outcome.Outcome.TheVariants as outcome
use Rattle.lapin_rules.specs.ConfirmMarks.{ConfirmMark}
use Rattle.lapin_rules.specs.ConfirmMarks as mark
use Rattle.lapin_rules.specs.Words.{after}
use Rattle.lapin_rules.specs.ConfirmReadings.{leaves, takes, lays, has_left, is_taken, is_aside, channel_of, tag_of, tag_on, first_settled, settlement_on, first_rejected, rejection_on, life, added, covers, outcome_of}
use Rattle.lapin_rules.specs.ReturnReadings.{goes, is_gone}
use Rattle.lapin_rules.proofs.ListLaws.{or_false, any-push, after-push, through-push}
use Rattle.lapin_rules.proofs.ReturnLaws.{gone-push}
use Rattle.lapin_rules.proofs.ConfirmLaws.{settled-push, rejected-push, accepted-push, life-push, accepted_new, life_new}
use Rattle.lapin_confirm.specs.declared.cell.Cell.{Cell}
use Rattle.lapin_confirm.specs.declared.cell.Cell.TheVariants as cell
use Rattle.lapin_confirm.specs.PublishStates.{tag_for, cell_with, settled_cell, closed_cell, ended_cell}
use Rattle.lapin_confirm.specs.ConfirmState.{new_origin}
use Rattle.lapin_confirm.specs.Follows.{confirm_mode_in, open_cell, cell_in, origin_in, left_cell, pending_cell, queued_cell}
use Rattle.lapin_confirm.proofs.ConfirmModeFollowing.{tag-push}

-- what a mark of something else does to a publish's cell
abbrev pub stood : ConfirmMark → Option Cell → Option Cell
stood (mark.Settled c s) o = option_map (settled_cell c (covers s) (outcome_of s)) o
stood (mark.ClosedHere c e) o = option_map (closed_cell c e) o
stood (mark.Ended c e) o = option_map (ended_cell c e) o
stood _ o = o

resolved_stays : (m : ConfirmMark) (o : Outcome) → Some (cell.Resolved o) ≡ stood m (Some (cell.Resolved o))
resolved_stays (mark.Settled c s) o = refl
resolved_stays (mark.ClosedHere c e) o = refl
resolved_stays (mark.Ended c e) o = refl
resolved_stays _ o = refl

none_stays : (m : ConfirmMark) → None ≡ stood m None
none_stays (mark.Settled c s) = refl
none_stays (mark.ClosedHere c e) = refl
none_stays (mark.Ended c e) = refl
none_stays _ = refl

pending-push : (c t : ℕ) (o : Option Outcome) (m : ConfirmMark) → Some (pending_cell c t (option_or o (settlement_on c t m))) ≡ stood m (Some (pending_cell c t o))
pending-push c t (Some o) m = resolved_stays m o
pending-push c t None (mark.Settled d s) = elim (c == d && covers s t) as (λ b. Some (pending_cell c t (cond b (Some (outcome_of s)) None)) ≡ Some (cond b (cell.Resolved (outcome_of s)) (cell.Pending c t))) [ true ↦ refl | false ↦ refl ]
pending-push c t None (mark.ClosedHere d e) = refl
pending-push c t None (mark.Ended d e) = elim (c == d) as (λ b. Some (pending_cell c t (cond b (Some (outcome.Failed e)) None)) ≡ Some (cond b (cell.Resolved (outcome.Failed e)) (cell.Pending c t))) [ true ↦ refl | false ↦ refl ]
pending-push c t None _ = refl

queued-push : (c : ℕ) (o : Option Outcome) (m : ConfirmMark) → Some (queued_cell c (option_or o (rejection_on c m))) ≡ stood m (Some (queued_cell c o))
queued-push c (Some o) m = resolved_stays m o
queued-push c None (mark.Settled d s) = refl
queued-push c None (mark.ClosedHere d e) = elim (c == d) as (λ b. Some (queued_cell c (cond b (Some (outcome.Failed e)) None)) ≡ Some (cond b (cell.Resolved (outcome.Failed e)) (cell.Queued c))) [ true ↦ refl | false ↦ refl ]
queued-push c None (mark.Ended d e) = elim (c == d) as (λ b. Some (queued_cell c (cond b (Some (outcome.Failed e)) None)) ≡ Some (cond b (cell.Resolved (outcome.Failed e)) (cell.Queued c))) [ true ↦ refl | false ↦ refl ]
queued-push c None _ = refl

left_cell-push : (c : ℕ) (t : Option ℕ) (ms : List ConfirmMark) (m : ConfirmMark) → Some (left_cell c t (ms ++ m ∷ [])) ≡ stood m (Some (left_cell c t ms))
left_cell-push c None ms m = resolved_stays m outcome.NotRequested
left_cell-push c (Some t) ms m = ap (λ o. Some (pending_cell c t o)) (settled-push c t ms m) ∙ pending-push c t (first_settled c t ms) m

pub left-push : (k : ℕ) (ms : List ConfirmMark) (m : ConfirmMark) → has_left k (ms ++ m ∷ []) ≡ (has_left k ms || leaves k m)
left-push k ms m = any-push (leaves k) ms m

pub taken-push : (k : ℕ) (ms : List ConfirmMark) (m : ConfirmMark) → is_taken k (ms ++ m ∷ []) ≡ (is_taken k ms || takes k m)
taken-push k ms m = any-push (takes k) ms m

pub aside-push : (k : ℕ) (ms : List ConfirmMark) (m : ConfirmMark) → is_aside k (ms ++ m ∷ []) ≡ (is_aside k ms || lays k m)
aside-push k ms m = any-push (lays k) ms m

-- what a mark does to the cell of a publish that does not leave by it
pub open-step : (k : ℕ) (ms : List ConfirmMark) (m : ConfirmMark) → k < added ms → leaves (suc k) m ≡ false → Some (open_cell (suc k) (ms ++ m ∷ [])) ≡ stood m (Some (open_cell (suc k) ms))
open-step k ms m known away =
    elim (has_left (suc k) ms) as (λ b. has_left (suc k) ms ≡ b → Some (open_cell (suc k) (ms ++ m ∷ [])) ≡ stood m (Some (open_cell (suc k) ms))) [
      | true ↦ λ left. rw (left-push (suc k) ms m, left, accepted-push k ms m known, through-push (leaves (suc k)) ms m, left, after-push (leaves (suc k)) ms m, left) (left_cell-push (channel_of (suc k) ms) (tag_of (suc k) ms) (after (leaves (suc k)) ms) m)
      | false ↦ λ left. rw (left-push (suc k) ms m, left, away, accepted-push k ms m known, life-push k ms m known, rejected-push (channel_of (suc k) ms) (life (suc k) ms) m) (queued-push (channel_of (suc k) ms) (first_rejected (channel_of (suc k) ms) (life (suc k) ms)) m)
    ] refl

-- what a mark of something else does to a publish's cell
pub cell-step : (k : ℕ) (ms : List ConfirmMark) (m : ConfirmMark) → k < added ms → leaves (suc k) m ≡ false → goes (suc k) ms m ≡ false → cell_in (suc k) (ms ++ m ∷ []) ≡ stood m (cell_in (suc k) ms)
cell-step k ms m known away kept =
    elim (is_gone (suc k) ms) as (λ b. is_gone (suc k) ms ≡ b → cell_in (suc k) (ms ++ m ∷ []) ≡ stood m (cell_in (suc k) ms)) [
      | true ↦ λ h. rw (gone-push (suc k) ms m, h) (none_stays m)
      | false ↦ λ h.
          let still : is_gone (suc k) (ms ++ m ∷ []) ≡ false = gone-push (suc k) ms m ∙ rw (h, kept) refl in
          rw (still, h) (open-step k ms m known away)
    ] refl

-- what a mark by which it neither goes nor is set aside does to a publish's origin
pub origin-step : (k : ℕ) (ms : List ConfirmMark) (m : ConfirmMark) → k < added ms → lays (suc k) m ≡ false → goes (suc k) ms m ≡ false → origin_in (suc k) (ms ++ m ∷ []) ≡ origin_in (suc k) ms
origin-step k ms m known unlaid kept =
    rw (gone-push (suc k) ms m, kept, accepted-push k ms m known, aside-push (suc k) ms m, unlaid, or_false (is_gone (suc k) ms), or_false (is_aside (suc k) ms)) refl

left_first : (c : ℕ) (t : Option ℕ) → left_cell c t [] ≡ cell_with c t
left_first c None = refl
left_first c (Some t) = refl

-- what a queued cell says
pub record IsQueued (c k : ℕ) (ms : List ConfirmMark) : Type 0 where
  pub kept : is_gone k ms ≡ false
  pub waits : has_left k ms ≡ false
  pub channel : channel_of k ms ≡ c
  pub unrejected : first_rejected (channel_of k ms) (life k ms) ≡ None

unqueued : (c d : ℕ) (t : Option ℕ) (later : List ConfirmMark) → Some (left_cell d t later) ≡ Some (cell.Queued c) → ⊥
unqueued c d None later e = cc
unqueued c d (Some t) later e = elim (first_settled d t later) as (λ o. Some (pending_cell d t o) ≡ Some (cell.Queued c) → ⊥) [ None ↦ λ e. cc | Some o ↦ λ e. cc ] e

same_channel : (c d : ℕ) (o : Option Outcome) → Some (queued_cell d o) ≡ Some (cell.Queued c) → (d ≡ c) × (o ≡ None)
same_channel c d None e = (cc, refl)
same_channel c d (Some o) e = cc

pub queued_facts : (c k : ℕ) (ms : List ConfirmMark) → cell_in k ms ≡ Some (cell.Queued c) → IsQueued c k ms
queued_facts c k ms =
    elim (is_gone k ms) as (λ a. is_gone k ms ≡ a → cond a None (Some (open_cell k ms)) ≡ Some (cell.Queued c) → IsQueued c k ms) [
      | true ↦ λ t e. cc
      | false ↦ λ t. elim (has_left k ms) as (λ a. has_left k ms ≡ a → Some (cond a (left_cell (channel_of k ms) (tag_of k ms) (after (leaves k) ms)) (queued_cell (channel_of k ms) (first_rejected (channel_of k ms) (life k ms)))) ≡ Some (cell.Queued c) → IsQueued c k ms) [
        | true ↦ λ l e. absurd (unqueued c (channel_of k ms) (tag_of k ms) (after (leaves k) ms) e)
        | false ↦ λ l e.
            let facts = same_channel c (channel_of k ms) (first_rejected (channel_of k ms) (life k ms)) e in
            record { kept = t; waits = l; channel = facts.0; unrejected = facts.1 }
      ] refl
    ] refl

-- a publish leaves
pub cell-left : (c k : ℕ) (ms : List ConfirmMark) → k < added ms → cell_in (suc k) ms ≡ Some (cell.Queued c) → cell_in (suc k) (ms ++ mark.Left c (suc k) ∷ []) ≡ Some (cell_with c (tag_for (confirm_mode_in c ms)))
cell-left c k ms known is =
    let facts : IsQueued c (suc k) ms = queued_facts c (suc k) ms is in
    let here : (suc k == suc k) ≡ true = eq-eqb (suc k) (suc k) refl in
    rw (gone-push (suc k) ms (mark.Left c (suc k)), facts.kept, left-push (suc k) ms (mark.Left c (suc k)), facts.waits, here, accepted-push k ms (mark.Left c (suc k)) known, facts.channel, through-push (leaves (suc k)) ms (mark.Left c (suc k)), facts.waits, after-push (leaves (suc k)) ms (mark.Left c (suc k)), facts.waits)
    (ap Some (left_first c (tag_on c (ms ++ mark.Left c (suc k) ∷ [])) ∙ ap (cell_with c) (tag-push c (suc k) ms)))

-- a new publish
pub cell-added : (c k : ℕ) (ms : List ConfirmMark) → k ≡ added ms → has_left (suc k) ms ≡ false → is_gone (suc k) ms ≡ false → cell_in (suc k) (ms ++ mark.Added c ∷ []) ≡ Some (cell.Queued c)
cell-added c k ms last waits kept = rw (gone-push (suc k) ms (mark.Added c), kept, left-push (suc k) ms (mark.Added c), waits, accepted_new k c ms last, life_new k c ms last) refl

pub origin-added : (c k : ℕ) (ms : List ConfirmMark) → k ≡ added ms → is_aside (suc k) ms ≡ false → is_gone (suc k) ms ≡ false → origin_in (suc k) (ms ++ mark.Added c ∷ []) ≡ Some (new_origin c)
origin-added c k ms last unlaid kept = rw (gone-push (suc k) ms (mark.Added c), kept, accepted_new k c ms last, aside-push (suc k) ms (mark.Added c), unlaid) refl
