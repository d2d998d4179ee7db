-- What a mark of confirms leaves of the publishes that are pending: only a publish that leaves is one more.
use Rattle.std.proofs.Common.{◌≡◌, ℕ, zero, suc, ◌+◌, ◌≤◌, ◌==◌, ◌&&◌, ◌||◌, Bool, true, false, cond, List, [], ◌∷◌, ◌++◌, Option, Some, None, map, refl, arith, slice_set}
use Rattle.std.specs.List.{count_by, fold, list_any}
use Rattle.std.specs.Option.{option_map}
use Rattle.lapin_tables.specs.Numbered.{under, with_under}
use Rattle.lapin_tables.proofs.Counts.{count-cons, count-push}
use Rattle.lapin_types.specs.declared.Error.{Error}
use Rattle.lapin_types.specs.declared.outcome.Outcome.{Outcome}
use Rattle.lapin_types.specs.declared.outcome.Outcome.TheVariants as outcome
use Rattle.lapin_rules.specs.ConfirmMarks.{ConfirmMark}
use Rattle.lapin_rules.specs.ConfirmMarks as mark
use Rattle.lapin_rules.specs.ConfirmReadings.{covers, outcome_of}
use Rattle.lapin_confirm.specs.declared.cell.Cell.{Cell}
use Rattle.lapin_confirm.specs.declared.cell.Cell.TheVariants as cell
use Rattle.lapin_confirm.specs.PublishStates.{is_pending_on, is_resolved, pending_count, settled_cell, closed_cell, ended_cell, PublishStates}
use Rattle.lapin_confirm.specs.ConfirmState.{ConfirmState, return_lists_at}
use Rattle.lapin_confirm.specs.Aside.{put_aside, kept_by, laid_by}
use Rattle.lapin_confirm.specs.Drain.{Remains, remaining, less_one, less_all, over_aside, is_over}
use Rattle.lapin_confirm.specs.Machine.{after_mark}
use Rattle.lapin_reached.proofs.Own.{is_left, any_parts}

abbrev pub pending_in : ℕ → ConfirmState → ℕ
pending_in c p = pending_count c p.publish_states

pub le-self : (n : ℕ) → n ≤ n
le-self n = omega arith

less : (a b : Bool) → (a ≡ true → b ≡ true) → ◌≤◌ (cond a 1 0) (cond b 1 0)
less true true h = omega arith
less true false h = let no : false ≡ true = h refl in absurd cc
less false true h = omega arith
less false false h = omega arith

module _ {X : Type 0} (p : X → Bool) where
  count-fewer : (f : X → X) → ((x : X) → p (f x) ≡ true → p x ≡ true) → (xs : List X) → count_by p (map f xs) ≤ count_by p xs
  count-fewer f h [] = omega arith
  count-fewer f h (x ∷ xs) =
      let rest : count_by p (map f xs) ≤ count_by p xs = count-fewer f h xs in
      let one : ◌≤◌ (cond (p (f x)) 1 0) (cond (p x) 1 0) = less (p (f x)) (p x) (h x) in
      omega (arith, count-cons p (f x) (map f xs), count-cons p x xs, rest, one)

  count-unset : (i : ℕ) (o : X) (xs : List X) → p o ≡ false → count_by p (slice_set xs i o) ≤ count_by p xs
  count-unset i o [] h = omega arith
  count-unset zero o (x ∷ xs) h =
      let none : ◌≡◌ {A = ℕ} (cond (p o) 1 0) 0 = rw h refl in
      omega (arith, count-cons p o xs, count-cons p x xs, none)
  count-unset (suc i) o (x ∷ xs) h =
      let rest : count_by p (slice_set xs i o) ≤ count_by p xs = count-unset i o xs h in
      omega (arith, count-cons p x (slice_set xs i o), count-cons p x xs, rest)

pub count-unwritten : (p : Option Cell → Bool) (n : ℕ) (o : Option Cell) (cells : List (Option Cell)) → p o ≡ false → count_by p (with_under n o cells) ≤ count_by p cells
count-unwritten p zero o cells h = omega arith
count-unwritten p (suc i) o cells h = count-unset p i o cells h

-- ---- what became of a cell was pending before

settled_was : (c d : ℕ) (covered : ℕ → Bool) (o : Outcome) (x : Option Cell) → is_pending_on c (option_map (settled_cell d covered o) x) ≡ true → is_pending_on c x ≡ true
settled_was c d covered o None h = h
settled_was c d covered o (Some (cell.Queued e)) h = h
settled_was c d covered o (Some (cell.Resolved y)) h = h
settled_was c d covered o (Some (cell.Pending e t)) h = elim (e == d && covered t) as (λ b. is_pending_on c (Some (cond b (cell.Resolved o) (cell.Pending e t))) ≡ true → (e == c) ≡ true) [
  | true ↦ λ g. cc
  | false ↦ λ g. g
] h

closed_was : (c d : ℕ) (x : Error) (o : Option Cell) → is_pending_on c (option_map (closed_cell d x) o) ≡ true → is_pending_on c o ≡ true
closed_was c d x None h = h
closed_was c d x (Some (cell.Pending e t)) h = h
closed_was c d x (Some (cell.Resolved y)) h = h
closed_was c d x (Some (cell.Queued e)) h = elim (e == d) as (λ b. is_pending_on c (Some (cond b (cell.Resolved (outcome.Failed x)) (cell.Queued e))) ≡ true → false ≡ true) [
  | true ↦ λ g. g
  | false ↦ λ g. g
] h

ended_was : (c d : ℕ) (x : Error) (o : Option Cell) → is_pending_on c (option_map (ended_cell d x) o) ≡ true → is_pending_on c o ≡ true
ended_was c d x None h = h
ended_was c d x (Some (cell.Resolved y)) h = h
ended_was c d x (Some (cell.Queued e)) h = elim (e == d) as (λ b. is_pending_on c (Some (cond b (cell.Resolved (outcome.Failed x)) (cell.Queued e))) ≡ true → false ≡ true) [
  | true ↦ λ g. g
  | false ↦ λ g. g
] h
ended_was c d x (Some (cell.Pending e t)) h = elim (e == d) as (λ b. is_pending_on c (Some (cond b (cell.Resolved (outcome.Failed x)) (cell.Pending e t))) ≡ true → (e == c) ≡ true) [
  | true ↦ λ g. cc
  | false ↦ λ g. g
] h

-- ---- confirms that are let go

less_one_fewer : (c n : ℕ) (r : Remains) → count_by (is_pending_on c) (less_one n r).cells ≤ count_by (is_pending_on c) r.cells
less_one_fewer c n r = elim (is_over r.cells n) as (λ b. ◌≤◌ (count_by (is_pending_on c) (cond b (record { cells = with_under n None r.cells; origins = with_under n None r.origins }) r).cells) (count_by (is_pending_on c) r.cells)) [
  | true ↦ count-unwritten (is_pending_on c) n None r.cells refl
  | false ↦ le-self (count_by (is_pending_on c) r.cells)
]

less_all_fewer : (c : ℕ) (ns : List ℕ) (r : Remains) → count_by (is_pending_on c) (less_all ns r).cells ≤ count_by (is_pending_on c) r.cells
less_all_fewer c [] r = le-self (count_by (is_pending_on c) r.cells)
less_all_fewer c (n ∷ ns) r =
    let rest : count_by (is_pending_on c) (less_all ns (less_one n r)).cells ≤ count_by (is_pending_on c) (less_one n r).cells = less_all_fewer c ns (less_one n r) in
    let one : count_by (is_pending_on c) (less_one n r).cells ≤ count_by (is_pending_on c) r.cells = less_one_fewer c n r in
    omega (arith, rest, one)

-- ---- every mark but that of a publish that leaves

pub mark_fewer : (c : ℕ) (p : ConfirmState) (m : ConfirmMark) → is_left m ≡ false → pending_in c (after_mark p m) ≤ pending_in c p
mark_fewer c p (mark.Begun d) h = less_all_fewer c (return_lists_at d p).aside (remaining p.publish_states.cells p.origins)
mark_fewer c p (mark.SelectCalled d) h = le-self (pending_in c p)
mark_fewer c p (mark.LimitSet d n) h = le-self (pending_in c p)
mark_fewer c p (mark.Added d) h = let more : pending_in c (after_mark p (mark.Added d)) ≡ pending_in c p + 0 = count-push (is_pending_on c) p.publish_states.cells (Some (cell.Queued d)) in omega (arith, more)
mark_fewer c p (mark.SelectLeft d) h = le-self (pending_in c p)
mark_fewer c p (mark.Left d n) h = absurd cc
mark_fewer c p (mark.Settled d s) h = count-fewer (is_pending_on c) (option_map (settled_cell d (covers s) (outcome_of s))) (settled_was c d (covers s) (outcome_of s)) p.publish_states.cells
mark_fewer c p (mark.Arrived d m) h = le-self (pending_in c p)
mark_fewer c p (mark.ClosedHere d e) h = count-fewer (is_pending_on c) (option_map (closed_cell d e)) (closed_was c d e) p.publish_states.cells
mark_fewer c p (mark.Ended d e) h = count-fewer (is_pending_on c) (option_map (ended_cell d e)) (ended_was c d e) p.publish_states.cells
mark_fewer c p (mark.Taken n) h = count-unwritten (is_pending_on c) n None p.publish_states.cells refl
mark_fewer c p (mark.SetAside n) h = elim (is_resolved (under n p.publish_states.cells)) as (λ b. ◌≤◌ (pending_in c (cond b (kept_by n p) (laid_by n p))) (pending_in c p)) [
  | true ↦ count-unwritten (is_pending_on c) n None p.publish_states.cells refl
  | false ↦ le-self (pending_in c p)
]
mark_fewer c p (mark.Drained d) h = less_all_fewer c (over_aside d p) (remaining p.publish_states.cells p.origins)

pub marks_fewer : (c : ℕ) (p : ConfirmState) (ms : List ConfirmMark) → list_any is_left ms ≡ false → pending_in c (fold after_mark p ms) ≤ pending_in c p
marks_fewer c p [] h = le-self (pending_in c p)
marks_fewer c p (m ∷ ms) h =
    let parts = any_parts (is_left m) (list_any is_left ms) h in
    let one : pending_in c (after_mark p m) ≤ pending_in c p = mark_fewer c p m parts.0 in
    let rest : pending_in c (fold after_mark (after_mark p m) ms) ≤ pending_in c (after_mark p m) = marks_fewer c (after_mark p m) ms parts.1 in
    omega (arith, one, rest)
