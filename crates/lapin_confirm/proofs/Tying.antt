-- A confirm mode and the cells stay tied as one cell changes.
use Rattle.std.proofs.Common.{◌≡◌, ◌≢◌, ℕ, ◌+◌, ◌≤◌, ◌==◌, Bool, true, false, cond, List, [], ◌∷◌, ◌++◌, length, Option, Some, None, refl, sym, ◌∙◌, ap, subst, arith, ◌⊎◌, inl, inr, eq-eqb, ne_eqb}
use Rattle.std.proofs.lemmas.List.{length_push}
use Rattle.std.specs.List.{count_by}
use Rattle.std.proofs.lemmas.Bool.Decides.{eqb_tells}
use Rattle.lapin_types.specs.declared.outcome.Outcome.{Outcome}
use Rattle.lapin_types.specs.declared.outcome.Outcome.TheVariants as outcome
use Rattle.std.specs.Prelude.{is_some}
use Rattle.lapin_tables.specs.Numbered.{under, with_under}
use Rattle.lapin_tables.proofs.Counts.{count-cons}
use Rattle.lapin_tables.proofs.SlotLaws.{under-same, under-other, length-with, count-with, counted, under-push, under-last, under-pushed}
use Rattle.lapin_confirm.specs.declared.cell.Cell.{Cell}
use Rattle.lapin_confirm.specs.declared.cell.Cell.TheVariants as cell
use Rattle.lapin_confirm.specs.declared.confirm_mode.ConfirmMode.{ConfirmMode}
use Rattle.lapin_confirm.specs.PublishStates.{is_queued_on, is_pending_on, is_open_on, tag_for, cell_with}
use Rattle.lapin_confirm.specs.Ties.{Tied, Untouched, TiedAt, confirm_mode_state}

-- ---- a cell that is not open on a channel

pub closed-queued : (d : ℕ) (o : Option Cell) → is_open_on d o ≡ false → is_queued_on d o ≡ false
closed-queued d None h = refl
closed-queued d (Some (cell.Queued e)) h = h
closed-queued d (Some (cell.Pending e t)) h = refl
closed-queued d (Some (cell.Resolved x)) h = refl

pub closed-pending : (d : ℕ) (o : Option Cell) → is_open_on d o ≡ false → is_pending_on d o ≡ false
closed-pending d None h = refl
closed-pending d (Some (cell.Queued e)) h = refl
closed-pending d (Some (cell.Pending e t)) h = h
closed-pending d (Some (cell.Resolved x)) h = refl

pub closed-apart : (d t : ℕ) (o : Option Cell) → is_open_on d o ≡ false → o ≡ Some (cell.Pending d t) → ⊥
closed-apart d t o h e =
    let P : Option Cell → Type 0 = λ p. is_open_on d p ≡ false in
    let no : true ≡ false = sym (eq-eqb d d refl) ∙ subst P e h in
    cc

-- ---- one cell changes

-- what a change of cell n from x to o has to keep on channel c
pub record Change (c n : ℕ) (x : Cell) (o : Option Cell) (l k : ConfirmMode) (cells : List (Option Cell)) : Type 0 where
  pub was : under n cells ≡ Some x
  pub here : (t : ℕ) → o ≡ Some (cell.Pending c t) → under t k.tags.slots ≡ Some n
  pub kept : (m t : ℕ) → m ≢ n → under t l.tags.slots ≡ Some m → under t k.tags.slots ≡ Some m
  pub back : (m t : ℕ) → under t k.tags.slots ≡ Some m → ((m ≡ n) × (o ≡ Some (cell.Pending c t))) ⊎ ((m ≢ n) × (under t l.tags.slots ≡ Some m))
  pub queued : k.queued + cond (is_queued_on c (Some x)) 1 0 ≡ l.queued + cond (is_queued_on c o) 1 0
  pub pending : k.pending + cond (is_pending_on c (Some x)) 1 0 ≡ l.pending + cond (is_pending_on c o) 1 0
  pub room : k.queued ≤ k.tags.spare
  pub numbers : length k.tags.slots + k.queued ≤ length cells

pub tied-change : (c n : ℕ) (x : Cell) (o : Option Cell) (l k : ConfirmMode) (cells : List (Option Cell)) → Tied c l cells → Change c n x o l k cells → Tied c k (with_under n o cells)
tied-change c n x o l k cells tied change = record {
  named = λ m t there.
      elim (eqb_tells m n) [
        | inl same ↦
            let P : ℕ → Type 0 = λ j. under j (with_under n o cells) ≡ Some (cell.Pending c t) in
            let is : o ≡ Some (cell.Pending c t) = sym (under-same n o x cells change.was) ∙ subst P same.1 there in
            change.here t is ∙ ap Some (sym same.1)
        | inr other ↦ change.kept m t other.1 (tied.named m t (sym (under-other m n o cells other.1) ∙ there))
      ];
  waits = λ m t there.
      elim (change.back m t there) [
        | inl here ↦
            let P : ℕ → Type 0 = λ j. under j (with_under n o cells) ≡ Some (cell.Pending c t) in
            subst P (sym here.0) (under-same n o x cells change.was ∙ here.1)
        | inr other ↦ under-other m n o cells other.0 ∙ tied.waits m t other.1
      ];
  queued =
      let step : count_by (is_queued_on c) (with_under n o cells) + cond (is_queued_on c (Some x)) 1 0 ≡ count_by (is_queued_on c) cells + cond (is_queued_on c o) 1 0 = count-with (is_queued_on c) n o x cells change.was in
      let before : count_by (is_queued_on c) cells ≡ l.queued = tied.queued in
      let after : k.queued + cond (is_queued_on c (Some x)) 1 0 ≡ l.queued + cond (is_queued_on c o) 1 0 = change.queued in
      omega arith;
  pending =
      let step : count_by (is_pending_on c) (with_under n o cells) + cond (is_pending_on c (Some x)) 1 0 ≡ count_by (is_pending_on c) cells + cond (is_pending_on c o) 1 0 = count-with (is_pending_on c) n o x cells change.was in
      let before : count_by (is_pending_on c) cells ≡ l.pending = tied.pending in
      let after : k.pending + cond (is_pending_on c (Some x)) 1 0 ≡ l.pending + cond (is_pending_on c o) 1 0 = change.pending in
      omega arith;
  room = change.room;
  numbers = rw (length-with n o cells) change.numbers;
}

-- what is pending under a number is not something else
apart : (c t m n : ℕ) (x : Cell) (l : ConfirmMode) (cells : List (Option Cell)) → Tied c l cells → under n cells ≡ Some x → (x ≡ cell.Pending c t → ⊥) → under t l.tags.slots ≡ Some m → m ≢ n
apart c t m n x l cells tied was not there same =
    let P : ℕ → Type 0 = λ j. under j cells ≡ Some (cell.Pending c t) in
    let waits : under n cells ≡ Some (cell.Pending c t) = subst P same (tied.waits m t there) in
    let both : Some x ≡ Some (cell.Pending c t) = sym was ∙ waits in
    not cc

-- a cell that is of no matter to the channel, before and after
pub tied-other : (d n : ℕ) (x : Cell) (o : Option Cell) (l : ConfirmMode) (cells : List (Option Cell)) → under n cells ≡ Some x → is_open_on d (Some x) ≡ false → is_open_on d o ≡ false → Tied d l cells → Tied d l (with_under n o cells)
tied-other d n x o l cells was before after tied =
    tied-change d n x o l l cells tied (record {
      was = was;
      here = λ t is. absurd (closed-apart d t o after is);
      kept = λ m t other there. there;
      back = λ m t there. inr (apart d t m n x l cells tied was (λ e. closed-apart d t (Some x) before (ap Some e)) there, there);
      queued = rw (closed-queued d (Some x) before, closed-queued d o after) refl;
      pending = rw (closed-pending d (Some x) before, closed-pending d o after) refl;
      room = tied.room;
      numbers = tied.numbers;
    })

pub untouched-other : (d n : ℕ) (x : Cell) (o : Option Cell) (cells : List (Option Cell)) → under n cells ≡ Some x → is_open_on d (Some x) ≡ false → is_open_on d o ≡ false → Untouched d cells → Untouched d (with_under n o cells)
untouched-other d n x o cells was before after none = record {
  queued =
      let step : count_by (is_queued_on d) (with_under n o cells) + 0 ≡ count_by (is_queued_on d) cells + 0 = rw (closed-queued d (Some x) before, closed-queued d o after) at (count-with (is_queued_on d) n o x cells was) in
      let zero_before : count_by (is_queued_on d) cells ≡ 0 = none.queued in
      omega arith;
  pending =
      let step : count_by (is_pending_on d) (with_under n o cells) + 0 ≡ count_by (is_pending_on d) cells + 0 = rw (closed-pending d (Some x) before, closed-pending d o after) at (count-with (is_pending_on d) n o x cells was) in
      let zero_before : count_by (is_pending_on d) cells ≡ 0 = none.pending in
      omega arith;
}

pub tied_at-other : (d n : ℕ) (x : Cell) (o : Option Cell) (l : Option ConfirmMode) (cells : List (Option Cell)) → under n cells ≡ Some x → is_open_on d (Some x) ≡ false → is_open_on d o ≡ false → TiedAt d l cells → TiedAt d l (with_under n o cells)
tied_at-other d n x o None cells was before after tied = untouched-other d n x o cells was before after tied
tied_at-other d n x o (Some l) cells was before after tied = tied-other d n x o l cells was before after tied

-- ---- a publish leaves

-- it takes the next tag
pub tied-tagged : (c n : ℕ) (l k : ConfirmMode) (cells : List (Option Cell)) → Tied c l cells → under n cells ≡ Some (cell.Queued c) → k.tags.slots ≡ l.tags.slots ++ Some n ∷ [] → k.queued + 1 ≡ l.queued → k.pending ≡ l.pending + 1 → k.queued ≤ k.tags.spare → Tied c k (with_under n (Some (cell.Pending c (length l.tags.slots + 1))) cells)
tied-tagged c n l k cells tied was tags queued pending room =
    let one : (c == c) ≡ true = eq-eqb c c refl in
    let numbers : length l.tags.slots + l.queued ≤ length cells = tied.numbers in
    let longer : length k.tags.slots ≡ length l.tags.slots + 1 = ap length tags ∙ length_push l.tags.slots (Some n) in
    tied-change c n (cell.Queued c) (Some (cell.Pending c (length l.tags.slots + 1))) l k cells tied (record {
      was = was;
      here = λ t is. let same : t ≡ length l.tags.slots + 1 = cc in rw tags (under-last t (Some n) l.tags.slots same);
      kept = λ m t other there. rw tags (under-push t (Some n) m l.tags.slots there);
      back = λ m t there.
          elim (under-pushed t (Some n) m l.tags.slots (rw tags at there)) [
            | inl old ↦ inr (apart c t m n (cell.Queued c) l cells tied was (λ e. cc) old, old)
            | inr new ↦ let last : t ≡ length l.tags.slots + 1 = new.0 in let number : Some n ≡ Some m = new.1 in inl (cc, cc)
          ];
      queued = rw one (omega arith);
      pending = rw one (omega arith);
      room = room;
      numbers = omega arith;
    })

-- it takes none
pub tied-untagged : (c n : ℕ) (x : Outcome) (l k : ConfirmMode) (cells : List (Option Cell)) → Tied c l cells → under n cells ≡ Some (cell.Queued c) → k.tags.slots ≡ l.tags.slots → k.queued + 1 ≡ l.queued → k.pending ≡ l.pending → k.queued ≤ k.tags.spare → Tied c k (with_under n (Some (cell.Resolved x)) cells)
tied-untagged c n x l k cells tied was tags queued pending room =
    let one : (c == c) ≡ true = eq-eqb c c refl in
    let numbers : length l.tags.slots + l.queued ≤ length cells = tied.numbers in
    let as_long : length k.tags.slots ≡ length l.tags.slots = ap length tags in
    tied-change c n (cell.Queued c) (Some (cell.Resolved x)) l k cells tied (record {
      was = was;
      here = λ t is. cc;
      kept = λ m t other there. rw tags there;
      back = λ m t there. let old : under t l.tags.slots ≡ Some m = rw tags at there in inr (apart c t m n (cell.Queued c) l cells tied was (λ e. cc) old, old);
      queued = rw one (omega arith);
      pending = omega arith;
      room = room;
      numbers = omega arith;
    })

-- ---- a tag is settled

pub tied-settled : (c n u : ℕ) (x : Outcome) (l k : ConfirmMode) (cells : List (Option Cell)) → Tied c l cells → under u l.tags.slots ≡ Some n → k.tags.slots ≡ with_under u None l.tags.slots → k.queued ≡ l.queued → k.pending + 1 ≡ l.pending → k.queued ≤ k.tags.spare → Tied c k (with_under n (Some (cell.Resolved x)) cells)
tied-settled c n u x l k cells tied named tags queued pending room =
    let one : (c == c) ≡ true = eq-eqb c c refl in
    let was : under n cells ≡ Some (cell.Pending c u) = tied.waits n u named in
    let numbers : length l.tags.slots + l.queued ≤ length cells = tied.numbers in
    let as_long : length k.tags.slots ≡ length l.tags.slots = ap length tags ∙ length-with u None l.tags.slots in
    tied-change c n (cell.Pending c u) (Some (cell.Resolved x)) l k cells tied (record {
      was = was;
      here = λ t is. cc;
      kept = λ m t other there.
          let elsewhere : t ≢ u = λ same. let P : ℕ → Type 0 = λ v. under v l.tags.slots ≡ Some m in let there_too : under u l.tags.slots ≡ Some m = subst P same there in other cc in
          rw tags (under-other t u None l.tags.slots elsewhere ∙ there);
      back = λ m t there.
          elim (eqb_tells t u) [
            | inl same ↦
                let P : ℕ → Type 0 = λ v. under v (with_under u None l.tags.slots) ≡ Some m in
                let gone : None ≡ Some m = sym (under-same u None n l.tags.slots named) ∙ subst P same.1 (rw tags at there) in
                cc
            | inr other ↦
                let old : under t l.tags.slots ≡ Some m = sym (under-other t u None l.tags.slots other.1) ∙ rw tags at there in
                inr (apart c t m n (cell.Pending c u) l cells tied was (λ e. other.1 cc) old, old)
          ];
      queued = omega arith;
      pending = rw one (omega arith);
      room = room;
      numbers = omega arith;
    })

-- ---- as a publish leaves

pub tied-left : (c n : ℕ) (t : Option ℕ) (l k : ConfirmMode) (cells : List (Option Cell)) → Tied c l cells → under n cells ≡ Some (cell.Queued c) → t ≡ tag_for (Some (confirm_mode_state l)) → k.tags.slots ≡ cond (is_some t) (l.tags.slots ++ Some n ∷ []) l.tags.slots → k.queued + 1 ≡ l.queued → k.pending ≡ cond (is_some t) (l.pending + 1) l.pending → k.queued ≤ k.tags.spare → Tied c k (with_under n (Some (cell_with c t)) cells)
tied-left c n None l k cells tied was tag tags queued pending room = tied-untagged c n outcome.NotRequested l k cells tied was tags queued pending room
tied-left c n (Some u) l k cells tied was tag tags queued pending room =
    let P : ℕ → Type 0 = λ v. Tied c k (with_under n (Some (cell.Pending c v)) cells) in
    subst P (sym (next l.selected tag)) (tied-tagged c n l k cells tied was tags queued pending room)
  where
    next : (b : Bool) → Some u ≡ cond b (Some (length l.tags.slots + 1)) None → u ≡ length l.tags.slots + 1
    next true h = cc
    next false h = cc

-- a publish is not pending and queued at once
pub counts_fit : (c : ℕ) (cells : List (Option Cell)) → count_by (is_pending_on c) cells + count_by (is_queued_on c) cells ≤ length cells
counts_fit c [] = omega arith
counts_fit c (o ∷ cells) =
    let rest : count_by (is_pending_on c) cells + count_by (is_queued_on c) cells ≤ length cells = counts_fit c cells in
    omega (arith, count-cons (is_pending_on c) o cells, count-cons (is_queued_on c) o cells, one o)
  where
    one : (o : Option Cell) → cond (is_pending_on c o) 1 0 + cond (is_queued_on c o) 1 0 ≤ 1
    one None = omega arith
    one (Some (cell.Queued d)) = elim (d == c) as (λ b. 0 + cond b 1 0 ≤ 1) [ true ↦ omega arith | false ↦ omega arith ]
    one (Some (cell.Pending d t)) = elim (d == c) as (λ b. cond b 1 0 + 0 ≤ 1) [ true ↦ omega arith | false ↦ omega arith ]
    one (Some (cell.Resolved x)) = omega arith

-- a tag that waits is counted
pub waiting-counted : (c n u : ℕ) (l : ConfirmMode) (cells : List (Option Cell)) → Tied c l cells → under u l.tags.slots ≡ Some n → 1 ≤ l.pending
waiting-counted c n u l cells tied named =
    let one : 1 ≤ count_by (is_pending_on c) cells = counted (is_pending_on c) n (cell.Pending c u) cells (tied.waits n u named) (eq-eqb c c refl) in
    omega (arith, tied.pending)

-- what becomes of a cell that leaves is of no matter to another channel
pub left-closed : (c d : ℕ) (t : Option ℕ) → c ≢ d → is_open_on d (Some (cell_with c t)) ≡ false
left-closed c d None other = refl
left-closed c d (Some t) other = ne_eqb c d other

-- a publish that has not left is counted
pub queued-counted : (c n : ℕ) (l : ConfirmMode) (cells : List (Option Cell)) → Tied c l cells → under n cells ≡ Some (cell.Queued c) → 1 ≤ l.queued
queued-counted c n l cells tied was =
    let one : 1 ≤ count_by (is_queued_on c) cells = counted (is_queued_on c) n (cell.Queued c) cells was (eq-eqb c c refl) in
    omega (arith, tied.queued)
