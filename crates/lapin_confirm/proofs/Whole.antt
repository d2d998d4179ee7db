-- Every confirm mode stays tied as one channel's changes.
use Rattle.std.proofs.Common.{◌≡◌, ◌≢◌, ℕ, zero, suc, ◌+◌, ◌≤◌, ◌==◌, Bool, true, false, cond, ◌||◌, List, [], ◌∷◌, ◌++◌, map, length, Option, Some, None, refl, sym, ◌∙◌, ap, subst, arith, ◌⊎◌, inl, inr, eq-eqb, ne_eqb}
use Rattle.std.specs.List.{list_any, count_by}
use Rattle.std.specs.Option.{option_map, option_or}
use Rattle.std.proofs.lemmas.Bool.Decides.{eqb_tells}
use Rattle.std.proofs.lemmas.List.{length_push, length-map}
use Rattle.lapin_types.specs.declared.Error.{Error}
use Rattle.lapin_types.specs.declared.outcome.Outcome.{Outcome}
use Rattle.lapin_tables.specs.ByChannel.{at_channel, on_channel}
use Rattle.lapin_tables.specs.Numbered.{under}
use Rattle.lapin_tables.proofs.Channels.{at-push, at-on_same, at-on_other, or-none}
use Rattle.lapin_tables.proofs.Counts.{count-push, count-none, count-map}
use Rattle.lapin_tables.proofs.SlotLaws.{counted, under-push, under-pushed, under-map}
use Rattle.lapin_confirm.specs.declared.cell.Cell.{Cell}
use Rattle.lapin_confirm.specs.declared.cell.Cell.TheVariants as cell
use Rattle.lapin_confirm.specs.declared.confirm_mode.ConfirmMode.{ConfirmMode}
use Rattle.lapin_confirm.specs.PublishStates.{is_queued_on, is_pending_on, is_open_on, settled_cell, ended_cell}
use Rattle.lapin_confirm.specs.Ties.{IsFresh, Tied, Untouched, TiedAt, AllTied}
use Rattle.lapin_confirm.proofs.Tying.{closed-queued, closed-pending, closed-apart}

pub tied-of : (c : ℕ) (l : ConfirmMode) (es : List (ℕ × ConfirmMode)) (cells : List (Option Cell)) → at_channel c es ≡ Some l → AllTied es cells → Tied c l cells
tied-of c l es cells is all = let P : Option ConfirmMode → Type 0 = λ o. TiedAt c o cells in subst P is (all c)

pub untouched-of : (c : ℕ) (es : List (ℕ × ConfirmMode)) (cells : List (Option Cell)) → at_channel c es ≡ None → AllTied es cells → Untouched c cells
untouched-of c es cells is all = let P : Option ConfirmMode → Type 0 = λ o. TiedAt c o cells in subst P is (all c)

-- and nothing of it is queued
pub none-queued : (c n : ℕ) (es : List (ℕ × ConfirmMode)) (cells : List (Option Cell)) → at_channel c es ≡ None → AllTied es cells → under n cells ≡ Some (cell.Queued c) → ⊥
none-queued c n es cells is all there =
    let one : 1 ≤ count_by (is_queued_on c) cells = counted (is_queued_on c) n (cell.Queued c) cells there (eq-eqb c c refl) in
    let none : count_by (is_queued_on c) cells ≡ 0 = (untouched-of c es cells is all).queued in
    absurd (omega arith)

-- a change of one channel's confirm mode and of the cells
pub all-on : (c : ℕ) (l k : ConfirmMode) (es : List (ℕ × ConfirmMode)) (cells after : List (Option Cell)) → at_channel c es ≡ Some l → AllTied es cells → Tied c k after → ((d : ℕ) (o : Option ConfirmMode) → c ≢ d → TiedAt d o cells → TiedAt d o after) → AllTied (on_channel c (λ _. k) es) after
all-on c l k es cells after is all tied others d =
    elim (eqb_tells c d) [
      | inl same ↦
          let P : ℕ → Type 0 = λ e. TiedAt e (at_channel e (on_channel c (λ _. k) es)) after in
          let Q : Option ConfirmMode → Type 0 = λ o. TiedAt c o after in
          subst P same.1 (subst Q (sym (at-on_same c (λ _. k) es ∙ ap (option_map (λ _. k)) is)) tied)
      | inr other ↦
          let Q : Option ConfirmMode → Type 0 = λ o. TiedAt d o after in
          subst Q (sym (at-on_other c d (λ _. k) es other.1)) (others d (at_channel d es) other.1 (all d))
    ]

-- a new channel
pub all-push : (c : ℕ) (k : ConfirmMode) (es : List (ℕ × ConfirmMode)) (cells : List (Option Cell)) → at_channel c es ≡ None → AllTied es cells → Tied c k cells → AllTied (es ++ (c, k) ∷ []) cells
all-push c k es cells none all tied d =
    elim (eqb_tells c d) [
      | inl same ↦
          let P : ℕ → Type 0 = λ e. TiedAt e (at_channel e (es ++ (c, k) ∷ [])) cells in
          let Q : Option ConfirmMode → Type 0 = λ o. TiedAt c o cells in
          let found : at_channel c (es ++ (c, k) ∷ []) ≡ Some k = at-push c c k es ∙ added in
          subst P same.1 (subst Q (sym found) tied)
      | inr other ↦
          let Q : Option ConfirmMode → Type 0 = λ o. TiedAt d o cells in
          let found : at_channel d (es ++ (c, k) ∷ []) ≡ at_channel d es = at-push c d k es ∙ apart d other.0 in
          subst Q (sym found) (all d)
    ]
  where
    added : option_or (at_channel c es) (cond (c == c) (Some k) None) ≡ Some k
    added = rw (none, eq-eqb c c refl) refl

    apart : (d : ℕ) → (c == d) ≡ false → option_or (at_channel d es) (cond (c == d) (Some k) None) ≡ at_channel d es
    apart d other = rw other (or-none (at_channel d es))

-- ---- the confirm mode alone changes

-- what is known of the cells says nothing of the selection and of how much room there is
pub tied-room : (c : ℕ) (l k : ConfirmMode) (cells : List (Option Cell)) → Tied c l cells → k.tags.slots ≡ l.tags.slots → k.queued ≡ l.queued → k.pending ≡ l.pending → k.queued ≤ k.tags.spare → Tied c k cells
tied-room c l k cells tied tags queued pending room = record {
  named = λ n t there. rw tags (tied.named n t there);
  waits = λ n t there. tied.waits n t (rw tags at there);
  queued = tied.queued ∙ sym queued;
  pending = tied.pending ∙ sym pending;
  room = room;
  numbers = rw (tags, queued) tied.numbers;
}

-- other room alone
pub tied-roomier : (c : ℕ) (l k : ConfirmMode) (cells after : List (Option Cell)) → Tied c l cells → k ≡ record l { tags = k.tags } → k.tags.slots ≡ l.tags.slots → k.queued ≤ k.tags.spare → after ≡ cells → Tied c k after
tied-roomier c l k cells after tied rest tags room same =
    rw same (tied-room c l k cells tied tags (ap (λ (x : ConfirmMode). x.queued) rest) (ap (λ (x : ConfirmMode). x.pending) rest) room)

open-queued : (c : ℕ) (cells : List (Option Cell)) → list_any (is_open_on c) cells ≡ false → list_any (is_queued_on c) cells ≡ false
open-queued c [] none = refl
open-queued c (None ∷ cells) none = open-queued c cells none
open-queued c (Some (cell.Queued d) ∷ cells) none = elim (d == c) as (λ b. (b || list_any (is_open_on c) cells) ≡ false → (b || list_any (is_queued_on c) cells) ≡ false) [ true ↦ λ none. cc | false ↦ λ none. open-queued c cells none ] none
open-queued c (Some (cell.Pending d t) ∷ cells) none = elim (d == c) as (λ b. (b || list_any (is_open_on c) cells) ≡ false → list_any (is_queued_on c) cells ≡ false) [ true ↦ λ none. cc | false ↦ λ none. open-queued c cells none ] none
open-queued c (Some (cell.Resolved o) ∷ cells) none = open-queued c cells none

open-pending : (c : ℕ) (cells : List (Option Cell)) → list_any (is_open_on c) cells ≡ false → list_any (is_pending_on c) cells ≡ false
open-pending c [] none = refl
open-pending c (None ∷ cells) none = open-pending c cells none
open-pending c (Some (cell.Queued d) ∷ cells) none = elim (d == c) as (λ b. (b || list_any (is_open_on c) cells) ≡ false → list_any (is_pending_on c) cells ≡ false) [ true ↦ λ none. cc | false ↦ λ none. open-pending c cells none ] none
open-pending c (Some (cell.Pending d t) ∷ cells) none = elim (d == c) as (λ b. (b || list_any (is_open_on c) cells) ≡ false → (b || list_any (is_pending_on c) cells) ≡ false) [ true ↦ λ none. cc | false ↦ λ none. open-pending c cells none ] none
open-pending c (Some (cell.Resolved o) ∷ cells) none = open-pending c cells none

-- nothing is pending where none is counted
pub no_pending : (c n t : ℕ) (cells : List (Option Cell)) → count_by (is_pending_on c) cells ≡ 0 → under n cells ≡ Some (cell.Pending c t) → ⊥
no_pending c n t cells none there =
    let one : 1 ≤ count_by (is_pending_on c) cells = counted (is_pending_on c) n (cell.Pending c t) cells there (eq-eqb c c refl) in
    omega arith

-- a new opening's confirm mode
pub tied-fresh : (c : ℕ) (k : ConfirmMode) (cells : List (Option Cell)) → IsFresh k → list_any (is_open_on c) cells ≡ false → Tied c k cells
tied-fresh c k cells fresh none =
    let no_queued : count_by (is_queued_on c) cells ≡ 0 = count-none (is_queued_on c) cells (open-queued c cells none) in
    let none_pending : count_by (is_pending_on c) cells ≡ 0 = count-none (is_pending_on c) cells (open-pending c cells none) in
    let queued : k.queued ≡ 0 = fresh.queued in
    let tags : length k.tags.slots ≡ 0 = ap length fresh.tags in
    record {
      named = λ n t there. absurd (no_pending c n t cells none_pending there);
      waits = λ n t there. absurd (nothing n t (rw fresh.tags at there));
      queued = no_queued ∙ sym fresh.queued;
      pending = none_pending ∙ sym fresh.pending;
      room = omega arith;
      numbers = omega arith;
    }
  where
    nothing : (n t : ℕ) → under t [] ≡ Some n → ⊥
    nothing n zero h = cc
    nothing n (suc t) h = cc

-- ---- a publish joins

pub tied-joined : (c d : ℕ) (l k : ConfirmMode) (cells : List (Option Cell)) → Tied d l cells → k.tags.slots ≡ l.tags.slots → k.queued ≡ l.queued + cond (c == d) 1 0 → k.pending ≡ l.pending → k.queued ≤ k.tags.spare → Tied d k (cells ++ Some (cell.Queued c) ∷ [])
tied-joined c d l k cells tied tags queued pending room = record {
  named = λ n t there.
      elim (under-pushed n (Some (cell.Queued c)) (cell.Pending d t) cells there) [
        | inl old ↦ rw tags (tied.named n t old)
        | inr new ↦ let no : Some (cell.Queued c) ≡ Some (cell.Pending d t) = new.1 in cc
      ];
  waits = λ n t there. under-push n (Some (cell.Queued c)) (cell.Pending d t) cells (tied.waits n t (rw tags at there));
  queued = count-push (is_queued_on d) cells (Some (cell.Queued c)) ∙ rw (tied.queued, queued) refl;
  pending =
      let same : count_by (is_pending_on d) (cells ++ Some (cell.Queued c) ∷ []) ≡ count_by (is_pending_on d) cells + 0 = count-push (is_pending_on d) cells (Some (cell.Queued c)) in
      let before : count_by (is_pending_on d) cells ≡ l.pending = tied.pending in
      omega arith;
  room = room;
  numbers =
      let before : length l.tags.slots + l.queued ≤ length cells = tied.numbers in
      let longer : length (cells ++ Some (cell.Queued c) ∷ []) ≡ length cells + 1 = length_push cells (Some (cell.Queued c)) in
      let as_long : length k.tags.slots ≡ length l.tags.slots = ap length tags in
      let at_most : cond (c == d) 1 0 ≤ 1 = elim (c == d) as (λ b. cond b 1 0 ≤ 1) [ true ↦ omega arith | false ↦ omega arith ] in
      omega arith;
}

pub tied_at-joined : (c d : ℕ) (o : Option ConfirmMode) (cells : List (Option Cell)) → c ≢ d → TiedAt d o cells → TiedAt d o (cells ++ Some (cell.Queued c) ∷ [])
tied_at-joined c d None cells other none =
    let apart : (c == d) ≡ false = ne_eqb c d other in record {
      queued = count-push (is_queued_on d) cells (Some (cell.Queued c)) ∙ rw (none.queued, apart) refl;
      pending = count-push (is_pending_on d) cells (Some (cell.Queued c)) ∙ rw none.pending refl;
    }
tied_at-joined c d (Some l) cells other tied =
    let apart : (c == d) ≡ false = ne_eqb c d other in
    let queued : l.queued ≡ l.queued + cond (c == d) 1 0 = rw apart (omega arith) in
    tied-joined c d l l cells tied refl queued refl tied.room

-- ---- what becomes of another channel's cells

-- what becomes of cells is of no matter to channel d: each stays, or is not open there before and after
abbrev Spares : ℕ → (Cell → Cell) → Type 0
Spares d f = (x : Cell) → (f x ≡ x) ⊎ ((is_open_on d (Some x) ≡ false) × (is_open_on d (Some (f x)) ≡ false))

queued-kept : (d : ℕ) (f : Cell → Cell) → Spares d f → (o : Option Cell) → is_queued_on d (option_map f o) ≡ is_queued_on d o
queued-kept d f spares None = refl
queued-kept d f spares (Some x) = elim (spares x) [ inl same ↦ ap (λ y. is_queued_on d (Some y)) same | inr closed ↦ closed-queued d (Some (f x)) closed.1 ∙ sym (closed-queued d (Some x) closed.0) ]

pending-kept : (d : ℕ) (f : Cell → Cell) → Spares d f → (o : Option Cell) → is_pending_on d (option_map f o) ≡ is_pending_on d o
pending-kept d f spares None = refl
pending-kept d f spares (Some x) = elim (spares x) [ inl same ↦ ap (λ y. is_pending_on d (Some y)) same | inr closed ↦ closed-pending d (Some (f x)) closed.1 ∙ sym (closed-pending d (Some x) closed.0) ]

was_pending : (d t : ℕ) (f : Cell → Cell) → Spares d f → (o : Option Cell) → option_map f o ≡ Some (cell.Pending d t) → o ≡ Some (cell.Pending d t)
was_pending d t f spares None h = cc
was_pending d t f spares (Some x) h = elim (spares x) [ inl same ↦ ap Some (sym same) ∙ h | inr closed ↦ absurd (closed-apart d t (Some (f x)) closed.1 h) ]

stays_pending : (d t : ℕ) (f : Cell → Cell) → Spares d f → f (cell.Pending d t) ≡ cell.Pending d t
stays_pending d t f spares = elim (spares (cell.Pending d t)) [ inl same ↦ same | inr closed ↦ absurd (closed-apart d t (Some (cell.Pending d t)) closed.0 refl) ]

tied_at-mapped : (d : ℕ) (f : Cell → Cell) → Spares d f → (o : Option ConfirmMode) (cells : List (Option Cell)) → TiedAt d o cells → TiedAt d o (map (option_map f) cells)
tied_at-mapped d f spares None cells none = record {
  queued = count-map (is_queued_on d) (option_map f) cells (queued-kept d f spares) ∙ none.queued;
  pending = count-map (is_pending_on d) (option_map f) cells (pending-kept d f spares) ∙ none.pending;
}
tied_at-mapped d f spares (Some l) cells tied = record {
  named = λ n t there. tied.named n t (was_pending d t f spares (under n cells) (sym (under-map f n cells) ∙ there));
  waits = λ n t there. under-map f n cells ∙ ap (option_map f) (tied.waits n t there) ∙ ap Some (stays_pending d t f spares);
  queued = count-map (is_queued_on d) (option_map f) cells (queued-kept d f spares) ∙ tied.queued;
  pending = count-map (is_pending_on d) (option_map f) cells (pending-kept d f spares) ∙ tied.pending;
  room = tied.room;
  numbers = rw (length-map cells (option_map f)) tied.numbers;
}

-- a settlement of another channel
tied_at-settled : (c d : ℕ) (p : ℕ → Bool) (x : Outcome) (o : Option ConfirmMode) (cells : List (Option Cell)) → c ≢ d → TiedAt d o cells → TiedAt d o (map (option_map (settled_cell c p x)) cells)
tied_at-settled c d p x o cells other tied = tied_at-mapped d (settled_cell c p x) spares o cells tied
  where
    spares : Spares d (settled_cell c p x)
    spares (cell.Queued e) = inl refl
    spares (cell.Pending e t) =
        elim (eqb_tells e c) [
          | inl same ↦
              let apart : (e == d) ≡ false = ne_eqb e d (λ h. other (sym same.1 ∙ h)) in
              inr (apart, rw same.0 (elim (p t) as (λ b. is_open_on d (Some (cond b (cell.Resolved x) (cell.Pending e t))) ≡ false) [ true ↦ refl | false ↦ apart ]))
          | inr away ↦ inl (rw away.0 refl)
        ]
    spares (cell.Resolved y) = inl refl

-- a settlement
pub all-settled : (c : ℕ) (p : ℕ → Bool) (x : Outcome) (l k : ConfirmMode) (es : List (ℕ × ConfirmMode)) (cells after : List (Option Cell)) → at_channel c es ≡ Some l → AllTied es cells → Tied c k after → after ≡ map (option_map (settled_cell c p x)) cells → AllTied (on_channel c (λ _. k) es) after
all-settled c p x l k es cells after is all tied same = all-on c l k es cells after is all tied (λ d o other old. rw same (tied_at-settled c d p x o cells other old))

-- the end of another channel
pub tied_at-ended : (c d : ℕ) (e : Error) (o : Option ConfirmMode) (cells : List (Option Cell)) → c ≢ d → TiedAt d o cells → TiedAt d o (map (option_map (ended_cell c e)) cells)
tied_at-ended c d e o cells other tied = tied_at-mapped d (ended_cell c e) spares o cells tied
  where
    spares : Spares d (ended_cell c e)
    spares (cell.Queued f) = elim (eqb_tells f c) [ inl same ↦ inr (ne_eqb f d (λ h. other (sym same.1 ∙ h)), rw same.0 refl) | inr away ↦ inl (rw away.0 refl) ]
    spares (cell.Pending f t) = elim (eqb_tells f c) [ inl same ↦ inr (ne_eqb f d (λ h. other (sym same.1 ∙ h)), rw same.0 refl) | inr away ↦ inl (rw away.0 refl) ]
    spares (cell.Resolved y) = inl refl
