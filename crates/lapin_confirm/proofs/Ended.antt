-- What the end of an opening makes of the cells.
use Rattle.std.proofs.Common.{◌≡◌, ◌≢◌, ℕ, zero, suc, ◌<◌, ◌≤◌, ◌==◌, Bool, true, false, cond, ◌||◌, List, [], ◌∷◌, map, Option, Some, None, refl, sym, ◌∙◌, ap, subst, arith, inl, inr, eq-eqb, ne_eqb}
use Rattle.std.specs.Bool.{if◌then◌else◌}
use Rattle.std.specs.List.{count_by, list_any}
use Rattle.std.specs.Option.{option_map}
use Rattle.std.proofs.lemmas.Bool.Decides.{eqb_tells}
use Rattle.lapin_types.specs.declared.Error.{Error}
use Rattle.lapin_types.specs.declared.outcome.Outcome.{Outcome}
use Rattle.lapin_types.specs.declared.outcome.Outcome.TheVariants as outcome
use Rattle.lapin_tables.specs.Numbered.{under, with_under}
use Rattle.lapin_tables.proofs.Counts.{count-none}
use Rattle.lapin_tables.proofs.SlotLaws.{under-same, under-other, under-map, counted, map-same}
use Rattle.lapin_confirm.specs.declared.cell.Cell.{Cell}
use Rattle.lapin_confirm.specs.declared.cell.Cell.TheVariants as cell
use Rattle.lapin_confirm.specs.declared.confirm_mode.ConfirmMode.{ConfirmMode}
use Rattle.lapin_confirm.specs.PublishStates.{PublishStates, is_queued_on, is_open_on, settled_cell, ended_cell, ended}
use Rattle.lapin_confirm.specs.Ties.{Tied, Untouched}
use Rattle.lapin_confirm.proofs.Settled.{none-under, settled-untouched}

-- an end settles all that is pending, where nothing is queued
pub ended-settled : (c : ℕ) (p : ℕ → Bool) (e : Error) (cells : List (Option Cell)) → count_by (is_queued_on c) cells ≡ 0 → ((n t : ℕ) → under n cells ≡ Some (cell.Pending c t) → p t ≡ true) → map (option_map (settled_cell c p (outcome.Failed e))) cells ≡ map (option_map (ended_cell c e)) cells
ended-settled c p e cells none all = map-same (settled_cell c p (outcome.Failed e)) (ended_cell c e) cells same
  where
    same : (k : ℕ) (x : Cell) → under (suc k) cells ≡ Some x → settled_cell c p (outcome.Failed e) x ≡ ended_cell c e x
    same k (cell.Queued d) there =
        elim (eqb_tells d c) [
          | inl here ↦ let one : 1 ≤ count_by (is_queued_on c) cells = counted (is_queued_on c) (suc k) (cell.Queued d) cells there here.0 in absurd (omega arith)
          | inr away ↦ rw away.0 refl
        ]
    same k (cell.Pending d t) there =
        elim (eqb_tells d c) [
          | inl here ↦ let of : p t ≡ true = all (suc k) t (there ∙ ap (λ a. Some (cell.Pending a t)) here.1) in rw (here.0, of) refl
          | inr away ↦ rw away.0 refl
        ]
    same k (cell.Resolved o) there = refl

-- a channel without a confirm mode
pub ended-untouched : (c : ℕ) (e : Error) (cells : List (Option Cell)) → Untouched c cells → map (option_map (ended_cell c e)) cells ≡ cells
ended-untouched c e cells none = sym (ended-settled c (λ _. true) e cells none.queued (λ n t there. refl)) ∙ settled-untouched c (λ _. true) (outcome.Failed e) cells none

pub map-with : {T U : Type 0} (f : Option T → U) (n : ℕ) (o : Option T) (x : T) (xs : List (Option T)) → under n xs ≡ Some x → f o ≡ f (Some x) → map f (with_under n o xs) ≡ map f xs
map-with f zero o x xs was same = cc
map-with f (suc k) o x [] was same = cc
map-with f (suc zero) o x (p ∷ xs) was same = ap (λ y. y ∷ map f xs) (same ∙ ap f (sym was))
map-with f (suc (suc k)) o x (p ∷ xs) was same = ap (λ ys. f p ∷ ys) (map-with f (suc k) o x xs was same)

-- a publish that was rejected first
pub ended-rejected : (c n : ℕ) (e : Error) (cells : List (Option Cell)) → under n cells ≡ Some (cell.Queued c) → map (option_map (ended_cell c e)) (with_under n (Some (cell.Resolved (outcome.Failed e))) cells) ≡ map (option_map (ended_cell c e)) cells
ended-rejected c n e cells was = map-with (option_map (ended_cell c e)) n (Some (cell.Resolved (outcome.Failed e))) (cell.Queued c) cells was (rw (eq-eqb c c refl) refl)

not_queued : (c : ℕ) (y : Cell) → (y ≡ cell.Queued c → ⊥) → is_queued_on c (Some y) ≡ false
not_queued c (cell.Queued d) other = ne_eqb d c (λ e. other (ap cell.Queued e))
not_queued c (cell.Pending d t) other = refl
not_queued c (cell.Resolved o) other = refl

-- no publish is queued, where none has a number
pub none_queued : (c : ℕ) (cells : List (Option Cell)) → ((n : ℕ) → under n cells ≡ Some (cell.Queued c) → n ≤ 0) → count_by (is_queued_on c) cells ≡ 0
none_queued c cells none = count-none (is_queued_on c) cells (none-under (is_queued_on c) cells refl (λ k y there. not_queued c y (λ is. let below : suc k ≤ 0 = none (suc k) (there ∙ ap Some is) in omega arith)))

-- and one that has, where one is counted
pub number-left : (c number : ℕ) (l : ConfirmMode) (cells : List (Option Cell)) → Tied c l cells → 0 < l.queued → ((n : ℕ) → under n cells ≡ Some (cell.Queued c) → n ≤ number) → 1 ≤ number
number-left c zero l cells tied more below = let none : count_by (is_queued_on c) cells ≡ 0 = none_queued c cells below in absurd (omega (arith, tied.queued))
number-left c (suc k) l cells tied more below = omega arith

-- what is queued after one publish was rejected is another and was
pub still-queued : (c n m : ℕ) (x : Outcome) (cells : List (Option Cell)) → under n cells ≡ Some (cell.Queued c) → under m (with_under n (Some (cell.Resolved x)) cells) ≡ Some (cell.Queued c) → (m ≢ n) × (under m cells ≡ Some (cell.Queued c))
still-queued c n m x cells was there = (other, sym (under-other m n (Some (cell.Resolved x)) cells other) ∙ there)
  where
    other : m ≢ n
    other same =
        let P : ℕ → Type 0 = λ j. under j (with_under n (Some (cell.Resolved x)) cells) ≡ Some (cell.Queued c) in
        let no : Some (cell.Resolved x) ≡ Some (cell.Queued c) = sym (under-same n (Some (cell.Resolved x)) (cell.Queued c) cells was) ∙ subst P same there in
        cc

-- ---- what is open after an end

-- a channel has nothing open after an end of its own
same_channel : (x c d : ℕ) → x ≡ d → false ≡ cond (d == c) false (x == c)
same_channel x c d same =
    let P : ℕ → Type 0 = λ y. false ≡ cond (d == c) false (y == c) in
    subst P (sym same) (elim (d == c) as (λ b. false ≡ cond b false b) [ true ↦ refl | false ↦ refl ])

-- and after an end of another what it had
other_channel : (x c d : ℕ) → x ≢ d → (x == c) ≡ cond (d == c) false (x == c)
other_channel x c d apart =
    elim (eqb_tells d c) [
      | inl here ↦ rw here.0 (ne_eqb x c (λ same. apart (same ∙ sym here.1)))
      | inr away ↦ rw away.0 refl
    ]

open-ended : (c d : ℕ) (e : Error) (o : Option Cell) → is_open_on c (option_map (ended_cell d e) o) ≡ cond (d == c) false (is_open_on c o)
open-ended c d e None = elim (d == c) as (λ b. false ≡ cond b false false) [ true ↦ refl | false ↦ refl ]
open-ended c d e (Some (cell.Queued x)) = elim (eqb_tells x d) [ inl same ↦ rw same.0 (same_channel x c d same.1) | inr away ↦ rw away.0 (other_channel x c d away.1) ]
open-ended c d e (Some (cell.Pending x t)) = elim (eqb_tells x d) [ inl same ↦ rw same.0 (same_channel x c d same.1) | inr away ↦ rw away.0 (other_channel x c d away.1) ]
open-ended c d e (Some (cell.Resolved o)) = elim (d == c) as (λ b. false ≡ cond b false false) [ true ↦ refl | false ↦ refl ]

any_cell-ended : (c d : ℕ) (e : Error) (cells : List (Option Cell)) → list_any (is_open_on c) (map (option_map (ended_cell d e)) cells) ≡ cond (d == c) false (list_any (is_open_on c) cells)
any_cell-ended c d e [] = elim (d == c) as (λ b. false ≡ cond b false false) [ true ↦ refl | false ↦ refl ]
any_cell-ended c d e (o ∷ cells) =
    rw (open-ended c d e o, any_cell-ended c d e cells)
    (elim (d == c) as (λ b. (cond b false (is_open_on c o) || cond b false (list_any (is_open_on c) cells)) ≡ cond b false (is_open_on c o || list_any (is_open_on c) cells)) [ true ↦ refl | false ↦ refl ])

-- whether anything of channel c is open after the end of channel d's opening
pub any-ended : (c d : ℕ) (e : Error) (b : PublishStates) → list_any (is_open_on c) (ended d e b).cells ≡ (if d == c then false else list_any (is_open_on c) b.cells)
any-ended c d e b = any_cell-ended c d e b.cells

-- a queued publish of another channel stays as it is
pub queued-beside : (c d n : ℕ) (e : Error) (b : PublishStates) → under n b.cells ≡ Some (cell.Queued c) → d ≢ c → under n (ended d e b).cells ≡ Some (cell.Queued c)
queued-beside c d n e b was apart =
    let away : (c == d) ≡ false = ne_eqb c d (λ same. apart (sym same)) in
    under-map (ended_cell d e) n b.cells ∙ ap (option_map (ended_cell d e)) was ∙ rw away refl
