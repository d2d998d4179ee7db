-- Slots that follow a history follow the longer one after the machine's step.
use Rattle.std.proofs.Common.{◌≡◌, ℕ, zero, suc, ◌+◌, ◌<◌, ◌==◌, Bool, true, false, not, cond, ◌||◌, ◌&&◌, List, [], ◌∷◌, ◌++◌, length, map, Option, Some, None, Result, Ok, Err, option_map, refl, sym, ◌∙◌, ap, subst, arith, slice_get, slice_set, inl, inr, eq-eqb, ne_eqb, length-append}
use Rattle.std.proofs.lemmas.Bool.Decides.{eqb_tells}
use Rattle.std.proofs.lemmas.List.{length-map}
use Rattle.std.proofs.lemmas.Option.{get_or_from_slice_get}
use Rattle.std.specs.List.{list_any}
use Rattle.std.specs.Option.{option_or}
use Rattle.lapin_types.specs.declared.answer.Answer.{Answer}
use Rattle.lapin_types.specs.Types.{Error}
use Rattle.lapin_tables.specs.Numbered.{under, with_under}
use Rattle.lapin_tables.proofs.Lists.{get-set_same, get-set_other}
use Rattle.lapin_tables.proofs.SlotLaws.{length-with}
use Rattle.lapin_rules.specs.declared.marks.AtLeaving.{AtLeaving}
use Rattle.lapin_rules.specs.TicketReadings.{TicketMark, gives, given, channel_of, leaving_of, life, begins, is_publish, is_spared, answer_at, answer_by, first_answer, closes}
use Rattle.lapin_rules.specs.TicketReadings as mark
use Rattle.lapin_rules.proofs.ListLaws.{any-push, or_false}
use Rattle.lapin_rules.proofs.TicketLaws.{given-push, answer-push, nth-push, life-push, nth_new, life_new}
use Rattle.lapin_ticket.specs.declared.Slot.{Slot}
use Rattle.lapin_ticket.specs.declared.Slot.TheVariants as slot
use Rattle.lapin_ticket.specs.Slots.{after_mark, answered_slot, begun_slot, left_slot, held_or, closed_slot, failed_slot, failed}
use Rattle.lapin_ticket.specs.Follows.{Follows, held, slot_in, slot_of}

get-push_old : {X : Type 0} (xs : List X) (k : ℕ) (y : X) → k < length xs → slice_get (xs ++ y ∷ []) k ≡ slice_get xs k
get-push_old [] k y h = absurd (omega arith)
get-push_old (x ∷ xs) zero y h = refl
get-push_old (x ∷ xs) (suc k) y h = get-push_old xs k y (omega arith)

get-push_new : {X : Type 0} (xs : List X) (k : ℕ) (y : X) → k ≡ length xs → slice_get (xs ++ y ∷ []) k ≡ Some y
get-push_new [] zero y h = refl
get-push_new [] (suc k) y h = absurd (omega arith)
get-push_new (x ∷ xs) zero y h = absurd (omega arith)
get-push_new (x ∷ xs) (suc k) y h = get-push_new xs k y (omega arith)

get-map : {X Y : Type 0} (f : X → Y) (xs : List X) (k : ℕ) (x : X) → slice_get xs k ≡ Some x → slice_get (map f xs) k ≡ Some (f x)
get-map f [] k x h = cc
get-map f (y ∷ xs) zero x h = let same : y ≡ x = cc in ap (λ z. Some (f z)) same
get-map f (y ∷ xs) (suc k) x h = get-map f xs k x h

-- what a mark does to the slot of ticket n
abbrev pub slot_after : ℕ → TicketMark → Option Slot → Option Slot
slot_after n (mark.Begun j) o = cond (j == n) (begun_slot o) o
slot_after n (mark.LastLeft j) o = cond (j == n) (left_slot o) o
slot_after n (mark.Answered j a) o = cond (j == n) (answered_slot a o) o
slot_after n (mark.ClosedHere c e) o = closed_slot c e o
slot_after n (mark.OpeningFailed c spared e) o = cond (is_spared n spared) o (failed_slot c e o)
slot_after n (mark.AllFailed e) o = answered_slot (Err e) o
slot_after n (mark.Collected j) o = cond (j == n) None o
slot_after n (mark.SetAside j) o = cond (j == n) None o
slot_after n _ o = o

same_or : (b : Bool) (o : Option Slot) → o ≡ cond b o o
same_or true o = refl
same_or false o = refl

-- a slot that is empty stays so
pub gone_stays : (n : ℕ) (m : TicketMark) → None ≡ slot_after n m None
gone_stays n (mark.Given c l) = refl
gone_stays n (mark.Begun j) = same_or (j == n) None
gone_stays n (mark.LastLeft j) = same_or (j == n) None
gone_stays n (mark.Answered j a) = same_or (j == n) None
gone_stays n (mark.ClosedHere c e) = refl
gone_stays n (mark.OpeningFailed c spared e) = same_or (is_spared n spared) None
gone_stays n (mark.AllFailed e) = refl
gone_stays n (mark.Collected j) = same_or (j == n) None
gone_stays n (mark.SetAside j) = same_or (j == n) None

-- what a mark does to a ticket that has an answer
pub held_stays : (n c : ℕ) (l : AtLeaving) (b : Bool) (x : Result Answer Error) (m : TicketMark) → cond (closes n m) None (Some (slot.Held x)) ≡ slot_after n m (Some (slot.Held x))
held_stays n c l b x (mark.Given d k) = refl
held_stays n c l b x (mark.Begun j) = same_or (j == n) (Some (slot.Held x))
held_stays n c l b x (mark.LastLeft j) = same_or (j == n) (Some (slot.Held x))
held_stays n c l b x (mark.Answered j a) = same_or (j == n) (Some (slot.Held x))
held_stays n c l b x (mark.ClosedHere d e) = refl
held_stays n c l b x (mark.OpeningFailed d spared e) = same_or (is_spared n spared) (Some (slot.Held x))
held_stays n c l b x (mark.AllFailed e) = refl
held_stays n c l b x (mark.Collected j) = refl
held_stays n c l b x (mark.SetAside j) = refl

-- and to one that is open
pub open_moves : (n c : ℕ) (l : AtLeaving) (b : Bool) (m : TicketMark) → cond (closes n m) None (Some (held c l (b || begins n m) (answer_by n c l b m))) ≡ slot_after n m (Some (slot.Open c l b))
open_moves n c l true (mark.Given d k) = refl
open_moves n c l false (mark.Given d k) = refl
open_moves n c l true (mark.Begun j) = elim (j == n) as (λ x. Some (slot.Open c l true) ≡ cond x (Some (slot.Open c l true)) (Some (slot.Open c l true))) [ true ↦ refl | false ↦ refl ]
open_moves n c l false (mark.Begun j) = elim (j == n) as (λ x. Some (slot.Open c l x) ≡ cond x (Some (slot.Open c l true)) (Some (slot.Open c l false))) [ true ↦ refl | false ↦ refl ]
open_moves n c l b (mark.LastLeft j) =
    rw (or_false b)
    (elim (j == n) as (λ x. Some (held c l b (cond x (option_map Ok (answer_at l)) None)) ≡ cond x (Some (held_or (slot.Open c l b) (answer_at l))) (Some (slot.Open c l b))) [
      | true ↦ elim (answer_at l) as (λ o. Some (held c l b (option_map Ok o)) ≡ Some (held_or (slot.Open c l b) o)) [ None ↦ refl | Some a ↦ refl ]
      | false ↦ refl
    ])
open_moves n c l true (mark.Answered j a) = elim (j == n) as (λ x. Some (held c l true (cond x (Some a) None)) ≡ cond x (Some (slot.Held a)) (Some (slot.Open c l true))) [ true ↦ refl | false ↦ refl ]
open_moves n c l false (mark.Answered j a) = elim (j == n) as (λ x. Some (held c l false (cond x (Some a) None)) ≡ cond x (Some (slot.Held a)) (Some (slot.Open c l false))) [ true ↦ refl | false ↦ refl ]
open_moves n c l true (mark.ClosedHere d e) = elim (d == c && (is_publish l && false)) as (λ x. Some (held c l true (cond x (Some (Err e)) None)) ≡ cond x (Some (slot.Held (Err e))) (Some (slot.Open c l true))) [ true ↦ refl | false ↦ refl ]
open_moves n c l false (mark.ClosedHere d e) = elim (d == c && (is_publish l && true)) as (λ x. Some (held c l false (cond x (Some (Err e)) None)) ≡ cond x (Some (slot.Held (Err e))) (Some (slot.Open c l false))) [ true ↦ refl | false ↦ refl ]
open_moves n c l true (mark.OpeningFailed d spared e) = elim (is_spared n spared) as (λ k. Some (held c l true (cond (d == c && not k) (Some (Err e)) None)) ≡ cond k (Some (slot.Open c l true)) (cond (d == c) (Some (slot.Held (Err e))) (Some (slot.Open c l true)))) [
  | true ↦ elim (d == c) as (λ x. Some (held c l true (cond (x && false) (Some (Err e)) None)) ≡ Some (slot.Open c l true)) [ true ↦ refl | false ↦ refl ]
  | false ↦ elim (d == c) as (λ x. Some (held c l true (cond (x && true) (Some (Err e)) None)) ≡ cond x (Some (slot.Held (Err e))) (Some (slot.Open c l true))) [ true ↦ refl | false ↦ refl ]
]
open_moves n c l false (mark.OpeningFailed d spared e) = elim (is_spared n spared) as (λ k. Some (held c l false (cond (d == c && not k) (Some (Err e)) None)) ≡ cond k (Some (slot.Open c l false)) (cond (d == c) (Some (slot.Held (Err e))) (Some (slot.Open c l false)))) [
  | true ↦ elim (d == c) as (λ x. Some (held c l false (cond (x && false) (Some (Err e)) None)) ≡ Some (slot.Open c l false)) [ true ↦ refl | false ↦ refl ]
  | false ↦ elim (d == c) as (λ x. Some (held c l false (cond (x && true) (Some (Err e)) None)) ≡ cond x (Some (slot.Held (Err e))) (Some (slot.Open c l false))) [ true ↦ refl | false ↦ refl ]
]
open_moves n c l true (mark.AllFailed e) = refl
open_moves n c l false (mark.AllFailed e) = refl
open_moves n c l true (mark.Collected j) = refl
open_moves n c l false (mark.Collected j) = refl
open_moves n c l true (mark.SetAside j) = refl
open_moves n c l false (mark.SetAside j) = refl

moves : (n c : ℕ) (l : AtLeaving) (b : Bool) (o : Option (Result Answer Error)) (m : TicketMark) → cond (closes n m) None (Some (held c l (b || begins n m) (option_or o (answer_by n c l b m)))) ≡ slot_after n m (Some (held c l b o))
moves n c l b None m = open_moves n c l b m
moves n c l b (Some x) m = held_stays n c l b x m

-- the slot by the marks after the ticket was given, with one more mark
slot-push : (n c : ℕ) (l : AtLeaving) (later : List TicketMark) (m : TicketMark) → slot_in n c l (later ++ m ∷ []) ≡ slot_after n m (slot_in n c l later)
slot-push n c l later m =
    rw (any-push (closes n) later m, any-push (begins n) later m, answer-push n c l false later m)
    (elim (list_any (closes n) later) as (λ b. cond (b || closes n m) None (Some (held c l (list_any (begins n) later || begins n m) (option_or (first_answer n c l false later) (answer_by n c l (list_any (begins n) later) m)))) ≡ slot_after n m (cond b None (Some (held c l (list_any (begins n) later) (first_answer n c l false later))))) [
      | true ↦ gone_stays n m
      | false ↦ moves n c l (list_any (begins n) later) (first_answer n c l false later) m
    ])

pub old-slot : (k : ℕ) (ms : List TicketMark) (m : TicketMark) → k < given ms → slot_of (suc k) (ms ++ m ∷ []) ≡ slot_after (suc k) m (slot_of (suc k) ms)
old-slot k ms m lt = rw (nth-push k ms m lt, life-push k ms m lt) (slot-push (suc k) (channel_of (suc k) ms) (leaving_of (suc k) ms) (life (suc k) ms) m)

new-slot : (k c : ℕ) (l : AtLeaving) (ms : List TicketMark) → k ≡ given ms → slot_of (suc k) (ms ++ mark.Given c l ∷ []) ≡ Some (slot.Open c l false)
new-slot k c l ms e = rw (nth_new k c l ms e, life_new k c l ms e) refl

-- a write under number j, as ticket n sees it
under_write : (j k : ℕ) (f : Option Slot → Option Slot) (xs : List (Option Slot)) (o : Option Slot) → k < length xs → slice_get xs k ≡ Some o → slice_get (with_under j (f (under j xs)) xs) k ≡ Some (cond (j == suc k) (f o) o)
under_write zero k f xs o lt is = let away : (0 == suc k) ≡ false = ne_eqb 0 (suc k) (λ e. omega arith) in rw away is
under_write (suc j) k f xs o lt is =
    elim (eqb_tells j k) [
      | inl here ↦
          let P : ℕ → Type 0 = λ i. slice_get (slice_set xs i (f (under (suc i) xs))) k ≡ Some (cond (suc i == suc k) (f o) o) in
          let read : under (suc k) xs ≡ o = get_or_from_slice_get xs k o None is in
          let same : (suc k == suc k) ≡ true = eq-eqb (suc k) (suc k) refl in
          subst P (sym here.1) (get-set_same xs k (f (under (suc k) xs)) lt ∙ rw (read, same) refl)
      | inr other ↦
          let away : (suc j == suc k) ≡ false = ne_eqb (suc j) (suc k) (λ e. other.1 (omega arith)) in
          get-set_other xs j k (f (under (suc j) xs)) other.1 ∙ is ∙ rw away refl
    ]

-- a slot that is put back, as ticket n sees it
put_back : (j k : ℕ) (xs ys : List (Option Slot)) (o p : Option Slot) → k < length ys → slice_get xs k ≡ Some o → slice_get ys k ≡ Some p → slice_get (with_under j (under j xs) ys) k ≡ Some (cond (j == suc k) o p)
put_back zero k xs ys o p lt is then = let away : (0 == suc k) ≡ false = ne_eqb 0 (suc k) (λ e. omega arith) in rw away then
put_back (suc j) k xs ys o p lt is then =
    elim (eqb_tells j k) [
      | inl here ↦
          let P : ℕ → Type 0 = λ i. slice_get (slice_set ys i (under (suc i) xs)) k ≡ Some (cond (suc i == suc k) o p) in
          let read : under (suc k) xs ≡ o = get_or_from_slice_get xs k o None is in
          let same : (suc k == suc k) ≡ true = eq-eqb (suc k) (suc k) refl in
          subst P (sym here.1) (get-set_same ys k (under (suc k) xs) lt ∙ rw (read, same) refl)
      | inr other ↦
          let away : (suc j == suc k) ≡ false = ne_eqb (suc j) (suc k) (λ e. other.1 (omega arith)) in
          get-set_other ys j k (under (suc j) xs) other.1 ∙ then ∙ rw away refl
    ]

failed_get : (k d : ℕ) (spared : Option ℕ) (e : Error) (xs : List (Option Slot)) (o : Option Slot) → k < length xs → slice_get xs k ≡ Some o → slice_get (failed d spared e xs) k ≡ Some (cond (is_spared (suc k) spared) o (failed_slot d e o))
failed_get k d None e xs o lt is = get-map (failed_slot d e) xs k o is
failed_get k d (Some j) e xs o lt is = let long : length (map (failed_slot d e) xs) ≡ length xs = length-map xs (failed_slot d e) in put_back j k xs (map (failed_slot d e) xs) o (failed_slot d e o) (omega arith) is (get-map (failed_slot d e) xs k o is)

-- a mark that gives no ticket, as ticket k + 1 sees it
pub marked-slot : (xs : List (Option Slot)) (m : TicketMark) (k : ℕ) (o : Option Slot) → gives m ≡ false → k < length xs → slice_get xs k ≡ Some o → slice_get (after_mark xs m) k ≡ Some (slot_after (suc k) m o)
marked-slot xs (mark.Given c l) k o none lt is = cc
marked-slot xs (mark.Begun j) k o none lt is = under_write j k begun_slot xs o lt is
marked-slot xs (mark.LastLeft j) k o none lt is = under_write j k left_slot xs o lt is
marked-slot xs (mark.Answered j a) k o none lt is = under_write j k (answered_slot a) xs o lt is
marked-slot xs (mark.ClosedHere c e) k o none lt is = get-map (closed_slot c e) xs k o is
marked-slot xs (mark.OpeningFailed c spared e) k o none lt is = failed_get k c spared e xs o lt is
marked-slot xs (mark.AllFailed e) k o none lt is = get-map (answered_slot (Err e)) xs k o is
marked-slot xs (mark.Collected j) k o none lt is = under_write j k (λ _. None) xs o lt is
marked-slot xs (mark.SetAside j) k o none lt is = under_write j k (λ _. None) xs o lt is

moved-slot : (ms : List TicketMark) (xs : List (Option Slot)) (m : TicketMark) → Follows ms xs → gives m ≡ false → (k : ℕ) → k < given ms → slice_get (after_mark xs m) k ≡ Some (slot_after (suc k) m (slot_of (suc k) ms))
moved-slot ms xs m f none k old = let count : length xs ≡ given ms = f.count in marked-slot xs m k (slot_of (suc k) ms) none (omega arith) (f.slot k old)

quiet-slot : (ms : List TicketMark) (xs : List (Option Slot)) (m : TicketMark) → Follows ms xs → gives m ≡ false → (k : ℕ) → k < given (ms ++ m ∷ []) → slice_get (after_mark xs m) k ≡ Some (slot_of (suc k) (ms ++ m ∷ []))
quiet-slot ms xs m f none k lt =
    let old : k < given ms = rw (given-push ms m, none) at lt in
    moved-slot ms xs m f none k old ∙ ap Some (sym (old-slot k ms m old))

slots-follow : (ms : List TicketMark) (xs : List (Option Slot)) (m : TicketMark) → Follows ms xs → (k : ℕ) → k < given (ms ++ m ∷ []) → slice_get (after_mark xs m) k ≡ Some (slot_of (suc k) (ms ++ m ∷ []))
slots-follow ms xs (mark.Given c l) f k lt =
    let more : k < given ms + 1 = rw (given-push ms (mark.Given c l)) at lt in
    let count : length xs ≡ given ms = f.count in
    elim (eqb_tells k (given ms)) [
      | inl last ↦ get-push_new xs k (Some (slot.Open c l false)) (last.1 ∙ sym f.count) ∙ ap Some (sym (new-slot k c l ms last.1))
      | inr other ↦
          let old : k < given ms = omega arith in
          get-push_old xs k (Some (slot.Open c l false)) (omega arith) ∙ f.slot k old ∙ ap Some (sym (old-slot k ms (mark.Given c l) old))
    ]
slots-follow ms xs (mark.Begun j) f k lt = quiet-slot ms xs (mark.Begun j) f refl k lt
slots-follow ms xs (mark.LastLeft j) f k lt = quiet-slot ms xs (mark.LastLeft j) f refl k lt
slots-follow ms xs (mark.Answered j a) f k lt = quiet-slot ms xs (mark.Answered j a) f refl k lt
slots-follow ms xs (mark.ClosedHere c e) f k lt = quiet-slot ms xs (mark.ClosedHere c e) f refl k lt
slots-follow ms xs (mark.OpeningFailed c spared e) f k lt = quiet-slot ms xs (mark.OpeningFailed c spared e) f refl k lt
slots-follow ms xs (mark.AllFailed e) f k lt = quiet-slot ms xs (mark.AllFailed e) f refl k lt
slots-follow ms xs (mark.Collected j) f k lt = quiet-slot ms xs (mark.Collected j) f refl k lt
slots-follow ms xs (mark.SetAside j) f k lt = quiet-slot ms xs (mark.SetAside j) f refl k lt

length-failed : (c : ℕ) (spared : Option ℕ) (e : Error) (xs : List (Option Slot)) → length (failed c spared e xs) ≡ length xs
length-failed c None e xs = length-map xs (failed_slot c e)
length-failed c (Some j) e xs = length-with j (under j xs) (map (failed_slot c e) xs) ∙ length-map xs (failed_slot c e)

pub length-marked : (xs : List (Option Slot)) (m : TicketMark) → gives m ≡ false → length (after_mark xs m) ≡ length xs
length-marked xs (mark.Given c l) none = cc
length-marked xs (mark.Begun j) none = length-with j _ xs
length-marked xs (mark.LastLeft j) none = length-with j _ xs
length-marked xs (mark.Answered j a) none = length-with j _ xs
length-marked xs (mark.ClosedHere c x) none = length-map xs (closed_slot c x)
length-marked xs (mark.OpeningFailed c spared x) none = length-failed c spared x xs
length-marked xs (mark.AllFailed x) none = length-map xs (answered_slot (Err x))
length-marked xs (mark.Collected j) none = length-with j None xs
length-marked xs (mark.SetAside j) none = length-with j None xs

count-follows : (ms : List TicketMark) (xs : List (Option Slot)) (m : TicketMark) → length xs ≡ given ms → length (after_mark xs m) ≡ given (ms ++ m ∷ [])
count-follows ms xs (mark.Given c l) e = rw (given-push ms (mark.Given c l)) (omega (arith, length-append xs (Some (slot.Open c l false) ∷ [])))
count-follows ms xs (mark.Begun j) e = length-with j _ xs ∙ e ∙ sym (given-push ms (mark.Begun j))
count-follows ms xs (mark.LastLeft j) e = length-with j _ xs ∙ e ∙ sym (given-push ms (mark.LastLeft j))
count-follows ms xs (mark.Answered j a) e = length-with j _ xs ∙ e ∙ sym (given-push ms (mark.Answered j a))
count-follows ms xs (mark.ClosedHere c x) e = length-map xs (closed_slot c x) ∙ e ∙ sym (given-push ms (mark.ClosedHere c x))
count-follows ms xs (mark.OpeningFailed c spared x) e = length-failed c spared x xs ∙ e ∙ sym (given-push ms (mark.OpeningFailed c spared x))
count-follows ms xs (mark.AllFailed x) e = length-map xs (answered_slot (Err x)) ∙ e ∙ sym (given-push ms (mark.AllFailed x))
count-follows ms xs (mark.Collected j) e = length-with j None xs ∙ e ∙ sym (given-push ms (mark.Collected j))
count-follows ms xs (mark.SetAside j) e = length-with j None xs ∙ e ∙ sym (given-push ms (mark.SetAside j))

-- slots that follow a history follow it one mark further
pub follows-push : (ms : List TicketMark) (xs : List (Option Slot)) (m : TicketMark) → Follows ms xs → Follows (ms ++ m ∷ []) (after_mark xs m)
follows-push ms xs m f = record { count = count-follows ms xs m f.count; slot = slots-follow ms xs m f }
