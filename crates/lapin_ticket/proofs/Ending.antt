-- The end of an opening and a close of this side, as their tickets fail one after another.
use Rattle.std.proofs.Common.{◌≡◌, ◌≢◌, ℕ, zero, suc, ◌<◌, ◌≤◌, ◌==◌, true, false, List, [], ◌∷◌, ◌++◌, map, Option, Some, None, Result, Err, refl, ◌∙◌, ap, subst, arith, eq-eqb, ne_eqb}
use Rattle.std.specs.Option.{option_or}
use Rattle.lapin_types.specs.declared.Error.{Error}
use Rattle.lapin_types.specs.declared.answer.Answer.{Answer}
use Rattle.lapin_tables.specs.Numbered.{under, with_under}
use Rattle.lapin_tables.proofs.SlotLaws.{under-other}
use Rattle.lapin_rules.specs.TicketReadings.{TicketMark, given, channel_of, leaving_of, life, answer_of, first_answer, is_spared, is_awaited as is_unanswered}
use Rattle.lapin_rules.specs.TicketReadings as mark
use Rattle.lapin_rules.proofs.TicketLaws.{answer-push, nth-push, life-push}
use Rattle.lapin_ticket.specs.declared.Slot.{Slot}
use Rattle.lapin_ticket.specs.declared.Slot.TheVariants as slot
use Rattle.lapin_ticket.specs.Slots.{answered_slot, failed_slot, closed_slot, failed, rejects, is_open_on, after_mark}
use Rattle.lapin_ticket.specs.Follows.{WasGiven}

-- a map of the slots, after one slot was answered as the map would
pub map-answered : (f : Option Slot → Option Slot) (n : ℕ) (a : Result Answer Error) (xs : List (Option Slot)) → f (answered_slot a (under n xs)) ≡ f (under n xs) → map f (with_under n (answered_slot a (under n xs)) xs) ≡ map f xs
map-answered f zero a xs same = refl
map-answered f (suc k) a [] same = refl
map-answered f (suc zero) a (o ∷ xs) same = ap (λ p. p ∷ map f xs) same
map-answered f (suc (suc k)) a (o ∷ xs) same = ap (λ ys. f o ∷ ys) (map-answered f (suc k) a xs same)

pub map-stays : (f : Option Slot → Option Slot) (xs : List (Option Slot)) → ((k : ℕ) → f (under (suc k) xs) ≡ under (suc k) xs) → map f xs ≡ xs
map-stays f [] h = refl
map-stays f (o ∷ xs) h =
    let first : f o ≡ o = h 0 in
    let rest : map f xs ≡ xs = map-stays f xs (λ k. h (suc k)) in
    ap (λ p. p ∷ map f xs) first ∙ ap (λ ys. o ∷ ys) rest

failed-same : (c : ℕ) (e : Error) (o : Option Slot) → is_open_on c o ≡ true → failed_slot c e (answered_slot (Err e) o) ≡ failed_slot c e o
failed-same c e (Some (slot.Open d l b)) h = rw h refl
failed-same c e None h = refl
failed-same c e (Some (slot.Held a)) h = refl

closed-same : (c : ℕ) (e : Error) (o : Option Slot) → rejects c o ≡ true → closed_slot c e (answered_slot (Err e) o) ≡ closed_slot c e o
closed-same c e (Some (slot.Open d l b)) h = rw h refl
closed-same c e None h = refl
closed-same c e (Some (slot.Held a)) h = refl

unkept : (k n : ℕ) → is_spared n (Some k) ≡ false → k ≢ n
unkept k n h same = let yes : (k == n) ≡ true = eq-eqb k n same in cc

pub end-next : (n c : ℕ) (spared : Option ℕ) (e : Error) (xs : List (Option Slot)) → is_open_on c (under n xs) ≡ true → is_spared n spared ≡ false → failed c spared e (after_mark xs (mark.Answered n (Err e))) ≡ failed c spared e xs
end-next n c None e xs open_ other = map-answered (failed_slot c e) n (Err e) xs (failed-same c e (under n xs) open_)
end-next n c (Some k) e xs open_ other =
    ap (λ ys. with_under k (under k (with_under n (answered_slot (Err e) (under n xs)) xs)) ys) (map-answered (failed_slot c e) n (Err e) xs (failed-same c e (under n xs) open_))
    ∙ ap (λ o. with_under k o (map (failed_slot c e) xs)) (under-other k n (answered_slot (Err e) (under n xs)) xs (unkept k n other))

pub close-next : (n c : ℕ) (e : Error) (xs : List (Option Slot)) → rejects c (under n xs) ≡ true → map (closed_slot c e) (after_mark xs (mark.Answered n (Err e))) ≡ map (closed_slot c e) xs
close-next n c e xs open_ = map-answered (closed_slot c e) n (Err e) xs (closed-same c e (under n xs) open_)

closed-still : (c : ℕ) (e : Error) (o : Option Slot) → rejects c o ≡ false → closed_slot c e o ≡ o
closed-still c e (Some (slot.Open d l b)) h = rw h refl
closed-still c e None h = refl
closed-still c e (Some (slot.Held a)) h = refl

pub close-done : (c : ℕ) (e : Error) (xs : List (Option Slot)) → ((n : ℕ) → rejects c (under n xs) ≡ false) → map (closed_slot c e) xs ≡ xs
close-done c e xs none = map-stays (closed_slot c e) xs (λ k. closed-still c e (under (suc k) xs) (none (suc k)))

failed-still : (c : ℕ) (e : Error) (o : Option Slot) → is_open_on c o ≡ false → failed_slot c e o ≡ o
failed-still c e (Some (slot.Open d l b)) h = rw h refl
failed-still c e None h = refl
failed-still c e (Some (slot.Held a)) h = refl

closed-on : (c n : ℕ) (spared : Option ℕ) (xs : List (Option Slot)) → ((n : ℕ) → is_open_on c (under n xs) ≡ true → is_spared n spared ≡ true) → is_spared n spared ≡ false → is_open_on c (under n xs) ≡ false
closed-on c n spared xs none other =
    elim (is_open_on c (under n xs)) as (λ b. is_open_on c (under n xs) ≡ b → b ≡ false) [
      | true ↦ λ h. let yes : is_spared n spared ≡ true = none n h in cc
      | false ↦ λ h. refl
    ] refl

-- one slot put back over a map that changes no other
put-back : (f : Option Slot → Option Slot) (k : ℕ) (xs : List (Option Slot)) → ((j : ℕ) → k ≢ suc j → f (under (suc j) xs) ≡ under (suc j) xs) → with_under k (under k xs) (map f xs) ≡ xs
put-back f zero xs h = map-stays f xs (λ j. h j (λ e. cc))
put-back f (suc k) [] h = refl
put-back f (suc zero) (o ∷ xs) h = ap (λ ys. o ∷ ys) (map-stays f xs (λ j. h (suc j) (λ e. cc)))
put-back f (suc (suc k)) (o ∷ xs) h =
    let first : f o ≡ o = h 0 (λ e. cc) in
    let rest : with_under (suc k) (under (suc k) xs) (map f xs) ≡ xs = put-back f (suc k) xs (λ j apart. h (suc j) (λ e. apart (omega arith))) in
    ap (λ p. p ∷ with_under (suc k) (under (suc k) xs) (map f xs)) first ∙ ap (λ ys. o ∷ ys) rest

pub end-done : (c : ℕ) (spared : Option ℕ) (e : Error) (xs : List (Option Slot)) → ((n : ℕ) → is_open_on c (under n xs) ≡ true → is_spared n spared ≡ true) → failed c spared e xs ≡ xs
end-done c None e xs none = map-stays (failed_slot c e) xs (λ k. failed-still c e (under (suc k) xs) (closed-on c (suc k) None xs none refl))
end-done c (Some k) e xs none = put-back (failed_slot c e) k xs (λ j apart. failed-still c e (under (suc j) xs) (closed-on c (suc j) (Some k) xs none (ne_eqb k (suc j) apart)))

-- ---- in the words of the history

there_or : (o : Option (Result Answer Error)) (x : Result Answer Error) → is_unanswered (option_or o (Some x)) ≡ false
there_or None x = refl
there_or (Some y) x = refl

own-ended : (k : ℕ) (spared : Option ℕ) (e : Error) (ms : List TicketMark) → k < given ms → is_spared (suc k) spared ≡ false → is_unanswered (answer_of (suc k) (ms ++ mark.OpeningFailed (channel_of (suc k) ms) spared e ∷ [])) ≡ false
own-ended k spared e ms known other =
    let m : TicketMark = mark.OpeningFailed (channel_of (suc k) ms) spared e in
    rw (nth-push k ms m known, life-push k ms m known, answer-push (suc k) (channel_of (suc k) ms) (leaving_of (suc k) ms) false (life (suc k) ms) m, eq-eqb (channel_of (suc k) ms) (channel_of (suc k) ms) refl, other)
    (there_or (first_answer (suc k) (channel_of (suc k) ms) (leaving_of (suc k) ms) false (life (suc k) ms)) (Err e))

pub ended-answered : (n c : ℕ) (spared : Option ℕ) (e : Error) (ms : List TicketMark) → WasGiven n ms → channel_of n ms ≡ c → is_spared n spared ≡ false → is_unanswered (answer_of n (ms ++ mark.OpeningFailed c spared e ∷ [])) ≡ false
ended-answered zero c spared e ms known own other = let none : 1 ≤ 0 = known.0 in absurd (omega arith)
ended-answered (suc k) c spared e ms known own other =
    let P : ℕ → Type 0 = λ d. is_unanswered (answer_of (suc k) (ms ++ mark.OpeningFailed d spared e ∷ [])) ≡ false in
    let last : suc k ≤ given ms = known.1 in
    subst P own (own-ended k spared e ms (omega arith) other)
