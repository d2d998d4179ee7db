-- All working callers together, from their seats.
use Rattle.std.proofs.Common.{◌≡◌, ◌∙◌, ℕ, ◌+◌, ◌++◌, Bool, true, false, List, [], ◌∷◌, length, map, take, sym, ap, subst, refl, arith, Result, Ok, Err, IfOk, OnOk}
use Rattle.std.specs.Prelude.{◌||◌, drop, zero, suc, reverse, option_to_list}
use Rattle.std.proofs.lemmas.List.{length-map, reverse-append}
use Rattle.lapin_types.specs.declared.message.Delivery.{Delivery}
use Rattle.lapin_acker.specs.declared.verdict.Verdict.{Verdict}
use Rattle.lapin_shared.specs.Grown.{Seen}
use Rattle.lapin_threads.specs.declared.tally.Tally.{Tally}
use Rattle.lapin_threads.specs.Tallied.{Tallied, TalliedAll}
use Rattle.lapin_pool.specs.declared.card.Card.{Card}
use Rattle.lapin_pool.specs.declared.seat.Seat.{Seat}
use Rattle.lapin_pool.specs.Ran.{Ended, EndedSo}
use Rattle.lapin_pool.specs.Seats.{AreNew, caller_of, of_seat, cards_of, unread_of}
use Rattle.lapin_pool.specs.Pooled.{AllEnded, HaveWorked, seen_of, all_cards, all_unread}
use Rattle.lapin_pool.specs.Pool.{AreGrown}
use Rattle.lapin_pool.proofs.Stints.{grown_none}
use Rattle.lapin_pool.proofs.Workers.{ended_grown}

neither : (a b : Bool) → false ≡ (a || b) → (a ≡ false) × (b ≡ false)
neither true b e = absurd cc
neither false true e = absurd cc
neither false false e = (refl, refl)

-- how the caller of a seat ended
abbrev pub SeatEnded : {L : Type 0} → (Delivery → Verdict → Type 0) → ℕ → Seat L → Tally → Seat L → Type 0
SeatEnded may turns a r b = EndedSo may turns (of_seat a) r (of_seat b)

ended_all : {L : Type 0} (may : Delivery → Verdict → Type 0) (turns : ℕ) (xs ys : List (Seat L)) (n : ℕ) → TalliedAll (SeatEnded may turns) xs n false ys → AreNew xs
    → AllEnded may turns (map of_seat xs) (map of_seat ys)
ended_all may turns [] [] n t new = tt
ended_all may turns [] (y ∷ ys) n t new = absurd t
ended_all may turns (x ∷ xs) [] n t new = absurd t
ended_all may turns (x ∷ xs) (y ∷ ys) n (r, m, u, one, rest, sum, or) new =
    let s = neither r.short u or in
    let h = new 0 x (omega arith) in (
      h.0,
      h.1,
      (r.count, subst (λ b. Ended may turns (of_seat x) r.count b (of_seat y)) s.0 one),
      ended_all may turns xs ys m (subst (λ b. TalliedAll (SeatEnded may turns) xs m b ys) s.1 rest) (λ k d lt. new (suc k) d (omega (arith, lt))),
    )

seen_seats : {L : Type 0} (ss : List (Seat L)) → map seen_of (map of_seat ss) ≡ map caller_of ss
seen_seats [] = refl
seen_seats (s ∷ ss) = ap (λ l. s.caller ∷ l) (seen_seats ss)

cards_seats : {L : Type 0} (ss : List (Seat L)) → all_cards (map of_seat ss) ≡ cards_of ss
cards_seats [] = refl
cards_seats (s ∷ ss) = ap (λ l. l ++ s.cards.items) (cards_seats ss)

unread_seats : {L : Type 0} (ss : List (Seat L)) → all_unread (map of_seat ss) ≡ unread_of ss
unread_seats [] = refl
unread_seats (s ∷ ss) = ap (λ l. l ++ option_to_list s.unread) (unread_seats ss)

-- who sat down, worked and left has worked
pub have_worked : {L : Type 0} (may : Delivery → Verdict → Type 0) (turns workers : ℕ) (olds front news : List Seen) (xs ys : List (Seat L)) (sum : Tally) (cs : List Card) (us : List ℕ)
    → front ++ reverse (map caller_of xs) ≡ olds → length xs ≡ workers → AreNew xs → Tallied (SeatEnded may turns) xs sum ys → sum.short ≡ false
    → cs ≡ cards_of ys → us ≡ unread_of ys → news ≡ front ++ reverse (map caller_of ys) → HaveWorked may turns workers olds cs us news
have_worked may turns workers olds front news xs ys sum cs us sat many new t fine cards unread left = record {
  idle = front;
  before = map of_seat xs;
  after = map of_seat ys;
  olds_are = sym sat ∙ ap (λ l. front ++ reverse l) (sym (seen_seats xs));
  news_are = left ∙ ap (λ l. front ++ reverse l) (sym (seen_seats ys));
  many = length-map xs of_seat ∙ many;
  worked = ended_all may turns xs ys t.total (subst (λ b. TalliedAll (SeatEnded may turns) xs t.total b ys) fine t.each) new;
  cards_are = cards ∙ sym (cards_seats ys);
  unread_are = unread ∙ sym (unread_seats ys);
}

-- what is written to all of a list takes its place
pub whole : {X : Type 0} (n : ℕ) (xs ys : List X) → length ys ≡ length xs → n ≡ length xs → take n (ys ++ drop (length ys) xs) ≡ ys
whole zero [] [] e m = refl
whole (suc n) [] [] e m = absurd (omega (arith, m))
whole n (x ∷ xs) [] e m = absurd (omega (arith, e))
whole n [] (y ∷ ys) e m = absurd (omega (arith, e))
whole zero (x ∷ xs) (y ∷ ys) e m = absurd (omega (arith, m))
whole (suc n) (x ∷ xs) (y ∷ ys) e m = ap (λ l. y ∷ l) (whole n xs ys (omega (arith, e)) (omega (arith, m)))

-- what holds where a result is Ok, by what is said of it then
pub if_ok : {T E : Type 0} → (A : Type 0) (S P : T → Type 0) (r : Result T E) → OnOk r A → IfOk r S → ((t : T) → A → S t → P t) → IfOk r P
if_ok A S P (Ok t) on if then = then t on if
if_ok A S P (Err e) on if then = tt

-- ---- the same callers, whose logs grew

pub grown_same : (cs : List Seen) → AreGrown cs cs
grown_same [] = tt
grown_same (c ∷ cs) = (grown_none c c refl, grown_same cs)

pub grown_if_same : (olds news : List Seen) → news ≡ olds → AreGrown olds news
grown_if_same olds news e = subst (λ l. AreGrown olds l) (sym e) (grown_same olds)

grown_append : (xs ys us vs : List Seen) → AreGrown xs ys → AreGrown us vs → AreGrown (xs ++ us) (ys ++ vs)
grown_append [] [] us vs g k = k
grown_append [] (y ∷ ys) us vs g k = absurd g
grown_append (x ∷ xs) [] us vs g k = absurd g
grown_append (x ∷ xs) (y ∷ ys) us vs g k = (g.0, grown_append xs ys us vs g.1 k)

grown_reverse : (xs ys : List Seen) → AreGrown xs ys → AreGrown (reverse xs) (reverse ys)
grown_reverse [] [] g = tt
grown_reverse [] (y ∷ ys) g = absurd g
grown_reverse (x ∷ xs) [] g = absurd g
grown_reverse (x ∷ xs) (y ∷ ys) g =
    let last = grown_append (reverse xs) (reverse ys) (x ∷ []) (y ∷ []) (grown_reverse xs ys g.1) (g.0, tt) in
    subst (λ l. AreGrown l (reverse (y ∷ ys))) (sym (reverse-append (x ∷ []) xs)) (subst (λ l. AreGrown (reverse xs ++ x ∷ []) l) (sym (reverse-append (y ∷ []) ys)) last)

pub grown_length : (olds news : List Seen) → AreGrown olds news → length news ≡ length olds
grown_length [] [] g = refl
grown_length [] (c ∷ cs) g = absurd g
grown_length (a ∷ olds) [] g = absurd g
grown_length (a ∷ olds) (c ∷ news) g = omega (arith, grown_length olds news g.1)

each_grown : {L : Type 0} (may : Delivery → Verdict → Type 0) (turns : ℕ) (xs ys : List (Seat L)) (n : ℕ) (s : Bool) → TalliedAll (SeatEnded may turns) xs n s ys
    → AreGrown (map caller_of xs) (map caller_of ys)
each_grown may turns [] [] n s t = tt
each_grown may turns [] (y ∷ ys) n s t = absurd t
each_grown may turns (x ∷ xs) [] n s t = absurd t
each_grown may turns (x ∷ xs) (y ∷ ys) n s (r, m, u, one, rest, sum, or) =
    (ended_grown may turns (of_seat x) r.count r.short (of_seat y) one, each_grown may turns xs ys m u rest)

-- who sat down, worked and left is there again
pub seats_grown : {L : Type 0} (may : Delivery → Verdict → Type 0) (turns : ℕ) (olds front news : List Seen) (xs ys : List (Seat L)) (sum : Tally)
    → front ++ reverse (map caller_of xs) ≡ olds → Tallied (SeatEnded may turns) xs sum ys → news ≡ front ++ reverse (map caller_of ys) → AreGrown olds news
seats_grown may turns olds front news xs ys sum sat t left =
    let both = grown_append front front (reverse (map caller_of xs)) (reverse (map caller_of ys)) (grown_same front)
    (grown_reverse (map caller_of xs) (map caller_of ys) (each_grown may turns xs ys t.total sum.short t.each)) in
    subst (λ l. AreGrown l news) sat (subst (λ l. AreGrown (front ++ reverse (map caller_of xs)) l) (sym left) both)
