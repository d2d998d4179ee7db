-- Marks that leave a channel's consumers registered: their seats change one place after another.
use Rattle.std.proofs.Common.{◌≡◌, ℕ, zero, suc, ◌+◌, ◌<◌, ◌≤◌, Bool, true, false, cond, List, [], ◌∷◌, ◌++◌, length, map, drop, get_or, slice_get, slice_set, Option, Some, None, Ok, Err, refl, sym, ◌∙◌, ap, subst, arith}
use Rattle.std.proofs.lemmas.List.{append-nil}
use Rattle.lapin_consumer.specs.Words.{map_at, gather_at, places_at, on_place, on_places, from_place, from_places}
use Rattle.lapin_consumer.specs.Indexed.{Seated}
use Rattle.lapin_consumer.specs.WithRoom.{WithRoom, Reserved}
use Rattle.lapin_consumer.specs.Marks as mark
use Rattle.lapin_acker.specs.declared.switch.Switch.{Switch}
use Rattle.lapin_acker.specs.Switches.{voided}
use Rattle.lapin_consumer.specs.Ackers.{ackers_of, ackers_on}
use Rattle.lapin_types.specs.declared.job.Job.{Job}
use Rattle.lapin_consumer.specs.Subscriptions.{Handed, Consumer, Subscriptions, is_on, moved, owed, after_mark, first_place}
use Rattle.lapin_consumer.proofs.Places.{tested, at_where, given_where, gather-none}
use Rattle.lapin_consumer.proofs.Found.{unplaced}
use Rattle.lapin_consumer.proofs.Single.{placed, same_subscriptions, untouched}
use Rattle.lapin_consumer.proofs.Ending.{consumers_of, drop_next, drop_none}

module _ {X : Type 0} where
  on_places-suc : (f : X → X) (ps : List ℕ) (x : X) (xs : List X) → on_places f (map suc ps) (x ∷ xs) ≡ x ∷ on_places f ps xs
  on_places-suc f [] x xs = refl
  on_places-suc f (p ∷ ps) x xs = on_places-suc f ps x (on_place f p xs)

  -- all places that pass
  pub on_all : (q : ℕ → X → Bool) (f : X → X) (xs : List X) → on_places f (places_at q xs) xs ≡ map_at (at_where q f) xs
  on_all q f [] = refl
  on_all q f (x ∷ xs) =
      let ps : List ℕ = places_at (λ i. q (suc i)) xs in
      let rest : on_places f ps xs ≡ map_at (at_where (λ i. q (suc i)) f) xs = on_all (λ i. q (suc i)) f xs in
      tested (q 0 x)
      (λ on. rw on (on_places-suc f ps (f x) xs ∙ ap (λ ys. f x ∷ ys) rest))
      (λ off. rw off (on_places-suc f ps x xs ∙ ap (λ ys. x ∷ ys) rest))

module _ {X Y : Type 0} where
  from_places-suc : (f : X → X) (g : ℕ → X → List Y) (ps : List ℕ) (x : X) (xs : List X) → from_places f g (map suc ps) (x ∷ xs) ≡ from_places f (λ i. g (suc i)) ps xs
  from_places-suc f g [] x xs = refl
  from_places-suc f g (p ∷ ps) x xs = ap (λ ys. from_place (g (suc p)) p xs ++ ys) (from_places-suc f g ps x (on_place f p xs))

  pub from_all : (q : ℕ → X → Bool) (f : X → X) (g : ℕ → X → List Y) (xs : List X) → from_places f g (places_at q xs) xs ≡ gather_at (given_where q g) xs
  from_all q f g [] = refl
  from_all q f g (x ∷ xs) =
      let ps : List ℕ = places_at (λ i. q (suc i)) xs in
      let rest : from_places f (λ i. g (suc i)) ps xs ≡ gather_at (given_where (λ i. q (suc i)) (λ i. g (suc i))) xs = from_all (λ i. q (suc i)) f (λ i. g (suc i)) xs in
      tested (q 0 x)
      (λ on. rw on (ap (λ ys. g 0 x ++ ys) (from_places-suc f g ps (f x) xs ∙ rest)))
      (λ off. rw off (from_places-suc f g ps x xs ∙ rest))

-- one place is done
pub several_step : (f : Consumer → Consumer) (i : ℕ) (places : List ℕ) (s t : Seated) (seats : List Seated) (all : List Consumer) → i < length places → get_or places i 0 < length seats → s ≡ get_or seats (get_or places i 0) s → t.consumer ≡ f s.consumer → on_places f (drop i places) (consumers_of seats) ≡ all → on_places f (drop (i + 1) places) (consumers_of (slice_set seats (get_or places i 0) t)) ≡ all
several_step f i places s t seats all lt within is became done =
    ap (on_places f (drop (i + 1) places)) (placed f (get_or places i 0) s t seats within is became)
    ∙ ap (λ ps. on_places f ps (consumers_of seats)) (sym (drop_next i places lt))
    ∙ done

-- none is left
pub several_done : (f : Consumer → Consumer) (i : ℕ) (places : List ℕ) (xs all : List Consumer) → length places ≤ i → on_places f (drop i places) xs ≡ all → xs ≡ all
several_done f i places xs all past done = sym (ap (λ ps. on_places f ps xs) (drop_none i places past)) ∙ done

pub same_length : {X : Type 0} (xs ys : List X) (p : ℕ) (y : X) → length xs ≡ length ys → length (slice_set xs p y) ≡ length ys
same_length xs ys p y e = length-slice xs p y ∙ e
  where
    length-slice : {X : Type 0} (xs : List X) (p : ℕ) (y : X) → length (slice_set xs p y) ≡ length xs
    length-slice [] p y = refl
    length-slice (x ∷ xs) zero y = refl
    length-slice (x ∷ xs) (suc p) y = ap suc (length-slice xs p y)

-- ---- a close that was asked for

closing_owes : (c : ℕ) (xs : List Consumer) → gather_at (owed (mark.CloseAsked c)) xs ≡ []
closing_owes c [] = refl
closing_owes c (x ∷ xs) = elim (is_on c x) as (λ b. cond b [] [] ++ gather_at (λ i y. owed (mark.CloseAsked c) (suc i) y) xs ≡ []) [ true ↦ closing_owes c xs | false ↦ closing_owes c xs ]

pub hall_closing : (c : ℕ) (seats new : List Seated) (jobs : List Job) (rooms : List Reserved) (spare : ℕ) (k : WithRoom) → record { subscriptions = record { consumers = consumers_of seats; jobs = jobs }; rooms = rooms; spare = spare } ≡ k → consumers_of new ≡ map_at (moved (mark.CloseAsked c)) (consumers_of seats) → ◌≡◌ {A = Subscriptions} (record { consumers = consumers_of new; jobs = jobs }) (after_mark k.subscriptions (mark.CloseAsked c))
hall_closing c seats new jobs rooms spare k view moves =
    let P : WithRoom → Type 0 = λ j. ◌≡◌ {A = Subscriptions} (record { consumers = consumers_of new; jobs = jobs }) (after_mark j.subscriptions (mark.CloseAsked c)) in
    subst P view (same_subscriptions (consumers_of new) (map_at (moved (mark.CloseAsked c)) (consumers_of seats)) jobs (jobs ++ gather_at (owed (mark.CloseAsked c)) (consumers_of seats)) moves (sym (append-nil jobs) ∙ ap (λ js. jobs ++ js) (sym (closing_owes c (consumers_of seats)))))

pub closing_nobody : (c : ℕ) (r : Subscriptions) → places_at (λ _ x. is_on c x) r.consumers ≡ [] → r ≡ after_mark r (mark.CloseAsked c)
closing_nobody c r none = untouched (mark.CloseAsked c) r (λ xs. refl) (λ js. refl) (unplaced (λ _ x. is_on c x) r.consumers (ap first_place none))

pub void_nobody : (c : ℕ) (r : Subscriptions) → places_at (λ _ x. is_on c x) r.consumers ≡ [] → r ≡ after_mark r (mark.Discarded c)
void_nobody c r none = untouched (mark.Discarded c) r (λ xs. refl) (λ js. refl) (unplaced (λ _ x. is_on c x) r.consumers (ap first_place none))

pub void_no_ackers : (c : ℕ) (xs : List Consumer) → places_at (λ _ x. is_on c x) xs ≡ [] → ackers_on c xs ≡ []
void_no_ackers c xs none = gather-none (λ _ x. is_on c x) (λ _ x. ackers_of x.items) xs (unplaced (λ _ x. is_on c x) xs (ap first_place none))

-- ---- what is void

pub void_next : (y : Handed) (ys : List Handed) (ss : List Switch) → voided (ackers_of ys) (voided (ackers_of (y ∷ [])) ss) ≡ voided (ackers_of (y ∷ ys)) ss
void_next (Ok (Some d)) ys ss = refl
void_next (Ok None) ys ss = refl
void_next (Err e) ys ss = refl

pub void_popped : (o : Option Handed) (y : Handed) (items : List Handed) (ss : List Switch) → o ≡ slice_get items 0 → o ≡ Some y → voided (ackers_of (drop 1 items)) (voided (ackers_of (y ∷ [])) ss) ≡ voided (ackers_of items) ss
void_popped o y [] ss at is = let gone : None ≡ Some y = sym at ∙ is in cc
void_popped o y (z ∷ zs) ss at is = let there : Some z ≡ Some y = sym at ∙ is in let same : z ≡ y = cc in rw same (void_next y zs ss)

-- one place gives, with the rest behind it
pub several_gives : {Y : Type 0} (f : Consumer → Consumer) (g : ℕ → Consumer → List Y) (i : ℕ) (places : List ℕ) (s t : Seated) (seats : List Seated) → i < length places → get_or places i 0 < length seats → s ≡ get_or seats (get_or places i 0) s → t.consumer ≡ f s.consumer → from_places f g (drop i places) (consumers_of seats) ≡ g (get_or places i 0) s.consumer ++ from_places f g (drop (i + 1) places) (consumers_of (slice_set seats (get_or places i 0) t))
several_gives f g i places s t seats lt within is became =
    ap (λ ps. from_places f g ps (consumers_of seats)) (drop_next i places lt)
    ∙ ap (λ ys. ys ++ from_places f g (drop (i + 1) places) (on_place f (get_or places i 0) (consumers_of seats))) (sym (place_gives (g (get_or places i 0)) (get_or places i 0) s seats within is))
    ∙ ap (λ xs. g (get_or places i 0) s.consumer ++ from_places f g (drop (i + 1) places) xs) (sym (placed f (get_or places i 0) s t seats within is became))
  where
    place_gives : {Y : Type 0} (h : Consumer → List Y) (p : ℕ) (s : Seated) (seats : List Seated) → p < length seats → s ≡ get_or seats p s → h s.consumer ≡ from_place h p (consumers_of seats)
    place_gives h p s [] within is = absurd (omega arith)
    place_gives h zero s (u ∷ us) within is = ap (λ (v : Seated). h v.consumer) is
    place_gives h (suc p) s (u ∷ us) within is = place_gives h p s us (omega arith) is

pub gives_none : {Y : Type 0} (f : Consumer → Consumer) (g : ℕ → Consumer → List Y) (i : ℕ) (places : List ℕ) (xs : List Consumer) → length places ≤ i → from_places f g (drop i places) xs ≡ []
gives_none f g i places xs past = ap (λ ps. from_places f g ps xs) (drop_none i places past)
