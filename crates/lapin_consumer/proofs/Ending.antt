-- The consumers of a channel get their ends, one place after another.
use Rattle.std.proofs.Common.{◌≡◌, ◌≢◌, ℕ, zero, suc, ◌+◌, ◌<◌, ◌≤◌, ◌==◌, Bool, true, false, cond, List, [], ◌∷◌, ◌++◌, length, map, drop, Option, Some, refl, sym, ◌∙◌, ap, subst, arith, slice_get, slice_set, get_or, append_assoc, ◌⊎◌, inl, inr, eq-eqb}
use Rattle.std.specs.Prelude.{◌&&◌, nat_eq}
use Rattle.std.specs.Cmp.Lexicographic.{pointwise}
use Rattle.std.specs.Option.{option_map}
use Rattle.std.specs.List.{list_any}
use Rattle.std.proofs.lemmas.Bool.Decides.{eqb_tells}
use Rattle.std.proofs.lemmas.List.{length-map}
use Rattle.std.proofs.lemmas.Option.{slice_get_read, same_Some, slice_get_within}
use Rattle.lapin_types.specs.declared.job.Job.{Job}
use Rattle.lapin_types.specs.Types.{Error}
use Rattle.lapin_tables.proofs.Lists.{get-set_same, get-set_other}
use Rattle.lapin_consumer.specs.Words.{map_at, gather_at, places_at, on_place, without_first}
use Rattle.lapin_consumer.specs.Marks as mark
use Rattle.lapin_consumer.specs.Indexed.{Seated, Line, Indexed, NamesNobody, Lists, EndsFit, places_in, tagged_in}
use Rattle.lapin_consumer.specs.WithRoom.{WithRoom, Reserved}
use Rattle.lapin_tables.specs.ByChannel.{at_channel}
use Rattle.lapin_consumer.specs.Subscriptions.{Handed, Consumer, is_on, is_marked, handed, offered, canceled, last_words, first_place, moved, owed, is_under, place_under, Subscriptions, after_mark}
use Rattle.lapin_consumer.proofs.Places.{tested, at_where, given_where, map_at-none, gather-none, get-map, map-set, places-map_at, get-map_at}
use Rattle.lapin_consumer.proofs.Found.{Placed, first_placed, unplaced, after-suc, first-map}
use Rattle.lapin_consumer.proofs.Leaving.{places-off, elsewhere, under_on}
use Rattle.lapin_consumer.proofs.Lines.{each}
use Rattle.lapin_consumer.proofs.Rising.{those_all, exact_lists, lists_moved}
use Rattle.lapin_consumer.proofs.Indices.{Was, was, handed_post}
use Rattle.lapin_consumer.proofs.Under.{none-placed}
use Rattle.lapin_consumer.proofs.Single.{placed, same_subscriptions, untouched}

-- ---- two things handed, one after the other

pub handed-twice : (a b : Handed) (x : Consumer) → handed (b ∷ []) (handed (a ∷ []) x) ≡ handed (a ∷ b ∷ []) x
handed-twice a b x = tested (is_marked x.state) (λ on. rw (on, on) refl) (λ off. rw (off, off) (ap (λ (ys : List Handed). record x { items = ys }) (append_assoc x.items (a ∷ []) (b ∷ []))))

pub offered-twice : (n : ℕ) (a b : Handed) (x : Consumer) → offered n (a ∷ []) x ++ offered n (b ∷ []) (handed (a ∷ []) x) ≡ offered n (a ∷ b ∷ []) x
offered-twice n a b x = tested (is_marked x.state) (λ on. rw (on, on) refl) (λ off. rw (off, off) refl)

-- ---- the first place that passes

module _ {X : Type 0} where
  pub map_at-first : (q : ℕ → X → Bool) (f : X → X) (p : ℕ) (x : X) (xs : List X) → slice_get xs p ≡ Some x → q p x ≡ true → q p (f x) ≡ false → map_at (at_where q f) (on_place f p xs) ≡ map_at (at_where q f) xs
  map_at-first q f p x [] there on off = cc
  map_at-first q f zero x (y ∷ ys) there on off = let e : y ≡ x = cc in rw (e, off, on) refl
  map_at-first q f (suc p) x (y ∷ ys) there on off = ap (λ zs. at_where q f 0 y ∷ zs) (map_at-first (λ i. q (suc i)) f p x ys there on off)

module _ {X Y : Type 0} where
  pub gather-first : (q : ℕ → X → Bool) (g : ℕ → X → List Y) (f : X → X) (p : ℕ) (x : X) (xs : List X) → first_place (places_at q xs) ≡ Some p → slice_get xs p ≡ Some x → q p (f x) ≡ false → gather_at (given_where q g) xs ≡ g p x ++ gather_at (given_where q g) (on_place f p xs)
  gather-first q g f p x [] first there off = cc
  gather-first q g f p x (y ∷ ys) first there off =
      tested (q 0 y)
      (λ on.
      let zeroth : Some 0 ≡ Some p = ap (λ b. first_place (cond b (0 ∷ map suc (places_at (λ i. q (suc i)) ys)) (map suc (places_at (λ i. q (suc i)) ys)))) (sym on) ∙ first in
      let at : 0 ≡ p = cc in
      here p at on there off)
      (λ away.
      let later : option_map suc (first_place (places_at (λ i. q (suc i)) ys)) ≡ Some p = sym (first-map (places_at (λ i. q (suc i)) ys)) ∙ ap (λ b. first_place (cond b (0 ∷ map suc (places_at (λ i. q (suc i)) ys)) (map suc (places_at (λ i. q (suc i)) ys)))) (sym away) ∙ first in
      let k = after-suc (first_place (places_at (λ i. q (suc i)) ys)) p later in
      there_later p k.0 k.2 (gather-first (λ i. q (suc i)) (λ i. g (suc i)) f k.0 x ys k.1) away there off)
    where
      here : (p : ℕ) → 0 ≡ p → q 0 y ≡ true → slice_get (y ∷ ys) p ≡ Some x → q p (f x) ≡ false → gather_at (given_where q g) (y ∷ ys) ≡ g p x ++ gather_at (given_where q g) (on_place f p (y ∷ ys))
      here zero at on there off = let e : y ≡ x = cc in rw (e, off) (ap (λ b. cond b (g 0 x) [] ++ gather_at (given_where (λ i. q (suc i)) (λ i. g (suc i))) ys) (ap (q 0) (sym e) ∙ on))
      here (suc p) at on there off = absurd (omega arith)

      there_later : (p k : ℕ) → p ≡ suc k → (slice_get ys k ≡ Some x → q (suc k) (f x) ≡ false → gather_at (given_where (λ i. q (suc i)) (λ i. g (suc i))) ys ≡ g (suc k) x ++ gather_at (given_where (λ i. q (suc i)) (λ i. g (suc i))) (on_place f k ys)) → q 0 y ≡ false → slice_get (y ∷ ys) p ≡ Some x → q p (f x) ≡ false → gather_at (given_where q g) (y ∷ ys) ≡ g p x ++ gather_at (given_where q g) (on_place f p (y ∷ ys))
      there_later p k at rest away there off =
          let P : ℕ → Type 0 = λ n. slice_get (y ∷ ys) n ≡ Some x in
          let Q : ℕ → Type 0 = λ n. q n (f x) ≡ false in
          let R : ℕ → Type 0 = λ n. gather_at (given_where q g) (y ∷ ys) ≡ g n x ++ gather_at (given_where q g) (on_place f n (y ∷ ys)) in
          subst R (sym at) (rw away (rest (subst P at there) (subst Q at off)))

-- ---- the end of a channel's opening, seat by seat

abbrev pub consumers_of : List Seated → List Consumer
consumers_of seats = map (λ s. s.consumer) seats

abbrev pub ended : Option Error → Consumer → Consumer
ended e x = canceled (handed (last_words e) x)

-- what is known before the seat at a place, the next one of the channel's, is served
pub record Next (c p : ℕ) (rest : List ℕ) (s : Seated) (seats : List Seated) : Type 0 where
  pub there : slice_get (consumers_of seats) p ≡ Some s.consumer
  pub on : is_on c s.consumer ≡ true
  pub first : first_place (places_at (λ _ x. is_on c x) (consumers_of seats)) ≡ Some p

pub next : (c p : ℕ) (rest : List ℕ) (s : Seated) (seats : List Seated) → places_at (λ _ x. is_on c x) (consumers_of seats) ≡ p ∷ rest → p < length seats → s ≡ get_or seats p s → Next c p rest s seats
next c p rest s seats left within is =
    let first : first_place (places_at (λ _ x. is_on c x) (consumers_of seats)) ≡ Some p = ap first_place left in
    let at : Placed (λ _ x. is_on c x) p (consumers_of seats) = first_placed (λ _ x. is_on c x) p (consumers_of seats) first in
    let there : slice_get (consumers_of seats) p ≡ Some s.consumer = get-map (λ (u : Seated). u.consumer) p seats ∙ ap (option_map (λ (u : Seated). u.consumer)) (slice_get_read seats (length seats) p s refl within is) in
    let same : at.element ≡ s.consumer = same_Some at.element s.consumer (sym at.there ∙ there) in
    record { there = there; on = ap (is_on c) (sym same) ∙ at.passes; first = first }

pub step_left : (c p : ℕ) (rest : List ℕ) (e : Option Error) (s t : Seated) (seats : List Seated) → Next c p rest s seats → places_at (λ _ x. is_on c x) (consumers_of seats) ≡ p ∷ rest → p < length seats → s ≡ get_or seats p s → t.consumer ≡ ended e s.consumer → places_at (λ _ x. is_on c x) (consumers_of (slice_set seats p t)) ≡ rest
step_left c p rest e s t seats n left within is became =
    ap (places_at (λ _ x. is_on c x)) (placed (ended e) p s t seats within is became)
    ∙ places-off (is_on c) (ended e) p s.consumer (consumers_of seats) n.there n.on refl
    ∙ ap (without_first (λ k. k == p)) left
    ∙ rw (eq-eqb p p refl) refl

pub step_consumers : (c p : ℕ) (rest : List ℕ) (e : Option Error) (s t : Seated) (seats : List Seated) (all : List Consumer) → Next c p rest s seats → p < length seats → s ≡ get_or seats p s → t.consumer ≡ ended e s.consumer → map_at (moved (mark.Ended c e)) (consumers_of seats) ≡ all → map_at (moved (mark.Ended c e)) (consumers_of (slice_set seats p t)) ≡ all
step_consumers c p rest e s t seats all n within is became done =
    ap (map_at (moved (mark.Ended c e))) (placed (ended e) p s t seats within is became)
    ∙ map_at-first (λ _ x. is_on c x) (ended e) p s.consumer (consumers_of seats) n.there n.on refl
    ∙ done

pub step_jobs : (c p : ℕ) (rest : List ℕ) (e : Option Error) (s t : Seated) (seats : List Seated) (jobs more all : List Job) → Next c p rest s seats → p < length seats → s ≡ get_or seats p s → t.consumer ≡ ended e s.consumer → more ≡ jobs ++ offered (suc p) (last_words e) s.consumer → jobs ++ gather_at (owed (mark.Ended c e)) (consumers_of seats) ≡ all → more ++ gather_at (owed (mark.Ended c e)) (consumers_of (slice_set seats p t)) ≡ all
step_jobs c p rest e s t seats jobs more all n within is became owing done =
    ap (λ js. js ++ gather_at (owed (mark.Ended c e)) (consumers_of (slice_set seats p t))) owing
    ∙ ap (λ xs. jobs ++ offered (suc p) (last_words e) s.consumer ++ gather_at (owed (mark.Ended c e)) xs) (placed (ended e) p s t seats within is became)
    ∙ append_assoc jobs (offered (suc p) (last_words e) s.consumer) (gather_at (owed (mark.Ended c e)) (on_place (ended e) p (consumers_of seats)))
    ∙ ap (λ js. jobs ++ js) (sym (gather-first (λ _ x. is_on c x) (λ i x. offered (suc i) (last_words e) x) (ended e) p s.consumer (consumers_of seats) n.first n.there refl))
    ∙ done

pub step_room : (c p : ℕ) (e : Option Error) (s t : Seated) (seats : List Seated) → p < length seats → t.consumer ≡ ended e s.consumer → EndsFit c seats → EndsFit c (slice_set seats p t)
step_room c p e s t seats within became fit k u at on =
    elim (eqb_tells p k) [
      | inl here ↦
          let P : ℕ → Type 0 = λ i. slice_get (slice_set seats p t) i ≡ Some u in
          let back : slice_get (slice_set seats p t) p ≡ Some u = subst P (sym here.1) at in
          let same : t ≡ u = same_Some t u (sym (get-set_same seats p t within) ∙ back) in
          let no : is_on c (ended e s.consumer) ≡ true = ap (is_on c) (sym became ∙ ap (λ (v : Seated). v.consumer) same) ∙ on in
          absurd (off no)
      | inr other ↦ fit k u (sym (get-set_other seats p k t other.1) ∙ at) on
    ]
  where
    off : false ≡ true → ⊥
    off h = cc

-- nobody of the channel is left
pub done_consumers : (c : ℕ) (e : Option Error) (xs : List Consumer) → places_at (λ _ x. is_on c x) xs ≡ [] → map_at (moved (mark.Ended c e)) xs ≡ xs
done_consumers c e xs left = map_at-none (λ _ x. is_on c x) (ended e) xs (unplaced (λ _ x. is_on c x) xs (ap first_place left))

pub done_jobs : (c : ℕ) (e : Option Error) (xs : List Consumer) → places_at (λ _ x. is_on c x) xs ≡ [] → gather_at (owed (mark.Ended c e)) xs ≡ []
done_jobs c e xs left = gather-none (λ _ x. is_on c x) (λ i x. offered (suc i) (last_words e) x) xs (unplaced (λ _ x. is_on c x) xs (ap first_place left))

-- the next place of the channel, with the places behind it
pub left_now : (c i : ℕ) (places : List ℕ) (xs : List Consumer) → i < length places → places_at (λ _ x. is_on c x) xs ≡ drop i places → places_at (λ _ x. is_on c x) xs ≡ get_or places i 0 ∷ drop (i + 1) places
left_now c i places xs lt left = left ∙ split i places lt
  where
    split : (i : ℕ) (ps : List ℕ) → i < length ps → drop i ps ≡ get_or ps i 0 ∷ drop (i + 1) ps
    split i [] lt = absurd (omega arith)
    split zero (p ∷ ps) lt = refl
    split (suc i) (p ∷ ps) lt = let e : suc i + 1 ≡ suc (i + 1) = omega arith in rw e (split i ps (omega arith))

pub next_within : (c p : ℕ) (rest : List ℕ) (seats : List Seated) → places_at (λ _ x. is_on c x) (consumers_of seats) ≡ p ∷ rest → p < length seats
next_within c p rest seats left =
    let at : Placed (λ _ x. is_on c x) p (consumers_of seats) = first_placed (λ _ x. is_on c x) p (consumers_of seats) (ap first_place left) in
    rw length-map at (slice_get_within (consumers_of seats) p at.element at.there)

pub left_none : (c i : ℕ) (places : List ℕ) (xs : List Consumer) → length places ≤ i → places_at (λ _ x. is_on c x) xs ≡ drop i places → places_at (λ _ x. is_on c x) xs ≡ []
left_none c i places xs past left = left ∙ none i places past
  where
    none : (i : ℕ) (ps : List ℕ) → length ps ≤ i → drop i ps ≡ []
    none zero [] past = refl
    none (suc i) [] past = refl
    none zero (p ∷ ps) past = absurd (omega arith)
    none (suc i) (p ∷ ps) past = none i ps (omega arith)

pub next_room : (c p : ℕ) (rest : List ℕ) (s : Seated) (seats : List Seated) → Next c p rest s seats → p < length seats → s ≡ get_or seats p s → EndsFit c seats → 3 ≤ s.spare
next_room c p rest s seats n within is fit = fit p s (slice_get_read seats (length seats) p s refl within is) n.on

-- ---- room for the ends

-- a seat of the channel has room, or its place is still to come
abbrev pub Fitted : ℕ → List ℕ → List Seated → Type 0
Fitted c later seats = (p : ℕ) (s : Seated) → slice_get seats p ≡ Some s → is_on c s.consumer ≡ true → (3 ≤ s.spare) ⊎ (list_any (λ k. k == p) later ≡ true)

pub seat_consumer : (p : ℕ) (s : Seated) (seats : List Seated) → slice_get seats p ≡ Some s → slice_get (consumers_of seats) p ≡ Some s.consumer
seat_consumer p s seats at = get-map (λ (u : Seated). u.consumer) p seats ∙ ap (option_map (λ (u : Seated). u.consumer)) at

pub fitted_first : (c : ℕ) (places : List ℕ) (seats : List Seated) → places_at (λ _ x. is_on c x) (consumers_of seats) ≡ places → Fitted c places seats
fitted_first c places seats e p s at on = inr (ap (list_any (λ k. k == p)) (sym e) ∙ those_all (is_on c) p s.consumer (consumers_of seats) (seat_consumer p s seats at) on)

pub fitted_next : (c p : ℕ) (later rest : List ℕ) (s t : Seated) (seats : List Seated) → later ≡ p ∷ rest → p < length seats → s ≡ get_or seats p s → t.consumer ≡ s.consumer → 3 ≤ t.spare → Fitted c later seats → Fitted c rest (slice_set seats p t)
fitted_next c p later rest s t seats split within is same room fit k u at on =
    elim (eqb_tells p k) [
      | inl here ↦
          let P : ℕ → Type 0 = λ i. slice_get (slice_set seats p t) i ≡ Some u in
          let back : slice_get (slice_set seats p t) p ≡ Some u = subst P (sym here.1) at in
          let e : t ≡ u = same_Some t u (sym (get-set_same seats p t within) ∙ back) in
          inl (subst (λ (v : Seated). 3 ≤ v.spare) e room)
      | inr other ↦ elim (fit k u (sym (get-set_other seats p k t other.1) ∙ at) on) [
        | inl done ↦ inl done
        | inr coming ↦ inr (shorter (ap (list_any (λ j. j == k)) (sym split) ∙ coming) other.0)
      ]
    ]
  where
    shorter : list_any (λ j. j == k) (p ∷ rest) ≡ true → (p == k) ≡ false → list_any (λ j. j == k) rest ≡ true
    shorter h off = let e : list_any (λ j. j == k) (p ∷ rest) ≡ list_any (λ j. j == k) rest = rw off refl in sym e ∙ h

pub fitted_all : (c : ℕ) (later : List ℕ) (seats : List Seated) → later ≡ [] → Fitted c later seats → EndsFit c seats
fitted_all c later seats none fit p s at on = elim (fit p s at on) [
  | inl room ↦ room
  | inr coming ↦ let no_more : false ≡ true = ap (list_any (λ k. k == p)) (sym none) ∙ coming in cc
]

pub drop_none : (i : ℕ) (ps : List ℕ) → length ps ≤ i → drop i ps ≡ []
drop_none zero [] past = refl
drop_none (suc i) [] past = refl
drop_none zero (p ∷ ps) past = absurd (omega arith)
drop_none (suc i) (p ∷ ps) past = drop_none i ps (omega arith)

pub drop_next : (i : ℕ) (ps : List ℕ) → i < length ps → drop i ps ≡ get_or ps i 0 ∷ drop (i + 1) ps
drop_next i [] lt = absurd (omega arith)
drop_next zero (p ∷ ps) lt = refl
drop_next (suc i) (p ∷ ps) lt = let e : suc i + 1 ≡ suc (i + 1) = omega arith in rw e (drop_next i ps (omega arith))

pub mapped : (i : ℕ) (ps : List ℕ) → i < length ps → get_or (map suc ps) i 0 ≡ suc (get_or ps i 0)
mapped i [] lt = absurd (omega arith)
mapped zero (p ∷ ps) lt = refl
mapped (suc i) (p ∷ ps) lt = mapped i ps (omega arith)

abbrev AllBelow : ℕ → List ℕ → Type 0
AllBelow n ps = (k : ℕ) → k < length ps → get_or ps k 0 < n

later_below : (n : ℕ) (ps : List ℕ) → AllBelow n ps → AllBelow (suc n) (map suc ps)
later_below n ps h k lt =
    let short : k < length ps = rw length-map at lt in
    let is : get_or (map suc ps) k 0 ≡ suc (get_or ps k 0) = mapped k ps short in
    let bound : get_or ps k 0 < n = h k short in
    omega arith

head_below : (n : ℕ) (ps : List ℕ) → AllBelow (suc n) ps → AllBelow (suc n) (0 ∷ ps)
head_below n ps h zero lt = omega arith
head_below n ps h (suc k) lt = h k (omega arith)

places_below : (q : ℕ → Consumer → Bool) (xs : List Consumer) → AllBelow (length xs) (places_at q xs)
places_below q [] = λ k lt. absurd (omega arith)
places_below q (x ∷ xs) =
    let rest : AllBelow (suc (length xs)) (map suc (places_at (λ j. q (suc j)) xs)) = later_below (length xs) (places_at (λ j. q (suc j)) xs) (places_below (λ j. q (suc j)) xs) in
    elim (q 0 x) as (λ b. AllBelow (suc (length xs)) (cond b (0 ∷ map suc (places_at (λ j. q (suc j)) xs)) (map suc (places_at (λ j. q (suc j)) xs)))) [
      | true ↦ head_below (length xs) (map suc (places_at (λ j. q (suc j)) xs)) rest
      | false ↦ rest
    ]

-- a place of the channel is a seat's
pub place_seated : (c i : ℕ) (places : List ℕ) (seats : List Seated) → places_at (λ _ x. is_on c x) (consumers_of seats) ≡ places → i < length places → get_or places i 0 < length seats
place_seated c i places seats e lt =
    let P : List ℕ → Type 0 = λ ps. AllBelow (length (consumers_of seats)) ps in
    rw length-map at (subst P e (places_below (λ _ x. is_on c x) (consumers_of seats)) i lt)

-- a seat that holds the same consumer
pub same_seat : (p : ℕ) (s t : Seated) (seats : List Seated) (all : List Consumer) → p < length seats → s ≡ get_or seats p s → t.consumer ≡ s.consumer → consumers_of seats ≡ all → consumers_of (slice_set seats p t) ≡ all
same_seat p s t seats all within is same done = map-set (λ (u : Seated). u.consumer) p t seats ∙ ap (slice_set (consumers_of seats) p) same ∙ set-there p s.consumer (consumers_of seats) (seat_consumer p s seats (slice_get_read seats (length seats) p s refl within is)) ∙ done
  where
    set-there : (p : ℕ) (x : Consumer) (xs : List Consumer) → slice_get xs p ≡ Some x → slice_set xs p x ≡ xs
    set-there p x [] h = refl
    set-there zero x (y ∷ ys) h = let e : y ≡ x = cc in ap (λ z. z ∷ ys) (sym e)
    set-there (suc p) x (y ∷ ys) h = ap (λ zs. y ∷ zs) (set-there p x ys h)

-- ---- the index after the end

ended_off : (c d : ℕ) (e : Option Error) (i : ℕ) (x : Consumer) → c ≢ d → is_on d (moved (mark.Ended c e) i x) ≡ is_on d x
ended_off c d e i x apart =
    tested (is_on c x)
    (λ on.
    let gone : moved (mark.Ended c e) i x ≡ ended e x = ap (λ b. cond b (ended e x) x) on in
    let off : is_on d (ended e x) ≡ false = refl in
    ap (is_on d) gone ∙ off ∙ sym (elsewhere c d x apart on))
    (λ away. ap (λ b. is_on d (cond b (ended e x) x)) away)

ended_under : (c d : ℕ) (t : List ℕ) (e : Option Error) (i : ℕ) (x : Consumer) → is_under d t (moved (mark.Ended c e) i x) ≡ true → is_under d t x ≡ true
ended_under c d t e i x h =
    tested (is_on c x)
    (λ on. let gone : is_under d t (ended e x) ≡ true = ap (λ b. is_under d t (cond b (ended e x) x)) (sym on) ∙ h in let no_more : false ≡ true = gone in cc)
    (λ away. ap (λ b. is_under d t (cond b (ended e x) x)) (sym away) ∙ h)

-- it leaves every tag
ended_tag : (c : ℕ) (e : Option Error) (i : ℕ) (x : Consumer) → (moved (mark.Ended c e) i x).tag ≡ x.tag
ended_tag c e i x = tested (is_on c x) (λ on. rw on (handed_post (last_words e) x).tag) (λ off. rw off refl)

ended_apart : (c d : ℕ) (t : List ℕ) (e : Option Error) (i : ℕ) (x : Consumer) → c ≢ d → is_under d t (moved (mark.Ended c e) i x) ≡ is_under d t x
ended_apart c d t e i x apart = ap (λ b. b && pointwise nat_eq (moved (mark.Ended c e) i x).tag t) (ended_off c d e i x apart) ∙ ap (λ l. is_on d x && pointwise nat_eq l t) (ended_tag c e i x)

pub ended_index : (c : ℕ) (e : Option Error) (before after : List (ℕ × Line)) (old new : Subscriptions) → Indexed before old.consumers → new ≡ after_mark old (mark.Ended c e) → places_at (λ _ x. is_on c x) new.consumers ≡ [] → NamesNobody (at_channel c after) → ((d : ℕ) → c ≢ d → at_channel d after ≡ at_channel d before) → Indexed after new.consumers
ended_index c e before after old new index is none here others =
    let xs : new.consumers ≡ map_at (moved (mark.Ended c e)) old.consumers = ap (λ (r : Subscriptions). r.consumers) is in
    record {
      lists = each c (λ k. Lists k new.consumers (places_in (at_channel k after))) (exact_lists c new.consumers (places_in (at_channel c after)) (here.places ∙ sym none)) (λ d apart.
          subst (λ o. Lists d new.consumers (places_in o)) (sym (others d apart)) (subst (λ ys. Lists d ys (places_in (at_channel d before))) (sym xs) (lists_moved (moved (mark.Ended c e)) d old.consumers (places_in (at_channel d before)) (λ i x on. sym (ended_off c d e i x apart) ∙ on) (index.lists d))));
      tags = λ d t.
          let left : places_at (λ _ x. is_under c t x) new.consumers ≡ [] = none-placed (is_under c t) new.consumers (λ i x at u. unplaced (λ _ y. is_on c y) new.consumers (ap first_place none) i x at (under_on c t x u)) in
          each c (λ k. tagged_in t (at_channel k after) ≡ place_under k t new.consumers) (here.tags t ∙ sym (ap first_place left)) (λ k apart.
          ap (tagged_in t) (others k apart) ∙ index.tags k t ∙ sym (ap (place_under k t) xs ∙ ap first_place (places-map_at (λ _ x. is_under k t x) (λ _ x. is_under k t x) (moved (mark.Ended c e)) old.consumers (λ i x. ended_apart c k t e i x apart)))) d;
      alone = λ d t i j x y at_i at_j ux uy.
          let wx : Was (moved (mark.Ended c e) i) (slice_get old.consumers i) x = was (moved (mark.Ended c e) i) (slice_get old.consumers i) x (sym (get-map_at (moved (mark.Ended c e)) i old.consumers) ∙ ap (λ zs. slice_get zs i) (sym xs) ∙ at_i) in
          let wy : Was (moved (mark.Ended c e) j) (slice_get old.consumers j) y = was (moved (mark.Ended c e) j) (slice_get old.consumers j) y (sym (get-map_at (moved (mark.Ended c e)) j old.consumers) ∙ ap (λ zs. slice_get zs j) (sym xs) ∙ at_j) in
          index.alone d t i j wx.before wy.before wx.there wy.there
          (ended_under c d t e i wx.before (ap (is_under d t) wx.became ∙ ux))
          (ended_under c d t e j wy.before (ap (is_under d t) wy.became ∙ uy));
    }

-- nobody is registered on the channel
pub ended_nobody : (c : ℕ) (e : Option Error) (r : Subscriptions) → places_at (λ _ x. is_on c x) r.consumers ≡ [] → r ≡ after_mark r (mark.Ended c e)
ended_nobody c e r none = untouched (mark.Ended c e) r (λ xs. refl) (λ js. refl) (unplaced (λ _ x. is_on c x) r.consumers (ap first_place none))

-- a hall's fields after the end
pub hall_ended : (c : ℕ) (e : Option Error) (seats rooms new : List Seated) (jobs same more : List Job) (spares : List Reserved) (spare : ℕ) (k : WithRoom) → record { subscriptions = record { consumers = consumers_of seats; jobs = jobs }; rooms = spares; spare = spare } ≡ k → consumers_of rooms ≡ consumers_of seats → same ≡ jobs → consumers_of new ≡ map_at (moved (mark.Ended c e)) (consumers_of rooms) → more ≡ same ++ gather_at (owed (mark.Ended c e)) (consumers_of rooms) → ◌≡◌ {A = Subscriptions} (record { consumers = consumers_of new; jobs = more }) (after_mark k.subscriptions (mark.Ended c e))
hall_ended c e seats rooms new jobs same more spares spare k view kept stay moves owes =
    let P : WithRoom → Type 0 = λ j. ◌≡◌ {A = Subscriptions} (record { consumers = consumers_of new; jobs = more }) (after_mark j.subscriptions (mark.Ended c e)) in
    subst P view (same_subscriptions (consumers_of new) (map_at (moved (mark.Ended c e)) (consumers_of seats)) more (jobs ++ gather_at (owed (mark.Ended c e)) (consumers_of seats))
    (moves ∙ ap (map_at (moved (mark.Ended c e))) kept)
    (owes ∙ ap (λ js. js ++ gather_at (owed (mark.Ended c e)) (consumers_of rooms)) stay ∙ ap (λ xs. jobs ++ gather_at (owed (mark.Ended c e)) xs) kept))
