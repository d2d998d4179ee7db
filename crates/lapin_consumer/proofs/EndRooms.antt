-- Room for the ends of a channel's consumers, and of all.
use Rattle.std.proofs.Common.{◌≡◌, ◌≢◌, ℕ, zero, suc, ◌+◌, ◌*◌, ◌<◌, ◌≤◌, ◌==◌, Bool, true, false, cond, List, [], ◌∷◌, length, map, Option, Some, None, refl, sym, ◌∙◌, ap, subst, arith, slice_get, slice_set, get_or, inl, inr}
use Rattle.std.specs.Option.{option_map}
use Rattle.std.specs.List.{count_by}
use Rattle.std.proofs.lemmas.Bool.Decides.{eqb_tells}
use Rattle.std.proofs.lemmas.List.{length-map}
use Rattle.std.proofs.lemmas.Option.{slice_get_read, slice_get_within, same_Some}
use Rattle.lapin_types.specs.declared.job.Job.{Job}
use Rattle.lapin_types.specs.Types.{Error}
use Rattle.lapin_tables.proofs.Counts.{count-cons}
use Rattle.lapin_tables.proofs.Lists.{get-set_same, get-set_other}
use Rattle.lapin_consumer.specs.Words.{map_at, places_at}
use Rattle.lapin_consumer.specs.Marks as mark
use Rattle.lapin_consumer.specs.Indexed.{Seated, reserved_of, FitWhere}
use Rattle.lapin_consumer.specs.WithRoom.{WithRoom, Reserved, HasEnds, is_registered_one}
use Rattle.lapin_consumer.specs.Subscriptions.{Consumer, is_on, moved}
use Rattle.lapin_consumer.proofs.Places.{tested, get-map}
use Rattle.lapin_consumer.proofs.Ending.{consumers_of, ended, seat_consumer, mapped}
use Rattle.lapin_tables.proofs.Bools.{and_first}

-- ---- seats that have room

-- the consumer at a place of the channel's is on it
abbrev AllAt : (Consumer → Bool) → List Consumer → List ℕ → Type 0
AllAt q xs ps = (k : ℕ) (x : Consumer) → k < length ps → slice_get xs (get_or ps k 0) ≡ Some x → q x ≡ true

later_at : (q : Consumer → Bool) (y : Consumer) (ys : List Consumer) (ps : List ℕ) → AllAt q ys ps → AllAt q (y ∷ ys) (map suc ps)
later_at q y ys ps all k x lt at =
    let short : k < length ps = rw length-map at lt in
    let P : ℕ → Type 0 = λ i. slice_get (y ∷ ys) i ≡ Some x in
    all k x short (subst P (mapped k ps short) at)

head_at : (q : Consumer → Bool) (y : Consumer) (ys : List Consumer) (ps : List ℕ) → q y ≡ true → AllAt q (y ∷ ys) ps → AllAt q (y ∷ ys) (0 ∷ ps)
head_at q y ys ps on all zero x lt at = let same : y ≡ x = cc in ap q (sym same) ∙ on
head_at q y ys ps on all (suc k) x lt at = all k x (omega arith) at

places_pass : (q : Consumer → Bool) (xs : List Consumer) → AllAt q xs (places_at (λ _ x. q x) xs)
places_pass q [] = λ k x lt at. absurd (omega arith)
places_pass q (y ∷ ys) =
    let rest : AllAt q (y ∷ ys) (map suc (places_at (λ _ x. q x) ys)) = later_at q y ys (places_at (λ _ x. q x) ys) (places_pass q ys) in
    tested (q y)
    (λ on. let P : Bool → Type 0 = λ b. AllAt q (y ∷ ys) (cond b (0 ∷ map suc (places_at (λ _ x. q x) ys)) (map suc (places_at (λ _ x. q x) ys))) in
    subst P (sym on) (head_at q y ys (map suc (places_at (λ _ x. q x) ys)) on rest))
    (λ off. let P : Bool → Type 0 = λ b. AllAt q (y ∷ ys) (cond b (0 ∷ map suc (places_at (λ _ x. q x) ys)) (map suc (places_at (λ _ x. q x) ys))) in
    subst P (sym off) rest)

pub place_on : (c i : ℕ) (places : List ℕ) (s : Seated) (seats : List Seated) → places_at (λ _ x. is_on c x) (consumers_of seats) ≡ places → i < length places → get_or places i 0 < length seats → s ≡ get_or seats (get_or places i 0) s → is_on c s.consumer ≡ true
place_on c i places s seats e lt within is =
    let P : List ℕ → Type 0 = λ ps. AllAt (is_on c) (consumers_of seats) ps in
    subst P e (places_pass (is_on c) (consumers_of seats)) i s.consumer lt (seat_consumer (get_or places i 0) s seats (slice_get_read seats (length seats) (get_or places i 0) s refl within is))

-- a seat that holds the same consumer and has no less room
pub fit_kept : (q : Consumer → Bool) (p : ℕ) (s t : Seated) (seats : List Seated) → p < length seats → s ≡ get_or seats p s → t.consumer ≡ s.consumer → s.spare ≤ t.spare → FitWhere q seats → FitWhere q (slice_set seats p t)
fit_kept q p s t seats within is same more fit k u at on =
    elim (eqb_tells p k) [
      | inl here ↦
          let P : ℕ → Type 0 = λ i. slice_get (slice_set seats p t) i ≡ Some u in
          let back : slice_get (slice_set seats p t) p ≡ Some u = subst P (sym here.1) at in
          let e : t ≡ u = same_Some t u (sym (get-set_same seats p t within) ∙ back) in
          let passes : q s.consumer ≡ true = ap q (sym same ∙ ap (λ (v : Seated). v.consumer) e) ∙ on in
          let room : 3 ≤ s.spare = fit p s (slice_get_read seats (length seats) p s refl within is) passes in
          let now : 3 ≤ t.spare = omega arith in
          subst (λ (v : Seated). 3 ≤ v.spare) e now
      | inr other ↦ fit k u (sym (get-set_other seats p k t other.1) ∙ at) on
    ]

-- a seat whose consumer does not pass
pub fit_without : (q : Consumer → Bool) (p : ℕ) (t : Seated) (seats : List Seated) → p < length seats → q t.consumer ≡ false → FitWhere q seats → FitWhere q (slice_set seats p t)
fit_without q p t seats within off fit k u at on =
    elim (eqb_tells p k) [
      | inl here ↦
          let P : ℕ → Type 0 = λ i. slice_get (slice_set seats p t) i ≡ Some u in
          let back : slice_get (slice_set seats p t) p ≡ Some u = subst P (sym here.1) at in
          let e : t ≡ u = same_Some t u (sym (get-set_same seats p t within) ∙ back) in
          let no_more : false ≡ true = sym off ∙ ap (λ (v : Seated). q v.consumer) e ∙ on in
          absurd (never no_more)
      | inr other ↦ fit k u (sym (get-set_other seats p k t other.1) ∙ at) on
    ]
  where
    never : false ≡ true → ⊥
    never h = cc

pub fit_on : (c : ℕ) (seats : List Seated) → FitWhere is_registered_one seats → FitWhere (is_on c) seats
fit_on c seats fit p s at on = fit p s at (and_first s.consumer.registered (s.consumer.channel == c) on)

-- who was ended is registered no more
pub count_ended : (c : ℕ) (e : Option Error) (xs : List Consumer) → count_by is_registered_one (map_at (moved (mark.Ended c e)) xs) + length (places_at (λ _ x. is_on c x) xs) ≡ count_by is_registered_one xs
count_ended c e [] = refl
count_ended c e (x ∷ xs) =
    let rest : count_by is_registered_one (map_at (moved (mark.Ended c e)) xs) + length (places_at (λ _ x. is_on c x) xs) ≡ count_by is_registered_one xs = count_ended c e xs in
    let long : length (map suc (places_at (λ _ x. is_on c x) xs)) ≡ length (places_at (λ _ x. is_on c x) xs) = mapped_length (places_at (λ _ x. is_on c x) xs) in
    let old : count_by is_registered_one (x ∷ xs) ≡ cond x.registered 1 0 + count_by is_registered_one xs = count-cons is_registered_one x xs in
    tested (is_on c x)
    (λ on.
    let was : ◌≡◌ {A = ℕ} (cond x.registered 1 0) 1 = ap (λ b. cond b 1 0) (and_first x.registered (x.channel == c) on) in
    let new : count_by is_registered_one (ended e x ∷ map_at (moved (mark.Ended c e)) xs) ≡ 0 + count_by is_registered_one (map_at (moved (mark.Ended c e)) xs) = count-cons is_registered_one (ended e x) (map_at (moved (mark.Ended c e)) xs) in
    let sum : count_by is_registered_one (ended e x ∷ map_at (moved (mark.Ended c e)) xs) + suc (length (map suc (places_at (λ _ x. is_on c x) xs))) ≡ count_by is_registered_one (x ∷ xs) = omega arith in
    ap (λ b. count_by is_registered_one (cond b (ended e x) x ∷ map_at (moved (mark.Ended c e)) xs) + length (cond b (0 ∷ map suc (places_at (λ _ x. is_on c x) xs)) (map suc (places_at (λ _ x. is_on c x) xs)))) on ∙ sum)
    (λ off.
    let new : count_by is_registered_one (x ∷ map_at (moved (mark.Ended c e)) xs) ≡ cond x.registered 1 0 + count_by is_registered_one (map_at (moved (mark.Ended c e)) xs) = count-cons is_registered_one x (map_at (moved (mark.Ended c e)) xs) in
    let sum : count_by is_registered_one (x ∷ map_at (moved (mark.Ended c e)) xs) + length (map suc (places_at (λ _ x. is_on c x) xs)) ≡ count_by is_registered_one (x ∷ xs) = omega arith in
    ap (λ b. count_by is_registered_one (cond b (ended e x) x ∷ map_at (moved (mark.Ended c e)) xs) + length (cond b (0 ∷ map suc (places_at (λ _ x. is_on c x) xs)) (map suc (places_at (λ _ x. is_on c x) xs)))) off ∙ sum)
  where
    mapped_length : (ps : List ℕ) → length (map suc ps) ≡ length ps
    mapped_length [] = refl
    mapped_length (p ∷ ps) = ap suc (mapped_length ps)

-- the room of a hall, as its seats and jobs have it
pub ends_fit : (seats : List Seated) (jobs : List Job) (spare : ℕ) (k : WithRoom) → record { subscriptions = record { consumers = consumers_of seats; jobs = jobs }; rooms = map reserved_of seats; spare = spare } ≡ k → HasEnds k → FitWhere is_registered_one seats × (length seats + 2 * count_by is_registered_one (consumers_of seats) ≤ spare)
ends_fit seats jobs spare k view ends =
    let P : WithRoom → Type 0 = λ j. HasEnds j in
    let here : HasEnds (record { subscriptions = record { consumers = consumers_of seats; jobs = jobs }; rooms = map reserved_of seats; spare = spare }) = subst P (sym view) ends in
    let long : length (consumers_of seats) ≡ length seats = length-map seats (λ (u : Seated). u.consumer) in
    let fits : length (consumers_of seats) + 2 * count_by is_registered_one (consumers_of seats) ≤ spare = here.jobs in
    ((λ p s at on. here.items p (reserved_of s) s.consumer (seat_consumer p s seats at) (get-map reserved_of p seats ∙ ap (option_map reserved_of) at) on), omega arith)

pub has_ends : (seats : List Seated) (jobs : List Job) (spare : ℕ) → FitWhere is_registered_one seats → length seats + 2 * count_by is_registered_one (consumers_of seats) ≤ spare → HasEnds (record { subscriptions = record { consumers = consumers_of seats; jobs = jobs }; rooms = map reserved_of seats; spare = spare })
has_ends seats jobs spare fit fits =
    let long : length (consumers_of seats) ≡ length seats = length-map seats (λ (u : Seated). u.consumer) in
    record {
      items = λ p r x at_x at_r on. by_seat p r x (slice_get seats p) refl (sym (get-map (λ (u : Seated). u.consumer) p seats) ∙ at_x) (sym (get-map reserved_of p seats) ∙ at_r) on;
      jobs = omega arith;
    }
  where
    by_seat : (p : ℕ) (r : Reserved) (x : Consumer) (o : Option Seated) → slice_get seats p ≡ o → option_map (λ (u : Seated). u.consumer) (slice_get seats p) ≡ Some x → option_map reserved_of (slice_get seats p) ≡ Some r → x.registered ≡ true → 3 ≤ r.items
    by_seat p r x None at at_x at_r on = let no_more : option_map reserved_of None ≡ Some r = sym (ap (option_map reserved_of) at) ∙ at_r in cc
    by_seat p r x (Some s) at at_x at_r on =
        let same_x : Some s.consumer ≡ Some x = sym (ap (option_map (λ (u : Seated). u.consumer)) at) ∙ at_x in
        let same_r : Some (reserved_of s) ≡ Some r = sym (ap (option_map reserved_of) at) ∙ at_r in
        let is_x : s.consumer ≡ x = cc in
        let is_r : reserved_of s ≡ r = cc in
        let is_n : s.spare ≡ r.items = ap (λ (q : Reserved). q.items) is_r in
        let room : 3 ≤ s.spare = fit p s at (ap (λ (z : Consumer). z.registered) is_x ∙ on) in
        omega arith

-- what is left of it after an end
pub ends_left : (c : ℕ) (e : Option Error) (places : List ℕ) (old rooms new : List Seated) (jobs : List Job) (before made after : ℕ) → consumers_of rooms ≡ consumers_of old → places_at (λ _ x. is_on c x) (consumers_of old) ≡ places → consumers_of new ≡ map_at (moved (mark.Ended c e)) (consumers_of rooms) → length new ≡ length old → length old + 2 * count_by is_registered_one (consumers_of old) ≤ before → before ≤ made → made ≤ after + 2 * length places → FitWhere is_registered_one new → HasEnds (record { subscriptions = record { consumers = consumers_of new; jobs = jobs }; rooms = map reserved_of new; spare = after })
ends_left c e places old rooms new jobs before made after same are moves many fits more left fit =
    let xs : consumers_of new ≡ map_at (moved (mark.Ended c e)) (consumers_of old) = moves ∙ ap (map_at (moved (mark.Ended c e))) same in
    let sum : count_by is_registered_one (map_at (moved (mark.Ended c e)) (consumers_of old)) + length (places_at (λ _ x. is_on c x) (consumers_of old)) ≡ count_by is_registered_one (consumers_of old) = count_ended c e (consumers_of old) in
    let long : length (places_at (λ _ x. is_on c x) (consumers_of old)) ≡ length places = ap length are in
    let now : count_by is_registered_one (consumers_of new) ≡ count_by is_registered_one (map_at (moved (mark.Ended c e)) (consumers_of old)) = ap (count_by is_registered_one) xs in
    has_ends new jobs after fit (omega arith)

-- as many jobs as the channel's consumers need
pub ends_enough : (c n spare : ℕ) (places : List ℕ) (xs : List Consumer) → places_at (λ _ x. is_on c x) xs ≡ places → n + 2 * count_by is_registered_one xs ≤ spare → n + 2 * length places ≤ spare
ends_enough c n spare places xs are fits =
    let sum : count_by is_registered_one (map_at (moved (mark.Ended c None)) xs) + length (places_at (λ _ x. is_on c x) xs) ≡ count_by is_registered_one xs = count_ended c None xs in
    let long : length (places_at (λ _ x. is_on c x) xs) ≡ length places = ap length are in
    omega arith

pub has_ends_now : (old new : List Seated) (jobs : List Job) (spare : ℕ) → consumers_of new ≡ consumers_of old → FitWhere is_registered_one new → length old + 2 * count_by is_registered_one (consumers_of old) ≤ spare → HasEnds (record { subscriptions = record { consumers = consumers_of new; jobs = jobs }; rooms = map reserved_of new; spare = spare })
has_ends_now old new jobs spare same fit fits =
    let now : count_by is_registered_one (consumers_of new) ≡ count_by is_registered_one (consumers_of old) = ap (count_by is_registered_one) same in
    let many : length new ≡ length old = sym (length-map new (λ (u : Seated). u.consumer)) ∙ ap length same ∙ length-map old (λ (u : Seated). u.consumer) in
    has_ends new jobs spare fit (omega arith)

-- ---- one seat after another gets room

-- those before a place have it
abbrev pub FitBelow : ℕ → List Seated → Type 0
FitBelow i seats = (p : ℕ) (s : Seated) → p < i → slice_get seats p ≡ Some s → s.consumer.registered ≡ true → 3 ≤ s.spare

pub below_next : (i : ℕ) (s t : Seated) (seats : List Seated) → i < length seats → t.consumer ≡ s.consumer → (s.consumer.registered ≡ true → 3 ≤ t.spare) → FitBelow i seats → FitBelow (i + 1) (slice_set seats i t)
below_next i s t seats within same room fit p u low at on =
    elim (eqb_tells i p) [
      | inl here ↦
          let P : ℕ → Type 0 = λ k. slice_get (slice_set seats i t) k ≡ Some u in
          let back : slice_get (slice_set seats i t) i ≡ Some u = subst P (sym here.1) at in
          let e : t ≡ u = same_Some t u (sym (get-set_same seats i t within) ∙ back) in
          let was : s.consumer.registered ≡ true = ap (λ (x : Consumer). x.registered) (sym same) ∙ ap (λ (v : Seated). v.consumer.registered) e ∙ on in
          subst (λ (v : Seated). 3 ≤ v.spare) e (room was)
      | inr other ↦
          let apart : i ≢ p = other.1 in
          fit p u (omega arith) (sym (get-set_other seats i p t other.1) ∙ at) on
    ]

pub below_all : (i : ℕ) (seats : List Seated) → length seats ≤ i → FitBelow i seats → FitWhere is_registered_one seats
below_all i seats past fit p s at on = fit p s (below (slice_get_within seats p s at)) at on
  where
    below : p < length seats → p < i
    below lt = omega arith
