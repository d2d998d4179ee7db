-- A consumer leaves the index, or joins it.
use Rattle.std.proofs.Common.{◌≡◌, ◌≢◌, ℕ, zero, suc, ◌<◌, ◌==◌, Bool, true, false, cond, List, [], ◌∷◌, ◌++◌, length, map, Some, refl, sym, ◌∙◌, ap, arith, slice_get, slice_set, inl, inr, ne_eqb, eq-eqb}
use Rattle.std.specs.Prelude.{nat_eq}
use Rattle.std.specs.Cmp.Lexicographic.{pointwise, same_text}
use Rattle.std.proofs.lemmas.Bool.{eqb-true}
use Rattle.std.proofs.lemmas.Bool.Decides.{eqb_tells}
use Rattle.lapin_consumer.specs.Words.{without_first}
use Rattle.lapin_consumer.specs.Words.{places_at, on_place}
use Rattle.lapin_consumer.specs.Subscriptions.{Consumer, is_on, is_under, newcomer}
use Rattle.lapin_consumer.proofs.Places.{tested}
use Rattle.lapin_tables.proofs.Bools.{and_first, and_second}

pub suc_eqb : (j p : ℕ) → (suc j == suc p) ≡ (j == p)
suc_eqb j p = elim (eqb_tells j p) [ inl same ↦ eq-eqb (suc j) (suc p) (ap suc same.1) ∙ sym same.0 | inr other ↦ ne_eqb (suc j) (suc p) (λ e. other.1 (omega arith)) ∙ sym other.0 ]

without-suc : (p : ℕ) (ps : List ℕ) → without_first (λ q. q == suc p) (map suc ps) ≡ map suc (without_first (λ q. q == p) ps)
without-suc p [] = refl
without-suc p (j ∷ ps) = tested (j == p) (λ on. rw (suc_eqb j p, on) refl) (λ off. rw (suc_eqb j p, off) (ap (λ qs. suc j ∷ qs) (without-suc p ps)))

module _ {X : Type 0} where
  pub places-off : (q : X → Bool) (f : X → X) (p : ℕ) (x : X) (xs : List X) → slice_get xs p ≡ Some x → q x ≡ true → q (f x) ≡ false → places_at (λ _ y. q y) (on_place f p xs) ≡ without_first (λ k. k == p) (places_at (λ _ y. q y) xs)
  places-off q f p x [] there on off = cc
  places-off q f zero x (y ∷ ys) there on off = let same : y ≡ x = cc in rw (same, on, off) refl
  places-off q f (suc p) x (y ∷ ys) there on off =
      let rest : places_at (λ _ z. q z) (on_place f p ys) ≡ without_first (λ k. k == p) (places_at (λ _ z. q z) ys) = places-off q f p x ys there on off in
      let later : map suc (places_at (λ _ z. q z) (on_place f p ys)) ≡ without_first (λ k. k == suc p) (map suc (places_at (λ _ z. q z) ys)) = ap (map suc) rest ∙ sym (without-suc p (places_at (λ _ z. q z) ys)) in
      let apart : (0 == suc p) ≡ false = ne_eqb 0 (suc p) (λ e. absurd (omega arith)) in
      tested (q y) (λ yes. rw (yes, apart) (ap (λ qs. 0 ∷ qs) later)) (λ no. rw no later)

  pub places-kept : (q : X → Bool) (f : X → X) (p : ℕ) (x : X) (xs : List X) → slice_get xs p ≡ Some x → q (f x) ≡ q x → places_at (λ _ y. q y) (on_place f p xs) ≡ places_at (λ _ y. q y) xs
  places-kept q f p x [] there same = refl
  places-kept q f zero x (y ∷ ys) there same = let e : y ≡ x = cc in rw (e, same) refl
  places-kept q f (suc p) x (y ∷ ys) there same = rw (places-kept q f p x ys there same) refl

  pub on-set : (f : X → X) (p : ℕ) (x : X) (xs : List X) → slice_get xs p ≡ Some x → on_place f p xs ≡ slice_set xs p (f x)
  on-set f p x [] there = refl
  on-set f zero x (y ∷ ys) there = let e : y ≡ x = cc in ap (λ z. f z ∷ ys) e
  on-set f (suc p) x (y ∷ ys) there = ap (λ zs. y ∷ zs) (on-set f p x ys there)

  pub on-push : (f : X → X) (p : ℕ) (xs : List X) (y : X) → p < length xs → on_place f p (xs ++ y ∷ []) ≡ on_place f p xs ++ y ∷ []
  on-push f p [] y h = absurd (omega arith)
  on-push f zero (x ∷ xs) y h = refl
  on-push f (suc p) (x ∷ xs) y h = ap (λ zs. x ∷ zs) (on-push f p xs y (omega arith))

  pub length-on : (f : X → X) (p : ℕ) (xs : List X) → length (on_place f p xs) ≡ length xs
  length-on f p [] = refl
  length-on f zero (x ∷ xs) = refl
  length-on f (suc p) (x ∷ xs) = ap suc (length-on f p xs)

  -- what stands at a place after a change of one place
  pub record Stood (f : X → X) (p i : ℕ) (y : X) (xs : List X) : Type 0 where
    pub before : X
    pub there : slice_get xs i ≡ Some before
    pub became : y ≡ cond (i == p) (f before) before

  pub stood : (f : X → X) (p i : ℕ) (y : X) (xs : List X) → slice_get (on_place f p xs) i ≡ Some y → Stood f p i y xs
  stood f p i y [] h = cc
  stood f zero zero y (x ∷ xs) h = let here : (0 == 0) ≡ true = refl in record { before = x; there = refl; became = let e : f x ≡ y = cc in sym e }
  stood f zero (suc i) y (x ∷ xs) h = let apart : (suc i == 0) ≡ false = ne_eqb (suc i) 0 (λ e. absurd (omega arith)) in record { before = y; there = h; became = rw apart refl }
  stood f (suc p) zero y (x ∷ xs) h = let apart : (0 == suc p) ≡ false = ne_eqb 0 (suc p) (λ e. absurd (omega arith)) in record { before = x; there = refl; became = let e : x ≡ y = cc in rw apart (sym e) }
  stood f (suc p) (suc i) y (x ∷ xs) h = let s = stood f p i y xs h in record { before = s.before; there = s.there; became = s.became ∙ ap (λ b. cond b (f s.before) s.before) (sym (suc_eqb i p)) }

  pub get-pushed : (xs : List X) (z : X) (i : ℕ) (y : X) → slice_get (xs ++ z ∷ []) i ≡ Some y → i ≢ length xs → slice_get xs i ≡ Some y
  get-pushed [] z zero y h other = absurd (other refl)
  get-pushed [] z (suc i) y h other = cc
  get-pushed (x ∷ xs) z zero y h other = h
  get-pushed (x ∷ xs) z (suc i) y h other = get-pushed xs z i y h (λ e. other (ap suc e))

  pub get-last : (xs : List X) (z : X) (i : ℕ) (y : X) → slice_get (xs ++ z ∷ []) i ≡ Some y → i ≡ length xs → z ≡ y
  get-last [] z zero y h last = cc
  get-last [] z (suc i) y h last = absurd (omega arith)
  get-last (x ∷ xs) z zero y h last = absurd (omega arith)
  get-last (x ∷ xs) z (suc i) y h last = get-last xs z i y h (omega arith)

-- no two are registered under one tag
abbrev pub Alone : List Consumer → Type 0
Alone xs = (c : ℕ) (t : List ℕ) (i j : ℕ) (x y : Consumer) → slice_get xs i ≡ Some x → slice_get xs j ≡ Some y → is_under c t x ≡ true → is_under c t y ≡ true → i ≡ j

-- f ends a registration, and leaves where it was
pub record Ends (f : Consumer → Consumer) : Type 0 where
  pub off : (x : Consumer) → (f x).registered ≡ false

pub unlisted : (c : ℕ) (x : Consumer) → x.registered ≡ false → is_on c x ≡ false
unlisted c x off = rw off refl

pub under_on : (c : ℕ) (t : List ℕ) (x : Consumer) → is_under c t x ≡ true → is_on c x ≡ true
under_on c t x h = and_first (is_on c x) (pointwise nat_eq x.tag t) h

under_off : (c : ℕ) (t : List ℕ) (x : Consumer) → x.registered ≡ false → is_under c t x ≡ true → ⊥
under_off c t x off h = let no : is_on c x ≡ false = unlisted c x off in let yes : is_on c x ≡ true = under_on c t x h in cc

pub on_channel : (c : ℕ) (x : Consumer) → is_on c x ≡ true → (x.registered ≡ true) × (x.channel ≡ c)
on_channel c x h = (and_first x.registered (x.channel == c) h, eqb-true x.channel c (and_second x.registered (x.channel == c) h))

pub alone_left : (f : Consumer → Consumer) (p : ℕ) (xs : List Consumer) → Ends f → Alone xs → Alone (on_place f p xs)
alone_left f p xs ends alone c t i j x y at_i at_j ux uy =
    let sx = stood f p i x xs at_i in
    let sy = stood f p j y xs at_j in
    alone c t i j sx.before sy.before sx.there sy.there (before i x sx.before sx.became ux) (before j y sy.before sy.became uy)
  where
    before : (k : ℕ) (z w : Consumer) → z ≡ cond (k == p) (f w) w → is_under c t z ≡ true → is_under c t w ≡ true
    before k z w e u = tested (k == p)
        (λ here. let gone : z ≡ f w = e ∙ ap (λ b. cond b (f w) w) here in absurd (under_off c t (f w) (ends.off w) (ap (is_under c t) (sym gone) ∙ u)))
        (λ away. let same : z ≡ w = e ∙ ap (λ b. cond b (f w) w) away in ap (is_under c t) (sym same) ∙ u)

-- after the one under a tag left, nobody is registered under it
pub nobody_left : (f : Consumer → Consumer) (c p : ℕ) (t : List ℕ) (x : Consumer) (xs : List Consumer) → Ends f → Alone xs → slice_get xs p ≡ Some x → is_under c t x ≡ true → (i : ℕ) (y : Consumer) → slice_get (on_place f p xs) i ≡ Some y → is_under c t y ≡ true → ⊥
nobody_left f c p t x xs ends alone there under i y at u =
    let s = stood f p i y xs at in
    tested (i == p)
    (λ here. let gone : y ≡ f s.before = s.became ∙ ap (λ b. cond b (f s.before) s.before) here in under_off c t (f s.before) (ends.off s.before) (ap (is_under c t) (sym gone) ∙ u))
    (λ away.
    let same : y ≡ s.before = s.became ∙ ap (λ b. cond b (f s.before) s.before) away in
    let e : i ≡ p = alone c t i p s.before x s.there there (ap (is_under c t) (sym same) ∙ u) under in
    let yes : (i == p) ≡ true = eq-eqb i p e in
    cc)

-- one more joins, under a tag that nobody has
pub alone_joined : (c : ℕ) (t q : List ℕ) (xs : List Consumer) → Alone xs → ((i : ℕ) (y : Consumer) → slice_get xs i ≡ Some y → is_under c t y ≡ true → ⊥) → Alone (xs ++ newcomer c t q ∷ [])
alone_joined c t q xs alone nobody d u i j x y at_i at_j ux uy =
    elim (eqb_tells i (length xs)) [
      | inl li ↦ elim (eqb_tells j (length xs)) [
        | inl lj ↦ li.1 ∙ sym lj.1
        | inr oj ↦ absurd (clash x j y (get-last xs (newcomer c t q) i x at_i li.1) (get-pushed xs (newcomer c t q) j y at_j oj.1) ux uy)
      ]
      | inr oi ↦ elim (eqb_tells j (length xs)) [
        | inl lj ↦ absurd (clash y i x (get-last xs (newcomer c t q) j y at_j lj.1) (get-pushed xs (newcomer c t q) i x at_i oi.1) uy ux)
        | inr oj ↦ alone d u i j x y (get-pushed xs (newcomer c t q) i x at_i oi.1) (get-pushed xs (newcomer c t q) j y at_j oj.1) ux uy
      ]
    ]
  where
    clash : (z : Consumer) (k : ℕ) (w : Consumer) → newcomer c t q ≡ z → slice_get xs k ≡ Some w → is_under d u z ≡ true → is_under d u w ≡ true → ⊥
    clash z k w e at uz uw =
        let new : is_under d u (newcomer c t q) ≡ true = ap (is_under d u) e ∙ uz in
        let channel : c ≡ d = (on_channel d (newcomer c t q) (under_on d u (newcomer c t q) new)).1 in
        let tag : t ≡ u = same_text t u (sym (and_second (is_on d (newcomer c t q)) (pointwise nat_eq t u) new)) in
        nobody k w at (rw (channel, tag) uw)

-- who is registered on one channel is on no other
pub elsewhere : (c d : ℕ) (x : Consumer) → c ≢ d → is_on c x ≡ true → is_on d x ≡ false
elsewhere c d x apart on =
    let at : x.channel ≡ c = (on_channel c x on).1 in
    let away : (x.channel == d) ≡ false = ne_eqb x.channel d (λ e. apart (sym at ∙ e)) in
    rw ((on_channel c x on).0, away) refl
