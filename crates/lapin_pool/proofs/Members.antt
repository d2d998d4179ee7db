-- Members of a list, places that rise, and cards whose places differ.
use Rattle.std.proofs.Common.{◌≡◌, ◌∙◌, ℕ, ◌<◌, ◌++◌, ◌⊎◌, inl, inr, eqb, false, List, [], ◌∷◌, map, refl, sym, ap, arith}
use Rattle.std.specs.List.{All, AllByRecursion, Contains, IsDistinct}
use Rattle.std.proofs.lemmas.Bool.Decides.{nat_tests}
use Rattle.std.proofs.lemmas.List.Elements.{All-nil, All-cons, recursion_from_All, Contains-append_left, Contains-append_right, Contains-append_cases, Contains-push, Contains-push_cases}
use Rattle.std.proofs.lemmas.Map.Keys.{IsDistinct-cons}
use Rattle.lapin_locked.specs.declared.entry.Told.{Told}
use Rattle.lapin_shared.specs.Grown.{Rise}
use Rattle.lapin_pool.specs.declared.card.Card.{Card}
use Rattle.lapin_pool.specs.Pool.{place_of}

pub no_member : {X : Type 0} → (x : X) → Contains [] x → ⊥
no_member x c = omega (arith, c.1)

pub the_one : {X : Type 0} → (x y : X) → Contains (x ∷ []) y → x ≡ y
the_one x y c = elim (Contains-push_cases [] x y c) as (λ _. x ≡ y) [
  | inl none ↦ absurd (no_member y none)
  | inr e ↦ e
]

pub member_cases : {X : Type 0} → (x : X) (xs : List X) (y : X) → Contains (x ∷ xs) y → (x ≡ y) ⊎ Contains xs y
member_cases x xs y c = elim (Contains-append_cases (x ∷ []) xs y c) as (λ _. (x ≡ y) ⊎ Contains xs y) [
  | inl first ↦ inl (the_one x y first)
  | inr later ↦ inr later
]

pub member_first : {X : Type 0} → (x : X) (xs : List X) → Contains (x ∷ xs) x
member_first x xs = Contains-append_left (x ∷ []) xs x (Contains-push [] x)

pub member_later : {X : Type 0} → (x : X) (xs : List X) (y : X) → Contains xs y → Contains (x ∷ xs) y
member_later x xs y c = Contains-append_right (x ∷ []) xs y c

pub member_map : {X Y : Type 0} → (f : X → Y) (xs : List X) (x : X) → Contains xs x → Contains (map f xs) (f x)
member_map f [] x c = absurd (no_member x c)
member_map f (y ∷ ys) x c = elim (member_cases y ys x c) as (λ _. Contains (map f (y ∷ ys)) (f x)) [
  | inl e ↦ rw (← e) (member_first (f y) (map f ys))
  | inr later ↦ member_later (f y) (map f ys) (f x) (member_map f ys x later)
]

-- ---- places that rise

pub rise_above : (m : ℕ) (ts : List Told) (t : Told) → Rise m ts → Contains ts t → m < t.place
rise_above m [] t r c = absurd (no_member t c)
rise_above m (x ∷ xs) t r c = elim (member_cases x xs t c) as (λ _. m < t.place) [
  | inl e ↦ omega (arith, r.0, ap (λ (v : Told). v.place) e)
  | inr later ↦ omega (arith, r.0, rise_above x.place xs t r.1 later)
]

-- a step of the first list comes before one of the second
pub rise_apart : (m : ℕ) (xs ys : List Told) (t u : Told) → Rise m (xs ++ ys) → Contains xs t → Contains ys u → t.place < u.place
rise_apart m [] ys t u r c d = absurd (no_member t c)
rise_apart m (x ∷ xs) ys t u r c d = elim (member_cases x xs t c) as (λ _. t.place < u.place) [
  | inl e ↦ omega (arith, rise_above x.place (xs ++ ys) u r.1 (Contains-append_right xs ys u d), ap (λ (v : Told). v.place) e)
  | inr later ↦ rise_apart x.place xs ys t u r.1 later d
]

pub rise_front : (m : ℕ) (xs ys : List Told) → Rise m (xs ++ ys) → Rise m xs
rise_front m [] ys r = tt
rise_front m (x ∷ xs) ys r = (r.0, rise_front x.place xs ys r.1)

-- ---- cards whose places differ

abbrev pub Apart : List Card → Type 0
Apart [] = Unit {0}
Apart (c ∷ cs) = ((d : Card) → Contains cs d → c.place ≡ d.place → ⊥) × Apart cs

pub apart_append : (xs ys : List Card) → Apart xs → Apart ys → ((c d : Card) → Contains xs c → Contains ys d → c.place ≡ d.place → ⊥) → Apart (xs ++ ys)
apart_append [] ys a b x = b
apart_append (c ∷ cs) ys a b x = (
  λ d m e. elim (Contains-append_cases cs ys d m) as (λ _. ⊥) [
    | inl own ↦ a.0 d own e
    | inr other ↦ x c d (member_first c cs) other e
  ],
  apart_append cs ys a.1 b (λ k d m o. x k d (member_later c cs k m) o),
)

differ : (p q : ℕ) → (p ≡ q → ⊥) → eqb p q ≡ false
differ p q not = grind (arith, nat_tests)

others_differ : (p : ℕ) (cs : List Card) → ((d : Card) → Contains cs d → p ≡ d.place → ⊥) → All (λ q. eqb p q ≡ false) (map place_of cs)
others_differ p [] none = All-nil (λ q. eqb p q ≡ false)
others_differ p (c ∷ cs) none =
    All-cons (λ q. eqb p q ≡ false) c.place (map place_of cs) (differ p c.place (none c (member_first c cs))) (others_differ p cs (λ d m. none d (member_later c cs d m)))

pub distinct_places : (cs : List Card) → Apart cs → IsDistinct eqb (map place_of cs)
unfolding IsDistinct
distinct_places [] a = tt
distinct_places (c ∷ cs) a =
    IsDistinct-cons eqb c.place (map place_of cs) (recursion_from_All (λ q. eqb c.place q ≡ false) (map place_of cs) (others_differ c.place cs a.0)) (distinct_places cs a.1)
