-- The frames of a content stand together over all channels, up to the close of the connection.
use Rattle.std.proofs.Common.{◌≡◌, ℕ, Bool, true, false, cond, not, ◌==◌, ◌||◌, ◌&&◌, List, [], ◌∷◌, ◌++◌, refl, sym, ◌∙◌, ap, ap₂, subst, ◌⊎◌, inl, inr, eq-eqb}
use Rattle.std.proofs.lemmas.Bool.Decides.{eqb_tells}
use Rattle.lapin_pairs.specs.Channel as kept
use Rattle.lapin_pairs.specs.Every.{UpOn, OnU, CloseU, CloseOkU, of_u, off_u}
use Rattle.lapin_pairs.specs.Asking.{U2, Plain}
use Rattle.lapin_tables.proofs.Bools.{and_first, and_second}
use Rattle.std.proofs.lemmas.Bool.{and_from}

-- ---- a header or a body stands right behind a frame of its channel

-- a header or a body
abbrev pub is_more : U2 → Bool
is_more (Plain (kept.FHeader n)) = true
is_more (Plain (kept.FBody n)) = true
is_more _ = false

-- the frame is on the channel
abbrev pub is_on : ℕ → UpOn U2 → Bool
is_on c (OnU d u) = d == c
is_on c _ = false

-- g may stand right behind f
abbrev pub joins : UpOn U2 → UpOn U2 → Bool
joins f (OnU c u) = not (is_more u) || is_on c f
joins f _ = true

-- so do all of these, the first one behind f
abbrev pub together_from : UpOn U2 → List (UpOn U2) → Bool
together_from f [] = true
together_from f (g ∷ gs) = joins f g && together_from g gs

-- the same, whatever stands before the first
abbrev pub together : List (UpOn U2) → Bool
together [] = true
together (f ∷ fs) = together_from f fs

pub tail_together : (f : UpOn U2) (fs : List (UpOn U2)) → together (f ∷ fs) ≡ true → together fs ≡ true
tail_together f [] h = refl
tail_together f (g ∷ gs) h = and_second (joins f g) (together_from g gs) h

-- a first frame that goes on with nothing may follow anything
abbrev pub begins : List (UpOn U2) → Bool
begins [] = true
begins (OnU c u ∷ fs) = not (is_more u)
begins (_ ∷ fs) = true

joins_first : (f g : UpOn U2) (gs : List (UpOn U2)) → begins (g ∷ gs) ≡ true → joins f g ≡ true
joins_first f (OnU c u) gs h = rw h refl
joins_first f CloseU gs h = refl
joins_first f CloseOkU gs h = refl

from_append : (f : UpOn U2) (fs gs : List (UpOn U2)) → together_from f fs ≡ true → together gs ≡ true → begins gs ≡ true → together_from f (fs ++ gs) ≡ true
from_append f [] [] h k b = refl
from_append f [] (g ∷ gs) h k b = and_from (joins f g) (together_from g gs) (joins_first f g gs b) k
from_append f (x ∷ xs) gs h k b = and_from (joins f x) (together_from x (xs ++ gs)) (and_first (joins f x) (together_from x xs) h) (from_append x xs gs (and_second (joins f x) (together_from x xs) h) k b)

pub together_append : (fs gs : List (UpOn U2)) → together fs ≡ true → together gs ≡ true → begins gs ≡ true → together (fs ++ gs) ≡ true
together_append [] gs h k b = k
together_append (f ∷ fs) gs h k b = from_append f fs gs h k b

-- the front of a list
from_front : (f : UpOn U2) (fs gs : List (UpOn U2)) → together_from f (fs ++ gs) ≡ true → together_from f fs ≡ true
from_front f [] gs h = refl
from_front f (x ∷ xs) gs h = and_from (joins f x) (together_from x xs) (and_first (joins f x) (together_from x (xs ++ gs)) h) (from_front x xs gs (and_second (joins f x) (together_from x (xs ++ gs)) h))

pub together_front : (fs gs : List (UpOn U2)) → together (fs ++ gs) ≡ true → together fs ≡ true
together_front [] gs h = refl
together_front (f ∷ fs) gs h = from_front f fs gs h

-- without the frames of a channel at the end
joins_off : (p q : UpOn U2) (c d : ℕ) (u : U2) → (d == c) ≡ false → ((p ≡ q) ⊎ (is_on c p ≡ true)) → joins p (OnU d u) ≡ true → joins q (OnU d u) ≡ true
joins_off p q c d u n (inl e) h = ap (λ x. joins x (OnU d u)) (sym e) ∙ h
joins_off p q c d u n (inr o) h = elim (is_more u) as (λ t. (not t || is_on d p) ≡ true → (not t || is_on d q) ≡ true) [
  | true ↦ λ h. absurd (apart p o h)
  | false ↦ λ h. refl
] h
  where
    apart : (x : UpOn U2) → is_on c x ≡ true → is_on d x ≡ true → ⊥
    apart (OnU e v) a b = elim (eqb_tells e c) [
      | inl y ↦ elim (eqb_tells e d) [ inl z ↦ let k : true ≡ false = sym (eq-eqb d c (sym z.1 ∙ y.1)) ∙ n in cc | inr z ↦ let k : true ≡ false = sym b ∙ z.0 in cc ]
      | inr y ↦ let k : true ≡ false = sym a ∙ y.0 in cc
    ]
    apart CloseU a b = cc
    apart CloseOkU a b = cc

off_one : (q : UpOn U2) (c d : ℕ) (u : U2) (fs : List (UpOn U2)) (t : Bool) → (d == c) ≡ t → (t ≡ true → together_from q (off_u c fs) ≡ true) → (t ≡ false → joins q (OnU d u) ≡ true) → (t ≡ false → together_from (OnU d u) (off_u c fs) ≡ true) → together_from q (cond (d == c) (off_u c fs) (OnU d u ∷ off_u c fs)) ≡ true
off_one q c d u fs true e x y z = rw e (x refl)
off_one q c d u fs false e x y z = rw e (and_from (joins q (OnU d u)) (together_from (OnU d u) (off_u c fs)) (y refl) (z refl))

from_off : (p q : UpOn U2) (c : ℕ) (fs : List (UpOn U2)) → ((p ≡ q) ⊎ (is_on c p ≡ true)) → together_from p fs ≡ true → together_from q (off_u c fs) ≡ true
from_off p q c [] o h = refl
from_off p q c (OnU d u ∷ fs) o h =
    let j = and_first (joins p (OnU d u)) (together_from (OnU d u) fs) h in
    let r = and_second (joins p (OnU d u)) (together_from (OnU d u) fs) h in
    off_one q c d u fs (d == c) refl
    (λ e. from_off (OnU d u) q c fs (inr e) r)
    (λ e. joins_off p q c d u e o j)
    (λ e. from_off (OnU d u) (OnU d u) c fs (inl refl) r)
from_off p q c (CloseU ∷ fs) o h = from_off CloseU CloseU c fs (inl refl) h
from_off p q c (CloseOkU ∷ fs) o h = from_off CloseOkU CloseOkU c fs (inl refl) h

off_behind : (f : UpOn U2) (c : ℕ) (fs gs : List (UpOn U2)) → together_from f (fs ++ gs) ≡ true → together_from f (fs ++ off_u c gs) ≡ true
off_behind f c [] gs h = from_off f f c gs (inl refl) h
off_behind f c (x ∷ xs) gs h = and_from (joins f x) (together_from x (xs ++ off_u c gs)) (and_first (joins f x) (together_from x (xs ++ gs)) h) (off_behind x c xs gs (and_second (joins f x) (together_from x (xs ++ gs)) h))

first_off : (c : ℕ) (gs : List (UpOn U2)) → together gs ≡ true → together (off_u c gs) ≡ true
first_off c [] h = refl
first_off c (OnU d u ∷ gs) h = by_channel (d == c) refl
  where
    on_it : (xs : List (UpOn U2)) → together_from (OnU d u) xs ≡ true → together xs ≡ true
    on_it [] k = refl
    on_it (x ∷ xs) k = and_second (joins (OnU d u) x) (together_from x xs) k

    by_channel : (t : Bool) → (d == c) ≡ t → together (cond (d == c) (off_u c gs) (OnU d u ∷ off_u c gs)) ≡ true
    by_channel true e = rw e (on_it (off_u c gs) (from_off (OnU d u) (OnU d u) c gs (inl refl) h))
    by_channel false e = rw e (from_off (OnU d u) (OnU d u) c gs (inl refl) h)
first_off c (CloseU ∷ gs) h = from_off CloseU CloseU c gs (inl refl) h
first_off c (CloseOkU ∷ gs) h = from_off CloseOkU CloseOkU c gs (inl refl) h

pub together_off : (c : ℕ) (fs gs : List (UpOn U2)) → together (fs ++ gs) ≡ true → together (fs ++ off_u c gs) ≡ true
together_off c [] gs h = first_off c gs h
together_off c (f ∷ fs) gs h = off_behind f c fs gs h

-- ---- the next frame of a channel that is in a content

-- no header or body of channel c comes first of its channel behind a frame of another
away_from : (c : ℕ) (f : UpOn U2) (gs : List (UpOn U2)) (v : U2) (vs : List U2) → is_on c f ≡ false → together_from f gs ≡ true → of_u c gs ≡ v ∷ vs → is_more v ≡ true → ⊥
away_from c f [] v vs n h o m = cc
away_from c f (OnU d u ∷ gs) v vs n h o m = elim (eqb_tells d c) [
  | inl y ↦
      let k : u ∷ of_u c gs ≡ v ∷ vs = sym (rw y.0 refl) ∙ o in
      let w : u ≡ v = cc in
      let j : (not (is_more u) || is_on d f) ≡ true = and_first (joins f (OnU d u)) (together_from (OnU d u) gs) h in
      let i : is_on d f ≡ true = or_right (is_more u) (is_on d f) (ap is_more w ∙ m) j in
      let z : true ≡ false = sym (subst (λ e. is_on e f ≡ true) y.1 i) ∙ n in cc
  | inr y ↦ away_from c (OnU d u) gs v vs y.0 (and_second (joins f (OnU d u)) (together_from (OnU d u) gs) h) (sym (rw y.0 refl) ∙ o) m
]
  where
    or_right : (a b : Bool) → a ≡ true → (not a || b) ≡ true → b ≡ true
    or_right true b e h = h
    or_right false b e h = cc
away_from c f (CloseU ∷ gs) v vs n h o m = away_from c CloseU gs v vs refl h o m
away_from c f (CloseOkU ∷ gs) v vs n h o m = away_from c CloseOkU gs v vs refl h o m

pub first_of : (c : ℕ) (f : UpOn U2) (gs : List (UpOn U2)) (v : U2) (vs : List U2) → together (f ∷ gs) ≡ true → of_u c (f ∷ gs) ≡ v ∷ vs → is_more v ≡ true → f ≡ OnU c v
first_of c (OnU d u) gs v vs h o m = elim (eqb_tells d c) [
  | inl y ↦
      let k : u ∷ of_u c gs ≡ v ∷ vs = sym (rw y.0 refl) ∙ o in
      let w : u ≡ v = cc in
      ap₂ OnU y.1 w
  | inr y ↦ absurd (away_from c (OnU d u) gs v vs y.0 h (sym (rw y.0 refl) ∙ o) m)
]
first_of c CloseU gs v vs h o m = absurd (away_from c CloseU gs v vs refl h o m)
first_of c CloseOkU gs v vs h o m = absurd (away_from c CloseOkU gs v vs refl h o m)
