-- Equality of plain data as a test: two values are the same where the logic stores them alike.
use Rattle.std.specs.Prelude.{Bool, true, false, ◌&&◌, ◌==◌, ◌≡◌, refl}
use Rattle.std.specs.Bool.{Decides}
use Rattle.std.specs.Cmp.{IsEquivalence, IsPartialEquivalence, partial_equiv_from_equiv, unsigned_Decides, both_ways}
use Rattle.std.proofs.Common.{sym, ap, ◌∙◌}
use base.Stored.{Coded, Gv, gnil, gnum, gcons}

-- whether two stored values are the same
abbrev pub gv_eq : Gv → Gv → Bool
gv_eq gnil gnil = true
gv_eq gnil (gnum n) = false
gv_eq gnil (gcons c d) = false
gv_eq (gnum m) gnil = false
gv_eq (gnum m) (gnum n) = m == n
gv_eq (gnum m) (gcons c d) = false
gv_eq (gcons a b) gnil = false
gv_eq (gcons a b) (gnum n) = false
gv_eq (gcons a b) (gcons c d) = gv_eq a c && gv_eq b d

-- where two tests are true together, each of them is
both_true : (p q : Bool) → p && q ≡ true → (p ≡ true) × (q ≡ true)
both_true true true e = (refl, refl)
both_true true false e = cc
both_true false q e = cc

-- where each of two tests is true, they are true together
and_true : (p q : Bool) → p ≡ true → q ≡ true → p && q ≡ true
and_true true true e f = refl
and_true true false e f = f
and_true false q e f = e

-- a stored value is tested to be the same as itself
pub gv_eq-refl : (g : Gv) → gv_eq g g ≡ true
gv_eq-refl gnil = refl
gv_eq-refl (gnum n) = (unsigned_Decides n n).1 refl
gv_eq-refl (gcons a b) = and_true (gv_eq a a) (gv_eq b b) (gv_eq-refl a) (gv_eq-refl b)

-- stored values that are tested to be the same are equal
pub gv_eq-same : (g h : Gv) → gv_eq g h ≡ true → g ≡ h
gv_eq-same gnil gnil e = refl
gv_eq-same gnil (gnum n) e = cc
gv_eq-same gnil (gcons c d) e = cc
gv_eq-same (gnum m) gnil e = cc
gv_eq-same (gnum m) (gnum n) e = ap gnum ((unsigned_Decides m n).0 e)
gv_eq-same (gnum m) (gcons c d) e = cc
gv_eq-same (gcons a b) gnil e = cc
gv_eq-same (gcons a b) (gnum n) e = cc
gv_eq-same (gcons a b) (gcons c d) e =
    let t = both_true (gv_eq a c) (gv_eq b d) e in
    λ i. gcons (gv_eq-same a c t.0 i) (gv_eq-same b d t.1 i)

-- whether x and y are the same, by how the logic stores them
unfoldable pub same_by : {A : Type 0} → Coded A → A → A → Bool
same_by c x y = gv_eq (c.code x) (c.code y)

-- `same_by` is true exactly where x and y are equal
pub same_by-Decides : {A : Type 0} (c : Coded A) (x y : A) → Decides (same_by c x y) (x ≡ y)
unfolding same_by
same_by-Decides c x y =
    (λ e. c.inj x y (gv_eq-same (c.code x) (c.code y) e), λ e. ap (λ z. gv_eq (c.code x) (c.code z)) (sym e) ∙ gv_eq-refl (c.code x))

-- a test of sameness is an equivalence
module _ {A : Type 0} (E : A → A → Bool) (d : (x y : A) → Decides (E x y) (x ≡ y)) where
  pub equiv_from_Decides : IsEquivalence E
  equiv_from_Decides = record {
    refl = λ x. (d x x).1 refl;
    symm = λ x y. both_ways (E x y) (E y x) (λ e. (d y x).1 (sym ((d x y).0 e))) (λ e. (d x y).1 (sym ((d y x).0 e)));
    congr = λ x y z e. ap (λ w. E w z) ((d x y).0 e);
  }

-- `same_by` is an equivalence
pub same_by_equiv : {A : Type 0} (c : Coded A) → IsEquivalence (same_by c)
same_by_equiv c = equiv_from_Decides (same_by c) (same_by-Decides c)

-- `same_by` is a partial equivalence
pub same_by_per : {A : Type 0} (c : Coded A) → IsPartialEquivalence (same_by c)
same_by_per c = partial_equiv_from_equiv (same_by_equiv c)

-- a test that is true exactly where two values are equal answers as `same_by`
pub same_by-is : {A : Type 0} (c : Coded A) (x y : A) (r : Bool) → Decides r (x ≡ y) → r ≡ same_by c x y
same_by-is c x y r d = both_ways r (same_by c x y) (λ e. (same_by-Decides c x y).1 (d.0 e)) (λ e. d.1 ((same_by-Decides c x y).0 e))
