-- A token gives back its value, and nothing else has that token.
use Rattle.std.proofs.Common.{◌≡◌, ℕ, List, [], ◌∷◌, ◌++◌, Option, Some, None, refl, sym, ap, subst, ◌∙◌, true}
use Rattle.std.proofs.lemmas.List.{append-nil}
use Rattle.lapin_scalars.specs.Scalars.Scalar.{text as a_text, bytes as some_bytes, flag as a_flag, number as a_number}
use Rattle.lapin_tokens.specs.Values.{table_text}
use Rattle.lapin_tokens.specs.Properties.{properties_text}
use Rattle.lapin_tokens.specs.Fields.{Field, Value, Values, token, tokens, fits, AllFit}
use Rattle.lapin_tokens.specs.Fields.Field.{text, bytes, table, props, flag, number}
use Rattle.lapin_tokens.specs.ValueReading.{table_at, whole}
use Rattle.lapin_tokens.specs.PropertyReading.{properties_at}
use Rattle.lapin_tokens.specs.Reading.{value_of, field_at, fields_at}
use Rattle.lapin_scalars.proofs.ScalarLaws.{scalar_again, scalar_found}
use Rattle.lapin_tokens.proofs.NestedLaws.{table_again, table_found}
use Rattle.lapin_tokens.proofs.PropertyLaws.{properties_again, properties_found}
pub use Rattle.lapin_tokens.proofs.MemberLaws.{bind_some, some_is}
pub use Rattle.lapin_tokens.proofs.ValueLaws.{find_found}

pub value_again : (f : Field) (v : Value f) → fits f v ≡ true → value_of f (token f v) ≡ Some v
unfolding value_of
value_again text v e = scalar_again a_text v e
value_again bytes v e = scalar_again some_bytes v e
value_again flag v e = scalar_again a_flag v refl
value_again (number limit) v e = scalar_again (a_number limit) v e
value_again table v e =
    let read : table_at 8 (table_text v) ≡ Some (v, []) = ap (table_at 8) (sym (append-nil (table_text v))) ∙ table_again 7 v [] e in
    rw read refl
value_again props v e =
    let read : properties_at (properties_text v) ≡ Some (v, []) = ap properties_at (sym (append-nil (properties_text v))) ∙ properties_again v [] e in
    rw read refl

pub whole_found : {A : Type 0} (r : Option (A × List ℕ)) (v : A) → whole r ≡ Some v → r ≡ Some (v, [])
whole_found None v h = absurd cc
whole_found {A = A} (Some (x, [])) v h = ap (λ (y : A). Some (y, [])) (some_is x v h)
whole_found (Some (x, t ∷ ts)) v h = absurd cc

pub record IsTokenOf (f : Field) (v : Value f) (piece : List ℕ) : Type 0 where
  pub is : piece ≡ token f v
  pub fits : fits f v ≡ true

pub value_found : (f : Field) (piece : List ℕ) (v : Value f) → value_of f piece ≡ Some v → IsTokenOf f v piece
unfolding value_of
value_found text piece v e = let f = scalar_found a_text piece v e in record { is = f.is; fits = f.fits }
value_found bytes piece v e = let f = scalar_found some_bytes piece v e in record { is = f.is; fits = f.fits }
value_found flag piece v e = let f = scalar_found a_flag piece v e in record { is = f.is; fits = refl }
value_found (number limit) piece v e = let f = scalar_found (a_number limit) piece v e in record { is = f.is; fits = f.fits }
value_found table piece v e =
    let f = table_found 7 piece (v, []) (whole_found (table_at 8 piece) v e) in
    record { is = f.0 ∙ append-nil (table_text v); fits = f.1 }
value_found props piece v e =
    let f = properties_found piece (v, []) (whole_found (properties_at piece) v e) in
    record { is = f.0 ∙ append-nil (properties_text v); fits = f.1 }

-- a reader of pieces that is exact both ways gives value_of
abbrev pub Exactly : (f : Field) → List ℕ → Option (Value f) → Type 0
Exactly f piece (Some v) = IsTokenOf f v piece
Exactly f piece None = (v : Value f) → fits f v ≡ true → piece ≡ token f v → ⊥

pub is_value : (f : Field) (piece : List ℕ) (r : Option (Value f)) → Exactly f piece r → r ≡ value_of f piece
is_value f piece (Some v) h = sym (ap (value_of f) h.is ∙ value_again f v h.fits)
is_value f piece None h = go (value_of f piece) refl
  where
    go : (r : Option (Value f)) → value_of f piece ≡ r → None ≡ r
    go None e = refl
    go (Some v) e = let k = value_found f piece v e in absurd (h v k.fits k.is)

-- ---- fields in a row

pub field_again : (f : Field) (v : Value f) (rest : List (List ℕ)) → fits f v ≡ true → field_at f (token f v ∷ rest) ≡ Some (v, rest)
unfolding field_at
field_again f v rest e = rw (value_again f v e) refl

pub field_found : (f : Field) (pieces : List (List ℕ)) (x : Value f × List (List ℕ)) → field_at f pieces ≡ Some x → (pieces ≡ token f x.0 ∷ x.1) × (fits f x.0 ≡ true)
unfolding field_at
field_found f [] x e = absurd cc
field_found f (piece ∷ rest) x e =
    let a = bind_some (value_of f piece) (λ v. Some (v, rest)) x e in
    let k = value_found f piece a.0 a.1 in
    subst (λ (y : Value f × List (List ℕ)). (piece ∷ rest ≡ token f y.0 ∷ y.1) × (fits f y.0 ≡ true)) (some_is (a.0, rest) x a.2) (ap (λ (p : List ℕ). p ∷ rest) k.is, k.fits)

pub fields_again : {A : Type 0} (fs : List Field) (k : Values fs → A) (vs : Values fs) (rest : List (List ℕ)) → AllFit fs vs → fields_at fs k (tokens fs vs ++ rest) ≡ Some (k vs, rest)
fields_again [] k vs rest h = refl
fields_again (f ∷ fs) k vs rest h = rw (field_again f vs.0 (tokens fs vs.1 ++ rest) h.0) (fields_again fs (λ ws. k (vs.0, ws)) vs.1 rest h.1)

-- what was read: values, which are put together by k
pub record AreRead {A : Type 0} (fs : List Field) (k : Values fs → A) (pieces : List (List ℕ)) (x : A × List (List ℕ)) : Type 0 where
  pub vs : Values fs
  pub is : x.0 ≡ k vs
  pub spelled : pieces ≡ tokens fs vs ++ x.1
  pub fit : AllFit fs vs

pub fields_found : {A : Type 0} (fs : List Field) (k : Values fs → A) (pieces : List (List ℕ)) (x : A × List (List ℕ)) → fields_at fs k pieces ≡ Some x → AreRead fs k pieces x
fields_found {A = A} [] k pieces x e = let s = some_is (k tt, pieces) x e in record { vs = tt; is = sym (ap (λ (p : A × List (List ℕ)). p.0) s); spelled = ap (λ (p : A × List (List ℕ)). p.1) s; fit = tt }
fields_found {A = A} (f ∷ fs) k pieces x e =
    let a = bind_some (field_at f pieces) (λ y. fields_at fs (λ vs. k (y.0, vs)) y.1) x e in
    let first = field_found f pieces a.0 a.1 in
    let others = fields_found fs (λ vs. k (a.0.0, vs)) a.0.1 x a.2 in
    record {
      vs = (a.0.0, others.vs);
      is = others.is;
      spelled = first.0 ∙ ap (λ (t : List (List ℕ)). token f a.0.0 ∷ t) others.spelled;
      fit = (first.1, others.fit);
    }
