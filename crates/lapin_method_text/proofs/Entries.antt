-- Tables: what was written is read, and what was read is spelled so.
use Rattle.std.proofs.Common.{◌≡◌, ℕ, List, ◌∷◌, ◌++◌, Option, Some, sym, ap, subst, ◌∙◌, true}
use Rattle.lapin_tokens.specs.Fields.{Field, Values, tokens}
use Rattle.lapin_tokens.specs.Reading.{fields_at}
use Rattle.lapin_tokens.proofs.FieldLaws.{fields_again, fields_found}
use Rattle.lapin_tokens.proofs.Plain.{no_space, AllPlain}
use Rattle.lapin_tokens.proofs.PlainFields.{plain_tokens}
use Rattle.lapin_method_text.specs.Entries.{entry_tokens, EntryFits}

-- a table: the names of kinds, the kinds of their fields, what fields make, and how a thing is taken apart, spelled and read
pub record Table (K X : Type 0) : Type 0 where
  pub name : K → List ℕ
  pub fields : K → List Field
  pub made : (k : K) → Values (fields k) → X
  pub parts : X → (k : K) × Values (fields k)
  pub spelled : X → List (List ℕ)
  pub reading : K → List (List ℕ) → Option (X × List (List ℕ))

-- the laws of a kind: it is found by its name, which has no space; its fields are read in a row; what they make has these fields
pub record RowLaws {K X M : Type 0} (t : Table K X) (find : List ℕ → Option M) (kind : K → M) (k : K) : Type 0 where
  pub named : find (t.name k) ≡ Some (kind k)
  pub plain : no_space (t.name k) ≡ true
  pub reads : (pieces : List (List ℕ)) → t.reading k pieces ≡ fields_at (t.fields k) (t.made k) pieces
  pub parted : (v : Values (t.fields k)) → t.parts (t.made k v) ≡ (k, v)

-- the laws of a thing: its fields make it, and it is spelled by its kind's name and its fields
pub record EntryLaws {K X : Type 0} (t : Table K X) (x : X) : Type 0 where
  pub remade : t.made (t.parts x).0 (t.parts x).1 ≡ x
  pub spells : t.spelled x ≡ entry_tokens t.name t.fields (t.parts x)

pub entry_found : {K X M : Type 0} (t : Table K X) (find : List ℕ → Option M) (kind : K → M) → ((k : K) → RowLaws t find kind k) → ((x : X) → EntryLaws t x) → (k : K) (rest : List (List ℕ)) (x : X × List (List ℕ)) → t.reading k rest ≡ Some x → (t.name k ∷ rest ≡ t.spelled x.0 ++ x.1) × EntryFits t.fields (t.parts x.0)
entry_found {K = K} t find kind rows laws k rest x e =
    let r = fields_found (t.fields k) (t.made k) rest x (sym ((rows k).reads rest) ∙ e) in
    let P : (p : (j : K) × Values (t.fields j)) → Type 0 = λ p. (t.name k ∷ rest ≡ entry_tokens t.name t.fields p ++ x.1) × EntryFits t.fields p in
    let whole : t.parts x.0 ≡ (k, r.vs) = ap t.parts r.is ∙ (rows k).parted r.vs in
    let here : P (t.parts x.0) = subst P (sym whole) (ap (λ (ts : List (List ℕ)). t.name k ∷ ts) r.spelled, r.fit) in
    (here.0 ∙ ap (λ (ts : List (List ℕ)). ts ++ x.1) (sym (laws x.0).spells), here.1)

pub entry_again : {K X M : Type 0} (t : Table K X) (find : List ℕ → Option M) (kind : K → M) → ((k : K) → RowLaws t find kind k) → ((x : X) → EntryLaws t x) → (x : X) (rest : List (List ℕ)) → EntryFits t.fields (t.parts x) → t.reading (t.parts x).0 (tokens (t.fields (t.parts x).0) (t.parts x).1 ++ rest) ≡ Some (x, rest)
entry_again {X = X} t find kind rows laws x rest h =
    let p = t.parts x in
    (rows p.0).reads (tokens (t.fields p.0) p.1 ++ rest) ∙ fields_again (t.fields p.0) (t.made p.0) p.1 rest h ∙ ap (λ (y : X). Some (y, rest)) (laws x).remade

pub plain_entry : {K X M : Type 0} (t : Table K X) (find : List ℕ → Option M) (kind : K → M) → ((k : K) → RowLaws t find kind k) → ((x : X) → EntryLaws t x) → (x : X) → EntryFits t.fields (t.parts x) → AllPlain (t.spelled x)
plain_entry t find kind rows laws x h =
    let p = t.parts x in
    subst AllPlain (sym (laws x).spells) ((rows p.0).plain, plain_tokens (t.fields p.0) p.1 h)
