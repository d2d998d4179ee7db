-- A value by its letter.
use Rattle.std.proofs.Common.{◌≡◌, ℕ, zero, suc, ◌-◌, List, [], Option, Some, None, refl, sym, ◌∙◌, arith}
use Rattle.std.proofs.lemmas.Bool.{ne_eqb}
use Rattle.lapin_values.specs.Data.{Data, array, table, items_of, pairs_of}
use Rattle.lapin_scalars.specs.declared.fault.ReadError.{ReadError}
use Rattle.lapin_scalars.specs.Reading.{Fails}
use Rattle.lapin_tokens.proofs.Turns.{fails_bind, fails_same}
use Rattle.lapin_tokens.specs.declared.letters.Letter.{Letter}
use Rattle.lapin_tokens.specs.declared.letters.Letter.TheVariants as letter
use Rattle.lapin_tokens.specs.Cursor.{◌>>=◌, after_mark}
use Rattle.lapin_tokens.proofs.MemberLaws.{inside_at}
use Rattle.lapin_tokens.specs.ValueReading.{next_letter, by_letter, leaf_at, item_at, pair_at, value_at, array_at, table_at}

pub array_up : (level : ℕ) (text : List ℕ) → array_at (suc level) text ≡ (after_mark 91 text >>= λ inner. inside_at (item_at (value_at level)) 93 [] inner)
unfolding array_at
array_up level text =
    let below : suc level - 1 ≡ level = omega arith in
    rw (ne_eqb (suc level) 0 (λ z. omega (arith, z)), below) refl

pub table_up : (level : ℕ) (text : List ℕ) → table_at (suc level) text ≡ (after_mark 123 text >>= λ inner. inside_at (pair_at (value_at level)) 125 [] inner)
unfolding table_at
table_up level text =
    let below : suc level - 1 ≡ level = omega arith in
    rw (ne_eqb (suc level) 0 (λ z. omega (arith, z)), below) refl

pub array_none : (text : List ℕ) (x : List Data × List ℕ) → array_at zero text ≡ Some x → ⊥
unfolding array_at
array_none text x e = cc

pub table_none : (text : List ℕ) (x : List (List ℕ × Data) × List ℕ) → table_at zero text ≡ Some x → ⊥
unfolding table_at
table_none text x e = cc

no_array : (text : List ℕ) → array_at zero text ≡ None
unfolding array_at
no_array text = refl

no_table : (text : List ℕ) → table_at zero text ≡ None
unfolding table_at
no_table text = refl

abbrev Arrays : Type 0
Arrays = List ℕ → Option (List Data × List ℕ)

abbrev Tables : Type 0
Tables = List ℕ → Option (List (List ℕ × Data) × List ℕ)

same_letter : (f g : Arrays) (h k : Tables) → ((t : List ℕ) → f t ≡ g t) → ((t : List ℕ) → h t ≡ k t) → (l : Letter) (text : List ℕ) → by_letter f h l text ≡ by_letter g k l text
same_letter f g h k a b letter.FieldArray text = rw (a text) refl
same_letter f g h k a b letter.FieldTable text = rw (b text) refl
same_letter f g h k a b letter.Boolean text = refl
same_letter f g h k a b letter.ShortShortInt text = refl
same_letter f g h k a b letter.ShortShortUInt text = refl
same_letter f g h k a b letter.ShortInt text = refl
same_letter f g h k a b letter.ShortUInt text = refl
same_letter f g h k a b letter.LongInt text = refl
same_letter f g h k a b letter.LongUInt text = refl
same_letter f g h k a b letter.LongLongInt text = refl
same_letter f g h k a b letter.Timestamp text = refl
same_letter f g h k a b letter.LongString text = refl
same_letter f g h k a b letter.ByteArray text = refl
same_letter f g h k a b letter.Void text = refl

same_bind : {A B : Type 0} (r : Option A) (f g : A → Option B) → ((x : A) → f x ≡ g x) → (r >>= f) ≡ (r >>= g)
same_bind None f g h = refl
same_bind (Some x) f g h = h x

pub by_the_letter : (level : ℕ) (text : List ℕ) → value_at level text ≡ (next_letter text >>= λ x. by_letter (array_at level) (table_at level) x.0 x.1)
unfolding value_at
by_the_letter zero text = same_bind (next_letter text) _ _ (λ x. same_letter _ _ _ _ (λ t. sym (no_array t)) (λ t. sym (no_table t)) x.0 x.1)
by_the_letter (suc level) text = same_bind (next_letter text) _ _ (λ x. same_letter _ _ _ _ (λ t. sym (array_up level t)) (λ t. sym (table_up level t)) x.0 x.1)

pub value_letter : (level : ℕ) (text rest : List ℕ) (l : Letter) → next_letter text ≡ Some (l, rest) → value_at level text ≡ by_letter (array_at level) (table_at level) l rest
value_letter level text rest l e = rw (by_the_letter level text) (rw e refl)

pub value_none : (level : ℕ) (text : List ℕ) → next_letter text ≡ None → value_at level text ≡ None
value_none level text e = rw (by_the_letter level text) (rw e refl)

pub value_array : (level : ℕ) (text rest : List ℕ) (ds : List Data) (t : List ℕ) → next_letter text ≡ Some (letter.FieldArray, rest) → array_at level rest ≡ Some (ds, t) → value_at level text ≡ Some (array (items_of ds), t)
value_array level text rest ds t e a = value_letter level text rest letter.FieldArray e ∙ rw a refl

pub value_table : (level : ℕ) (text rest : List ℕ) (ps : List (List ℕ × Data)) (t : List ℕ) → next_letter text ≡ Some (letter.FieldTable, rest) → table_at level rest ≡ Some (ps, t) → value_at level text ≡ Some (table (pairs_of ps), t)
value_table level text rest ps t e a = value_letter level text rest letter.FieldTable e ∙ rw a refl

pub array_fails : (level : ℕ) (text rest : List ℕ) (x : ReadError) → next_letter text ≡ Some (letter.FieldArray, rest) → Fails x (array_at level rest) → Fails x (value_at level text)
array_fails level text rest x e h = fails_same x _ _ (sym (value_letter level text rest letter.FieldArray e)) (fails_bind x (array_at level rest) _ h)

pub table_fails : (level : ℕ) (text rest : List ℕ) (x : ReadError) → next_letter text ≡ Some (letter.FieldTable, rest) → Fails x (table_at level rest) → Fails x (value_at level text)
table_fails level text rest x e h = fails_same x _ _ (sym (value_letter level text rest letter.FieldTable e)) (fails_bind x (table_at level rest) _ h)

-- a value that holds no other
pub value_leaf : (level : ℕ) (text rest : List ℕ) (l : Letter) → next_letter text ≡ Some (l, rest) → (l ≡ letter.FieldArray → ⊥) → (l ≡ letter.FieldTable → ⊥) → value_at level text ≡ leaf_at l rest
value_leaf level text rest l e no_array no_table = value_letter level text rest l e ∙ go l no_array no_table
  where
    go : (k : Letter) → (k ≡ letter.FieldArray → ⊥) → (k ≡ letter.FieldTable → ⊥) → by_letter (array_at level) (table_at level) k rest ≡ leaf_at k rest
    go letter.Boolean f g = refl
    go letter.ShortShortInt f g = refl
    go letter.ShortShortUInt f g = refl
    go letter.ShortInt f g = refl
    go letter.ShortUInt f g = refl
    go letter.LongInt f g = refl
    go letter.LongUInt f g = refl
    go letter.LongLongInt f g = refl
    go letter.Timestamp f g = refl
    go letter.LongString f g = refl
    go letter.ByteArray f g = refl
    go letter.FieldArray f g = absurd (f refl)
    go letter.FieldTable f g = absurd (g refl)
    go letter.Void f g = refl
