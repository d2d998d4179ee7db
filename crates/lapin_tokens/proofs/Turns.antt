-- What a reader of members knows at each turn of its loop.
use Rattle.std.proofs.Common.{◌≡◌, ℕ, suc, ◌+◌, ◌-◌, ◌<◌, ◌≤◌, List, [], ◌∷◌, ◌++◌, Option, Some, None, refl, sym, ap, subst, ◌∙◌, arith}
use Rattle.lapin_values.specs.Data.{Data}
use Rattle.lapin_scalars.specs.declared.fault.ReadError.{ReadError}
use Rattle.lapin_scalars.specs.declared.fault.ReadError.TheVariants as errors
use Rattle.lapin_scalars.specs.Reading.{Fails}
use Rattle.lapin_tokens.specs.Cursor.{◌>>=◌, after_mark}
use Rattle.lapin_tokens.specs.ValueReading.{ending, members_at, item_at, pair_at, key_at, added}

pub fails_bind : {A B : Type 0} (e : ReadError) (r : Option A) (f : A → Option B) → Fails e r → Fails e (r >>= f)
fails_bind errors.Memory r f h = tt
fails_bind errors.Bad r f h = rw h refl

pub fails_same : {A : Type 0} (e : ReadError) (r s : Option A) → r ≡ s → Fails e r → Fails e s
fails_same e r s same h = subst (λ (x : Option _). Fails e x) same h

module _ {S : Type 0} (read : S → List ℕ → Option (S × List ℕ)) (closing : ℕ) (n i : ℕ) (found : S) (text : List ℕ) (all : Option (S × List ℕ)) where
  -- the members from here on are all that is to come
  abbrev pub Ahead : Type 0
  Ahead = members_at read closing (n - i) found text ≡ all

  abbrev turn : Option (S × List ℕ)
  turn = read found text >>= λ x. ending (after_mark closing x.1) x.0 (after_mark 44 x.1 >>= λ rest. members_at read closing (n - (i + 1)) x.0 rest)

  one_turn : i < n → Ahead → turn ≡ all
  one_turn lt ahead =
      let one : n - i ≡ suc (n - (i + 1)) = omega arith in
      sym (ap (λ (k : ℕ). members_at read closing k found text) one) ∙ ahead

  pub turn_fails : (e : ReadError) → i < n → Ahead → Fails e (read found text) → Fails e all
  turn_fails e lt ahead h = fails_same e turn all (one_turn lt ahead) (fails_bind e (read found text) _ h)

  pub turn_ends : (s : S) (t rest : List ℕ) → i < n → Ahead → read found text ≡ Some (s, t) → after_mark closing t ≡ Some rest → all ≡ Some (s, rest)
  turn_ends s t rest lt ahead r close = sym (one_turn lt ahead) ∙ rw (r, close) refl

  pub turn_stops : (e : ReadError) (s : S) (t : List ℕ) → i < n → Ahead → read found text ≡ Some (s, t) → after_mark closing t ≡ None → Fails e (after_mark 44 t) → Fails e all
  turn_stops e s t lt ahead r close h = fails_same e turn all (one_turn lt ahead) (rw (r, close) (fails_bind e (after_mark 44 t) _ h))

  pub turn_on : (s : S) (t rest : List ℕ) → i < n → Ahead → read found text ≡ Some (s, t) → after_mark closing t ≡ None → after_mark 44 t ≡ Some rest → members_at read closing (n - (i + 1)) s rest ≡ all
  turn_on s t rest lt ahead r close comma = sym (rw (r, close, comma) refl) ∙ one_turn lt ahead

  pub turns_past : n ≤ i → Ahead → all ≡ None
  turns_past le ahead = let none : n - i ≡ 0 = omega arith in sym ahead ∙ ap (λ (k : ℕ). members_at read closing k found text) none

-- ---- one member

pub item_read : (read : List ℕ → Option (Data × List ℕ)) (found : List Data) (text : List ℕ) (d : Data) (t : List ℕ) (new : List Data) → read text ≡ Some (d, t) → new ≡ found ++ d ∷ [] → item_at read found text ≡ Some (new, t)
item_read read found text d t new r e = rw (r, e) refl

module _ (read : List ℕ → Option (Data × List ℕ)) (found : List (List ℕ × Data)) (text : List ℕ) where
  pub key_fails : (e : ReadError) → Fails e (key_at text) → Fails e (pair_at read found text)
  key_fails e h = fails_bind e (key_at text) _ h

  pub value_fails : (e : ReadError) (k rest : List ℕ) → key_at text ≡ Some (k, rest) → Fails e (read rest) → Fails e (pair_at read found text)
  value_fails e k rest key h = rw key (fails_bind e (read rest) _ h)

  pub pair_fails : (e : ReadError) (k rest : List ℕ) (d : Data) (t : List ℕ) → key_at text ≡ Some (k, rest) → read rest ≡ Some (d, t) → Fails e (added k d found) → Fails e (pair_at read found text)
  pair_fails e k rest d t key r h = rw (key, r) (fails_bind e (added k d found) _ h)

  pub pair_read : (k rest : List ℕ) (d : Data) (t : List ℕ) (new : List (List ℕ × Data)) → key_at text ≡ Some (k, rest) → read rest ≡ Some (d, t) → added k d found ≡ Some new → pair_at read found text ≡ Some (new, t)
  pair_read k rest d t new key r more = rw (key, r, more) refl
