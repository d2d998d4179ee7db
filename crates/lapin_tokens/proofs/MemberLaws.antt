-- Members between commas: what was written is read, and what was read is spelled so.
use Rattle.std.proofs.Common.{◌≡◌, ◌≢◌, ℕ, zero, suc, ◌<◌, ◌≤◌, List, [], ◌∷◌, ◌++◌, length, Option, Some, None, refl, sym, ap, subst, ◌∙◌, arith, true, eqb, append_assoc}
use Rattle.std.specs.List.{join_with_byte}
use Rattle.std.specs.Cmp.{unsigned_Decides}
use Rattle.std.proofs.lemmas.Bool.{ne_eqb}
use Rattle.std.proofs.lemmas.List.{length-append}
use Rattle.lapin_tokens.specs.Cursor.{◌>>=◌, after_mark, is_separator}
use Rattle.lapin_tokens.specs.ValueReading.{ending, members_at}
use Rattle.std.proofs.lemmas.Option.{cond_some}

pub bind_some : {A B : Type 0} (r : Option A) (f : A → Option B) (y : B) → (r >>= f) ≡ Some y → (x : A) × (r ≡ Some x) × (f x ≡ Some y)
bind_some (Some x) f y e = (x, refl, e)
bind_some None f y e = absurd cc

abbrev done : {A : Type 0} → A → Option A
done x = Some x

pub some_is : {A : Type 0} (x y : A) → done x ≡ done y → x ≡ y
some_is x y e = cc

-- ---- marks

pub same_mark : (m : ℕ) (rest : List ℕ) → after_mark m (m ∷ rest) ≡ Some rest
same_mark m rest = rw ((unsigned_Decides m m).1 refl) refl

pub other_mark : (m b : ℕ) (rest : List ℕ) → b ≢ m → after_mark m (b ∷ rest) ≡ None
other_mark m b rest other = rw (ne_eqb b m other) refl

pub mark_found : (m : ℕ) (bs rest : List ℕ) → after_mark m bs ≡ Some rest → bs ≡ m ∷ rest
mark_found m [] rest e = absurd cc
mark_found m (b ∷ bs) rest e =
    let g = cond_some (eqb b m) bs rest e in
    subst (λ (r : List ℕ). b ∷ bs ≡ m ∷ r) g.1 (ap (λ (c : ℕ). c ∷ bs) ((unsigned_Decides b m).0 g.0))

-- ---- what was written is read

join_long : (t : List ℕ) (ts : List (List ℕ)) → length ts ≤ length (join_with_byte 44 (t ∷ ts))
join_long t [] = omega arith
join_long t (u ∷ us) = omega (arith, length-append t (44 ∷ join_with_byte 44 (u ∷ us)), join_long u us)

module _ {S : Type 0} (read : S → List ℕ → Option (S × List ℕ)) (closing : ℕ) where
  -- the texts, read one after another, lead from one state to another
  abbrev pub Leads : S → List (List ℕ) → S → Type 0
  Leads s [] e = s ≡ e
  Leads s (t ∷ ts) e = (m : S) × ((d : ℕ) (rest : List ℕ) → is_separator d ≡ true → read s (t ++ d ∷ rest) ≡ Some (m, d ∷ rest)) × ((rest : List ℕ) → after_mark closing (t ++ rest) ≡ None) × Leads m ts e

  members_again : is_separator closing ≡ true → closing ≢ 44 → (t : List ℕ) (ts : List (List ℕ)) (s e : S) (n : ℕ) (rest : List ℕ) → Leads s (t ∷ ts) e → length ts < n
      → members_at read closing n s (join_with_byte 44 (t ∷ ts) ++ closing ∷ rest) ≡ Some (e, rest)
  members_again sep other t ts s e zero rest l lt = absurd (omega arith)
  members_again sep other t [] s e (suc n) rest l lt = rw (l.1 closing rest sep, same_mark closing rest) (ap (λ (x : S). Some (x, rest)) l.3)
  members_again sep other t (u ∷ us) s e (suc n) rest l lt =
      rw (append_assoc t (44 ∷ join_with_byte 44 (u ∷ us)) (closing ∷ rest), l.1 44 (join_with_byte 44 (u ∷ us) ++ closing ∷ rest) refl, other_mark closing 44 (join_with_byte 44 (u ∷ us) ++ closing ∷ rest) (λ z. other (sym z)))
      (members_again sep other u us l.0 e n rest l.3 (omega arith))

  first_opens : (t : List ℕ) (ts : List (List ℕ)) (s e : S) (rest : List ℕ) → Leads s (t ∷ ts) e → after_mark closing (join_with_byte 44 (t ∷ ts) ++ rest) ≡ None
  first_opens t [] s e rest l = l.2 rest
  first_opens t (u ∷ us) s e rest l = rw (append_assoc t (44 ∷ join_with_byte 44 (u ∷ us)) rest) (l.2 (44 ∷ (join_with_byte 44 (u ∷ us) ++ rest)))

  -- the members, if any, and the closing mark
  abbrev pub inside_at : S → List ℕ → Option (S × List ℕ)
  inside_at s inner = ending (after_mark closing inner) s (members_at read closing (length inner) s inner)

  pub inside_again : is_separator closing ≡ true → closing ≢ 44 → (ts : List (List ℕ)) (s e : S) (rest : List ℕ) → Leads s ts e → inside_at s (join_with_byte 44 ts ++ closing ∷ rest) ≡ Some (e, rest)
  inside_again sep other [] s e rest l = rw (same_mark closing rest) (ap (λ (x : S). Some (x, rest)) l)
  inside_again sep other (t ∷ ts) s e rest l =
      rw (first_opens t ts s e (closing ∷ rest) l)
      (members_again sep other t ts s e (length (join_with_byte 44 (t ∷ ts) ++ closing ∷ rest)) rest l (omega (arith, length-append (join_with_byte 44 (t ∷ ts)) (closing ∷ rest), join_long t ts)))

-- ---- what was read is spelled so

-- steps by the texts, one after another
abbrev pub Runs : {S : Type 0} → (S → List ℕ → S → Type 0) → S → List (List ℕ) → S → Type 0
Runs Step s [] e = s ≡ e
Runs {S = S} Step s (t ∷ ts) e = (m : S) × Step s t m × Runs Step m ts e

module _ {S : Type 0} (read : S → List ℕ → Option (S × List ℕ)) (closing : ℕ) (Step : S → List ℕ → S → Type 0)
    (read_found : (s : S) (text : List ℕ) (x : S × List ℕ) → read s text ≡ Some x → (t : List ℕ) × (text ≡ t ++ x.1) × Step s t x.0) where
  abbrev Spelled : S → List ℕ → S × List ℕ → Type 0
  Spelled s text x = (t : List ℕ) × (ts : List (List ℕ)) × (text ≡ join_with_byte 44 (t ∷ ts) ++ closing ∷ x.1) × Runs Step s (t ∷ ts) x.0

  one_member : (n : ℕ) (s : S) (text : List ℕ) (x : S × List ℕ) → ((m : S) (rest : List ℕ) → members_at read closing n m rest ≡ Some x → Spelled m rest x)
      → (y : S × List ℕ) (r : Option (List ℕ)) → after_mark closing y.1 ≡ r → ending r y.0 (after_mark 44 y.1 >>= λ rest. members_at read closing n y.0 rest) ≡ Some x → (t : List ℕ) × (text ≡ t ++ y.1) × Step s t y.0 → Spelled s text x
  one_member n s text x more y (Some rest) close h f =
      subst (λ (z : S × List ℕ). Spelled s text z) (some_is (y.0, rest) x h) (f.0, [], f.1 ∙ ap (λ (l : List ℕ). f.0 ++ l) (mark_found closing y.1 rest close), (y.0, f.2, refl))
  one_member n s text x more y None close h f =
      let b = bind_some (after_mark 44 y.1) _ x h in
      let others = more y.0 b.0 b.2 in (
        f.0,
        others.0 ∷ others.1,
        f.1 ∙ ap (λ (l : List ℕ). f.0 ++ l) (mark_found 44 y.1 b.0 b.1 ∙ ap (λ (l : List ℕ). 44 ∷ l) others.2) ∙ sym (append_assoc f.0 (44 ∷ join_with_byte 44 (others.0 ∷ others.1)) (closing ∷ x.1)),
        (y.0, f.2, others.3),
      )

  members_found : (n : ℕ) (s : S) (text : List ℕ) (x : S × List ℕ) → members_at read closing n s text ≡ Some x → Spelled s text x
  members_found zero s text x e = absurd cc
  members_found (suc n) s text x e =
      let a = bind_some (read s text) _ x e in
      one_member n s text x (λ m rest h. members_found n m rest x h) a.0 (after_mark closing a.0.1) refl a.2 (read_found s text a.0 a.1)

  pub inside_found : (s : S) (inner : List ℕ) (x : S × List ℕ) → inside_at read closing s inner ≡ Some x → (ts : List (List ℕ)) × (inner ≡ join_with_byte 44 ts ++ closing ∷ x.1) × Runs Step s ts x.0
  inside_found s inner x e = go (after_mark closing inner) refl e
    where
      go : (r : Option (List ℕ)) → after_mark closing inner ≡ r → ending r s (members_at read closing (length inner) s inner) ≡ Some x → (ts : List (List ℕ)) × (inner ≡ join_with_byte 44 ts ++ closing ∷ x.1) × Runs Step s ts x.0
      go (Some rest) close h =
          let same = some_is (s, rest) x h in
          ([], mark_found closing inner rest close ∙ ap (λ (z : S × List ℕ). closing ∷ z.1) same, ap (λ (z : S × List ℕ). z.0) same)
      go None close h = let f = members_found (length inner) s inner x h in (f.0 ∷ f.1, f.2, f.3)
