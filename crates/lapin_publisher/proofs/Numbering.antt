-- Over all messages, in order: each outstanding publish is the message's own, as before, or takes a number that is greater than all before it.
use Rattle.std.proofs.Common.{◌≡◌, ◌∙◌, ◌⊎◌, inl, inr, ℕ, zero, suc, ◌<◌, ◌≤◌, List, [], ◌∷◌, ◌++◌, length, take, drop, Some, refl, sym, ap, subst, arith}
use Rattle.std.specs.List.{AllByRecursion}
use Rattle.lapin_keeping.specs.declared.kept.Kept.{Kept}
use Rattle.lapin_publisher.specs.Each.{each, IsUntil}
use Rattle.lapin_publisher.specs.Shares.{DoNotShare, NoneShare, IsBelow, AreApart}
use Rattle.lapin_publisher.proofs.Apart.{apart_more}

-- the outstanding publish of a message is the one that it had, or one whose number lies between these
abbrev pub Comes : ℕ → ℕ → Kept → Kept → Type 0
Comes m k s t = (i : ℕ) → t.outstanding ≡ Some i → (s.outstanding ≡ Some i) ⊎ ((m < i) × (i ≤ k))

abbrev ComeEach : ℕ → ℕ → List Kept → List Kept → Type 0
ComeEach m k [] [] = Unit {0}
ComeEach m k [] (t ∷ ts) = ⊥
ComeEach m k (s ∷ ss) [] = ⊥
ComeEach m k (s ∷ ss) (t ∷ ts) = Comes m k s t × ComeEach m k ss ts

same_come : (m k : ℕ) (ss : List Kept) → ComeEach m k ss ss
same_come m k [] = tt
same_come m k (s ∷ ss) = (λ i is. inl is, same_come m k ss)

come_from : (l m k : ℕ) (ss ts : List Kept) → l ≤ m → ComeEach m k ss ts → ComeEach l k ss ts
come_from l m k [] [] le h = tt
come_from l m k [] (t ∷ ts) le h = absurd h
come_from l m k (s ∷ ss) [] le h = absurd h
come_from l m k (s ∷ ss) (t ∷ ts) le h = (λ i is. lower i (h.0 i is), come_from l m k ss ts le h.1)
  where
    lower : (i : ℕ) → (s.outstanding ≡ Some i) ⊎ ((m < i) × (i ≤ k)) → (s.outstanding ≡ Some i) ⊎ ((l < i) × (i ≤ k))
    lower i (inl is) = inl is
    lower i (inr so) = inr (omega (arith, so.0, le), so.1)

comes_more : (m k e : ℕ) (s t : Kept) → k ≤ e → Comes m k s t → Comes m e s t
comes_more m k e s t le h i is = higher (h i is)
  where
    higher : (s.outstanding ≡ Some i) ⊎ ((m < i) × (i ≤ k)) → (s.outstanding ≡ Some i) ⊎ ((m < i) × (i ≤ e))
    higher (inl same) = inl same
    higher (inr so) = inr (so.0, omega (arith, so.1, le))

-- one message and those behind it, whose numbers are greater than all before
first_apart : (m k e : ℕ) (s t : Kept) (ss ts : List Kept) → Comes m k s t → IsBelow m s → AllByRecursion (IsBelow m) ss → AllByRecursion (DoNotShare s) ss → ComeEach k e ss ts → m ≤ k → AllByRecursion (DoNotShare t) ts
first_apart m k e s t [] [] here low lows apart come le = tt
first_apart m k e s t [] (v ∷ vs) here low lows apart come le = absurd come
first_apart m k e s t (u ∷ us) [] here low lows apart come le = absurd come
first_apart m k e s t (u ∷ us) (v ∷ vs) here low lows apart come le =
    (λ i one other. meet i (here i one) (come.0 i other), first_apart m k e s t us vs here low lows.1 apart.1 come.1 le)
  where
    meet : (i : ℕ) → (s.outstanding ≡ Some i) ⊎ ((m < i) × (i ≤ k)) → (u.outstanding ≡ Some i) ⊎ ((k < i) × (i ≤ e)) → ⊥
    meet i (inl one) (inl other) = apart.0 i one other
    meet i (inl one) (inr more) = absurd (omega (arith, low i one, more.0, le))
    meet i (inr mine) (inl other) = absurd (omega (arith, lows.0 i other, mine.0))
    meet i (inr mine) (inr more) = absurd (omega (arith, mine.1, more.0))

below_all : (m k e : ℕ) (ss ts : List Kept) → AllByRecursion (IsBelow m) ss → ComeEach k e ss ts → m ≤ e → AllByRecursion (IsBelow e) ts
below_all m k e [] [] low come le = tt
below_all m k e [] (t ∷ ts) low come le = absurd come
below_all m k e (s ∷ ss) [] low come le = absurd come
below_all m k e (s ∷ ss) (t ∷ ts) low come le = (λ i is. within i (come.0 i is), below_all m k e ss ts low.1 come.1 le)
  where
    within : (i : ℕ) → (s.outstanding ≡ Some i) ⊎ ((k < i) × (i ≤ e)) → i ≤ e
    within i (inl is) = omega (arith, low.0 i is, le)
    within i (inr so) = so.1

-- ---- a step over the first messages, which uses numbers that are counted

module _ {S : Type 0} (f : S → Kept → Kept × S) (counted : S → ℕ) (takes : (s : S) (k : Kept) → Comes (counted s) (counted (f s k).1) k (f s k).0 × (counted s ≤ counted (f s k).1)) where
  part : S → ℕ → List Kept → List Kept × S
  part s zero ks = (ks, s)
  part s (suc n) [] = ([], s)
  part s (suc n) (k ∷ ks) = ((f s k).0 ∷ (part (f s k).1 n ks).0, (part (f s k).1 n ks).1)

  part_comes : (s : S) (n : ℕ) (ks : List Kept) → ComeEach (counted s) (counted (part s n ks).1) ks (part s n ks).0 × (counted s ≤ counted (part s n ks).1)
  unfolding part
  part_comes s zero ks = (same_come (counted s) (counted s) ks, omega arith)
  part_comes s (suc n) [] = (tt, omega arith)
  part_comes s (suc n) (k ∷ ks) =
      let t : S = (f s k).1 in
      let e : ℕ = counted (part t n ks).1 in
      let one = takes s k in
      let rest = part_comes t n ks in (
        (comes_more (counted s) (counted t) e k (f s k).0 rest.1 one.0, come_from (counted s) (counted t) e ks (part t n ks).0 one.1 rest.0),
        omega (arith, one.1, rest.1),
      )

  part_none : (s : S) (n : ℕ) (ks : List Kept) → AreApart (counted s) ks → NoneShare (part s n ks).0
  unfolding part
  part_none s zero ks h = h.apart
  part_none s (suc n) [] h = tt
  part_none s (suc n) (k ∷ ks) h =
      let t : S = (f s k).1 in
      let one = takes s k in
      let rest = part_comes t n ks in (
        first_apart (counted s) (counted t) (counted (part t n ks).1) k (f s k).0 ks (part t n ks).0 one.0 h.below.0 h.below.1 h.apart.0 rest.0 one.1,
        part_none t n ks (apart_more (counted s) (counted t) ks one.1 (record { below = h.below.1; apart = h.apart.1 })),
      )

  part_apart : (s : S) (n : ℕ) (ks : List Kept) → AreApart (counted s) ks → AreApart (counted (part s n ks).1) (part s n ks).0
  part_apart s n ks h =
      let come = part_comes s n ks in
      record {
        below = below_all (counted s) (counted s) (counted (part s n ks).1) ks (part s n ks).0 h.below come.0 come.1;
        apart = part_none s n ks h;
      }

  part_is : (s : S) (n : ℕ) (ks : List Kept) → part s n ks ≡ ((each f s (take n ks)).0 ++ drop n ks, (each f s (take n ks)).1)
  unfolding part
  part_is s zero ks = refl
  part_is s (suc n) [] = refl
  part_is s (suc n) (k ∷ ks) = ap (λ (p : List Kept × S). ((f s k).0 ∷ p.0, p.1)) (part_is (f s k).1 n ks)

  all_is : (s : S) (ks : List Kept) → part s (length ks) ks ≡ each f s ks
  unfolding part
  all_is s [] = refl
  all_is s (k ∷ ks) = ap (λ (p : List Kept × S). ((f s k).0 ∷ p.0, p.1)) (all_is (f s k).1 ks)

  pub each_apart : (s : S) (ks : List Kept) → AreApart (counted s) ks → AreApart (counted (each f s ks).1) (each f s ks).0
  each_apart s ks h = subst (λ (p : List Kept × S). AreApart (counted p.1) p.0) (all_is s ks) (part_apart s (length ks) ks h)

  pub until_apart : (s t : S) (old new : List Kept) → IsUntil f s t old new → AreApart (counted s) old → AreApart (counted t) new
  until_apart s t old new u h =
      let is : part s u.count old ≡ (new, t) = part_is s u.count old ∙ ap (λ (ks : List Kept). (ks, (each f s (take u.count old)).1)) (sym u.messages) ∙ ap (λ (x : S). (new, x)) (sym u.state) in
      subst (λ (p : List Kept × S). AreApart (counted p.1) p.0) is (part_apart s u.count old h)
