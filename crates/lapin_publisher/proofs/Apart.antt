-- No two messages share one outstanding publish: each publish takes a number that is greater than all before it.
use Rattle.std.proofs.Common.{◌≡◌, inl, inr, ℕ, ◌≤◌, Bool, true, false, cond, List, [], ◌∷◌, ◌++◌, map, Option, Some, None, refl, sym, subst, arith}
use Rattle.std.specs.List.{filter, AllByRecursion}
use Rattle.lapin_types.specs.declared.message.BasicReturnMessage.{BasicReturnMessage}
use Rattle.lapin_types.specs.declared.message.Delivery.{Delivery}
use Rattle.lapin_keeping.specs.declared.fate.Fate.{Fate}
use Rattle.lapin_keeping.specs.declared.fate.Fate.TheVariants as fate
use Rattle.lapin_keeping.specs.declared.kept.Kept.{Kept}
use Rattle.lapin_keeping.specs.Fates.{returned, returned_at, begun_anew, begun_anew_at}
use Rattle.lapin_keeping.specs.Returns.{FirstCameBack, IsNoted, AreNoted}
use Rattle.lapin_publisher.specs.Shares.{DoNotShare, NoneShare, IsBelow, AreApart}

below_more : (m k : ℕ) (ss : List Kept) → m ≤ k → AllByRecursion (IsBelow m) ss → AllByRecursion (IsBelow k) ss
below_more m k [] le h = tt
below_more m k (s ∷ ss) le h = (λ i is. omega (arith, le, h.0 i is), below_more m k ss le h.1)

pub apart_more : (m k : ℕ) (ss : List Kept) → m ≤ k → AreApart m ss → AreApart k ss
apart_more m k ss le h = record { below = below_more m k ss le h.below; apart = h.apart }

-- ---- each outstanding publish is the message's own, as before

abbrev Narrows : Kept → Kept → Type 0
Narrows s t = (i : ℕ) → t.outstanding ≡ Some i → s.outstanding ≡ Some i

abbrev NarrowEach : List Kept → List Kept → Type 0
NarrowEach [] [] = Unit {0}
NarrowEach [] (t ∷ ts) = ⊥
NarrowEach (s ∷ ss) [] = ⊥
NarrowEach (s ∷ ss) (t ∷ ts) = Narrows s t × NarrowEach ss ts

same_each : (ss : List Kept) → NarrowEach ss ss
same_each [] = tt
same_each (s ∷ ss) = (λ i is. is, same_each ss)

narrow_twice : (rs ss ts : List Kept) → NarrowEach rs ss → NarrowEach ss ts → NarrowEach rs ts
narrow_twice [] [] [] a b = tt
narrow_twice [] [] (t ∷ ts) a b = absurd b
narrow_twice [] (s ∷ ss) ts a b = absurd a
narrow_twice (r ∷ rs) [] ts a b = absurd a
narrow_twice (r ∷ rs) (s ∷ ss) [] a b = absurd b
narrow_twice (r ∷ rs) (s ∷ ss) (t ∷ ts) a b = (λ i is. a.0 i (b.0 i is), narrow_twice rs ss ts a.1 b.1)

narrow_below : (m : ℕ) (ss ts : List Kept) → NarrowEach ss ts → AllByRecursion (IsBelow m) ss → AllByRecursion (IsBelow m) ts
narrow_below m [] [] n h = tt
narrow_below m [] (t ∷ ts) n h = absurd n
narrow_below m (s ∷ ss) [] n h = absurd n
narrow_below m (s ∷ ss) (t ∷ ts) n h = (λ i is. h.0 i (n.0 i is), narrow_below m ss ts n.1 h.1)

narrow_first : (s t : Kept) (ss ts : List Kept) → Narrows s t → NarrowEach ss ts → AllByRecursion (DoNotShare s) ss → AllByRecursion (DoNotShare t) ts
narrow_first s t [] [] one n h = tt
narrow_first s t [] (v ∷ vs) one n h = absurd n
narrow_first s t (u ∷ us) [] one n h = absurd n
narrow_first s t (u ∷ us) (v ∷ vs) one n h = (λ i is other. h.0 i (one i is) (n.0 i other), narrow_first s t us vs one n.1 h.1)

narrow_none : (ss ts : List Kept) → NarrowEach ss ts → NoneShare ss → NoneShare ts
narrow_none [] [] n h = tt
narrow_none [] (t ∷ ts) n h = absurd n
narrow_none (s ∷ ss) [] n h = absurd n
narrow_none (s ∷ ss) (t ∷ ts) n h = (narrow_first s t ss ts n.0 n.1 h.0, narrow_none ss ts n.1 h.1)

apart_narrow : (m : ℕ) (ss ts : List Kept) → NarrowEach ss ts → AreApart m ss → AreApart m ts
apart_narrow m ss ts n h = record { below = narrow_below m ss ts n h.below; apart = narrow_none ss ts n h.apart }

-- ---- what came back

returned_at_narrows : (o : Option Fate) (k : Kept) → Narrows k (returned_at o k)
returned_at_narrows None k i is = is
returned_at_narrows (Some fate.Stored) k i is = absurd cc
returned_at_narrows (Some fate.Refused) k i is = is
returned_at_narrows (Some fate.Returned) k i is = is
returned_at_narrows (Some (fate.Closed code)) k i is = is

first_narrows : (before behind : List Kept) (k : Kept) → NarrowEach (before ++ k ∷ behind) (before ++ returned k ∷ behind)
first_narrows [] behind k = (returned_at_narrows k.fate k, same_each behind)
first_narrows (b ∷ before) behind k = (λ i is. is, first_narrows before behind k)

back_narrows : (exact : Bool) (d : Delivery) (old new : List Kept) → FirstCameBack exact d old new → NarrowEach old new
back_narrows exact d old new f =
    subst (λ (ks : List Kept). NarrowEach ks new) (sym f.old_is) (subst (λ (ks : List Kept). NarrowEach (f.before ++ f.owner ∷ f.behind) ks) (sym f.new_is) (first_narrows f.before f.behind f.owner))

noted_narrows : (d : Delivery) (old new : List Kept) → IsNoted d old new → NarrowEach old new
noted_narrows d old new (inl first) = back_narrows true d old new first
noted_narrows d old new (inr (_, inl first)) = back_narrows false d old new first
noted_narrows d old new (inr (_, inr (_, same))) = subst (λ (ks : List Kept). NarrowEach old ks) (sym same) (same_each old)

all_noted_narrow : (rs : List BasicReturnMessage) (old new : List Kept) → AreNoted rs old new → NarrowEach old new
all_noted_narrow [] old new same = subst (λ (ks : List Kept). NarrowEach old ks) (sym same) (same_each old)
all_noted_narrow (r ∷ rs) old new h = narrow_twice old h.0 new (noted_narrows r.delivery old h.0 h.1.0) (all_noted_narrow rs h.0 new h.1.1)

pub noted_apart : (m : ℕ) (rs : List BasicReturnMessage) (old new : List Kept) → AreNoted rs old new → AreApart m old → AreApart m new
noted_apart m rs old new noted h = apart_narrow m old new (all_noted_narrow rs old new noted) h

-- ---- what is kept of them

filter_all : (P : Kept → Type 0) (p : Kept → Bool) (ss : List Kept) → AllByRecursion P ss → AllByRecursion P (filter p ss)
filter_all P p [] h = tt
filter_all P p (s ∷ ss) h = at (p s) (filter_all P p ss h.1)
  where
    at : (b : Bool) → AllByRecursion P (filter p ss) → AllByRecursion P (cond b (s ∷ filter p ss) (filter p ss))
    at true rest = (h.0, rest)
    at false rest = rest

filter_none : (p : Kept → Bool) (ss : List Kept) → NoneShare ss → NoneShare (filter p ss)
filter_none p [] h = tt
filter_none p (s ∷ ss) h = at (p s) (filter_none p ss h.1)
  where
    at : (b : Bool) → NoneShare (filter p ss) → NoneShare (cond b (s ∷ filter p ss) (filter p ss))
    at true rest = (filter_all (DoNotShare s) p ss h.0, rest)
    at false rest = rest

pub filter_apart : (m : ℕ) (p : Kept → Bool) (ss : List Kept) → AreApart m ss → AreApart m (filter p ss)
filter_apart m p ss h = record { below = filter_all (IsBelow m) p ss h.below; apart = filter_none p ss h.apart }

-- ---- one that has no outstanding publish

pub joined_by_one : (m : ℕ) (ss : List Kept) (t : Kept) → t.outstanding ≡ None → AreApart m ss → AreApart m (ss ++ t ∷ [])
joined_by_one m [] t none h = record { below = (λ i is. absurd cc, tt); apart = (tt, tt) }
joined_by_one m (s ∷ ss) t none h =
    let rest = joined_by_one m ss t none (record { below = h.below.1; apart = h.apart.1 }) in
    record { below = (h.below.0, rest.below); apart = (behind ss h.apart.0, rest.apart) }
  where
    behind : (us : List Kept) → AllByRecursion (DoNotShare s) us → AllByRecursion (DoNotShare s) (us ++ t ∷ [])
    behind [] h = (λ i one other. absurd cc, tt)
    behind (u ∷ us) h = (h.0, behind us h.1)

begun_none : (o : Option Fate) (k : Kept) → (begun_anew_at o k).outstanding ≡ None
begun_none None k = refl
begun_none (Some fate.Stored) k = refl
begun_none (Some fate.Refused) k = refl
begun_none (Some fate.Returned) k = refl
begun_none (Some (fate.Closed code)) k = refl

pub all_begun : (m : ℕ) (ss : List Kept) → AreApart m (map begun_anew ss)
all_begun m [] = record { below = tt; apart = tt }
all_begun m (s ∷ ss) =
    let none : (begun_anew s).outstanding ≡ None = begun_none s.fate s in
    let rest = all_begun m ss in
    record { below = (λ i is. absurd cc, rest.below); apart = (behind ss, rest.apart) }
  where
    behind : (us : List Kept) → AllByRecursion (DoNotShare (begun_anew s)) (map begun_anew us)
    behind [] = tt
    behind (u ∷ us) = (λ i one other. let none : (begun_anew s).outstanding ≡ None = begun_none s.fate s in absurd cc, behind us)
