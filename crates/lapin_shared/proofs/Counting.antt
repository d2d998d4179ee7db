-- The entries of a caller in a history are those of its log: logs that rise and stand in it, and together are as long as it is.
use Rattle.std.proofs.Common.{◌≡◌, ◌≢◌, ℕ, ◌+◌, ◌-◌, ◌<◌, ◌≤◌, ◌==◌, ◌⊎◌, inl, inr, Bool, true, false, List, [], ◌∷◌, Some, length, map, refl, ◌∙◌, ap, arith, subst}
use Rattle.std.specs.Prelude.{slice_get, zero, suc, All}
use Rattle.std.proofs.lemmas.List.{length-map}
use Rattle.std.proofs.lemmas.List.Elements.{All-head, All-tail}
use Rattle.std.proofs.lemmas.Bool.Decides.{nat_tests}
use Rattle.lapin_types.specs.declared.event.Event.{Event}
use Rattle.lapin_locked.specs.declared.entry.Entry.{Entry}
use Rattle.lapin_locked.specs.declared.entry.Told.{Told}
use Rattle.lapin_shared.specs.Grown.{Seen, Rise}
use Rattle.lapin_shared.specs.Checked.{IsAt, AllAt}
use Rattle.lapin_shared.specs.Own.{own, event_of, AreBack, logged, AreOwn}
use Rattle.lapin_shared.proofs.Apart.{Numbered}

-- the entry stands in the rest of a history, which begins behind place p
record At (p : ℕ) (h : List Entry) (i : ℕ) (t : Told) : Type 0 where
  entry : Entry
  stands : slice_get h (t.place - (p + 1)) ≡ Some entry
  caller : entry.caller ≡ i
  event : entry.event ≡ t.event

abbrev Ats : ℕ → List Entry → ℕ → List Told → Type 0
Ats p h i [] = Unit {0}
Ats p h i (t ∷ ts) = At p h i t × Ats p h i ts

at_later : (x : Entry) (h : List Entry) (p i k : ℕ) (t : Told) → p + 1 < t.place → t.place - (p + 1) ≡ k → (e : Entry) → slice_get (x ∷ h) k ≡ Some e → slice_get h (t.place - (p + 1 + 1)) ≡ Some e
at_later x h p i zero t lt is e s = absurd (omega arith)
at_later x h p i (suc k) t lt is e s = let j : t.place - (p + 1 + 1) ≡ k = omega arith in rw j s

later : (x : Entry) (h : List Entry) (p i q : ℕ) (ts : List Told) → p + 1 ≤ q → Rise q ts → Ats p (x ∷ h) i ts → Ats (p + 1) h i ts
later x h p i q [] le r a = tt
later x h p i q (t ∷ ts) le r a = (
  record { entry = a.0.entry; stands = at_later x h p i (t.place - (p + 1)) t (omega (arith, r.0)) refl a.0.entry a.0.stands; caller = a.0.caller; event = a.0.event },
  later x h p i t.place ts (omega (arith, r.0)) r.1 a.1,
)

own_hit : (x : Entry) (h : List Entry) (i : ℕ) → x.caller ≡ i → own i (x ∷ h) ≡ x.event ∷ own i h
own_hit x h i is = let t : (x.caller == i) ≡ true = grind (arith, nat_tests) in rw t

own_miss : (x : Entry) (h : List Entry) (i : ℕ) → x.caller ≢ i → own i (x ∷ h) ≡ own i h
own_miss x h i miss = let t : (x.caller == i) ≡ false = grind (arith, nat_tests) in rw t

decide : (a b : ℕ) (t : Bool) → (a == b) ≡ t → (a ≡ b) ⊎ (a ≢ b)
decide a b true e = inl (grind (arith, nat_tests))
decide a b false e = inr (grind (arith, nat_tests))

test : (a b : ℕ) → (a ≡ b) ⊎ (a ≢ b)
test a b = decide a b (a == b) refl

abbrev Best : ℕ → List Entry → List Told → Type 0
Best i h log = (length log < length (own i h)) ⊎ (own i h ≡ map event_of log)

some_or_none : (es : List Event) → (0 < length es) ⊎ (es ≡ [])
some_or_none [] = inr refl
some_or_none (e ∷ es) = inl (omega arith)

here : (x : Entry) (h : List Entry) (k : ℕ) (e : Entry) → k ≡ 0 → slice_get (x ∷ h) k ≡ Some e → x ≡ e
here x h zero e z is = cc
here x h (suc k) e z is = absurd (omega arith)

on_hit : (i : ℕ) (x : Entry) (h : List Entry) (t : Told) (ts : List Told) → x.caller ≡ i → x.event ≡ t.event → Best i h ts → Best i (x ∷ h) (t ∷ ts)
on_hit i x h t ts is ev (inl lt) = inl (let o = ap length (own_hit x h i is) in omega (arith, o, lt))
on_hit i x h t ts is ev (inr eq) = inr (own_hit x h i is ∙ cc (ev, eq))

on_skip_hit : (i : ℕ) (x : Entry) (h : List Entry) (log : List Told) → x.caller ≡ i → Best i h log → Best i (x ∷ h) log
on_skip_hit i x h log is (inl lt) = inl (let o = ap length (own_hit x h i is) in omega (arith, o, lt))
on_skip_hit i x h log is (inr eq) = inl (let o = ap length (own_hit x h i is) in let l = ap length eq in let m = length-map log event_of in omega (arith, o, l, m))

on_skip_miss : (i : ℕ) (x : Entry) (h : List Entry) (log : List Told) → x.caller ≢ i → Best i h log → Best i (x ∷ h) log
on_skip_miss i x h log miss (inl lt) = inl (let o = ap length (own_miss x h i miss) in omega (arith, o, lt))
on_skip_miss i x h log miss (inr eq) = inr (own_miss x h i miss ∙ eq)

on_skip : (i : ℕ) (x : Entry) (h : List Entry) (log : List Told) → (x.caller ≡ i) ⊎ (x.caller ≢ i) → Best i h log → Best i (x ∷ h) log
on_skip i x h log (inl is) b = on_skip_hit i x h log is b
on_skip i x h log (inr miss) b = on_skip_miss i x h log miss b

best : (i p : ℕ) (h : List Entry) (log : List Told) → Rise p log → Ats p h i log → Best i h log
best i p [] [] r a = inr refl
best i p [] (t ∷ ts) r a = absurd (let s = a.0.stands in cc)
best i p (x ∷ h) [] r a = some_or_none (own i (x ∷ h))
best i p (x ∷ h) (t ∷ ts) r a =
    elim (test t.place (p + 1)) as (λ _. Best i (x ∷ h) (t ∷ ts)) [
      | inl e ↦
          let same : x ≡ a.0.entry = here x h (t.place - (p + 1)) a.0.entry (omega arith) a.0.stands in
          let rise : Rise (p + 1) ts = let P : ℕ → Type 0 = λ n. Rise n ts in subst P e r.1 in
          on_hit i x h t ts (ap (λ y. y.caller) same ∙ a.0.caller) (ap (λ y. y.event) same ∙ a.0.event)
          (best i (p + 1) h ts rise (later x h p i (p + 1) ts (omega arith) rise a.1))
      | inr n ↦
          let rise : Rise (p + 1) (t ∷ ts) = (omega (arith, r.0, n), r.1) in
          on_skip i x h (t ∷ ts) (test x.caller i) (best i (p + 1) h (t ∷ ts) rise (later x h p i (p + 1) (t ∷ ts) (omega arith) rise a))
    ]

abbrev owns : List Entry → List Seen → ℕ
owns h [] = 0
owns h (c ∷ cs) = length (own c.number h) + owns h cs

numbered : (h : List Entry) (n : ℕ) (cs : List Seen) → AreBack h n cs → Numbered n cs
numbered h n [] b = tt
numbered h n (c ∷ cs) b = (b.0, numbered h (n + 1) cs b.3)

above : (x : Entry) (h : List Entry) (n : ℕ) (cs : List Seen) → Numbered n cs → x.caller < n → owns (x ∷ h) cs ≡ owns h cs
above x h n [] k lt = refl
above x h n (c ∷ cs) k lt =
    let miss : x.caller ≢ c.number = omega (arith, k.0) in
    let o = ap length (own_miss x h c.number miss) in
    let r = above x h (n + 1) cs k.1 (omega arith) in omega (arith, o, r)

one_more : (x : Entry) (h : List Entry) (n : ℕ) (cs : List Seen) → Numbered n cs → owns (x ∷ h) cs ≤ owns h cs + 1
one_more x h n [] k = omega arith
one_more x h n (c ∷ cs) k =
    elim (test x.caller c.number) as (λ _. owns (x ∷ h) (c ∷ cs) ≤ owns h (c ∷ cs) + 1) [
      | inl e ↦
          let o = ap length (own_hit x h c.number e) in
          let r = above x h (n + 1) cs k.1 (omega (arith, e, k.0)) in omega (arith, o, r)
      | inr miss ↦
          let o = ap length (own_miss x h c.number miss) in
          let r = one_more x h (n + 1) cs k.1 in omega (arith, o, r)
    ]

owns_nil : (cs : List Seen) → owns [] cs ≡ 0
owns_nil [] = refl
owns_nil (c ∷ cs) = omega (arith, owns_nil cs)

owns_le : (h : List Entry) (n : ℕ) (cs : List Seen) → Numbered n cs → owns h cs ≤ length h
owns_le [] n cs k = omega (arith, owns_nil cs)
owns_le (x ∷ h) n cs k = omega (arith, one_more x h n cs k, owns_le h n cs k)

ats : (h : List Entry) (i : ℕ) (ts : List Told) → All (λ t. IsAt h i t) ts → Ats 0 h i ts
ats h i [] a = tt
ats h i (t ∷ ts) a =
    let one = All-head (λ u. IsAt h i u) t ts a in
    (record { entry = one.entry; stands = one.stands; caller = one.caller; event = one.event }, ats h i ts (All-tail (λ u. IsAt h i u) t ts a))

best_of : (h : List Entry) (c : Seen) → Rise 0 c.log → AllAt h c → Best c.number h c.log
best_of h c r a = best c.number 0 h c.log r (ats h c.number c.log a)

best_le : (i : ℕ) (h : List Entry) (log : List Told) → Best i h log → length log ≤ length (own i h)
best_le i h log (inl lt) = omega arith
best_le i h log (inr eq) = omega (arith, ap length eq, length-map log event_of)

logged_le : (h : List Entry) (n : ℕ) (cs : List Seen) → AreBack h n cs → logged cs ≤ owns h cs
logged_le h n [] b = omega arith
logged_le h n (c ∷ cs) b = omega (arith, best_le c.number h c.log (best_of h c b.1 b.2), logged_le h (n + 1) cs b.3)

exact : (i : ℕ) (h : List Entry) (log : List Told) → Best i h log → length (own i h) ≤ length log → own i h ≡ map event_of log
exact i h log (inl lt) le = absurd (omega arith)
exact i h log (inr eq) le = eq

all_own : (h : List Entry) (n : ℕ) (cs : List Seen) → AreBack h n cs → owns h cs ≤ logged cs → AreOwn h cs
all_own h n [] b le = tt
all_own h n (c ∷ cs) b le =
    let best = best_of h c b.1 b.2 in
    let one = best_le c.number h c.log best in
    let rest = logged_le h (n + 1) cs b.3 in
    (exact c.number h c.log best (omega (arith, rest, le)), all_own h (n + 1) cs b.3 (omega (arith, one, le)))

pub interleaves : (h : List Entry) (cs : List Seen) → AreBack h 1 cs → length h ≡ logged cs → AreOwn h cs
interleaves h cs b len = all_own h 1 cs b (omega (arith, owns_le h 1 cs (numbered h 1 cs b), len))
