-- The first number of a key that passes, and what is kept of the numbers that were passed over.
use Rattle.std.proofs.Common.{◌≡◌, ◌≢◌, ℕ, zero, suc, ◌+◌, ◌-◌, ◌<◌, ◌≤◌, ◌==◌, nat_lt, Bool, true, false, List, [], ◌∷◌, ◌++◌, length, MatchOption, not, Option, Some, None, is_some, refl, sym, ◌∙◌, ap, subst, arith, length-append, ◌⊎◌, inl, inr}
use Rattle.std.specs.Bool.{if◌then◌else◌}
use Rattle.std.specs.List.{find}
use Rattle.std.specs.Option.{option_map, IsSome}
use Rattle.std.proofs.lemmas.Bool.{true≢false, ltb-true, ltb-false, cases_Bool}
use Rattle.std.proofs.lemmas.Bool.Decides.{eqb_tells}
use Rattle.lapin_tables.specs.Numbered.{under, with_under, first_kept}
use Rattle.lapin_tables.proofs.SlotLaws.{given, first-there, first-least, first-none, under-pushed, under-map, length-with}
use Rattle.lapin_rules.specs.Words.{without_first}
use Rattle.lapin_outbox.specs.Order.{first_on, without_number}
use Rattle.lapin_outbox.specs.ChannelQueue.{kept, keys_by}
use Rattle.lapin_full.specs.ChannelSet.{is_in}
use Rattle.lapin_full.specs.FullChannels.{AllFull, IsFirstOpen}
use Rattle.lapin_outbox.specs.Passing.{not_full, of_key, waits_where, first_where, AreHeld, NonePasses, bound, IsFree, IsClear, IsOpen}
use Rattle.lapin_outbox.proofs.Chains.{under-behind, with-behind, same-test}
use Rattle.lapin_outbox.proofs.ChannelQueues.{next-number}
use Rattle.lapin_tables.proofs.Channels.{nowhere-later}

-- ---- the first number of a key that passes

-- where a number waits on a key that passes
record Here (t : ℕ → Bool) (o : Option ℕ) : Type 0 where
  key : ℕ
  is : o ≡ Some key
  passes : t key ≡ true
  waits : waits_where t o ≡ true

here-or-not : (t : ℕ → Bool) (o : Option ℕ) → Here t o ⊎ (waits_where t o ≡ false)
here-or-not t None = inr refl
here-or-not t (Some c) = elim (cases_Bool (t c)) [
  | inl passes ↦ inl (record { key = c; is = refl; passes = passes; waits = passes })
  | inr other ↦ inr other
]

pub not-waiting : (t : ℕ → Bool) (o : Option ℕ) (c : ℕ) → waits_where t o ≡ false → o ≡ Some c → t c ≡ false
not-waiting t o c not is = sym (ap (waits_where t) is) ∙ not

pub waiting : (t : ℕ → Bool) (o : Option ℕ) → waits_where t o ≡ true → (c : ℕ) × (o ≡ Some c) × (t c ≡ true)
waiting t None h = cc
waiting t (Some c) h = (c, refl, h)

starts : (t : ℕ → Bool) (o : Option ℕ) (os : List (Option ℕ)) → waits_where t o ≡ true → first_where t (o ∷ os) ≡ Some 1
starts t o os h = rw h refl

goes-on : (t : ℕ → Bool) (o : Option ℕ) (os : List (Option ℕ)) → waits_where t o ≡ false → first_where t (o ∷ os) ≡ option_map suc (first_where t os)
goes-on t o os h = rw h refl

under-positive : (n c : ℕ) (os : List (Option ℕ)) → under n os ≡ Some c → 0 < n
under-positive zero c os h = cc
under-positive (suc k) c os h = omega arith

behind : (n c : ℕ) (o : Option ℕ) (os : List (Option ℕ)) → under n os ≡ Some c → under (suc n) (o ∷ os) ≡ Some c
behind n c o os h = under-behind n o os (under-positive n c os h) ∙ h

pub where-there : (t : ℕ → Bool) (n : ℕ) (os : List (Option ℕ)) → first_where t os ≡ Some n → (c : ℕ) × (under n os ≡ Some c) × (t c ≡ true)
where-there t n [] h = cc
where-there t n (o ∷ os) h = elim (here-or-not t o) [
  | inl here ↦
      let one : Some 1 ≡ Some n = sym (starts t o os here.waits) ∙ h in
      let is : 1 ≡ n = cc in
      let P : ℕ → Type 0 = λ m. under m (o ∷ os) ≡ Some here.key in
      (here.key, subst P is here.is, here.passes)
  | inr not ↦
      let next = next-number n (first_where t os) (sym (goes-on t o os not) ∙ h) in
      let rest = where-there t next.0 os next.1 in
      let P : ℕ → Type 0 = λ m. under m (o ∷ os) ≡ Some rest.0 in
      (rest.0, subst P next.2 (behind next.0 rest.0 o os rest.1), rest.2)
]

where-positive : (t : ℕ → Bool) (n : ℕ) (os : List (Option ℕ)) → first_where t os ≡ Some n → 0 < n
where-positive t n os h = let there = where-there t n os h in under-positive n there.0 os there.1

-- none in front of it passes
pub where-below : (t : ℕ → Bool) (m n c : ℕ) (os : List (Option ℕ)) → first_where t os ≡ Some n → m < n → under m os ≡ Some c → t c ≡ false
where-below t zero n c os h lt at = cc
where-below t (suc j) n c [] h lt at = cc
where-below t (suc zero) n c (o ∷ os) h lt at = elim (here-or-not t o) [
  | inl here ↦
      let one : Some 1 ≡ Some n = sym (starts t o os here.waits) ∙ h in
      let is : 1 ≡ n = cc in
      absurd (omega arith)
  | inr not ↦ not-waiting t o c not at
]
where-below t (suc (suc j)) n c (o ∷ os) h lt at = elim (here-or-not t o) [
  | inl here ↦
      let one : Some 1 ≡ Some n = sym (starts t o os here.waits) ∙ h in
      let is : 1 ≡ n = cc in
      absurd (omega arith)
  | inr not ↦
      let next = next-number n (first_where t os) (sym (goes-on t o os not) ∙ h) in
      let far : suc next.0 ≡ n = next.2 in
      where-below t (suc j) next.0 c os next.1 (omega arith) at
]

pub where-none : (t : ℕ → Bool) (m c : ℕ) (os : List (Option ℕ)) → first_where t os ≡ None → under m os ≡ Some c → t c ≡ false
where-none t zero c os h at = cc
where-none t (suc j) c [] h at = cc
where-none t (suc zero) c (o ∷ os) h at = elim (here-or-not t o) [
  | inl here ↦ let no : ◌≡◌ {A = Option ℕ} (Some 1) None = sym (starts t o os here.waits) ∙ h in cc
  | inr not ↦ not-waiting t o c not at
]
where-none t (suc (suc j)) c (o ∷ os) h at = elim (here-or-not t o) [
  | inl here ↦ let no : ◌≡◌ {A = Option ℕ} (Some 1) None = sym (starts t o os here.waits) ∙ h in cc
  | inr not ↦ where-none t (suc j) c os (nowhere-later (first_where t os) (sym (goes-on t o os not) ∙ h)) at
]

pub is-where : (t : ℕ → Bool) (n c : ℕ) (os : List (Option ℕ)) → under n os ≡ Some c → t c ≡ true → ((m d : ℕ) → m < n → under m os ≡ Some d → t d ≡ false) → first_where t os ≡ Some n
is-where t zero c os at passes below = cc
is-where t (suc j) c [] at passes below = cc
is-where t (suc zero) c (o ∷ os) at passes below = starts t o os (ap (waits_where t) at ∙ passes)
is-where t (suc (suc j)) c (o ∷ os) at passes below = elim (here-or-not t o) [
  | inl here ↦ absurd (true≢false (sym here.passes ∙ below 1 here.key (omega arith) here.is))
  | inr not ↦ goes-on t o os not ∙ ap (option_map suc) (is-where t (suc j) c os at passes (λ m d lt there. below (suc m) d (omega arith) (behind m d o os there)))
]

pub is-none : (t : ℕ → Bool) (os : List (Option ℕ)) → ((m d : ℕ) → under m os ≡ Some d → t d ≡ false) → first_where t os ≡ None
is-none t [] below = refl
is-none t (o ∷ os) below = elim (here-or-not t o) [
  | inl here ↦ absurd (true≢false (sym here.passes ∙ below 1 here.key here.is))
  | inr not ↦ goes-on t o os not ∙ ap (option_map suc) (is-none t os (λ m d there. below (suc m) d (behind m d o os there)))
]

-- where none up to the last number passes
pub is-none-all : (t : ℕ → Bool) (passed : ℕ) (os : List (Option ℕ)) → length os ≤ passed → NonePasses t passed os → first_where t os ≡ None
is-none-all t passed os all none = is-none t os (λ m d there. let within : m ≤ length os = given m d os there in none m d (omega arith) there)

-- ---- the first number of one key

abbrev is_key : ℕ → ℕ → Bool
is_key c d = d == c

same-first : (c : ℕ) (os : List (Option ℕ)) → first_on c os ≡ first_where (is_key c) os
same-first c [] = refl
same-first c (None ∷ os) = ap (option_map suc) (same-first c os)
same-first c (Some d ∷ os) = ap (λ (r : Option ℕ). if d == c then Some 1 else option_map suc r) (same-first c os)

on-there : (c n : ℕ) (os : List (Option ℕ)) → first_on c os ≡ Some n → under n os ≡ Some c
on-there c n os h =
    let there = where-there (is_key c) n os (sym (same-first c os) ∙ h) in
    elim (eqb_tells there.0 c) [
      | inl same ↦ let P : ℕ → Type 0 = λ d. under n os ≡ Some d in subst P same.1 there.1
      | inr other ↦ absurd (true≢false (sym there.2 ∙ other.0))
    ]

-- no number of the key stands in front of it
on-least : (c m n : ℕ) (os : List (Option ℕ)) → first_on c os ≡ Some n → m < n → under m os ≡ Some c → ⊥
on-least c m n os h lt at = true≢false (sym (same-test c) ∙ where-below (is_key c) m n c os (sym (same-first c os) ∙ h) lt at)

on-none : (c m : ℕ) (os : List (Option ℕ)) → first_on c os ≡ None → under m os ≡ Some c → ⊥
on-none c m os h at = true≢false (sym (same-test c) ∙ where-none (is_key c) m c os (sym (same-first c os) ∙ h) at)

-- the first number of a key that passes is the first of its own key
pub first-of-its-key : (t : ℕ → Bool) (n c : ℕ) (os : List (Option ℕ)) → first_where t os ≡ Some n → under n os ≡ Some c → first_on c os ≡ Some n
first-of-its-key t n c os h at =
    let there = where-there t n os h in
    let same : Some there.0 ≡ Some c = sym there.1 ∙ at in
    let key : there.0 ≡ c = cc in
    let passes : t c ≡ true = subst (λ (d : ℕ). t d ≡ true) key there.2 in
    same-first c os ∙ is-where (is_key c) n c os at (same-test c) (λ m d lt below.
    elim (eqb_tells d c) [
      | inl equal ↦ absurd (true≢false (sym passes ∙ subst (λ (k : ℕ). t k ≡ false) equal.1 (where-below t m n d os h lt below)))
      | inr other ↦ other.0
    ])

-- ---- what was passed over, as numbers join and are taken

pub held-pushed : (passed c : ℕ) (held : List ℕ) (keys : List (Option ℕ)) → AreHeld passed held keys → AreHeld passed held (keys ++ Some c ∷ [])
held-pushed passed c held keys h = record {
  within = let was : passed ≤ length keys = h.within in omega (arith, length-append keys (Some c ∷ []));
  each = λ n d le at. elim (under-pushed n (Some c) d keys at) [
    | inl old ↦ h.each n d le old
    | inr new ↦ let was : passed ≤ length keys = h.within in let last : n ≡ length keys + 1 = new.0 in absurd (omega arith)
  ];
}

with-none : (n k d : ℕ) (os : List (Option ℕ)) → under n (with_under k None os) ≡ Some d → under n os ≡ Some d
with-none zero k d os h = h
with-none (suc j) zero d os h = h
with-none (suc j) (suc k) d [] h = h
with-none (suc zero) (suc zero) d (o ∷ os) h = cc
with-none (suc zero) (suc (suc k)) d (o ∷ os) h = h
with-none (suc (suc j)) (suc zero) d (o ∷ os) h = h
with-none (suc (suc j)) (suc (suc k)) d (o ∷ os) h = with-none (suc j) (suc k) d os h

pub held-taken : (passed : ℕ) (held : List ℕ) (r : Option ℕ) (keys : List (Option ℕ)) → AreHeld passed held keys → AreHeld passed held (without_number r keys)
held-taken passed held None keys h = h
held-taken passed held (Some k) keys h = record {
  within = let was : passed ≤ length keys = h.within in omega (arith, length-with k None keys);
  each = λ n d le at. h.each n d le (with-none n k d keys at);
}

-- ---- what was passed over, as a request goes on

kept-within : (n : ℕ) (os : List (Option ℕ)) → first_kept os ≡ Some n → n ≤ length os
kept-within n os h = within (under n os) refl (first-there n os h)
  where
    within : (o : Option ℕ) → under n os ≡ o → IsSome o → n ≤ length os
    within None is some = cc
    within (Some c) is some = given n c os is

pub held-skipped : (passed first : ℕ) (held : List ℕ) (keys : List (Option ℕ)) → AreHeld passed held keys → passed < first → first_kept keys ≡ Some first → AreHeld (first - 1) held keys
held-skipped passed first held keys h lt is = record {
  within = let last : first ≤ length keys = kept-within first keys is in omega arith;
  each = λ n c le at. let least : first ≤ n = first-least n first c keys is at in absurd (omega arith);
}

up-to-next : (n passed number : ℕ) → number ≡ passed + 1 → n ≤ number → (n ≡ number) ⊎ (n ≤ passed)
up-to-next n passed number next le = elim (eqb_tells n number) [
  | inl same ↦ inl same.1
  | inr other ↦ let apart : n ≢ number = other.1 in inr (omega arith)
]

pub held-next : (passed number : ℕ) (held new : List ℕ) (keys : List (Option ℕ)) → AreHeld passed held keys → number ≡ passed + 1 → passed < length keys → ((c : ℕ) → is_in c held ≡ true → is_in c new ≡ true) → ((c : ℕ) → under number keys ≡ Some c → is_in c new ≡ true) → AreHeld number new keys
held-next passed number held new keys h next lt more here = record {
  within = omega arith;
  each = λ n c le at. elim (up-to-next n passed number next le) [
    | inl same ↦ here c (subst (λ (m : ℕ). under m keys ≡ Some c) same at)
    | inr old ↦ more c (h.each n c old at)
  ];
}

-- none waits there
pub held-none : (passed number : ℕ) (held : List ℕ) (keys : List (Option ℕ)) → AreHeld passed held keys → number ≡ passed + 1 → passed < length keys → under number keys ≡ None → AreHeld number held keys
held-none passed number held keys h next lt none = held-next passed number held held keys h next lt (λ c x. x) (λ c at. let no : ◌≡◌ {A = Option ℕ} (Some c) None = sym at ∙ none in cc)

-- the same keys are held
pub held-same : (passed : ℕ) (held new : List ℕ) (keys : List (Option ℕ)) → AreHeld passed held keys → ((c : ℕ) → is_in c new ≡ is_in c held) → AreHeld passed new keys
held-same passed held new keys h same = record { within = h.within; each = λ n c le at. same c ∙ h.each n c le at }

-- a key is put in
pub held-now : (passed number key : ℕ) (held new : List ℕ) (keys : List (Option ℕ)) → AreHeld passed held keys → number ≡ passed + 1 → passed < length keys → under number keys ≡ Some key → is_in key new ≡ true → ((c : ℕ) → c ≢ key → is_in c new ≡ is_in c held) → AreHeld number new keys
held-now passed number key held new keys h next lt is put others =
    held-next passed number held new keys h next lt more
    (λ c at.
    let some : Some key ≡ Some c = sym is ∙ at in
    let same : key ≡ c = cc in
    subst (λ (d : ℕ). is_in d new ≡ true) same put)
  where
    more : (c : ℕ) → is_in c held ≡ true → is_in c new ≡ true
    more c was = elim (eqb_tells c key) [
      | inl same ↦ ap (λ (d : ℕ). is_in d new) same.1 ∙ put
      | inr other ↦ others c other.1 ∙ was
    ]

-- a key is let go of which no number that was passed over waits
pub held-less : (passed key : ℕ) (held new : List ℕ) (keys : List (Option ℕ)) → AreHeld passed held keys → IsFree keys key (suc passed) → ((c : ℕ) → c ≢ key → is_in c new ≡ is_in c held) → AreHeld passed new keys
held-less passed key held new keys h free others = record {
  within = h.within;
  each = λ n c le at. elim (eqb_tells c key) [
    | inl same ↦ absurd (free n (omega arith) (subst (λ (d : ℕ). under n keys ≡ Some d) same.1 at))
    | inr other ↦ others c other.1 ∙ h.each n c le at
  ];
}

-- none joins as one is let go
pub fewer-held : (key : ℕ) (held new : List ℕ) → is_in key new ≡ false → ((c : ℕ) → c ≢ key → is_in c new ≡ is_in c held) → (c : ℕ) → is_in c new ≡ true → is_in c held ≡ true
fewer-held key held new gone others c is = elim (eqb_tells c key) [
  | inl same ↦ absurd (true≢false (sym is ∙ ap (λ (d : ℕ). is_in d new) same.1 ∙ gone))
  | inr other ↦ sym (others c other.1) ∙ is
]

pub none-next : (t : ℕ → Bool) (passed number : ℕ) (keys : List (Option ℕ)) → NonePasses t passed keys → number ≡ passed + 1 → waits_where t (under number keys) ≡ false → NonePasses t number keys
none-next t passed number keys none next not = λ n c le at.
    elim (up-to-next n passed number next le) [
      | inl same ↦ not-waiting t (under number keys) c not (subst (λ (m : ℕ). under m keys ≡ Some c) same at)
      | inr old ↦ none n c old at
    ]

-- the next number is the first that passes
pub where-next : (t : ℕ → Bool) (passed number : ℕ) (keys : List (Option ℕ)) → NonePasses t passed keys → number ≡ passed + 1 → waits_where t (under number keys) ≡ true → Some number ≡ first_where t keys
where-next t passed number keys none next does =
    let here = waiting t (under number keys) does in
    sym (is-where t number here.0 keys here.1 here.2 (λ m d lt at. none m d (omega arith) at))

-- the first number of all passes
pub where-first : (t : ℕ → Bool) (first : ℕ) (keys : List (Option ℕ)) → first_kept keys ≡ Some first → waits_where t (under first keys) ≡ true → Some first ≡ first_where t keys
where-first t first keys is does =
    let here = waiting t (under first keys) does in
    sym (is-where t first here.0 keys here.1 here.2 (λ m d lt at. let least : first ≤ m = first-least m first d keys is at in absurd (omega arith)))

-- nothing waits
pub where-empty : (t : ℕ → Bool) (keys : List (Option ℕ)) → first_kept keys ≡ None → None ≡ first_where t keys
where-empty t keys none = sym (is-none t keys (λ m d at. absurd (first-none m d keys none at)))

-- ---- the search among the keys that are held

-- a key without a number is free everywhere
pub free-none : (keys : List (Option ℕ)) (c b : ℕ) → first_on c keys ≡ None → IsFree keys c b
free-none keys c b none = λ n lt at. on-none c n keys none at

-- a key is free up to its first number
pub free-first : (keys : List (Option ℕ)) (c b m : ℕ) → first_on c keys ≡ Some m → b ≤ m → IsFree keys c b
free-first keys c b m is le = λ n lt at. let below : n < m = omega arith in on-least c n m keys is below at

-- a key whose first number isn't in front of the best is free up to the best
pub free-later : (keys : List (Option ℕ)) (c m b : ℕ) → first_on c keys ≡ Some m → nat_lt m b ≡ false → IsFree keys c b
free-later keys c m b is not = free-first keys c b m is (ltb-false m b not)

-- the search never goes beyond what was passed over
pub bound-within : (t : ℕ → Bool) (keys : List (Option ℕ)) (passed : ℕ) (best : Option ℕ) → IsOpen t keys passed best → bound passed best ≤ suc passed
bound-within t keys passed None open_ = omega arith
bound-within t keys passed (Some b) open_ = let le : b ≤ passed = open_.0 in omega arith

-- where the first number of all wasn't passed over, none waits that was
pub none-skipped : (t : ℕ → Bool) (first : ℕ) (keys : List (Option ℕ)) → first_kept keys ≡ Some first → NonePasses t (first - 1) keys
none-skipped t first keys is = λ n c le at.
    let least : first ≤ n = first-least n first c keys is at in
    let some : 0 < n = under-positive n c keys at in
    absurd (omega arith)

-- up to which key the search is done: no held key below it has a number in front of the best that passes
pub record SearchDone (t : ℕ → Bool) (passed : ℕ) (held : List ℕ) (keys : List (Option ℕ)) (best : Option ℕ) (from : ℕ) : Type 0 where
  pub clear : (c : ℕ) → c < from → is_in c held ≡ true → IsClear t keys c (bound passed best)
  pub is_open : IsOpen t keys passed best

-- no key is looked at yet
pub search-begun : (t : ℕ → Bool) (passed : ℕ) (held : List ℕ) (keys : List (Option ℕ)) → SearchDone t passed held keys None 0
search-begun t passed held keys = record { clear = λ c lt is. absurd (omega arith); is_open = tt }

-- one more key is looked at, and those in front of it are full
pub search-on : (full : ℕ → Bool) (passed from key : ℕ) (held new : List ℕ) (keys : List (Option ℕ)) (best sooner : Option ℕ) → SearchDone (not_full full) passed held keys best from → IsFirstOpen full held from key → IsFree keys key (bound passed sooner) → bound passed sooner ≤ bound passed best → ((t : ℕ → Bool) → t key ≡ true → IsOpen t keys passed best → IsOpen t keys passed sooner) → ((c : ℕ) → is_in c new ≡ true → is_in c held ≡ true) → SearchDone (not_full full) passed new keys sooner (key + 1)
search-on full passed from key held new keys best sooner done first free less opens fewer = record {
  clear = λ c lt is. elim (eqb_tells c key) [
    | inl same ↦ λ n below at. absurd (free n below (subst (λ (d : ℕ). under n keys ≡ Some d) same.1 at))
    | inr other ↦ elim (cases_Bool (nat_lt c from)) [
      | inl before ↦ λ n below at. done.clear c (ltb-true c from before) (fewer c is) n (omega arith) at
      | inr later ↦
          let apart : c ≢ key = other.1 in
          let on : from ≤ c = ltb-false c from later in
          λ n below at. ap not (first.first c on (omega arith) (fewer c is))
    ]
  ];
  is_open = opens (not_full full) (ap not first.open_) done.is_open;
}

-- the keys that are left are full
pub search-found : (full : ℕ → Bool) (passed from : ℕ) (held : List ℕ) (keys : List (Option ℕ)) (best : Option ℕ) → AreHeld passed held keys → SearchDone (not_full full) passed held keys best from → AllFull full held from → MatchOption best (NonePasses (not_full full) passed keys) (λ n. first_where (not_full full) keys ≡ Some n)
search-found full passed from held keys best h done all = found best done
  where
    clear : (b : Option ℕ) → SearchDone (not_full full) passed held keys b from → (n c : ℕ) → n ≤ passed → n < bound passed b → under n keys ≡ Some c → not_full full c ≡ false
    clear b d n c le lt at = elim (cases_Bool (nat_lt c from)) [
      | inl before ↦ d.clear c (ltb-true c from before) (h.each n c le at) n lt at
      | inr later ↦ ap not (all c (ltb-false c from later) (h.each n c le at))
    ]

    found : (b : Option ℕ) → SearchDone (not_full full) passed held keys b from → MatchOption b (NonePasses (not_full full) passed keys) (λ n. first_where (not_full full) keys ≡ Some n)
    found None d = λ n c le at. clear None d n c le (omega arith) at
    found (Some b) d =
        let here = waiting (not_full full) (under b keys) d.is_open.1 in
        let le : b ≤ passed = d.is_open.0 in
        is-where (not_full full) b here.0 keys here.1 here.2 (λ n c lt at. clear (Some b) d n c (omega arith) lt at)

-- a number that was passed over is the first of a key that passes
pub sooner-open : (t : ℕ → Bool) (keys : List (Option ℕ)) (c m passed : ℕ) → first_on c keys ≡ Some m → m ≤ passed → t c ≡ true → IsOpen t keys passed (Some m)
sooner-open t keys c m passed is le passes = (le, ap (waits_where t) (on-there c m keys is) ∙ passes)

-- ---- the entries under the numbers

next_is_some : (o : Option ℕ) → is_some (option_map suc o) ≡ is_some o
next_is_some None = refl
next_is_some (Some n) = refl

module _ {X : Type 0} (f : X → ℕ) (t : ℕ → Bool) where
  pub found-where : (n : ℕ) (os : List (Option X)) → first_where t (keys_by f os) ≡ Some n → under n os ≡ find (of_key f t) (kept os)
  found-where n [] h = cc
  found-where n (None ∷ os) h =
      let next = next-number n (first_where t (keys_by f os)) h in
      let P : ℕ → Type 0 = λ m. under m (None ∷ os) ≡ find (of_key f t) (kept os) in
      subst P next.2 (under-behind next.0 None os (where-positive t next.0 (keys_by f os) next.1) ∙ found-where next.0 os next.1)
  found-where n (Some x ∷ os) h = elim (cases_Bool (t (f x))) [
    | inl passes ↦
        let one : Some 1 ≡ Some n = sym (starts t (Some (f x)) (keys_by f os) passes) ∙ h in
        let is : 1 ≡ n = cc in
        let P : ℕ → Type 0 = λ m. under m (Some x ∷ os) ≡ find (of_key f t) (x ∷ kept os) in
        subst P is (rw passes refl)
    | inr other ↦
        let next = next-number n (first_where t (keys_by f os)) (sym (goes-on t (Some (f x)) (keys_by f os) other) ∙ h) in
        let P : ℕ → Type 0 = λ m. under m (Some x ∷ os) ≡ find (of_key f t) (x ∷ kept os) in
        let skipped : find (of_key f t) (kept os) ≡ find (of_key f t) (x ∷ kept os) = rw other refl in
        subst P next.2 (under-behind next.0 (Some x) os (where-positive t next.0 (keys_by f os) next.1) ∙ found-where next.0 os next.1 ∙ skipped)
  ]

  pub left-where : (n : ℕ) (os : List (Option X)) → first_where t (keys_by f os) ≡ Some n → kept (with_under n None os) ≡ without_first (of_key f t) (kept os)
  left-where n [] h = cc
  left-where n (None ∷ os) h =
      let next = next-number n (first_where t (keys_by f os)) h in
      let P : ℕ → Type 0 = λ m. kept (with_under m None (None ∷ os)) ≡ without_first (of_key f t) (kept os) in
      subst P next.2 (ap kept (with-behind next.0 None None os (where-positive t next.0 (keys_by f os) next.1)) ∙ left-where next.0 os next.1)
  left-where n (Some x ∷ os) h = elim (cases_Bool (t (f x))) [
    | inl passes ↦
        let one : Some 1 ≡ Some n = sym (starts t (Some (f x)) (keys_by f os) passes) ∙ h in
        let is : 1 ≡ n = cc in
        let P : ℕ → Type 0 = λ m. kept (with_under m None (Some x ∷ os)) ≡ without_first (of_key f t) (x ∷ kept os) in
        subst P is (rw passes refl)
    | inr other ↦
        let next = next-number n (first_where t (keys_by f os)) (sym (goes-on t (Some (f x)) (keys_by f os) other) ∙ h) in
        let P : ℕ → Type 0 = λ m. kept (with_under m None (Some x ∷ os)) ≡ without_first (of_key f t) (x ∷ kept os) in
        let skipped : x ∷ without_first (of_key f t) (kept os) ≡ without_first (of_key f t) (x ∷ kept os) = rw other refl in
        subst P next.2 (ap kept (with-behind next.0 None (Some x) os (where-positive t next.0 (keys_by f os) next.1)) ∙ ap (λ xs. x ∷ xs) (left-where next.0 os next.1) ∙ skipped)
  ]

  pub none-found : (os : List (Option X)) → first_where t (keys_by f os) ≡ None → (find (of_key f t) (kept os) ≡ None) × (without_first (of_key f t) (kept os) ≡ kept os)
  none-found [] h = (refl, refl)
  none-found (None ∷ os) h = none-found os (nowhere-later (first_where t (keys_by f os)) h)
  none-found (Some x ∷ os) h = elim (cases_Bool (t (f x))) [
    | inl passes ↦ let no : ◌≡◌ {A = Option ℕ} (Some 1) None = sym (starts t (Some (f x)) (keys_by f os) passes) ∙ h in cc
    | inr other ↦
        let rest = none-found os (nowhere-later (first_where t (keys_by f os)) (sym (goes-on t (Some (f x)) (keys_by f os) other) ∙ h)) in
        (rw other rest.0, rw other (ap (λ xs. x ∷ xs) rest.1))
  ]

  -- a number is found exactly where an entry is
  pub any_where : (os : List (Option X)) → is_some (first_where t (keys_by f os)) ≡ is_some (find (of_key f t) (kept os))
  any_where [] = refl
  any_where (None ∷ os) = next_is_some (first_where t (keys_by f os)) ∙ any_where os
  any_where (Some x ∷ os) = elim (cases_Bool (t (f x))) [
    | inl passes ↦ rw passes refl
    | inr other ↦ rw other (next_is_some (first_where t (keys_by f os)) ∙ any_where os)
  ]

  -- the entry under the number is there
  pub never-gone : (n : ℕ) (os : List (Option X)) → first_where t (keys_by f os) ≡ Some n → under n os ≡ None → ⊥
  never-gone n os h none =
      let there = where-there t n (keys_by f os) h in
      let gone : under n (keys_by f os) ≡ None = under-map f n os ∙ ap (option_map f) none in
      let no : ◌≡◌ {A = Option ℕ} (Some there.0) None = sym there.1 ∙ gone in
      cc

  pub first-of-entry : (n : ℕ) (x : X) (os : List (Option X)) → first_where t (keys_by f os) ≡ Some n → under n os ≡ Some x → first_on (f x) (keys_by f os) ≡ Some n
  first-of-entry n x os h at = first-of-its-key t n (f x) (keys_by f os) h (under-map f n os ∙ ap (option_map f) at)
