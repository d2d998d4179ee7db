-- The first number of a key and its last, as numbers are taken and join.
use Rattle.std.proofs.Common.{◌≡◌, ℕ, zero, suc, ◌+◌, ◌-◌, ◌<◌, ◌≤◌, ◌==◌, Bool, true, false, cond, nat_eq, List, [], ◌∷◌, ◌++◌, map, length, Option, Some, None, refl, sym, ◌∙◌, ap, subst, arith, ◌⊎◌, inl, inr}
use Rattle.std.specs.Prelude.{Result, Ok, Err, IsOk, OnOk}
use Rattle.std.specs.Bool.{if◌then◌else◌}
use Rattle.std.specs.Option.{option_map, IsSome}
use Rattle.std.proofs.lemmas.Bool.Decides.{eqb_tells}
use Rattle.std.proofs.lemmas.List.{map_push}
use Rattle.lapin_tables.specs.Numbered.{under, with_under, first_kept}
use Rattle.lapin_tables.proofs.SlotLaws.{under-push, under-map, given, length-with}
use Rattle.lapin_outbox.specs.declared.order.Link.{Link}
use Rattle.lapin_outbox.specs.declared.ends.Ends.{Ends}
use Rattle.lapin_outbox.specs.Ends.{last_of as last}
use Rattle.lapin_outbox.specs.Order.{first_on, waits_on, without_number}
use Rattle.lapin_outbox.specs.Links.{link_key, keys_of, is_link_of, ends_behind, ends_of, distance, AreLinked}

-- ---- slots in general

module _ {X : Type 0} where
  pub under-behind : (n : ℕ) (o : Option X) (os : List (Option X)) → 0 < n → under (suc n) (o ∷ os) ≡ under n os
  under-behind zero o os h = absurd (omega arith)
  under-behind (suc k) o os h = refl

  pub with-behind : (n : ℕ) (w o : Option X) (os : List (Option X)) → 0 < n → with_under (suc n) w (o ∷ os) ≡ o ∷ with_under n w os
  with-behind zero w o os h = absurd (omega arith)
  with-behind (suc k) w o os h = refl

  -- what stands there already
  with-same : (n : ℕ) (os : List (Option X)) → with_under n (under n os) os ≡ os
  with-same zero os = refl
  with-same (suc k) [] = refl
  with-same (suc zero) (o ∷ os) = refl
  with-same (suc (suc k)) (o ∷ os) = ap (λ ps. o ∷ ps) (with-same (suc k) os)

  pub map-with : {Y : Type 0} (f : X → Y) (n : ℕ) (w : Option X) (os : List (Option X)) → map (option_map f) (with_under n w os) ≡ with_under n (option_map f w) (map (option_map f) os)
  map-with f zero w os = refl
  map-with f (suc k) w [] = refl
  map-with f (suc zero) w (o ∷ os) = refl
  map-with f (suc (suc k)) w (o ∷ os) = ap (λ ps. option_map f o ∷ ps) (map-with f (suc k) w os)

-- ---- the ends of a key

abbrev last_of : Option Ends → ℕ
last_of None = 0
last_of (Some e) = e.last

abbrev pub advanced : ℕ → Ends → Option Ends
advanced zero e = None
advanced (suc d) e = Some (record { first = e.first + suc d; last = e.last })

behind-positive : (b : Bool) (r : Option Ends) (e : Ends) → ends_behind b r ≡ Some e → (0 < e.first) × (0 < e.last)
behind-positive true None e h = let f : 1 ≡ e.first = ap distance h in let l : 1 ≡ e.last = ap last_of h in (omega arith, omega arith)
behind-positive false None e h = cc
behind-positive true (Some d) e h = let f : 1 ≡ e.first = ap distance h in let l : suc d.last ≡ e.last = ap last_of h in (omega arith, omega arith)
behind-positive false (Some d) e h = let f : suc d.first ≡ e.first = ap distance h in let l : suc d.last ≡ e.last = ap last_of h in (omega arith, omega arith)

positive : (c : ℕ) (os : List (Option Link)) (e : Ends) → ends_of c os ≡ Some e → (0 < e.first) × (0 < e.last)
positive c [] e h = cc
positive c (o ∷ os) e h = behind-positive (is_link_of c o) (ends_of c os) e h

-- a first link is of the key, or it is not
sort : (c : ℕ) (o : Option Link) → ((l : Link) × (o ≡ Some l) × (l.key ≡ c) × (is_link_of c o ≡ true)) ⊎ (is_link_of c o ≡ false)
sort c None = inr refl
sort c (Some l) = elim (eqb_tells l.key c) [
  | inl same ↦ inl (l, refl, same.1, same.0)
  | inr other ↦ inr other.0
]

apart : (c d k : ℕ) → (d == c) ≡ false → k ≡ c → (k == d) ≡ false
apart c d k other is = elim (eqb_tells k d) [
  | inl same ↦ elim (eqb_tells d c) [
    | inl equal ↦ cc
    | inr not ↦ absurd (not.1 (sym same.1 ∙ is))
  ]
  | inr not ↦ not.0
]

-- where the first link is the key's first
record Here (c : ℕ) (o : Option Link) (os : List (Option Link)) (e : Ends) : Type 0 where
  link : Link
  is : o ≡ Some link
  on : link.key ≡ c
  first : e.first ≡ 1
  last : e.last ≡ suc (last_of (ends_of c os))

-- where it is of another key
record Later (c : ℕ) (o : Option Link) (os : List (Option Link)) (e : Ends) : Type 0 where
  not : is_link_of c o ≡ false
  rest : Ends
  is : ends_of c os ≡ Some rest
  first : e.first ≡ suc rest.first
  last : e.last ≡ suc rest.last

head-ends : (r : Option Ends) (e : Ends) → ends_behind true r ≡ Some e → (e.first ≡ 1) × (e.last ≡ suc (last_of r))
head-ends None e h = (sym (ap distance h), sym (ap last_of h))
head-ends (Some d) e h = (sym (ap distance h), sym (ap last_of h))

later-ends : (r : Option Ends) (e : Ends) → ends_behind false r ≡ Some e → (d : Ends) × (r ≡ Some d) × (e.first ≡ suc d.first) × (e.last ≡ suc d.last)
later-ends None e h = cc
later-ends (Some d) e h = (d, refl, sym (ap distance h), sym (ap last_of h))

shape : (c : ℕ) (o : Option Link) (os : List (Option Link)) (e : Ends) → ends_of c (o ∷ os) ≡ Some e → Here c o os e ⊎ Later c o os e
shape c o os e h = elim (sort c o) [
  | inl here ↦
      let ends = head-ends (ends_of c os) e (rw here.3 at h) in
      inl (record { link = here.0; is = here.1; on = here.2; first = ends.0; last = ends.1 })
  | inr not ↦
      let ends = later-ends (ends_of c os) e (rw not at h) in
      inr (record { not = not; rest = ends.0; is = ends.1; first = ends.2; last = ends.3 })
]

-- ---- a key's first number is taken

pub first-there : (c : ℕ) (os : List (Option Link)) (e : Ends) → ends_of c os ≡ Some e → (k : Link) × (under e.first os ≡ Some k) × (k.key ≡ c)
first-there c [] e h = cc
first-there c (o ∷ os) e h = elim (shape c o os e h) [
  | inl s ↦ let P : ℕ → Type 0 = λ n. under n (o ∷ os) ≡ Some s.link in (s.link, subst P (sym s.first) s.is, s.on)
  | inr s ↦
      let rest = first-there c os s.rest s.is in
      let P : ℕ → Type 0 = λ n. under n (o ∷ os) ≡ Some rest.0 in
      (rest.0, subst P (sym s.first) (under-behind s.rest.first o os (positive c os s.rest s.is).0 ∙ rest.1), rest.2)
]

here-ends : (r : Option Ends) (e : Ends) (next : ℕ) → next ≡ distance r → ((d : Ends) → r ≡ Some d → 0 < d.first) → e.first ≡ 1 → e.last ≡ suc (last_of r) → ends_behind false r ≡ advanced next e
here-ends None e zero is pos f l = refl
here-ends None e (suc m) is pos f l = absurd (omega arith)
here-ends (Some d) e zero is pos f l = let some : 0 < d.first = pos d refl in absurd (omega arith)
here-ends (Some d) e (suc m) is pos f l = let first : suc d.first ≡ e.first + suc m = omega arith in let last : suc d.last ≡ e.last = sym l in cc

later-advanced : (next : ℕ) (d e : Ends) → e.first ≡ suc d.first → e.last ≡ suc d.last → ends_behind false (advanced next d) ≡ advanced next e
later-advanced zero d e f l = refl
later-advanced (suc m) d e f l = let first : suc (d.first + suc m) ≡ e.first + suc m = omega arith in let last : suc d.last ≡ e.last = sym l in cc

linked-tail : (o : Option Link) (os : List (Option Link)) → AreLinked (o ∷ os) → AreLinked os
linked-tail None os h = h
linked-tail (Some l) os h = h.1

linked-head : (o : Option Link) (l : Link) (os : List (Option Link)) → o ≡ Some l → AreLinked (o ∷ os) → l.next ≡ distance (ends_of l.key os)
linked-head None l os is h = cc
linked-head (Some k) l os is h = let same : k ≡ l = cc in let P : Link → Type 0 = λ m. m.next ≡ distance (ends_of m.key os) in subst P same h.0

pub take-ends : (c : ℕ) (os : List (Option Link)) (e : Ends) (k : Link) → AreLinked os → ends_of c os ≡ Some e → under e.first os ≡ Some k → ends_of c (with_under e.first None os) ≡ advanced k.next e
take-ends c [] e k linked h at = cc
take-ends c (o ∷ os) e k linked h at = elim (shape c o os e h) [
  | inl s ↦
      let Q : ℕ → Type 0 = λ n. under n (o ∷ os) ≡ Some k in
      let there : o ≡ Some k = subst Q s.first at in
      let same : s.link ≡ k = let e : Some s.link ≡ Some k = sym s.is ∙ there in cc in
      let on : k.key ≡ c = ap link_key (sym same) ∙ s.on in
      let next : k.next ≡ distance (ends_of c os) = linked-head o k os there linked ∙ ap (λ d. distance (ends_of d os)) on in
      let P : ℕ → Type 0 = λ n. ends_of c (with_under n None (o ∷ os)) ≡ advanced k.next e in
      subst P (sym s.first) (here-ends (ends_of c os) e k.next next (λ d is. (positive c os d is).0) s.first s.last)
  | inr s ↦
      let pos : 0 < s.rest.first = (positive c os s.rest s.is).0 in
      let Q : ℕ → Type 0 = λ n. under n (o ∷ os) ≡ Some k in
      let there : under s.rest.first os ≡ Some k = sym (under-behind s.rest.first o os pos) ∙ subst Q s.first at in
      let rest : ends_of c (with_under s.rest.first None os) ≡ advanced k.next s.rest = take-ends c os s.rest k (linked-tail o os linked) s.is there in
      let P : ℕ → Type 0 = λ n. ends_of c (with_under n None (o ∷ os)) ≡ advanced k.next e in
      subst P (sym s.first) (ap (ends_of c) (with-behind s.rest.first None o os pos) ∙ rw (s.not, rest) (later-advanced k.next s.rest e s.first s.last))
]

-- the ends of another key stay
pub others : (d n : ℕ) (w : Option Link) (os : List (Option Link)) (k : Link) → under n os ≡ Some k → (k.key == d) ≡ false → is_link_of d w ≡ false → ends_of d (with_under n w os) ≡ ends_of d os
others d zero w os k at other not = refl
others d (suc j) w [] k at other not = refl
others d (suc zero) w (o ∷ os) k at other not = ap (λ b. ends_behind b (ends_of d os)) (not ∙ sym (ap (is_link_of d) at ∙ other))
others d (suc (suc j)) w (o ∷ os) k at other not = ap (ends_behind (is_link_of d o)) (others d (suc j) w os k at other not)

link-behind : (o : Option Link) (os ps : List (Option Link)) → AreLinked (o ∷ os) → AreLinked ps → ((l : Link) → o ≡ Some l → distance (ends_of l.key ps) ≡ distance (ends_of l.key os)) → AreLinked (o ∷ ps)
link-behind None os ps linked rest same = rest
link-behind (Some l) os ps linked rest same = (linked.0 ∙ sym (same l refl), rest)

not-of : (c : ℕ) (o : Option Link) (l : Link) → is_link_of c o ≡ false → o ≡ Some l → (l.key == c) ≡ false
not-of c o l not is = sym (ap (is_link_of c) is) ∙ not

pub take-linked : (c : ℕ) (os : List (Option Link)) (e : Ends) → AreLinked os → ends_of c os ≡ Some e → AreLinked (with_under e.first None os)
take-linked c [] e linked h = cc
take-linked c (o ∷ os) e linked h = elim (shape c o os e h) [
  | inl s ↦ let P : ℕ → Type 0 = λ n. AreLinked (with_under n None (o ∷ os)) in subst P (sym s.first) (linked-tail o os linked)
  | inr s ↦
      let pos : 0 < s.rest.first = (positive c os s.rest s.is).0 in
      let rest : AreLinked (with_under s.rest.first None os) = take-linked c os s.rest (linked-tail o os linked) s.is in
      let there = first-there c os s.rest s.is in
      let P : ℕ → Type 0 = λ n. AreLinked (with_under n None (o ∷ os)) in
      subst P (sym s.first) (
      subst AreLinked (sym (with-behind s.rest.first None o os pos)) (
      link-behind o os (with_under s.rest.first None os) linked rest (
      λ l is. ap distance (others l.key s.rest.first None os there.0 there.1 (apart c l.key there.0.key (not-of c o l s.not is) there.2) refl)
      )
      )
      )
]

-- ---- a number joins

none-behind : (b : Bool) (r : Option Ends) → ends_behind b r ≡ None → (b ≡ false) × (r ≡ None)
none-behind true None h = cc
none-behind false None h = (refl, refl)
none-behind b (Some d) h = cc

-- a key's first
pub push-ends-none : (c : ℕ) (os : List (Option Link)) (x : Link) → ends_of c os ≡ None → (x.key == c) ≡ true → ends_of c (os ++ Some x ∷ []) ≡ Some (record { first = suc (length os); last = suc (length os) })
push-ends-none c [] x h on = ap (λ b. ends_behind b None) on
push-ends-none c (o ∷ os) x h on =
    let parts = none-behind (is_link_of c o) (ends_of c os) h in
    rw (push-ends-none c os x parts.1 on, parts.0) refl

pub push-other : (d : ℕ) (os : List (Option Link)) (x : Link) → (x.key == d) ≡ false → ends_of d (os ++ Some x ∷ []) ≡ ends_of d os
push-other d [] x not = ap (λ b. ends_behind b None) not
push-other d (o ∷ os) x not = ap (ends_behind (is_link_of d o)) (push-other d os x not)

pub push-linked-none : (c : ℕ) (os : List (Option Link)) (x : Link) → AreLinked os → ends_of c os ≡ None → x.key ≡ c → x.next ≡ 0 → AreLinked (os ++ Some x ∷ [])
push-linked-none c [] x linked h on last = (last, tt)
push-linked-none c (o ∷ os) x linked h on last =
    let parts = none-behind (is_link_of c o) (ends_of c os) h in
    let rest : AreLinked (os ++ Some x ∷ []) = push-linked-none c os x (linked-tail o os linked) parts.1 on last in
    link-behind o os (os ++ Some x ∷ []) linked rest (λ l is. ap distance (push-other l.key os x (apart c l.key x.key (not-of c o l parts.0 is) on)))

-- where the last of a key is the first link, or stands later
record Only (c : ℕ) (o : Option Link) (os : List (Option Link)) (e : Ends) : Type 0 where
  link : Link
  is : o ≡ Some link
  on : link.key ≡ c
  none : ends_of c os ≡ None
  first : e.first ≡ 1
  last : e.last ≡ 1

record More (c : ℕ) (o : Option Link) (os : List (Option Link)) (e : Ends) : Type 0 where
  rest : Ends
  is : ends_of c os ≡ Some rest
  first : e.first ≡ (if is_link_of c o then 1 else suc rest.first)
  last : e.last ≡ suc rest.last

only-or-more : (c : ℕ) (o : Option Link) (os : List (Option Link)) (e : Ends) (r : Option Ends) → ends_of c os ≡ r → ends_behind (is_link_of c o) r ≡ Some e → Only c o os e ⊎ More c o os e
only-or-more c o os e None none h = elim (sort c o) [
  | inl here ↦ let ends = head-ends None e (rw here.3 at h) in inl (record { link = here.0; is = here.1; on = here.2; none = none; first = ends.0; last = ends.1 })
  | inr not ↦ let no : ends_behind false None ≡ Some e = rw not at h in cc
]
only-or-more c o os e (Some d) is h = inr (record { rest = d; is = is; first = sym (ap distance h); last = sym (ap last_of h) })

lasts : (c : ℕ) (o : Option Link) (os : List (Option Link)) (e : Ends) → ends_of c (o ∷ os) ≡ Some e → Only c o os e ⊎ More c o os e
lasts c o os e h = only-or-more c o os e (ends_of c os) refl h

pub last-there : (c : ℕ) (os : List (Option Link)) (e : Ends) → ends_of c os ≡ Some e → (k : Link) × (under e.last os ≡ Some k) × (k.key ≡ c)
last-there c [] e h = cc
last-there c (o ∷ os) e h = elim (lasts c o os e h) [
  | inl s ↦ let P : ℕ → Type 0 = λ n. under n (o ∷ os) ≡ Some s.link in (s.link, subst P (sym s.last) s.is, s.on)
  | inr s ↦
      let rest = last-there c os s.rest s.is in
      let P : ℕ → Type 0 = λ n. under n (o ∷ os) ≡ Some rest.0 in
      (rest.0, subst P (sym s.last) (under-behind s.rest.last o os (positive c os s.rest s.is).1 ∙ rest.1), rest.2)
]

-- a further one: the last so far, y, now leads to it, x
module _ (c : ℕ) (x y : Link) (on : x.key ≡ c) (test : (x.key == c) ≡ true) (from : (y.key == c) ≡ true) where
  pub push-ends : (os : List (Option Link)) (e : Ends) → ends_of c os ≡ Some e → ends_of c (with_under e.last (Some y) (os ++ Some x ∷ [])) ≡ Some (record { first = e.first; last = suc (length os) })
  push-ends [] e h = cc
  push-ends (o ∷ os) e h = elim (lasts c o os e h) [
    | inl s ↦
        let P : ℕ → Type 0 = λ n. ends_of c (with_under n (Some y) (o ∷ (os ++ Some x ∷ []))) ≡ Some (record { first = e.first; last = suc (suc (length os)) }) in
        let Q : ℕ → Type 0 = λ n. ends_behind true (Some (record { first = suc (length os); last = suc (length os) })) ≡ Some (record { first = n; last = suc (suc (length os)) }) in
        subst P (sym s.last) (rw (push-ends-none c os x s.none test, from) (subst Q (sym s.first) refl))
    | inr s ↦
        let P : ℕ → Type 0 = λ n. ends_of c (with_under n (Some y) (o ∷ (os ++ Some x ∷ []))) ≡ Some (record { first = e.first; last = suc (suc (length os)) }) in
        let Q : ℕ → Type 0 = λ n. ends_behind (is_link_of c o) (Some (record { first = s.rest.first; last = suc (length os) })) ≡ Some (record { first = n; last = suc (suc (length os)) }) in
        let rest = push-ends os s.rest s.is in
        subst P (sym s.last) (ap (ends_of c) (with-behind s.rest.last (Some y) o (os ++ Some x ∷ []) (positive c os s.rest s.is).1) ∙ ap (ends_behind (is_link_of c o)) rest ∙ subst Q (sym s.first) refl)
  ]

  pub push-others : (d : ℕ) (os : List (Option Link)) (e : Ends) → ends_of c os ≡ Some e → (d == c) ≡ false → y.key ≡ c → ends_of d (with_under e.last (Some y) (os ++ Some x ∷ [])) ≡ ends_of d os
  push-others d os e h other on-y =
      let there = last-there c os e h in
      others d e.last (Some y) (os ++ Some x ∷ []) there.0 (under-push e.last (Some x) there.0 os there.1) (apart c d there.0.key other there.2) (apart c d y.key other on-y)
      ∙ push-other d os x (apart c d x.key other on)

  distance-stays : (d : ℕ) (os : List (Option Link)) (e : Ends) → ends_of c os ≡ Some e → y.key ≡ c → distance (ends_of d (with_under e.last (Some y) (os ++ Some x ∷ []))) ≡ distance (ends_of d os)
  distance-stays d os e h on-y = elim (eqb_tells d c) [
    | inl same ↦
        let P : ℕ → Type 0 = λ n. distance (ends_of n (with_under e.last (Some y) (os ++ Some x ∷ []))) ≡ distance (ends_of n os) in
        subst P (sym same.1) (ap distance (push-ends os e h) ∙ sym (ap distance h))
    | inr other ↦ ap distance (push-others d os e h other.0 on-y)
  ]

  pub push-linked : (os : List (Option Link)) (e : Ends) → AreLinked os → ends_of c os ≡ Some e → y.key ≡ c → x.next ≡ 0 → y.next + e.last ≡ suc (length os) → AreLinked (with_under e.last (Some y) (os ++ Some x ∷ []))
  push-linked [] e linked h on-y last far = cc
  push-linked (o ∷ os) e linked h on-y last far = elim (lasts c o os e h) [
    | inl s ↦
        let P : ℕ → Type 0 = λ n. AreLinked (with_under n (Some y) (o ∷ (os ++ Some x ∷ []))) in
        let end : e.last ≡ 1 = s.last in
        let next : y.next ≡ suc (length os) = omega arith in
        let ends : distance (ends_of y.key (os ++ Some x ∷ [])) ≡ suc (length os) = ap (λ n. distance (ends_of n (os ++ Some x ∷ []))) on-y ∙ ap distance (push-ends-none c os x s.none test) in
        subst P (sym s.last) (next ∙ sym ends, push-linked-none c os x (linked-tail o os linked) s.none on last)
    | inr s ↦
        let P : ℕ → Type 0 = λ n. AreLinked (with_under n (Some y) (o ∷ (os ++ Some x ∷ []))) in
        let end : e.last ≡ suc s.rest.last = s.last in
        let farther : y.next + s.rest.last ≡ suc (length os) = omega arith in
        let rest : AreLinked (with_under s.rest.last (Some y) (os ++ Some x ∷ [])) = push-linked os s.rest (linked-tail o os linked) s.is on-y last farther in
        subst P (sym s.last) (
        subst AreLinked (sym (with-behind s.rest.last (Some y) o (os ++ Some x ∷ []) (positive c os s.rest s.is).1)) (
        link-behind o os (with_under s.rest.last (Some y) (os ++ Some x ∷ [])) linked rest (λ l is. distance-stays l.key os s.rest s.is on-y)
        )
        )
  ]

-- ---- the keys under the numbers

abbrev pub first_number : Option Ends → Option ℕ
first_number None = None
first_number (Some e) = Some e.first

waits-link : (c : ℕ) (o : Option Link) → waits_on c (option_map link_key o) ≡ is_link_of c o
waits-link c None = refl
waits-link c (Some l) = refl

first-behind : (b : Bool) (r : Option Ends) → (if b then Some 1 else option_map suc (first_number r)) ≡ first_number (ends_behind b r)
first-behind true None = refl
first-behind false None = refl
first-behind true (Some d) = refl
first-behind false (Some d) = refl

pub first-key : (c : ℕ) (os : List (Option Link)) → first_on c (keys_of os) ≡ first_number (ends_of c os)
first-key c [] = refl
first-key c (o ∷ os) = rw (waits-link c o, first-key c os) (first-behind (is_link_of c o) (ends_of c os))

-- the first number that was not taken
pub first-kept : (os : List (Option Link)) → first_kept (keys_of os) ≡ first_kept os
first-kept [] = refl
first-kept (None ∷ os) = ap (option_map suc) (first-kept os)
first-kept (Some l ∷ os) = refl

pub keys-set : (n : ℕ) (k y : Link) (os : List (Option Link)) → under n os ≡ Some k → y.key ≡ k.key → keys_of (with_under n (Some y) os) ≡ keys_of os
keys-set n k y os at same =
    let there : under n (keys_of os) ≡ Some k.key = under-map link_key n os ∙ ap (option_map link_key) at in
    map-with link_key n (Some y) os ∙ ap (λ w. with_under n w (keys_of os)) (ap Some same ∙ sym there) ∙ with-same n (keys_of os)

-- ---- the ends in a table, where one key's change

module _ (old new : ℕ → Option Ends) (c : ℕ) (os ps : List (Option Link)) (e : Option Ends) where
  pub stored : ((d : ℕ) → old d ≡ ends_of d os) → ((d : ℕ) → new d ≡ cond (nat_eq c d) e (old d)) → ends_of c ps ≡ e → ((d : ℕ) → (d == c) ≡ false → ends_of d ps ≡ ends_of d os) → (d : ℕ) → new d ≡ ends_of d ps
  stored keeps updates is stay d = elim (eqb_tells c d) [
    | inl same ↦
        let P : ℕ → Type 0 = λ n. ends_of n ps ≡ e in
        updates d ∙ rw same.0 (sym (subst P same.1 is))
    | inr apart ↦ updates d ∙ rw apart.0 (keeps d ∙ sym (stay d (elim (eqb_tells d c) [
      | inl same ↦ absurd (apart.1 (sym same.1))
      | inr other ↦ other.0
    ])))
  ]

pub ok-then : {T E A : Type 0} (r : Result T E) → IsOk r → OnOk r A → A
ok-then (Ok x) ok h = h
ok-then (Err e) ok h = cc

-- what is told of the last number of a key tells of its ends
pub none-told : (o : Option Ends) → None ≡ option_map last o → o ≡ None
none-told None h = refl
none-told (Some e) h = cc

pub last-told : (o : Option Ends) (n : ℕ) → Some n ≡ option_map last o → (e : Ends) × (o ≡ Some e) × (e.last ≡ n)
last-told None n h = cc
last-told (Some e) n h = (e, refl, cc)

-- ---- the calls of an order

pub same-test : (c : ℕ) → (c == c) ≡ true
same-test c = elim (eqb_tells c c) [
  | inl same ↦ same.0
  | inr other ↦ absurd (other.1 refl)
]

pub last-within : (c : ℕ) (os : List (Option Link)) (e : Ends) → ends_of c os ≡ Some e → e.last ≤ length os
last-within c os e h = let there = last-there c os e h in given e.last there.0 os there.1

pub first-seen : (c : ℕ) (os : List (Option Link)) (now : List (Option ℕ)) (r : Option Ends) → keys_of os ≡ now → ends_of c os ≡ r → first_on c now ≡ first_number r
first-seen c os now r view at = ap (first_on c) (sym view) ∙ first-key c os ∙ ap first_number at

pub never-none : (c : ℕ) (os : List (Option Link)) (e : Ends) → ends_of c os ≡ Some e → under e.first os ≡ None → ⊥
never-none c os e h none = let there = first-there c os e h in let no : None ≡ Some there.0 = sym none ∙ there.1 in cc

module _ (c : ℕ) (os ps : List (Option Link)) (e : Ends) (k : Link) (linked : AreLinked os) (at : ends_of c os ≡ Some e) (there : under e.first os ≡ Some k) (left : ps ≡ with_under e.first None os) where
  pub taken-ends : ends_of c ps ≡ advanced k.next e
  taken-ends = ap (ends_of c) left ∙ take-ends c os e k linked at there

  pub taken : (old new : ℕ → Option Ends) (w : Option Ends) → ((d : ℕ) → old d ≡ ends_of d os) → ((d : ℕ) → new d ≡ cond (nat_eq c d) w (old d)) → advanced k.next e ≡ w → ((d : ℕ) → new d ≡ ends_of d ps) × AreLinked ps
  taken old new w keeps updates is =
      let on : k.key ≡ c = let found = first-there c os e at in let same : Some found.0 ≡ Some k = sym found.1 ∙ there in let link : found.0 ≡ k = cc in ap link_key (sym link) ∙ found.2 in
      let stay : (d : ℕ) → (d == c) ≡ false → ends_of d ps ≡ ends_of d os = λ d other. ap (ends_of d) left ∙ others d e.first None os k there (apart c d k.key other on) refl in
      (stored old new c os ps w keeps updates (taken-ends ∙ is) stay, subst AreLinked (sym left) (take-linked c os e linked at))

  -- the next number of the key was given
  pub taken-fits : (w : Ends) → advanced k.next e ≡ Some w → w.first ≤ length os
  taken-fits w is =
      let there = first-there c ps w (taken-ends ∙ is) in
      let within : w.first ≤ length ps = given w.first there.0 ps there.1 in
      let same : length ps ≡ length os = ap length left ∙ length-with e.first None os in
      omega arith

  pub keys-taken : (now : List (Option ℕ)) → keys_of os ≡ now → keys_of ps ≡ without_number (first_on c now) now
  keys-taken now view = ap keys_of left ∙ map-with link_key e.first None os ∙ rw (first-seen c os now (Some e) view at) (ap (with_under e.first None) view)

pub advanced-more : (n : ℕ) (e : Ends) → (n ≡ 0 → ⊥) → advanced n e ≡ Some (record { first = e.first + n; last = e.last })
advanced-more zero e some = absurd (some refl)
advanced-more (suc d) e some = refl

-- a further number of a key that has some, or has none
module _ (c n : ℕ) (os ps : List (Option Link)) (old new : ℕ → Option Ends) (w : Ends) (keeps : (d : ℕ) → old d ≡ ends_of d os) (linked : AreLinked os) (updates : (d : ℕ) → new d ≡ cond (nat_eq c d) (Some w) (old d)) (given : n ≡ length os + 1) where
  pub joined-none : ends_of c os ≡ None → w ≡ record { first = n; last = n } → ps ≡ os ++ Some (record { key = c; next = 0 }) ∷ [] → ((d : ℕ) → new d ≡ ends_of d ps) × AreLinked ps
  joined-none none is left =
      let x : Link = record { key = c; next = 0 } in
      let on : (c == c) ≡ true = same-test c in
      let number : n ≡ suc (length os) = omega arith in
      let ends : ends_of c ps ≡ Some w = ap (ends_of c) left ∙ push-ends-none c os x none on ∙ ap Some (sym (is ∙ ap (λ (m : ℕ). record { first = m; last = m }) number)) in
      let stay : (d : ℕ) → (d == c) ≡ false → ends_of d ps ≡ ends_of d os = λ d other. ap (ends_of d) left ∙ push-other d os x (apart c d c other refl) in
      (stored old new c os ps (Some w) keeps updates ends stay, subst AreLinked (sym left) (push-linked-none c os x linked none refl refl))

  pub joined-some : (e : Ends) → ends_of c os ≡ Some e → w ≡ record { first = e.first; last = n } → ps ≡ with_under e.last (Some (record { key = c; next = n - e.last })) (os ++ Some (record { key = c; next = 0 }) ∷ []) → ((d : ℕ) → new d ≡ ends_of d ps) × AreLinked ps
  joined-some e at is left =
      let x : Link = record { key = c; next = 0 } in
      let y : Link = record { key = c; next = n - e.last } in
      let on : (c == c) ≡ true = same-test c in
      let number : n ≡ suc (length os) = omega arith in
      let within : e.last ≤ length os = last-within c os e at in
      let far : (n - e.last) + e.last ≡ suc (length os) = omega arith in
      let ends : ends_of c ps ≡ Some w = ap (ends_of c) left ∙ push-ends c x y refl on on os e at ∙ ap Some (sym (is ∙ ap (λ (m : ℕ). record { first = e.first; last = m }) number)) in
      let stay : (d : ℕ) → (d == c) ≡ false → ends_of d ps ≡ ends_of d os = λ d other. ap (ends_of d) left ∙ push-others c x y refl on on d os e at other refl in
      (stored old new c os ps (Some w) keeps updates ends stay, subst AreLinked (sym left) (push-linked c x y refl on on os e linked at refl refl far))

pub keys-joined : (c n : ℕ) (os ps : List (Option Link)) (e : Ends) (now : List (Option ℕ)) → ends_of c os ≡ Some e → ps ≡ with_under e.last (Some (record { key = c; next = n - e.last })) (os ++ Some (record { key = c; next = 0 }) ∷ []) → keys_of os ≡ now → keys_of ps ≡ now ++ Some c ∷ []
keys-joined c n os ps e now at left view =
    let x : Link = record { key = c; next = 0 } in
    let there = last-there c os e at in
    ap keys_of left
    ∙ keys-set e.last there.0 (record { key = c; next = n - e.last }) (os ++ Some x ∷ []) (under-push e.last (Some x) there.0 os there.1) (sym there.2)
    ∙ map_push (option_map link_key) os (Some x)
    ∙ ap (λ cs. cs ++ Some c ∷ []) view

pub last-joined : (c : ℕ) (os ps : List (Option Link)) (e : Ends) (x : Link) → ends_of c os ≡ Some e → ps ≡ os ++ Some x ∷ [] → IsSome (under e.last ps)
last-joined c os ps e x at is =
    let there = last-there c os e at in
    let found : under e.last ps ≡ Some there.0 = ap (under e.last) is ∙ under-push e.last (Some x) there.0 os there.1 in
    let P : Option Link → Type 0 = λ o. IsSome o in
    subst P (sym found) refl
