-- What the free broker may settle the pair's broker may settle; both count on alike as it settles and as a publish comes whole.
use Rattle.std.proofs.Common.{◌≡◌, ℕ, zero, suc, ◌+◌, ◌<◌, ◌≤◌, Bool, true, false, cond, nat_lt, nat_le, List, [], ◌∷◌, ◌++◌, length, length-append, refl, sym, ◌∙◌, ap, subst, Option, Some, None, inl, inr, ne_eqb, arith}
use Rattle.std.specs.Option.{is_some}
use Rattle.std.specs.List.{list_any}
use Rattle.std.proofs.lemmas.Bool.Decides.{eqb_tells, nat_tests}
use Rattle.std.proofs.lemmas.List.Folds.{list_any-append}
use Rattle.lapin_tables.specs.Numbered.{under, with_under}
use Rattle.lapin_tables.proofs.SlotLaws.{given, under-same, under-other, under-pushed, length-with}
use Rattle.lapin_broker.specs.Numbers.{settled_through, may_settle, after_settlement}
use Rattle.lapin_broker.specs.States.{Channel}
use Rattle.lapin_broker.specs.Reads.{with_next_number}
use Rattle.lapin_pairs.specs.Channel.{Settle, BSettle, Idle}
use Rattle.lapin_pairs.specs.Tags.{covers, TagCount, counted, logged}
use Rattle.lapin_pairs.specs.Tags as tags
use Rattle.lapin_concord.specs.Numbering.{IsCount}

-- ---- slots

something : (o : Option (Unit {0})) → is_some o ≡ true → (u : Unit {0}) × (o ≡ Some u)
something None h = cc
something (Some u) h = (u, refl)

through_length : (n : ℕ) (xs : List (Option (Unit {0}))) → length (settled_through n xs) ≡ length xs
through_length zero xs = refl
through_length (suc n) [] = refl
through_length (suc n) (x ∷ xs) = ap suc (through_length n xs)

-- what is left lies above
through_left : (n i : ℕ) (u : Unit {0}) (xs : List (Option (Unit {0}))) → under i (settled_through n xs) ≡ Some u → (n < i) × (under i xs ≡ Some u)
through_left n zero u xs h = absurd (none h)
  where
    none : None ≡ Some u → ⊥
    none h = cc
through_left zero (suc i) u xs h = (omega arith, h)
through_left (suc n) (suc i) u [] h = absurd (none h)
  where
    none : None ≡ Some u → ⊥
    none h = cc
through_left (suc n) (suc zero) u (x ∷ xs) h = absurd (none h)
  where
    none : None ≡ Some u → ⊥
    none h = cc
through_left (suc n) (suc (suc i)) u (x ∷ xs) h = let k = through_left n (suc i) u xs h in let lt : n < suc i = k.0 in (omega (arith, lt), k.1)

above_zero : (n : ℕ) (u : Unit {0}) (xs : List (Option (Unit {0}))) → under n xs ≡ Some u → 0 < n
above_zero zero u xs h = absurd (none h)
  where
    none : None ≡ Some u → ⊥
    none h = cc
above_zero (suc n) u xs h = omega arith

-- ---- settlements

-- what a settlement leaves is what it doesn't cover
settled_left : (n i : ℕ) (multiple : Bool) (u : Unit {0}) (xs : List (Option (Unit {0}))) → may_settle n multiple xs ≡ true → under i (after_settlement n multiple xs) ≡ Some u → (under i xs ≡ Some u) × (covers i (record { tag = n; multiple = multiple }) ≡ false)
settled_left n i true u xs m h = let k = through_left n i u xs h in let lt : n < i = k.0 in (k.1, grind (arith, nat_tests))
settled_left n i false u xs m h = elim (eqb_tells i n) [
  | inl y ↦
      let s = something (under n xs) m in
      let gone : under n (with_under n None xs) ≡ None = under-same n None s.0 xs s.1 in
      let here : under n (with_under n None xs) ≡ Some u = ap (λ k. under k (with_under n None xs)) (sym y.1) ∙ h in
      let k : None ≡ Some u = sym gone ∙ here in
      absurd cc
  | inr y ↦ (sym (under-other i n None xs y.1) ∙ h, y.0)
]

settled_length : (n : ℕ) (multiple : Bool) (xs : List (Option (Unit {0}))) → length (after_settlement n multiple xs) ≡ length xs
settled_length n true xs = through_length n xs
settled_length n false xs = length-with n None xs

-- it covers no number that wasn't taken
settled_low : (n i : ℕ) (multiple : Bool) (xs : List (Option (Unit {0}))) → may_settle n multiple xs ≡ true → length xs < i → covers i (record { tag = n; multiple = multiple }) ≡ false
settled_low n i true xs m lt = grind (arith, nat_tests)
settled_low n i false xs m lt =
    let s = something (under n xs) m in
    let le : n ≤ length xs = given n s.0 xs s.1 in
    ne_eqb i n (λ e. absurd (omega (arith, lt, le, e)))

any-last : (p : Settle → Bool) (xs : List Settle) (y : Settle) → list_any p xs ≡ false → p y ≡ false → list_any p (xs ++ y ∷ []) ≡ false
any-last p xs y h k = list_any-append p xs (y ∷ []) ∙ rw (h, k) refl

-- the tag of a settlement that may be sent is above 0
pub above : (n : ℕ) (multiple : Bool) (xs : List (Option (Unit {0}))) → may_settle n multiple xs ≡ true → 0 < n
above n true xs m = grind (arith, nat_tests)
above n false xs m = let s = something (under n xs) m in above_zero n s.0 xs s.1

pub settles_as : (n : ℕ) (multiple : Bool) (x : Channel) (k : TagCount) → may_settle n multiple x.numbers ≡ true → IsCount x k → tags.may_settle k (BSettle (record { tag = n; multiple = multiple })) ≡ true
settles_as n true x k m h =
    let chosen : k.chosen ≡ true = h.chosen ∙ selected x.selected refl in
    let low : nat_lt 0 n ≡ true = grind (arith, nat_tests) in
    let count : length k.numbered ≡ length x.numbers = h.count in
    let high : nat_le n (length k.numbered) ≡ true = grind (arith, nat_tests) in
    rw (chosen, low, high) refl
  where
    selected : (b : Bool) → x.selected ≡ b → x.selected ≡ true
    selected true e = e
    selected false e =
        let none : length x.numbers ≡ 0 = ap length (h.none e) in
        let j : true ≡ false = grind (arith, nat_tests) in
        absurd cc
settles_as n false x k m h =
    let s = something (under n x.numbers) m in
    let chosen : k.chosen ≡ true = h.chosen ∙ selected s.0 s.1 x.selected refl in
    let above : 0 < n = above_zero n s.0 x.numbers s.1 in
    let within : n ≤ length x.numbers = given n s.0 x.numbers s.1 in
    let count : length k.numbered ≡ length x.numbers = h.count in
    let low : nat_lt 0 n ≡ true = grind (arith, nat_tests) in
    let high : nat_le n (length k.numbered) ≡ true = grind (arith, nat_tests) in
    let free : list_any (covers n) k.log ≡ false = h.open_ n s.0 s.1 in
    rw (chosen, low, high, free) refl
  where
    selected : (u : Unit {0}) → under n x.numbers ≡ Some u → (b : Bool) → x.selected ≡ b → x.selected ≡ true
    selected u e true c = c
    selected u e false c = let j : n ≤ 0 = given n u [] (ap (under n) (sym (h.none c)) ∙ e) in let k : 0 < n = above_zero n u x.numbers e in absurd (omega (arith, j, k))

pub settled_counts : (n : ℕ) (multiple : Bool) (x : Channel) (k : TagCount) → may_settle n multiple x.numbers ≡ true → IsCount x k → IsCount (record x { numbers = after_settlement n multiple x.numbers }) (logged k (BSettle (record { tag = n; multiple = multiple })))
settled_counts n multiple x k m h = record {
  chosen = h.chosen;
  count = h.count ∙ sym (settled_length n multiple x.numbers);
  open_ = λ i u e. let s = settled_left n i multiple u x.numbers m e in any-last (covers i) k.log (record { tag = n; multiple = multiple }) (h.open_ i u s.0) s.1;
  low = λ i lt. any-last (covers i) k.log (record { tag = n; multiple = multiple }) (h.low i lt) (settled_low n i multiple x.numbers m (subst (λ l. l < i) h.count lt));
  none = λ e. empty (h.none e);
}
  where
    gone : (multiple : Bool) → ◌≡◌ {A = List (Option (Unit {0}))} (after_settlement n multiple []) []
    gone true = through n
      where
        through : (n : ℕ) → ◌≡◌ {A = List (Option (Unit {0}))} (settled_through n []) []
        through zero = refl
        through (suc n) = refl
    gone false = single n
      where
        single : (n : ℕ) → ◌≡◌ {A = List (Option (Unit {0}))} (with_under n None []) []
        single zero = refl
        single (suc n) = refl

    empty : x.numbers ≡ [] → after_settlement n multiple x.numbers ≡ []
    empty e = ap (after_settlement n multiple) e ∙ gone multiple

-- ---- a publish comes whole

pub numbered_counts : (x : Channel) (k : TagCount) → IsCount x k → IsCount (with_next_number x) (counted k (Some Idle))
numbered_counts x k h = by_select x.selected refl
  where
    by_select : (b : Bool) → x.selected ≡ b → IsCount (with_next_number x) (counted k (Some Idle))
    by_select false e =
        let c : k.chosen ≡ false = h.chosen ∙ e in
        subst (λ y. IsCount y (counted k (Some Idle))) (sym (ap (λ b. cond b (record x { numbers = x.numbers ++ Some tt ∷ [] }) x) e))
        (subst (IsCount x) (sym (ap (λ b. record k { numbered = cond b (k.numbered ++ k.current ∷ []) k.numbered }) c)) (record { chosen = h.chosen; count = h.count; open_ = h.open_; low = h.low; none = h.none }))
    by_select true e =
        let c : k.chosen ≡ true = h.chosen ∙ e in
        let more : length (k.numbered ++ k.current ∷ []) ≡ length k.numbered + 1 = length-append k.numbered (k.current ∷ []) in
        let more_too : length (x.numbers ++ Some tt ∷ []) ≡ length x.numbers + 1 = length-append x.numbers (Some tt ∷ []) in
        subst (λ y. IsCount y (counted k (Some Idle))) (sym (ap (λ b. cond b (record x { numbers = x.numbers ++ Some tt ∷ [] }) x) e))
        (subst (IsCount (record x { numbers = x.numbers ++ Some tt ∷ [] })) (sym (ap (λ b. record k { numbered = cond b (k.numbered ++ k.current ∷ []) k.numbered }) c)) (record {
          chosen = h.chosen;
          count = more ∙ (ap (λ n. n + 1) h.count ∙ sym more_too);
          open_ = λ i u y. elim (under-pushed i (Some tt) u x.numbers y) [
            | inl z ↦ h.open_ i u z
            | inr z ↦ h.low i (let is : i ≡ length x.numbers + 1 = z.0 in let count : length k.numbered ≡ length x.numbers = h.count in omega (arith, is, count))
          ];
          low = λ i lt. h.low i (let l : length (k.numbered ++ k.current ∷ []) < i = lt in omega (arith, l, more));
          none = λ f. let j : true ≡ false = sym e ∙ f in cc;
        }))
