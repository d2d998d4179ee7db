-- Blocks of marks: what is told after a write, and blocks that come and go.
use Rattle.std.proofs.Common.{◌≡◌, ◌≢◌, ℕ, zero, suc, ◌-◌, ◌*◌, ◌/◌, ◌%◌, ◌<◌, ◌==◌, Bool, true, false, cond, List, [], ◌∷◌, ◌++◌, length, Option, Some, None, refl, sym, ◌∙◌, ap, subst, arith, inl, inr, ne_eqb}
use Rattle.std.proofs.lemmas.Bool.Decides.{eqb_tells}
use Rattle.std.proofs.lemmas.List.{get_or_past}
use Rattle.std.proofs.Math.Nat.{div-add-mod}
use Rattle.lapin_tables.specs.declared.block.Block.{Block}
use Rattle.lapin_tables.specs.Numbered.{under, with_under}
use Rattle.lapin_tables.specs.Packed.{mark_in, marked, packed_in, packed_at, IsEmpty, IsSpent}
use Rattle.lapin_tables.proofs.SlotLaws.{under-same, under-other}

-- what was taken out is not there
pub closed-none : {T : Type 0} (n : ℕ) (xs : List (Option T)) → under n (with_under n None xs) ≡ None
closed-none zero xs = refl
closed-none (suc k) [] = refl
closed-none (suc zero) (x ∷ xs) = refl
closed-none (suc (suc k)) (x ∷ xs) = closed-none (suc k) xs

-- a value that is written where it stands
pub rewritten : {T : Type 0} (n : ℕ) (x : T) (xs : List (Option T)) → under n xs ≡ Some x → with_under n (Some x) xs ≡ xs
rewritten zero x xs is = refl
rewritten (suc k) x [] is = refl
rewritten (suc zero) x (y ∷ xs) is = ap (λ o. o ∷ xs) (sym is)
rewritten (suc (suc k)) x (y ∷ xs) is = ap (λ ys. y ∷ ys) (rewritten (suc k) x xs is)

-- the block of a number, and its place there
abbrev pub index_of : ℕ → ℕ
index_of n = suc ((n - 1) / 64)

abbrev pub place_at : ℕ → ℕ
place_at n = (n - 1) % 64

module _ {T : Type 0} (told : ℕ → ℕ → Option T) where
  no-number : (b : Bool) → cond {A = Option T} b None None ≡ None
  no-number true = refl
  no-number false = refl

  -- what stands in a block that is known
  pub there : (n : ℕ) (b : Block) (bs : List (Option Block)) → 0 < n → under (index_of n) bs ≡ Some b → packed_at told bs n ≡ marked told b.alike (mark_in (place_at n) b)
  there n b bs first is =
      ap (λ t. cond t None (packed_in told (place_at n) (under (index_of n) bs))) (ne_eqb n 0 (omega (arith, first)))
      ∙ ap (packed_in told (place_at n)) is

  pub not-there : (n : ℕ) (bs : List (Option Block)) → under (index_of n) bs ≡ None → packed_at told bs n ≡ None
  not-there n bs none = ap (λ o. cond (n == 0) None (packed_in told (place_at n) o)) none ∙ no-number (n == 0)

  -- a number behind all blocks
  pub behind : (n : ℕ) (bs : List (Option Block)) → 64 * length bs < n → packed_at told bs n ≡ None
  behind n bs past = not-there n bs (get_or_past bs ((n - 1) / 64) None (omega (arith, div-add-mod (n - 1) 64, past)))

  module _ (n : ℕ) (b c : Block) (bs : List (Option Block)) (first : 0 < n) (is : under (index_of n) bs ≡ Some b) where
    -- the block of a number is another
    pub put-here : packed_at told (with_under (index_of n) (Some c) bs) n ≡ marked told c.alike (mark_in (place_at n) c)
    put-here = there n c (with_under (index_of n) (Some c) bs) first (under-same (index_of n) (Some c) b bs is)

    in-other : (i p : ℕ) → c.alike ≡ b.alike → ((q : ℕ) → q < 64 → q ≢ place_at n → mark_in q c ≡ mark_in q b) → p < 64 → (suc i ≡ index_of n → p ≢ place_at n) → packed_in told p (under (suc i) (with_under (index_of n) (Some c) bs)) ≡ packed_in told p (under (suc i) bs)
    in-other i p alike others small apart = elim (eqb_tells (index_of n) (suc i)) [
      | inl same ↦
          let P : ℕ → Type 0 = λ k. packed_in told p (under k (with_under (index_of n) (Some c) bs)) ≡ packed_in told p (under k bs) in
          subst P same.1 (
          ap (packed_in told p) (under-same (index_of n) (Some c) b bs is)
          ∙ ap (λ a. marked told a (mark_in p c)) alike
          ∙ ap (marked told b.alike) (others p small (apart (sym same.1)))
          ∙ sym (ap (packed_in told p) is)
          )
      | inr other ↦ ap (packed_in told p) (under-other (suc i) (index_of n) (Some c) bs (λ e. other.1 (sym e)))
    ]

    -- as one place of it changes, every other number's value stays
    pub put-other : c.alike ≡ b.alike → ((q : ℕ) → q < 64 → q ≢ place_at n → mark_in q c ≡ mark_in q b) → (j : ℕ) → j ≢ n → packed_at told (with_under (index_of n) (Some c) bs) j ≡ packed_at told bs j
    put-other alike others j other = elim (eqb_tells j 0) [
      | inl at-zero ↦
          ap (λ t. cond t None (packed_in told (place_at j) (under (index_of j) (with_under (index_of n) (Some c) bs)))) at-zero.0
          ∙ sym (ap (λ t. cond t None (packed_in told (place_at j) (under (index_of j) bs))) at-zero.0)
      | inr some ↦
          let small : (j - 1) % 64 < 64 = omega (arith, div-add-mod (j - 1) 64) in
          ap (λ o. cond (j == 0) None o) (in-other ((j - 1) / 64) (place_at j) alike others small (λ q r. other (same-number some.1 q r)))
    ]
      where
        same-number : j ≢ 0 → suc ((j - 1) / 64) ≡ suc ((n - 1) / 64) → (j - 1) % 64 ≡ (n - 1) % 64 → j ≡ n
        same-number some q r = omega (arith, div-add-mod (j - 1) 64, div-add-mod (n - 1) 64, q, r, first, some)

  -- a mark that is 0 tells nothing
  pub no-mark : (a m : ℕ) → m ≡ 0 → marked told a m ≡ None
  no-mark a m none = ap (marked told a) none

  pub some-mark : (a m : ℕ) → 0 < m → marked told a m ≡ told a m
  some-mark a m some = ap (λ t. cond t None (told a m)) (ne_eqb m 0 (omega (arith, some)))

  -- a value that stands in a block has a mark there
  pub has-mark : (a m : ℕ) (x : T) → marked told a m ≡ Some x → told a m ≡ Some x
  has-mark a m x is = elim (eqb_tells m 0) [
    | inl none ↦ let no : None ≡ Some x = sym (no-mark a m none.1) ∙ is in cc
    | inr some ↦ sym (ap (λ t. cond t None (told a m)) some.0) ∙ is
  ]

  -- a block without a mark comes behind the others
  in-new : (q p : ℕ) (b : Block) (bs : List (Option Block)) → IsEmpty b → packed_in told p (under (suc q) (bs ++ Some b ∷ [])) ≡ packed_in told p (under (suc q) bs)
  in-new zero p b [] none = no-mark b.alike (mark_in p b) (none p)
  in-new (suc q) p b [] none = refl
  in-new zero p b (x ∷ bs) none = refl
  in-new (suc q) p b (x ∷ bs) none = in-new q p b bs none

  pub new-block : (b : Block) (bs : List (Option Block)) → IsEmpty b → (n : ℕ) → packed_at told (bs ++ Some b ∷ []) n ≡ packed_at told bs n
  new-block b bs none n = ap (λ o. cond (n == 0) None o) (in-new ((n - 1) / 64) (place_at n) b bs none)

  -- a block without a mark goes
  gone-block : (i : ℕ) (b : Block) (bs : List (Option Block)) → under i bs ≡ Some b → IsEmpty b → (n : ℕ) → packed_at told (with_under i None bs) n ≡ packed_at told bs n
  gone-block i b bs is none n = ap (λ o. cond (n == 0) None o) (elim (eqb_tells i (index_of n)) [
    | inl same ↦
        let P : ℕ → Type 0 = λ k. packed_in told (place_at n) (under k (with_under i None bs)) ≡ packed_in told (place_at n) (under k bs) in
        subst P same.1 (ap (packed_in told (place_at n)) (closed-none i bs) ∙ sym (ap (packed_in told (place_at n)) is ∙ no-mark b.alike (mark_in (place_at n) b) (none (place_at n))))
    | inr other ↦ ap (packed_in told (place_at n)) (under-other (index_of n) i None bs (λ e. other.1 (sym e)))
  ])

  pub spent-goes : (i : ℕ) (bs : List (Option Block)) → IsSpent (under i bs) → (n : ℕ) → packed_at told (with_under i None bs) n ≡ packed_at told bs n
  spent-goes i bs spent = by-case (under i bs) refl spent
    where
      by-case : (o : Option Block) → under i bs ≡ o → IsSpent o → (n : ℕ) → packed_at told (with_under i None bs) n ≡ packed_at told bs n
      by-case None is none = absurd none
      by-case (Some b) is empty = gone-block i b bs is empty
