-- Values that stand in blocks or in slots of their own: what moves between the two, and what is taken out.
use Rattle.std.proofs.Common.{◌≡◌, ◌≢◌, ℕ, zero, suc, ◌*◌, ◌≤◌, List, [], ◌∷◌, ◌++◌, length, length-append, Option, Some, None, refl, sym, ◌∙◌, ap, subst, arith, inl, inr}
use Rattle.std.proofs.lemmas.Bool.Decides.{eqb_tells}
use Rattle.std.proofs.lemmas.Bool.{cases_lt}
use Rattle.lapin_tables.specs.declared.block.Block.{Block}
use Rattle.lapin_tables.specs.Numbered.{under, with_under}
use Rattle.lapin_tables.specs.Packed.{packed_at, or_slot, shown, IsPacked}
use Rattle.lapin_tables.proofs.SlotLaws.{length-with, under-other, under-same}
use Rattle.lapin_tables.proofs.Blocks.{closed-none, behind}
use Rattle.lapin_tables.proofs.Shown.{under-all, shown-same, shown-with, shown-push}

module _ {T : Type 0} (told : ℕ → ℕ → Option T) where
  -- a value with a slot of its own stands in no block
  pub free : (n : ℕ) (x : T) (bs : List (Option Block)) (xs : List (Option T)) → IsPacked told bs xs → under n xs ≡ Some x → packed_at told bs n ≡ None
  free n x bs xs h is = by-case (packed_at told bs n) refl
    where
      by-case : (p : Option T) → packed_at told bs n ≡ p → packed_at told bs n ≡ None
      by-case None at = at
      by-case (Some y) at = let none : None ≡ Some x = sym (h.apart n y at) ∙ is in cc

  pub under-both : (n : ℕ) (bs : List (Option Block)) (xs : List (Option T)) → IsPacked told bs xs → under n (shown (packed_at told bs) 0 xs) ≡ or_slot (packed_at told bs n) (under n xs)
  under-both n bs xs h = under-all (packed_at told bs) n xs refl (λ m past. behind told m bs (omega (arith, h.covers, past)))

  pub under-slot : (n : ℕ) (x : T) (bs : List (Option Block)) (xs : List (Option T)) → IsPacked told bs xs → under n xs ≡ Some x → under n (shown (packed_at told bs) 0 xs) ≡ Some x
  under-slot n x bs xs h is = under-both n bs xs h ∙ ap (λ p. or_slot p (under n xs)) (free n x bs xs h is) ∙ is

  or-none : (p : Option T) → or_slot p None ≡ p
  or-none None = refl
  or-none (Some x) = refl

  pub under-block : (n : ℕ) (bs : List (Option Block)) (xs : List (Option T)) → IsPacked told bs xs → under n xs ≡ None → under n (shown (packed_at told bs) 0 xs) ≡ packed_at told bs n
  under-block n bs xs h none = under-both n bs xs h ∙ ap (or_slot (packed_at told bs n)) none ∙ or-none (packed_at told bs n)

  -- blocks that tell the same
  pub shown-alike : (bs cs : List (Option Block)) (xs : List (Option T)) → ((n : ℕ) → packed_at told cs n ≡ packed_at told bs n) → shown (packed_at told cs) 0 xs ≡ shown (packed_at told bs) 0 xs
  shown-alike bs cs xs same = shown-same (packed_at told bs) (packed_at told cs) xs xs refl (λ n. ap (λ p. or_slot p (under n xs)) (same n))

  pub packed-alike : (bs cs : List (Option Block)) (xs : List (Option T)) → ((n : ℕ) → packed_at told cs n ≡ packed_at told bs n) → 64 * length cs ≤ length xs → IsPacked told bs xs → IsPacked told cs xs
  packed-alike bs cs xs same covers h = record { apart = λ n x at. h.apart n x (sym (same n) ∙ at); covers = covers }

  -- one more is given
  pub shown-given : (o : Option T) (bs : List (Option Block)) (xs : List (Option T)) → IsPacked told bs xs → shown (packed_at told bs) 0 (xs ++ o ∷ []) ≡ shown (packed_at told bs) 0 xs ++ o ∷ []
  shown-given o bs xs h = shown-push (packed_at told bs) o xs (behind told (suc (length xs)) bs (omega (arith, h.covers)))

  under-old : (n : ℕ) (o : Option T) (xs : List (Option T)) → n ≤ length xs → under n (xs ++ o ∷ []) ≡ under n xs
  under-old zero o xs within = refl
  under-old (suc k) o [] within = absurd (omega (arith, within))
  under-old (suc zero) o (x ∷ xs) within = refl
  under-old (suc (suc k)) o (x ∷ xs) within = under-old (suc k) o xs (omega (arith, within))

  pub packed-given : (o : Option T) (bs : List (Option Block)) (xs : List (Option T)) → IsPacked told bs xs → IsPacked told bs (xs ++ o ∷ [])
  packed-given o bs xs h = record {
    apart = λ n x at. elim (cases_lt (length xs) n) [
      | inl past ↦ let none : None ≡ Some x = sym (behind told n bs (omega (arith, h.covers, past))) ∙ at in cc
      | inr within ↦ under-old n o xs within ∙ h.apart n x at
    ];
    covers = omega (arith, h.covers, length-append xs (o ∷ []));
  }

  -- ---- one number changes in the blocks, and its slot is taken out or stays empty

  module _ (n : ℕ) (bs cs : List (Option Block)) (xs : List (Option T)) (others : (j : ℕ) → j ≢ n → packed_at told cs j ≡ packed_at told bs j) where
    still-none : (j : ℕ) → under j xs ≡ None → under j (with_under n None xs) ≡ None
    still-none j none = elim (eqb_tells n j) [
      | inl same ↦ let U : ℕ → Type 0 = λ i. under i (with_under n None xs) ≡ None in subst U same.1 (closed-none n xs)
      | inr other ↦ under-other j n None xs (λ e. other.1 (sym e)) ∙ none
    ]

    pub packed-moved : length cs ≡ length bs → IsPacked told bs xs → IsPacked told cs (with_under n None xs)
    packed-moved long h = record {
      apart = λ j x at. elim (eqb_tells n j) [
        | inl same ↦ let U : ℕ → Type 0 = λ i. under i (with_under n None xs) ≡ None in subst U same.1 (closed-none n xs)
        | inr other ↦ still-none j (h.apart j x (sym (others j (λ e. other.1 (sym e))) ∙ at))
      ];
      covers = omega (arith, h.covers, long, length-with n None xs);
    }

    pub packed-emptied : length cs ≡ length bs → under n xs ≡ None → IsPacked told bs xs → IsPacked told cs xs
    packed-emptied long none h = record {
      apart = λ j x at. elim (eqb_tells n j) [
        | inl same ↦ let U : ℕ → Type 0 = λ i. under i xs ≡ None in subst U same.1 none
        | inr other ↦ h.apart j x (sym (others j (λ e. other.1 (sym e))) ∙ at)
      ];
      covers = omega (arith, h.covers, long);
    }

    -- what is seen of the number is what the blocks tell now
    pub shown-moved : shown (packed_at told cs) 0 (with_under n None xs) ≡ with_under n (packed_at told cs n) (shown (packed_at told bs) 0 xs)
    shown-moved =
        shown-with (packed_at told bs) (packed_at told cs) n (packed_at told cs n) xs (with_under n None xs) (length-with n None xs)
        (λ _. ap (or_slot (packed_at told cs n)) (closed-none n xs) ∙ or-none (packed_at told cs n))
        (λ m apart. ap (λ p. or_slot p (under m (with_under n None xs))) (others m apart) ∙ ap (or_slot (packed_at told bs m)) (under-other m n None xs apart))

    pub shown-emptied : under n xs ≡ None → shown (packed_at told cs) 0 xs ≡ with_under n (packed_at told cs n) (shown (packed_at told bs) 0 xs)
    shown-emptied none =
        shown-with (packed_at told bs) (packed_at told cs) n (packed_at told cs n) xs xs refl
        (λ _. ap (or_slot (packed_at told cs n)) none ∙ or-none (packed_at told cs n))
        (λ m apart. ap (λ p. or_slot p (under m xs)) (others m apart))

  -- a value goes from its slot into its block
  pub shown-stays : (n : ℕ) (x : T) (bs cs : List (Option Block)) (xs : List (Option T)) → ((j : ℕ) → j ≢ n → packed_at told cs j ≡ packed_at told bs j) → IsPacked told bs xs → under n xs ≡ Some x → packed_at told cs n ≡ Some x → shown (packed_at told cs) 0 (with_under n None xs) ≡ shown (packed_at told bs) 0 xs
  shown-stays n x bs cs xs others h is here = shown-same (packed_at told bs) (packed_at told cs) xs (with_under n None xs) (length-with n None xs) at
    where
      at : (m : ℕ) → or_slot (packed_at told cs m) (under m (with_under n None xs)) ≡ or_slot (packed_at told bs m) (under m xs)
      at m = elim (eqb_tells n m) [
        | inl same ↦
            let P : ℕ → Type 0 = λ i. or_slot (packed_at told cs i) (under i (with_under n None xs)) ≡ or_slot (packed_at told bs i) (under i xs) in
            subst P same.1 (ap (λ p. or_slot p (under n (with_under n None xs))) here ∙ sym (ap (λ p. or_slot p (under n xs)) (free n x bs xs h is) ∙ is))
        | inr other ↦
            let apart : m ≢ n = λ e. other.1 (sym e) in
            ap (λ p. or_slot p (under m (with_under n None xs))) (others m apart) ∙ ap (or_slot (packed_at told bs m)) (under-other m n None xs apart)
      ]

  -- another value in the place of one that has a slot
  pub shown-set : (n : ℕ) (x y : T) (bs : List (Option Block)) (xs : List (Option T)) → IsPacked told bs xs → under n xs ≡ Some x → shown (packed_at told bs) 0 (with_under n (Some y) xs) ≡ with_under n (Some y) (shown (packed_at told bs) 0 xs)
  shown-set n x y bs xs h is =
      shown-with (packed_at told bs) (packed_at told bs) n (Some y) xs (with_under n (Some y) xs) (length-with n (Some y) xs)
      (λ _. ap (λ p. or_slot p (under n (with_under n (Some y) xs))) (free n x bs xs h is) ∙ under-same n (Some y) x xs is)
      (λ m apart. ap (or_slot (packed_at told bs m)) (under-other m n (Some y) xs apart))

  pub packed-set : (n : ℕ) (x y : T) (bs : List (Option Block)) (xs : List (Option T)) → IsPacked told bs xs → under n xs ≡ Some x → IsPacked told bs (with_under n (Some y) xs)
  packed-set n x y bs xs h is = record {
    apart = λ j z at. elim (eqb_tells n j) [
      | inl same ↦
          let P : ℕ → Type 0 = λ i. packed_at told bs i ≡ Some z in
          let none : None ≡ Some z = sym (free n x bs xs h is) ∙ subst P (sym same.1) at in
          cc
      | inr other ↦ under-other j n (Some y) xs (λ e. other.1 (sym e)) ∙ h.apart j z at
    ];
    covers = omega (arith, h.covers, length-with n (Some y) xs);
  }
