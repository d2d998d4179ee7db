-- How names stand to one another where they rise, and what a search among them finds.
use Rattle.std.proofs.Common.{◌≡◌, ℕ, zero, suc, ◌<◌, true, false, List, [], ◌∷◌, length, get_or, Result, Ok, Err, IfOk, IfErr, refl, sym, ap, subst, ◌∙◌, arith, add-one}
use Rattle.std.specs.Prelude.{IsTrue}
use Rattle.std.specs.Cmp.Lexicographic.{nat_list_cmp_total, nat_list_eq_equiv, texts_ties}
use Rattle.std.specs.List.Sorted.{IsSearchInRange, IsBinarySearchResult, IsNonDecreasingBy}
use Rattle.std.specs.Ordering.{is_lt, is_eq, ordering_reverse, ordering_index}
use Rattle.std.specs.declared.cmp.Ordering.{Ordering}
use Rattle.std.specs.declared.cmp.Ordering.TheVariants.{Less, Equal, Greater}
use Rattle.std.proofs.lemmas.List.Sorted.{searchable_from_sorted}
use Rattle.std.proofs.lemmas.Map.Lookups.{exact_bytes}
use Rattle.lapin_registry.specs.ByName.{name_cmp, is_named, all_above, rises, IsAt, IsGapFor}
use Rattle.std.proofs.lemmas.Bool.{and_parts}

pub is_less : (o : Ordering) → is_lt o ≡ true → o ≡ Less
is_less Less e = refl
is_less Equal e = cc
is_less Greater e = cc

pub is_equal : (o : Ordering) → is_eq o ≡ true → o ≡ Equal
is_equal Less e = cc
is_equal Equal e = refl
is_equal Greater e = cc

-- the order seen from the other side
pub turned : (k l : List ℕ) (o : Ordering) → name_cmp l k ≡ o → name_cmp k l ≡ ordering_reverse o
turned k l o e = nat_list_cmp_total.antisymm k l ∙ ap ordering_reverse e

-- names with the same bytes tie
pub tied : (k l : List ℕ) → k ≡ l → name_cmp k l ≡ Equal
tied k l e = subst (λ m. name_cmp k m ≡ Equal) e (ties_itself k)
  where
    ties_itself : (k : List ℕ) → name_cmp k k ≡ Equal
    ties_itself k = is_equal _ (sym (texts_ties k k) ∙ nat_list_eq_equiv.refl k)

module _ {X : Type 0} (name_of : X → List ℕ) where
  -- one that is above is above
  pub above_at : (n : List ℕ) (xs : List X) (i : ℕ) (d : X) → all_above name_of n xs ≡ true → i < length xs → name_cmp n (name_of (get_or xs i d)) ≡ Less
  above_at n [] i d h p = absurd (omega arith)
  above_at n (x ∷ xs) zero d h p = is_less _ (and_parts _ _ h).0
  above_at n (x ∷ xs) (suc i) d h p = above_at n xs i d (and_parts _ _ h).1 (omega arith)

  -- one that has the name or not
  pub has_name : (n : List ℕ) (x : X) → name_of x ≡ n → is_named name_of n x ≡ true
  has_name n x e = texts_ties (name_of x) n ∙ ap is_eq (tied (name_of x) n e)

  pub has_lower : (n : List ℕ) (x : X) → name_cmp n (name_of x) ≡ Greater → is_named name_of n x ≡ false
  has_lower n x e = texts_ties (name_of x) n ∙ ap is_eq (turned (name_of x) n Greater e)

  pub has_higher : (n : List ℕ) (x : X) → name_cmp n (name_of x) ≡ Less → is_named name_of n x ≡ false
  has_higher n x e = texts_ties (name_of x) n ∙ ap is_eq (turned (name_of x) n Less e)

  neighbours : (xs : List X) → rises name_of xs ≡ true → (k : ℕ) (d : X) → suc k < length xs → is_lt (name_cmp (name_of (get_or xs (suc k) d)) (name_of (get_or xs k d))) ≡ false
  neighbours [] h k d p = absurd (omega arith)
  neighbours (x ∷ []) h k d p = absurd (omega arith)
  neighbours (x ∷ y ∷ xs) h zero d p =
      ap is_lt (turned (name_of y) (name_of x) Less (is_less _ (and_parts _ _ (and_parts _ _ h).0).0))
  neighbours (x ∷ y ∷ xs) h (suc k) d p = neighbours (y ∷ xs) (and_parts _ _ h).1 k d (omega arith)

  module _ (n : List ℕ) (xs : List X) (rising : IsTrue (rises name_of xs)) where
    comparisons_rise : IsNonDecreasingBy (λ x. ordering_index (name_cmp (name_of x) n)) xs
    comparisons_rise = searchable_from_sorted nat_list_cmp_total name_of xs n (λ k d low high. rw add-one (neighbours xs rising k d (omega arith)))

    -- a search by name ends at the name, or at the gap for it
    pub searched : (r : Result ℕ ℕ) → IsSearchInRange r (length xs) → IsBinarySearchResult (λ x. name_cmp (name_of x) n) xs r
        → record { found : IfOk r (λ i. IsAt name_of n xs i); absent : IfErr r (λ i. IsGapFor name_of n xs i) }
    searched (Ok i) within equal = record { found = record { in_range = within; has_name = λ d. exact_bytes _ _ (equal d) }; absent = tt }
    searched (Err i) within parted = record {
      found = tt;
      absent = record {
        in_range = within;
        lower_before = λ k d lt. (parted comparisons_rise).0 k d (omega arith) lt;
        higher_after = λ k d le lt. (parted comparisons_rise).1 k d le lt;
      };
    }
