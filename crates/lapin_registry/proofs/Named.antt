-- What stands under a name after the edits of a list by name.
use Rattle.std.proofs.Common.{◌≡◌, ℕ, true, false, cond, List, [], ◌∷◌, Option, Some, None, option_map, refl, sym, ap, ◌∙◌}
use Rattle.std.specs.Ordering.{is_eq}
use Rattle.std.specs.Prelude.{nat_eq}
use Rattle.std.specs.Cmp.Lexicographic.{pointwise, texts_ties}
use Rattle.std.specs.declared.cmp.Ordering.TheVariants.{Less, Equal, Greater}
use Rattle.std.specs.FinMap.Entries as entries
use Rattle.lapin_registry.specs.ByName.{name_cmp, is_named, named, amended, changed, without, all_above, rises}
use Rattle.lapin_registry.proofs.Names.{is_less, turned, has_name, has_lower, has_higher}
use Rattle.lapin_registry.proofs.Rising.{all_above_lower}
use Rattle.std.proofs.lemmas.Bool.{and_parts, cond-true, cond-false}

-- the one that is there, or a fresh one
abbrev pub or_fresh : {X : Type 0} → X → Option X → X
or_fresh fresh None = fresh
or_fresh fresh (Some x) = x

module _ {X : Type 0} (name_of : X → List ℕ) (n : List ℕ) where
  none_above : (xs : List X) → all_above name_of n xs ≡ true → named name_of n xs ≡ None
  none_above [] h = refl
  none_above (x ∷ xs) h =
      let parts = and_parts _ _ h in
      cond-false (is_named name_of n x) (Some x) (named name_of n xs) (has_higher name_of n x (is_less _ parts.0)) ∙ none_above xs parts.1

  ties : (x : X) → name_cmp n (name_of x) ≡ Equal → is_named name_of n x ≡ true
  ties x e = texts_ties (name_of x) n ∙ ap is_eq (turned (name_of x) n Equal e)

  module _ (fresh : X) (f : X → X) (fits : name_of (f fresh) ≡ n) (keeps : (x : X) → name_of (f x) ≡ name_of x) where
    absent : (x : X) (xs : List X) → name_cmp n (name_of x) ≡ Less → rises name_of (x ∷ xs) ≡ true → named name_of n (x ∷ xs) ≡ None
    absent x xs e h =
        cond-false (is_named name_of n x) (Some x) (named name_of n xs) (has_higher name_of n x e)
        ∙ none_above xs (all_above_lower name_of n (name_of x) xs e (and_parts _ _ h).0)

    -- a fresh one counts as one that was there
    pub named_amended : (xs : List X) → rises name_of xs ≡ true → named name_of n (amended name_of n fresh f xs) ≡ Some (f (or_fresh fresh (named name_of n xs)))
    named_amended [] h = cond-true (is_named name_of n (f fresh)) (Some (f fresh)) None (has_name name_of n (f fresh) fits)
    named_amended (x ∷ xs) h =
        elim (name_cmp n (name_of x)) as (λ o. name_cmp n (name_of x) ≡ o
        → named name_of n (entries.by_order o (f fresh ∷ x ∷ xs) (f x ∷ xs) (x ∷ amended name_of n fresh f xs)) ≡ Some (f (or_fresh fresh (named name_of n (x ∷ xs))))) [
          | Less ↦ λ e. cond-true (is_named name_of n (f fresh)) (Some (f fresh)) (named name_of n (x ∷ xs)) (has_name name_of n (f fresh) fits)
              ∙ ap (λ o. Some (f (or_fresh fresh o))) (sym (absent x xs e h))
          | Equal ↦ λ e. cond-true (is_named name_of n (f x)) (Some (f x)) (named name_of n xs) (ap (λ l. pointwise nat_eq l n) (keeps x) ∙ ties x e)
              ∙ ap (λ o. Some (f (or_fresh fresh o))) (sym (cond-true (is_named name_of n x) (Some x) (named name_of n xs) (ties x e)))
          | Greater ↦ λ e. cond-false (is_named name_of n x) (Some x) (named name_of n (amended name_of n fresh f xs)) (has_lower name_of n x e) ∙ named_amended xs (and_parts _ _ h).1
              ∙ ap (λ o. Some (f (or_fresh fresh o))) (sym (cond-false (is_named name_of n x) (Some x) (named name_of n xs) (has_lower name_of n x e)))
        ] refl

  pub named_changed : (f : X → X) → ((x : X) → name_of (f x) ≡ name_of x) → (xs : List X) → named name_of n (changed name_of n f xs) ≡ option_map f (named name_of n xs)
  named_changed f keeps [] = refl
  named_changed f keeps (x ∷ xs) =
      elim (is_named name_of n x) as (λ b. is_named name_of n x ≡ b → named name_of n (cond b (f x) x ∷ changed name_of n f xs) ≡ option_map f (cond b (Some x) (named name_of n xs))) [
        | true ↦ λ e. cond-true (is_named name_of n (f x)) (Some (f x)) (named name_of n (changed name_of n f xs)) (ap (λ l. pointwise nat_eq l n) (keeps x) ∙ e)
        | false ↦ λ e. cond-false (is_named name_of n x) (Some x) (named name_of n (changed name_of n f xs)) e ∙ named_changed f keeps xs
      ] refl

  pub named_without : (xs : List X) → named name_of n (without name_of n xs) ≡ None
  named_without [] = refl
  named_without (x ∷ xs) =
      elim (is_named name_of n x) as (λ b. is_named name_of n x ≡ b → named name_of n (cond b (without name_of n xs) (x ∷ without name_of n xs)) ≡ None) [
        | true ↦ λ e. named_without xs
        | false ↦ λ e. cond-false (is_named name_of n x) (Some x) (named name_of n (without name_of n xs)) e ∙ named_without xs
      ] refl
