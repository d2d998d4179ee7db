-- The least pending tag is the first one that is kept.
use Rattle.std.proofs.Common.{◌≡◌, ℕ, zero, suc, ◌<◌, ◌≤◌, nat_le, true, false, cond, List, [], ◌∷◌, length, Option, Some, None, refl, sym, ◌∙◌, ap, arith, inl, inr, eq-eqb}
use Rattle.std.specs.Prelude.{is_some}
use Rattle.std.proofs.lemmas.Bool.{leb-true, leb-false}
use Rattle.std.proofs.lemmas.Bool.Decides.{eqb_tells}
use Rattle.lapin_tables.specs.Numbered.{under, first_kept}
use Rattle.lapin_tables.proofs.SlotLaws.{given, first-there, first-least, first-none}
use Rattle.lapin_confirm.specs.declared.cell.Cell.{Cell}
use Rattle.lapin_confirm.specs.declared.cell.Cell.TheVariants as cell
use Rattle.lapin_confirm.specs.declared.confirm_mode.ConfirmMode.{ConfirmMode}
use Rattle.lapin_confirm.specs.PublishStates.{tag_on, least_of, least_in}
use Rattle.lapin_confirm.specs.Ties.{Tied, Untouched}
use Rattle.lapin_confirm.proofs.Whole.{no_pending}

tag-is : (c t : ℕ) (o : Option Cell) → tag_on c o ≡ Some t → o ≡ Some (cell.Pending c t)
tag-is c t (Some (cell.Pending d u)) h =
    elim (eqb_tells d c) [
      | inl same ↦ let tag : u ≡ t = cc in let channel : d ≡ c = same.1 in cc
      | inr away ↦ let no : None ≡ Some t = rw away.0 at h in cc
    ]
tag-is c t _ h = cc

abbrev PendingSomewhere : ℕ → ℕ → List (Option Cell) → Type 0
PendingSomewhere c t cells = (n : ℕ) × (under n cells ≡ Some (cell.Pending c t))

later : (c t : ℕ) (o : Option Cell) (cells : List (Option Cell)) → PendingSomewhere c t cells → PendingSomewhere c t (o ∷ cells)
later c t o cells (zero, h) = cc
later c t o cells (suc j, h) = (suc (suc j), h)

least-there : (c t : ℕ) (cells : List (Option Cell)) → least_in c cells ≡ Some t → PendingSomewhere c t cells
least-there c t [] h = cc
least-there c t (o ∷ cells) h =
    elim (tag_on c o) as (λ a. tag_on c o ≡ a → least_of a (least_in c cells) ≡ Some t → PendingSomewhere c t (o ∷ cells)) [
      | None ↦ λ is h. later c t o cells (least-there c t cells h)
      | Some u ↦ λ is h. elim (least_in c cells) as (λ b. least_in c cells ≡ b → least_of (Some u) b ≡ Some t → PendingSomewhere c t (o ∷ cells)) [
        | None ↦ λ none h. (1, tag-is c t o (is ∙ h))
        | Some v ↦ λ some h. elim (nat_le u v) as (λ x. cond x (Some u) (Some v) ≡ Some t → PendingSomewhere c t (o ∷ cells)) [
          | true ↦ λ h. (1, tag-is c t o (is ∙ h))
          | false ↦ λ h. later c t o cells (least-there c t cells (some ∙ h))
        ] h
      ] refl h
    ] refl h

abbrev Below : ℕ → Option ℕ → Type 0
Below t o = (u : ℕ) × (o ≡ Some u) × (u ≤ t)

not_less : (t u : ℕ) → nat_le t u ≡ false → u ≤ t
not_less t u h = let less : u < t = leb-false t u h in omega arith

first_below : (t : ℕ) (o : Option ℕ) → Below t (least_of (Some t) o)
first_below t None = (t, refl, omega arith)
first_below t (Some v) =
    elim (nat_le t v) as (λ x. nat_le t v ≡ x → Below t (cond x (Some t) (Some v))) [
      | true ↦ λ h. (t, refl, omega arith)
      | false ↦ λ h. (v, refl, not_less t v h)
    ] refl

next_below : (t u : ℕ) (a o : Option ℕ) → o ≡ Some u → u ≤ t → Below t (least_of a o)
next_below t u None o is le = (u, is, le)
next_below t u (Some w) None is le = cc
next_below t u (Some w) (Some v) is le =
    let same : v ≡ u = cc in
    elim (nat_le w v) as (λ x. nat_le w v ≡ x → Below t (cond x (Some w) (Some v))) [
      | true ↦ λ h. let less : w ≤ v = leb-true w v h in (w, refl, omega arith)
      | false ↦ λ h. (v, refl, omega arith)
    ] refl

least-below : (c n t : ℕ) (cells : List (Option Cell)) → under n cells ≡ Some (cell.Pending c t) → Below t (least_in c cells)
least-below c zero t cells h = cc
least-below c (suc k) t [] h = cc
least-below c (suc zero) t (o ∷ cells) h =
    let tag : tag_on c o ≡ Some t = ap (tag_on c) h ∙ rw (eq-eqb c c refl) refl in
    rw tag (first_below t (least_in c cells))
least-below c (suc (suc k)) t (o ∷ cells) h =
    let rest = least-below c (suc k) t cells h in
    next_below t rest.0 (tag_on c o) (least_in c cells) rest.1 rest.2

pub least-is : (c : ℕ) (cells : List (Option Cell)) (o : Option ℕ) → ((t : ℕ) → o ≡ Some t → PendingSomewhere c t cells) → ((n t : ℕ) → under n cells ≡ Some (cell.Pending c t) → Below t o) → least_in c cells ≡ o
least-is c cells o there below =
    elim (least_in c cells) as (λ a. least_in c cells ≡ a → a ≡ o) [
      | None ↦ λ none. elim o as (λ p. o ≡ p → None ≡ p) [
        | None ↦ λ _. refl
        | Some t ↦ λ is.
            let has = there t is in
            let less = least-below c has.0 t cells has.1 in
            let no : None ≡ Some less.0 = sym none ∙ less.1 in
            cc
      ] refl
      | Some t ↦ λ some.
          let has = least-there c t cells some in
          let less = below has.0 t has.1 in
          let back = there less.0 less.1 in
          let least = least-below c back.0 less.0 cells back.1 in
          let one : Some t ≡ Some least.0 = sym some ∙ least.1 in
          let same : t ≡ least.0 = cc in
          let under_t : less.0 ≤ t = less.2 in
          let over_t : least.0 ≤ less.0 = least.2 in
          let equal : t ≡ less.0 = omega arith in
          ap Some equal ∙ sym less.1
    ] refl

pub least-tied : (c : ℕ) (l : ConfirmMode) (cells : List (Option Cell)) → Tied c l cells → first_kept l.tags.slots ≡ least_in c cells
least-tied c l cells tied =
    sym (least-is c cells (first_kept l.tags.slots)
    (λ t is. there t (under t l.tags.slots) refl (first-there t l.tags.slots is))
    (λ n t pending. low n t (tied.named n t pending) (first_kept l.tags.slots) refl))
  where
    there : (t : ℕ) (o : Option ℕ) → under t l.tags.slots ≡ o → is_some (under t l.tags.slots) ≡ true → PendingSomewhere c t cells
    there t None none has = let no : false ≡ true = rw none at has in cc
    there t (Some n) is has = (n, tied.waits n t is)

    low : (n t : ℕ) → under t l.tags.slots ≡ Some n → (o : Option ℕ) → first_kept l.tags.slots ≡ o → Below t o
    low n t there None none = absurd (first-none t n l.tags.slots none there)
    low n t there (Some u) is = (u, refl, first-least t u n l.tags.slots is there)

pub least-untouched : (c : ℕ) (cells : List (Option Cell)) → Untouched c cells → least_in c cells ≡ None
least-untouched c cells none = least-is c cells None (λ t is. cc) (λ n t there. absurd (no_pending c n t cells none.pending there))

-- the first that is kept is one of those that were given
pub first_given : (n : ℕ) (xs : List (Option ℕ)) → first_kept xs ≡ Some n → (1 ≤ n) × (n ≤ length xs)
first_given zero xs h = let no : is_some {T = ℕ} None ≡ true = first-there 0 xs h in cc
first_given (suc k) xs h = (omega arith, within (under (suc k) xs) refl (first-there (suc k) xs h))
  where
    within : (o : Option ℕ) → under (suc k) xs ≡ o → is_some (under (suc k) xs) ≡ true → suc k ≤ length xs
    within None none has = let no : false ≡ true = rw none at has in cc
    within (Some x) is has = given (suc k) x xs is
