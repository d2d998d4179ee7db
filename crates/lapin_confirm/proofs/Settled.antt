-- What a settlement makes of the cells.
use Rattle.std.proofs.Common.{◌≡◌, ℕ, zero, suc, ◌==◌, Bool, true, false, not, cond, List, [], ◌∷◌, map, Option, Some, None, refl, sym, ◌∙◌, ap, subst, inl, inr, eq-eqb, ne_eqb}
use Rattle.std.proofs.lemmas.List.{length-map}
use Rattle.std.specs.List.{list_any}
use Rattle.std.specs.Option.{option_map}
use Rattle.std.specs.Prelude.{is_some}
use Rattle.std.proofs.lemmas.Bool.Decides.{eqb_tells}
use Rattle.lapin_types.specs.declared.outcome.Outcome.{Outcome}
use Rattle.lapin_tables.specs.Numbered.{under, with_under}
use Rattle.lapin_tables.proofs.SlotLaws.{under-same, under-other, length-with, same-slots, under-map, map-same, map-kept}
use Rattle.lapin_confirm.specs.declared.cell.Cell.{Cell}
use Rattle.lapin_confirm.specs.declared.cell.Cell.TheVariants as cell
use Rattle.lapin_confirm.specs.declared.confirm_mode.ConfirmMode.{ConfirmMode}
use Rattle.lapin_confirm.specs.PublishStates.{is_pending_as, settled_cell}
use Rattle.lapin_confirm.specs.Ties.{Tied, Untouched}
use Rattle.std.proofs.Math.Bool.{or-true}
use Rattle.lapin_confirm.proofs.Whole.{no_pending}

-- two ways to cover do the same to a cell, where they agree on its tag
agrees : (c : ℕ) (p q : ℕ → Bool) (x : Outcome) (y : Cell) → ((t : ℕ) → y ≡ cell.Pending c t → p t ≡ q t) → settled_cell c p x y ≡ settled_cell c q x y
agrees c p q x (cell.Queued d) h = refl
agrees c p q x (cell.Pending d t) h =
    elim (eqb_tells d c) [
      | inl same ↦ let of : p t ≡ q t = h t (ap (λ e. cell.Pending e t) same.1) in rw same.0 (ap (λ b. cond b (cell.Resolved x) (cell.Pending d t)) of)
      | inr other ↦ rw other.0 refl
    ]
agrees c p q x (cell.Resolved o) h = refl

pub settled-same : (c : ℕ) (p q : ℕ → Bool) (x : Outcome) (cells : List (Option Cell)) → ((n t : ℕ) → under n cells ≡ Some (cell.Pending c t) → p t ≡ q t) → map (option_map (settled_cell c p x)) cells ≡ map (option_map (settled_cell c q x)) cells
settled-same c p q x cells h = map-same (settled_cell c p x) (settled_cell c q x) cells (λ k y there. agrees c p q x y (λ t is. h (suc k) t (there ∙ ap Some is)))

-- what covers nothing that is pending changes nothing
leaves_cell : (c : ℕ) (p : ℕ → Bool) (x : Outcome) (y : Cell) → ((t : ℕ) → y ≡ cell.Pending c t → p t ≡ false) → settled_cell c p x y ≡ y
leaves_cell c p x (cell.Queued d) h = refl
leaves_cell c p x (cell.Pending d t) h =
    elim (eqb_tells d c) [
      | inl same ↦ let of : p t ≡ false = h t (ap (λ e. cell.Pending e t) same.1) in rw same.0 (ap (λ b. cond b (cell.Resolved x) (cell.Pending d t)) of)
      | inr other ↦ rw other.0 refl
    ]
leaves_cell c p x (cell.Resolved o) h = refl

kept_option : (c : ℕ) (p : ℕ → Bool) (x : Outcome) (o : Option Cell) → ((t : ℕ) → o ≡ Some (cell.Pending c t) → p t ≡ false) → option_map (settled_cell c p x) o ≡ o
kept_option c p x None h = refl
kept_option c p x (Some y) h = ap Some (leaves_cell c p x y (λ t is. h t (ap Some is)))

pub settled-kept : (c : ℕ) (p : ℕ → Bool) (x : Outcome) (cells : List (Option Cell)) → ((n t : ℕ) → under n cells ≡ Some (cell.Pending c t) → p t ≡ false) → map (option_map (settled_cell c p x)) cells ≡ cells
settled-kept c p x cells h = map-kept (settled_cell c p x) cells (λ k y there. leaves_cell c p x y (λ t is. h (suc k) t (there ∙ ap Some is)))

-- a channel without a confirm mode
pub settled-untouched : (c : ℕ) (p : ℕ → Bool) (x : Outcome) (cells : List (Option Cell)) → Untouched c cells → map (option_map (settled_cell c p x)) cells ≡ cells
settled-untouched c p x cells none = settled-kept c p x cells (λ n t there. absurd (no_pending c n t cells none.pending there))

-- one tag is settled, where it is pending
pub settled-one : (c n u : ℕ) (x : Outcome) (l : ConfirmMode) (cells : List (Option Cell)) → Tied c l cells → under u l.tags.slots ≡ Some n → with_under n (Some (cell.Resolved x)) cells ≡ map (option_map (settled_cell c (λ t. u == t) x)) cells
settled-one c n u x l cells tied named =
    same-slots (with_under n (Some (cell.Resolved x)) cells) (map (option_map f) cells)
    (length-with n (Some (cell.Resolved x)) cells ∙ sym (length-map cells (option_map f)))
    (λ k. place (suc k) ∙ sym (under-map f (suc k) cells))
  where
    f : Cell → Cell
    f = settled_cell c (λ t. u == t) x

    was : under n cells ≡ Some (cell.Pending c u)
    was = tied.waits n u named

    place : (m : ℕ) → under m (with_under n (Some (cell.Resolved x)) cells) ≡ option_map (settled_cell c (λ t. u == t) x) (under m cells)
    place m =
        elim (eqb_tells m n) [
          | inl same ↦
              let P : ℕ → Type 0 = λ j. under j (with_under n (Some (cell.Resolved x)) cells) ≡ option_map (settled_cell c (λ t. u == t) x) (under j cells) in
              subst P (sym same.1) (under-same n (Some (cell.Resolved x)) (cell.Pending c u) cells was ∙ sym (ap (option_map (settled_cell c (λ t. u == t) x)) was ∙ rw (eq-eqb c c refl, eq-eqb u u refl) refl))
          | inr other ↦
              under-other m n (Some (cell.Resolved x)) cells other.1
              ∙ sym (kept_option c (λ t. u == t) x (under m cells) (λ t there. ne_eqb u t (λ same.
              let P : ℕ → Type 0 = λ v. under v l.tags.slots ≡ Some n in
              let both : Some n ≡ Some m = sym (subst P same named) ∙ tied.named m t there in
              other.1 cc)))
        ]

-- and where it is not
pub settled-none : (c u : ℕ) (x : Outcome) (l : ConfirmMode) (cells : List (Option Cell)) → Tied c l cells → under u l.tags.slots ≡ None → map (option_map (settled_cell c (λ t. u == t) x)) cells ≡ cells
settled-none c u x l cells tied none =
    settled-kept c (λ t. u == t) x cells (λ n t there. ne_eqb u t (λ same.
    let P : ℕ → Type 0 = λ v. under v l.tags.slots ≡ None in
    let no : None ≡ Some n = sym (subst P same none) ∙ tied.named n t there in
    cc))

-- a settlement after a smaller one
pub settled-after : (c u : ℕ) (p : ℕ → Bool) (x : Outcome) (cells : List (Option Cell)) → p u ≡ true → map (option_map (settled_cell c p x)) (map (option_map (settled_cell c (λ t. u == t) x)) cells) ≡ map (option_map (settled_cell c p x)) cells
settled-after c u p x [] covers = refl
settled-after c u p x (o ∷ cells) covers =
    ap (λ q. q ∷ map (option_map (settled_cell c p x)) (map (option_map (settled_cell c (λ t. u == t) x)) cells)) (one o)
    ∙ ap (λ qs. option_map (settled_cell c p x) o ∷ qs) (settled-after c u p x cells covers)
  where
    one : (o : Option Cell) → option_map (settled_cell c p x) (option_map (settled_cell c (λ t. u == t) x) o) ≡ option_map (settled_cell c p x) o
    one None = refl
    one (Some (cell.Queued d)) = refl
    one (Some (cell.Pending d t)) =
        elim (eqb_tells d c) [
          | inl here ↦ elim (eqb_tells u t) [
            | inl same ↦
                let P : ℕ → Type 0 = λ v. p v ≡ true in
                let of : p t ≡ true = subst P same.1 covers in
                rw (here.0, same.0, of) refl
            | inr other ↦ rw (here.0, other.0, here.0) refl
          ]
          | inr away ↦ rw (away.0, away.0) refl
        ]
    one (Some (cell.Resolved y)) = refl

-- ---- whether a tag is pending

any-under : {X : Type 0} (p : Option X → Bool) (n : ℕ) (x : X) (xs : List (Option X)) → under n xs ≡ Some x → p (Some x) ≡ true → list_any p xs ≡ true
any-under p zero x xs h passes = cc
any-under p (suc k) x [] h passes = cc
any-under p (suc zero) x (o ∷ xs) h passes = rw (h, passes) refl
any-under p (suc (suc k)) x (o ∷ xs) h passes = rw (any-under p (suc k) x xs h passes) (or-true (p o))

pub none-under : {X : Type 0} (p : Option X → Bool) (xs : List (Option X)) → p None ≡ false → ((k : ℕ) (x : X) → under (suc k) xs ≡ Some x → p (Some x) ≡ false) → list_any p xs ≡ false
none-under p [] taken h = refl
none-under p (None ∷ xs) taken h = rw taken (none-under p xs taken (λ k. h (suc k)))
none-under p (Some x ∷ xs) taken h = rw (h 0 x refl) (none-under p xs taken (λ k. h (suc k)))

other_tag : (c u : ℕ) (y : Cell) → (y ≡ cell.Pending c u → ⊥) → is_pending_as c u (Some y) ≡ false
other_tag c u (cell.Queued d) not = refl
other_tag c u (cell.Pending d t) not =
    elim (eqb_tells d c) [
      | inl here ↦ elim (eqb_tells t u) [
        | inl same ↦ let e = here.1 in let f = same.1 in absurd (not cc)
        | inr other ↦ rw (here.0, other.0) refl
      ]
      | inr away ↦ rw away.0 refl
    ]
other_tag c u (cell.Resolved o) not = refl

pub pending-tells : (c u : ℕ) (l : ConfirmMode) (cells : List (Option Cell)) → Tied c l cells → list_any (is_pending_as c u) cells ≡ is_some (under u l.tags.slots)
pending-tells c u l cells tied = told (under u l.tags.slots) refl
  where
    told : (o : Option ℕ) → under u l.tags.slots ≡ o → list_any (is_pending_as c u) cells ≡ is_some o
    told None none = none-under (is_pending_as c u) cells refl (λ k y there. other_tag c u y (λ is. let no : None ≡ Some (suc k) = sym none ∙ tied.named (suc k) u (there ∙ ap Some is) in cc))
    told (Some n) named = any-under (is_pending_as c u) n (cell.Pending c u) cells (tied.waits n u named) (rw (eq-eqb c c refl, eq-eqb u u refl) refl)

pub pending-untouched : (c u : ℕ) (cells : List (Option Cell)) → Untouched c cells → list_any (is_pending_as c u) cells ≡ false
pending-untouched c u cells none = none-under (is_pending_as c u) cells refl (λ k y there. other_tag c u y (λ is. no_pending c (suc k) u cells none.pending (there ∙ ap Some is)))
