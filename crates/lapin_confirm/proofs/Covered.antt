-- Which publishes a settlement covers: those under its tags are the cells that are pending with them.
use Rattle.std.proofs.Common.{◌≡◌, ◌≢◌, ℕ, zero, suc, ◌+◌, ◌-◌, ◌<◌, ◌≤◌, ◌==◌, nat_le, nat_lt, length, ne_eqb, Bool, true, false, cond, List, [], ◌∷◌, Option, Some, None, refl, sym, ◌∙◌, ap, arith, eq-eqb, inl, inr}
use Rattle.std.proofs.lemmas.Bool.Decides.{eqb_tells}
use Rattle.std.specs.List.{range_with_len}
use Rattle.std.proofs.lemmas.Bool.{leb-true, leb-false, le-leb, lt-leb, ltb-true, ltb-false}
use Rattle.lapin_tables.proofs.SlotLaws.{given}
use Rattle.lapin_rules.specs.declared.marks.SettleKind.{SettleKind}
use Rattle.lapin_rules.specs.ConfirmReadings.{covers}
use Rattle.lapin_rules.specs.ReturnReadings.{joined, taking}
use Rattle.lapin_tables.specs.Numbered.{under}
use Rattle.lapin_confirm.specs.declared.cell.Cell.{Cell}
use Rattle.lapin_confirm.specs.declared.cell.Cell.TheVariants as cell
use Rattle.lapin_confirm.specs.declared.confirm_mode.ConfirmMode.{ConfirmMode}
use Rattle.lapin_confirm.specs.PublishStates.{is_pending_as, single_of, multiple_of}
use Rattle.lapin_confirm.specs.ConfirmState.{number_from}
use Rattle.lapin_confirm.specs.ReturnedMessages.{pending_through}
use Rattle.lapin_confirm.specs.Ties.{Tied}

is-pending : (c t : ℕ) (o : Option Cell) → is_pending_as c t o ≡ true → o ≡ Some (cell.Pending c t)
is-pending c t (Some (cell.Pending d u)) h =
    elim (eqb_tells d c) [
      | inl same ↦ elim (eqb_tells u t) [
        | inl tag ↦ let e = same.1 in let f = tag.1 in cc
        | inr other ↦ let no : false ≡ true = rw (same.0, other.0) at h in cc
      ]
      | inr away ↦ let no : false ≡ true = rw away.0 at h in cc
    ]
is-pending c t _ h = cc

abbrev Found : ℕ → ℕ → ℕ → ℕ → List (Option Cell) → Type 0
Found c t n m cells = (k : ℕ) × (m ≡ n + k) × (under (suc k) cells ≡ Some (cell.Pending c t))

number-found : (c t n m : ℕ) (cells : List (Option Cell)) → number_from c t n cells ≡ Some m → Found c t n m cells
number-found c t n m [] h = cc
number-found c t n m (o ∷ cells) h =
    elim (is_pending_as c t o) as (λ b. is_pending_as c t o ≡ b → cond b (Some n) (number_from c t (suc n) cells) ≡ Some m → Found c t n m (o ∷ cells)) [
      | true ↦ λ is h. let same : n ≡ m = cc in (0, omega arith, is-pending c t o is)
      | false ↦ λ is h. let rest = number-found c t (suc n) m cells h in let far : m ≡ suc n + rest.0 = rest.1 in (suc rest.0, omega arith, rest.2)
    ] refl h

number-none : (c t n k : ℕ) (cells : List (Option Cell)) → number_from c t n cells ≡ None → under (suc k) cells ≡ Some (cell.Pending c t) → ⊥
number-none c t n k [] none there = cc
number-none c t n zero (o ∷ cells) none there =
    let yes : is_pending_as c t o ≡ true = ap (is_pending_as c t) there ∙ rw (eq-eqb c c refl, eq-eqb t t refl) refl in
    let no : Some n ≡ None = rw yes at none in
    cc
number-none c t n (suc k) (o ∷ cells) none there =
    elim (is_pending_as c t o) as (λ b. cond b (Some n) (number_from c t (suc n) cells) ≡ None → ⊥) [
      | true ↦ λ h. cc
      | false ↦ λ h. number-none c t (suc n) k cells h there
    ] none

-- the publish that is pending with a tag
pub tag-number : (c t : ℕ) (l : ConfirmMode) (cells : List (Option Cell)) → Tied c l cells → under t l.tags.slots ≡ number_from c t 1 cells
tag-number c t l cells tied = told (number_from c t 1 cells) refl (under t l.tags.slots) refl
  where
    told : (o : Option ℕ) → number_from c t 1 cells ≡ o → (p : Option ℕ) → under t l.tags.slots ≡ p → under t l.tags.slots ≡ number_from c t 1 cells
    told (Some m) is p at_tag =
        let found = number-found c t 1 m cells is in
        let same : suc found.0 ≡ m = let far : m ≡ 1 + found.0 = found.1 in omega arith in
        tied.named (suc found.0) t found.2 ∙ ap Some same ∙ sym is
    told None none None at_tag = at_tag ∙ sym none
    told None none (Some zero) at_tag = let no : None ≡ Some (cell.Pending c t) = tied.waits 0 t at_tag in cc
    told None none (Some (suc k)) at_tag = absurd (number-none c t 1 k cells none (tied.waits (suc k) t at_tag))

pub taking-same : (p q : ℕ → Bool) (f g : ℕ → Option ℕ) (ts : List ℕ) → ((t : ℕ) → p t ≡ q t) → ((t : ℕ) → f t ≡ g t) → taking p f ts ≡ taking q g ts
taking-same p q f g [] hp hf = refl
taking-same p q f g (t ∷ ts) hp hf = rw (hp t, hf t, taking-same p q f g ts hp hf) refl

-- a multiple settlement of 0 covers the publishes under every tag
pub covered-all : (c : ℕ) (kind : SettleKind) (l : ConfirmMode) (cells : List (Option Cell)) (ts : List ℕ) → Tied c l cells → taking (λ _. true) (λ u. under u l.tags.slots) ts ≡ taking (covers (multiple_of kind 0)) (λ t. number_from c t 1 cells) ts
covered-all c kind l cells ts tied = taking-same (λ _. true) (covers (multiple_of kind 0)) (λ u. under u l.tags.slots) (λ t. number_from c t 1 cells) ts (λ t. refl) (λ t. tag-number c t l cells tied)

-- ---- tags in a range, of which some are covered

-- none of them is
taking-none : (p : ℕ → Bool) (f : ℕ → Option ℕ) (t n : ℕ) → ((u : ℕ) → t ≤ u → u < t + n → p u ≡ false) → taking p f (range_with_len t n) ≡ []
taking-none p f t zero none = refl
taking-none p f t (suc n) none = rw (none t (omega arith) (omega arith)) (taking-none p f (t + 1) n (λ u low high. none u (omega arith) (omega arith)))

-- those from the first on are, so many of them
taking-first : (p : ℕ → Bool) (f : ℕ → Option ℕ) (t n m : ℕ) → ((u : ℕ) → t ≤ u → u < t + n → p u ≡ true) → ((u : ℕ) → t + n ≤ u → u < t + n + m → p u ≡ false) → taking p f (range_with_len t (n + m)) ≡ taking (λ _. true) f (range_with_len t n)
taking-first p f t zero m first none =
    let less : 0 + m ≡ m = omega arith in
    ap (λ (k : ℕ). taking p f (range_with_len t k)) less ∙ taking-none p f t m (λ u low high. none u (omega arith) (omega arith))
taking-first p f t (suc n) m first none =
    let one : suc n + m ≡ suc (n + m) = omega arith in
    let rest : taking p f (range_with_len (t + 1) (n + m)) ≡ taking (λ _. true) f (range_with_len (t + 1) n) = taking-first p f (t + 1) n m (λ u low high. first u (omega arith) (omega arith)) (λ u low high. none u (omega arith) (omega arith)) in
    ap (λ (k : ℕ). taking p f (range_with_len t k)) one ∙ rw (first t (omega arith) (omega arith)) (ap (joined (f t)) rest)

-- one alone is
taking-one : (f : ℕ → Option ℕ) (tag t n : ℕ) → t ≤ tag → (t + n ≤ tag → f tag ≡ None) → taking (λ u. tag == u) f (range_with_len t n) ≡ joined (f tag) []
taking-one f tag t zero low beyond = rw (beyond (omega arith)) refl
taking-one f tag t (suc n) low beyond =
    elim (eqb_tells tag t) [
      | inl same ↦
          let rest : taking (λ u. tag == u) f (range_with_len (t + 1) n) ≡ [] = taking-none (λ u. tag == u) f (t + 1) n (λ u from to. ne_eqb tag u (λ is. absurd (let at : tag ≡ t = same.1 in omega arith))) in
          rw same.0 (ap (joined (f t)) rest ∙ ap (λ (u : ℕ). joined (f u) []) (sym same.1))
      | inr other ↦ let apart : tag ≢ t = other.1 in rw other.0 (taking-one f tag (t + 1) n (omega arith) (λ far. beyond (omega arith)))
    ]

-- a settlement of one tag covers the publish under it
pub covered-one : (c : ℕ) (kind : SettleKind) (tag : ℕ) (l : ConfirmMode) (cells : List (Option Cell)) → Tied c l cells → joined (under tag l.tags.slots) [] ≡ taking (covers (single_of kind tag)) (λ t. number_from c t 1 cells) (range_with_len 1 (length l.tags.slots))
covered-one c kind tag l cells tied =
    sym (taking-same (covers (single_of kind tag)) (λ u. tag == u) (λ t. number_from c t 1 cells) (λ u. under u l.tags.slots) (range_with_len 1 (length l.tags.slots)) (λ t. refl) (λ t. sym (tag-number c t l cells tied)) ∙ of_tag tag)
  where
    gone : (u : ℕ) → 1 + length l.tags.slots ≤ u → under u l.tags.slots ≡ None
    gone u far = by (under u l.tags.slots) refl
      where
        by : (o : Option ℕ) → under u l.tags.slots ≡ o → under u l.tags.slots ≡ None
        by None there = there
        by (Some n) there = let within : u ≤ length l.tags.slots = given u n l.tags.slots there in absurd (omega arith)

    of_tag : (u : ℕ) → taking (λ v. u == v) (λ v. under v l.tags.slots) (range_with_len 1 (length l.tags.slots)) ≡ joined (under u l.tags.slots) []
    of_tag zero = taking-none (λ v. zero == v) (λ v. under v l.tags.slots) 1 (length l.tags.slots) (λ v from to. ne_eqb 0 v (λ is. absurd (omega arith)))
    of_tag (suc k) = taking-one (λ v. under v l.tags.slots) (suc k) 1 (length l.tags.slots) (omega arith) (gone (suc k))

-- a multiple settlement of a tag above 0 covers the publishes under the tags up to it
pub covers-up_to : (kind : SettleKind) (tag limit last t : ℕ) → 0 < tag → limit ≤ tag → (limit < last → limit ≡ tag) → t ≤ last → nat_le t limit ≡ covers (multiple_of kind tag) t
covers-up_to kind tag limit last t above most same within = rw (ne_eqb tag 0 (λ none. absurd (omega arith))) (elim (nat_le t tag) as (λ x. nat_le t tag ≡ x → nat_le t limit ≡ x) [
  | true ↦ λ h. let le : t ≤ tag = leb-true t tag h in le-leb t limit (elim (nat_lt limit last) as (λ y. nat_lt limit last ≡ y → t ≤ limit) [
    | true ↦ λ less. let is : limit ≡ tag = same (ltb-true limit last less) in omega arith
    | false ↦ λ more. let far : last ≤ limit = ltb-false limit last more in omega arith
  ] refl)
  | false ↦ λ h. let gt : tag < t = leb-false t tag h in lt-leb t limit (omega arith)
] refl)

pub covered-up_to : (c : ℕ) (kind : SettleKind) (tag limit : ℕ) (l : ConfirmMode) (cells : List (Option Cell)) → Tied c l cells → 0 < tag → limit ≤ tag → limit ≤ length l.tags.slots → (limit < length l.tags.slots → limit ≡ tag) → pending_through limit l.tags.slots ≡ taking (covers (multiple_of kind tag)) (λ t. number_from c t 1 cells) (range_with_len 1 (length l.tags.slots))
covered-up_to c kind tag limit l cells tied above most fits same =
    let whole : limit + (length l.tags.slots - limit) ≡ length l.tags.slots = omega arith in
    sym (taking-same (covers (multiple_of kind tag)) (covers (multiple_of kind tag)) (λ t. number_from c t 1 cells) (λ u. under u l.tags.slots) (range_with_len 1 (length l.tags.slots)) (λ t. refl) (λ t. sym (tag-number c t l cells tied))
    ∙ ap (λ (k : ℕ). taking (covers (multiple_of kind tag)) (λ u. under u l.tags.slots) (range_with_len 1 k)) (sym whole)
    ∙ taking-first (covers (multiple_of kind tag)) (λ u. under u l.tags.slots) 1 limit (length l.tags.slots - limit)
    (λ u low high. sym (covers-up_to kind tag limit (length l.tags.slots) u above most same (omega arith)) ∙ le-leb u limit (omega arith))
    (λ u low high. sym (covers-up_to kind tag limit (length l.tags.slots) u above most same (omega arith)) ∙ lt-leb u limit (omega arith)))
