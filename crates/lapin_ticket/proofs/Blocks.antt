-- Blocks of answers: what is told after a write, and blocks that come and go.
use Rattle.std.proofs.Common.{◌≡◌, ◌≢◌, ℕ, zero, suc, ◌-◌, ◌/◌, ◌%◌, ◌<◌, ◌==◌, Bool, true, false, cond, List, [], ◌∷◌, ◌++◌, get_or, Option, Some, None, Result, refl, sym, ◌∙◌, ap, subst, arith, slice_set, replicate, inl, inr}
use Rattle.std.proofs.lemmas.Bool.Decides.{eqb_tells}
use Rattle.std.proofs.lemmas.List.{get_or-set_same, get_or-set_other}
use Rattle.std.proofs.Math.Nat.{div-add-mod}
use Rattle.lapin_types.specs.declared.answer.Answer.{Answer}
use Rattle.lapin_types.specs.Types.{Error}
use Rattle.lapin_tables.specs.Numbered.{under, with_under}
use Rattle.lapin_tables.proofs.SlotLaws.{under-same, under-other}
use Rattle.lapin_ticket.specs.declared.packed.Block.{Block}
use Rattle.lapin_ticket.specs.Packed.{read_mark, packed_in, packed_at, with_mark, IsEmpty, IsSpent, IsMarkFor}
use Rattle.lapin_ticket.proofs.Shown.{closed-none}

-- the blocks with another mark for a ticket
abbrev pub put : ℕ → ℕ → List (Option Block) → List (Option Block)
put n m bs = with_under (suc ((n - 1) / 64)) (with_mark ((n - 1) % 64) m (under (suc ((n - 1) / 64)) bs)) bs

no-number : (b : Bool) → cond {A = Option (Result Answer Error)} b None None ≡ None
no-number true = refl
no-number false = refl

-- a block that isn't there, or has another mark at a place
not-there : (q r p m : ℕ) (bs : List (Option Block)) → under (suc q) bs ≡ None → packed_in p (under (suc q) (with_under (suc q) (with_mark r m (under (suc q) bs)) bs)) ≡ None
not-there q r p m bs none =
    ap (λ o. packed_in p (under (suc q) (with_under (suc q) (with_mark r m o) bs))) none ∙ ap (packed_in p) (closed-none (suc q) bs)

there : (q r p m : ℕ) (b : Block) (bs : List (Option Block)) → under (suc q) bs ≡ Some b → packed_in p (under (suc q) (with_under (suc q) (with_mark r m (under (suc q) bs)) bs)) ≡ read_mark b.first (get_or (slice_set b.marks r m) p 0)
there q r p m b bs is =
    ap (λ o. packed_in p (under (suc q) (with_under (suc q) (with_mark r m o) bs))) is
    ∙ ap (packed_in p) (under-same (suc q) (with_mark r m (Some b)) b bs is)

-- the place that is written, where 0 is
gone-mark : (marks : List ℕ) (r : ℕ) → get_or (slice_set marks r 0) r 0 ≡ 0
gone-mark [] r = refl
gone-mark (m ∷ marks) zero = refl
gone-mark (m ∷ marks) (suc r) = gone-mark marks r

pub put-gone : (n : ℕ) (bs : List (Option Block)) → packed_at n (put n 0 bs) ≡ None
put-gone n bs = ap (λ o. cond (n == 0) None o) (by-case (under (suc ((n - 1) / 64)) bs) refl) ∙ no-number (n == 0)
  where
    by-case : (o : Option Block) → under (suc ((n - 1) / 64)) bs ≡ o → packed_in ((n - 1) % 64) (under (suc ((n - 1) / 64)) (put n 0 bs)) ≡ None
    by-case None is = not-there ((n - 1) / 64) ((n - 1) % 64) ((n - 1) % 64) 0 bs is
    by-case (Some b) is = there ((n - 1) / 64) ((n - 1) % 64) ((n - 1) % 64) 0 b bs is ∙ ap (read_mark b.first) (gone-mark b.marks ((n - 1) % 64))

pub put-here : (n m : ℕ) (a : Result Answer Error) (bs : List (Option Block)) → 0 < n → IsMarkFor m a n bs → packed_at n (put n m bs) ≡ Some a
put-here n m a bs first h = elim (eqb_tells n 0) [
  | inl at-zero ↦ absurd (omega (arith, at-zero.1, first))
  | inr some ↦
      ap (λ b. cond b None (packed_in ((n - 1) % 64) (under (suc ((n - 1) / 64)) (put n m bs)))) some.0
      ∙ there ((n - 1) / 64) ((n - 1) % 64) ((n - 1) % 64) m h.0 bs h.1.0
      ∙ ap (read_mark h.0.first) (get_or-set_same h.0.marks ((n - 1) % 64) m 0 h.1.1.0)
      ∙ h.1.1.1
]

-- every other place tells what it told
in-other : (q r i p m : ℕ) (bs : List (Option Block)) → (i ≡ q → p ≢ r) → packed_in p (under (suc i) (with_under (suc q) (with_mark r m (under (suc q) bs)) bs)) ≡ packed_in p (under (suc i) bs)
in-other q r i p m bs apart = elim (eqb_tells i q) [
  | inl same ↦
      let P : ℕ → Type 0 = λ k. packed_in p (under (suc k) (with_under (suc q) (with_mark r m (under (suc q) bs)) bs)) ≡ packed_in p (under (suc k) bs) in
      subst P (sym same.1) (by-case (apart same.1) (under (suc q) bs) refl)
  | inr other ↦ ap (packed_in p) (under-other (suc i) (suc q) (with_mark r m (under (suc q) bs)) bs (λ e. other.1 (omega (arith, e))))
]
  where
    by-case : p ≢ r → (o : Option Block) → under (suc q) bs ≡ o → packed_in p (under (suc q) (with_under (suc q) (with_mark r m (under (suc q) bs)) bs)) ≡ packed_in p (under (suc q) bs)
    by-case away None is = not-there q r p m bs is ∙ sym (ap (packed_in p) is)
    by-case away (Some b) is = there q r p m b bs is ∙ ap (read_mark b.first) (get_or-set_other b.marks r p m 0 away) ∙ sym (ap (packed_in p) is)

pub put-other : (n m : ℕ) (bs : List (Option Block)) → 0 < n → (j : ℕ) → j ≢ n → packed_at j (put n m bs) ≡ packed_at j bs
put-other n m bs first j other = elim (eqb_tells j 0) [
  | inl at-zero ↦
      ap (λ b. cond b None (packed_in ((j - 1) % 64) (under (suc ((j - 1) / 64)) (put n m bs)))) at-zero.0
      ∙ sym (ap (λ b. cond b None (packed_in ((j - 1) % 64) (under (suc ((j - 1) / 64)) bs))) at-zero.0)
  | inr some ↦
      let apart : (j - 1) / 64 ≡ (n - 1) / 64 → (j - 1) % 64 ≢ (n - 1) % 64 = λ q r. other (same-number some.1 q r) in
      ap (λ o. cond (j == 0) None o) (in-other ((n - 1) / 64) ((n - 1) % 64) ((j - 1) / 64) ((j - 1) % 64) m bs apart)
]
  where
    same-number : j ≢ 0 → (j - 1) / 64 ≡ (n - 1) / 64 → (j - 1) % 64 ≡ (n - 1) % 64 → j ≡ n
    same-number some q r = omega (arith, div-add-mod (j - 1) 64, div-add-mod (n - 1) 64, q, r, first, some)

-- a block without an answer comes behind the others
in-new : (q r : ℕ) (b : Block) (bs : List (Option Block)) → IsEmpty b.marks → packed_in r (under (suc q) (bs ++ Some b ∷ [])) ≡ packed_in r (under (suc q) bs)
in-new zero r b [] none = ap (read_mark b.first) (none r)
in-new (suc q) r b [] none = refl
in-new zero r b (x ∷ bs) none = refl
in-new (suc q) r b (x ∷ bs) none = in-new q r b bs none

pub new-block : (b : Block) (bs : List (Option Block)) → IsEmpty b.marks → (n : ℕ) → packed_at n (bs ++ Some b ∷ []) ≡ packed_at n bs
new-block b bs none n = ap (λ o. cond (n == 0) None o) (in-new ((n - 1) / 64) ((n - 1) % 64) b bs none)

-- a block without an answer goes
pub gone-block : (i : ℕ) (b : Block) (bs : List (Option Block)) → under i bs ≡ Some b → IsEmpty b.marks → (n : ℕ) → packed_at n (with_under i None bs) ≡ packed_at n bs
gone-block i b bs is none n = ap (λ o. cond (n == 0) None o) (elim (eqb_tells i (suc ((n - 1) / 64))) [
  | inl same ↦
      let P : ℕ → Type 0 = λ k. packed_in ((n - 1) % 64) (under k (with_under i None bs)) ≡ packed_in ((n - 1) % 64) (under k bs) in
      subst P same.1 (ap (packed_in ((n - 1) % 64)) (closed-none i bs) ∙ sym (ap (packed_in ((n - 1) % 64)) is ∙ ap (read_mark b.first) (none ((n - 1) % 64))))
  | inr other ↦ ap (packed_in ((n - 1) % 64)) (under-other (suc ((n - 1) / 64)) i None bs (λ e. other.1 (sym e)))
])

pub spent-goes : (i : ℕ) (bs : List (Option Block)) → IsSpent (under i bs) → (n : ℕ) → packed_at n (with_under i None bs) ≡ packed_at n bs
spent-goes i bs spent = by-case (under i bs) refl spent
  where
    by-case : (o : Option Block) → under i bs ≡ o → IsSpent o → (n : ℕ) → packed_at n (with_under i None bs) ≡ packed_at n bs
    by-case None is none = absurd none
    by-case (Some b) is empty = gone-block i b bs is empty

-- a block of zeros
pub zeros : (n p : ℕ) → ◌≡◌ {A = ℕ} (get_or (replicate n 0) p 0) 0
zeros zero p = refl
zeros (suc n) zero = refl
zeros (suc n) (suc p) = zeros n p
