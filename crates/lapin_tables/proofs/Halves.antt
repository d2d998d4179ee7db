-- The two halves of a block.
use Rattle.std.proofs.Common.{◌≡◌, ◌≢◌, ℕ, ◌-◌, ◌<◌, ◌≤◌, nat_lt, cond, sym, ◌∙◌, ap, arith, inl, inr}
use Rattle.std.proofs.lemmas.Bool.{cases_lt, lt-ltb, le-ltb}
use Rattle.lapin_tables.specs.declared.block.Block.{Block}
use Rattle.lapin_tables.specs.Packed.{half_in, mark_in, IsEmpty}

pub in-first : (p : ℕ) (b : Block) → p < 32 → mark_in p b ≡ half_in p b.first
in-first p b low = ap (λ t. cond t (half_in p b.first) (half_in (p - 32) b.second)) (lt-ltb p 32 low)

pub in-second : (p : ℕ) (b : Block) → 32 ≤ p → mark_in p b ≡ half_in (p - 32) b.second
in-second p b high = ap (λ t. cond t (half_in p b.first) (half_in (p - 32) b.second)) (le-ltb p 32 high)

pub both-empty : (b : Block) → ((p : ℕ) → half_in p b.first ≡ 0) → ((p : ℕ) → half_in p b.second ≡ 0) → IsEmpty b
both-empty b first second p = elim (cases_lt p 32) [
  | inl low ↦ in-first p b low ∙ first p
  | inr high ↦ in-second p b high ∙ second (p - 32)
]

-- as one half changes at a place
pub first-changed : (r : ℕ) (b c : Block) → ((p : ℕ) → p < 32 → p ≢ r → half_in p c.first ≡ half_in p b.first) → c.second ≡ b.second → (p : ℕ) → p ≢ r → mark_in p c ≡ mark_in p b
first-changed r b c others same p apart = elim (cases_lt p 32) [
  | inl low ↦ in-first p c low ∙ others p low apart ∙ sym (in-first p b low)
  | inr high ↦ in-second p c high ∙ ap (half_in (p - 32)) same ∙ sym (in-second p b high)
]

pub second-changed : (r : ℕ) (b c : Block) → 32 ≤ r → ((p : ℕ) → p < 32 → p ≢ r - 32 → half_in p c.second ≡ half_in p b.second) → c.first ≡ b.first → (p : ℕ) → p < 64 → p ≢ r → mark_in p c ≡ mark_in p b
second-changed r b c over others same p small apart = elim (cases_lt p 32) [
  | inl low ↦ in-first p c low ∙ ap (half_in p) same ∙ sym (in-first p b low)
  | inr high ↦
      let moved : p - 32 ≢ r - 32 = λ e. apart (omega (arith, e, high, over)) in
      in-second p c high ∙ others (p - 32) (omega (arith, small)) moved ∙ sym (in-second p b high)
]
