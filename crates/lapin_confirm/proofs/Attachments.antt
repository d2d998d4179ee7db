-- Waiting messages go to pending publishes one tag after another.
use Rattle.std.proofs.Common.{◌≡◌, ℕ, zero, suc, ◌+◌, ◌-◌, ◌<◌, ◌≤◌, nat_le, true, false, List, [], ◌∷◌, Option, Some, None, refl, sym, ◌∙◌, ap, subst, arith, ◌⊎◌, inl, inr}
use Rattle.std.proofs.lemmas.Bool.{leb-true, leb-false}
use Rattle.lapin_types.specs.declared.message.BasicReturnMessage.{BasicReturnMessage}
use Rattle.lapin_rules.specs.ReturnLists.{ReturnLists, given_first, attached_to, attached_to_all}
use Rattle.lapin_rules.specs.ReturnReadings.{joined}
use Rattle.lapin_tables.specs.Numbered.{under, first_kept}
use Rattle.lapin_tables.proofs.SlotLaws.{first-least, first-none}
use Rattle.lapin_confirm.specs.ReturnedMessages.{pending_from, pending_through}

joined-next : (o : Option ℕ) (ns : List ℕ) (l : ReturnLists) → attached_to_all ns (attached_to_all (joined o []) l) ≡ attached_to_all (joined o ns) l
joined-next None ns l = refl
joined-next (Some n) ns l = refl

attach-tag : (t m : ℕ) (tags : List (Option ℕ)) (l : ReturnLists) → attached_to_all (pending_from (t + 1) m tags) (attached_to_all (joined (under t tags) []) l) ≡ attached_to_all (pending_from t (suc m) tags) l
attach-tag t m tags l = joined-next (under t tags) (pending_from (t + 1) m tags) l

pub attach-next : (t n : ℕ) (tags : List (Option ℕ)) (l k : ReturnLists) → t < n → k ≡ attached_to_all (joined (under (t + 1) tags) []) l → attached_to_all (pending_from (t + 1 + 1) (n - (t + 1)) tags) k ≡ attached_to_all (pending_from (t + 1) (n - t) tags) l
attach-next t n tags l k more is =
    let one : n - t ≡ suc (n - (t + 1)) = omega arith in
    let P : ℕ → Type 0 = λ m. attached_to_all (pending_from (t + 1 + 1) (n - (t + 1)) tags) k ≡ attached_to_all (pending_from (t + 1) m tags) l in
    subst P (sym one) (ap (attached_to_all (pending_from (t + 1 + 1) (n - (t + 1)) tags)) is ∙ attach-tag (t + 1) (n - (t + 1)) tags l)

-- where nothing waits, nothing is attached
pub attach-nothing : (ns : List ℕ) (l : ReturnLists) → l.waiting ≡ [] → attached_to_all ns l ≡ l
attach-nothing [] l none = refl
attach-nothing (n ∷ ns) l none = rw (given n) (attach-nothing ns l none)
  where
    given : (n : ℕ) → attached_to n l ≡ l
    given n = ap (λ (ms : List BasicReturnMessage). given_first n ms l) none

-- no tag is left
pub attach-end : (t n : ℕ) (tags : List (Option ℕ)) (l : ReturnLists) → n ≤ t → attached_to_all (pending_from (t + 1) (n - t) tags) l ≡ l
attach-end t n tags l over = let none : n - t ≡ 0 = omega arith in ap (λ (m : ℕ). attached_to_all (pending_from (t + 1) m tags) l) none

-- tags that nobody is pending with
pending-skip : (t n m : ℕ) (tags : List (Option ℕ)) → ((u : ℕ) → t ≤ u → u < t + n → under u tags ≡ None) → pending_from t (n + m) tags ≡ pending_from (t + n) m tags
pending-skip t zero m tags none = let same : t ≡ t + 0 = omega arith in let less : 0 + m ≡ m = omega arith in ap (λ (k : ℕ). pending_from t k tags) less ∙ ap (λ (k : ℕ). pending_from k m tags) same
pending-skip t (suc n) m tags none =
    let one : suc n + m ≡ suc (n + m) = omega arith in
    let far : t + 1 + n ≡ t + suc n = omega arith in
    ap (λ (k : ℕ). pending_from t k tags) one
    ∙ ap (λ (o : Option ℕ). joined o (pending_from (t + 1) (n + m) tags)) (none t (omega arith) (omega arith))
    ∙ pending-skip (t + 1) n m tags (λ u low high. none u (omega arith) (omega arith))
    ∙ ap (λ (k : ℕ). pending_from k m tags) far

-- the walk may begin at the least tag that is pending
pub attach-start : (first n : ℕ) (tags : List (Option ℕ)) → first_kept tags ≡ Some first → 1 ≤ first → pending_from (first - 1 + 1) (n - (first - 1)) tags ≡ pending_through n tags
attach-start first n tags is low = elim (le-or first n) [
  | inl within ↦
      let all : first - 1 + (n - (first - 1)) ≡ n = omega arith in
      let start : 1 + (first - 1) ≡ first - 1 + 1 = omega arith in
      sym (ap (λ (k : ℕ). pending_from 1 k tags) (sym all)
      ∙ pending-skip 1 (first - 1) (n - (first - 1)) tags (λ u from to. below u from (omega arith))
      ∙ ap (λ (k : ℕ). pending_from k (n - (first - 1)) tags) start)
  | inr beyond ↦
      let none : n - (first - 1) ≡ 0 = omega arith in
      let whole : n + 0 ≡ n = omega arith in
      ap (λ (k : ℕ). pending_from (first - 1 + 1) k tags) none
      ∙ sym (ap (λ (k : ℕ). pending_from 1 k tags) (sym whole) ∙ pending-skip 1 n 0 tags (λ u from to. below u from (omega arith)))
]
  where
    le-or : (a b : ℕ) → (a ≤ b) ⊎ (b < a)
    le-or a b = elim (nat_le a b) as (λ x. nat_le a b ≡ x → (a ≤ b) ⊎ (b < a)) [ true ↦ λ h. inl (leb-true a b h) | false ↦ λ h. inr (leb-false a b h) ] refl

    below : (u : ℕ) → 1 ≤ u → u < first → under u tags ≡ None
    below u from to = by (under u tags) refl
      where
        by : (o : Option ℕ) → under u tags ≡ o → under u tags ≡ None
        by None there = there
        by (Some n) there = let least : first ≤ u = first-least u first n tags is there in absurd (omega arith)

-- and there is none where no tag is pending
pub attach-none : (n : ℕ) (tags : List (Option ℕ)) → first_kept tags ≡ None → pending_through n tags ≡ []
attach-none n tags is =
    let whole : n + 0 ≡ n = omega arith in
    ap (λ (k : ℕ). pending_from 1 k tags) (sym whole) ∙ pending-skip 1 n 0 tags (λ u from to. by u (under u tags) refl)
  where
    by : (u : ℕ) (o : Option ℕ) → under u tags ≡ o → under u tags ≡ None
    by u None there = there
    by u (Some n) there = absurd (first-none u n tags is there)
