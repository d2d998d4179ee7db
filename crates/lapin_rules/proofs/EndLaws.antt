-- The channels whose openings end together.
use Rattle.std.proofs.Common.{◌≡◌, ℕ, zero, suc, max, ◌+◌, ◌≤◌, ◌==◌, false, cond, List, [], ◌∷◌, ◌++◌, None, inl, inr, refl, sym, ◌∙◌, ap, arith, ne_eqb, append-nil}
use Rattle.std.proofs.lemmas.Bool.{cases_lt}
use Rattle.std.proofs.Math.Nat.{le-max_left, le-max_right}
use Rattle.lapin_types.specs.Types.{Error}
use Rattle.lapin_tables.specs.ByChannel.{at_channel}
use Rattle.lapin_rules.specs.declared.phases.ChannelPhase.{ChannelPhase}
use Rattle.lapin_rules.specs.ConfirmMarks as mark
use Rattle.lapin_rules.specs.Phases.{is_live, phase_in}
use Rattle.lapin_rules.specs.Ends.{beyond, live_below, live_channels, ends}

-- no channel stands above the greatest one
pub beyond-none : (n : ℕ) (all : List (ℕ × ChannelPhase)) → beyond all ≤ n → at_channel n all ≡ None
beyond-none n [] h = refl
beyond-none n (x ∷ xs) h =
    let here : suc x.0 ≤ max (suc x.0) (beyond xs) = le-max_left (suc x.0) (beyond xs) in
    let rest : beyond xs ≤ max (suc x.0) (beyond xs) = le-max_right (suc x.0) (beyond xs) in
    let other : (x.0 == n) ≡ false = ne_eqb x.0 n (λ e. let le : suc x.0 ≤ n = omega (arith, here, h) in absurd (omega (arith, le, e))) in
    rw other (beyond-none n xs (omega (arith, rest, h)))

-- where no channel stands from a number on, none is live from it on
live-stop : (n r : ℕ) (all : List (ℕ × ChannelPhase)) → r ≤ n → ((c : ℕ) → r ≤ c → at_channel c all ≡ None) → live_below n all ≡ live_below r all
live-stop zero r all within none = let same : 0 ≡ r = omega arith in ap (λ k. live_below k all) same
live-stop (suc n) r all within none =
    elim (cases_lt r (suc n)) [
      | inl below ↦
          let here : at_channel n all ≡ None = none n (omega arith) in
          ap (λ o. live_below n all ++ cond (is_live (phase_in o)) (n ∷ []) []) here ∙ append-nil (live_below n all) ∙ live-stop n r all (omega arith) none
      | inr past ↦ let same : suc n ≡ r = omega arith in ap (λ k. live_below k all) same
    ]

-- a walk up to such a number meets each live opening
pub live-all : (r : ℕ) (all : List (ℕ × ChannelPhase)) → ((c : ℕ) → r ≤ c → at_channel c all ≡ None) → live_below r all ≡ live_channels all
live-all r all none =
    elim (cases_lt r (beyond all)) [
      | inl less ↦ sym (live-stop (beyond all) r all (omega arith) none)
      | inr more ↦ live-stop r (beyond all) all (omega arith) (λ c h. beyond-none c all h)
    ]

pub live-next : (n : ℕ) (all : List (ℕ × ChannelPhase)) → live_below (n + 1) all ≡ live_below n all ++ cond (is_live (phase_in (at_channel n all))) (n ∷ []) []
live-next n all = let one : n + 1 ≡ suc n = omega arith in ap (λ k. live_below k all) one

-- ends of more channels
pub ends-push : (e : Error) (cs : List ℕ) (c : ℕ) → ends e (cs ++ c ∷ []) ≡ ends e cs ++ mark.Ended c e ∷ []
ends-push e [] c = refl
ends-push e (d ∷ cs) c = ap (λ ms. mark.Ended d e ∷ ms) (ends-push e cs c)
