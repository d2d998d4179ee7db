-- How many open channels are paused, once one of them moves.
use Rattle.std.proofs.Common.{rules, ◌≡◌, ℕ, suc, ◌+◌, ◌<◌, ◌≤◌, ◌==◌, nat_lt, ◌||◌, Bool, true, false, cond, List, [], ◌∷◌, ◌++◌, length, Some, None, refl, sym, ◌∙◌, ap, arith}
use Rattle.std.specs.List.{list_any}
use Rattle.lapin_phases.specs.Paused.{paused_among}
use Rattle.lapin_tables.specs.ByChannel.{at_channel, on_channel}
use Rattle.lapin_rules.specs.declared.phases.ChannelPhase.{ChannelPhase}
use Rattle.lapin_rules.specs.declared.phases.ChannelPhase.TheVariants as phase
use Rattle.lapin_rules.specs.Words.{is_some, with_channel}
use Rattle.lapin_rules.specs.Phases.{is_paused, phase_in}
use Rattle.lapin_rules.specs.Flow.{is_paused_on}

abbrev pub one : Bool → ℕ
one b = cond b 1 0

abbrev pub paused : List (ℕ × ChannelPhase) → ℕ
paused es = paused_among es

count-one : (e : ℕ × ChannelPhase) (es : List (ℕ × ChannelPhase)) → paused (e ∷ es) ≡ one (is_paused e.1) + paused es
count-one e es = step (is_paused e.1) (paused es)
  where
    step : (b : Bool) (k : ℕ) → cond b (suc k) k ≡ one b + k
    step true k = omega arith
    step false k = omega arith

-- at most all
most-all : (es : List (ℕ × ChannelPhase)) → paused es ≤ length es
most-all [] = omega arith
most-all (e ∷ es) = let h : paused es ≤ length es = most-all es in let k : paused (e ∷ es) ≡ one (is_paused e.1) + paused es = count-one e es in at (is_paused e.1) (paused (e ∷ es)) (paused es) (length es) k h
  where
    at : (b : Bool) (n k l : ℕ) → n ≡ one b + k → k ≤ l → n ≤ suc l
    at true n k l e h = omega arith
    at false n k l e h = omega arith

-- a channel that has an entry
moved : (c : ℕ) (x : ChannelPhase) (es : List (ℕ × ChannelPhase)) → is_some (at_channel c es) ≡ true → paused (on_channel c (λ _. x) es) + one (is_paused (phase_in (at_channel c es))) ≡ paused es + one (is_paused x)
moved c x [] h = cc
moved c x (e ∷ es) h = elim (e.0 == c) as (λ b. is_some (cond b (Some e.1) (at_channel c es)) ≡ true → paused (cond b ((e.0, x) ∷ es) (e ∷ on_channel c (λ _. x) es)) + one (is_paused (phase_in (cond b (Some e.1) (at_channel c es)))) ≡ paused (e ∷ es) + one (is_paused x)) [
  | true ↦ λ h. let now : paused ((e.0, x) ∷ es) ≡ one (is_paused x) + paused es = count-one (e.0, x) es in let before : paused (e ∷ es) ≡ one (is_paused e.1) + paused es = count-one e es in omega arith
  | false ↦ λ h.
      let more : paused (on_channel c (λ _. x) es) + one (is_paused (phase_in (at_channel c es))) ≡ paused es + one (is_paused x) = moved c x es h in
      let now : paused (e ∷ on_channel c (λ _. x) es) ≡ one (is_paused e.1) + paused (on_channel c (λ _. x) es) = count-one e (on_channel c (λ _. x) es) in
      let before : paused (e ∷ es) ≡ one (is_paused e.1) + paused es = count-one e es in
      omega arith
] h

joined : (c : ℕ) (x : ChannelPhase) (es : List (ℕ × ChannelPhase)) → paused (es ++ (c, x) ∷ []) ≡ paused es + one (is_paused x)
joined c x [] = let now : paused ((c, x) ∷ []) ≡ one (is_paused x) + 0 = count-one (c, x) [] in omega arith
joined c x (e ∷ es) =
    let more : paused (es ++ (c, x) ∷ []) ≡ paused es + one (is_paused x) = joined c x es in
    let now : paused (e ∷ (es ++ (c, x) ∷ [])) ≡ one (is_paused e.1) + paused (es ++ (c, x) ∷ []) = count-one e (es ++ (c, x) ∷ []) in
    let before : paused (e ∷ es) ≡ one (is_paused e.1) + paused es = count-one e es in
    omega arith

pub recount : (c : ℕ) (x : ChannelPhase) (es : List (ℕ × ChannelPhase)) → paused (with_channel c x es) + one (is_paused (phase_in (at_channel c es))) ≡ paused es + one (is_paused x)
recount c x es = elim (at_channel c es) as (λ o. at_channel c es ≡ o → paused (cond (is_some o) (on_channel c (λ _. x) es) (es ++ (c, x) ∷ [])) + one (is_paused (phase_in o)) ≡ paused es + one (is_paused x)) [
  | Some p ↦ λ e. let h : is_some (at_channel c es) ≡ true = ap is_some e in ap (λ o. paused (on_channel c (λ _. x) es) + one (is_paused (phase_in o))) (sym e) ∙ moved c x es h
  | None ↦ λ e. let more : paused (es ++ (c, x) ∷ []) ≡ paused es + one (is_paused x) = joined c x es in omega arith
] refl

positive : (k : ℕ) → nat_lt 0 (suc k) ≡ true
positive k = search rules

pub any-paused : (es : List (ℕ × ChannelPhase)) → nat_lt 0 (paused es) ≡ list_any is_paused_on es
any-paused [] = refl
any-paused (e ∷ es) = elim (is_paused e.1) as (λ b. nat_lt 0 (cond b (suc (paused es)) (paused es)) ≡ (b || list_any is_paused_on es)) [ true ↦ positive (paused es) | false ↦ any-paused es ]

module _ (c : ℕ) (x : ChannelPhase) (es : List (ℕ × ChannelPhase)) where
  pub was-some : (n : ℕ) (was : Bool) → n ≡ paused es → was ≡ is_paused (phase_in (at_channel c es)) → was ≡ true → 0 < n
  was-some n was en ew t =
      let gone : paused (with_channel c phase.Closed es) + one (is_paused (phase_in (at_channel c es))) ≡ paused es + 0 = recount c phase.Closed es in
      let here : one (is_paused (phase_in (at_channel c es))) ≡ 1 = ap one (sym ew ∙ t) in
      omega arith

  pub bounded : (held : List (ℕ × ChannelPhase)) (n : ℕ) (was is : Bool) → n ≡ paused es → was ≡ is_paused (phase_in (at_channel c es)) → is ≡ is_paused x → held ≡ with_channel c x es → n + one is ≤ length held + one was
  bounded held n was is en ew ei eh =
      let more : paused (with_channel c x es) + one (is_paused (phase_in (at_channel c es))) ≡ paused es + one (is_paused x) = recount c x es in
      let most : paused (with_channel c x es) ≤ length (with_channel c x es) = most-all (with_channel c x es) in
      let a : one was ≡ one (is_paused (phase_in (at_channel c es))) = ap one ew in
      let b : one is ≡ one (is_paused x) = ap one ei in
      let l : length held ≡ length (with_channel c x es) = ap length eh in
      omega arith

  pub counted : (new : List (ℕ × ChannelPhase)) (n r : ℕ) (was is : Bool) → n ≡ paused es → was ≡ is_paused (phase_in (at_channel c es)) → is ≡ is_paused x → new ≡ with_channel c x es → r + one was ≡ n + one is → r ≡ paused new
  counted new n r was is en ew ei eh er =
      let more : paused (with_channel c x es) + one (is_paused (phase_in (at_channel c es))) ≡ paused es + one (is_paused x) = recount c x es in
      let a : one was ≡ one (is_paused (phase_in (at_channel c es))) = ap one ew in
      let b : one is ≡ one (is_paused x) = ap one ei in
      let l : paused new ≡ paused (with_channel c x es) = ap paused eh in
      omega arith
