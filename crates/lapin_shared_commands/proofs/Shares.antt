-- The lists of all callers have every event once.
use Rattle.std.proofs.Common.{◌≡◌, ◌≢◌, ℕ, ◌+◌, ◌<◌, ◌≤◌, List, [], ◌∷◌, length, refl, ap, arith, Bool, true, false, ◌⊎◌, inl, inr}
use Rattle.std.specs.Prelude.{◌%◌, ◌==◌, zero, suc}
use Rattle.std.proofs.lemmas.Bool.Decides.{nat_tests}
use Rattle.std.proofs.lemmas.Nat.{mod_below}
use Rattle.lapin_types.specs.declared.event.Event.{Event}
use Rattle.lapin_shared_commands.specs.Dealt.{dealt}

pub dealt_hit : (n i k : ℕ) (e : Event) (es : List Event) → k % n + 1 ≡ i → dealt n i k (e ∷ es) ≡ e ∷ dealt n i (k + 1) es
dealt_hit n i k e es is = let t : (k % n + 1 == i) ≡ true = grind (arith, nat_tests) in rw t

pub dealt_miss : (n i k : ℕ) (e : Event) (es : List Event) → k % n + 1 ≢ i → dealt n i k (e ∷ es) ≡ dealt n i (k + 1) es
dealt_miss n i k e es miss = let t : (k % n + 1 == i) ≡ false = grind (arith, nat_tests) in rw t

decide : (a b : ℕ) (t : Bool) → (a == b) ≡ t → (a ≡ b) ⊎ (a ≢ b)
decide a b true e = inl (grind (arith, nat_tests))
decide a b false e = inr (grind (arith, nat_tests))

pub test : (a b : ℕ) → (a ≡ b) ⊎ (a ≢ b)
test a b = decide a b (a == b) refl

-- how many events fall to m callers from i on
abbrev pub spread : ℕ → ℕ → List Event → ℕ → ℕ → ℕ
spread n k es i zero = 0
spread n k es i (suc m) = length (dealt n i k es) + spread n k es (i + 1) m

spread_nil : (n k i m : ℕ) → spread n k [] i m ≡ 0
spread_nil n k i zero = refl
spread_nil n k i (suc m) = omega (arith, spread_nil n k (i + 1) m)

-- an event that falls to a caller before these
spread_before : (n k i m : ℕ) (e : Event) (es : List Event) → k % n + 1 < i → spread n k (e ∷ es) i m ≡ spread n (k + 1) es i m
spread_before n k i zero e es lt = refl
spread_before n k i (suc m) e es lt =
    let o = ap length (dealt_miss n i k e es (omega arith)) in
    let r = spread_before n k (i + 1) m e es (omega arith) in omega (arith, o, r)

-- an event that falls to one of these
spread_hit : (n k i m : ℕ) (e : Event) (es : List Event) → i ≤ k % n + 1 → k % n + 1 < i + m → spread n k (e ∷ es) i m ≡ spread n (k + 1) es i m + 1
spread_hit n k i zero e es le lt = absurd (omega arith)
spread_hit n k i (suc m) e es le lt =
    elim (test (k % n + 1) i) as (λ _. spread n k (e ∷ es) i (suc m) ≡ spread n (k + 1) es i (suc m) + 1) [
      | inl is ↦
          let o = ap length (dealt_hit n i k e es is) in
          let r = spread_before n k (i + 1) m e es (omega (arith, is)) in omega (arith, o, r)
      | inr miss ↦
          let o = ap length (dealt_miss n i k e es miss) in
          let r = spread_hit n k (i + 1) m e es (omega (arith, miss)) (omega arith) in omega (arith, o, r)
    ]

pub all_spread : (n k : ℕ) (es : List Event) → 0 < n → spread n k es 1 n ≡ length es
all_spread n k [] some = spread_nil n k 1 n
all_spread n k (e ∷ es) some =
    let below : k % n < n = mod_below k n some in
    let r = all_spread n (k + 1) es some in
    let h = spread_hit n k 1 n e es (omega arith) (omega (arith, below)) in omega (arith, h, r)
