-- Callers that are numbered one behind the other have numbers of their own.
use Rattle.std.proofs.Common.{◌≡◌, ℕ, ◌+◌, ◌<◌, false, eqb, List, [], ◌∷◌, map, arith}
use Rattle.std.specs.List.{All, IsDistinct}
use Rattle.std.proofs.lemmas.Bool.Decides.{nat_tests}
use Rattle.std.proofs.lemmas.List.Elements.{All-nil, All-cons, recursion_from_All}
use Rattle.std.proofs.lemmas.Map.Keys.{IsDistinct-cons}
use Rattle.lapin_shared.specs.Grown.{Seen, AreFresh, AreApart, number_of}

-- callers numbered from n
abbrev pub Numbered : ℕ → List Seen → Type 0
Numbered n [] = Unit {0}
Numbered n (c ∷ cs) = (c.number ≡ n) × Numbered (n + 1) cs

pub fresh_numbered : (n : ℕ) (cs : List Seen) → AreFresh n cs → Numbered n cs
fresh_numbered n [] f = tt
fresh_numbered n (c ∷ cs) f = (f.0, fresh_numbered (n + 1) cs f.2)

differ : (p q : ℕ) → p < q → eqb p q ≡ false
differ p q lt = grind (arith, nat_tests)

above : (m n : ℕ) (cs : List Seen) → m < n → Numbered n cs → All (λ k. eqb m k ≡ false) (map number_of cs)
above m n [] lt d = All-nil (λ k. eqb m k ≡ false)
above m n (c ∷ cs) lt d =
    All-cons (λ k. eqb m k ≡ false) c.number (map number_of cs) (differ m c.number (omega (arith, d.0))) (above m (n + 1) cs (omega arith) d.1)

pub numbered_apart : (n : ℕ) (cs : List Seen) → Numbered n cs → AreApart cs
unfolding IsDistinct
numbered_apart n [] d = tt
numbered_apart n (c ∷ cs) d =
    IsDistinct-cons eqb c.number (map number_of cs) (recursion_from_All (λ k. eqb c.number k ≡ false) (map number_of cs) (above c.number (n + 1) cs (omega (arith, d.0)) d.1)) (numbered_apart (n + 1) cs d.1)

pub fresh_apart : (n : ℕ) (cs : List Seen) → AreFresh n cs → AreApart cs
fresh_apart n cs f = numbered_apart n cs (fresh_numbered n cs f)
