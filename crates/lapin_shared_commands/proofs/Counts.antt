-- A text says one number at most.
use Rattle.std.proofs.Common.{◌≡◌, ℕ, ◌<◌, ◌≤◌, ◌^◌, List, sym, ◌∙◌, arith, subst}
use Rattle.std.specs.Prelude.{decimal}
use Rattle.std.proofs.lemmas.Fmt.{decimal_injective}
use Rattle.lapin_shared_commands.specs.Words.{IsCount}

pub no_number : (piece : List ℕ) → ((n : ℕ) → n < 2 ^ 64 → piece ≡ decimal n → ⊥) → (n : ℕ) → IsCount piece n → ⊥
no_number piece not n is = not n (omega (arith, is.2)) is.0

-- it says m, which is no count
pub another_number : (piece : List ℕ) (m : ℕ) → piece ≡ decimal m → m < 2 ^ 64 → (1 ≤ m → m ≤ 64 → ⊥) → (n : ℕ) → IsCount piece n → ⊥
another_number piece m says fits not n is =
    let same : m ≡ n = decimal_injective m n fits (omega (arith, is.2)) (sym says ∙ is.0) in
    not (omega (arith, is.1, same)) (omega (arith, is.2, same))
