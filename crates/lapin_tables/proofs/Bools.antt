-- Laws of tests that the library's own lemmas on them lack.
use Rattle.std.proofs.Common.{Bool, ◌||◌, true, ◌≡◌, refl, false, ◌&&◌, ℕ, ◌==◌, inl, inr}
use Rattle.std.proofs.lemmas.Bool.Decides.{eqb_tells}
use Rattle.std.specs.Prelude.{Result, Ok, Err}
use Rattle.std.specs.Result.{OnErr}

pub or_true : (b : Bool) → (b || true) ≡ true
or_true true = refl
or_true false = refl

pub and_true : (v : Bool) → (v && true) ≡ v
and_true true = refl
and_true false = refl

pub and_false : (v : Bool) → (v && false) ≡ false
and_false true = refl
and_false false = refl

pub not_both : (b : Bool) → b ≡ true → b ≡ false → ⊥
not_both b holds fails = cc

pub same_number : (k d : ℕ) → (k == d) ≡ true → k ≡ d
same_number k d h = elim (eqb_tells k d) [ inl same ↦ same.1 | inr other ↦ cc ]

pub on_err : {T E : Type 0} (r : Result T E) (P : Type 0) → P → OnErr r P
on_err (Ok x) P p = tt
on_err (Err e) P p = p

pub and_first : (x y : Bool) → (x && y) ≡ true → x ≡ true
and_first true y h = refl
and_first false y h = cc

pub and_second : (x y : Bool) → (x && y) ≡ true → y ≡ true
and_second true y h = h
and_second false y h = cc

pub only_first : (b : Bool) → (b || false) ≡ true → b ≡ true
only_first true h = refl
only_first false h = absurd cc
