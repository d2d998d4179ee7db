-- Tests of fields joined by `&&`: together they decide that all fields are equal.
use Rattle.std.specs.Prelude.{◌≡◌, ℕ, Bool, true, false, ◌&&◌, List, nat_eq, refl}
use Rattle.std.specs.Bool.{Decides}
use Rattle.std.specs.Cmp.{unsigned_Decides}
use Rattle.std.specs.Cmp.Lexicographic.{pointwise}
use Rattle.std.proofs.lemmas.Slice.Eq.{slice_eq-Decides}

pub text_alike : (a b : List ℕ) → Decides (pointwise nat_eq a b) (a ≡ b)
text_alike a b = slice_eq-Decides unsigned_Decides a b (pointwise nat_eq a b) refl

both_of : (p q : Bool) {A B : Type 0} → Decides p A → Decides q B → Decides (p && q) (A × B)
both_of true q d e = (λ t. (d.0 refl, e.0 t), λ x. e.1 x.1)
both_of false q d e = (λ t. cc, λ x. d.1 x.0)

-- two tests decide two facts
pub both : {p q : Bool} {A B : Type 0} → Decides p A → Decides q B → Decides (p && q) (A × B)
both {p} {q} d e = both_of p q d e

-- a test of one fact is a test of an equivalent one
pub through : {p : Bool} {A B : Type 0} → Decides p A → (A → B) → (B → A) → Decides p B
through d f g = (λ t. f (d.0 t), λ x. d.1 (g x))
