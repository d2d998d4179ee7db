-- Tables of arguments: which octets a table carries, and that what is written of one is read as the table that carries it.
use Rattle.std.proofs.Common.{◌≡◌, ℕ, ◌+◌, List, [], ◌∷◌, ◌++◌, length, Option, Some, None, refl, ap, arith, slice_get}
use Rattle.lapin_values.specs.Data.{Data, leaf, byte_array}
use Rattle.lapin_fields.specs.Fields.{counted}
use Rattle.lapin_fields.specs.Fits.{StringFits}
use Rattle.lapin_fields.specs.Opaque.{carried, opaque, opaque_at, octets_by, table_octets, arguments_bytes, FitsBy, ArgumentsFit}
use Rattle.lapin_fields.specs.Reading.{counted_at}
use Rattle.lapin_fields.specs.Values.{pairs_bytes, table_bytes}
use Rattle.lapin_fields.proofs.ReadingLaws.{then_on, counted_back}
use Rattle.lapin_fields.proofs.ValueLaws.{table_long}

-- a table with one entry carries what that says
pub of_one : (t : List (List ℕ × Data)) (name : List ℕ) (d : Data) → length t ≡ 1 → slice_get t 0 ≡ Some (name, d) → carried t ≡ carried ((name, d) ∷ [])
of_one [] name d one there = absurd (omega arith)
of_one (e ∷ []) name d one there = let same : e ≡ (name, d) = cc in ap (λ (x : List ℕ × Data). carried (x ∷ [])) same
of_one (e ∷ f ∷ t) name d one there = absurd (omega arith)

-- one with none or several carries no octets
pub of_others : (t : List (List ℕ × Data)) → (length t ≡ 1 → ⊥) → carried t ≡ None
of_others [] others = refl
of_others (e ∷ []) others = absurd (others (omega arith))
of_others (([], leaf (byte_array octets)) ∷ f ∷ t) others = refl
of_others (_ ∷ f ∷ t) others = refl

-- what is written of the table that octets are is these octets
pub octets_again : (os : List ℕ) → table_octets (opaque os) ≡ os
unfolding pairs_bytes
octets_again [] = refl
octets_again (o ∷ os) = refl

-- a table that carries none is written by its values
pub by_values : (t : List (List ℕ × Data)) → carried t ≡ None → arguments_bytes t ≡ table_bytes t
by_values t none = ap (λ (o : Option (List ℕ)). counted (octets_by o t)) none

octets_long : (o : Option (List ℕ)) (t : List (List ℕ × Data)) → FitsBy o t → StringFits (octets_by o t)
octets_long (Some os) t fit = fit
octets_long None t fit = table_long t fit

-- a table of arguments behind its length
pub arguments_back : (t : List (List ℕ × Data)) (rest : List ℕ) → ArgumentsFit t → opaque_at (arguments_bytes t ++ rest) ≡ Some (opaque (table_octets t), rest)
arguments_back t rest fit =
    then_on (counted_at (arguments_bytes t ++ rest)) (table_octets t, rest) (λ s. Some (opaque s.0, s.1)) _ (counted_back (table_octets t) rest (octets_long (carried t) t fit)) refl
