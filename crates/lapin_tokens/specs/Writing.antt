-- What is written one after another: the members of an array or a table, and the properties that are given.
use Rattle.std.specs.Prelude.{ℕ, zero, suc, ◌==◌, ◌&&◌, Bool, true, false, List, [], ◌∷◌, ◌++◌, slice_get, Option, Some, None, if◌then◌else◌}
use Rattle.lapin_values.specs.Properties.{Properties}
use Rattle.lapin_values.specs.Data.{Data, leaf, array, table}
use Rattle.lapin_scalars.specs.Scalars.{scalar_text}
use Rattle.lapin_scalars.specs.Scalars.Scalar.{text as a_text}
use Rattle.lapin_tokens.specs.declared.names.Property.{Property}
use Rattle.lapin_tokens.specs.Values.{leaf_text, value_text}
use Rattle.lapin_tokens.specs.Properties.{KindValue, kind_text, name, kind, given}
use Rattle.lapin_tokens.specs.PropertyReading.{mark}

-- the text of a value that holds no other; nothing for an array or a table
abbrev pub leaf_part : Data → List ℕ
leaf_part (leaf l) = leaf_text l
leaf_part (array ds) = []
leaf_part (table ps) = []

-- KEY=VALUE
abbrev pub pair_text : List ℕ × Data → List ℕ
pair_text p = scalar_text a_text p.0 ++ 61 ∷ value_text p.1

-- the comma before a member that is not the first
abbrev pub comma : ℕ → List ℕ
comma place = if place == 0 then [] else 44 ∷ []

-- the member at a place, behind its comma; nothing past the end
abbrev pub member_text : {A : Type 0} → (A → List ℕ) → ℕ → Option A → List ℕ
member_text text place None = []
member_text text place (Some x) = comma place ++ text x

-- the members before a place
abbrev pub members_text : {A : Type 0} → (A → List ℕ) → List A → ℕ → List ℕ
members_text text xs zero = []
members_text text xs (suc n) = members_text text xs n ++ member_text text n (slice_get xs n)

-- a property behind its mark, with its value as the text says it, where there is one
abbrev pub named : {A : Type 0} → (A → List ℕ) → Property → Bool → Option A → List ℕ
named text p first None = []
named text p first (Some x) = mark first ∷ name p ++ 61 ∷ text x

-- a property behind its mark, with the text of its value, and nothing where it isn't given
abbrev pub marked : (p : Property) → Option (KindValue (kind p)) → Bool → List ℕ
marked p x first = named (kind_text (kind p)) p first x

-- whether the next property is still the first that is given
abbrev pub stays : {A : Type 0} → Option A → Bool → Bool
stays None first = first
stays (Some x) first = false

-- the end: a closing bracket, behind an opening one where nothing was given
abbrev pub ending_of : Bool → List ℕ
ending_of true = 91 ∷ 93 ∷ []
ending_of false = 93 ∷ []

-- the properties from here on
abbrev pub parts_text : List Property → Properties → Bool → List ℕ
parts_text [] v first = ending_of first
parts_text (p ∷ ps) v first = marked p (given p v) first ++ parts_text ps v (stays (given p v) first)

-- whether a value isn't given
abbrev pub is_missing : {A : Type 0} → Option A → Bool
is_missing None = true
is_missing (Some x) = false

-- whether none of the properties is given
abbrev pub all_missing : List Property → Properties → Bool
all_missing [] v = true
all_missing (p ∷ ps) v = is_missing (given p v) && all_missing ps v
