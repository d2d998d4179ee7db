-- What a table spells: a kind and its fields, as the kind's name and the tokens of the fields in order.
use Rattle.std.specs.Prelude.{ℕ, List, ◌∷◌}
use Rattle.lapin_tokens.specs.Fields.{Field, Values, tokens, AllFit}

-- the tokens of a kind and its fields
abbrev pub entry_tokens : {K : Type 0} → (K → List ℕ) → (fields : K → List Field) → (k : K) × Values (fields k) → List (List ℕ)
entry_tokens name fields p = name p.0 ∷ tokens (fields p.0) p.1

-- each field has a token
abbrev pub EntryFits : {K : Type 0} → (fields : K → List Field) → (k : K) × Values (fields k) → Type 0
EntryFits fields p = AllFit (fields p.0) p.1
