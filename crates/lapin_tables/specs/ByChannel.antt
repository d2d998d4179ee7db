-- What a contract sees of a table by channel number.
use Rattle.std.specs.Prelude.{◌≡◌, ℕ, ◌<◌, ◌==◌, if◌then◌else◌, List, [], ◌∷◌, Option, Some, None, refl}
use Rattle.std.specs.Coded.{Coded, code_by, coded×, coded_ℕ, coded_list}

-- the pairs of a channel and its value in order of first use, for how many more channels there is room, and
-- below which number a channel may be for that room
pub record Table (T : Type 0) : Type 0 where
  pub entries : List (ℕ × T)
  pub spare : ℕ
  pub reach : ℕ

-- a table is stored as the tuple of its fields
abbrev pub table_code : {T : Type 0} → Coded T → Coded (Table T)
table_code {T} code =
    code_by
    (List (ℕ × T) × (ℕ × ℕ))
    (coded× (coded_list (coded× coded_ℕ code)) (coded× coded_ℕ coded_ℕ))
    (λ t. (t.entries, (t.spare, t.reach)))
    (λ p. record { entries = p.0; spare = p.1.0; reach = p.1.1 })
    (λ _. refl)

module _ {T : Type 0} where
  -- the value of a channel: that of the first pair with its number
  abbrev pub at_channel : ℕ → List (ℕ × T) → Option T
  at_channel c [] = None
  at_channel c (e ∷ es) = if e.0 == c then Some e.1 else at_channel c es

  -- the pairs with the function applied to the value of a channel
  abbrev pub on_channel : ℕ → (T → T) → List (ℕ × T) → List (ℕ × T)
  on_channel c f [] = []
  on_channel c f (e ∷ es) = if e.0 == c then (e.0, f e.1) ∷ es else e ∷ on_channel c f es

  -- one more value fits, and it may be that of the channel
  abbrev pub HasRoom : ℕ → Table T → Type 0
  HasRoom c t = (0 < t.spare) × (c < t.reach)

  -- nothing but the room differs
  abbrev pub SameEntries : Table T → Table T → Type 0
  SameEntries old new = new.entries ≡ old.entries
