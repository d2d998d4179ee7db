-- What a caller gives to an opening, and what this side tells of itself by it.
use Rattle.std.specs.Prelude.{◌≡◌, ℕ, Bool, true, false, List, [], ◌∷◌, ◌++◌, Option, Some, None, ◌⊎◌, is_some}
use Rattle.lapin_values.specs.Table.{lookup}
use Rattle.lapin_fields.specs.Reading.{◌>>=◌}
use Rattle.lapin_fields.specs.ValueReading.{table_in}
use Rattle.lapin_handshake.specs.declared.caller.Caller.{Caller}
use Rattle.lapin_handshake.specs.declared.caller.TheConstants.{CAPABILITIES, PRODUCT}

-- octets that a caller gives: its name and password, the virtual host, and further pairs of the client's properties
pub record Who : Type 0 where
  pub user : List ℕ
  pub password : List ℕ
  pub vhost : List ℕ
  pub pairs : List ℕ

-- the same, as they stand where they were given
abbrev pub who_of : Caller → Who
who_of c = record { user = c.user.now; password = c.password.now; vhost = c.vhost.now; pairs = c.pairs.now }

-- whether a pair of that name is among pairs; nothing where the octets aren't the content of a table
abbrev pub named : List ℕ → List ℕ → Option Bool
named name pairs = table_in 8 pairs >>= λ ps. Some (is_some (lookup name ps))

-- the name of the pair that is this side's own to tell: capabilities
abbrev pub own_name : List ℕ
own_name = 99 ∷ 97 ∷ 112 ∷ 97 ∷ 98 ∷ 105 ∷ 108 ∷ 105 ∷ 116 ∷ 105 ∷ 101 ∷ 115 ∷ []

-- pairs that can be told: the content of a table, in which none has that name
abbrev pub AreTellable : List ℕ → Type 0
AreTellable pairs = named own_name pairs ≡ Some false

-- pairs that can't: no content of a table, or one that has it
abbrev pub AreUntellable : List ℕ → Type 0
AreUntellable pairs = (named own_name pairs ≡ None) ⊎ (named own_name pairs ≡ Some true)

-- the name of this client, which the caller's pairs may give another
abbrev pub own_product : Option Bool → List ℕ
own_product (Some true) = []
own_product (Some false) = PRODUCT
own_product None = PRODUCT

-- what this side tells of itself: what it can do, its name where the caller gives none, and the caller's pairs as they stand
unfoldable pub client_properties : List ℕ → List ℕ
client_properties pairs = CAPABILITIES ++ own_product (named (112 ∷ 114 ∷ 111 ∷ 100 ∷ 117 ∷ 99 ∷ 116 ∷ []) pairs) ++ pairs
