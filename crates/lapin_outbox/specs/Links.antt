-- How the first number of a key is found at once. No public clause cites this module.
use Rattle.std.specs.Prelude.{◌≡◌, ℕ, suc, ◌==◌, Bool, false, if◌then◌else◌, List, [], ◌∷◌, map, Option, Some, None}
use Rattle.std.specs.Option.{option_map}
use Rattle.lapin_outbox.specs.declared.order.Link.{Link}
use Rattle.lapin_outbox.specs.declared.ends.Ends.{Ends}

-- the key of the number under which a link stands
abbrev pub link_key : Link → ℕ
link_key l = l.key

-- the key under each number
abbrev pub keys_of : List (Option Link) → List (Option ℕ)
keys_of ls = map (option_map link_key) ls

-- whether this link is there and of this key
abbrev pub is_link_of : ℕ → Option Link → Bool
is_link_of c None = false
is_link_of c (Some l) = l.key == c

-- the ends one number further, where the number before them is of their key or isn't
abbrev pub ends_behind : Bool → Option Ends → Option Ends
ends_behind b None = if b then Some (record { first = 1; last = 1 }) else None
ends_behind b (Some e) = Some (record { first = if b then 1 else suc e.first; last = suc e.last })

-- the first number of a key and its last, if it has any
abbrev pub ends_of : ℕ → List (Option Link) → Option Ends
ends_of c [] = None
ends_of c (o ∷ os) = ends_behind (is_link_of c o) (ends_of c os)

-- how far off the first number is; 0 where there is none
abbrev pub distance : Option Ends → ℕ
distance None = 0
distance (Some e) = e.first

-- each link says how far behind it the next number of its key stands
abbrev pub AreLinked : List (Option Link) → Type 0
AreLinked [] = Unit {0}
AreLinked (None ∷ os) = AreLinked os
AreLinked (Some l ∷ os) = (l.next ≡ distance (ends_of l.key os)) × AreLinked os
