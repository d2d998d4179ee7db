-- How the ends of a key are found where one key stands apart from the table of the others. No public clause cites this module.
use Rattle.std.specs.Prelude.{◌≡◌, ℕ, nat_eq, List, ◌∷◌, Option, Some, None}
use Rattle.std.specs.Map.{lookup}
use Rattle.lapin_outbox.specs.declared.ends.Ends.{Ends}
use Rattle.lapin_outbox.specs.declared.ends.Near.{Near}

-- the key that stands apart comes before the others
abbrev pub in_front : Option Near → List (ℕ × Ends) → List (ℕ × Ends)
in_front None others = others
in_front (Some n) others = (n.key, n.ends) ∷ others

-- the key that stands apart isn't among the others
abbrev pub IsApart : Option Near → List (ℕ × Ends) → Type 0
IsApart None others = Unit {0}
IsApart (Some n) others = lookup (nat_eq n.key) others ≡ None
