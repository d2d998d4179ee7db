-- The first caller of a list makes events.
use Rattle.std.specs.Prelude.{◌≡◌, List, [], ◌∷◌, ◌++◌, map}
use Rattle.lapin_types.specs.declared.event.Event.{Event}
use Rattle.lapin_shared.specs.Grown.{Seen}
use Rattle.lapin_shared.specs.Own.{event_of}

-- the first caller made these events in order, and the others are as they were
abbrev pub IsFirst : List Event → List Seen → List Seen → Type 0
IsFirst es [] news = ⊥
IsFirst es (c ∷ cs) [] = ⊥
IsFirst es (c ∷ cs) (d ∷ ds) = (d.number ≡ c.number) × (map event_of d.log ≡ map event_of c.log ++ es) × (ds ≡ cs)
