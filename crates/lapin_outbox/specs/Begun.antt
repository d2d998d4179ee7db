-- What is left of a begun publish.
use Rattle.std.specs.Prelude.{ℕ, List, [], ◌∷◌, map, Option, Some, None}
use Rattle.lapin_types.specs.declared.leaving.Left.{Left}
use Rattle.lapin_types.specs.Types.{Frame, ContentHeader}
use Rattle.lapin_types.specs.Types.frame
use Rattle.lapin_rules.specs.Frames.{RestEntry, left_rest, is_empty}

-- frames behind a publish's method with the publish's numbers, the last of them marked
abbrev pub following : ℕ → ℕ → List Frame → List RestEntry
following ticket confirm [] = []
following ticket confirm (f ∷ fs) = record { frame = f; ticket = ticket; publish = confirm; last = is_empty fs } ∷ following ticket confirm fs

-- the header until it leaves, then the bodies
abbrev pub frames_left : ℕ → Option ContentHeader → List (List ℕ) → List Frame
frames_left c None pieces = map (λ piece. frame.Body c piece) pieces
frames_left c (Some header) pieces = frame.Header c header ∷ map (λ piece. frame.Body c piece) pieces

-- the first of these entries as it leaves
abbrev pub first_left : List RestEntry → Option Left
first_left [] = None
first_left (f ∷ fs) = Some (left_rest f)
