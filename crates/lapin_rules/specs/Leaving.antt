-- The three lists of frames that wait, and what a frame request gives and leaves.
use Rattle.std.specs.Prelude.{ℕ, Bool, List, [], ◌∷◌, Option, Some, None}
use Rattle.std.specs.List.{find}
use Rattle.std.specs.Option.{option_map}
use Rattle.lapin_types.specs.declared.leaving.Publish.{Publish}
use Rattle.lapin_types.specs.declared.leaving.Left.{Left}
use Rattle.lapin_rules.specs.Words.{without_first}
use Rattle.lapin_rules.specs.Frames.{MethodEntry, RestEntry, left_method, left_rest, left_publish, rest_of}

-- frames of the begun publish that have not left; methods that have not left, in order of queueing; publishes that have not
-- begun, in order of call over all channels
pub record Lists : Type 0 where
  pub rest : List RestEntry
  pub methods : List MethodEntry
  pub publishes : List Publish

-- whether a publish may begin, where t tells on which channels one may
abbrev pub may_begin : (ℕ → Bool) → Publish → Bool
may_begin t p = t p.channel

-- A frame request gives the first frame of the begun publish; else the first method; else the first publish that may begin begins:
-- its method leaves and its other frames become the rest; else none.
abbrev pub handed_method : (ℕ → Bool) → List MethodEntry → List Publish → Option Left
handed_method t (m ∷ ms) ps = Some (left_method m)
handed_method t [] ps = option_map left_publish (find (may_begin t) ps)

-- what a frame request gives: the first of the rest, else a method, else the method of a publish that may begin, else none
abbrev pub handed_of : (ℕ → Bool) → List RestEntry → List MethodEntry → List Publish → Option Left
handed_of t (f ∷ fs) ms ps = Some (left_rest f)
handed_of t [] ms ps = handed_method t ms ps

-- the frames that follow the method of the publish that begins, if one does
abbrev pub begun_rest : ℕ → Option Publish → List RestEntry
begun_rest frame_max None = []
begun_rest frame_max (Some p) = rest_of frame_max p

-- what a frame request leaves where the rest is empty: the first method is gone, or else the first publish that may begin has begun
abbrev pub left_methods : ℕ → (ℕ → Bool) → List MethodEntry → List Publish → Lists
left_methods frame_max t (m ∷ ms) ps = record { rest = []; methods = ms; publishes = ps }
left_methods frame_max t [] ps = record { rest = begun_rest frame_max (find (may_begin t) ps); methods = []; publishes = without_first (may_begin t) ps }

-- what a frame request leaves of the rest, the methods and the publishes
abbrev pub left_of : ℕ → (ℕ → Bool) → List RestEntry → List MethodEntry → List Publish → Lists
left_of frame_max t (f ∷ fs) ms ps = record { rest = fs; methods = ms; publishes = ps }
left_of frame_max t [] ms ps = left_methods frame_max t ms ps

-- what a frame request leaves of the three lists
abbrev pub left_lists : ℕ → (ℕ → Bool) → Lists → Lists
left_lists frame_max t l = left_of frame_max t l.rest l.methods l.publishes
