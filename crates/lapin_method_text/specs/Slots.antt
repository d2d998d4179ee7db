-- The slot of a name, by which its method is found at once: no two methods have names of one slot.
use Rattle.std.specs.Prelude.{ℕ, ◌+◌, ◌-◌, ◌*◌, ◌%◌, ◌||◌, nat_lt, if◌then◌else◌, List, length, slice_index, Option, None}
use Rattle.std.specs.List.{slice_get}
use Rattle.lapin_method_text.specs.declared.kinds.MethodKind.{MethodKind}
use Rattle.lapin_method_text.specs.declared.kinds.TheConstants.{KINDS, PLACES}

-- the slot of a name: a number below 128, made of its length, its fourth byte, its last and the fifth from the end
abbrev pub slot : List ℕ → ℕ
slot name = (17 * length name + 8 * (slice_index name 3 + slice_index name (length name - 1)) + 31 * slice_index name (length name - 5)) % 128

-- the only method that may have this name
unfoldable pub candidate : List ℕ → Option MethodKind
candidate name = if nat_lt (length name) 5 || nat_lt 19 (length name) then None else slice_get KINDS (slice_index PLACES (slot name))
