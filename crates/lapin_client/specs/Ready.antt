-- Which of many has something to be told.
use Rattle.std.specs.Prelude.{◌≡◌, ◌≤◌, ◌<◌, ℕ, true, false, List, length, Option, Some, None, slice_get}
use Rattle.lapin_machine.specs.Told.{is_pending_record}
use Rattle.lapin_machine.specs.World.{World, told_by}
use Rattle.lapin_types.specs.declared.event.Event.{Event}

-- each number at a place between these two is one whose poll is pending
abbrev pub AllPending : (ℕ → Event) → ℕ → ℕ → List ℕ → World → Type 0
AllPending poll from to numbers w = (place number : ℕ) → from ≤ place → place < to → slice_get numbers place ≡ Some number → is_pending_record (told_by w (poll number)) ≡ true

-- The first place from one on whose number's poll isn't pending; or there is none.
abbrev pub IsFirstReady : Option ℕ → (ℕ → Event) → ℕ → List ℕ → World → Type 0
IsFirstReady None poll from numbers w = AllPending poll from (length numbers) numbers w
IsFirstReady (Some place) poll from numbers w = (number : ℕ) × (slice_get numbers place ≡ Some number) × (from ≤ place) × (is_pending_record (told_by w (poll number)) ≡ false) × AllPending poll from place numbers w
