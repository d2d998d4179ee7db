-- What a list of events leaves of a new session.
use Rattle.std.specs.Prelude.{ℕ, List}
use Rattle.std.specs.List.{fold}
use Rattle.lapin_types.specs.declared.event.Event.{Event}
use Rattle.lapin_machine.specs.World.{World, new_world, next}

-- the session that these events leave of a new one, which has this greatest frame
abbrev pub world_after : ℕ → List Event → World
world_after frame_max es = fold next (new_world frame_max) es
