-- What lies under the lock.
use Rattle.std.specs.Prelude.{◌≡◌, ℕ, List, None, length}
use Rattle.lapin_types.specs.declared.event.Event.{Event}
use Rattle.lapin_types.specs.declared.record.Record.{Record}
use Rattle.lapin_machine.specs.World.{World}
use Rattle.lapin_machine.specs.Stands.{Stands}
use Rattle.lapin_locked.specs.declared.entry.Entry.{Entry}
use Rattle.lapin_locked.specs.Lawful.{history_of, IsLawful}

-- a history, and the session that stands for it
pub record UnderLock : Type 0 where
  pub frame_max : ℕ
  pub entries : List Entry
  pub world : World

-- a stored step of caller c
abbrev pub entry : ℕ → Event → Record → Entry
entry c e r = record { caller = c; event = e; answer = r }

-- The history is lawful, the session stands for it, and the ledger counts it. No frame is given back under the lock, so each step is
-- one of the history.
pub record IsKept (frame_max : ℕ) (entries : List Entry) (world : World) (total : ℕ) : Type 0 where
  pub lawful : IsLawful frame_max entries
  pub stands : Stands frame_max (history_of entries) world
  pub counted : length entries ≡ total
  pub steady : world.returned ≡ None
