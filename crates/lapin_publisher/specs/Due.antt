-- What is due is out.
use Rattle.std.specs.Prelude.{◌≡◌, ◌⊎◌, ◌==◌, true, false, List, [], ◌∷◌}
use Rattle.std.specs.Bool.{MatchBool}
use Rattle.std.specs.Option.{is_some}
use Rattle.lapin_keeping.specs.declared.kept.Kept.{Kept}
use Rattle.lapin_publisher.specs.declared.turn.Turn.{Turn}
use Rattle.lapin_publisher.specs.declared.turn.Room.{Room}
use Rattle.lapin_publisher.specs.Publishes.{room_taken}

-- Through the messages in order, with so much room: each is outstanding and takes of the room; or it waits since the broker failed it and it may not be tried again in
-- this turn; or it has to be alone and another is outstanding, and then those behind it may wait too. Where no room is left, the rest may wait.
abbrev pub IsOut : Turn → Room → List Kept → Type 0
IsOut t r [] = Unit {0}
IsOut t r (k ∷ ks) =
    MatchBool (r.left == 0) (Unit {0}) (MatchBool (is_some k.outstanding) (IsOut t (room_taken k r) ks) (((k.failed ≡ true) × ((t.retry ≡ false) × IsOut t r ks)) ⊎ ((k.suspect ≡ true) × (r.taken ≡ true))))

-- the same with the whole window as room
abbrev pub AreOut : Turn → List Kept → Type 0
AreOut t ks = IsOut t (record { left = t.window; taken = false }) ks
