-- What waits is published, in order.
use Rattle.std.specs.Prelude.{ℕ, ◌==◌, ◌-◌, true, false, not, ◌&&◌, if◌then◌else◌, List, Option, Some, None}
use Rattle.lapin_types.specs.declared.call.Call.{Call}
use Rattle.lapin_types.specs.declared.call.Call.TheVariants as call
use Rattle.lapin_types.specs.declared.event.Event.{Event}
use Rattle.lapin_types.specs.declared.event.Event.TheVariants as event
use Rattle.lapin_types.specs.declared.record.Record.{Record}
use Rattle.lapin_types.specs.declared.record.Record.TheVariants as record_
use Rattle.lapin_machine.specs.World.{World, told_by}
use Rattle.lapin_keeping.specs.declared.kept.Kept.{Kept}
use Rattle.lapin_keeping.specs.declared.message.Message.{Message}
use Rattle.lapin_keeping.specs.Fates.{waits}
use Rattle.lapin_publisher.specs.declared.turn.Turn.{Turn}
use Rattle.lapin_publisher.specs.declared.turn.Room.{Room}
use Rattle.lapin_publisher.specs.Each.{each, IsUntil}
use Rattle.lapin_publisher.specs.Opening.{called}

-- the call that publishes a message: the same each time
abbrev pub publish_of : Message → Call
publish_of m = call.BasicPublish m.exchange m.routing_key m.options m.payload m.properties

abbrev pub publishing : ℕ → Kept → Event
publishing channel k = event.Call channel (publish_of k.message)

-- the confirm of a publish that was accepted
abbrev pub confirm_of : Record → Option ℕ
confirm_of (record_.Publish ticket confirm) = Some confirm
confirm_of _ = None

-- a message is published: its publish is outstanding from then on
abbrev pub published_one : ℕ → World → Kept → Kept × World
published_one channel w k = (
  record k { outstanding = confirm_of (told_by w (publishing channel k)); came_back = false; failed = false },
  called channel (publish_of k.message) w,
)

-- a message that is outstanding takes a place, and one that has to be alone all of them
abbrev pub room_taken : Kept → Room → Room
room_taken k r = record { left = if k.suspect then 0 else r.left - 1; taken = true }

-- the session, and the room that is left
abbrev pub Placing : Type 0
Placing = World × Room

abbrev pub stays : Placing → Kept → Kept × Placing
stays p k = (k, p)

abbrev pub goes : ℕ → Placing → Kept → Kept × Placing
goes channel p k = ((published_one channel p.0 k).0, ((published_one channel p.0 k).1, room_taken k p.1))

-- One that waits: it stays where the broker failed it and it may not be tried again yet; where it has to be alone and others are outstanding, nothing behind it goes
-- either; else it is published.
abbrev pub waiting_placed : Turn → Placing → Kept → Kept × Placing
waiting_placed t p k =
    if k.failed && not t.retry then stays p k else (if k.suspect && p.1.taken then (k, (p.0, record p.1 { left = 0 })) else goes t.channel p k)

-- a message where there is room: one that is outstanding takes of it
abbrev pub placed : Turn → Placing → Kept → Kept × Placing
placed t p k = if p.1.left == 0 then stays p k else (if waits k then waiting_placed t p k else (k, (p.0, room_taken k p.1)))

-- all messages, with the whole window as room
abbrev pub all_placed : Turn → World → List Kept → List Kept × Placing
all_placed t w ks = each (placed t) (w, record { left = t.window; taken = false }) ks

-- a publish was refused: those before it are made, and the messages from it on stay
abbrev pub Stopped : Turn → World → World → List Kept → List Kept → Type 0
Stopped t w v old new = (r : Room) × IsUntil (placed t) (w, record { left = t.window; taken = false }) (v, r) old new
