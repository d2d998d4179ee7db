-- The channel is opened, and asks for confirms.
use Rattle.std.specs.Prelude.{ℕ, Bool, true, false, not, ◌&&◌, if◌then◌else◌}
use Rattle.lapin_types.specs.declared.call.Call.{Call}
use Rattle.lapin_types.specs.declared.call.Call.TheVariants as call
use Rattle.lapin_types.specs.declared.event.Event.TheVariants as event
use Rattle.lapin_types.specs.declared.record.Record.{Record}
use Rattle.lapin_types.specs.declared.record.Record.TheVariants as record_
use Rattle.lapin_rules.specs.Wire.{state_of, is_open, is_closed}
use Rattle.lapin_machine.specs.World.{World, next, told_by}

-- the session once the ticket of a call was set aside
abbrev pub set_aside : Record → World → World
set_aside (record_.Publish ticket confirm) w = next w (event.AsideTicket ticket)
set_aside (record_.Ticket ticket) w = next w (event.AsideTicket ticket)
set_aside _ w = w

-- the session after a call, whose ticket was set aside
abbrev pub called : ℕ → Call → World → World
called c k w = set_aside (told_by w (event.Call c k)) (next w (event.Call c k))

-- whether the opening was asked for confirms, and the session
abbrev pub Opening : Type 0
Opening = Bool × World

-- a closed channel is opened, and was asked for nothing
abbrev pub opened : ℕ → Opening → Opening
opened c o = if is_closed (state_of c o.1.wire) then (false, called c call.OpenChannel o.1) else o

-- an open channel that wasn't asked yet is asked for confirms, without wait
abbrev pub selected : ℕ → Opening → Opening
selected c o = if not o.0 && is_open (state_of c o.1.wire) then (true, called c (call.ConfirmSelect (record { nowait = true })) o.1) else o
