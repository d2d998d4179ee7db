-- Which of the tickets, confirms and consumers that are waited for is ready first.
use Rattle.std.specs.Prelude.{Bool, not}
use Rattle.lapin_types.specs.declared.event.Event.{Event}
use Rattle.lapin_types.specs.declared.event.Event.TheVariants as event
use Rattle.lapin_machine.specs.World.{World, told_by}
use Rattle.lapin_machine.specs.Told.{is_pending_record}
use Rattle.lapin_loop.specs.declared.watch.Awaited.{Awaited}
use Rattle.lapin_loop.specs.declared.watch.Awaited.TheVariants as awaited

-- the poll of what is waited for
abbrev pub poll_of : Awaited → Event
poll_of (awaited.Ticket t) = event.PollTicket t.number
poll_of (awaited.Confirm c) = event.PollConfirm c.number
poll_of (awaited.Consumer c) = event.PollConsumer c.number

-- a poll of it would not be pending
abbrev pub is_ready : World → Awaited → Bool
is_ready w a = not (is_pending_record (told_by w (poll_of a)))
