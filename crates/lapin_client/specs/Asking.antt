-- Calls by the octets of their methods (AMQP 0-9-1, section 2.3.5.1: a method's class, its number and its arguments).
use Rattle.std.specs.Prelude.{◌≡◌, ◌<◌, ◌≤◌, ◌+◌, ◌⊎◌, ◌==◌, ◌&&◌, ℕ, if◌then◌else◌, List, length, Option, Some, None, Result, Ok, Err}
use Rattle.lapin_client.specs.declared.client.Client.{Client}
use Rattle.lapin_client.specs.declared.status.Status.{Status}
use Rattle.lapin_client.specs.declared.status.Status.TheVariants as status
use Rattle.lapin_client.specs.Clients.{SameBytes, SameTold}
use Rattle.lapin_client.specs.Refusals.{Keeps}
use Rattle.lapin_fields.specs.Reading.{◌>>=◌}
use Rattle.lapin_frames.specs.FrameReading.{whole}
use Rattle.lapin_frames.specs.MethodReading.{method_at}
use Rattle.lapin_machine.specs.Numbers.{EventUsedUp}
use Rattle.lapin_machine.specs.World.{next, told_by}
use Rattle.lapin_methods.specs.declared.channel.ChannelMethod.{ChannelMethod}
use Rattle.lapin_methods.specs.declared.connection.ConnectionMethod.{ConnectionMethod}
use Rattle.lapin_text.specs.Calls.{call_of, channel_call}
use Rattle.lapin_types.specs.Types.{Error, Method}
use Rattle.lapin_types.specs.Types.channel as channel_method
use Rattle.lapin_types.specs.Types.connection as connection_method
use Rattle.lapin_types.specs.Types.method
use Rattle.lapin_types.specs.declared.call.Call.{Call}
use Rattle.lapin_types.specs.declared.call.Call.TheVariants as call
use Rattle.lapin_types.specs.declared.event.Event.{Event}
use Rattle.lapin_types.specs.declared.event.Event.TheVariants as event
use Rattle.lapin_types.specs.declared.record.Record.TheVariants as record_

-- a close names no method that failed: it is the caller's own
abbrev pub where_bare : ℕ → ℕ → Call → Option Call
where_bare class number k = if (class == 0) && (number == 0) then Some k else None

-- the call of a method of class channel: that which queues it and has its fields alone, or the close that it is
abbrev pub channel_or_close : ChannelMethod → Option Call
channel_or_close (channel_method.Close code text class number) = where_bare class number (call.ChannelClose code text)
channel_or_close m = channel_call m

-- that of one of class connection: a close
abbrev pub connection_or_close : ConnectionMethod → Option Call
connection_or_close (connection_method.Close code text class number) = where_bare class number (call.ConnectionClose code text)
connection_or_close _ = None

-- and that of any method
abbrev pub call_or_close : Method → Option Call
call_or_close (method.Channel m) = channel_or_close m
call_or_close (method.Connection m) = connection_or_close m
call_or_close m = call_of m

-- the call whose method octets are, from its class on to their end
abbrev pub called_in : List ℕ → Option Call
called_in octets = whole (method_at octets) >>= λ m. call_or_close m

-- how many octets the frame of a method has: seven before it, and its end
abbrev pub frame_length : List ℕ → ℕ
frame_length octets = length octets + 8

-- why the session did not meet an event: it refused it, as is kept; it has no number for it; or there was no memory. The session is the same.
abbrev pub NotMet : Status → Event → Client → Client → Type 0
NotMet status.Refused e c d = (error : Error) × (told_by c.session e ≡ record_.Refused error) × Keeps error c d
NotMet status.Ended e c d = EventUsedUp e c.session.wire × SameTold c d
NotMet status.NoMemory e c d = SameTold c d
NotMet _ e c d = ⊥

-- a call by its event: the session met it, and the number is that of its ticket; where it fails nothing was done
abbrev pub CalledBy : Result ℕ Status → Event → Client → Client → Type 0
CalledBy (Ok ticket) e c d = (told_by c.session e ≡ record_.Ticket ticket) × (d.session ≡ next c.session e) × SameTold c d × SameBytes c d
CalledBy (Err s) e c d = NotMet s e c d × (d.session ≡ c.session) × SameBytes c d

-- nothing was done, and nothing told
abbrev pub IsUndone : Client → Client → Type 0
IsUndone c d = (d.session ≡ c.session) × SameTold c d × SameBytes c d

-- the call of a method, if it is one
abbrev pub CalledOf : Result ℕ Status → ℕ → Option Call → Client → Client → Type 0
CalledOf r channel (Some k) c d = CalledBy r (event.Call channel k) c d
CalledOf (Err status.NotInGrammar) channel None c d = IsUndone c d
CalledOf _ channel None c d = ⊥

-- a frame of this method may leave
abbrev pub HasFrame : List ℕ → ℕ → Type 0
HasFrame octets frame_max = frame_length octets ≤ frame_max

-- What becomes of a call by its octets: the session met it; or nothing was done: its frame would be longer than a frame may be, the octets are
-- no call, the client takes nothing further, or the session did not meet it.
abbrev pub Called : Result ℕ Status → ℕ → List ℕ → Client → Client → Type 0
Called (Err status.TooLong) channel octets c d = (c.frame_max < frame_length octets) × IsUndone c d
Called (Err status.NotInGrammar) channel octets c d = (HasFrame octets c.frame_max × (called_in octets ≡ None)) × IsUndone c d
Called (Err status.NoMemory) channel octets c d = IsUndone c d
Called (Err status.Ended) channel octets c d = ((c.left ≡ 0) ⊎ (HasFrame octets c.frame_max × (k : Call) × (called_in octets ≡ Some k) × EventUsedUp (event.Call channel k) c.session.wire)) × IsUndone c d
Called r channel octets c d = HasFrame octets c.frame_max × ((k : Call) × (called_in octets ≡ Some k) × CalledBy r (event.Call channel k) c d)

-- the event by which no more publishes of a channel than that are outstanding
abbrev pub limiting : ℕ → ℕ → Event
limiting channel limit = event.Call channel (call.ConfirmLimit limit)

-- the same of this call, which has no method
abbrev pub Limited : Result ℕ Status → ℕ → ℕ → Client → Client → Type 0
Limited (Err status.Ended) channel limit c d = ((c.left ≡ 0) ⊎ EventUsedUp (limiting channel limit) c.session.wire) × IsUndone c d
Limited r channel limit c d = CalledBy r (limiting channel limit) c d

-- What is left where the reply of a call will not be asked for any more. The session refuses it where it was given, or never will be.
abbrev pub Unasked : Status → ℕ → Client → Client → Type 0
Unasked status.Done ticket c d = (told_by c.session (event.AsideTicket ticket) ≡ record_.Aside) × (d.session ≡ next c.session (event.AsideTicket ticket)) × SameTold c d × SameBytes c d
Unasked status.Gone ticket c d = ((e : Error) × (told_by c.session (event.AsideTicket ticket) ≡ record_.Refused e)) × IsUndone c d
Unasked status.Ended ticket c d = (c.left ≡ 0) × (d ≡ c)
Unasked _ ticket c d = ⊥
