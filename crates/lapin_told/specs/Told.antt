-- What may come to a session. The premise is on events alone: of the records that the session tells nothing is assumed.
use Rattle.std.specs.Prelude.{ℕ, ◌+◌, ◌^◌, ◌<◌, List, [], length, All}
use Rattle.lapin_types.specs.declared.event.Event.{Event}
use Rattle.lapin_types.specs.declared.event.Event.TheVariants as event
use Rattle.lapin_types.specs.declared.call.Call.TheVariants as call
use Rattle.lapin_text.specs.Events.{HasLine}

-- the bytes that an event publishes: those of a publish, none of any other event
abbrev pub published_by : Event → List ℕ
published_by (event.Call c (call.BasicPublish exchange key options payload properties)) = payload
published_by (event.Call c (call.TryBasicPublish exchange key options payload properties)) = payload
published_by _ = []

-- the event may come: it has a line, and what it publishes is shorter than 2^64 bytes, so that a content header can announce it
pub record MayCome (e : Event) : Type 0 where
  pub line : HasLine e
  pub payload : length (published_by e) < 2 ^ 64

-- these events may come to a session, and then this one: each of them may, and together they are fewer than 2^64, so that no number is
-- used up
pub record MayComeThen (events : List Event) (e : Event) : Type 0 where
  pub before : All MayCome events
  pub last : MayCome e
  pub fewer : length events + 1 < 2 ^ 64
