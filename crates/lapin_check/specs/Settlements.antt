-- Which frames are settlements of publishes, and what they cover. (RabbitMQ's publisher confirms.)
use Rattle.std.specs.Prelude.{ℕ, ◌==◌, Bool, true, false, ◌&&◌, ◌||◌, nat_le, if◌then◌else◌, Option, Some, None}
use Rattle.lapin_types.specs.Types.{Frame, BasicMethod}
use Rattle.lapin_types.specs.Types.frame
use Rattle.lapin_types.specs.Types.method
use Rattle.lapin_types.specs.Types.basic
use Rattle.lapin_check.specs.declared.seen.Seen.{Seen}
use Rattle.lapin_check.specs.declared.seen.Seen.TheVariants as seen
use Rattle.lapin_check.specs.declared.seen.Settlement.{Settlement}
use Rattle.lapin_check.specs.declared.account.Counted.{Counted}

-- `basic.ack` or `basic.nack`, with its number and whether it is multiple
abbrev pub settlement_by : ℕ → BasicMethod → Option Settlement
settlement_by c (basic.Ack n multiple) = Some (record { channel = c; number = n; multiple = multiple; ack = true })
settlement_by c (basic.Nack n multiple requeue) = Some (record { channel = c; number = n; multiple = multiple; ack = false })
settlement_by c _ = None

-- the settlement that a frame is
abbrev pub settlement_in : Frame → Option Settlement
settlement_in (frame.Method c (method.Basic m)) = settlement_by c m
settlement_in _ = None

-- the settlement that the broker sends: a client's ack and nack are of deliveries
abbrev pub settlement_seen : Seen → Option Settlement
settlement_seen (seen.Up f) = None
settlement_seen (seen.Down f) = settlement_in f

-- a single settlement reaches its own number, a multiple one each number up to its own, and with 0 every number
abbrev pub reaches : Settlement → ℕ → Bool
reaches s n = if s.multiple then s.number == 0 || nat_le n s.number else s.number == n

-- A settlement that is sent while the channel has this opening covers a publish of that channel and opening whose number it reaches.
abbrev pub covers : Settlement → ℕ → Counted → Bool
covers s o k = s.channel == k.channel && o == k.opening && reaches s k.number
