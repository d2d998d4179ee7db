-- Heartbeats: what is due at a time, from when bytes were sent and heard last. Times are milliseconds.
use Rattle.std.specs.Prelude.{ℕ, ◌+◌, ◌-◌, ◌*◌, ◌==◌, Bool, if◌then◌else◌, nat_lt}
use Rattle.lapin_handshake.specs.declared.clock.Clock.{Clock}
use Rattle.lapin_handshake.specs.declared.clock.Beat.{Beat}
use Rattle.lapin_handshake.specs.declared.clock.Beat.TheVariants as beat

-- the lesser of two waits
abbrev pub wait_of : ℕ → ℕ → ℕ
wait_of one other = if nat_lt one other then one else other

-- bytes were sent
abbrev pub sent_at : ℕ → Clock → Clock
sent_at now c = record { sent = now; heard = c.heard; seconds = c.seconds }

-- bytes were heard
abbrev pub heard_at : ℕ → Clock → Clock
heard_at now c = record { sent = c.sent; heard = now; seconds = c.seconds }

-- Without heartbeats nothing is ever due. Else the broker was silent for too long where it was for more than two intervals; a heartbeat is due
-- where nothing was sent for half an interval; and else the wait is until one of the two can be.
abbrev pub beat_at : ℕ → Clock → Beat
beat_at now c =
    if c.seconds == 0 then beat.Never else
    if nat_lt (c.seconds * 2000) (now - c.heard) then beat.Silent else
    if nat_lt (now - c.sent) (c.seconds * 500) then beat.Wait (wait_of (c.seconds * 500 - (now - c.sent)) (c.seconds * 2000 + 1 - (now - c.heard))) else beat.Send
