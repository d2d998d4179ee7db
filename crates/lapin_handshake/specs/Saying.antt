-- What the broker says on channel 0: the layout of its methods, field by field (AMQP 0-9-1, class 10).
use Rattle.std.specs.Prelude.{◌≡◌, ℕ, ◌==◌, List, Option, Some, None, Result, Ok, Err, if◌then◌else◌}
use Rattle.lapin_fields.specs.Around.{around_at}
use Rattle.lapin_fields.specs.Reading.{◌>>=◌, short_at, long_at, counted_at, string_at, Fails}
use Rattle.lapin_fields.specs.declared.fault.ReadFault.{ReadFault}
use Rattle.lapin_handshake.specs.declared.said.Said.{Said}
use Rattle.lapin_handshake.specs.declared.said.Said.TheVariants as said
use Rattle.lapin_handshake.specs.Mechanisms.{offers_of}
use Rattle.lapin_handshake.specs.Starting.{fields_at, alone}

-- a start: its version, and which mechanisms its list has
abbrev pub start_at : List ℕ → Option (Said × List ℕ)
start_at octets = fields_at octets >>= λ s. Some (said.Start s.0.0 s.0.1 (offers_of s.0.3), s.1)

-- a challenge behind its length in four octets
abbrev pub secure_at : List ℕ → Option (Said × List ℕ)
secure_at octets = counted_at octets >>= λ challenge. Some (said.Secure, challenge.1)

-- the greatest channel in two octets, the greatest frame in four, the seconds between heartbeats in two
abbrev pub tune_at : List ℕ → Option (Said × List ℕ)
tune_at octets = short_at octets >>= λ channel_max. long_at channel_max.1 >>= λ frame_max. short_at frame_max.1 >>= λ heartbeat.
    Some (said.Tune channel_max.0 frame_max.0 heartbeat.0, heartbeat.1)

-- a reserved short text
abbrev pub open_ok_at : List ℕ → Option (Said × List ℕ)
open_ok_at octets = string_at octets >>= λ reserved. Some (said.OpenOk, reserved.1)

-- the code, a short text, and the method that it is about
abbrev pub close_at : List ℕ → Option (Said × List ℕ)
close_at octets = short_at octets >>= λ code. string_at code.1 >>= λ text. short_at text.1 >>= λ class. short_at class.1 >>= λ method.
    Some (said.Close code.0, method.1)

-- the reason, a short text
abbrev pub blocked_at : List ℕ → Option (Said × List ℕ)
blocked_at octets = string_at octets >>= λ reason. Some (said.Blocked, reason.1)

-- the fields of the method of that number
abbrev pub said_at : ℕ → List ℕ → Option (Said × List ℕ)
said_at number octets =
    if number == 10 then start_at octets else
    if number == 20 then secure_at octets else
    if number == 30 then tune_at octets else
    if number == 41 then open_ok_at octets else
    if number == 50 then close_at octets else
    if number == 60 then blocked_at octets else
    if number == 61 then Some (said.Unblocked, octets) else None

-- a payload: the class, which is 10, the method's number, and its fields and nothing behind them
abbrev pub method_said : List ℕ → Option Said
method_said payload = short_at payload >>= λ class. short_at class.1 >>= λ number. (if class.0 == 10 then alone (said_at number.0 number.1) else None)

-- a frame of a kind: a method, or a heartbeat, whatever is in it
abbrev pub payload_said : ℕ → List ℕ → Option Said
payload_said kind payload = if kind == 1 then method_said payload else if kind == 8 then Some said.Heartbeat else None

-- the frame at the head of octets: it is of channel 0
abbrev pub frame_said_at : List ℕ → Option Said
frame_said_at octets = around_at octets >>= λ frame. (if frame.0.1 == 0 then payload_said frame.0.0 frame.0.2 else None)

-- what a reader returned is what is said, and nothing is said where it refused
abbrev pub GivesSaid : Result Said ReadFault → Option Said → Type 0
GivesSaid (Ok s) given = given ≡ Some s
GivesSaid (Err e) given = Fails e given
