-- The opening of a connection as a machine (AMQP 0-9-1, section 2.2.4): what is answered to what the broker says, and what is then waited for.
use Rattle.std.specs.Prelude.{ℕ, ◌==◌, ◌&&◌, Bool, true, false, Option, Some, None, Result, Ok, Err, if◌then◌else◌, nat_lt}
use Rattle.lapin_handshake.specs.declared.said.Said.{Said}
use Rattle.lapin_handshake.specs.declared.said.Said.TheVariants as said
use Rattle.lapin_handshake.specs.declared.handshake.Limits.{Limits}
use Rattle.lapin_handshake.specs.declared.handshake.Stage.{Stage}
use Rattle.lapin_handshake.specs.declared.handshake.Stage.TheVariants as stage
use Rattle.lapin_handshake.specs.declared.handshake.Refusal.{Refusal}
use Rattle.lapin_handshake.specs.declared.handshake.Refusal.TheVariants as refusal
use Rattle.lapin_handshake.specs.declared.handshake.Reply.{Reply}
use Rattle.lapin_handshake.specs.declared.handshake.Reply.TheVariants as reply
use Rattle.lapin_handshake.specs.declared.handshake.Handshake.{Handshake}
use Rattle.lapin_handshake.specs.declared.mechanism.Mechanism.{Mechanism}
use Rattle.lapin_handshake.specs.Mechanisms.{chosen}

-- nothing came yet
abbrev pub new_handshake : Mechanism → Limits → Handshake
new_handshake wanted limits = record { stage = stage.Start; mechanism = wanted; limits = limits }

-- the lesser limit, where 0 is none
abbrev pub lesser : ℕ → ℕ → ℕ
lesser ours theirs = if ours == 0 then theirs else if theirs == 0 then ours else if nat_lt ours theirs then ours else theirs

-- heartbeats are sent as often as the more patient side wants less often: the lesser number of seconds, and none where a side wants none
abbrev pub agreed_beat : ℕ → ℕ → ℕ
agreed_beat ours theirs = if nat_lt ours theirs then ours else theirs

-- the limits that both sides keep
abbrev pub agreed : Limits → Limits → Limits
agreed ours theirs = record {
  channel_max = lesser ours.channel_max theirs.channel_max;
  frame_max = lesser ours.frame_max theirs.frame_max;
  heartbeat = agreed_beat ours.heartbeat theirs.heartbeat;
}

-- a mechanism that was chosen is said, and where none was the connection isn't opened
abbrev pub saying : Option Mechanism → Result Reply Refusal
saying (Some m) = Ok (reply.StartOk m)
saying None = Err refusal.Mechanism

-- a start is answered where the version is 0-9 and a mechanism was chosen of those that are offered
abbrev pub start_reply : ℕ → ℕ → Option Mechanism → Result Reply Refusal
start_reply major minor m = if (major == 0) && (minor == 9) then saying m else Err refusal.Version

-- a tune is answered by what both sides keep, where that is no smaller than the smallest frame that a peer may ask for
abbrev pub tune_reply : Limits → Limits → Result Reply Refusal
tune_reply ours theirs = if nat_lt (lesser ours.frame_max theirs.frame_max) 4096 then Err refusal.FrameMax else Ok (reply.Open (agreed ours theirs))

-- what has its place at a stage: a start first, then challenges and a tune, then an open-ok; heartbeats and a close at each
abbrev pub is_awaited : Stage → Said → Bool
is_awaited stage.Start (said.Start major minor offers) = true
is_awaited stage.Tune said.Secure = true
is_awaited stage.Tune (said.Tune channel_max frame_max heartbeat) = true
is_awaited stage.Open said.OpenOk = true
is_awaited stage.Refused _ = false
is_awaited _ said.Heartbeat = true
is_awaited _ (said.Close code) = true
is_awaited _ _ = false

-- what is answered to something that has its place, by a mechanism; a challenge by the one that was said
abbrev pub reply_of : Mechanism → Limits → Said → Result Reply Refusal
reply_of m ours (said.Start major minor offers) = start_reply major minor (chosen m offers)
reply_of m ours said.Secure = Ok (reply.SecureOk m)
reply_of m ours (said.Tune channel_max frame_max heartbeat) = tune_reply ours (record { channel_max = channel_max; frame_max = frame_max; heartbeat = heartbeat })
reply_of m ours said.OpenOk = Ok reply.Nothing
reply_of m ours said.Heartbeat = Ok reply.Nothing
reply_of m ours (said.Close code) = Err (refusal.Closed code)
reply_of m ours _ = Err refusal.Unexpected

-- what is answered
abbrev pub reply_to : Handshake → Said → Result Reply Refusal
reply_to h s = if is_awaited h.stage s then reply_of h.mechanism h.limits s else Err refusal.Unexpected

-- where nothing is answered, an open-ok opened the connection
abbrev pub passed : Said → Handshake → Handshake
passed said.OpenOk h = record { stage = stage.Opened; mechanism = h.mechanism; limits = h.limits }
passed _ h = h

-- what an answer leaves
abbrev pub after_reply : Result Reply Refusal → Said → Handshake → Handshake
after_reply (Ok (reply.Open limits)) s h = record { stage = stage.Open; mechanism = h.mechanism; limits = limits }
after_reply (Ok (reply.StartOk m)) s h = record { stage = stage.Tune; mechanism = m; limits = h.limits }
after_reply (Ok reply.Nothing) s h = passed s h
after_reply (Ok _) s h = h
after_reply (Err e) s h = record { stage = stage.Refused; mechanism = h.mechanism; limits = h.limits }

-- what is then waited for, and the limits
abbrev pub after : Handshake → Said → Handshake
after h s = after_reply (reply_to h s) s h

-- the reply codes of the standard by which a refusal is told (AMQP 0-9-1, section 4.7): not-implemented, access-refused, not-allowed,
-- command-invalid and frame-error; a close has its own
abbrev pub code_of : Refusal → ℕ
code_of refusal.Version = 540
code_of refusal.Mechanism = 403
code_of refusal.FrameMax = 530
code_of (refusal.Closed code) = code
code_of refusal.Unexpected = 503
code_of refusal.Malformed = 501
