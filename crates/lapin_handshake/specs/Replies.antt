-- What this side says while a connection is opened, octet by octet (AMQP 0-9-1, sections 2.2.4 and 4.2.7, class 10).
use Rattle.std.specs.Prelude.{◌≡◌, ℕ, ◌≤◌, List, [], ◌∷◌, ◌++◌, length}
use Rattle.lapin_fields.specs.Fields.{octet, short, long, counted}
use Rattle.lapin_fields.specs.Around.{around}
use Rattle.lapin_fields.specs.Fits.{StringFits}
use Rattle.lapin_handshake.specs.declared.handshake.Limits.{Limits}
use Rattle.lapin_handshake.specs.declared.handshake.Reply.{Reply}
use Rattle.lapin_handshake.specs.declared.handshake.Reply.TheVariants as reply
use Rattle.lapin_handshake.specs.declared.mechanism.Mechanism.{Mechanism}
use Rattle.lapin_handshake.specs.Callers.{Who, client_properties}
use Rattle.lapin_handshake.specs.Mechanisms.{word_of, response_of}

-- before all frames: AMQP, and the version
abbrev pub protocol_header : List ℕ
protocol_header = 65 ∷ 77 ∷ 81 ∷ 80 ∷ 0 ∷ 0 ∷ 9 ∷ 1 ∷ []

-- a heartbeat: a frame of type 8 on channel 0 with nothing in it
abbrev pub heartbeat : List ℕ
heartbeat = around 8 0 []

-- a short text behind its length
abbrev pub short_text : List ℕ → List ℕ
short_text t = length t ∷ t

-- the mechanism, its response and the locale
unfoldable pub start_end : Mechanism → List ℕ → List ℕ → List ℕ → List ℕ
start_end m user password locale = short_text (word_of m) ++ counted (response_of m user password) ++ short_text locale

-- what this side tells of itself, the mechanism with its response, and the locale
unfoldable pub start_ok_fields : Who → List ℕ → Mechanism → List ℕ
start_ok_fields who locale m = short 10 ++ short 11 ++ counted (client_properties who.pairs) ++ start_end m who.user who.password locale

-- the response once more
abbrev pub secure_ok_fields : Who → Mechanism → List ℕ
secure_ok_fields who m = short 10 ++ short 21 ++ counted (response_of m who.user who.password)

-- the limits that both sides keep
abbrev pub tune_ok_fields : Limits → List ℕ
tune_ok_fields limits = short 10 ++ short 31 ++ short limits.channel_max ++ long limits.frame_max ++ short limits.heartbeat

-- the virtual host, and two reserved fields
abbrev pub open_fields : List ℕ → List ℕ
open_fields vhost = short 10 ++ short 40 ++ short_text vhost ++ octet 0 ++ octet 0

-- the frames of a reply, on channel 0
abbrev pub reply_bytes : Who → List ℕ → Reply → List ℕ
reply_bytes who locale reply.Nothing = []
reply_bytes who locale (reply.StartOk m) = around 1 0 (start_ok_fields who locale m)
reply_bytes who locale (reply.SecureOk m) = around 1 0 (secure_ok_fields who m)
reply_bytes who locale (reply.Open limits) = around 1 0 (tune_ok_fields limits) ++ around 1 0 (open_fields who.vhost)
reply_bytes who locale reply.CloseOk = around 1 0 (0 ∷ 10 ∷ 0 ∷ 51 ∷ [])

-- A reply has room: what is told of this side in a frame, and the locale and the name of the virtual host in short texts.
abbrev pub ReplyFits : Who → List ℕ → Reply → Type 0
ReplyFits who locale (reply.StartOk m) = StringFits (start_ok_fields who locale m) × (length locale ≤ 255)
ReplyFits who locale (reply.SecureOk m) = StringFits (secure_ok_fields who m)
ReplyFits who locale (reply.Open limits) = length who.vhost ≤ 255
ReplyFits who locale _ = Unit {0}

-- a reply that says a mechanism says this one
abbrev pub Says : Mechanism → Reply → Type 0
Says m (reply.StartOk n) = n ≡ m
Says m (reply.SecureOk n) = n ≡ m
Says m _ = Unit {0}
