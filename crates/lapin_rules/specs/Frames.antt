-- The frames of a publish, and the entries of the lists that leave (AMQP 0-9-1, sections 4.2.3 and 4.2.6, content framing).
use Rattle.std.specs.Prelude.{ℕ, zero, suc, ◌-◌, Bool, true, false, List, [], ◌∷◌, map, length, take, drop, Option, Some, None}
use Rattle.lapin_types.specs.declared.leaving.Publish.{Publish}
use Rattle.lapin_types.specs.declared.leaving.Left.{Left}
use Rattle.lapin_types.specs.Types.{Frame, Method}
use Rattle.lapin_types.specs.Types.frame
use Rattle.lapin_types.specs.Types.method
use Rattle.lapin_types.specs.Types.basic

-- the list has no element
abbrev pub is_empty : {X : Type 0} → List X → Bool
is_empty [] = true
is_empty (x ∷ xs) = false

-- at most so many pieces of at most n bytes, from the front
abbrev pub pieces : ℕ → ℕ → List ℕ → List (List ℕ)
pieces zero n bytes = []
pieces (suc most) n [] = []
pieces (suc most) n (b ∷ bs) = take n (b ∷ bs) ∷ pieces most n (drop n (b ∷ bs))

-- the bytes cut into pieces of n, the last shorter where needed; no bytes have no piece
abbrev pub cut : ℕ → List ℕ → List (List ℕ)
cut n bytes = pieces (length bytes) n bytes

-- the most payload that a body frame holds: a frame has 8 bytes beside its payload
abbrev pub room_for_body : ℕ → ℕ
room_for_body frame_max = frame_max - 8

-- the body frames of a payload on channel c; an empty payload has none (AMQP 0-9-1, section 4.2.6, content framing)
abbrev pub bodies : ℕ → ℕ → List ℕ → List Frame
bodies frame_max c bytes = map (λ piece. frame.Body c piece) (cut (room_for_body frame_max) bytes)

-- the method of a publish: `basic.publish` with its exchange, its routing key and its options (AMQP 0-9-1, basic.publish)
abbrev pub publish_method : Publish → Method
publish_method p = method.Basic (basic.Publish p.exchange p.routing_key p.options.mandatory p.options.immediate)

-- a content header of class basic with the payload's length and the properties
abbrev pub content_header : Publish → Frame
content_header p = frame.Header p.channel (record { class_id = 60; body_size = length p.payload; properties = p.properties })

-- what follows the method of a publish: its header, then its payload cut into bodies
abbrev pub contents : ℕ → Publish → List Frame
contents frame_max p = content_header p ∷ bodies frame_max p.channel p.payload

-- the frames of a publish
abbrev pub publish_frames : ℕ → Publish → List Frame
publish_frames frame_max p = frame.Method p.channel (publish_method p) ∷ contents frame_max p

-- ---- what waits to leave, and how it leaves

-- a method that waits, with its ticket, if it has one
pub record MethodEntry : Type 0 where
  pub channel : ℕ
  pub method : Method
  pub ticket : Option ℕ

-- a frame behind the method of the begun publish, with the publish's ticket and confirm number
pub record RestEntry : Type 0 where
  pub frame : Frame
  pub ticket : ℕ
  pub publish : ℕ
  -- whether it is the publish's last frame
  pub last : Bool

-- a method leaves: one frame, the first and the last of its entry
abbrev pub left_method : MethodEntry → Left
left_method m = record { frame = frame.Method m.channel m.method; ticket = m.ticket; publish = None; first = true; last = true; again = false }

-- a frame behind a publish's method leaves
abbrev pub left_rest : RestEntry → Left
left_rest f = record { frame = f.frame; ticket = Some f.ticket; publish = Some f.publish; first = false; last = f.last; again = false }

-- a publish begins: its method frame leaves
abbrev pub left_publish : Publish → Left
left_publish p = record { frame = frame.Method p.channel (publish_method p); ticket = Some p.ticket; publish = Some p.confirm; first = true; last = false; again = false }

-- the frames behind the method of a publish, the last of them marked
abbrev pub behind : Publish → List Frame → List RestEntry
behind p [] = []
behind p (f ∷ fs) = record { frame = f; ticket = p.ticket; publish = p.confirm; last = is_empty fs } ∷ behind p fs

-- the rest that a publish leaves as it begins: its header and its bodies, the last of them marked
abbrev pub rest_of : ℕ → Publish → List RestEntry
rest_of frame_max p = behind p (contents frame_max p)
