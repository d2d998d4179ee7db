-- The contents that one channel expects, as a machine (AMQP 0-9-1, section 4.2.6, "Content Framing"): each waits for its
-- header, or for bytes. A header and a body are for the front of the list.
use Rattle.std.specs.Prelude.{ℕ, ◌-◌, ◌==◌, nat_le, Bool, true, false, ◌&&◌, if◌then◌else◌, List, [], ◌∷◌, ◌++◌, Option, Some, None, Result, Ok, Err, length}
use Rattle.std.specs.Option.{option_map}
use Rattle.lapin_methods.specs.declared.error.Error.{Error}
use Rattle.lapin_methods.specs.declared.error.Error.TheVariants as error
use Rattle.lapin_methods.specs.declared.frame.ContentHeader.{ContentHeader}
use Rattle.lapin_values.specs.Properties.{Properties}
use Rattle.lapin_content.specs.declared.start.Start.{Start}
use Rattle.lapin_content.specs.declared.start.Start.TheVariants as start
use Rattle.lapin_content.specs.declared.start.Whole.{Whole}

-- a content whose header came: how many bytes it still lacks, and the bodies so far, joined
pub record Begun : Type 0 where
  pub properties : Properties
  pub left : ℕ
  pub bytes : List ℕ

-- an expected content: its class, what began it, and what came of it, if its header came
pub record Expected : Type 0 where
  pub class_id : ℕ
  pub start : Start
  pub begun : Option Begun

-- a content that waits for its header
abbrev pub expected : ℕ → Start → Expected
expected k s = record { class_id = k; start = s; begun = None }

-- what began a get's content, for the get of this ticket
abbrev pub for_ticket : Option ℕ → Start → Start
for_ticket t (start.Get ticket tag exchange key redelivered count) = start.Get t tag exchange key redelivered count
for_ticket t s = s

-- what began a delivery, for this consumer
abbrev pub for_consumer : Option ℕ → Start → Start
for_consumer k (start.Deliver consumer tag exchange key redelivered) = start.Deliver k tag exchange key redelivered
for_consumer k s = s

-- ---- what a content waits for

-- no header came
abbrev pub is_unbegun : Option Begun → Bool
is_unbegun None = true
is_unbegun (Some b) = false

-- it waits for a header of the class
abbrev pub waits_for : ℕ → Expected → Bool
waits_for k e = is_unbegun e.begun && (e.class_id == k)

-- how many bytes are lacking, if the header came
abbrev pub lacked : Option Begun → Option ℕ
lacked None = None
lacked (Some b) = Some b.left

-- how many bytes it still lacks, if its header came
abbrev pub left_of : Expected → Option ℕ
left_of e = lacked e.begun

-- the header came, and at least as many bytes as these are lacking
abbrev pub has_place_for : List ℕ → Option Begun → Bool
has_place_for bytes None = false
has_place_for bytes (Some b) = nat_le (length bytes) b.left

-- it has had its header and lacks at least as many bytes
abbrev pub takes_body : List ℕ → Expected → Bool
takes_body bytes e = has_place_for bytes e.begun

-- ---- what a header or a body makes of it

-- its header came: it lacks as many bytes as were announced
abbrev pub begun_by : Properties → ℕ → Expected → Expected
begun_by q n e = record e { begun = Some (record { properties = q; left = n; bytes = [] }) }

-- the bytes join those that came
abbrev pub grown : List ℕ → Begun → Begun
grown bytes b = record b { left = b.left - length bytes; bytes = b.bytes ++ bytes }

-- the expected content once the bytes joined those that came; one without a header stays as it was
abbrev pub grown_by : List ℕ → Expected → Expected
grown_by bytes e = record e { begun = option_map (grown bytes) e.begun }

-- the message of a content, from what began it and what came of it; None where no header came
abbrev pub whole_with : Start → Option Begun → Option Whole
whole_with s None = None
whole_with s (Some b) = Some (record { start = s; properties = b.properties; payload = b.bytes })

-- the message of a content: what began it, its header's properties, its bodies joined
abbrev pub whole_of : Expected → Option Whole
whole_of e = whole_with e.start e.begun

-- a number of lacking bytes is known, and it is zero
abbrev pub is_zero : Option ℕ → Bool
is_zero None = false
is_zero (Some n) = n == 0

-- its header came and it lacks no byte
abbrev pub is_whole : Expected → Bool
is_whole e = is_zero (left_of e)

-- ---- a header comes: it is for the front, which has to wait for one of its class

-- the refusal of a header that no front waits for: an unexpected frame of the header's class, with 0 as its method
abbrev pub refused_header : ContentHeader → Error
refused_header h = error.UnexpectedFrame h.class_id 0

-- this header came: the content has its properties and lacks as many bytes as it announces
abbrev pub begun_with : ContentHeader → Expected → Expected
begun_with h e = begun_by h.properties h.body_size e

-- the message, where the content is whole now
abbrev pub if_whole : Expected → Option Whole
if_whole e = if is_whole e then whole_of e else None

-- a content that is whole is expected no more
abbrev pub unless_whole : Expected → List Expected → List Expected
unless_whole e es = if is_whole e then es else e ∷ es

-- what a header answers (AMQP 0-9-1, section 4.2.6): the message where its size is 0, nothing yet where bytes are to come,
-- and the refusal where no front waits for a header of its class
abbrev pub heard_header : ContentHeader → List Expected → Result (Option Whole) Error
heard_header h [] = Err (refused_header h)
heard_header h (e ∷ es) = if waits_for h.class_id e then Ok (if_whole (begun_with h e)) else Err (refused_header h)

-- where the header is refused the front is gone
abbrev pub after_header : ContentHeader → List Expected → List Expected
after_header h [] = []
after_header h (e ∷ es) = if waits_for h.class_id e then unless_whole (begun_with h e) es else es

-- ---- a body comes: it is for the front, which has to have had its header and to lack as many bytes

-- the refusal of a body that no front takes: an unexpected frame with 0 as its class and method
abbrev pub refused_body : Error
refused_body = error.UnexpectedFrame 0 0

-- what a body answers (AMQP 0-9-1, section 4.2.6): the message where no byte is lacking any more, nothing yet where some are,
-- and the refusal where there is no front, or it has had no header, or it lacks fewer bytes
abbrev pub heard_body : List ℕ → List Expected → Result (Option Whole) Error
heard_body bytes [] = Err refused_body
heard_body bytes (e ∷ es) = if takes_body bytes e then Ok (if_whole (grown_by bytes e)) else Err refused_body

-- where the body is refused the front is gone
abbrev pub after_body : List ℕ → List Expected → List Expected
after_body bytes [] = []
after_body bytes (e ∷ es) = if takes_body bytes e then unless_whole (grown_by bytes e) es else es

-- want of memory leaves all as it was
abbrev pub UnlessNoMemory : Result (Option Whole) Error → Type 0 → Type 0 → Type 0
UnlessNoMemory (Err error.NoMemory) P Q = Q
UnlessNoMemory r P Q = P

-- ---- the front

-- what began it
abbrev pub front_start : List Expected → Option Start
front_start [] = None
front_start (e ∷ es) = Some e.start

-- how many bytes it still awaits
abbrev pub awaited : List Expected → Option ℕ
awaited [] = None
awaited (e ∷ es) = left_of e

-- a header of the class, or a body, would be received
abbrev pub front_waits : ℕ → List Expected → Bool
front_waits k [] = false
front_waits k (e ∷ es) = waits_for k e

-- a body of these bytes would be received
abbrev pub front_takes : List ℕ → List Expected → Bool
front_takes bytes [] = false
front_takes bytes (e ∷ es) = takes_body bytes e

-- the rest of this file is the words of the code's steps, which no public clause cites

-- the list once the front's header came, with these properties and this size
abbrev pub front_begun : Properties → ℕ → List Expected → List Expected
front_begun q n [] = []
front_begun q n (e ∷ es) = begun_by q n e ∷ es

-- the list once the bytes joined those of the front
abbrev pub front_grown : List ℕ → List Expected → List Expected
front_grown bytes [] = []
front_grown bytes (e ∷ es) = grown_by bytes e ∷ es

-- the message of the front with these properties and no byte, if there is a front
abbrev pub empty_whole : Properties → List Expected → Option Whole
empty_whole q [] = None
empty_whole q (e ∷ es) = Some (record { start = e.start; properties = q; payload = [] })

-- the message of the front, where the front is whole
abbrev pub front_whole : List Expected → Option Whole
front_whole [] = None
front_whole (e ∷ es) = if_whole e

-- the list without its front, where the front is whole
abbrev pub without_whole : List Expected → List Expected
without_whole [] = []
without_whole (e ∷ es) = unless_whole e es

-- these bytes alone are the content
abbrev pub lacks_only : List ℕ → Begun → Bool
lacks_only bytes b = (length b.bytes == 0) && (b.left == length bytes)

-- the header came, and these bytes alone are the content
abbrev pub is_alone_in : List ℕ → Option Begun → Bool
is_alone_in bytes None = false
is_alone_in bytes (Some b) = lacks_only bytes b

-- these bytes alone are the whole of an expected content whose header came
abbrev pub is_alone : List ℕ → Expected → Bool
is_alone bytes e = is_alone_in bytes e.begun

-- these bytes alone are the whole of the front, whose header came
abbrev pub front_is_alone : List ℕ → List Expected → Bool
front_is_alone bytes [] = false
front_is_alone bytes (e ∷ es) = is_alone bytes e

-- the message whose payload is these bytes alone, with the header's properties; None where no header came
abbrev pub alone_with : List ℕ → Start → Option Begun → Option Whole
alone_with bytes s None = None
alone_with bytes s (Some b) = Some (record { start = s; properties = b.properties; payload = bytes })

-- the message of an expected content whose payload is these bytes alone; None where no header came
abbrev pub whole_alone : List ℕ → Expected → Option Whole
whole_alone bytes e = alone_with bytes e.start e.begun

-- the message of the front with these bytes alone as its payload; None without a front or where its header didn't come
abbrev pub front_alone : List ℕ → List Expected → Option Whole
front_alone bytes [] = None
front_alone bytes (e ∷ es) = whole_alone bytes e
