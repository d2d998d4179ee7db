-- The contents that were ever announced on a channel, each with all that came for it, read off the marks of a whole history.
use Rattle.std.specs.Prelude.{ℕ, ◌+◌, ◌-◌, ◌==◌, nat_le, Bool, true, false, ◌&&◌, if◌then◌else◌, List, [], ◌∷◌, ◌++◌, Option, Some, None, length, map}
use Rattle.std.specs.Option.{option_map}
use Rattle.std.specs.List.{concat}
use Rattle.lapin_methods.specs.declared.frame.ContentHeader.{ContentHeader}
use Rattle.lapin_content.specs.declared.start.Start.{Start}
use Rattle.lapin_content.specs.declared.start.Whole.{Whole}
use Rattle.lapin_content.specs.Contents.{Begun, Expected}
use Rattle.lapin_content.specs.Marks.{ContentMark}
use Rattle.lapin_content.specs.Marks as mark

-- a content: its class and what began it; its header, if it came, and its bodies, in order; and whether it is expected no
-- more, being whole, refused, given up or dropped
pub record Content : Type 0 where
  pub class_id : ℕ
  pub start : Start
  pub header : Option ContentHeader
  pub bodies : List (List ℕ)
  pub over : Bool

-- how many bytes came
abbrev pub came : List (List ℕ) → ℕ
came bodies = length (concat bodies)

-- as many bytes came as the header announced
abbrev pub has_all : Option ContentHeader → List (List ℕ) → Bool
has_all None bodies = false
has_all (Some h) bodies = came bodies == h.body_size

-- there is a header, and these bytes are not more than it announced
abbrev pub fits : List ℕ → Option ContentHeader → List (List ℕ) → Bool
fits bytes None bodies = false
fits bytes (Some h) bodies = nat_le (came bodies + length bytes) h.body_size

-- ---- what comes for the content at the front

-- it is expected no more
abbrev pub given_up : Content → Content
given_up x = record x { over = true }

-- no header came
abbrev pub lacks_header : Option ContentHeader → Bool
lacks_header None = true
lacks_header (Some h) = false

-- a header of its class, where it had none, is its header; any other header ends it
abbrev pub with_header : ContentHeader → Content → Content
with_header h x =
    if lacks_header x.header && (x.class_id == h.class_id)
    then record x { header = Some h; over = has_all (Some h) x.bodies }
    else given_up x

-- a body that fits joins its bodies; any other ends it
abbrev pub with_body : List ℕ → Content → Content
with_body bytes x =
    if fits bytes x.header x.bodies
    then record x { bodies = x.bodies ++ bytes ∷ []; over = has_all x.header (x.bodies ++ bytes ∷ []) }
    else given_up x

-- the list with f applied to the first content that is not over
abbrev pub on_front : (Content → Content) → List Content → List Content
on_front f [] = []
on_front f (x ∷ xs) = if x.over then x ∷ on_front f xs else f x ∷ xs

-- ---- the contents of a channel, in order of their starts

-- a content that was just announced: nothing came for it yet
abbrev pub newcomer : ℕ → Start → Content
newcomer k s = record { class_id = k; start = s; header = None; bodies = []; over = false }

-- the contents of channel c after one more mark; a mark of another channel changes none of them
abbrev pub next_contents : ℕ → ContentMark → List Content → List Content
next_contents c (mark.Awaited d k s) xs = if d == c then xs ++ newcomer k s ∷ [] else xs
next_contents c (mark.Header d h) xs = if d == c then on_front (with_header h) xs else xs
next_contents c (mark.Body d bytes) xs = if d == c then on_front (with_body bytes) xs else xs
next_contents c (mark.Reset d) xs = if d == c then on_front given_up xs else xs
next_contents c (mark.Dropped d) xs = if d == c then map given_up xs else xs

-- the contents of channel c after the marks, where these were announced before
abbrev pub contents_from : ℕ → List Content → List ContentMark → List Content
contents_from c xs [] = xs
contents_from c xs (m ∷ ms) = contents_from c (next_contents c m xs) ms

-- the contents that were ever announced on channel c in this history
abbrev pub contents : ℕ → List ContentMark → List Content
contents c ms = contents_from c [] ms

-- ---- what is expected of them

-- what came of a content with this header and these bodies: its properties, the bytes that it lacks, its bodies joined
abbrev pub begun_of : List (List ℕ) → ContentHeader → Begun
begun_of bodies h = record { properties = h.properties; left = h.body_size - came bodies; bytes = concat bodies }

-- what a caller sees of a content that is expected: the bytes that it lacks, and its bodies, joined
abbrev pub seen : Content → Expected
seen x = record { class_id = x.class_id; start = x.start; begun = option_map (begun_of x.bodies) x.header }

-- the contents that are not over
abbrev pub waiting : List Content → List Expected
waiting [] = []
waiting (x ∷ xs) = if x.over then waiting xs else seen x ∷ waiting xs

-- the content that is at the front: the first that is not over
abbrev pub front_of : List Content → Option Content
front_of [] = None
front_of (x ∷ xs) = if x.over then front_of xs else Some x

-- the message of a content with these bodies: what began it, its header's properties, its bodies, joined in order
abbrev pub message : Content → ContentHeader → List (List ℕ) → Whole
message x h bodies = record { start = x.start; properties = h.properties; payload = concat bodies }
