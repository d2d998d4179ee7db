-- The text of frames: a word for the kind, the channel, and what the frame carries.
use Rattle.std.specs.Prelude.{◌≡◌, ℕ, true, List, [], ◌∷◌, codes}
use Rattle.std.specs.List.{join_with_byte}
use Rattle.lapin_types.specs.Types.{Frame}
use Rattle.lapin_types.specs.Types.frame
use Rattle.lapin_tokens.specs.Fields.{Field, token, tokens, fits, AllFit, short_number, wide_number}
use Rattle.lapin_tokens.specs.Fields.Field.{bytes, props}
use Rattle.lapin_method_text.specs.Methods.{method_tokens, MethodFits}

-- the kinds of the fields of a content header: channel, class, size of the content, properties
abbrev pub header_fields : List Field
header_fields = short_number ∷ short_number ∷ wide_number ∷ props ∷ []

-- the kinds of the fields of a body: channel, bytes
abbrev pub body_fields : List Field
body_fields = short_number ∷ bytes ∷ []

-- `method C NAME FIELDS`, `header C CLASS SIZE PROPS` or `body C BYTES`
abbrev pub frame_tokens : Frame → List (List ℕ)
frame_tokens (frame.Method channel method) = codes "method" ∷ token short_number channel ∷ method_tokens method
frame_tokens (frame.Header channel header) = codes "header" ∷ tokens header_fields (channel, (header.class_id, (header.body_size, (header.properties, tt))))
frame_tokens (frame.Body channel payload) = codes "body" ∷ tokens body_fields (channel, (payload, tt))

-- the frames that have a text: their numbers are in range, their texts are short, their tables nest at most 8 levels
abbrev pub FrameFits : Frame → Type 0
FrameFits (frame.Method channel method) = (fits short_number channel ≡ true) × MethodFits method
FrameFits (frame.Header channel header) = AllFit header_fields (channel, (header.class_id, (header.body_size, (header.properties, tt))))
FrameFits (frame.Body channel payload) = AllFit body_fields (channel, (payload, tt))

-- the tokens of a frame with one space between them
abbrev pub frame_text : Frame → List ℕ
frame_text frame = join_with_byte 32 (frame_tokens frame)
