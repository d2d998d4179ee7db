-- When the contents of all channels are what the marks of a history say, and what a message is then.
use Rattle.std.specs.Prelude.{◌≡◌, ℕ, ◌+◌, ◌≤◌, List, [], ◌∷◌, ◌++◌, Option, Some, None, length}
use Rattle.std.specs.List.{concat}
use Rattle.lapin_methods.specs.declared.frame.ContentHeader.{ContentHeader}
use Rattle.lapin_content.specs.declared.start.Whole.{Whole}
use Rattle.lapin_content.specs.Channels.{Channels, expected_on}
use Rattle.lapin_content.specs.Marks.{ContentMark}
use Rattle.lapin_content.specs.Readings.{Content, contents, waiting, front_of, message, came}

-- on each channel those are expected that are not over
abbrev pub Follows : List ContentMark → Channels → Type 0
Follows ms all = (c : ℕ) → expected_on c all ≡ waiting (contents c ms)

-- no content got more than its header announced, and without a header it has no bytes
abbrev pub Fits : Option ContentHeader → List (List ℕ) → Type 0
Fits None bodies = bodies ≡ []
Fits (Some h) bodies = came bodies ≤ h.body_size

-- The message is that of the content with this header and these bodies, and has as many bytes as the header announced.
pub record IsMessage (x : Content) (h : ContentHeader) (bodies : List (List ℕ)) (w : Whole) : Type 0 where
  pub whole : w ≡ message x h bodies
  pub size : length w.payload ≡ h.body_size

-- the message is that of the channel's front, whose header came before and whose last body is this one
abbrev pub IsLastBody : ℕ → List ContentMark → List ℕ → Whole → Type 0
IsLastBody c ms bytes w = (x : Content) × (h : ContentHeader) × (front_of (contents c ms) ≡ Some x) × (x.header ≡ Some h) × IsMessage x h (x.bodies ++ bytes ∷ []) w

-- the message is that of the channel's front, whose header this is and which has no body
abbrev pub IsEmpty : ℕ → List ContentMark → ContentHeader → Whole → Type 0
IsEmpty c ms h w = (x : Content) × (front_of (contents c ms) ≡ Some x) × IsMessage x h [] w
