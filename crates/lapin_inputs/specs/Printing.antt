-- What is printed for an input whose first line says how large a frame may be, and whose other lines are steps.
use Rattle.std.specs.Prelude.{◌≡◌, ℕ, ◌+◌, List, [], ◌∷◌, ◌++◌, codes, decimal, Option, Some, None}
use Rattle.lapin_text.specs.Input.{lines_of, NoMax}

-- a line with a name and a number
abbrev pub number_line : List ℕ → ℕ → List ℕ
number_line name number = name ++ 32 ∷ decimal number ++ 10 ∷ []

-- the line behind the text of the steps, where a line of the input is bad
abbrev pub bad_line_text : Option ℕ → List ℕ
bad_line_text None = []
bad_line_text (Some line) = number_line (codes "badline") line

-- the first line is missing, or says no frame size
abbrev pub NoFirst : List (List ℕ) → Type 0
NoFirst [] = Unit {0}
NoFirst (line ∷ lines) = NoMax line

-- the text of the steps of a run that begins new, which `text_of` says; nothing is run without a first line
abbrev pub text_behind : {E : Type 0} → (ℕ → List E → List ℕ) → Option ℕ → List E → List ℕ
text_behind text_of None steps = []
text_behind text_of (Some frame_max) steps = text_of frame_max steps

-- The text is what is printed for the input, of which this line is the first bad one, if there is any: what the steps
-- before it print in a run that begins new, and its number. AreParsed is what lines say.
pub record PrintsBy (E : Type 0) (AreParsed : List (List ℕ) → Option ℕ → List E → Option ℕ → Type 0) (text_of : ℕ → List E → List ℕ) (input : List ℕ) (bad : Option ℕ) (text : List ℕ) : Type 0 where
  pub frame_max : Option ℕ
  pub steps : List E
  pub parsed : AreParsed (lines_of input) frame_max steps bad
  pub printed : text ≡ text_behind text_of frame_max steps ++ bad_line_text bad

-- The text is what the steps of these lines print in a run that goes on, up to the first bad line. The first of the lines
-- has the number n. AreSteps is what lines behind the first one say.
pub record GoesOnBy (E : Type 0) (AreSteps : ℕ → List (List ℕ) → List E → Option ℕ → Type 0) (text_of : List E → List ℕ) (n : ℕ) (lines : List (List ℕ)) (bad : Option ℕ) (text : List ℕ) : Type 0 where
  pub steps : List E
  pub are : AreSteps n lines steps bad
  pub printed : text ≡ text_of steps

-- What a line adds to a text: whatever is printed for the lines behind it, as `after` says, stands behind that.
pub record Adds (before after : ℕ → List (List ℕ) → Option ℕ → List ℕ → Type 0) (line old new : List ℕ) : Type 0 where
  pub piece : List ℕ
  pub grown : new ≡ old ++ piece
  pub leads : (n : ℕ) (lines : List (List ℕ)) (bad : Option ℕ) (text : List ℕ) → after (n + 1) lines bad text → before n (line ∷ lines) bad (piece ++ text)
