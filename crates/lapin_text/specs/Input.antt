-- An input: a first line with the greatest frame size, and a line for each step. Steps are of one kind in an input: those of a session are
-- events. `line_of` is the line of a step, and HasLine says which steps have one.
use Rattle.std.specs.Prelude.{◌≡◌, ℕ, ◌+◌, ◌<◌, ◌≤◌, ◌^◌, ◌==◌, List, [], ◌∷◌, ◌++◌, length, codes, decimal, Option, Some, None, MatchOption, if◌then◌else◌}
use Rattle.std.specs.List.{slice_split, flat_map}
use Rattle.lapin_types.specs.declared.event.Event.{Event}
use Rattle.lapin_text.specs.Events as events

-- the pieces of a text, but for the last one where that is empty
abbrev pub without_empty_end : List (List ℕ) → List (List ℕ)
without_empty_end [] = []
without_empty_end (x ∷ []) = if length x == 0 then [] else x ∷ []
without_empty_end (x ∷ y ∷ zs) = x ∷ without_empty_end (y ∷ zs)

-- A line ends at a line feed. A last piece without a line feed that isn't empty is a line too.
unfoldable pub lines_of : List ℕ → List (List ℕ)
lines_of bytes = without_empty_end (slice_split (λ b. b == 10) bytes)

-- the first line
abbrev pub max_line : ℕ → List ℕ
max_line m = codes "frame_max " ++ decimal m

-- a greatest frame size that may stand there: a number of 32 bits, at least 4096
abbrev pub IsMax : ℕ → Type 0
IsMax m = (4096 ≤ m) × (m < 2 ^ 32)

-- the line isn't a first line
abbrev pub NoMax : List ℕ → Type 0
NoMax line = (m : ℕ) → IsMax m → line ≡ max_line m → ⊥

-- the line is that of this step, which has one
abbrev pub IsStep : {E : Type 0} → (E → List ℕ) → (E → Type 0) → List ℕ → E → Type 0
IsStep line_of HasLine line s = (line ≡ line_of s) × HasLine s

-- the line isn't the line of a step that has one
abbrev pub NoStep : {E : Type 0} → (E → List ℕ) → (E → Type 0) → List ℕ → Type 0
NoStep {E} line_of HasLine line = (s : E) → HasLine s → line ≡ line_of s → ⊥

-- the steps of the lines, the first of which has the number n, up to the first line that is no step's, if there is one
abbrev pub AreSteps : {E : Type 0} → (E → List ℕ) → (E → Type 0) → ℕ → List (List ℕ) → List E → Option ℕ → Type 0
AreSteps line_of HasLine n [] [] bad = bad ≡ None
AreSteps line_of HasLine n [] (s ∷ ss) bad = ⊥
AreSteps line_of HasLine n (l ∷ ls) [] bad = (bad ≡ Some n) × NoStep line_of HasLine l
AreSteps line_of HasLine n (l ∷ ls) (s ∷ ss) bad = HasLine s × (l ≡ line_of s) × AreSteps line_of HasLine (n + 1) ls ss bad

-- What the lines say: the greatest frame size, the steps, and the number of the first bad line, where lines count from 1. Where the
-- first line is missing or isn't a `frame_max`, it is the bad line.
abbrev pub LinesSay : {E : Type 0} → (E → List ℕ) → (E → Type 0) → List (List ℕ) → Option ℕ → List E → Option ℕ → Type 0
LinesSay line_of HasLine [] max ss bad = (max ≡ None) × (ss ≡ []) × (bad ≡ Some 1)
LinesSay line_of HasLine (l ∷ ls) max ss bad = MatchOption max (NoMax l × (ss ≡ []) × (bad ≡ Some 1)) (λ m. IsMax m × (l ≡ max_line m) × AreSteps line_of HasLine 2 ls ss bad)

-- the text of an input
abbrev pub input_of : {E : Type 0} → (E → List ℕ) → ℕ → List E → List ℕ
input_of line_of m ss = max_line m ++ 10 ∷ flat_map (λ s. line_of s ++ 10 ∷ []) ss

-- the line isn't the line of an event that has one
abbrev pub NoLine : List ℕ → Type 0
NoLine = NoStep events.line_of events.HasLine

-- the events of the lines, the first of which has the number n
abbrev pub AreEvents : ℕ → List (List ℕ) → List Event → Option ℕ → Type 0
AreEvents = AreSteps events.line_of events.HasLine

-- what the lines of a session's input say
abbrev pub AreParsed : List (List ℕ) → Option ℕ → List Event → Option ℕ → Type 0
AreParsed = LinesSay events.line_of events.HasLine
