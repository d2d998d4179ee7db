-- The lines of what is seen.
use Rattle.std.specs.Prelude.{◌≡◌, ℕ, List, ◌++◌, codes}
use Rattle.lapin_text.specs.Frames.{frame_text, FrameFits}
use Rattle.lapin_check.specs.declared.seen.Seen.{Seen}
use Rattle.lapin_check.specs.declared.seen.Seen.TheVariants as seen

-- `up FRAME` or `down FRAME`
abbrev pub seen_line : Seen → List ℕ
seen_line (seen.Up f) = codes "up " ++ frame_text f
seen_line (seen.Down f) = codes "down " ++ frame_text f

-- what is seen has a line where its frame has a text
abbrev pub HasLine : Seen → Type 0
HasLine (seen.Up f) = FrameFits f
HasLine (seen.Down f) = FrameFits f

-- the line is that of this, which has one
abbrev pub IsLineOf : List ℕ → Seen → Type 0
IsLineOf line x = (line ≡ seen_line x) × HasLine x

-- the line isn't the line of anything that has one
abbrev pub NoLine : List ℕ → Type 0
NoLine line = (x : Seen) → HasLine x → line ≡ seen_line x → ⊥
