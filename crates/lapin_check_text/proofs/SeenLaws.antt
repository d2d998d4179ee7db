-- The lines of what is seen: whether a frame came up or went down is told by the word in front.
use Rattle.std.proofs.Common.{◌≡◌, ◌≢◌, ℕ, List, ◌∷◌, ◌++◌, sym, ap, ◌∙◌, arith}
use Rattle.std.specs.Prelude.{codes}
use Rattle.lapin_types.specs.Types.{Frame}
use Rattle.lapin_text.specs.Frames.{frame_text, FrameFits}
use Rattle.lapin_check.specs.declared.seen.Seen.TheVariants as seen
use Rattle.lapin_check_text.specs.Seen.{IsLineOf, NoLine}

first_is : (x y : ℕ) (xs ys : List ℕ) → x ∷ xs ≡ y ∷ ys → x ≡ y
first_is x y xs ys e = cc

-- ---- up

behind_up : (rest more : List ℕ) → codes "up " ++ rest ≡ codes "up " ++ more → rest ≡ more
behind_up rest more e = cc

pub up_found : (line rest : List ℕ) (f : Frame) → line ≡ codes "up " ++ rest → (rest ≡ frame_text f) × FrameFits f → IsLineOf line (seen.Up f)
up_found line rest f is h = (is ∙ ap (λ (r : List ℕ). codes "up " ++ r) h.0, h.1)

pub up_none : (line rest : List ℕ) → line ≡ codes "up " ++ rest → ((f : Frame) → FrameFits f → rest ≡ frame_text f → ⊥) → NoLine line
up_none line rest is other (seen.Up f) fit same = other f fit (behind_up rest (frame_text f) (sym is ∙ same))
up_none line rest is other (seen.Down f) fit same = absurd (omega (arith, first_is 117 100 _ _ (sym is ∙ same)))

-- ---- down

behind_down : (rest more : List ℕ) → codes "down " ++ rest ≡ codes "down " ++ more → rest ≡ more
behind_down rest more e = cc

pub down_found : (line rest : List ℕ) (f : Frame) → line ≡ codes "down " ++ rest → (rest ≡ frame_text f) × FrameFits f → IsLineOf line (seen.Down f)
down_found line rest f is h = (is ∙ ap (λ (r : List ℕ). codes "down " ++ r) h.0, h.1)

pub down_none : (line rest : List ℕ) → line ≡ codes "down " ++ rest → ((f : Frame) → FrameFits f → rest ≡ frame_text f → ⊥) → NoLine line
down_none line rest is other (seen.Up f) fit same = absurd (omega (arith, first_is 100 117 _ _ (sym is ∙ same)))
down_none line rest is other (seen.Down f) fit same = other f fit (behind_down rest (frame_text f) (sym is ∙ same))

-- ---- neither

pub other_none : (line : List ℕ) → ((rest : List ℕ) → line ≢ codes "up " ++ rest) → ((rest : List ℕ) → line ≢ codes "down " ++ rest) → NoLine line
other_none line up down (seen.Up f) fit same = up (frame_text f) same
other_none line up down (seen.Down f) fit same = down (frame_text f) same
