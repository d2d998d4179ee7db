-- Lines are read in one way, and in some way whatever they are.
use Rattle.std.proofs.Common.{◌≡◌, ◌≢◌, ◌⊎◌, inl, inr, ℕ, ◌+◌, List, [], ◌∷◌, ◌++◌, Bool, true, false, true≢false, length, Option, Some, None, refl, sym, ap, ◌∙◌, take, drop}
use Rattle.std.specs.Str.{bytes_eq}
use Rattle.std.proofs.lemmas.Slice.Eq.{bytes_eq-Decides}
use Rattle.std.proofs.lemmas.List.{take-append-drop}
use Rattle.std.proofs.Math.Seq.{take-append_seam}
use Rattle.lapin_text.specs.Input.{IsStep, NoStep, AreSteps, LinesSay}
use Rattle.lapin_inputs.specs.Printing.{NoFirst}

-- ---- one reading

no_number : (k : ℕ) (o : Option ℕ) → o ≡ None → o ≡ Some k → ⊥
no_number k o none some = cc

-- lines that are all steps have none that is no step's
steps_or_not : {E : Type 0} (line_of : E → List ℕ) (HasLine : E → Type 0) (n : ℕ) (ls : List (List ℕ)) (ss ts : List E) (k : ℕ) → AreSteps line_of HasLine n ls ss None → AreSteps line_of HasLine n ls ts (Some k) → ⊥
steps_or_not line_of HasLine n [] [] [] k all bad = no_number k (Some k) bad refl
steps_or_not line_of HasLine n [] [] (t ∷ ts) k all bad = bad
steps_or_not line_of HasLine n [] (s ∷ ss) ts k all bad = all
steps_or_not line_of HasLine n (l ∷ ls) [] ts k all bad = no_number n None refl all.0
steps_or_not line_of HasLine n (l ∷ ls) (s ∷ ss) [] k all bad = bad.1 s all.0 all.1
steps_or_not line_of HasLine n (l ∷ ls) (s ∷ ss) (t ∷ ts) k all bad = steps_or_not line_of HasLine (n + 1) ls ss ts k all.2 bad.2

-- nor has an input
pub parsed_or_not : {E : Type 0} (line_of : E → List ℕ) (HasLine : E → Type 0) (ls : List (List ℕ)) (max other_max : Option ℕ) (ss ts : List E) (k : ℕ) → LinesSay line_of HasLine ls max ss None → LinesSay line_of HasLine ls other_max ts (Some k) → ⊥
parsed_or_not line_of HasLine [] max other_max ss ts k all bad = no_number 1 None refl all.2
parsed_or_not line_of HasLine (l ∷ ls) None other_max ss ts k all bad = no_number 1 None refl all.2
parsed_or_not line_of HasLine (l ∷ ls) (Some m) None ss ts k all bad = bad.0 m all.0 all.1
parsed_or_not line_of HasLine (l ∷ ls) (Some m) (Some o) ss ts k all bad = steps_or_not line_of HasLine 2 ls ss ts k all.2 bad.2

-- ---- some reading

-- the line is the line of some step, or it is none's
abbrev pub Step? : {E : Type 0} → (E → List ℕ) → (E → Type 0) → List ℕ → Type 0
Step? {E} line_of HasLine line = ((s : E) × IsStep line_of HasLine line s) ⊎ NoStep line_of HasLine line

-- lines, whatever they are, say some steps up to a first bad line, if they have one, where each line is the line of a step or none's
pub some_steps : {E : Type 0} (line_of : E → List ℕ) (HasLine : E → Type 0) → ((line : List ℕ) → Step? line_of HasLine line) → (n : ℕ) (lines : List (List ℕ)) → (steps : List E) × (bad : Option ℕ) × AreSteps line_of HasLine n lines steps bad
some_steps line_of HasLine step_of n [] = ([], None, refl)
some_steps {E} line_of HasLine step_of n (line ∷ lines) = with_line (step_of line) (some_steps line_of HasLine step_of (n + 1) lines)
  where
    with_line : Step? line_of HasLine line → ((steps : List E) × (bad : Option ℕ) × AreSteps line_of HasLine (n + 1) lines steps bad) → (steps : List E) × (bad : Option ℕ) × AreSteps line_of HasLine n (line ∷ lines) steps bad
    with_line (inl found) rest = (found.0 ∷ rest.0, rest.1, (found.1.1, found.1.0, rest.2))
    with_line (inr none) rest = ([], Some n, (refl, none))

-- where the first line is missing, or says no frame size, the lines say no step, and line 1 is the bad one
pub none_first : {E : Type 0} (line_of : E → List ℕ) (HasLine : E → Type 0) (lines : List (List ℕ)) → NoFirst lines → LinesSay line_of HasLine lines None [] (Some 1)
none_first line_of HasLine [] none = (refl, refl, refl)
none_first line_of HasLine (line ∷ lines) none = (none, refl, refl)

-- ---- the word in front of a line

-- a line begins with a word or it doesn't
pub begins : (word line : List ℕ) → ((rest : List ℕ) × (line ≡ word ++ rest)) ⊎ ((rest : List ℕ) → line ≢ word ++ rest)
begins word line = with_front (bytes_eq (take (length word) line) word) refl
  where
    with_front : (b : Bool) → bytes_eq (take (length word) line) word ≡ b → ((rest : List ℕ) × (line ≡ word ++ rest)) ⊎ ((rest : List ℕ) → line ≢ word ++ rest)
    with_front true e = inl (drop (length word) line, sym (take-append-drop (length word) line) ∙ ap (λ (t : List ℕ). t ++ drop (length word) line) ((bytes_eq-Decides (take (length word) line) word).0 e))
    with_front false e = inr (λ rest is. true≢false (sym ((bytes_eq-Decides (take (length word) line) word).1 (ap (take (length word)) is ∙ take-append_seam word rest)) ∙ e))

-- a line is a word or it isn't
pub is_word : (word line : List ℕ) → (line ≡ word) ⊎ (line ≢ word)
is_word word line = decided (bytes_eq line word) refl
  where
    decided : (b : Bool) → bytes_eq line word ≡ b → (line ≡ word) ⊎ (line ≢ word)
    decided true e = inl ((bytes_eq-Decides line word).0 e)
    decided false e = inr (λ is. true≢false (sym ((bytes_eq-Decides line word).1 is) ∙ e))
