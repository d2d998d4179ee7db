-- Words that ask for help.
use Rattle.std.specs.Prelude.{◌≡◌, ◌≢◌, ◌⊎◌, List, [], ◌∷◌, ℕ, codes}

-- `--help` alone, before a word, or behind one; but behind `call` it is the name of a queue
abbrev pub AskForHelp : List (List ℕ) → Type 0
AskForHelp (word ∷ []) = word ≡ codes "--help"
AskForHelp (first ∷ second ∷ []) = (first ≡ codes "--help") ⊎ ((second ≡ codes "--help") × (first ≢ codes "call"))
AskForHelp _ = ⊥

-- `call --help`: a run whose queue has that name
abbrev pub NameHelp : List (List ℕ) → Type 0
NameHelp words = words ≡ codes "call" ∷ codes "--help" ∷ []
