-- The messages that are kept, and what became of the others.
use Rattle.std.specs.Prelude.{ℕ, Bool, false, not, List, [], ◌∷◌, Option, Some, None}
use Rattle.std.specs.Option.{is_some}
use Rattle.lapin_keeping.specs.declared.fate.Fate.{Fate}
use Rattle.lapin_keeping.specs.declared.kept.Kept.{Kept}
use Rattle.lapin_keeping.specs.declared.message.Message.{Message}

-- a message as it is handed over, which the broker may fail so often
abbrev pub new_kept : ℕ → Message → ℕ → Kept
new_kept number m most = record { number = number; message = m; fate = None; outstanding = None; left = most; failed = false; suspect = false; came_back = false }

-- nothing became of it yet
abbrev pub is_unsettled : Kept → Bool
is_unsettled k = not (is_some k.fate)

-- the fate of a message, if it has one, in front of others
abbrev pub fate_onto : ℕ → Option Fate → List (ℕ × Fate) → List (ℕ × Fate)
fate_onto n None fs = fs
fate_onto n (Some f) fs = (n, f) ∷ fs

-- the fates of messages, in their order
abbrev pub fates : List Kept → List (ℕ × Fate)
fates [] = []
fates (k ∷ ks) = fate_onto k.number k.fate (fates ks)
