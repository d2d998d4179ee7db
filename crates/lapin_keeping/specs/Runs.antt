-- The fates of messages, in the order in which they became known, as runs of numbers.
use Rattle.std.specs.Prelude.{ℕ, suc, zero, List, [], ◌∷◌, ◌++◌}
use Rattle.lapin_keeping.specs.declared.fate.Fate.{Fate}
use Rattle.lapin_keeping.specs.declared.run.Run.{Run}

-- so many numbers from this one, each with this fate
abbrev pub each_of : ℕ → ℕ → Fate → List (ℕ × Fate)
each_of first zero f = []
each_of first (suc n) f = (first, f) ∷ each_of (suc first) n f

-- a run
abbrev pub of_run : Run → List (ℕ × Fate)
of_run r = each_of r.first r.count r.fate

-- the fates that runs stand for
abbrev pub told : List Run → List (ℕ × Fate)
told [] = []
told (r ∷ rs) = of_run r ++ told rs
