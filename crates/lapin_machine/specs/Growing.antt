-- A list that grows at its end until it holds all that it is to hold: what stands of it where the work stops before.
use Rattle.std.specs.Prelude.{◌≡◌, List, ◌++◌}

-- new is old with all but the rest at its end
pub record IsLonger {A : Type 0} (old new all rest : List A) : Type 0 where
  pub done : List A
  pub whole : done ++ rest ≡ all
  pub new_is : new ≡ old ++ done

-- a list that got the first of all at its end
abbrev pub IsStarted : {A : Type 0} → List A → List A → List A → Type 0
IsStarted {A} old new all = (rest : List A) × IsLonger old new all rest
