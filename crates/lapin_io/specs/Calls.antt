-- The calls of a source or a sink that fails where it was told to.
use Rattle.std.specs.Prelude.{ℕ, Bool, List, nat_eq, if◌then◌else◌}
use Rattle.std.specs.List.{list_any}
use Rattle.lapin_io.specs.Numbers.{counted}

-- the numbers of the calls that fail, the first call being 1; how many calls were made; and how often it failed
pub record Calls : Type 0 where
  pub failing : List ℕ
  pub made : ℕ
  pub faults : ℕ

-- none was made yet
abbrev pub no_calls : List ℕ → Calls
no_calls failing = record { failing = failing; made = 0; faults = 0 }

-- whether the next call is one of those that fail
abbrev pub fails_next : Calls → Bool
fails_next calls = list_any (λ number. nat_eq number (counted calls.made 1)) calls.failing

-- one more fault
abbrev pub with_fault : Calls → Calls
with_fault calls = record calls { faults = counted calls.faults 1 }

-- one more call, and no fault
abbrev pub with_call : Calls → Calls
with_call calls = record calls { made = counted calls.made 1 }

-- one more call, which is a fault where it is one of those that fail
abbrev pub after_call : Calls → Calls
after_call calls = if fails_next calls then with_fault (with_call calls) else with_call calls
