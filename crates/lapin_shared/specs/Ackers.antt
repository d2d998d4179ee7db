-- How often an acker is used in a history.
use Rattle.std.specs.Prelude.{ℕ, ◌≤◌, List}
use Rattle.lapin_rules.specs.Words.{many}
use Rattle.lapin_laws.specs.Consumers.{uses_acker}
use Rattle.lapin_locked.specs.declared.entry.Entry.{Entry}
use Rattle.lapin_locked.specs.Lawful.{history_of}

-- of the calls of each acker at most one is answered otherwise than no
abbrev pub UsesOnce : List Entry → Type 0
UsesOnce es = (n : ℕ) → many (uses_acker n) (history_of es) ≤ 1
