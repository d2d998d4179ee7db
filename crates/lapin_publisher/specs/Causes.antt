-- Why a turn ends early.
use Rattle.std.specs.Prelude.{◌⊎◌, Result, Ok, Err}
use Rattle.lapin_types.specs.Types.{Error}
use Rattle.lapin_types.specs.Types.error
use Rattle.lapin_rules.specs.Wire.{Wire}
use Rattle.lapin_machine.specs.Numbers.{NoTicket, NoConfirm}

-- want of memory, or the session's next ticket or its next confirm would pass the greatest u64; no other error comes
abbrev pub TurnCause : {T : Type 0} → Result T Error → Wire → Type 0
TurnCause (Ok x) b = Unit {0}
TurnCause (Err error.NoMemory) b = Unit {0}
TurnCause (Err error.NumbersUsedUp) b = NoTicket b ⊎ NoConfirm b
TurnCause (Err _) b = ⊥
