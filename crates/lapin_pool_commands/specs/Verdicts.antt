-- What the duty of the command says to a payload.
use Rattle.std.specs.Prelude.{ℕ, true, false, ◌==◌, if◌then◌else◌, List, [], ◌∷◌}
use Rattle.lapin_acker.specs.declared.verdict.Verdict.{Verdict}
use Rattle.lapin_acker.specs.declared.verdict.Verdict.TheVariants as verdict

-- by the first byte: `a` is an ack, `n` a nack with requeue, `r` a reject without; anything else is nothing
abbrev pub verdict_of_byte : ℕ → Verdict
verdict_of_byte b = if b == 97 then verdict.Ack else if b == 110 then verdict.Nack true else if b == 114 then verdict.Reject false else verdict.Nothing

-- an empty payload is nothing
abbrev pub verdict_on : List ℕ → Verdict
verdict_on [] = verdict.Nothing
verdict_on (b ∷ bs) = verdict_of_byte b
