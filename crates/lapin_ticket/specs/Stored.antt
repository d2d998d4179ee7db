-- Where an answer stands that is held.
use Rattle.std.specs.Prelude.{Result, Ok, Err}
use Rattle.lapin_types.specs.declared.answer.Answer.{Answer}
use Rattle.lapin_types.specs.declared.answer.Answer.TheVariants as answer
use Rattle.lapin_types.specs.Types.{Error}
use Rattle.lapin_ticket.specs.declared.held.Stored.{Stored}
use Rattle.lapin_ticket.specs.declared.held.Stored.TheVariants as kept

-- the answer, or the error with which the call failed
abbrev pub held_by : Stored → Result Answer Error
held_by kept.Done = Ok answer.Done
held_by kept.Yes = Ok answer.Yes
held_by (kept.Confirm n) = Ok (answer.Confirm n)
held_by (kept.Channel c) = Ok (answer.Channel c)
held_by (kept.Failed e) = Err e
held_by (kept.Boxed b) = Ok b.value
