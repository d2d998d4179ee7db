-- What a ticket tells, with one level of errors, and as the answer that its call has.
use Rattle.std.specs.Prelude.{◌≡◌, ◌≢◌, ◌⊎◌, Option, Some, None, Result, Ok, Err}
use Rattle.lapin_types.specs.declared.answer.Answer.{Answer}
use Rattle.lapin_types.specs.declared.answer.Answer.TheVariants as answer
use Rattle.lapin_types.specs.declared.record.Record.{Record}
use Rattle.lapin_types.specs.declared.record.Record.TheVariants as record_
use Rattle.lapin_types.specs.Types.{Error}
use Rattle.lapin_machine.specs.declared.channel.Consumer.{Consumer}
use Rattle.lapin_loop.specs.declared.answers.Typed.{Typed}
use Rattle.lapin_loop.specs.declared.answers.Typed.TheVariants as typed

-- an answer, none yet, the error that the call ended with, or a refusal of the poll
abbrev pub IsAnswer : Result (Option Answer) Error → Record → Type 0
IsAnswer (Ok (Some a)) r = r ≡ record_.Answer (Ok a)
IsAnswer (Ok None) r = r ≡ record_.Pending
IsAnswer (Err e) r = (r ≡ record_.Answer (Err e)) ⊎ (r ≡ record_.Refused e)

-- the same, with an answer of the kind that is made so
abbrev pub IsTyped : {T : Type 0} → (T → Answer) → Result (Typed T) Error → Record → Type 0
IsTyped made (Ok typed.Pending) r = r ≡ record_.Pending
IsTyped made (Ok (typed.Ready x)) r = r ≡ record_.Answer (Ok (made x))
IsTyped made (Ok (typed.Other a)) r = r ≡ record_.Answer (Ok a)
IsTyped made (Err e) r = (r ≡ record_.Answer (Err e)) ⊎ (r ≡ record_.Refused e)

-- an answer is called another's only where it is none of the kind
abbrev pub IsOther : {T : Type 0} → (T → Answer) → Result (Typed T) Error → Type 0
IsOther {T} made (Ok (typed.Other a)) = (x : T) → a ≢ made x
IsOther made _ = Unit {0}

-- the answer of a call that has nothing to tell
abbrev pub done_of : Unit {0} → Answer
done_of x = answer.Done

-- the answer that names a consumer
abbrev pub consumer_of : Consumer → Answer
consumer_of c = answer.Consumer c.number
