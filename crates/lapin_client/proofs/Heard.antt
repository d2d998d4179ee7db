-- What an error of a frame leaves.
use Rattle.std.proofs.Common.{◌≡◌, ◌⊎◌, true, false, Ok, Err, inl, inr, arith}
use Rattle.lapin_types.specs.Types.{Error}
use Rattle.lapin_types.specs.Types.error
use Rattle.lapin_types.specs.declared.record.Record.{Record}
use Rattle.lapin_types.specs.declared.record.Record.TheVariants as record_
use Rattle.lapin_machine.specs.declared.channel.Heard.{Heard}
use Rattle.lapin_machine.specs.declared.channel.Heard.TheVariants as heard
use Rattle.lapin_machine.specs.Told.{HeardTold, WasHeard}
use Rattle.lapin_client.specs.Refusals.{is_refusal}

pub did : (e : Error) (p q : Type 0) → WasHeard (Err e) p q → is_refusal e ≡ true → p
did error.NoMemory p q h is = grind (is, arith)
did error.NumbersUsedUp p q h is = grind (is, arith)
did (error.InvalidChannelState s) p q h is = h
did (error.ProtocolError c) p q h is = h
did error.ConnectionLost p q h is = h
did (error.UnexpectedFrame c m) p q h is = h
did (error.PreconditionFailed t n) p q h is = h
did error.AlreadyTaken p q h is = h
did error.UnknownTicket p q h is = h
did (error.ConfirmsOutstanding l) p q h is = h

pub did_not : (e : Error) (p q : Type 0) → WasHeard (Err e) p q → is_refusal e ≡ false → q
did_not error.NoMemory p q h is = h
did_not error.NumbersUsedUp p q h is = h
did_not (error.InvalidChannelState s) p q h is = grind (is, arith)
did_not (error.ProtocolError c) p q h is = grind (is, arith)
did_not error.ConnectionLost p q h is = grind (is, arith)
did_not (error.UnexpectedFrame c m) p q h is = grind (is, arith)
did_not (error.PreconditionFailed t n) p q h is = grind (is, arith)
did_not error.AlreadyTaken p q h is = grind (is, arith)
did_not error.UnknownTicket p q h is = grind (is, arith)
did_not (error.ConfirmsOutstanding l) p q h is = grind (is, arith)

-- what a frame is told as that the session takes
pub heard_so : (x : Heard) (r : Record) → HeardTold (Ok x) r → (r ≡ record_.Received) ⊎ (r ≡ record_.Passed)
heard_so heard.Received r told = inl told
heard_so heard.Passed r told = inr told
