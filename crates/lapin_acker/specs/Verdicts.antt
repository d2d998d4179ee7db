-- The acker's call that a verdict asks for.
use Rattle.std.specs.Prelude.{false, Option, Some, None}
use Rattle.lapin_types.specs.declared.acker_call.AckerCall.{AckerCall}
use Rattle.lapin_types.specs.declared.acker_call.AckerCall.TheVariants as acker_call
use Rattle.lapin_acker.specs.declared.verdict.Verdict.{Verdict}
use Rattle.lapin_acker.specs.declared.verdict.Verdict.TheVariants as verdict

-- the call of its name, of one delivery alone, with its wish to deliver again; none for nothing
abbrev pub call_of : Verdict → Option AckerCall
call_of verdict.Ack = Some (acker_call.Ack (record { multiple = false }))
call_of (verdict.Nack requeue) = Some (acker_call.Nack (record { multiple = false; requeue = requeue }))
call_of (verdict.Reject requeue) = Some (acker_call.Reject (record { requeue = requeue }))
call_of verdict.Nothing = None
