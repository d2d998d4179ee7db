-- What is sent of a verdict on a delivery.
use Rattle.std.specs.Prelude.{Bool, true, false}
use Rattle.lapin_acker.specs.declared.verdict.Verdict.{Verdict}
use Rattle.lapin_acker.specs.declared.verdict.Verdict.TheVariants as verdict

-- a delivery that came before is not queued again: that wish becomes a reject without it. Every other verdict stays.
abbrev pub last_verdict : Verdict → Bool → Verdict
last_verdict (verdict.Nack true) true = verdict.Reject false
last_verdict (verdict.Reject true) true = verdict.Reject false
last_verdict v redelivered = v
