-- Which records are refusals, and what requests and phases don't say of a settlement.
use Rattle.std.specs.Prelude.{◌≡◌, Bool, true, false}
use Rattle.lapin_types.specs.declared.record.Record.{Record}
use Rattle.lapin_types.specs.declared.record.Record.TheVariants as record_
use Rattle.lapin_joint.specs.declared.step.Reported.{Reported}
use Rattle.lapin_joint.specs.declared.step.Reported.TheVariants as reported
use Rattle.lapin_rules.specs.declared.broker_frames.ContentPart.TheVariants as part
use Rattle.lapin_rules.specs.declared.broker_frames.Incoming.{Incoming}
use Rattle.lapin_rules.specs.declared.broker_frames.Incoming.TheVariants as incoming
use Rattle.lapin_rules.specs.Readings.{Readings}
use Rattle.lapin_rules.specs.Settlement.{settlement_record}

-- the record is a refusal
abbrev pub is_refusal : Record → Bool
is_refusal (record_.Refused e) = true
is_refusal _ = false

-- a delivery is reported whose record is a refusal
abbrev pub reports_refusal : Reported → Bool
reports_refusal (reported.Delivered r) = is_refusal r
reports_refusal _ = false

-- where the frame is a settlement, its tag is pending or its opening not selected
abbrev pub IsSettled : Readings → Incoming → Type 0
IsSettled readings (incoming.Settlement c s) = is_refusal (settlement_record readings c s) ≡ false
IsSettled readings _ = Unit {0}

-- a header is of class 60
abbrev pub IsGivenAs : Incoming → Type 0
IsGivenAs (incoming.Content c (part.Header h)) = h.class_id ≡ 60
IsGivenAs _ = Unit {0}
