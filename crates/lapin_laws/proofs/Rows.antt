-- What stands in a line of the table of calls: a method that is no publish and no close of a channel, and how its ticket is answered.
-- The search closes each line as a case of its own, so a new line touches nothing here: the case that is named makes it tell them apart.
use Rattle.std.proofs.Common.{◌≡◌, ℕ, Bool, true, false, cond, ◌&&◌, refl, sym, subst, rules}
use Rattle.lapin_types.specs.declared.acker_call.AckerCall.{AckerCall}
use Rattle.lapin_types.specs.declared.acker_call.AckerCall.TheVariants as acker_call
use Rattle.lapin_types.specs.declared.call.Call.{Call}
use Rattle.lapin_types.specs.declared.call.Call.TheVariants as call
use Rattle.lapin_types.specs.declared.record.Record.{Record}
use Rattle.lapin_types.specs.declared.record.Record.TheVariants as record_
use Rattle.lapin_types.specs.Types.{Method}
use Rattle.lapin_types.specs.Types.frame
use Rattle.lapin_types.specs.Types.error
use Rattle.lapin_rules.specs.declared.calls.Answered.{Answered}
use Rattle.lapin_rules.specs.declared.calls.Answered.TheVariants as answered
use Rattle.lapin_rules.specs.declared.calls.Asked.{Asked}
use Rattle.lapin_rules.specs.declared.calls.Asked.TheVariants as ask
use Rattle.lapin_rules.specs.TicketReadings.{answer_at}
use Rattle.lapin_rules.specs.Words.{is_some}
use Rattle.lapin_rules.specs.Calls.{asked, is_try}
use Rattle.lapin_rules.specs.Readings.{Readings}
use Rattle.lapin_rules.specs.Wire.{Wire, state_of, is_open}
use Rattle.lapin_rules.specs.Asking.{asked_by, is_outstanding, is_held, call_told, call_record}
use Rattle.lapin_rules.specs.Ackers.{acker_asked}
use Rattle.lapin_machine.proofs.Limited.{asked_plain}
use Rattle.lapin_laws.specs.Closes.{is_channel_close}
use Rattle.lapin_laws.specs.Unbroken.{is_publish}
use Rattle.lapin_tables.proofs.Bools.{and_first}

-- no publish, and no close of a channel
abbrev pub IsPlain : ℕ → Method → Type 0
IsPlain c m = (is_publish (frame.Method c m) ≡ false) × (is_channel_close m ≡ false)

-- what is answered as it leaves has an answer then
abbrev pub is_sure : Answered → Bool
is_sure (answered.AsItLeaves l) = is_some (answer_at l)
is_sure _ = true

abbrev pub IsLine : ℕ → Asked → Type 0
IsLine c (ask.Method row) = IsPlain c row.method × (is_sure row.answered ≡ true)
IsLine c (ask.Consume m tag queue o) = IsPlain c m
IsLine c _ = Unit {0}

pub call_line : (c : ℕ) (k : Call) → IsLine c (asked k)
call_line c call.OpenChannel = tt
call_line c k = search rules

-- ---- what a call with a record asks for

-- nothing, where it is refused by its channel's limit; else its line
pub told_as : (c : ℕ) (k : Call) (b : Wire) (readings : Readings) (D : Asked → Record → Type 0) → D ask.Nothing (record_.Refused (error.ConfirmsOutstanding (readings.limit c))) → D (asked k) (call_record c (asked k) b) → D (asked_by k (call_told c k b readings)) (call_told c k b readings)
told_as c k b readings D held free =
    let no : Record = record_.Refused (error.ConfirmsOutstanding (readings.limit c)) in
    elim (is_held c k b readings) as (λ t. is_held c k b readings ≡ t → D (asked_by k (cond t no (call_record c (asked k) b))) (cond t no (call_record c (asked k) b))) [
      | true ↦ λ h. let P : Bool → Type 0 = λ t. D (cond (t && true) ask.Nothing (asked k)) no in subst P (sym (and_first (is_try k) (is_open (state_of c b) && readings.at_limit c) h)) held
      | false ↦ λ h. let P : Asked → Type 0 = λ a. D a (call_record c (asked k) b) in subst P (sym (asked_plain c k b)) free
    ] refl

pub told_line : (c : ℕ) (k : Call) (r : Record) → IsLine c (asked_by k r)
told_line c k r = elim (is_try k && is_outstanding r) as (λ t. IsLine c (cond t ask.Nothing (asked k))) [ true ↦ tt | false ↦ call_line c k ]

pub acker_line : (c tag : ℕ) (k : AckerCall) → IsLine c (acker_asked k tag)
acker_line c tag (acker_call.Ack o) = search rules
acker_line c tag k = search rules
