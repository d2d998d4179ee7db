-- A publish and its outcome, and the fate of a message, as the events of the session that they are.
use Rattle.std.specs.Prelude.{◌≡◌, ◌<◌, ◌≤◌, ◌⊎◌, ◌+◌, ℕ, Bool, true, false, List, length, Result, Ok, Err, is_some}
use Rattle.std.specs.Str.{IsUtf8}
use Rattle.lapin_client.specs.declared.client.Client.{Client}
use Rattle.lapin_client.specs.declared.calls.Fate.{Fate}
use Rattle.lapin_client.specs.declared.calls.Fate.TheVariants as fate
use Rattle.lapin_client.specs.declared.status.Status.{Status}
use Rattle.lapin_client.specs.declared.status.Status.TheVariants as status
use Rattle.lapin_client.specs.Asking.{IsUndone, NotMet}
use Rattle.lapin_client.specs.Clients.{SameBytes, SameTold}
use Rattle.lapin_client.specs.Refusals.{Keeps}
use Rattle.lapin_confirm.specs.Answers.{result_of}
use Rattle.lapin_confirm.specs.Aside.{is_giving}
use Rattle.lapin_confirm.specs.ConfirmState.{message_of as message_back}
use Rattle.lapin_frames.specs.Carried.{carrying}
use Rattle.lapin_machine.specs.Numbers.{EventUsedUp}
use Rattle.lapin_methods.specs.declared.options.BasicPublishOptions.{BasicPublishOptions}
use Rattle.lapin_types.specs.declared.outcome.Outcome.{Outcome}
use Rattle.lapin_types.specs.declared.outcome.Outcome.TheVariants as outcome
use Rattle.lapin_machine.specs.World.{World, next, told_by}
use Rattle.lapin_types.specs.Types.{Error}
use Rattle.lapin_types.specs.Types.error
use Rattle.lapin_types.specs.declared.acker_call.AckerCall.{AckerCall}
use Rattle.lapin_types.specs.declared.acker_call.AckerCall.TheVariants as acker_call
use Rattle.lapin_types.specs.declared.call.Call.TheVariants as call
use Rattle.lapin_types.specs.declared.event.Event.{Event}
use Rattle.lapin_types.specs.declared.event.Event.TheVariants as event
use Rattle.lapin_types.specs.declared.record.Record.TheVariants as record_

-- A publish: the session met the call, and then set its ticket aside; the number is that of its confirm.
abbrev pub IsPublished : ℕ → Event → World → World → Type 0
IsPublished confirm e w v = (ticket : ℕ) × (told_by w e ≡ record_.Publish ticket confirm) × (v ≡ next (next w e) (event.AsideTicket ticket))

-- a publish by its event; where it fails nothing was published
abbrev pub PublishedBy : Result ℕ Status → Event → Client → Client → Type 0
PublishedBy (Ok confirm) e c d = IsPublished confirm e c.session d.session × SameTold c d × SameBytes c d
PublishedBy (Err s) e c d = NotMet s e c d × (d.session ≡ c.session) × SameBytes c d

-- the event of a publish whose list of properties is carried as its octets
abbrev pub publishing : ℕ → List ℕ → List ℕ → BasicPublishOptions → List ℕ → List ℕ → Event
publishing channel exchange key options payload properties = event.Call channel (call.BasicPublish exchange key options payload (carrying properties))

-- octets that are no short text: not of Unicode's text, or more than 255
abbrev pub IsNoText : List ℕ → Type 0
IsNoText bytes = (IsUtf8 bytes → ⊥) ⊎ (255 < length bytes)

-- octets that are one
abbrev pub IsText : List ℕ → Type 0
IsText bytes = IsUtf8 bytes × (length bytes ≤ 255)

-- why octets gave no short text
abbrev pub NoText : Status → List ℕ → Type 0
NoText status.NotInGrammar bytes = IsNoText bytes
NoText status.NoMemory bytes = Unit {0}
NoText _ bytes = ⊥

-- how many octets the frame of a content header has: seven before it, its class, its weight and the size of its content, its list of
-- properties, and its end
abbrev pub header_length : List ℕ → ℕ
header_length properties = length properties + 20

-- a list of properties has its flags, and its header's frame has room for it
abbrev pub IsListed : List ℕ → ℕ → Type 0
IsListed properties frame_max = (2 ≤ length properties) × (header_length properties ≤ frame_max)

-- The exchange and the routing key are short texts, and the properties a list whose frame may leave. (That of the method always may: each of its
-- texts is short.)
abbrev pub IsSendable : List ℕ → List ℕ → List ℕ → ℕ → Type 0
IsSendable exchange key properties frame_max = IsText exchange × IsText key × IsListed properties frame_max

-- What becomes of a publish: the session met its call, and then set its ticket aside; or nothing was published: its header's frame would be
-- longer than a frame may be, an argument is none, the client takes nothing further, or the session did not meet the call.
abbrev pub Published : Result ℕ Status → ℕ → List ℕ → List ℕ → BasicPublishOptions → List ℕ → List ℕ → Client → Client → Type 0
Published (Err status.TooLong) channel exchange key options payload properties c d = (c.frame_max < header_length properties) × IsUndone c d
Published (Err status.NotInGrammar) channel exchange key options payload properties c d = (IsNoText exchange ⊎ (IsNoText key ⊎ (length properties < 2))) × IsUndone c d
Published (Err status.NoMemory) channel exchange key options payload properties c d = IsUndone c d
Published (Err status.Ended) channel exchange key options payload properties c d =
    ((c.left < 2) ⊎ EventUsedUp (publishing channel exchange key options payload properties) c.session.wire) × IsUndone c d
Published r channel exchange key options payload properties c d =
    IsSendable exchange key properties c.frame_max × PublishedBy r (publishing channel exchange key options payload properties) c d

-- the outcomes by number; an error is kept
abbrev pub OutcomeShown : ℕ → Outcome → Client → Client → Type 0
OutcomeShown code outcome.Ack c d = (code ≡ 1) × SameTold c d
OutcomeShown code outcome.Nack c d = (code ≡ 2) × SameTold c d
OutcomeShown code outcome.NotRequested c d = (code ≡ 3) × SameTold c d
OutcomeShown code (outcome.Failed e) c d = (code ≡ 4) × Keeps e c d

-- why no outcome is given: there is none, or not any more; its message came back; or the client takes nothing further
abbrev pub HasNoOutcome : ℕ → Client → Type 0
HasNoOutcome confirm c = ((is_giving confirm c.session.confirm_state ≡ false) ⊎ (is_some (message_back confirm c.session.confirm_state) ≡ true)) ⊎ (c.left ≡ 0)

-- the outcome of a confirm, given once; 0 where it is not given, and then nothing changes
abbrev pub OutcomeTold : ℕ → ℕ → Client → Client → Type 0
OutcomeTold code confirm c d = (((code ≡ 0) × HasNoOutcome confirm c × (d.session ≡ c.session) × SameTold c d)
    ⊎ ((o : Outcome) × (told_by c.session (event.PollConfirm confirm) ≡ record_.Confirmed (result_of o)) × (d.session ≡ next c.session (event.PollConfirm confirm)) × OutcomeShown code o c d)) × SameBytes c d

-- the call of an acker by which a message has its fate
abbrev pub fate_call : Fate → Bool → Bool → AckerCall
fate_call fate.Ack multiple requeue = acker_call.Ack (record { multiple = multiple })
fate_call fate.Nack multiple requeue = acker_call.Nack (record { multiple = multiple; requeue = requeue })
fate_call fate.Reject multiple requeue = acker_call.Reject (record { requeue = requeue })

-- What a call of an acker leaves: it was made, and its ticket set aside; it was not, since the acker isn't usable; or it was refused, which uses
-- the acker up, and the error is kept. Else nothing was done.
abbrev pub Settled : Status → ℕ → AckerCall → Client → Client → Type 0
Settled status.Done acker k c d = ((t : ℕ) × (told_by c.session (event.Acker acker k) ≡ record_.Ticket t) × (d.session ≡ next (next c.session (event.Acker acker k)) (event.AsideTicket t))) × SameTold c d × SameBytes c d
Settled status.Gone acker k c d = (told_by c.session (event.Acker acker k) ≡ record_.No) × (d.session ≡ next c.session (event.Acker acker k)) × SameTold c d × SameBytes c d
Settled status.Refused acker k c d = ((e : Error) × (told_by c.session (event.Acker acker k) ≡ record_.Refused e) × Keeps e c d) × (d.session ≡ next c.session (event.Acker acker k)) × SameBytes c d
Settled status.NoMemory acker k c d = IsUndone c d
Settled status.Ended acker k c d = ((c.left < 2) ⊎ EventUsedUp (event.Acker acker k) c.session.wire) × IsUndone c d
Settled _ acker k c d = ⊥

-- what an error of a confirm that isn't set aside is told as
abbrev pub forget_fault : Error → Status
forget_fault error.NoMemory = status.NoMemory
forget_fault _ = status.Gone

-- What is left where a confirm will not be asked for any more. The session refuses it where it was given, or never will be.
abbrev pub Forgotten : Status → ℕ → Client → Client → Type 0
Forgotten status.Done confirm c d = (told_by c.session (event.AsideConfirm confirm) ≡ record_.Aside) × (d.session ≡ next c.session (event.AsideConfirm confirm)) × SameTold c d × SameBytes c d
Forgotten status.Gone confirm c d = ((e : Error) × (told_by c.session (event.AsideConfirm confirm) ≡ record_.Refused e)) × IsUndone c d
Forgotten status.NoMemory confirm c d = IsUndone c d
Forgotten status.Ended confirm c d = (c.left ≡ 0) × IsUndone c d
Forgotten _ confirm c d = ⊥
