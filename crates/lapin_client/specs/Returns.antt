-- Messages that came back.
use Rattle.std.specs.Prelude.{◌≡◌, ◌++◌, ℕ, List, [], ◌∷◌, length, Option, Some, None, Result, Ok, Err, slice_get}
use Rattle.lapin_client.specs.declared.answers.Handed.{Handed}
use Rattle.lapin_client.specs.declared.answers.Handed.TheVariants as handed
use Rattle.lapin_client.specs.declared.client.Client.{Client}
use Rattle.lapin_client.specs.declared.returns.Returned.{Returned}
use Rattle.lapin_client.specs.declared.status.Status.{Status}
use Rattle.lapin_client.specs.declared.status.Status.TheVariants as status
use Rattle.lapin_client.specs.Asking.{IsUndone}
use Rattle.lapin_client.specs.Clients.{SameBytes, SameTold}
use Rattle.lapin_client.specs.Parcels.{message_bytes, message_of}
use Rattle.lapin_client.specs.Refusals.{Keeps}
use Rattle.lapin_machine.specs.World.{next, told_by}
use Rattle.lapin_types.specs.Types.{Error}
use Rattle.lapin_types.specs.declared.confirmation.Confirmation.{Confirmation}
use Rattle.lapin_types.specs.declared.confirmation.Confirmation.TheVariants as confirmation
use Rattle.lapin_types.specs.declared.event.Event.TheVariants as event
use Rattle.lapin_types.specs.declared.message.BasicReturnMessage.{BasicReturnMessage}
use Rattle.lapin_types.specs.declared.record.Record.TheVariants as record_

-- the octets of a message that came back: those of the message, and the broker's text
abbrev pub returned_bytes : BasicReturnMessage → List ℕ
returned_bytes m = message_bytes m.delivery ++ m.reply_text

-- its numbers, and how many octets the text has
abbrev pub returned_of : BasicReturnMessage → Returned
returned_of m = record { code = m.reply_code; text = length m.reply_text; message = message_of m.delivery }

-- the messages that came back which a client holds: that of the last outcome, or those of the last wait
abbrev pub came_back_in : Handed → List BasicReturnMessage
came_back_in (handed.CameBack m) = m ∷ []
came_back_in (handed.AllCameBack ms) = ms
came_back_in _ = []

-- the client holds the message that came back, if there is one, and no octets are the answer
abbrev pub HandsBack : Option BasicReturnMessage → Client → Type 0
HandsBack None d = (d.handed ≡ handed.Nothing) × (d.answer.items ≡ [])
HandsBack (Some m) d = (d.handed ≡ handed.CameBack m) × (d.answer.items ≡ [])

-- an outcome by number, with what came back; an error is kept
abbrev pub ConfirmShown : ℕ → Result Confirmation Error → Client → Client → Type 0
ConfirmShown code (Ok (confirmation.Ack m)) c d = (code ≡ 1) × HandsBack m d × (d.refused ≡ c.refused)
ConfirmShown code (Ok (confirmation.Nack m)) c d = (code ≡ 2) × HandsBack m d × (d.refused ≡ c.refused)
ConfirmShown code (Ok confirmation.NotRequested) c d = (code ≡ 3) × HandsBack None d × (d.refused ≡ c.refused)
ConfirmShown code (Err e) c d = (code ≡ 4) × Keeps e c d

-- What a poll of a confirm gives: its outcome; nothing yet; or an error, which is kept.
abbrev pub ConfirmTold : Result ℕ Status → ℕ → Client → Client → Type 0
ConfirmTold (Ok code) confirm c d = ((o : Result Confirmation Error) × (told_by c.session (event.PollConfirm confirm) ≡ record_.Confirmed o) × ConfirmShown code o c d)
    × (d.session ≡ next c.session (event.PollConfirm confirm)) × SameBytes c d
ConfirmTold (Err status.Pending) confirm c d = (told_by c.session (event.PollConfirm confirm) ≡ record_.Pending) × SameTold c d × (d.session ≡ next c.session (event.PollConfirm confirm)) × SameBytes c d
ConfirmTold (Err status.Refused) confirm c d = ((e : Error) × (told_by c.session (event.PollConfirm confirm) ≡ record_.Refused e) × Keeps e c d)
    × (d.session ≡ next c.session (event.PollConfirm confirm)) × SameBytes c d
ConfirmTold (Err status.Ended) confirm c d = (c.left ≡ 0) × (d ≡ c)
ConfirmTold (Err _) confirm c d = ⊥

-- What the wait for a channel gives: the messages that came back and that no outcome has, which the client then holds; nothing yet; or nothing was
-- done.
abbrev pub UnclaimedTold : Result ℕ Status → ℕ → Client → Client → Type 0
UnclaimedTold (Ok n) channel c d = ((ms : List BasicReturnMessage) × (told_by c.session (event.PollWait channel) ≡ record_.Returned ms) × (n ≡ length ms) × (d.handed ≡ handed.AllCameBack ms))
    × (d.answer.items ≡ []) × (d.refused ≡ c.refused) × (d.session ≡ next c.session (event.PollWait channel)) × SameBytes c d
UnclaimedTold (Err status.Pending) channel c d = (told_by c.session (event.PollWait channel) ≡ record_.Pending) × SameTold c d × (d.session ≡ next c.session (event.PollWait channel)) × SameBytes c d
UnclaimedTold (Err status.NoMemory) channel c d = IsUndone c d
UnclaimedTold (Err status.Ended) channel c d = (c.left ≡ 0) × (d ≡ c)
UnclaimedTold (Err _) channel c d = ⊥

-- What is told of a message that came back: its octets are the answer, and it is held as before; there is none at the place; or there was no memory
-- for them. In these nothing was done.
abbrev pub ReturnTold : Result Returned Status → ℕ → Client → Client → Type 0
ReturnTold (Ok r) place c d = ((m : BasicReturnMessage) × (slice_get (came_back_in c.handed) place ≡ Some m) × (r ≡ returned_of m) × (d.answer.items ≡ returned_bytes m))
    × (d.handed ≡ c.handed) × (d.refused ≡ c.refused) × (d.session ≡ c.session) × (d.left ≡ c.left) × SameBytes c d
ReturnTold (Err status.Pending) place c d = (slice_get (came_back_in c.handed) place ≡ None) × (d ≡ c)
ReturnTold (Err status.NoMemory) place c d = d ≡ c
ReturnTold (Err _) place c d = ⊥
