-- What an outcome with what came back leaves.
use Rattle.std.proofs.Common.{◌≡◌, ℕ, Result, Ok, Err, ◌∙◌}
use Rattle.lapin_client.specs.declared.client.Client.{Client}
use Rattle.lapin_client.specs.Clients.{SameBytes, SameTold}
use Rattle.lapin_client.specs.Returns.{ConfirmShown, ConfirmTold}
use Rattle.lapin_machine.specs.World.{next, told_by}
use Rattle.lapin_types.specs.Types.{Error}
use Rattle.lapin_types.specs.declared.confirmation.Confirmation.{Confirmation}
use Rattle.lapin_types.specs.declared.confirmation.Confirmation.TheVariants as confirmation
use Rattle.lapin_types.specs.declared.event.Event.TheVariants as event
use Rattle.lapin_types.specs.declared.record.Record.TheVariants as record_

-- what is shown stays as the session changes
shown_from : (code : ℕ) (o : Result Confirmation Error) (c p d : Client) → SameTold c p → ConfirmShown code o p d → ConfirmShown code o c d
shown_from code (Ok (confirmation.Ack m)) c p d same h = (h.0, h.1, h.2 ∙ same.2)
shown_from code (Ok (confirmation.Nack m)) c p d same h = (h.0, h.1, h.2 ∙ same.2)
shown_from code (Ok confirmation.NotRequested) c p d same h = (h.0, h.1, h.2 ∙ same.2)
shown_from code (Err e) c p d same h = (h.0, (h.1.0, (h.1.1.0 ∙ same.0, h.1.1.1 ∙ same.1)))

-- of a client whose session was polled the outcome is told
pub confirmed_with : (code : ℕ) (o : Result Confirmation Error) (k : ℕ) (c p d : Client) → told_by c.session (event.PollConfirm k) ≡ record_.Confirmed o → p.session ≡ next c.session (event.PollConfirm k) → SameTold c p → SameBytes c p →
    ConfirmShown code o p d → d.session ≡ p.session → SameBytes p d → ConfirmTold (Ok code) k c d
confirmed_with code o k c p d told stepped same bytes shown session kept =
    ((o, told, shown_from code o c p d same shown), session ∙ stepped, (kept.0 ∙ bytes.0, kept.1 ∙ bytes.1, kept.2 ∙ bytes.2, kept.3 ∙ bytes.3, kept.4 ∙ bytes.4, kept.5 ∙ bytes.5))
