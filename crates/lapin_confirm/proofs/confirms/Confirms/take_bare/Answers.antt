use Rattle.std.proofs.Common.{◌∙◌, ap, sym}
use Rattle.lapin_confirm.specs.PublishStates.{is_resolved}
use Rattle.lapin_confirm.specs.WithRoom.{WithRoom}
use Rattle.lapin_confirm.specs.ConfirmState.{given}
use Rattle.lapin_confirm.specs.Ties.{confirm_mode_states, returned_by_channel_of}
use Rattle.lapin_confirm.proofs.Asides.{forget-kept}
use Rattle.lapin_confirm.proofs.Polling.{bare-answer}
use Rattle.lapin_confirm.proofs.ReturnedByChannel.{given-bare}
use Rattle.lapin_confirm.proofs.confirms.Confirms.take_bare.Goals as goal

pub invariant_of-self : goal.invariant_of-self
invariant_of-self c =
    let cell = sym (rw c.in-Some-Resolved.field-0-is at c.in-Some-Resolved.ensures).value in
    forget-kept c.args.number _ _ _ _ _ _ _ _ (ap is_resolved cell) c.take.ensures.slots c.take.ensures.kept c.take-2.ensures.slots c.take-2.ensures.kept (λ fit. fit) c.self.invariant

pub returns-clause-taken : goal.returns-clause-taken
returns-clause-taken c =
    let old = c.self.inside in
    rw (c.take.ensures.slots, c.take-2.ensures.slots)
    (given-bare c.args.number (record { publish_states = record { confirm_modes = confirm_mode_states old.confirm_modes.entries; cells = old.cells.slots }; returned_by_channel = returned_by_channel_of old.returned_by_channel.entries; early = old.early.items; origins = old.origins.slots }) (sym c.if-has_message.ensures)
    ∙ ap (λ (k : WithRoom). given c.args.number k.what) c.self.view_is)

pub returns-clause-some : goal.returns-clause-some
returns-clause-some c =
    let cell = sym (rw c.in-Some-Resolved.field-0-is at c.in-Some-Resolved.ensures).value in
    let old = c.self.inside in
    rw (← c.self.view_is)
    (bare-answer c.args.number c.in-Some-Resolved.outcome (record { publish_states = record { confirm_modes = confirm_mode_states old.confirm_modes.entries; cells = old.cells.slots }; returned_by_channel = returned_by_channel_of old.returned_by_channel.entries; early = old.early.items; origins = old.origins.slots }) (sym c.if-is_aside.ensures) (sym c.if-has_message.ensures) cell)
