use Rattle.std.proofs.Common.{length, ap, ◌∙◌}
use Rattle.lapin_tables.proofs.SlotLaws.{length-with}
use Rattle.std.proofs.Common.{◌≡◌, ◌∙◌, ℕ, refl, sym, subst, Some, Option, ne_eqb}
use Rattle.lapin_confirm.specs.declared.cell.Cell.TheVariants as cell
use Rattle.lapin_confirm.specs.declared.cell.Cell.{Cell}
use Rattle.lapin_tables.specs.ByChannel.{at_channel, on_channel}
use Rattle.lapin_confirm.specs.PublishStates.{tag_for, cell_with, left}
use Rattle.lapin_confirm.specs.Ties.{confirm_mode_states}
use Rattle.lapin_confirm.proofs.ConfirmModes.{publish_states, tag-there, left-publish_states, same-confirm_state}
use Rattle.lapin_confirm.proofs.Tying.{tied_at-other, left-closed}
use Rattle.lapin_confirm.proofs.Roomy.{same-origins, room-kept}
use Rattle.lapin_confirm.proofs.Whole.{none-queued, all-on}
use Rattle.lapin_confirm.proofs.ShownFull.{has-place, shows-on, unlimited, limit-after}
use Rattle.lapin_confirm.proofs.confirms.Confirms.register.Goals as goal

same_channel : (c d : ℕ) (o : Option Cell) → o ≡ Some (cell.Queued c) → o ≡ Some (cell.Queued d) → c ≡ d
same_channel c d o this that = let both : Some (cell.Queued c) ≡ Some (cell.Queued d) = sym this ∙ that in cc

pub invariant_of-self : goal.invariant_of-self
invariant_of-self c =
    record {
      tied =
          all-on c.queued_channel-channel.result c.in-Some.mode.now c.leave-tag.new.mode c.self.inside.confirm_modes.entries c.self.inside.cells.slots c.leave-tag.new.cells.slots (sym c.in-Some.ensures.value) c.self.invariant.tied
          c.leave-tag.ensures.tied
          (λ d o other tied. rw c.leave-tag.ensures.cells
          (tied_at-other d c.args.number (cell.Queued c.queued_channel-channel.result) (Some (cell_with c.queued_channel-channel.result c.leave-tag.result)) o c.self.inside.cells.slots
          c.queued_channel-channel.ensures.queued (ne_eqb c.queued_channel-channel.result d other) (left-closed c.queued_channel-channel.result d c.leave-tag.result other) tied));
      room = room-kept c.queued_channel-channel.result c.in-Some.mode.now c.leave-tag.new.mode c.self.inside.rooms.entries c.self.inside.confirm_modes.entries c.self.inside.returned_by_channel.entries c.self.inside.cells.spare _ (sym c.in-Some.ensures.value) c.self.invariant.room c.leave-tag.ensures.room c.leave-tag.ensures.spare;
      origins = same-origins _ _ c.leave-tag.new.cells.slots _ c.self.invariant.origins (ap length c.leave-tag.ensures.cells ∙ length-with c.args.number _ c.self.inside.cells.slots);
      early = c.self.invariant.early;
      full = shows-on c.queued_channel-channel.result c.in-Some.mode.now c.leave-tag.new.mode c.self.inside.full c.show_limited.new.full c.self.inside.confirm_modes.entries (sym c.in-Some.ensures.value) c.self.invariant.full c.show_limited.ensures;
    }

pub returns-clause-tag : goal.returns-clause-tag
returns-clause-tag c = λ d there.
    let was : _ ≡ Some (cell.Queued d) = rw (← c.self.view_is) at there in
    let P : ℕ → Type 0 = λ e. c.leave-tag.result ≡ tag_for (at_channel e (confirm_mode_states c.self.inside.confirm_modes.entries)) in
    rw (← c.self.view_is) (subst P (same_channel c.queued_channel-channel.result d _ c.queued_channel-channel.ensures.queued was) (tag-there c.queued_channel-channel.result c.leave-tag.result c.in-Some.mode.now c.self.inside.confirm_modes.entries (sym c.in-Some.ensures.value) c.leave-tag.ensures.tag))

pub returns-clause-left : goal.returns-clause-left
returns-clause-left c = λ d there.
    let was : _ ≡ Some (cell.Queued d) = rw (← c.self.view_is) at there in
    let P : ℕ → Type 0 = λ e. publish_states (confirm_mode_states (on_channel c.queued_channel-channel.result (λ _. c.leave-tag.new.mode) c.self.inside.confirm_modes.entries)) c.leave-tag.new.cells.slots ≡ left e c.args.number (publish_states (confirm_mode_states c.self.inside.confirm_modes.entries) c.self.inside.cells.slots) in
    rw (← c.self.view_is) (same-confirm_state _ _ _ _ _ _ (subst P (same_channel c.queued_channel-channel.result d _ c.queued_channel-channel.ensures.queued was)
    (left-publish_states c.queued_channel-channel.result c.args.number c.leave-tag.result c.in-Some.mode.now c.leave-tag.new.mode c.self.inside.confirm_modes.entries c.self.inside.cells.slots c.leave-tag.new.cells.slots (sym c.in-Some.ensures.value) c.leave-tag.ensures.tag c.leave-tag.ensures.mode c.leave-tag.ensures.cells)) refl refl)

pub unreachable-requires : goal.unreachable-requires
unreachable-requires c = none-queued c.queued_channel-channel.result c.args.number c.self.inside.confirm_modes.entries c.self.inside.cells.slots (sym c.in_default.ensures.value) c.self.invariant.tied c.queued_channel-channel.ensures.queued

pub show_limited-requires-clause-placed : goal.show_limited-requires-clause-placed
show_limited-requires-clause-placed c = has-place c.queued_channel-channel.result c.in-Some.mode.now c.self.inside.full c.self.inside.confirm_modes.entries (sym c.in-Some.ensures.value) c.self.invariant.full

pub show_limited-requires-clause-unlimited : goal.show_limited-requires-clause-unlimited
show_limited-requires-clause-unlimited c = unlimited c.queued_channel-channel.result c.in-Some.mode.now c.leave-tag.new.mode c.self.inside.full c.self.inside.confirm_modes.entries (sym c.in-Some.ensures.value) c.self.invariant.full (limit-after c.leave-tag.result c.in-Some.mode.now c.leave-tag.new.mode c.leave-tag.ensures.mode)
