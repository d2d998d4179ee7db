use Rattle.std.proofs.Common.{length, ap, ◌∙◌}
use Rattle.lapin_tables.proofs.SlotLaws.{length-with}
use Rattle.std.proofs.Common.{Some, sym, refl, ne_eqb}
use Rattle.lapin_types.specs.declared.outcome.Outcome.TheVariants as outcome
use Rattle.lapin_confirm.specs.declared.cell.Cell.TheVariants as cell
use Rattle.lapin_confirm.proofs.ConfirmModes.{confirm_modes-same, same-publish_states, same-confirm_state}
use Rattle.lapin_confirm.proofs.Tying.{tied_at-other}
use Rattle.lapin_confirm.proofs.Roomy.{same-origins, room-kept}
use Rattle.lapin_confirm.proofs.Whole.{none-queued, all-on}
use Rattle.lapin_confirm.proofs.ShownFull.{same-full, shows-same}
use Rattle.lapin_confirm.proofs.confirms.Confirms.reject.Goals as goal

pub invariant_of-self : goal.invariant_of-self
invariant_of-self c =
    record {
      tied =
          all-on c.queued_channel-channel.result c.in-Some.mode.now c.reject.new.mode c.self.inside.confirm_modes.entries c.self.inside.cells.slots c.reject.new.cells.slots (sym c.in-Some.ensures.value) c.self.invariant.tied
          c.reject.ensures.tied
          (λ d o other tied. rw c.reject.ensures.cells
          (tied_at-other d c.args.number (cell.Queued c.queued_channel-channel.result) (Some (cell.Resolved (outcome.Failed c.args.error))) o c.self.inside.cells.slots
          c.queued_channel-channel.ensures.queued (ne_eqb c.queued_channel-channel.result d other) refl tied));
      room = room-kept c.queued_channel-channel.result c.in-Some.mode.now c.reject.new.mode c.self.inside.rooms.entries c.self.inside.confirm_modes.entries c.self.inside.returned_by_channel.entries c.self.inside.cells.spare _ (sym c.in-Some.ensures.value) c.self.invariant.room c.reject.ensures.room c.reject.ensures.spare;
      origins = same-origins _ _ c.reject.new.cells.slots _ c.self.invariant.origins (ap length c.reject.ensures.cells ∙ length-with c.args.number _ c.self.inside.cells.slots);
      early = c.self.invariant.early;
      full = shows-same c.queued_channel-channel.result c.in-Some.mode.now c.reject.new.mode c.self.inside.full c.self.inside.confirm_modes.entries (sym c.in-Some.ensures.value) (same-full c.in-Some.mode.now c.reject.new.mode c.reject.ensures.mode c.reject.ensures.pending) c.self.invariant.full;
    }

pub returns-clause-what : goal.returns-clause-what
returns-clause-what c = rw (← c.self.view_is) (same-confirm_state _ _ _ _ _ _ (same-publish_states _ _ _ _ (confirm_modes-same c.queued_channel-channel.result c.in-Some.mode.now c.reject.new.mode c.self.inside.confirm_modes.entries (sym c.in-Some.ensures.value) c.reject.ensures.mode) c.reject.ensures.cells) refl refl)

pub unreachable-requires : goal.unreachable-requires
unreachable-requires c = none-queued c.queued_channel-channel.result c.args.number c.self.inside.confirm_modes.entries c.self.inside.cells.slots (sym c.in_default.ensures.value) c.self.invariant.tied c.queued_channel-channel.ensures.queued
