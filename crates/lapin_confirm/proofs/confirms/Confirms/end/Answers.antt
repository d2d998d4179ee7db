use Rattle.std.proofs.Common.{length, ap, ◌∙◌}
use Rattle.std.proofs.lemmas.List.{length-map}
use Rattle.std.proofs.Common.{refl, sym}
use Rattle.lapin_confirm.specs.PublishStates.{ended_confirm_mode}
use Rattle.lapin_confirm.proofs.ConfirmModes.{confirm_modes-absent, confirm_modes-on, same-publish_states, same-confirm_state}
use Rattle.lapin_confirm.proofs.Roomy.{same-origins, room-kept}
use Rattle.lapin_confirm.proofs.Whole.{untouched-of, all-on, tied_at-ended}
use Rattle.lapin_confirm.proofs.Ended.{ended-untouched}
use Rattle.lapin_confirm.proofs.ShownFull.{has-place, shows-on}
use Rattle.lapin_confirm.proofs.confirms.Confirms.end.Goals as goal

pub returns-in_default-clause-what : goal.returns-in_default-clause-what
returns-in_default-clause-what c = rw (← c.self.view_is) (same-confirm_state _ _ _ _ _ _ (same-publish_states _ _ _ _ (sym (confirm_modes-absent c.args.channel ended_confirm_mode c.self.inside.confirm_modes.entries (sym c.in_default.ensures.value))) (sym (ended-untouched c.args.channel c.args.error c.self.inside.cells.slots (untouched-of c.args.channel c.self.inside.confirm_modes.entries c.self.inside.cells.slots (sym c.in_default.ensures.value) c.self.invariant.tied)))) refl refl)

pub invariant_of-self-2 : goal.invariant_of-self-2
invariant_of-self-2 c =
    record {
      tied =
          all-on c.args.channel c.in-Some.mode.now c.end_opening.new.mode c.self.inside.confirm_modes.entries c.self.inside.cells.slots c.end_opening.new.cells.slots (sym c.in-Some.ensures.value) c.self.invariant.tied
          c.end_opening.ensures.tied
          (λ d o other tied. rw c.end_opening.ensures.cells (tied_at-ended c.args.channel d c.args.error o c.self.inside.cells.slots other tied));
      room = room-kept c.args.channel c.in-Some.mode.now c.end_opening.new.mode c.self.inside.rooms.entries c.self.inside.confirm_modes.entries c.self.inside.returned_by_channel.entries c.self.inside.cells.spare _ (sym c.in-Some.ensures.value) c.self.invariant.room c.end_opening.ensures.room c.end_opening.ensures.spare;
      origins = same-origins _ _ c.end_opening.new.cells.slots _ c.self.invariant.origins (ap length c.end_opening.ensures.cells ∙ length-map c.self.inside.cells.slots _);
      early = c.self.invariant.early;
      full = shows-on c.args.channel c.in-Some.mode.now c.end_opening.new.mode c.self.inside.full c.show.new.full c.self.inside.confirm_modes.entries (sym c.in-Some.ensures.value) c.self.invariant.full c.show.ensures;
    }

pub returns-clause-what : goal.returns-clause-what
returns-clause-what c = rw (← c.self.view_is) (same-confirm_state _ _ _ _ _ _ (same-publish_states _ _ _ _ (confirm_modes-on c.args.channel ended_confirm_mode c.in-Some.mode.now c.end_opening.new.mode c.self.inside.confirm_modes.entries (sym c.in-Some.ensures.value) c.end_opening.ensures.mode) c.end_opening.ensures.cells) refl refl)

pub show-requires : goal.show-requires
show-requires c = has-place c.args.channel c.in-Some.mode.now c.self.inside.full c.self.inside.confirm_modes.entries (sym c.in-Some.ensures.value) c.self.invariant.full
