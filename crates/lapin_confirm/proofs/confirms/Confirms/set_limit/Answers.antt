use Rattle.std.proofs.Common.{arith, sym, refl}
use Rattle.lapin_confirm.specs.PublishStates.{limited_confirm_mode}
use Rattle.lapin_confirm.proofs.ConfirmModes.{confirm_modes-absent, confirm_modes-on, same-publish_states, same-confirm_state}
use Rattle.lapin_confirm.proofs.Roomy.{room-kept, keeps-same}
use Rattle.lapin_confirm.proofs.Whole.{tied-of, all-on, tied-room}
use Rattle.lapin_confirm.proofs.ShownFull.{has-place, shows-on}
use Rattle.lapin_confirm.proofs.confirms.Confirms.set_limit.Goals as goal

pub returns-in_default-clause-what : goal.returns-in_default-clause-what
returns-in_default-clause-what c = rw (← c.self.view_is) (same-confirm_state _ _ _ _ _ _ (same-publish_states _ _ _ _ (sym (confirm_modes-absent c.args.channel (limited_confirm_mode c.args.limit) c.self.inside.confirm_modes.entries (sym c.in_default.ensures.value))) refl) refl refl)

pub invariant_of-self-2 : goal.invariant_of-self-2
invariant_of-self-2 c =
    let tied = tied-of c.args.channel c.in-Some.mode.now c.self.inside.confirm_modes.entries c.self.inside.cells.slots (sym c.in-Some.ensures.value) c.self.invariant.tied in
    record {
      tied =
          all-on c.args.channel c.in-Some.mode.now _ c.self.inside.confirm_modes.entries c.self.inside.cells.slots c.self.inside.cells.slots (sym c.in-Some.ensures.value) c.self.invariant.tied
          (tied-room c.args.channel c.in-Some.mode.now _ c.self.inside.cells.slots tied refl refl refl tied.room)
          (λ d o other tied. tied);
      room = room-kept c.args.channel c.in-Some.mode.now (record c.in-Some.mode.now { limit = c.args.limit }) c.self.inside.rooms.entries c.self.inside.confirm_modes.entries c.self.inside.returned_by_channel.entries c.self.inside.cells.spare _ (sym c.in-Some.ensures.value) c.self.invariant.room (keeps-same c.in-Some.mode.now (record c.in-Some.mode.now { limit = c.args.limit }) refl refl) (omega arith);
      origins = c.self.invariant.origins;
      early = c.self.invariant.early;
      full = shows-on c.args.channel c.in-Some.mode.now (record c.in-Some.mode.now { limit = c.args.limit }) c.self.inside.full c.show.new.full c.self.inside.confirm_modes.entries (sym c.in-Some.ensures.value) c.self.invariant.full c.show.ensures;
    }

pub returns-clause-what : goal.returns-clause-what
returns-clause-what c = rw (← c.self.view_is) (same-confirm_state _ _ _ _ _ _ (same-publish_states _ _ _ _ (confirm_modes-on c.args.channel (limited_confirm_mode c.args.limit) c.in-Some.mode.now _ c.self.inside.confirm_modes.entries (sym c.in-Some.ensures.value) refl) refl) refl refl)

pub show-requires : goal.show-requires
show-requires c = has-place c.args.channel c.in-Some.mode.now c.self.inside.full c.self.inside.confirm_modes.entries (sym c.in-Some.ensures.value) c.self.invariant.full
