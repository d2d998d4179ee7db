use Rattle.std.proofs.Common.{◌≡◌, ℕ, false, subst}
use Rattle.std.specs.List.{list_any}
use Rattle.lapin_tables.specs.ByChannel.{at_channel}
use Rattle.lapin_confirm.specs.PublishStates.{is_open_on}
use Rattle.lapin_machine.specs.Tied.{is_live_on}
use Rattle.lapin_machine.specs.World.{World}
use Rattle.lapin_machine.proofs.session.Session.no_confirm_is_lost.Goals as goal

pub returns : goal.returns
returns c =
    let P : World → Type 0 = λ w. (d : ℕ) → is_live_on w.wire.link (at_channel d w.wire.phases) ≡ false → list_any (is_open_on d) w.confirm_state.publish_states.cells ≡ false in
    subst P c.self.view_is c.self.invariant.tied.done
