use Rattle.lapin_full.specs.ChannelSet.{is_in}
use Rattle.lapin_confirm.specs.PublishStates.{full_on}
use Rattle.lapin_confirm.specs.Ties.{confirm_mode_states}
use Rattle.lapin_confirm.proofs.ConfirmModes.{publish_states}
use Rattle.lapin_confirm.proofs.ShownFull.{full-as-shown, asked-alike}
use Rattle.lapin_confirm.proofs.limits.ConfirmsFullChannels.first_open.Goals as goal

pub returns : goal.returns
returns c =
    let full = c.self.inside.full in
    let es = c.self.inside.confirm_modes.entries in
    let cells = c.self.inside.cells.slots in
    rw (← c.self.view_is) (asked-alike (λ d. is_in d full) (λ d. full_on d (publish_states (confirm_mode_states es) cells)) c.args.channels.now c.args.from c.first_without.result (λ d. full-as-shown d full es cells c.self.invariant.full c.self.invariant.tied) c.first_without.ensures)
