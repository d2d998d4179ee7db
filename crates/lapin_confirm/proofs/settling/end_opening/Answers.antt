use Rattle.std.proofs.Common.{ap, refl, ◌≤◌, ◌∙◌, nat_le, length, arith}
use Rattle.std.proofs.lemmas.Bool.{le-leb}
use Rattle.lapin_tables.proofs.SlotLaws.{given}
use Rattle.lapin_confirm.specs.PublishStates.{ConfirmModeState, ended_confirm_mode}
use Rattle.lapin_confirm.proofs.Ended.{ended-settled}
use Rattle.lapin_confirm.proofs.Whole.{tied-room}
use Rattle.lapin_confirm.proofs.settling.end_opening.Goals as goal

pub returns-clause-cells : goal.returns-clause-cells
returns-clause-cells c =
    let tied = c.reject_queued.ensures.tied in
    c.settle_through.ensures.cells
    ∙ ended-settled c.args.channel (λ t. nat_le t c.count-last.result) c.args.error c.reject_queued.new.cells.slots (tied.queued ∙ c.reject_queued.ensures.none) (λ n t there.
    let last : t ≤ length c.reject_queued.new.mode.tags.slots = given t n c.reject_queued.new.mode.tags.slots (tied.named n t there) in
    le-leb t c.count-last.result (omega (arith, c.count-last.ensures)))
    ∙ c.reject_queued.ensures.same

pub returns-clause-tied : goal.returns-clause-tied
returns-clause-tied c = tied-room c.args.channel c.settle_through.new.mode _ c.settle_through.new.cells.slots c.settle_through.ensures.tied refl refl refl c.settle_through.ensures.tied.room

pub returns-clause-mode : goal.returns-clause-mode
returns-clause-mode c = ap (λ (l : ConfirmModeState). ended_confirm_mode l) (c.settle_through.ensures.mode ∙ c.reject_queued.ensures.mode)
