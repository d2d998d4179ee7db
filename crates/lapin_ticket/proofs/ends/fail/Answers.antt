use Rattle.std.proofs.Common.{sym, ◌∙◌, ap}
use Rattle.lapin_ticket.specs.Slots.{failed}
use Rattle.lapin_ticket.proofs.Ending.{end-next}
use Rattle.lapin_ticket.proofs.ends.fail.Goals as goal

pub returns-then-not-is_spared-clause-same : goal.returns-then-not-is_spared-clause-same
returns-then-not-is_spared-clause-same c =
    ap (failed c.args.channel c.args.spared c.args.error) c.fail.ensures.slots
    ∙ end-next c.args.number c.args.channel c.args.spared c.args.error c.args.slots.now.slots (sym c.is_open_on.ensures ∙ c.if-is_open_on.true) (sym c.is_spared.ensures ∙ c.if-not-is_spared.true)
