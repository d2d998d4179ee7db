use Rattle.std.proofs.Common.{sym, ◌∙◌, ap, map}
use Rattle.lapin_ticket.specs.Slots.{closed_slot}
use Rattle.lapin_ticket.proofs.Ending.{close-next}
use Rattle.lapin_ticket.proofs.ends.reject.Goals as goal

pub returns-then-is_unbegun-clause-same : goal.returns-then-is_unbegun-clause-same
returns-then-is_unbegun-clause-same c =
    ap (map (closed_slot c.args.channel c.args.error)) c.fail.ensures.slots
    ∙ close-next c.args.number c.args.channel c.args.error c.args.slots.now.slots (sym c.is_unbegun.ensures ∙ c.if-is_unbegun.true)
