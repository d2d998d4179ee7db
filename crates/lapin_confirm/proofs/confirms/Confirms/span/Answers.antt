use Rattle.std.proofs.Common.{◌∙◌, sym, ap}
use Rattle.lapin_confirm.specs.PublishStates.{last_in, least_in, span_from}
use Rattle.lapin_confirm.proofs.ConfirmModes.{mode-at}
use Rattle.lapin_confirm.proofs.Whole.{tied-of, untouched-of}
use Rattle.lapin_confirm.proofs.Spans.{least-tied, least-untouched}
use Rattle.lapin_confirm.proofs.confirms.Confirms.span.Goals as goal

pub returns-in-Some : goal.returns-in-Some
returns-in-Some c =
    let tied = tied-of c.args.channel _ c.self.inside.confirm_modes.entries c.self.inside.cells.slots (sym c.in-Some.ensures) c.self.invariant.tied in
    rw (← c.self.view_is)
    (c.span_of.ensures
    ∙ ap (span_from _) (least-tied c.args.channel _ c.self.inside.cells.slots tied)
    ∙ ap (λ n. span_from n (least_in c.args.channel c.self.inside.cells.slots)) (ap last_in (sym (mode-at c.args.channel c.self.inside.confirm_modes.entries _ (sym c.in-Some.ensures)))))

pub returns-in-None : goal.returns-in-None
returns-in-None c =
    let none = untouched-of c.args.channel c.self.inside.confirm_modes.entries c.self.inside.cells.slots (sym c.in-None.ensures) c.self.invariant.tied in
    rw (← c.self.view_is) (ap (span_from _) (sym (least-untouched c.args.channel c.self.inside.cells.slots none)))
