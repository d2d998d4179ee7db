use Rattle.std.proofs.Common.{◌∙◌, ap, is_some}
use Rattle.lapin_rules.specs.ReturnLists.{return_of}
use Rattle.lapin_confirm.specs.ReturnedMessages.{ReturnedMessages}
use Rattle.lapin_confirm.proofs.Places.{place-held}
use Rattle.lapin_confirm.proofs.lists.Lists.holds.Goals as goal

pub returns : goal.returns
returns c =
    c.is_some.ensures
    ∙ ap is_some c.place_of.ensures
    ∙ place-held c.args.number c.self.inside.attached.items
    ∙ ap (λ (t : ReturnedMessages). is_some (return_of c.args.number t.return_lists)) c.self.view_is
