use Rattle.std.proofs.Common.{List, sym, ◌∙◌, ap, slice_get}
use Rattle.lapin_rules.specs.Frames.{RestEntry, is_empty}
use Rattle.lapin_outbox.specs.Drops.{told_rest}
use Rattle.lapin_outbox.proofs.Dropping.{rest-told}
use Rattle.lapin_outbox.proofs.begun.Begun.dropped.Goals as goal

pub returns : goal.returns
returns c =
    let some = ap is_empty c.self.view_is ∙ sym c.is_empty.ensures ∙ c.if-is_empty.false in
    rest-told _ _ _ some ∙ ap (λ (fs : List RestEntry). slice_get (told_rest fs) 0) c.self.view_is
