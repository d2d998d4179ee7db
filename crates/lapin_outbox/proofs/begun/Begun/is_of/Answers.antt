use Rattle.std.proofs.Common.{sym, ◌∙◌, ap}
use Rattle.lapin_rules.specs.Frames.{is_empty}
use Rattle.lapin_rules.specs.Drops.{is_rest_of}
use Rattle.lapin_outbox.proofs.Dropping.{rest-on}
use Rattle.lapin_outbox.proofs.begun.Begun.is_of.Goals as goal

pub returns-then-not-is_empty : goal.returns-then-not-is_empty
returns-then-not-is_empty c =
    let some = ap is_empty c.self.view_is ∙ sym c.is_empty.ensures ∙ c.if-not-is_empty.true in
    rest-on _ _ _ c.args.channel _ _ some ∙ ap (is_rest_of c.args.channel) c.self.view_is
