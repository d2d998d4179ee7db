use mathlib.Core.Bool.{false≢true}
use Rattle.std.proofs.Common.{sym, ◌∙◌}
use Rattle.lapin_values.proofs.TextsLaws.{same_slots}
use Rattle.lapin_values.proofs.properties.BasicProperties.same.Goals as goal

pub returns-else-same_texts : goal.returns-else-same_texts
returns-else-same_texts c =
    let i = c.self.inside in let j = c.other.inside in (
      λ t. absurd (false≢true (sym c.if-same_texts.false ∙ t)),
      λ e. c.same_texts.ensures.1 (same_slots i.texts j.texts i.headers j.headers (c.self.view_is ∙ e ∙ sym c.other.view_is)),
    )
