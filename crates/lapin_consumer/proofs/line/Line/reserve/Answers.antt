use Rattle.std.proofs.Common.{ap, ◌∙◌}
use Rattle.std.specs.Prelude.{bytes_eq}
use Rattle.std.specs.Map.{lookup}
use Rattle.lapin_consumer.specs.Indexed.{Line}
use Rattle.lapin_consumer.proofs.Texts.{after-move}
use Rattle.lapin_consumer.proofs.line.Line.reserve.Goals as goal

pub returns-clause-same : goal.returns-clause-same
returns-clause-same c = record {
  places = c.reserve.ensures.items ∙ ap (λ (l : Line). l.places) c.self.view_is;
  tags = λ t. after-move c.self.inside.tags c.reserve-2.new.self c.reserve-2.ensures.entries.2 t ∙ ap (λ (l : Line). lookup (bytes_eq t) l.tags) c.self.view_is;
}
