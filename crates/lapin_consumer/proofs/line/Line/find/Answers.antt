use Rattle.std.proofs.Common.{sym, ap, ◌∙◌}
use Rattle.std.specs.Prelude.{bytes_eq}
use Rattle.std.specs.Map.{lookup}
use Rattle.lapin_consumer.specs.Indexed.{Line}
use Rattle.lapin_consumer.proofs.Texts.{by-text}
use Rattle.lapin_consumer.proofs.line.Line.find.Goals as goal

pub returns : goal.returns
returns c = c.copied.ensures ∙ c.get.ensures.value ∙ sym (by-text c.args.tag.now c.self.inside.tags.entries) ∙ ap (λ (l : Line). lookup (bytes_eq c.args.tag.now) l.tags) c.self.view_is
