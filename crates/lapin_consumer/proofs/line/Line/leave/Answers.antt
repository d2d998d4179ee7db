use Rattle.std.proofs.Common.{None, cond, ap, ◌∙◌}
use Rattle.std.specs.Prelude.{bytes_eq}
use Rattle.std.specs.Map.{lookup}
use Rattle.lapin_consumer.specs.Indexed.{Line}
use Rattle.lapin_consumer.proofs.Texts.{after-put}
use Rattle.lapin_consumer.proofs.line.Line.leave.Goals as goal

pub returns : goal.returns
returns c = record {
  places = ap (λ (l : Line). l.places) c.self.view_is;
  tags = λ u. after-put c.args.tag.now c.self.inside.tags c.remove.new.self None c.remove.ensures.updates u
      ∙ ap (λ (l : Line). cond (bytes_eq c.args.tag.now u) None (lookup (bytes_eq u) l.tags)) c.self.view_is;
}
