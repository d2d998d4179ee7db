use Rattle.std.proofs.Common.{◌<◌, Some, cond, ap, sym, subst, ◌∙◌, ◌∷◌, [], ◌++◌}
use Rattle.std.specs.Prelude.{bytes_eq, string_bytes}
use Rattle.std.specs.Map.{lookup}
use Rattle.std.specs.HashMap.{spare}
use Rattle.lapin_consumer.specs.Indexed.{Line}
use Rattle.lapin_consumer.proofs.Texts.{after-put}
use Rattle.lapin_consumer.proofs.Lines.{ok_then}
use Rattle.lapin_consumer.proofs.line.Line.join.Goals as goal

pub returns : goal.returns
returns c =
    let t = string_bytes c.args.tag in
    let room : 0 < spare c.self.inside.tags = subst (λ n. 0 < n) (sym (ap (λ (l : Line). l.tag_spare) c.self.view_is)) c.requires.1 in
    let updates = ok_then c.insert.result (c.insert.ensures.succeeds room) c.insert.ensures.updates in
    record {
      places = c.push_reserved.ensures.items ∙ ap (λ (l : Line). l.places ++ c.args.place ∷ []) c.self.view_is;
      tags = λ u. after-put t c.self.inside.tags c.insert.new.self (Some c.args.place) updates u
          ∙ ap (λ (l : Line). cond (bytes_eq t u) (Some c.args.place) (lookup (bytes_eq u) l.tags)) c.self.view_is;
    }
