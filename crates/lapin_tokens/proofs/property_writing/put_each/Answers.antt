use Rattle.std.proofs.Common.{◌++◌, ◌∙◌, ℕ, List, ap}
use Rattle.std.proofs.lemmas.Result.{on_ok_weaker}
use Rattle.lapin_tokens.proofs.WritingLaws.{parts_whole}
use Rattle.lapin_tokens.proofs.property_writing.put_each.Goals as goal

pub returns : goal.returns
returns c = on_ok_weaker c.put_end.result (λ e. e ∙ c.in_ok-first.ensures ∙ ap (λ (r : List ℕ). c.args.out.now.items ++ r) (parts_whole c.args.properties.now)) c.put_end.ensures
