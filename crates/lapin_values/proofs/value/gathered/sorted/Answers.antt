use Rattle.std.proofs.Common.{ℕ, List, ◌++◌, ap, sym, ◌∙◌}
use Rattle.lapin_values.specs.declared.value.AMQPValue.{AMQPValue}
use Rattle.lapin_values.proofs.GatheredLemmas.{last_moved}
use Rattle.lapin_values.proofs.value.gathered.sorted.Goals as goal

pub loop-key-preserved : goal.loop-key-preserved
loop-key-preserved c =
    ap (λ (es : List (List ℕ × AMQPValue)). c.pop.new.self.items ++ es) c.in_ok-put_sorted.ensures.ok
    ∙ last_moved c.pop.new.self.items (c.in-Some.key, c.in-Some.value) c.loop-key.tree.entries c.args.rows.items
    (ap (λ (es : List (List ℕ × AMQPValue)). es ++ c.loop-key.tree.entries) (sym c.in-Some.ensures.items) ∙ c.loop-key.invariant) c.requires
