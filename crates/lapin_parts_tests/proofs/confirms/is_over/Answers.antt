use Rattle.std.proofs.Common.{sym, ◌∙◌}
use Rattle.std.proofs.lemmas.Bool.{eqb-true}
use Rattle.lapin_parts_tests.proofs.Openings.{none_open}
use Rattle.lapin_parts_tests.proofs.confirms.is_over.Goals as goal

pub returns-then-pending-eq0 : goal.returns-then-pending-eq0
returns-then-pending-eq0 c = λ is.
    none_open c.args.channel c.args.confirms.now.what.publish_states.cells (sym c.pending.ensures ∙ c.if-pending-eq0.true) (sym c.queued.ensures ∙ eqb-true c.queued.result 0 is)
