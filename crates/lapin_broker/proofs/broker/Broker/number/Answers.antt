use Rattle.std.proofs.Common.{◌∙◌}
use Rattle.std.proofs.lemmas.Result.{on_ok_weaker, on_err_weaker}
use Rattle.lapin_broker.specs.Reads.{with_next_number}
use Rattle.lapin_broker.specs.contracts.broker.Broker.{the_view}
use Rattle.lapin_broker.proofs.Tables.{unchanged, changed, untouched, same-broker}
use Rattle.lapin_broker.proofs.broker.Broker.number.Goals as goal

pub returns-in_default-clause-ok : goal.returns-in_default-clause-ok
returns-in_default-clause-ok c = rw (← c.self.view_is) (same-broker (the_view c.self.inside) _ _ (untouched c.args.channel with_next_number c.self.inside.channels.entries (c.in_default.ensures.value)))

pub returns-clause-ok : goal.returns-clause-ok
returns-clause-ok c =
    on_ok_weaker c.number.result
    (λ same. rw (← c.self.view_is) (same-broker (the_view c.self.inside) _ _ (changed c.args.channel with_next_number c.in-Some.known.now c.number.new.self c.self.inside.channels.entries (c.in-Some.ensures.value) same)))
    c.number.ensures.ok

pub returns-clause-err : goal.returns-clause-err
returns-clause-err c =
    on_err_weaker c.number.result
    (λ same. same-broker (the_view c.self.inside) _ _ (unchanged c.args.channel c.in-Some.known.now c.number.new.self c.self.inside.channels.entries (c.in-Some.ensures.value) same) ∙ c.self.view_is)
    c.number.ensures.err
