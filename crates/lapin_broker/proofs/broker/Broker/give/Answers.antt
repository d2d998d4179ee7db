use Rattle.std.proofs.Common.{◌∙◌}
use Rattle.std.proofs.lemmas.Result.{on_ok_weaker, on_err_weaker}
use Rattle.lapin_broker.specs.Sends.{after_send}
use Rattle.lapin_broker.specs.contracts.broker.Broker.{the_view}
use Rattle.lapin_broker.proofs.Tables.{unchanged, changed, untouched, same-broker}
use Rattle.lapin_broker.proofs.broker.Broker.give.Goals as goal

pub returns-in_default-clause-ok : goal.returns-in_default-clause-ok
returns-in_default-clause-ok c = rw (← c.self.view_is) (same-broker (the_view c.self.inside) _ _ (untouched c.args.channel (after_send c.args.tag.now c.args.sorted) c.self.inside.channels.entries (c.in_default.ensures.value)))

pub returns-clause-ok : goal.returns-clause-ok
returns-clause-ok c =
    on_ok_weaker c.send.result
    (λ same. rw (← c.self.view_is) (same-broker (the_view c.self.inside) _ _ (changed c.args.channel (after_send c.args.tag.now c.args.sorted) c.in-Some.known.now c.send.new.self c.self.inside.channels.entries (c.in-Some.ensures.value) same)))
    c.send.ensures.ok

pub returns-clause-err : goal.returns-clause-err
returns-clause-err c =
    on_err_weaker c.send.result
    (λ same. same-broker (the_view c.self.inside) _ _ (unchanged c.args.channel c.in-Some.known.now c.send.new.self c.self.inside.channels.entries (c.in-Some.ensures.value) same) ∙ c.self.view_is)
    c.send.ensures.err
