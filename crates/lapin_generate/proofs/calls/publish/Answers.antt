use Rattle.lapin_generate.specs.Generated.{publish_call}
use Rattle.lapin_generate.proofs.Growing.{publish_made, publish_refused}
use Rattle.lapin_generate.proofs.calls.publish.Goals as goal

pub returns-then-accepted : goal.returns-then-accepted
returns-then-accepted c =
    publish_made (publish_call c.args.number) c.in_ok-accepted.accepted _ c.args.run.now c.published.new.session c.args.summary.now c.with_publish.result c.if-accepted.true c.run.view_is c.in_ok-accepted.ensures.ok c.in_ok-accepted.ensures.told
    c.with_publish.ensures.sum c.with_publish.ensures.room

pub returns : goal.returns
returns c =
    publish_refused (publish_call c.args.number) c.in_ok-accepted.accepted _ c.args.run.now c.published.new.session c.args.summary.now c.if-accepted.false c.run.view_is c.in_ok-accepted.ensures.ok c.in_ok-accepted.ensures.told
