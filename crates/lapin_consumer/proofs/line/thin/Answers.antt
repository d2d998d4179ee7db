use Rattle.lapin_consumer.proofs.Indices.{thinned_index}
use Rattle.lapin_consumer.proofs.line.thin.Goals as goal

pub returns : goal.returns
returns c = thinned_index c.args.channel c.in-Some.line.now c.thin.new.self c.args.lines.now.entries c.args.hall.now.subscriptions.consumers c.in-Some.ensures.value c.requires c.thin.ensures.places c.thin.ensures.tags
