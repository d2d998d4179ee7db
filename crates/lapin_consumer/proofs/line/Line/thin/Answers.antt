use Rattle.lapin_consumer.proofs.Rising.{exact_lists}
use Rattle.lapin_consumer.proofs.line.Line.thin.Goals as goal

pub returns-then-len-clause-places : goal.returns-then-len-clause-places
returns-then-len-clause-places c = exact_lists c.args.channel c.args.hall.now.subscriptions.consumers c.sweep.new.self.places c.sweep.ensures.places
