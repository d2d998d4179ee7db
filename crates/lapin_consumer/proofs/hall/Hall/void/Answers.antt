use Rattle.lapin_consumer.proofs.Rooms.{hall_keeps}
use Rattle.lapin_consumer.proofs.hall.Hall.void.Goals as goal

pub returns-clause-kept : goal.returns-clause-kept
returns-clause-kept c = hall_keeps c.self.inside.seats.items c.void_all.new.seats.items _ c.args.self.now.subscriptions _ 0 c.args.self.now c.self.view_is c.void_all.ensures.promised
