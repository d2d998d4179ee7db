use Rattle.std.proofs.Common.{List, map, subst, sym}
use Rattle.lapin_consumer.specs.Indexed.{Seated, reserved_of}
use Rattle.lapin_consumer.specs.WithRoom.{HasRoom}
use Rattle.lapin_consumer.proofs.Rooms.{hall_joined}
use Rattle.lapin_consumer.proofs.hall.Hall.add.Goals as goal

pub returns-clause-kept : goal.returns-clause-kept
returns-clause-kept c n le has =
    subst (λ (ss : List Seated). HasRoom n (record { subscriptions = c.args.self.now.subscriptions; rooms = map reserved_of ss; spare = 0 })) (sym c.in_ok-push.ensures.items)
    (hall_joined c.new.result c.self.inside.seats.items c.self.inside.jobs.items c.args.self.now.subscriptions _ 0 c.args.self.now c.self.view_is n le has)
