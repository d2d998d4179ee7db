use denote.Param.Send.{sendable}
use Rattle.std.proofs.Common.{subst}
use Rattle.std.proofs.Crossing.{crosses}
use Rattle.lapin_threads.proofs.Sums.{tallied_map}
use Rattle.lapin_pool.specs.Ran.{EndedSo}
use Rattle.lapin_pool.specs.Seats.{of_seat}
use Rattle.lapin_pool.proofs.Crossed.{seat_send}
use Rattle.lapin_pool.proofs.pool.work_all.Goals as goal

pub returns-clause-each : goal.returns-clause-each
returns-clause-each g c =
    let may = g.D.Duty.may c.args.duty.now in
    tallied_map (λ x r y p. subst (λ a. EndedSo may c.args.turns (of_seat a) r (of_seat y)) p.argument_is
    (subst (λ b. EndedSo may c.args.turns (of_seat p.argument.now) r (of_seat b)) p.left p.call)) c.tally_mut.ensures

pub tally_mut-requires-send-T : goal.tally_mut-requires-send-T
tally_mut-requires-send-T g c = λ κs b. search (seat_send, crosses, sendable) depth 60 fits 20000
