use Rattle.lapin_pool.proofs.Reading.{taken_later}
use Rattle.lapin_pool.proofs.turn.read_again.Goals as goal

pub returns-then-fetched : goal.returns-then-fetched
returns-then-fetched g c = λ a grew.
    let read = c.fetched.ensures.read c.if-fetched.true in
    taken_later a c.args.caller.now c.fetched.new.caller c.args.place read.0 c.newest.result.now c.step_of.result grew c.log.ensures.rise read.1 c.newest.ensures c.step_of.ensures
