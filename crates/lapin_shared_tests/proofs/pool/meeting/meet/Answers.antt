use Rattle.lapin_shared_tests.proofs.Apart.{still_apart}
use Rattle.lapin_shared_tests.proofs.pool.meeting.meet.Goals as goal

pub run_pool-requires-clause-own : goal.run_pool-requires-clause-own
run_pool-requires-clause-own g c = λ κs within. still_apart c.in_ok-client.callers.items c.make_first.new.callers.items c.in_ok-client.ensures.fresh c.make_first.ensures
