use Rattle.lapin_outbox.proofs.Returned.{returned-told}
use Rattle.lapin_outbox.proofs.laws.drops_tell_of_a_frame_given_back.Goals as goal

pub returns-clause-channel : goal.returns-clause-channel
returns-clause-channel c = returned-told c.args.channel
