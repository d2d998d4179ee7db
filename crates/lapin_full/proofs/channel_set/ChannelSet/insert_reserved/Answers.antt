use Rattle.std.proofs.Common.{arith}
use Rattle.lapin_full.proofs.Numbers.{marked-here}
use Rattle.lapin_full.proofs.channel_set.ChannelSet.insert_reserved.Goals as goal

pub invariant_of-self : goal.invariant_of-self
invariant_of-self c = (marked-here c.self.inside.channels c.insert_reserved.new.self c.self.inside.places c.insert_reserved-2.new.self c.args.channel c.self.invariant.0 c.insert_reserved.ensures.here c.insert_reserved.ensures.elsewhere c.insert_reserved-2.ensures.here c.insert_reserved-2.ensures.others, omega (arith, c.self.invariant.1, c.insert_reserved.ensures.reach, c.insert_reserved-2.ensures.reach))
