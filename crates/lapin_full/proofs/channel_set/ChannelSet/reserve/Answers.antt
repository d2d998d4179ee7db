use Rattle.std.proofs.Common.{arith}
use Rattle.lapin_full.proofs.Numbers.{still-marked}
use Rattle.lapin_full.proofs.channel_set.ChannelSet.reserve.Goals as goal

pub invariant_of-self-2 : goal.invariant_of-self-2
invariant_of-self-2 c = (still-marked c.self.inside.channels c.reserve-2.new.self c.self.inside.places c.reserve.new.self c.self.invariant.0 c.reserve-2.ensures.same c.reserve.ensures.same, omega (arith, c.self.invariant.1, c.reserve-2.ensures.least, c.in_ok-reserve.ensures.room, c.reserve.ensures.kept))
