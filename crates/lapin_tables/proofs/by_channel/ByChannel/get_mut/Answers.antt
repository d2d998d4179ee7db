use Rattle.std.proofs.Common.{sym, refl}
use Rattle.lapin_tables.proofs.Channels.{absent}
use Rattle.lapin_tables.proofs.by_channel.ByChannel.get_mut.Goals as goal

pub returns-in-None : goal.returns-in-None
returns-in-None g c = (refl, record { writes_back = tt; value = sym (absent c.args.channel c.args.self.now.entries (sym c.in-None.ensures)) })
