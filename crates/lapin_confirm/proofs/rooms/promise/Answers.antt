use Rattle.std.proofs.Common.{true, sym}
use Rattle.lapin_tables.proofs.Channels.{on-absent}
use Rattle.lapin_confirm.proofs.rooms.promise.Goals as goal

pub returns-in_default : goal.returns-in_default
returns-in_default c = sym (on-absent c.args.channel (λ _. true) c.args.rooms.now.entries (sym c.in_default.ensures.value))
