use Rattle.lapin_locked.proofs.Marks.{known_read}
use Rattle.lapin_locked.proofs.stored.Logged.new.Goals as goal

pub returns : goal.returns
returns c = known_read c.args.place c.args.stored
