use Rattle.std.proofs.Common.{ℕ, List}
use Rattle.lapin_frames.proofs.UsedLaws.{used_around}
use Rattle.lapin_frames.proofs.frames.read_frame.Goals as goal

pub returns-clause-used : goal.returns-clause-used
returns-clause-used c =
    let a : ℕ × ℕ × List ℕ = (c.in_ok-around.around.kind, c.in_ok-around.around.channel, c.in_ok-around.around.payload.now) in
    used_around c.read_around.result c.args.bytes.now a c.take_around.new.octets (rw c.new-octets.ensures at c.in_ok-around.ensures) c.read_around.ensures
