use Rattle.std.proofs.Common.{arith}
use Rattle.lapin_client.proofs.Room.{room_first}
use Rattle.lapin_client.proofs.client.Client.new.Goals as goal

pub returns-clause-sound : goal.returns-clause-sound
returns-clause-sound c = (λ some. room_first 9223372036854775807 c.args.frame_max c.in_ok-session.session c.in_ok-session.ensures.value (omega arith), c.requires)
