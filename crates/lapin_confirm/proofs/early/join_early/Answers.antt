use Rattle.std.proofs.Common.{arith, refl}
use Rattle.lapin_tables.specs.ByChannel.{at_channel}
use Rattle.lapin_confirm.specs.WithRoom.{spare_in}
use Rattle.lapin_confirm.proofs.Roomy.{given-count}
use Rattle.lapin_confirm.proofs.early.join_early.Goals as goal

pub push_back_reserved-requires : goal.push_back_reserved-requires
push_back_reserved-requires c =
    let count = given-count c.args.channel c.args.rooms.now.entries (spare_in (at_channel c.args.channel c.args.rooms.now.entries)) refl in
    omega (arith, count, c.in_default.ensures.room, c.in_default.ensures.kept)

pub returns-clause-room : goal.returns-clause-room
returns-clause-room c =
    let count = given-count c.args.channel c.args.rooms.now.entries (spare_in (at_channel c.args.channel c.args.rooms.now.entries)) refl in
    rw c.give_up.ensures (omega (arith, count, c.in_default.ensures.room, c.in_default.ensures.kept, c.push_back_reserved.ensures.len, c.push_back_reserved.ensures.capacity))
