use Rattle.std.proofs.Common.{◌≡◌, false, sym, arith}
use Rattle.lapin_tables.specs.ByChannel.{at_channel}
use Rattle.lapin_tables.proofs.Channels.{at-on_other}
use Rattle.lapin_confirm.specs.WithRoom.{spare_in}
use Rattle.lapin_confirm.specs.Ties.{promised}
use Rattle.lapin_confirm.proofs.Roomy.{given-none, given-count, given-fits}
use Rattle.lapin_confirm.proofs.rooms.use_room.Goals as goal

pub returns-then-is_promised-clause-others : goal.returns-then-is_promised-clause-others
returns-then-is_promised-clause-others c = λ d other. rw c.give_up.ensures (at-on_other c.args.channel d (λ _. false) c.args.rooms.now.entries (λ same. other (sym same)))

pub returns-then-is_promised-clause-used : goal.returns-then-is_promised-clause-used
returns-then-is_promised-clause-used c = rw c.give_up.ensures (given-none c.args.channel c.args.rooms.now.entries)

pub returns-then-is_promised-clause-spare : goal.returns-then-is_promised-clause-spare
returns-then-is_promised-clause-spare c =
    let one : spare_in (at_channel c.args.channel c.args.rooms.now.entries) ≡ 1 = c.if-is_promised.ensures in
    rw c.give_up.ensures (omega (arith, given-count c.args.channel c.args.rooms.now.entries 1 one, c.requires.cells))

pub returns-then-is_promised-clause-origin : goal.returns-then-is_promised-clause-origin
returns-then-is_promised-clause-origin c =
    let one : spare_in (at_channel c.args.channel c.args.rooms.now.entries) ≡ 1 = c.if-is_promised.ensures in
    rw c.give_up.ensures (omega (arith, given-count c.args.channel c.args.rooms.now.entries 1 one, c.requires.origins))

pub returns-then-is_promised-clause-fits : goal.returns-then-is_promised-clause-fits
returns-then-is_promised-clause-fits c = rw c.give_up.ensures (given-fits c.args.channel c.args.rooms.now.entries c.args.cells.now.spare c.requires.cells, given-fits c.args.channel c.args.rooms.now.entries c.args.origins.now.spare c.requires.origins)

pub returns-then-is_promised-clause-less : goal.returns-then-is_promised-clause-less
returns-then-is_promised-clause-less c = rw c.give_up.ensures (given-fits c.args.channel c.args.rooms.now.entries (promised c.args.rooms.now.entries) (omega arith))
