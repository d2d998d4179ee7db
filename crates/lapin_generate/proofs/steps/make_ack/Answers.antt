use Rattle.std.proofs.Common.{arith}
use Rattle.lapin_generate.proofs.Growing.{acked_made, can_go_fewer}
use Rattle.lapin_generate.proofs.steps.make_ack.Goals as goal

pub deliver-requires : goal.deliver-requires
deliver-requires c =
    let s = c.args.summary.now in
    (can_go_fewer 2 1 c.send.new.run s ((c.in_ok-send.ensures s).goes 2 c.requires) (omega arith)).0

pub poll-requires : goal.poll-requires
poll-requires c =
    let s = c.args.summary.now in
    (c.in_ok-deliver.ensures s).goes 1 ((c.in_ok-send.ensures s).goes 2 c.requires)

pub returns : goal.returns
returns c = acked_made c.args.number c.args.run.now c.send.new.run c.deliver.new.run c.poll.new.run c.args.summary.now c.poll.new.summary c.in_ok-send.ensures c.in_ok-deliver.ensures c.poll.ensures
