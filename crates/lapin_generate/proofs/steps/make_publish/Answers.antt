use Rattle.std.proofs.Common.{arith}
use Rattle.lapin_generate.proofs.Growing.{publish_done, requests_go, ack_goes, can_go_fewer, where_done}
use Rattle.lapin_generate.proofs.steps.make_publish.Goals as goal

pub publish-requires-clause-goes : goal.publish-requires-clause-goes
publish-requires-clause-goes c = can_go_fewer 20 1 c.args.run.now c.args.summary.now c.requires.goes (omega arith)

pub make_requests-requires : goal.make_requests-requires
make_requests-requires c =
    requests_go c.args.number c.frame_count-frames.result c.args.run.now c.publish.new.run c.args.summary.now c.publish.new.summary c.frame_count-frames.ensures c.in_ok-publish.ensures c.requires.goes

pub make_ack-requires : goal.make_ack-requires
make_ack-requires c =
    ack_goes c.args.number c.frame_count-frames.result c.args.run.now c.publish.new.run c.make_requests.new.run c.make_reads.new.run c.args.summary.now c.publish.new.summary c.make_requests.new.summary c.frame_count-frames.ensures
    c.in_ok-publish.ensures c.in_ok-make_requests.ensures c.in_ok-make_reads.ensures c.requires.goes

pub returns : goal.returns
returns c =
    where_done c.make_ack.result
    (λ acks. publish_done c.args.number c.frame_count-frames.result c.args.run.now c.publish.new.run c.make_requests.new.run c.make_reads.new.run c.make_ack.new.run c.args.summary.now c.publish.new.summary c.make_requests.new.summary c.make_ack.new.summary c.frame_count-frames.ensures
    c.in_ok-publish.ensures c.in_ok-make_requests.ensures c.in_ok-make_reads.ensures acks)
    c.make_ack.ensures
