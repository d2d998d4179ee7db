use Rattle.std.proofs.Common.{arith}
use Rattle.lapin_generate.proofs.Growing.{answered_made, asked_goes, can_go_fewer, where_done}
use Rattle.lapin_generate.proofs.steps.make_answered.Goals as goal

pub request-requires : goal.request-requires
request-requires c = can_go_fewer 4 1 c.args.run.now c.args.summary.now c.requires (omega arith)

pub deliver-requires : goal.deliver-requires
deliver-requires c = (asked_goes c.args.answer c.args.run.now c.request.new.run c.read.new.run c.send.new.run c.args.summary.now c.request.new.summary c.in_ok-request.ensures c.in_ok-read.ensures c.in_ok-send.ensures c.requires).0

pub returns : goal.returns
returns c =
    where_done c.deliver.result
    (λ delivered. answered_made c.args.answer c.args.run.now c.request.new.run c.read.new.run c.send.new.run c.deliver.new.run c.args.summary.now c.request.new.summary c.in_ok-request.ensures c.in_ok-read.ensures c.in_ok-send.ensures delivered)
    c.deliver.ensures
