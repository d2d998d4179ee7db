use Rattle.std.proofs.Common.{arith}
use Rattle.lapin_generate.proofs.Growing.{opening_made, can_go_fewer, where_done}
use Rattle.lapin_generate.proofs.steps.make_opening.Goals as goal

pub call-requires-clause-takes : goal.call-requires-clause-takes
call-requires-clause-takes c = (can_go_fewer 10 1 c.args.run.now c.args.summary.now c.requires (omega arith)).0

pub make_answered-requires : goal.make_answered-requires
make_answered-requires c =
    let s = c.args.summary.now in
    can_go_fewer 9 4 c.call.new.run s ((c.in_ok-call.ensures s).goes 9 c.requires) (omega arith)

pub call-requires-2-clause-takes : goal.call-requires-2-clause-takes
call-requires-2-clause-takes c =
    let s = c.args.summary.now in
    (can_go_fewer 5 1 c.make_answered.new.run c.make_answered.new.summary (c.in_ok-make_answered.ensures.goes 5 ((c.in_ok-call.ensures s).goes 9 c.requires)) (omega arith)).0

pub make_answered-requires-2 : goal.make_answered-requires-2
make_answered-requires-2 c =
    let s = c.args.summary.now in
    (c.in_ok-call-2.ensures c.make_answered.new.summary).goes 4 (c.in_ok-make_answered.ensures.goes 5 ((c.in_ok-call.ensures s).goes 9 c.requires))

pub returns : goal.returns
returns c =
    where_done c.make_answered-2.result
    (λ selected. opening_made c.args.run.now c.call.new.run c.make_answered.new.run c.call-2.new.run c.make_answered-2.new.run c.args.summary.now c.make_answered.new.summary c.make_answered-2.new.summary c.in_ok-call.ensures c.in_ok-make_answered.ensures c.in_ok-call-2.ensures selected)
    c.make_answered-2.ensures
