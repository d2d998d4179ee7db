use Rattle.std.proofs.Common.{arith}
use Rattle.lapin_outbox.specs.Passing.{not_full}
use Rattle.lapin_outbox.proofs.PassedOver.{search-begun, search-on, search-found, bound-within}
use Rattle.lapin_outbox.proofs.passing.first_held.Goals as goal

pub loop-key-init : goal.loop-key-init
loop-key-init g c = record {
  held = c.requires;
  done = search-begun _ _ _ _;
  within = omega arith;
}

pub sooner-best-requires-clause-within : goal.sooner-best-requires-clause-within
sooner-best-requires-clause-within g c = omega (arith, bound-within (not_full (g.F.FullChannels.full c.args.full.now)) _ _ _ c.loop-key.invariant.done.is_open)

pub loop-key-preserved : goal.loop-key-preserved
loop-key-preserved g c = record {
  held = c.sooner-best.ensures.held;
  done = rw c.from-from.ensures (search-on (g.F.FullChannels.full c.args.full.now) c.args.passed c.loop-key.from c.in-Some.key c.loop-key.held c.sooner-best.new.held c.args.order.now.keys c.loop-key.best c.sooner-best.result c.loop-key.invariant.done c.in-Some.ensures c.sooner-best.ensures.free c.sooner-best.ensures.sooner c.sooner-best.ensures.open c.sooner-best.ensures.fewer);
  within = omega arith;
}

pub returns-clause-number : goal.returns-clause-number
returns-clause-number g c = search-found (g.F.FullChannels.full c.args.full.now) c.args.passed c.loop-key.from c.loop-key.held c.args.order.now.keys c.loop-key.best c.loop-key.invariant.held c.loop-key.invariant.done c.in_default.ensures
