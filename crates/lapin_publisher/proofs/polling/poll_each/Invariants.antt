use Rattle.std.proofs.Common.{◌≡◌, take, drop}
use Rattle.lapin_publisher.specs.Each.{each}
use Rattle.lapin_publisher.specs.Polls.{poll_one}
use Rattle.lapin_publisher.proofs.polling.poll_each.Given as goal

abbrev pub invariant-loop-kept : goal.invariant-loop-kept
invariant-loop-kept l = record {
  done : (take l.kept-index l.kept-items, (l.session, l.back.items)) ≡ each poll_one (l.fn.session, l.fn.back.items) (take l.kept-index l.fn.messages.items);
  rest : drop l.kept-index l.kept-items ≡ drop l.kept-index l.fn.messages.items;
}
