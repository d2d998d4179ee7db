use Rattle.std.proofs.Common.{◌≡◌, take, drop}
use Rattle.lapin_publisher.specs.Each.{each}
use Rattle.lapin_publisher.specs.Publishes.{placed}
use Rattle.lapin_publisher.proofs.publishing.place_each.Given as goal

abbrev pub invariant-loop-kept : goal.invariant-loop-kept
invariant-loop-kept l = record {
  done : (take l.kept-index l.kept-items, (l.session, l.room)) ≡ each (placed l.turn) (l.fn.session, l.fn.room) (take l.kept-index l.fn.messages.items);
  rest : drop l.kept-index l.kept-items ≡ drop l.kept-index l.fn.messages.items;
}
