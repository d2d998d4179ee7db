use Rattle.std.proofs.Common.{◌≡◌, ◌+◌, ◌≤◌, map, false}
use Rattle.lapin_resend.specs.Publisher.{poll_one}
use Rattle.lapin_resend.specs.Follows.{place}
use Rattle.lapin_resend.proofs.Going.{Going}
use Rattle.lapin_resend.proofs.publisher.poll_all.Given as goal

abbrev pub invariant-loop-submitted : goal.invariant-loop-submitted
invariant-loop-submitted l = record {
  going : Going poll_one l.fn.messages.items l.fn.joined l.joined l.submitted-items l.submitted-index;
  steps : l.joined.steps ≤ l.fn.joined.steps + l.submitted-index;
  places : map place l.submitted-items ≡ map place l.fn.messages.items;
  running : l.fn.joined.stopped ≡ false → l.joined.stopped ≡ false;
}
