use Rattle.std.proofs.Common.{inl, inr}
use Rattle.lapin_publisher.proofs.publisher.Publisher.leave.Goals as goal

pub returns-in-Ok-clause-left : goal.returns-in-Ok-clause-left
returns-in-Ok-clause-left c = record {
  asked = c.poll_all.new.keeping;
  is_asked = inl c.in-Ok.ensures.ok;
  kept = c.begin_anew.ensures.kept;
  others = c.begin_anew.ensures.others;
}

pub returns-in-Err-clause-left : goal.returns-in-Err-clause-left
returns-in-Err-clause-left c = record {
  asked = c.poll_all.new.keeping;
  is_asked = inr c.in-Err.ensures.err;
  kept = c.begin_anew-in-Err.ensures.kept;
  others = c.begin_anew-in-Err.ensures.others;
}
