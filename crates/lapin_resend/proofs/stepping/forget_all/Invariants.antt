use Rattle.std.proofs.Common.{◌≡◌, ◌++◌, map, take, drop, None}
use Rattle.lapin_resend.specs.declared.message.Submitted.{Submitted}
use Rattle.lapin_resend.proofs.stepping.forget_all.Given as goal

abbrev pub invariant-loop-submitted : goal.invariant-loop-submitted
invariant-loop-submitted l = l.submitted-items ≡ map (λ (s : Submitted). record s { outstanding = None }) (take l.submitted-index l.fn.messages.items) ++ drop l.submitted-index l.fn.messages.items
