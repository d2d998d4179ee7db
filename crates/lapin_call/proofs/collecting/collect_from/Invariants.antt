use Rattle.std.proofs.Common.{◌≡◌, suc}
use Rattle.lapin_machine.specs.Way.{by_machine}
use Rattle.lapin_call.specs.Calls.{polls, waiting_for}
use Rattle.lapin_call.specs.Fates.{no_tally}
use Rattle.lapin_call.proofs.collecting.collect_from.Given as goal

-- what all polls come to is what those that are left come to from here
abbrev pub invariant-loop-item : goal.invariant-loop-item
invariant-loop-item l =
    polls by_machine l.fn.consumer (suc (waiting_for l.fn.consumer l.fn.session.wire)) (record { session = l.fn.session; fates = l.fn.fates.items; tally = no_tally })
    ≡ polls by_machine l.fn.consumer (suc (waiting_for l.fn.consumer l.session.wire)) (record { session = l.session; fates = l.fates.items; tally = l.tally })

abbrev pub decreases-loop-item : goal.decreases-loop-item
decreases-loop-item l = waiting_for l.consumer l.session.wire
