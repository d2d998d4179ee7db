-- How calls are stored as a tuple of their fields, by which a proof tells two of them apart. No clause cites this.
use Rattle.std.specs.Prelude.{ℕ, Bool, List, Option, refl}
use Rattle.std.specs.Coded.{Coded, code_by, coded×, coded_ℕ, coded_bool, coded_list, coded_option}
use Rattle.lapin_values.specs.DataCode.{bytes_code}
use Rattle.lapin_machine.specs.World.{World}
use Rattle.lapin_machine.specs.Codes.{world_code}
use Rattle.lapin_call.specs.declared.fates.Fate.{Fate}
use Rattle.lapin_call.specs.contracts.fates.Fate as fate_row
use Rattle.lapin_call.specs.Calls.{Requester}
use Rattle.lapin_call.specs.CallRun.{CallRun}

-- a requester of the machine, stored as its session, its queue, whether that was consumed from, its consumer and its calls
abbrev pub requester_code : Coded (Requester World)
requester_code =
    code_by
    (World × (List ℕ × (Bool × (Option ℕ × List Fate))))
    (coded× world_code (coded× bytes_code (coded× coded_bool (coded× (coded_option coded_ℕ) (coded_list fate_row.the_row.coded)))))
    (λ d. (d.session, (d.queue, (d.consumes, (d.consumer, d.fates)))))
    (λ p. record { session = p.0; queue = p.1.0; consumes = p.1.1.0; consumer = p.1.1.1.0; fates = p.1.1.1.1 })
    (λ _. refl)

-- calls as contracts see them, stored as their requester, their count of steps and whether they stopped
abbrev pub kept_code : Coded CallRun
kept_code =
    code_by
    (Requester World × (ℕ × Bool))
    (coded× requester_code (coded× coded_ℕ coded_bool))
    (λ k. (k.requester, (k.steps, k.stopped)))
    (λ p. record { requester = p.0; steps = p.1.0; stopped = p.1.1 })
    (λ _. refl)
