-- How a publisher that sends again is stored as a tuple of its fields, by which a proof tells two of them apart. No clause cites this.
use Rattle.std.specs.Prelude.{ℕ, Bool, List, refl}
use Rattle.std.specs.Coded.{Coded, code_by, coded×, coded_ℕ, coded_bool, coded_list}
use Rattle.lapin_resend.specs.declared.publisher.Publisher as code
use Rattle.lapin_resend.specs.contracts.publisher.Publisher as row
use Rattle.lapin_resend.specs.Sending.{Sending}

-- stored as its frame size, its parts, what is known to be stored, its count of steps and whether it stopped
abbrev pub sending_code : Coded Sending
sending_code =
    code_by
    (ℕ × (code.Publisher × (List Bool × (ℕ × Bool))))
    (coded× coded_ℕ (coded× row.the_row.coded (coded× (coded_list coded_bool) (coded× coded_ℕ coded_bool))))
    (λ s. (s.frame_max, (s.publisher, (s.known, (s.steps, s.stopped)))))
    (λ p. record { frame_max = p.0; publisher = p.1.0; known = p.1.1.0; steps = p.1.1.1.0; stopped = p.1.1.1.1 })
    (λ _. refl)
