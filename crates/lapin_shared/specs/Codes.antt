-- How the values of this crate are stored as tuples of their fields, by which a proof tells two of them apart. No clause cites
-- this.
use Rattle.std.specs.Prelude.{ℕ, List, refl}
use Rattle.std.specs.Coded.{Coded, code_by, coded×, coded_ℕ, coded_list}
use Rattle.lapin_locked.specs.declared.entry.Told.{Told}
use Rattle.lapin_locked.specs.contracts.entry.Told as told_row
use Rattle.lapin_shared.specs.Grown.{Seen}

-- what is seen of a caller, stored as its number and its log
abbrev pub seen_code : Coded Seen
seen_code =
    code_by
    (ℕ × List Told)
    (coded× coded_ℕ (coded_list told_row.the_row.coded))
    (λ s. (s.number, s.log))
    (λ p. record { number = p.0; log = p.1 })
    (λ _. refl)
