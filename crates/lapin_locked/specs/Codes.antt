-- How the values of this crate are stored as tuples of their fields, by which a proof tells two of them apart. No clause cites
-- this.
use Rattle.std.specs.Prelude.{ℕ, List, refl}
use Rattle.std.specs.Coded.{Coded, code_by, coded×, coded_ℕ, coded_list}
use Rattle.lapin_machine.specs.World.{World}
use Rattle.lapin_machine.specs.Codes.{world_code}
use Rattle.lapin_locked.specs.declared.entry.Entry.{Entry}
use Rattle.lapin_locked.specs.contracts.entry.Entry as entry_row
use Rattle.lapin_locked.specs.UnderLock.{UnderLock}

-- the entries of a history, stored as the list of their tuples
abbrev pub entries_code : Coded (List Entry)
entries_code = coded_list entry_row.the_row.coded

-- what lies under the lock, stored as its greatest frame size, its entries and its session
abbrev pub kept_code : Coded UnderLock
kept_code =
    code_by
    (ℕ × (List Entry × World))
    (coded× coded_ℕ (coded× entries_code world_code))
    (λ k. (k.frame_max, (k.entries, k.world)))
    (λ p. record { frame_max = p.0; entries = p.1.0; world = p.1.1 })
    (λ _. refl)
