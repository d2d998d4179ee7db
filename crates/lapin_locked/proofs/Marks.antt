-- The mark of a log's entry is twice its place, and one more where the record was read.
use Rattle.std.proofs.Common.{◌≡◌, ℕ, ◌+◌, ◌*◌, ◌/◌, ◌%◌, Bool, true, false, refl, arith, Some, None}
use Rattle.std.specs.Prelude.{◌==◌}
use Rattle.lapin_types.specs.declared.record.Record.{Record}
use Rattle.lapin_locked.specs.declared.entry.Entry.{Entry}
use Rattle.lapin_locked.specs.Known.{told, known}

-- an odd mark is that of a record that was read
pub known_read : (p : ℕ) (x : Entry) → known ((2 * p + 1) / 2) ((2 * p + 1) % 2 == 1) x ≡ told p x.event (Some x.answer)
known_read p x =
    let half : (2 * p + 1) / 2 ≡ p = omega arith in
    let odd : (2 * p + 1) % 2 ≡ 1 = omega arith in
    rw (half, odd) refl

-- and an even one of a record that was not
pub known_unread : (p : ℕ) (x : Entry) → known (2 * p / 2) (2 * p % 2 == 1) x ≡ told p x.event None
known_unread p x =
    let half : 2 * p / 2 ≡ p = omega arith in
    let even : 2 * p % 2 ≡ 0 = omega arith in
    rw (half, even) refl

-- an entry with a record is one whose record was read
pub read_is : (p : ℕ) (read : Bool) (x : Entry) (r : Record) → (known p read x).answer ≡ Some r → known p read x ≡ told p x.event (Some x.answer)
read_is p true x r is = refl
read_is p false x r is = absurd cc
