-- A session that stands for a history goes on as the history does, where no frame was given back to it; and the numbers that it has left.
use Rattle.std.proofs.Common.{◌≡◌, ℕ, suc, ◌+◌, ◌≤◌, ◌<◌, ◌^◌, [], ◌∷◌, ◌++◌, length, None, refl, sym, arith}
use Rattle.lapin_types.specs.declared.event.Event.{Event}
use Rattle.lapin_rules.specs.History.{History, rec}
use Rattle.lapin_machine.specs.World.{World, told_by}
use Rattle.lapin_machine.specs.World as world
use Rattle.lapin_machine.specs.Stands.{Stands}
use Rattle.lapin_machine.specs.Numbers.{HasNumbersFor}
use Rattle.lapin_machine.proofs.Back.{given_none, still_none}
use Rattle.lapin_machine.proofs.Standing.{stands-next}
use Rattle.lapin_machine.proofs.Counting.{numbers-next}

-- the history grows by an event with its record
abbrev pub with_event : ℕ → History → Event → History
with_event n h e = h ++ (e, rec n h e) ∷ []

pub told_same : (n : ℕ) (h : History) (w : World) (e : Event) → w.returned ≡ None → Stands n h w → told_by w e ≡ rec n h e
told_same n h w e none s = (stands-next n h w (world.next w e) e (told_by w e) (given_none w.returned e none) s refl refl).0

pub stands_on : (n : ℕ) (h : History) (w : World) (e : Event) → w.returned ≡ None → Stands n h w → Stands n (with_event n h e) (world.next w e)
stands_on n h w e none s =
    (stands-next n h w (world.next w e) e (rec n h e) (given_none w.returned e none) s (sym (told_same n h w e none s)) refl).1

-- ---- numbers

-- a session that has more numbers has fewer
pub fewer : (n m : ℕ) (w : World) → HasNumbersFor n w → m ≤ n → HasNumbersFor m w
fewer n m w h le =
    let t : w.wire.tickets + n < 2 ^ 64 = h.tickets in
    let p : w.wire.published + n < 2 ^ 64 = h.confirms in
    let c : length w.wire.deliveries.subscriptions.consumers + n < 2 ^ 64 = h.consumers in
    let a : length w.wire.deliveries.switches + n < 2 ^ 64 = h.ackers in
    record { tickets = omega arith; confirms = omega arith; consumers = omega arith; ackers = omega arith }

-- what lasts over events: the numbers that are left, and that no frame was given back
abbrev pub Goes : ℕ → World → Type 0
Goes n w = HasNumbersFor n w × (w.returned ≡ None)

pub goes_fewer : (n m : ℕ) (w : World) → Goes n w → m ≤ n → Goes m w
goes_fewer n m w h le = (fewer n m w h.0 le, h.1)

-- an event uses at most one number of each counter
pub goes_next : (n : ℕ) (w : World) (e : Event) → Goes (suc n) w → Goes n (world.next w e)
goes_next n w e h = (numbers-next n w e h.0, still_none w e h.1)
