-- What a message's acker answers: one of a mock or of a returned message, whose number is 0, by its own `used` alone, another by the
-- session's acker of its number.
use Rattle.std.specs.Prelude.{◌≡◌, ℕ, zero, suc, Bool, true, not, if◌then◌else◌, List, Result, Ok, Err}
use Rattle.lapin_types.specs.declared.acker.Acker.{Acker}
use Rattle.lapin_types.specs.declared.acker_call.AckerCall.{AckerCall}
use Rattle.lapin_types.specs.declared.event.Event.TheVariants as event
use Rattle.lapin_types.specs.declared.record.Record.{Record}
use Rattle.lapin_types.specs.declared.record.Record.TheVariants as record_
use Rattle.lapin_types.specs.Types.{Error}
use Rattle.lapin_rules.specs.Ackers.{usable_at}
use Rattle.lapin_acker.specs.declared.switch.Switch.{Switch}
use Rattle.lapin_acker.specs.Switches.{switch_at, is_usable as is_usable_as, is_over}
use Rattle.lapin_machine.specs.World.{World, told_by, next}
use Rattle.lapin_machine.specs.Told.{IsRefusal, WasMade}
use Rattle.lapin_machine.specs.Numbers.{AckCause}
use Rattle.lapin_session.specs.declared.acker.Acked.{Acked}
use Rattle.lapin_session.specs.declared.acker.Acked.TheVariants as acked

-- ---- an acker without a number: its first call answers yes, each later one no

-- what an acker without a number answers: yes while it is unused, then no
abbrev pub mock_answer : Bool → Acked
mock_answer used = if used then acked.No else acked.Yes

-- the acker is used, and nothing else of it changes
abbrev pub used_up : Acker → Acker
used_up a = record a { used = true }

-- it asks nothing of the session
pub record IsMock (a b : Acker) (r : Result Acked Error) (v w : World) : Type 0 where
  pub answer : r ≡ Ok (mock_answer a.used)
  pub used : b ≡ used_up a
  pub session : w ≡ v

-- ---- an acker of the session

-- the answer as the record of the acker's event
abbrev pub AckedTold : Result Acked Error → Record → Type 0
AckedTold (Ok (acked.Ticket t)) r = r ≡ record_.Ticket t.number
AckedTold (Ok acked.No) r = r ≡ record_.No
AckedTold (Ok acked.Yes) r = ⊥
AckedTold (Err e) r = IsRefusal e r

-- it is the session's `acker_call` on the number, and the value stays as it is
pub record IsNumbered (n : ℕ) (k : AckerCall) (a b : Acker) (r : Result Acked Error) (v w : World) : Type 0 where
  pub told : AckedTold r (told_by v (event.Acker n k))
  pub made : WasMade r (w ≡ next v (event.Acker n k)) (w ≡ v)
  pub cause : AckCause r (usable_at n v.wire) k v.wire
  pub stays : b ≡ a

-- ---- a call of either, on an acker a that is b afterwards, in a session v that is w afterwards

-- what the call comes to, by the acker's number: 0 stands for one without a number, any other for an acker of the session
abbrev pub IsAcked : ℕ → AckerCall → Acker → Acker → Result Acked Error → World → World → Type 0
IsAcked zero k a b r v w = IsMock a b r v w
IsAcked (suc n) k a b r v w = IsNumbered (suc n) k a b r v w

-- ---- what may be asked of it

-- the opening of the acker's message has ended; never so of an acker without a number
abbrev pub is_poisoned : Acker → List Switch → Bool
is_poisoned a ss = is_over (switch_at a.number ss)

-- by its number: an acker without one is usable while it is unused, another where the session says so
abbrev pub usable_by : ℕ → Bool → List Switch → Bool
usable_by zero used ss = not used
usable_by (suc n) used ss = is_usable_as (switch_at (suc n) ss)

-- the acker is usable: its next call would not be answered no
abbrev pub is_usable : Acker → List Switch → Bool
is_usable a ss = usable_by a.number a.used ss
