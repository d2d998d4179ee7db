-- The numbers that a client has for further steps.
use Rattle.std.proofs.Common.{◌≡◌, ℕ, suc, ◌-◌, ◌<◌, ◌≤◌, ◌^◌, true, false, Option, Err, sym, subst, arith}
use Rattle.lapin_client.specs.Clients.{HasRoomFor}
use Rattle.lapin_client.specs.Refusals.{is_refusal}
use Rattle.lapin_machine.proofs.Counting.{numbers-next}
use Rattle.lapin_machine.specs.Numbers.{HasNumbersFor}
use Rattle.lapin_machine.specs.Told.{WasMade}
use Rattle.lapin_machine.specs.World.{World, next, new_world}
use Rattle.lapin_machine.specs.declared.channel.Ticket.{Ticket}
use Rattle.lapin_types.specs.Types.{Error}
use Rattle.lapin_types.specs.Types.error
use Rattle.lapin_types.specs.declared.event.Event.{Event}

numbers_of : (n : ℕ) (w : World) → HasRoomFor n w → HasNumbersFor n w
unfolding HasRoomFor
numbers_of n w room = record { tickets = room.0; confirms = room.1.0; consumers = room.1.1.0; ackers = room.1.1.1 }

room_of : (n : ℕ) (w : World) → HasNumbersFor n w → HasRoomFor n w
unfolding HasRoomFor
room_of n w has = (has.tickets, (has.confirms, (has.consumers, has.ackers)))

fewer_numbers : (n m : ℕ) (w : World) → m ≤ n → HasNumbersFor n w → HasNumbersFor m w
fewer_numbers n m w less has = record { tickets = omega (less, has.tickets, arith); confirms = omega (less, has.confirms, arith); consumers = omega (less, has.consumers, arith); ackers = omega (less, has.ackers, arith) }

pub room_one : (n : ℕ) (w : World) → 0 < n → HasRoomFor n w → HasNumbersFor 1 w
room_one n w some room = fewer_numbers n 1 w (omega (some, arith)) (numbers_of n w room)

suc_of : (n : ℕ) → 0 < n → n ≡ suc (n - 1)
suc_of n some = omega (some, arith)

-- any event uses one number up at most
pub room_next : (n : ℕ) (w v : World) (e : Event) → 0 < n → HasRoomFor n w → v ≡ next w e → HasRoomFor (n - 1) v
room_next n w v e some room stepped =
    room_of (n - 1) v (subst (HasNumbersFor (n - 1)) (sym stepped) (numbers-next (n - 1) w e (subst (λ (m : ℕ). HasNumbersFor m w) (suc_of n some) (numbers_of n w room))))

-- what a client is sound by: its steps, its longest frame and its session
abbrev pub Sound : ℕ → ℕ → World → Type 0
Sound n f w = (0 < n → HasRoomFor n w) × (4096 ≤ f)

-- a client that took one step
pub sound_next : (n f : ℕ) (w v : World) (e : Event) → Sound n f w → v ≡ next w e → Sound (n - 1) f v
sound_next n f w v e sound stepped = (λ some. room_next n w v e (omega (some, arith)) (sound.0 (omega (some, arith))) stepped, sound.1)

-- a client that took two
pub sound_two : (n f : ℕ) (w v u : World) (e g : Event) → Sound n f w → v ≡ next w e → u ≡ next v g → Sound (n - 2) f u
sound_two n f w v u e g sound one two =
    (λ some. subst (λ (m : ℕ). HasRoomFor m u) (omega (some, arith)) ((sound_next (n - 1) f v u g (sound_next n f w v e sound one) two).0 (omega (some, arith))), sound.1)

-- a client whose parts are the same
pub sound_same : (n m f g : ℕ) (w v : World) → m ≡ n → g ≡ f → v ≡ w → Sound n f w → Sound m g v
sound_same n m f g w v en ef ew s =
    (λ some. subst (λ (x : World). HasRoomFor m x) (sym ew) (subst (λ (x : ℕ). HasRoomFor x w) (sym en) (s.0 (subst (λ (x : ℕ). 0 < x) en some))), subst (λ (x : ℕ). 4096 ≤ x) (sym ef) s.1)

new_numbers : (n m : ℕ) → n < 2 ^ 64 → HasNumbersFor n (new_world m)
new_numbers n m fits = record { tickets = omega (fits, arith); confirms = omega (fits, arith); consumers = omega (fits, arith); ackers = omega (fits, arith) }

pub room_first : (n m : ℕ) (w : World) → w ≡ new_world m → n < 2 ^ 64 → HasRoomFor n w
room_first n m w new fits = subst (HasRoomFor n) (sym new) (room_of n (new_world m) (new_numbers n m fits))

-- ---- what an error of an acker's call leaves

pub made : (e : Error) (X : Type 0) (p q : Type 0) → WasMade {T = X} (Err e) p q → is_refusal e ≡ true → p
made error.NoMemory X p q h is = grind (is, arith)
made error.NumbersUsedUp X p q h is = grind (is, arith)
made (error.InvalidChannelState s) X p q h is = h
made (error.ProtocolError c) X p q h is = h
made error.ConnectionLost X p q h is = h
made (error.UnexpectedFrame c m) X p q h is = h
made (error.PreconditionFailed t n) X p q h is = h
made error.AlreadyTaken X p q h is = h
made error.UnknownTicket X p q h is = h
made (error.ConfirmsOutstanding l) X p q h is = h

pub made_not : (e : Error) (X : Type 0) (p q : Type 0) → WasMade {T = X} (Err e) p q → is_refusal e ≡ false → q
made_not error.NoMemory X p q h is = h
made_not error.NumbersUsedUp X p q h is = h
made_not (error.InvalidChannelState s) X p q h is = grind (is, arith)
made_not (error.ProtocolError c) X p q h is = grind (is, arith)
made_not error.ConnectionLost X p q h is = grind (is, arith)
made_not (error.UnexpectedFrame c m) X p q h is = grind (is, arith)
made_not (error.PreconditionFailed t n) X p q h is = grind (is, arith)
made_not error.AlreadyTaken X p q h is = grind (is, arith)
made_not error.UnknownTicket X p q h is = grind (is, arith)
made_not (error.ConfirmsOutstanding l) X p q h is = grind (is, arith)

pub made_next : (e : Error) (w v : World) (ev : Event) → WasMade {T = Option Ticket} (Err e) (v ≡ next w ev) (v ≡ w) → is_refusal e ≡ true → v ≡ next w ev
made_next e w v ev h is = made e (Option Ticket) (v ≡ next w ev) (v ≡ w) h is

pub made_none : (e : Error) (w v : World) (ev : Event) → WasMade {T = Option Ticket} (Err e) (v ≡ next w ev) (v ≡ w) → is_refusal e ≡ false → v ≡ w
made_none e w v ev h is = made_not e (Option Ticket) (v ≡ next w ev) (v ≡ w) h is
