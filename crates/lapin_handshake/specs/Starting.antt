-- The first method of a broker, connection.start, field by field (AMQP 0-9-1, class 10, method 10).
use Rattle.std.specs.Prelude.{◌≡◌, ℕ, ◌==◌, ◌&&◌, List, [], ◌∷◌, length, take, drop, Option, Some, None, Result, Ok, Err, if◌then◌else◌}
use Rattle.lapin_fields.specs.Around.{around_at}
use Rattle.lapin_fields.specs.Reading.{◌>>=◌, octet_at, short_at, counted_at, Fails}
use Rattle.lapin_fields.specs.declared.fault.ReadFault.{ReadFault}
use Rattle.lapin_handshake.specs.declared.start.Place.{Place}
use Rattle.lapin_handshake.specs.Words.{english, locale_of}

-- the version in two octets, and the broker's properties, its mechanisms and its locales
abbrev pub Fields : Type 0
Fields = ℕ × ℕ × List ℕ × List ℕ × List ℕ

-- the fields: the lists of octets stand each behind its length in four
abbrev pub fields_at : List ℕ → Option (Fields × List ℕ)
fields_at octets = octet_at octets >>= λ major. octet_at major.1 >>= λ minor. counted_at minor.1 >>= λ properties. counted_at properties.1 >>= λ mechanisms.
    counted_at mechanisms.1 >>= λ locales. Some ((major.0, minor.0, properties.0, mechanisms.0, locales.0), locales.1)

-- what was read, where nothing is left
abbrev pub alone : {A : Type 0} → Option (A × List ℕ) → Option A
alone (Some (s, [])) = Some s
alone (Some (s, _ ∷ _)) = None
alone None = None

-- the fields of a payload: the class, the method's number, and they and nothing behind them
abbrev pub fields_of : List ℕ → Option Fields
fields_of payload = short_at payload >>= λ class. short_at class.1 >>= λ number. (if (class.0 == 10) && (number.0 == 10) then alone (fields_at number.1) else None)

-- the fields of the start at the head of octets: a method's frame of channel 0
abbrev pub start_in : List ℕ → Option Fields
start_in bytes = around_at bytes >>= λ frame. (if (frame.0.0 == 1) && (frame.0.1 == 0) then fields_of frame.0.2 else None)

-- what a reader returned, as it is seen, is what there is, and there is nothing where it refused
abbrev pub GivesWholeAs : {X Y : Type 0} → (X → Y) → Result X ReadFault → Option Y → Type 0
GivesWholeAs view (Ok x) given = given ≡ Some (view x)
GivesWholeAs view (Err e) given = Fails e given

-- the octets of the broker's properties stand at the place, as many as it says
abbrev pub GivesPlace : Result Place ReadFault → List ℕ → Option Fields → Type 0
GivesPlace (Ok p) bytes given = (f : Fields) × (given ≡ Some f) × (take p.count (drop p.at bytes) ≡ f.2) × (p.count ≡ length f.2)
GivesPlace (Err e) bytes given = Fails e given

-- the locale that is said in answer to a start
abbrev pub locale_in : Option Fields → List ℕ
locale_in None = english
locale_in (Some f) = locale_of f.4
