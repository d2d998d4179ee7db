-- Reading octets from left to right: what stands next, and what is left behind it; nothing where the octets do not begin so.
use Rattle.std.specs.Prelude.{◌≡◌, ℕ, ◌/◌, ◌%◌, ◌==◌, Bool, true, false, List, [], ◌∷◌, length, map, take, drop, ◌++◌, Option, Some, None, Result, Ok, Err, if◌then◌else◌, nat_lt}
use Rattle.std.specs.Int.{w16, w32, w64, from_be_bytes}
use Rattle.std.specs.Str.{is_utf8}
use Rattle.std.specs.Str.Lossy.{utf8_valid_len}
use Rattle.lapin_fields.specs.declared.fault.ReadFault.{ReadFault}
use Rattle.lapin_fields.specs.declared.fault.ReadFault.TheVariants as faults

infixl 10 ◌>>=◌
-- what the next step answers with what was read, and nothing where nothing was read
abbrev pub ◌>>=◌ : {A B : Type 0} → Option A → (A → Option B) → Option B
(Some x) >>= f = f x
None >>= f = None

-- one octet
abbrev pub octet_at : List ℕ → Option (ℕ × List ℕ)
octet_at [] = None
octet_at (a ∷ rest) = Some (a, rest)

-- a number in two octets
abbrev pub short_at : List ℕ → Option (ℕ × List ℕ)
short_at (a ∷ b ∷ rest) = Some (from_be_bytes w16 (a ∷ b ∷ []), rest)
short_at (a ∷ []) = None
short_at [] = None

-- a number in four octets
abbrev pub long_at : List ℕ → Option (ℕ × List ℕ)
long_at (a ∷ b ∷ c ∷ d ∷ rest) = Some (from_be_bytes w32 (a ∷ b ∷ c ∷ d ∷ []), rest)
long_at (a ∷ b ∷ c ∷ []) = None
long_at (a ∷ b ∷ []) = None
long_at (a ∷ []) = None
long_at [] = None

-- a number in eight octets
abbrev pub wide_at : List ℕ → Option (ℕ × List ℕ)
wide_at (a ∷ b ∷ c ∷ d ∷ e ∷ f ∷ g ∷ h ∷ rest) = Some (from_be_bytes w64 (a ∷ b ∷ c ∷ d ∷ e ∷ f ∷ g ∷ h ∷ []), rest)
wide_at (a ∷ b ∷ c ∷ d ∷ e ∷ f ∷ g ∷ []) = None
wide_at (a ∷ b ∷ c ∷ d ∷ e ∷ f ∷ []) = None
wide_at (a ∷ b ∷ c ∷ d ∷ e ∷ []) = None
wide_at (a ∷ b ∷ c ∷ d ∷ []) = None
wide_at (a ∷ b ∷ c ∷ []) = None
wide_at (a ∷ b ∷ []) = None
wide_at (a ∷ []) = None
wide_at [] = None

-- so many octets
abbrev pub piece_at : ℕ → List ℕ → Option (List ℕ × List ℕ)
piece_at n bytes = if nat_lt (length bytes) n then None else Some (take n bytes, drop n bytes)

-- octets behind their number in four
abbrev pub counted_at : List ℕ → Option (List ℕ × List ℕ)
counted_at bytes = long_at bytes >>= λ n. piece_at n.0 n.1

-- octets behind their number in one
abbrev pub string_at : List ℕ → Option (List ℕ × List ℕ)
string_at bytes = octet_at bytes >>= λ n. piece_at n.0 n.1

-- the octets, where they are UTF-8
abbrev pub as_text : List ℕ → List ℕ → Option (List ℕ × List ℕ)
as_text t rest = if is_utf8 t then Some (t, rest) else None

-- a short text behind its length
abbrev pub text_at : List ℕ → Option (List ℕ × List ℕ)
text_at bytes = string_at bytes >>= λ t. as_text t.0 t.1

-- an octet as a letter of its own: as it stands where it is one of ASCII, and else a question mark
abbrev pub as_letter : ℕ → ℕ
as_letter b = if nat_lt b 128 then b else 63

-- Octets as a text, whatever they are, in as many octets: the longest front that is UTF-8 as it stands, and behind it each octet as a
-- letter of its own. So a text is itself, and of one that was cut within its last letter all else is kept.
abbrev pub readable : List ℕ → List ℕ
readable s = take (utf8_valid_len s) s ++ map as_letter (drop (utf8_valid_len s) s)

-- a text of the broker's behind its length, of which no octets are refused: a reply text, which is for people; and where a message is told the names
-- that a stranger gave it, its exchange and its routing key
abbrev pub reply_at : List ℕ → Option (List ℕ × List ℕ)
reply_at bytes = string_at bytes >>= λ s. Some (readable s.0, s.1)

-- what is passed over
abbrev pub passed : {X : Type 0} → Option (X × List ℕ) → Option (Unit {0} × List ℕ)
passed None = None
passed (Some x) = Some (tt, x.1)

-- the bit of that weight
abbrev pub bit_at : ℕ → ℕ → Bool
bit_at weight n = n / weight % 2 == 1

-- what an error says of a reading: that nothing is read, unless memory ran out
abbrev pub Fails : {Y : Type 0} → ReadFault → Option Y → Type 0
Fails faults.Malformed read = read ≡ None
Fails faults.NoMemory read = Unit {0}

-- What a function returned, and what it left to be read, are what reading gives, unless memory ran out.
abbrev pub Gives : {X : Type 0} → Result X ReadFault → List ℕ → Option (X × List ℕ) → Type 0
Gives (Ok x) rest read = read ≡ Some (x, rest)
Gives (Err e) rest read = Fails e read

-- the same of octets that are borrowed
abbrev pub GivesAs : {X Y : Type 0} → (X → Y) → Result X ReadFault → List ℕ → Option (Y × List ℕ) → Type 0
GivesAs view (Ok x) rest read = read ≡ Some (view x, rest)
GivesAs view (Err e) rest read = Fails e read

-- an error exactly where something is left
abbrev pub Ends : Result (Unit {0}) ReadFault → List ℕ → Type 0
Ends (Ok u) left = left ≡ []
Ends (Err e) left = (e ≡ faults.Malformed) × (left ≡ [] → ⊥)

-- the text of octets, exactly where they are UTF-8
abbrev pub GivesText : Result (List ℕ) ReadFault → List ℕ → Type 0
GivesText (Ok t) bytes = (t ≡ bytes) × (is_utf8 bytes ≡ true)
GivesText (Err faults.Malformed) bytes = is_utf8 bytes ≡ false
GivesText (Err faults.NoMemory) bytes = Unit {0}

-- What a function made of octets is what they are, unless memory ran out.
abbrev pub GivesWhole : {X : Type 0} → Result X ReadFault → Option X → Type 0
GivesWhole (Ok x) read = read ≡ Some x
GivesWhole (Err e) read = Fails e read

-- What a function made of octets is that value, unless memory ran out.
abbrev pub GivesOne : {X Y : Type 0} → (X → Y) → Result X ReadFault → Y → Type 0
GivesOne view (Ok x) y = view x ≡ y
GivesOne view (Err e) y = e ≡ faults.NoMemory
