-- The fields that frames are made of: numbers with the most significant octet first, texts and strings behind their lengths, and flags
-- packed into an octet from its lowest bit.
use Rattle.std.specs.Prelude.{ℕ, ◌+◌, ◌*◌, Bool, List, [], ◌∷◌, ◌++◌, length, if◌then◌else◌}
use Rattle.std.specs.Int.{w16, w32, w64, to_be_bytes}

-- a number in one octet
abbrev pub octet : ℕ → List ℕ
octet n = n ∷ []

-- a number in two octets
abbrev pub short : ℕ → List ℕ
short n = to_be_bytes w16 n

-- a number in four octets
abbrev pub long : ℕ → List ℕ
long n = to_be_bytes w32 n

-- a number in eight octets
abbrev pub wide : ℕ → List ℕ
wide n = to_be_bytes w64 n

-- a short text: its length in one octet, and then itself
abbrev pub text : List ℕ → List ℕ
text t = length t ∷ t

-- a long string: its length in four octets, and then itself
abbrev pub counted : List ℕ → List ℕ
counted s = long (length s) ++ s

-- a flag as a number
abbrev pub bit : Bool → ℕ
bit b = if b then 1 else 0

-- flags as a number: the first is the lowest bit, and bits without a flag are 0
abbrev pub bits : List Bool → ℕ
bits [] = 0
bits (b ∷ bs) = bit b + 2 * bits bs

-- flags in one octet. There are at most eight
abbrev pub flags : List Bool → List ℕ
flags bs = octet (bits bs)
