-- What was written is read: the fields that hold no other.
use Rattle.std.proofs.Common.{◌≡◌, ℕ, ◌<◌, ◌^◌, List, [], ◌∷◌, ◌++◌, length, Option, Some, None, refl, ap, ◌∙◌, arith, append_assoc}
use Rattle.std.proofs.lemmas.Nat.{from_be_bytes-to_be_bytes_2, from_be_bytes-to_be_bytes_4, from_be_bytes-to_be_bytes_8}
use Rattle.std.proofs.lemmas.Bool.{le-ltb}
use Rattle.std.proofs.lemmas.List.{length-append}
use Rattle.std.proofs.Math.Seq.{take-append_seam, drop-append_seam}
use Rattle.lapin_fields.specs.Around.{around, around_at, ended}
use Rattle.lapin_fields.specs.Fields.{octet, short, long, wide, text, counted}
use Rattle.lapin_fields.specs.Fits.{TextFits, StringFits}
use Rattle.lapin_fields.specs.Reading.{◌>>=◌, octet_at, short_at, long_at, wide_at, piece_at, counted_at, string_at, text_at, readable, reply_at}
use Rattle.lapin_fields.proofs.ReadableLaws.{readable_text}
use Rattle.std.proofs.lemmas.Str.{IsUtf8-from_is_utf8}

-- a step that reads what was written goes on with it
pub then_on : {A B : Type 0} (m : Option A) (x : A) (k : A → Option B) (y : Option B) → m ≡ Some x → k x ≡ y → (m >>= k) ≡ y
then_on m x k y e f = ap (λ (o : Option _). o >>= k) e ∙ f

-- where a step gave something, so did what it went on with
pub bind_some : {A B : Type 0} (m : Option A) (k : A → Option B) (y : B) → (m >>= k) ≡ Some y → (x : A) × (m ≡ Some x) × (k x ≡ Some y)
bind_some None k y e = absurd cc
bind_some (Some x) k y e = (x, refl, e)

-- a number in two octets, in four, and in eight
pub short_back : (n : ℕ) (rest : List ℕ) → n < 2 ^ 16 → short_at (short n ++ rest) ≡ Some (n, rest)
short_back n rest lt = ap (λ (k : ℕ). Some (k, rest)) (from_be_bytes-to_be_bytes_2 n lt)

pub long_back : (n : ℕ) (rest : List ℕ) → n < 2 ^ 32 → long_at (long n ++ rest) ≡ Some (n, rest)
long_back n rest lt = ap (λ (k : ℕ). Some (k, rest)) (from_be_bytes-to_be_bytes_4 n lt)

pub wide_back : (n : ℕ) (rest : List ℕ) → n < 2 ^ 64 → wide_at (wide n ++ rest) ≡ Some (n, rest)
wide_back n rest lt = ap (λ (k : ℕ). Some (k, rest)) (from_be_bytes-to_be_bytes_8 n lt)

-- so many octets
pub piece_back : (t rest : List ℕ) → piece_at (length t) (t ++ rest) ≡ Some (t, rest)
piece_back t rest =
    rw (le-ltb (length (t ++ rest)) (length t) (omega (arith, length-append t rest)), take-append_seam t rest, drop-append_seam t rest) refl

-- a short text behind its length
pub string_back : (t rest : List ℕ) → string_at (text t ++ rest) ≡ Some (t, rest)
string_back t rest = piece_back t rest

pub text_back : (t rest : List ℕ) → TextFits t → text_at (text t ++ rest) ≡ Some (t, rest)
text_back t rest fits = rw (piece_back t rest, fits.utf8) refl

-- a reply text behind its length
pub reply_back : (t rest : List ℕ) → TextFits t → reply_at (text t ++ rest) ≡ Some (t, rest)
reply_back t rest fits =
    then_on (string_at (text t ++ rest)) (t, rest) (λ s. Some (readable s.0, s.1)) (Some (t, rest)) (string_back t rest)
    (ap (λ (s : List ℕ). Some (s, rest)) (readable_text t (IsUtf8-from_is_utf8 t fits.utf8)))

-- a long string behind its length
pub counted_back : (s rest : List ℕ) → StringFits s → counted_at (counted s ++ rest) ≡ Some (s, rest)
counted_back s rest lt = ap (λ (o : Option (ℕ × List ℕ)). o >>= λ n. piece_at n.0 n.1) (long_back (length s) (s ++ rest) lt) ∙ piece_back s rest

-- what stands around a payload
pub around_back : (kind channel : ℕ) (payload rest : List ℕ) → channel < 2 ^ 16 → StringFits payload → around_at (around kind channel payload ++ rest) ≡ Some ((kind, channel, payload), rest)
around_back kind channel payload rest lt fits =
    ap (λ (t : List ℕ). around_at ((octet kind ++ short channel) ++ (long (length payload) ++ t))) (append_assoc payload (206 ∷ []) rest)
    ∙ then_on (short_at (short channel ++ (counted payload ++ 206 ∷ rest))) (channel, counted payload ++ 206 ∷ rest)
    (λ c. counted_at c.1 >>= λ p. octet_at p.1 >>= λ mark. ended mark.0 (kind, c.0, p.0) mark.1) _
    (short_back channel (counted payload ++ 206 ∷ rest) lt)
    (then_on (counted_at (counted payload ++ 206 ∷ rest)) (payload, 206 ∷ rest)
    (λ p. octet_at p.1 >>= λ mark. ended mark.0 (kind, channel, p.0) mark.1) _
    (counted_back payload (206 ∷ rest) fits) refl)
