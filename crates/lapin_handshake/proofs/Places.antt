-- Where the broker's properties stand in the frame of a start: behind its first 17 octets.
use Rattle.std.proofs.Common.{◌≡◌, ◌≤◌, ℕ, ◌==◌, ◌&&◌, Bool, true, false, List, [], ◌∷◌, ◌++◌, length, take, drop, Option, Some, None, if◌then◌else◌, nat_lt, arith, refl, sym, ◌∙◌, ap}
use Rattle.std.proofs.Math.Seq.{take-append_seam}
use Rattle.std.proofs.lemmas.List.{append_assoc, drop-append-le, take-append-drop}
use Rattle.std.specs.Int.{w16, w32, from_be_bytes}
use Rattle.lapin_fields.specs.Around.{ended}
use Rattle.lapin_fields.specs.Reading.{◌>>=◌, octet_at, piece_at, counted_at}
use Rattle.lapin_handshake.specs.Starting.{Fields, fields_at, alone, fields_of, start_in}

-- where a step was taken, there was something to take it with
bound : {A B : Type 0} (o : Option A) (f : A → Option B) (y : B) → (o >>= f) ≡ Some y → (x : A) × (o ≡ Some x) × (f x ≡ Some y)
bound None f y e = absurd (cc)
bound (Some x) f y e = (x, refl, e)

-- what is there under a test is there
under : {A : Type 0} (b : Bool) (o : Option A) (y : A) → (if b then o else None) ≡ Some y → o ≡ Some y
under true o y e = e
under false o y e = absurd (cc)

outside : {A : Type 0} (b : Bool) (o : Option A) (y : A) → (if b then None else o) ≡ Some y → o ≡ Some y
outside true o y e = absurd (cc)
outside false o y e = e

-- both parts of what was read, one behind the other
abbrev both : Option (List ℕ × List ℕ) → List ℕ
both None = []
both (Some x) = x.0 ++ x.1

-- a piece and what is left are the octets
piece_is : (n : ℕ) (bytes : List ℕ) (x : List ℕ × List ℕ) → piece_at n bytes ≡ Some x → bytes ≡ x.0 ++ x.1
piece_is n bytes x e = sym (take-append-drop n bytes) ∙ ap both (outside (nat_lt (length bytes) n) (Some (take n bytes, drop n bytes)) x e)

-- the properties among fields that were read
abbrev third : Option (Fields × List ℕ) → List ℕ
third None = []
third (Some x) = x.0.2

-- the fields behind the properties leave these as they are
third_is : (major minor : ℕ) (q : List ℕ × List ℕ) (x : Fields × List ℕ)
    → (counted_at q.1 >>= λ m. counted_at m.1 >>= λ l. Some ((major, minor, q.0, m.0, l.0), l.1)) ≡ Some x → q.0 ≡ x.0.2
third_is major minor q x e =
    let one = bound {A = List ℕ × List ℕ} {B = Fields × List ℕ} (counted_at q.1) (λ m. counted_at m.1 >>= λ l. Some ((major, minor, q.0, m.0, l.0), l.1)) x e in
    let two = bound {A = List ℕ × List ℕ} {B = Fields × List ℕ} (counted_at one.0.1) (λ l. Some ((major, minor, q.0, one.0.0, l.0), l.1)) x one.2 in
    ap third two.2

-- the properties stand behind the version and their length
fields_stand : (octets : List ℕ) (x : Fields × List ℕ) → fields_at octets ≡ Some x → (more : List ℕ) × (drop 6 octets ≡ x.0.2 ++ more) × (6 ≤ length octets)
fields_stand [] x e = absurd (cc)
fields_stand (_ ∷ []) x e = absurd (cc)
fields_stand (_ ∷ _ ∷ []) x e = absurd (cc)
fields_stand (_ ∷ _ ∷ _ ∷ []) x e = absurd (cc)
fields_stand (_ ∷ _ ∷ _ ∷ _ ∷ []) x e = absurd (cc)
fields_stand (_ ∷ _ ∷ _ ∷ _ ∷ _ ∷ []) x e = absurd (cc)
fields_stand (major ∷ minor ∷ a ∷ b ∷ c ∷ d ∷ rest) x e =
    let n = from_be_bytes w32 (a ∷ b ∷ c ∷ d ∷ []) in
    let one = bound {A = List ℕ × List ℕ} {B = Fields × List ℕ} (piece_at n rest) (λ q. counted_at q.1 >>= λ m. counted_at m.1 >>= λ l. Some ((major, minor, q.0, m.0, l.0), l.1)) x e in
    (one.0.1, piece_is n rest one.0 one.1 ∙ ap (λ p. p ++ one.0.1) (third_is major minor one.0 x one.2), omega arith)

-- what was read with nothing left
alone_is : {A : Type 0} (o : Option (A × List ℕ)) (y : A) → alone o ≡ Some y → o ≡ Some (y, [])
alone_is None y e = absurd (cc)
alone_is (Some (s, [])) y e = cc
alone_is (Some (s, _ ∷ _)) y e = absurd (cc)

-- in a payload the class and the number stand before them
payload_stands : (payload : List ℕ) (f : Fields) → fields_of payload ≡ Some f → (more : List ℕ) × (drop 10 payload ≡ f.2 ++ more) × (10 ≤ length payload)
payload_stands [] f e = absurd (cc)
payload_stands (_ ∷ []) f e = absurd (cc)
payload_stands (_ ∷ _ ∷ []) f e = absurd (cc)
payload_stands (_ ∷ _ ∷ _ ∷ []) f e = absurd (cc)
payload_stands (a ∷ b ∷ c ∷ d ∷ rest) f e =
    let is_start = (from_be_bytes w16 (a ∷ b ∷ []) == 10) && (from_be_bytes w16 (c ∷ d ∷ []) == 10) in
    let found = fields_stand rest (f, []) (alone_is {A = Fields} (fields_at rest) f (under {A = Fields} is_start (alone (fields_at rest)) f e)) in
    let long : 6 ≤ length rest = found.2 in
    (found.0, found.1, omega arith)

-- the payload of a frame that was found
abbrev inside : Option ((ℕ × ℕ × List ℕ) × List ℕ) → List ℕ
inside None = []
inside (Some x) = x.0.2

ended_is : (mark kind channel : ℕ) (payload rest : List ℕ) (x : (ℕ × ℕ × List ℕ) × List ℕ) → ended {A = ℕ × ℕ × List ℕ} mark (kind, channel, payload) rest ≡ Some x → payload ≡ x.0.2
ended_is mark kind channel payload rest x e = ap inside (under {A = (ℕ × ℕ × List ℕ) × List ℕ} (mark == 206) (Some ((kind, channel, payload), rest)) x e)

-- what stands behind the size of a frame, where a start is read of it
frame_stands : (kind channel n : ℕ) (rest : List ℕ) (f : Fields)
    → ((piece_at n rest >>= λ p. octet_at p.1 >>= λ mark. ended {A = ℕ × ℕ × List ℕ} mark.0 (kind, channel, p.0) mark.1) >>= λ frame. (if (frame.0.0 == 1) && (frame.0.1 == 0) then fields_of frame.0.2 else None)) ≡ Some f
    → take (length f.2) (drop 10 rest) ≡ f.2
frame_stands kind channel n rest f e =
    let one = bound {A = (ℕ × ℕ × List ℕ) × List ℕ} {B = Fields} (piece_at n rest >>= λ p. octet_at p.1 >>= λ mark. ended {A = ℕ × ℕ × List ℕ} mark.0 (kind, channel, p.0) mark.1)
    (λ frame. if (frame.0.0 == 1) && (frame.0.1 == 0) then fields_of frame.0.2 else None) f e in
    let two = bound {A = List ℕ × List ℕ} {B = (ℕ × ℕ × List ℕ) × List ℕ} (piece_at n rest) (λ p. octet_at p.1 >>= λ mark. ended {A = ℕ × ℕ × List ℕ} mark.0 (kind, channel, p.0) mark.1) one.0 one.1 in
    let three = bound {A = ℕ × List ℕ} {B = (ℕ × ℕ × List ℕ) × List ℕ} (octet_at two.0.1) (λ mark. ended {A = ℕ × ℕ × List ℕ} mark.0 (kind, channel, two.0.0) mark.1) one.0 two.2 in
    let payload = one.0.0.2 in
    let more = two.0.1 in
    let same : rest ≡ payload ++ more = piece_is n rest two.0 two.1 ∙ ap (λ p. p ++ more) (ended_is three.0.0 kind channel two.0.0 three.0.1 one.0 three.2) in
    let found = payload_stands payload f (under {A = Fields} ((one.0.0.0 == 1) && (one.0.0.1 == 0)) (fields_of payload) f one.2) in
    let dropped : drop 10 rest ≡ f.2 ++ (found.0 ++ more) =
    ap (λ l. drop 10 l) same ∙ drop-append-le 10 payload more found.2 ∙ ap (λ l. l ++ more) found.1 ∙ append_assoc f.2 found.0 more in
    ap (λ l. take (length f.2) l) dropped ∙ take-append_seam f.2 (found.0 ++ more)

-- so the broker's properties stand behind the first 17 octets of the frame of a start
pub properties_stand : (bytes : List ℕ) (f : Fields) → start_in bytes ≡ Some f → take (length f.2) (drop 17 bytes) ≡ f.2
properties_stand [] f e = absurd (cc)
properties_stand (_ ∷ []) f e = absurd (cc)
properties_stand (_ ∷ _ ∷ []) f e = absurd (cc)
properties_stand (_ ∷ _ ∷ _ ∷ []) f e = absurd (cc)
properties_stand (_ ∷ _ ∷ _ ∷ _ ∷ []) f e = absurd (cc)
properties_stand (_ ∷ _ ∷ _ ∷ _ ∷ _ ∷ []) f e = absurd (cc)
properties_stand (_ ∷ _ ∷ _ ∷ _ ∷ _ ∷ _ ∷ []) f e = absurd (cc)
properties_stand (kind ∷ h ∷ l ∷ a ∷ b ∷ c ∷ d ∷ rest) f e = frame_stands kind (from_be_bytes w16 (h ∷ l ∷ [])) (from_be_bytes w32 (a ∷ b ∷ c ∷ d ∷ [])) rest f e
