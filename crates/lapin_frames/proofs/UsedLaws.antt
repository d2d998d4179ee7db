-- What is read takes no more octets than there are, and what follows changes nothing of it.
use Rattle.std.proofs.Common.{◌≡◌, ℕ, ◌+◌, ◌≤◌, Bool, true, false, List, [], ◌∷◌, ◌++◌, length, take, drop, Option, Some, None, refl, sym, ap, subst, ◌∙◌, arith, cond}
use Rattle.std.specs.Prelude.{◌==◌, nat_lt, Result, Ok, Err, IfOk}
use Rattle.std.specs.Int.{w16, w32, from_be_bytes}
use Rattle.std.proofs.lemmas.List.{length-drop, length-take}
use Rattle.lapin_fields.specs.declared.fault.ReadFault.{ReadFault}
use Rattle.lapin_fields.specs.Around.{around_at, and_more, ended, wanted_behind}
use Rattle.lapin_fields.specs.Reading.{◌>>=◌, octet_at, piece_at, GivesWhole}
use Rattle.lapin_fields.proofs.PartLaws.{around_more}
use Rattle.lapin_fields.proofs.ReadingLaws.{bind_some}
use Rattle.lapin_frames.specs.FrameReading.{frame_in, heartbeat_in, read_in, read_at, used}
use Rattle.lapin_frames.specs.declared.frames.Read.{Read}
use Rattle.lapin_frames.specs.declared.frames.Read.TheVariants as read
use Rattle.std.proofs.lemmas.Option.{none-some}

abbrev Around : Type 0
Around = ℕ × ℕ × List ℕ

-- ---- how many octets a frame takes

mark_there : (found : Around) (d : List ℕ) (x : Around × List ℕ) → (octet_at d >>= λ mark. ended {A = Around} mark.0 found mark.1) ≡ Some x → (1 ≤ length d) × (found ≡ x.0)
mark_there found [] x e = absurd cc
mark_there found (y ∷ d) x e =
    elim (y == 206) as (λ b. cond b (Some (found, d)) None ≡ Some x → (1 ≤ length (y ∷ d)) × (found ≡ x.0)) [
      | true ↦ λ f. let g : (found, d) ≡ x = cc in (omega arith, ap (λ (z : Around × List ℕ). z.0) g)
      | false ↦ λ f. absurd cc
    ] e

-- a piece, by the test whether there are too few octets
abbrev piece_by : Bool → ℕ → List ℕ → Option (List ℕ × List ℕ)
piece_by few n rest = cond few None (Some (take n rest, drop n rest))

piece_there : (kind channel n : ℕ) (rest : List ℕ) (x : Around × List ℕ) → (piece_at n rest >>= λ p. octet_at p.1 >>= λ mark. ended {A = Around} mark.0 (kind, channel, p.0) mark.1) ≡ Some x → length x.0.2 + 1 ≤ length rest
piece_there kind channel n rest x e =
    elim (nat_lt (length rest) n) as (λ b. (piece_by b n rest >>= λ p. octet_at p.1 >>= λ mark. ended {A = Around} mark.0 (kind, channel, p.0) mark.1) ≡ Some x → length x.0.2 + 1 ≤ length rest) [
      | true ↦ λ f. absurd (none-some x f)
      | false ↦ λ f.
          let h = mark_there (kind, channel, take n rest) (drop n rest) x f in
          let s : length (take n rest) ≡ length x.0.2 = ap (λ (a : Around). length a.2) h.1 in
          let t : 1 ≤ length (drop n rest) = h.0 in
          omega (arith, length-drop n rest, length-take n rest)
    ] e

around_there : (bytes : List ℕ) (x : Around × List ℕ) → around_at bytes ≡ Some x → length x.0.2 + 8 ≤ length bytes
around_there [] x e = absurd cc
around_there (_ ∷ []) x e = absurd cc
around_there (_ ∷ _ ∷ []) x e = absurd cc
around_there (_ ∷ _ ∷ _ ∷ []) x e = absurd cc
around_there (_ ∷ _ ∷ _ ∷ _ ∷ []) x e = absurd cc
around_there (_ ∷ _ ∷ _ ∷ _ ∷ _ ∷ []) x e = absurd cc
around_there (_ ∷ _ ∷ _ ∷ _ ∷ _ ∷ _ ∷ []) x e = absurd cc
around_there (kind ∷ h ∷ l ∷ a ∷ b ∷ c ∷ d ∷ rest) x e = let le = piece_there kind (from_be_bytes w16 (h ∷ l ∷ [])) (from_be_bytes w32 (a ∷ b ∷ c ∷ d ∷ [])) rest x e in omega arith

beat_used : (channel : ℕ) (payload : List ℕ) (r : Read) → heartbeat_in channel payload ≡ Some r → used r ≤ length payload + 8
beat_used channel [] r e =
    elim (channel == 0) as (λ b. cond b (Some (read.Heartbeat 8)) None ≡ Some r → used r ≤ length {A = ℕ} [] + 8) [
      | true ↦ λ f. let g : read.Heartbeat 8 ≡ r = cc in subst (λ (z : Read). used z ≤ length {A = ℕ} [] + 8) g (omega arith)
      | false ↦ λ f. absurd cc
    ] e
beat_used channel (b ∷ bs) r e = absurd cc

frame_used : (kind channel : ℕ) (payload : List ℕ) (r : Read) → (frame_in kind channel payload >>= λ f. Some (read.Frame f (length payload + 8))) ≡ Some r → used r ≤ length payload + 8
frame_used kind channel payload r e =
    let h = bind_some (frame_in kind channel payload) (λ f. Some (read.Frame f (length payload + 8))) r e in
    let g : read.Frame h.0 (length payload + 8) ≡ r = let k = h.2 in cc in
    subst (λ (z : Read). used z ≤ length payload + 8) g (omega arith)

read_used : (kind channel : ℕ) (payload : List ℕ) (r : Read) → read_in kind channel payload ≡ Some r → used r ≤ length payload + 8
read_used kind channel payload r e =
    elim (kind == 8) as (λ b. cond b (heartbeat_in channel payload) (frame_in kind channel payload >>= λ f. Some (read.Frame f (length payload + 8))) ≡ Some r → used r ≤ length payload + 8) [
      | true ↦ beat_used channel payload r
      | false ↦ frame_used kind channel payload r
    ] e

read_within : (bytes : List ℕ) (r : Read) → read_at bytes ≡ Some r → used r ≤ length bytes
read_within bytes r e =
    let h = bind_some (around_at bytes) (λ a. read_in a.0.0 a.0.1 a.0.2) r e in
    let s = around_there bytes h.0 h.1 in
    let t = read_used h.0.0.0 h.0.0.1 h.0.0.2 r h.2 in
    omega arith

used_within : (r : Result Read ReadFault) (bytes : List ℕ) → GivesWhole r (read_at bytes) → IfOk r (λ x. used x ≤ length bytes)
used_within (Ok r) bytes e = read_within bytes r e
used_within (Err f) bytes e = tt

pub used_around : (r : Result Read ReadFault) (bytes : List ℕ) (a : Around) (rest : List ℕ) → around_at bytes ≡ Some (a, rest) → GivesWhole r (read_in a.0 a.1 a.2) → IfOk r (λ x. used x ≤ length bytes)
used_around r bytes a rest e h =
    let same : read_at bytes ≡ read_in a.0 a.1 a.2 = ap (λ (o : Option (Around × List ℕ)). o >>= λ a. read_in a.0.0 a.0.1 a.0.2) e in
    used_within r bytes (subst (λ (o : Option Read). GivesWhole r o) (sym same) h)

-- ---- what follows

same_read : (more : List ℕ) (o : Option (Around × List ℕ)) → (and_more more o >>= λ a. read_in a.0.0 a.0.1 a.0.2) ≡ (o >>= λ a. read_in a.0.0 a.0.1 a.0.2)
same_read more None = refl
same_read more (Some a) = refl

pub read_more : (bytes more : List ℕ) → wanted_behind bytes ≡ 0 → read_at (bytes ++ more) ≡ read_at bytes
read_more bytes more e = ap (λ (o : Option (Around × List ℕ)). o >>= λ a. read_in a.0.0 a.0.1 a.0.2) (around_more bytes more e) ∙ same_read more (around_at bytes)
