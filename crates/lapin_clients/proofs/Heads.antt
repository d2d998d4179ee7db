-- What stands whole at the head of octets that are pieces is the first of them, wherever the octets are cut.
use Rattle.std.proofs.Common.{◌≡◌, ℕ, ◌+◌, ◌≤◌, Bool, true, false, List, [], ◌∷◌, ◌++◌, length, take, drop, Option, Some, None, refl, sym, ap, subst, ◌∙◌, arith, cond}
use Rattle.std.specs.Prelude.{◌==◌, nat_lt}
use Rattle.std.specs.Int.{w16, w32, from_be_bytes}
use Rattle.std.proofs.lemmas.List.{length-drop, length-take, drop-append-le}
use Rattle.std.proofs.lemmas.Option.{none-some}
use Rattle.lapin_types.specs.Types.{Frame}
use Rattle.lapin_fields.specs.Around.{around, around_at, ended, wanted_behind}
use Rattle.lapin_fields.specs.Reading.{◌>>=◌, octet_at, piece_at}
use Rattle.lapin_frames.specs.Carried.{frame_again}
use Rattle.lapin_frames.specs.FrameReading.{frame_in, heartbeat_in, read_in, read_at, used}
use Rattle.lapin_frames.specs.Frames.{bytes_of}
use Rattle.lapin_frames.specs.declared.frames.Read.{Read}
use Rattle.lapin_frames.specs.declared.frames.Read.TheVariants as read
use Rattle.lapin_frames.proofs.FrameLaws.{frame_back, heartbeat_back}
use Rattle.lapin_frames.proofs.UsedLaws.{read_more}
use Rattle.lapin_clients.specs.Pieces.{Piece, Of, Beat, Notice, octets_of, AllFit}

pub bind_some : {A B : Type 0} (m : Option A) (k : A → Option B) (y : B) → (m >>= k) ≡ Some y → (x : A) × (m ≡ Some x) × (k x ≡ Some y)
bind_some None k y e = absurd cc
bind_some (Some x) k y e = (x, refl, e)

abbrev pub Around : Type 0
Around = ℕ × ℕ × List ℕ

-- ---- what is read stands there whole, and takes no more octets than there are

pub mark_there : (found : Around) (d : List ℕ) (x : Around × List ℕ) → (octet_at d >>= λ mark. ended {A = Around} mark.0 found mark.1) ≡ Some x → (1 ≤ length d) × (found ≡ x.0)
mark_there found [] x e = absurd cc
mark_there found (y ∷ d) x e =
    elim (y == 206) as (λ b. cond b (Some (found, d)) None ≡ Some x → (1 ≤ length (y ∷ d)) × (found ≡ x.0)) [
      | true ↦ λ f. let g : (found, d) ≡ x = cc in (omega arith, ap (λ (z : Around × List ℕ). z.0) g)
      | false ↦ λ f. absurd cc
    ] e

abbrev piece_by : Bool → ℕ → List ℕ → Option (List ℕ × List ℕ)
piece_by few n rest = cond few None (Some (take n rest, drop n rest))

-- the payload, and the octet behind it
record IsThere (n : ℕ) (rest payload : List ℕ) : Type 0 where
  room : n + 1 ≤ length rest
  size : length payload + 1 ≤ length rest

piece_there : (kind channel n : ℕ) (rest : List ℕ) (x : Around × List ℕ) → (piece_at n rest >>= λ p. octet_at p.1 >>= λ mark. ended {A = Around} mark.0 (kind, channel, p.0) mark.1) ≡ Some x → IsThere n rest x.0.2
piece_there kind channel n rest x e =
    elim (nat_lt (length rest) n) as (λ b. (piece_by b n rest >>= λ p. octet_at p.1 >>= λ mark. ended {A = Around} mark.0 (kind, channel, p.0) mark.1) ≡ Some x → IsThere n rest x.0.2) [
      | true ↦ λ f. absurd (none-some x f)
      | false ↦ λ f.
          let h = mark_there (kind, channel, take n rest) (drop n rest) x f in
          let s : length (take n rest) ≡ length x.0.2 = ap (λ (a : Around). length a.2) h.1 in
          let t : 1 ≤ length (drop n rest) = h.0 in
          record { room = omega (arith, t, length-drop n rest); size = omega (arith, s, t, length-drop n rest, length-take n rest) }
    ] e

pub record IsWhole (bytes payload : List ℕ) : Type 0 where
  pub wanted : wanted_behind bytes ≡ 0
  pub size : length payload + 8 ≤ length bytes

pub around_whole : (bytes : List ℕ) (x : Around × List ℕ) → around_at bytes ≡ Some x → IsWhole bytes x.0.2
around_whole [] x e = absurd cc
around_whole (_ ∷ []) x e = absurd cc
around_whole (_ ∷ _ ∷ []) x e = absurd cc
around_whole (_ ∷ _ ∷ _ ∷ []) x e = absurd cc
around_whole (_ ∷ _ ∷ _ ∷ _ ∷ []) x e = absurd cc
around_whole (_ ∷ _ ∷ _ ∷ _ ∷ _ ∷ []) x e = absurd cc
around_whole (_ ∷ _ ∷ _ ∷ _ ∷ _ ∷ _ ∷ []) x e = absurd cc
around_whole (kind ∷ h ∷ l ∷ a ∷ b ∷ c ∷ d ∷ rest) x e =
    let t : IsThere (from_be_bytes w32 (a ∷ b ∷ c ∷ d ∷ [])) rest x.0.2 = piece_there kind (from_be_bytes w16 (h ∷ l ∷ [])) (from_be_bytes w32 (a ∷ b ∷ c ∷ d ∷ [])) rest x e in
    let room = t.room in
    let size = t.size in
    record { wanted = omega (arith, room); size = omega (arith, size) }

beat_used : (channel : ℕ) (payload : List ℕ) (r : Read) → heartbeat_in channel payload ≡ Some r → used r ≤ length payload + 8
beat_used channel [] r e =
    elim (channel == 0) as (λ b. cond b (Some (read.Heartbeat 8)) None ≡ Some r → used r ≤ length {A = ℕ} [] + 8) [
      | true ↦ λ f. let g : read.Heartbeat 8 ≡ r = cc in subst (λ (z : Read). used z ≤ length {A = ℕ} [] + 8) g (omega arith)
      | false ↦ λ f. absurd cc
    ] e
beat_used channel (b ∷ bs) r e = absurd cc

frame_used : (kind channel : ℕ) (payload : List ℕ) (r : Read) → (frame_in kind channel payload >>= λ f. Some (read.Frame f (length payload + 8))) ≡ Some r → used r ≤ length payload + 8
frame_used kind channel payload r e =
    let h = bind_some (frame_in kind channel payload) (λ f. Some (read.Frame f (length payload + 8))) r e in
    let g : read.Frame h.0 (length payload + 8) ≡ r = let k = h.2 in cc in
    subst (λ (z : Read). used z ≤ length payload + 8) g (omega arith)

read_used : (kind channel : ℕ) (payload : List ℕ) (r : Read) → read_in kind channel payload ≡ Some r → used r ≤ length payload + 8
read_used kind channel payload r e =
    elim (kind == 8) as (λ b. cond b (heartbeat_in channel payload) (frame_in kind channel payload >>= λ f. Some (read.Frame f (length payload + 8))) ≡ Some r → used r ≤ length payload + 8) [
      | true ↦ beat_used channel payload r
      | false ↦ frame_used kind channel payload r
    ] e

pub record IsHere (r : Read) (bytes : List ℕ) : Type 0 where
  pub wanted : wanted_behind bytes ≡ 0
  pub size : used r ≤ length bytes

pub read_here : (bytes : List ℕ) (r : Read) → read_at bytes ≡ Some r → IsHere r bytes
read_here bytes r e =
    let h = bind_some (around_at bytes) (λ a. read_in a.0.0 a.0.1 a.0.2) r e in
    let s : IsWhole bytes h.0.0.2 = around_whole bytes h.0 h.1 in
    let t : used r ≤ length h.0.0.2 + 8 = read_used h.0.0.0 h.0.0.1 h.0.0.2 r h.2 in
    let z : length h.0.0.2 + 8 ≤ length bytes = s.size in
    record { wanted = s.wanted; size = omega (arith, z, t) }

-- ---- the first piece

drop_front : {X : Type 0} (xs ys : List X) → drop (length xs) (xs ++ ys) ≡ ys
drop_front [] ys = refl
drop_front (x ∷ xs) ys = drop_front xs ys

-- what is left of octets, where the piece at their head is taken
pub others_left : (came behind : List ℕ) (n : ℕ) (first rest : List ℕ) → n ≤ length came → came ++ behind ≡ first ++ rest → n ≡ length first → drop n came ++ behind ≡ rest
others_left came behind n first rest le e is = sym (drop-append-le n came behind le) ∙ ap (drop n) e ∙ ap (λ k. drop k (first ++ rest)) is ∙ drop_front first rest

-- what is read of what came is read of all
pub read_of_all : (came behind : List ℕ) (pieces : List Piece) (r : Read) → came ++ behind ≡ octets_of pieces → read_at came ≡ Some r → read_at (octets_of pieces) ≡ Some r
read_of_all came behind pieces r e h = ap read_at (sym e) ∙ (read_more came behind (read_here came r h).wanted ∙ h)

pub frame_first : (most : ℕ) (came behind : List ℕ) (pieces : List Piece) (f : Frame) (n : ℕ) → AllFit most pieces → came ++ behind ≡ octets_of pieces → read_at came ≡ Some (read.Frame f n) → (g : Frame) × (others : List Piece) × (frame_again g ≡ f) × (pieces ≡ Of g ∷ others) × (drop n came ++ behind ≡ octets_of others)
frame_first most came behind [] f n fit e h = let no : read_at [] ≡ Some (read.Frame f n) = read_of_all came behind [] (read.Frame f n) e h in absurd cc
frame_first most came behind (Of g ∷ ps) f n fit e h =
    let all : read_at (bytes_of g ++ octets_of ps) ≡ Some (read.Frame f n) = read_of_all came behind (Of g ∷ ps) (read.Frame f n) e h in
    let same : ◌≡◌ {A = Option Read} (Some (read.Frame (frame_again g) (length (bytes_of g)))) (Some (read.Frame f n)) = sym (frame_back g (octets_of ps) fit.0.0) ∙ all in
    let frame : frame_again g ≡ f = cc in
    let size : n ≡ length (bytes_of g) = cc in
    (g, ps, frame, refl, others_left came behind n (bytes_of g) (octets_of ps) (read_here came (read.Frame f n) h).size e size)
frame_first most came behind (Beat ∷ ps) f n fit e h =
    let all : read_at (around 8 0 [] ++ octets_of ps) ≡ Some (read.Frame f n) = read_of_all came behind (Beat ∷ ps) (read.Frame f n) e h in
    let no : ◌≡◌ {A = Option Read} (Some (read.Heartbeat 8)) (Some (read.Frame f n)) = sym (heartbeat_back (octets_of ps)) ∙ all in
    absurd cc
frame_first most came behind (Notice b os ∷ ps) f n fit e h =
    let all : read_at (os ++ octets_of ps) ≡ Some (read.Frame f n) = read_of_all came behind (Notice b os ∷ ps) (read.Frame f n) e h in
    let no : ◌≡◌ {A = Option Read} None (Some (read.Frame f n)) = sym fit.0.0.1 ∙ (sym (read_more os (octets_of ps) fit.0.0.0) ∙ all) in
    absurd cc

pub beat_first : (most : ℕ) (came behind : List ℕ) (pieces : List Piece) (n : ℕ) → AllFit most pieces → came ++ behind ≡ octets_of pieces → read_at came ≡ Some (read.Heartbeat n) → (others : List Piece) × (pieces ≡ Beat ∷ others) × (drop n came ++ behind ≡ octets_of others)
beat_first most came behind [] n fit e h = let no : read_at [] ≡ Some (read.Heartbeat n) = read_of_all came behind [] (read.Heartbeat n) e h in absurd cc
beat_first most came behind (Of g ∷ ps) n fit e h =
    let all : read_at (bytes_of g ++ octets_of ps) ≡ Some (read.Heartbeat n) = read_of_all came behind (Of g ∷ ps) (read.Heartbeat n) e h in
    let no : ◌≡◌ {A = Option Read} (Some (read.Frame (frame_again g) (length (bytes_of g)))) (Some (read.Heartbeat n)) = sym (frame_back g (octets_of ps) fit.0.0) ∙ all in
    absurd cc
beat_first most came behind (Beat ∷ ps) n fit e h =
    let all : read_at (around 8 0 [] ++ octets_of ps) ≡ Some (read.Heartbeat n) = read_of_all came behind (Beat ∷ ps) (read.Heartbeat n) e h in
    let same : ◌≡◌ {A = Option Read} (Some (read.Heartbeat 8)) (Some (read.Heartbeat n)) = sym (heartbeat_back (octets_of ps)) ∙ all in
    let size : n ≡ 8 = cc in
    (ps, refl, others_left came behind n (around 8 0 []) (octets_of ps) (read_here came (read.Heartbeat n) h).size e size)
beat_first most came behind (Notice b os ∷ ps) n fit e h =
    let all : read_at (os ++ octets_of ps) ≡ Some (read.Heartbeat n) = read_of_all came behind (Notice b os ∷ ps) (read.Heartbeat n) e h in
    let no : ◌≡◌ {A = Option Read} None (Some (read.Heartbeat n)) = sym fit.0.0.1 ∙ (sym (read_more os (octets_of ps) fit.0.0.0) ∙ all) in
    absurd cc
