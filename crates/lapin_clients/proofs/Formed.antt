-- Octets of an honest broker are frames that a client reads, none longer than a frame may be.
use Rattle.std.proofs.Common.{◌≡◌, ℕ, ◌+◌, ◌≤◌, ◌<◌, true, false, cond, List, [], ◌∷◌, ◌++◌, length, take, drop, Option, Some, None, refl, sym, ap, subst, ◌∙◌, inl, inr, arith}
use Rattle.std.specs.Prelude.{◌==◌, nat_lt}
use Rattle.std.specs.Int.{w32, w16, from_be_bytes}
use Rattle.std.proofs.lemmas.List.{length-drop, length-take}
use Rattle.std.proofs.lemmas.Option.{none-some}
use Rattle.lapin_types.specs.Types.{Frame}
use Rattle.lapin_fields.specs.Around.{and_more, around, around_at, ended, wanted_behind}
use Rattle.lapin_fields.specs.Reading.{◌>>=◌, octet_at, piece_at}
use Rattle.lapin_fields.proofs.PartLaws.{around_more}
use Rattle.lapin_frames.specs.Carried.{frame_again}
use Rattle.lapin_frames.specs.FrameReading.{frame_in, heartbeat_in, read_at, read_in}
use Rattle.lapin_frames.specs.Frames.{bytes_of}
use Rattle.lapin_frames.specs.declared.frames.Read.{Read}
use Rattle.lapin_frames.specs.declared.frames.Read.TheVariants as head
use Rattle.lapin_frames.proofs.FrameLaws.{frame_back, heartbeat_back}
use Rattle.lapin_frames.proofs.UsedLaws.{read_more}
use Rattle.lapin_handshake.specs.Saying.{frame_said_at, payload_said}
use Rattle.lapin_handshake.specs.declared.said.Said.{Said}
use Rattle.lapin_joint.specs.Joint.{Joint, new_joint, run}
use Rattle.lapin_machine.specs.Way.{by_machine}
use Rattle.lapin_machine.specs.World.{World, new_world}
use Rattle.lapin_client.specs.declared.client.Client.{Client}
use Rattle.lapin_client.specs.declared.status.Status.{Status}
use Rattle.lapin_client.specs.declared.status.Status.TheVariants as status
use Rattle.lapin_client.specs.Receiving.{Comes as ComeAll, IsLonger, Receives, SaysNoNotice, Turns, length_at}
use Rattle.lapin_concord.proofs.Running.{Sound, new_sound, sound_run}
use Rattle.lapin_clients.specs.Joined.{IsJoined, machine_to}
use Rattle.lapin_clients.specs.Nets.{Net, Act, IsNewNet, Leads, kept_by}
use Rattle.lapin_clients.specs.Pieces.{Piece, Of, Beat, Notice, AllFit, octets_of}
use Rattle.lapin_clients.specs.Truth.{AreRead, OctetsAreRead}
use Rattle.lapin_clients.proofs.Going.{GoesOn}
use Rattle.lapin_clients.proofs.Heads.{bind_some, mark_there}
use Rattle.lapin_clients.proofs.Published.{run_is}
use Rattle.lapin_clients.proofs.Runs.{longer_joined, turns_go, with_client}
use Rattle.lapin_clients.proofs.Wires.{long_more, none_came}

abbrev pub Around : Type 0
Around = ℕ × ℕ × List ℕ

-- ---- what stands whole at the head is read

abbrev pub said_of : Around × List ℕ → Option Said
said_of a = cond (a.0.1 == 0) (payload_said a.0.0 a.0.2) None

same_said : (more : List ℕ) (o : Option (Around × List ℕ)) → (and_more more o >>= said_of) ≡ (o >>= said_of)
same_said more None = refl
same_said more (Some a) = refl

pub said_more : (bytes more : List ℕ) → wanted_behind bytes ≡ 0 → frame_said_at (bytes ++ more) ≡ frame_said_at bytes
said_more bytes more e = ap (λ (o : Option (Around × List ℕ)). o >>= said_of) (around_more bytes more e) ∙ same_said more (around_at bytes)

none_malformed : (most : ℕ) (came behind : List ℕ) (pieces : List Piece) → AllFit most pieces → came ++ behind ≡ octets_of pieces → wanted_behind came ≡ 0 → read_at came ≡ None → SaysNoNotice came → ⊥
none_malformed most came behind [] fit e whole none unsaid = none_came came behind e whole
none_malformed most came behind (Of g ∷ ps) fit e whole none unsaid =
    let no : ◌≡◌ {A = Option Read} None (Some (head.Frame (frame_again g) (length (bytes_of g)))) = sym none ∙ (sym (read_more came behind whole) ∙ (ap read_at e ∙ frame_back g (octets_of ps) fit.0.0)) in
    cc
none_malformed most came behind (Beat ∷ ps) fit e whole none unsaid =
    let no : ◌≡◌ {A = Option Read} None (Some (head.Heartbeat 8)) = sym none ∙ (sym (read_more came behind whole) ∙ (ap read_at e ∙ heartbeat_back (octets_of ps))) in
    cc
none_malformed most came behind (Notice b os ∷ ps) fit e whole none unsaid =
    unsaid b (sym (said_more came behind whole) ∙ (ap frame_said_at e ∙ (said_more os (octets_of ps) fit.0.0.0 ∙ fit.0.0.2)))

-- ---- and is no longer than a frame may be

piece_long : (kind channel n : ℕ) (rest : List ℕ) (x : Around × List ℕ) → (piece_at n rest >>= λ p. octet_at p.1 >>= λ mark. ended {A = Around} mark.0 (kind, channel, p.0) mark.1) ≡ Some x → length x.0.2 ≡ n
piece_long kind channel n rest x e =
    elim (nat_lt (length rest) n) as (λ b. (cond b None (Some (take n rest, drop n rest)) >>= λ (p : List ℕ × List ℕ). octet_at p.1 >>= λ mark. ended {A = Around} mark.0 (kind, channel, p.0) mark.1) ≡ Some x → length x.0.2 ≡ n) [
      | true ↦ λ f. absurd (none-some x f)
      | false ↦ λ f.
          let h = mark_there (kind, channel, take n rest) (drop n rest) x f in
          let s : length (take n rest) ≡ length x.0.2 = ap (λ (a : Around). length a.2) h.1 in
          let t : 1 ≤ length (drop n rest) = h.0 in
          omega (arith, s, t, length-drop n rest, length-take n rest)
    ] e

around_long : (bytes : List ℕ) (x : Around × List ℕ) → around_at bytes ≡ Some x → length x.0.2 + 8 ≡ length_at bytes
around_long [] x e = absurd cc
around_long (_ ∷ []) x e = absurd cc
around_long (_ ∷ _ ∷ []) x e = absurd cc
around_long (_ ∷ _ ∷ _ ∷ []) x e = absurd cc
around_long (_ ∷ _ ∷ _ ∷ _ ∷ []) x e = absurd cc
around_long (_ ∷ _ ∷ _ ∷ _ ∷ _ ∷ []) x e = absurd cc
around_long (_ ∷ _ ∷ _ ∷ _ ∷ _ ∷ _ ∷ []) x e = absurd cc
around_long (kind ∷ h ∷ l ∷ a ∷ b ∷ c ∷ d ∷ rest) x e = ap (λ n. n + 8) (piece_long kind (from_be_bytes w16 (h ∷ l ∷ [])) (from_be_bytes w32 (a ∷ b ∷ c ∷ d ∷ [])) rest x e)

frame_long : (kind channel : ℕ) (payload : List ℕ) (f : Frame) (n : ℕ) → read_in kind channel payload ≡ Some (head.Frame f n) → n ≡ length payload + 8
frame_long kind channel payload f n e =
    elim (kind == 8) as (λ b. cond b (heartbeat_in channel payload) (frame_in kind channel payload >>= λ g. Some (head.Frame g (length payload + 8))) ≡ Some (head.Frame f n) → n ≡ length payload + 8) [
      | true ↦ λ h. absurd (no_beat channel payload f n h)
      | false ↦ λ h. (
          let k = bind_some (frame_in kind channel payload) (λ g. Some (head.Frame g (length payload + 8))) (head.Frame f n) h in
          let g : ◌≡◌ {A = Option Read} (Some (head.Frame k.0 (length payload + 8))) (Some (head.Frame f n)) = k.2 in
          cc)
    ] e
  where
    no_beat : (channel : ℕ) (payload : List ℕ) (f : Frame) (n : ℕ) → heartbeat_in channel payload ≡ Some (head.Frame f n) → ⊥
    no_beat channel [] f n h = elim (channel == 0) as (λ b. cond b (Some (head.Heartbeat 8)) None ≡ Some (head.Frame f n) → ⊥) [ true ↦ λ g. cc | false ↦ λ g. cc ] h
    no_beat channel (b ∷ bs) f n h = cc

read_long : (bytes : List ℕ) (f : Frame) (n : ℕ) → read_at bytes ≡ Some (head.Frame f n) → n ≡ length_at bytes
read_long bytes f n e =
    let h = bind_some (around_at bytes) (λ a. read_in a.0.0 a.0.1 a.0.2) (head.Frame f n) e in
    frame_long h.0.0.0 h.0.0.1 h.0.0.2 f n h.2 ∙ around_long bytes h.0 h.1

-- the length that is told there, once it is there
known : (came behind : List ℕ) → 0 < length_at came → length_at (came ++ behind) ≡ length_at came
known (_ ∷ _ ∷ _ ∷ a ∷ b ∷ c ∷ d ∷ rest) behind h = refl
known (_ ∷ _ ∷ _ ∷ _ ∷ _ ∷ _ ∷ []) behind h = let z : ⊥ = omega (arith, h) in absurd z
known (_ ∷ _ ∷ _ ∷ _ ∷ _ ∷ []) behind h = let z : ⊥ = omega (arith, h) in absurd z
known (_ ∷ _ ∷ _ ∷ _ ∷ []) behind h = let z : ⊥ = omega (arith, h) in absurd z
known (_ ∷ _ ∷ _ ∷ []) behind h = let z : ⊥ = omega (arith, h) in absurd z
known (_ ∷ _ ∷ []) behind h = let z : ⊥ = omega (arith, h) in absurd z
known (_ ∷ []) behind h = let z : ⊥ = omega (arith, h) in absurd z
known [] behind h = let z : ⊥ = omega (arith, h) in absurd z

first_long : (most : ℕ) (pieces : List Piece) → 4096 ≤ most → AllFit most pieces → length_at (octets_of pieces) ≤ most
first_long most [] big fit = omega arith
first_long most (Of g ∷ ps) big fit =
    let size : length (bytes_of g) ≡ length_at (bytes_of g ++ octets_of ps) = read_long (bytes_of g ++ octets_of ps) (frame_again g) (length (bytes_of g)) (frame_back g (octets_of ps) fit.0.0) in
    let fits : length (bytes_of g) ≤ most = fit.0.1 in
    omega (arith, size, fits)
first_long most (Beat ∷ ps) big fit = let size : length_at (around 8 0 [] ++ octets_of ps) ≡ 8 = refl in omega (arith, size, big)
first_long most (Notice b os ∷ ps) big fit =
    let size : length_at (os ++ octets_of ps) ≡ length os = long_more os (octets_of ps) fit.0.0.0 ∙ sym fit.0.0.3 in
    let fits : length os ≤ most = fit.0.1 in
    omega (arith, size, fits)

none_long : (most : ℕ) (came behind : List ℕ) (pieces : List Piece) → 4096 ≤ most → AllFit most pieces → came ++ behind ≡ octets_of pieces → most < length_at came → ⊥
none_long most came behind pieces big fit e long =
    let all : length_at (came ++ behind) ≡ length_at came = known came behind (omega (arith, long)) in
    let same : length_at (came ++ behind) ≡ length_at (octets_of pieces) = ap length_at e in
    let fits : length_at (octets_of pieces) ≤ most = first_long most pieces big fit in
    omega (arith, all, same, fits, long)

-- ---- what is handed to a client

module _ (n : ℕ) (acts : List Act) (x y : Net) (new : IsNewNet n x) (leads : Leads acts x y) (alive : 0 < y.client.left) (octets down : List ℕ) (is_down : y.down ≡ octets ++ down) (b e d : Client) (longer : IsLonger octets y.client b) (k : ℕ) (comes : ComeAll k b e) where
  by_last : (s : Status) → Turns s e d → AreRead s d
  by_last s turn =
      let g = run_is n acts x y new leads alive in
      let j : Joint World = machine_to n g.0 in
      let sound : Sound j = sound_run g.0 (new_joint (new_world n) n) (new_sound n new.large) in
      let between : Net = record { client = b; broker = y.broker; up = y.up; down = down; besides = y.besides } in
      let here : IsJoined n between j = longer_joined n y y j sound g.1.joined octets b down longer is_down in
      let first : GoesOn n [] (with_client e between) j = turns_go n k between j sound here e comes in
      let at : Joint World = run by_machine first.steps j in
      at_end at first.joined s turn
    where
      at_end : (at : Joint World) → IsJoined n (with_client e (record { client = b; broker = y.broker; up = y.up; down = down; besides = y.besides })) at → (s : Status) → Turns s e d → AreRead s d
      at_end at is status.Malformed t = absurd (none_malformed n e.came down is.down.written.pieces is.down.written.fit is.down.written.are t.0 t.1.0 t.1.1)
      at_end at is status.TooLong (inl t) = absurd (none_long n e.came down is.down.written.pieces new.large is.down.written.fit is.down.written.are (subst (λ m. m < length_at e.came) is.most t.0))
      at_end at is status.TooLong (inr t) = (e, t.0)
      at_end at is _ t = tt

pub all_read : (n : ℕ) (acts : List Act) → OctetsAreRead n acts
all_read n acts x y z octets s new leads alive does = by s does.0 does.3
  where
    by : (s : Status) → Receives s octets y.client z.client → y.down ≡ kept_by s octets ++ z.down → AreRead s z.client
    by status.Malformed h down = by_last n acts x y new leads alive octets z.down down h.0 h.1.1.1.0 z.client h.1.0 h.1.1.0 h.1.1.1.1.0 status.Malformed h.1.1.1.1.1
    by status.TooLong h down = by_last n acts x y new leads alive octets z.down down h.0 h.1.1.1.0 z.client h.1.0 h.1.1.0 h.1.1.1.1.0 status.TooLong h.1.1.1.1.1
    by _ h down = tt
