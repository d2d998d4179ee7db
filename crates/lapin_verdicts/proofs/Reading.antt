-- A frame that the broker reads: what it keeps of the channel is still what the tally says.
use Rattle.std.proofs.Common.{◌≡◌, ◌∙◌, ℕ, ◌==◌, Bool, true, false, cond, List, [], ◌∷◌, ◌++◌, length, Option, Some, None, inl, inr, refl, sym, ap, subst, eq-eqb}
use Rattle.std.specs.Option.{option_map, option_or}
use Rattle.std.proofs.lemmas.Bool.Decides.{eqb_tells}
use Rattle.lapin_types.specs.Types.{Frame}
use Rattle.lapin_tables.specs.ByChannel.{at_channel, on_channel as on_table}
use Rattle.lapin_tables.proofs.Channels.{at-push, at-on_same, at-on_other, or-none}
use Rattle.lapin_broker.specs.declared.content.Content.{Content}
use Rattle.lapin_broker.specs.declared.content.Content.TheVariants as content
use Rattle.lapin_broker.specs.declared.frames.ClientFrame.{ClientFrame}
use Rattle.lapin_broker.specs.declared.frames.ClientFrame.TheVariants as client
use Rattle.lapin_broker.specs.declared.peer.Peer.{Peer}
use Rattle.lapin_broker.specs.declared.peer.Peer.TheVariants as peer
use Rattle.lapin_broker.specs.declared.peer.Connection.{Connection}
use Rattle.lapin_broker.specs.declared.peer.Connection.TheVariants as connection
use Rattle.lapin_broker.specs.Contents.{is_idle}
use Rattle.lapin_broker.specs.Frames.{channel_of, client_frame}
use Rattle.lapin_broker.specs.States.{Channel, Broker, free_channel, channel_in, channel_at, with_channel, is_up, is_leaving, after_break}
use Rattle.lapin_broker.specs.Reads.{read, read_up, read_channel, with_piece, number_on, read_in, read_open, breaks_in, breaks_open, begins_in, is_publish, content_after, admits, with_next_number, is_connection_close, is_connection_close_ok, after_client_close, after_client_close_ok}
use Rattle.lapin_broker.specs.Sends.{is_read_on}
use Rattle.lapin_verdicts.specs.Publishes.{Coming, Idle, Tally, tally_after}
use Rattle.lapin_verdicts.specs.Session.{told, next_tally}
use Rattle.lapin_verdicts.proofs.Sorting.{Sorts, sorted}
use Rattle.lapin_verdicts.proofs.Counting.{AlongAt, IsAlong, IsPart, Counts, Fits, PieceFits, piece}
use Rattle.lapin_tables.proofs.Bools.{not_both}
use Rattle.lapin_broker.proofs.SoundLaw.{same_pair, at_with}
use Rattle.lapin_concord.proofs.Sides.{at_away}

-- ---- one channel on which nothing is being read

-- what the channel comes to, and what is being read on it then
abbrev Goes : ℕ → Channel → Bool → Tally → Type 0
Goes c x begins y = Fits x.peer c (cond begins (Some (c, content.Begun)) None) x y

begun_along : (c : ℕ) (co : Coming) → IsPart content.Begun co → IsAlong c (Some (c, content.Begun)) co
begun_along c co b = rw (eq-eqb c c refl) b

open_goes : (c : ℕ) (f : Frame) (u : ClientFrame) (x : Channel) (y : Tally) → x.peer ≡ peer.Open → Counts x y → y.coming ≡ Idle → breaks_open u ≡ false → Sorts u f y → Goes c (read_open f x u) (is_publish u) (told f y)
open_goes c f client.Publish x y e k i h (o, b, s, n) = rw (e, o) (record { selected = k.selected ∙ sym s; numbers = k.numbers ∙ ap length (sym n) }, begun_along c (tally_after y f).coming b)
open_goes c f (client.Select true) x y e k i h (o, t) = rw (e, o, t) (record { selected = refl; numbers = k.numbers }, i)
open_goes c f (client.Select false) x y e k i h (o, t) = rw (e, o, t) (record { selected = refl; numbers = k.numbers }, i)
open_goes c f (client.Ask r) x y e k i h (o, t) = rw (e, o, t) (record { selected = k.selected; numbers = k.numbers }, i)
open_goes c f client.Consume x y e k i h (o, t) = rw (e, o, t) (record { selected = k.selected; numbers = k.numbers }, i)
open_goes c f client.Cancel x y e k i h (o, t) = rw (e, o, t) (record { selected = k.selected; numbers = k.numbers }, i)
open_goes c f client.Tell x y e k i h (o, t) = rw (e, o, t) (record { selected = k.selected; numbers = k.numbers }, i)
open_goes c f client.Close x y e k i h (o, t) = rw (o, t) (record { selected = k.selected; numbers = k.numbers }, refl)
open_goes c f _ x y e k i h s = absurd cc

free_goes : (c : ℕ) (f : Frame) (u : ClientFrame) (x : Channel) (y : Tally) → x ≡ free_channel → breaks_in peer.Free u ≡ false → Sorts u f y → Goes c (read_in peer.Free f x u) false (told f y)
free_goes c f client.Open x y e h o = rw (e, o) (refl, refl, refl)
free_goes c f _ x y e h s = absurd cc

stopping_goes : (c : ℕ) (f : Frame) (u : ClientFrame) (x : Channel) (y : Tally) → x.peer ≡ peer.Stopping → Goes c (read_in peer.Stopping f x u) false y
stopping_goes c f client.Close x y e = refl
stopping_goes c f client.CloseOk x y e = (refl, refl)
stopping_goes c f _ x y e = rw e refl

owing_goes : (c : ℕ) (f : Frame) (u : ClientFrame) (x : Channel) (y : Tally) → x.peer ≡ peer.StoppingOwes → Goes c (read_in peer.StoppingOwes f x u) false y
owing_goes c f client.CloseOk x y e = refl
owing_goes c f _ x y e = rw e refl

pub here_goes : (p : Peer) (c : ℕ) (f : Frame) (u : ClientFrame) (x : Channel) (y : Tally) → x.peer ≡ p → Fits p c None x y → breaks_in p u ≡ false → Sorts u f y → Goes c (read_in p f x u) (begins_in p u) (told f y)
here_goes peer.Free c f u x y e t h s = free_goes c f u x y t.0 h s
here_goes peer.Asked c f u x y e t h s = absurd cc
here_goes peer.Open c f u x y e t h s = open_goes c f u x y e t.0 t.1 h s
here_goes peer.Leaving c f u x y e t h s = absurd cc
here_goes peer.Stopping c f u x y e t h s = stopping_goes c f u x (told f y) e
here_goes peer.StoppingOwes c f u x y e t h s = owing_goes c f u x (told f y) e
here_goes peer.StoppingAnswered c f u x y e t h s = rw e refl

-- ---- the broker

-- what it keeps of the channel, while it is up
abbrev pub Keeps : ℕ → Broker → Tally → Type 0
Keeps c b y = is_up b.connection ≡ true → Fits (channel_at b c).peer c b.reading (channel_at b c) y

at_apart : (c d : ℕ) (x : Channel) (es : List (ℕ × Channel)) (b : Bool) → (c == d) ≡ false → at_channel d (cond b (on_table c (λ _. x) es) (es ++ (c, x) ∷ [])) ≡ at_channel d es
at_apart c d x es true h = at-on_other c d (λ _. x) es (λ e. let z : (c == d) ≡ true = eq-eqb c d e in let w : true ≡ false = sym z ∙ h in cc)
at_apart c d x es false h = at-push c d x es ∙ (let same : option_or (at_channel d es) (cond (c == d) (Some x) None) ≡ at_channel d es = rw h (or-none (at_channel d es)) in same)

pub of_if : {A : Type 0} (P : A → Type 0) (b : Bool) (x y : A) → (b ≡ true → P x) → (b ≡ false → P y) → P (cond b x y)
of_if P true x y holds fails = holds refl
of_if P false x y holds fails = fails refl

-- what is read elsewhere is nothing here
along_idle : (c : ℕ) (r : Option (ℕ × Content)) (co : Coming) → is_read_on c r ≡ false → IsAlong c r co → co ≡ Idle
along_idle c None co h a = a
along_idle c (Some r) co h a = subst (λ b. AlongAt b r.1 co) h a

idle_along : (c : ℕ) (r : Option (ℕ × Content)) (co : Coming) → is_read_on c r ≡ false → co ≡ Idle → IsAlong c r co
idle_along c None co h i = i
idle_along c (Some r) co h i = subst (λ b. AlongAt b r.1 co) (sym h) i

pub elsewhere : (p : Peer) (c : ℕ) (r r' : Option (ℕ × Content)) (x : Channel) (y : Tally) → is_read_on c r ≡ false → is_read_on c r' ≡ false → Fits p c r x y → Fits p c r' x y
elsewhere peer.Free c r r' x y off off' t = (t.0, off')
elsewhere peer.Asked c r r' x y off off' t = (t.0, off', t.2)
elsewhere peer.Open c r r' x y off off' t = (t.0, idle_along c r' y.coming off' (along_idle c r y.coming off t.1))
elsewhere peer.Leaving c r r' x y off off' t = (t.0, off')
elsewhere peer.Stopping c r r' x y off off' t = off'
elsewhere peer.StoppingOwes c r r' x y off off' t = off'
elsewhere peer.StoppingAnswered c r r' x y off off' t = off'

-- the channel whose content is being read is open
record Reads (p : Peer) (r : Content) (x : Channel) (y : Tally) : Type 0 where
  pub is_open : p ≡ peer.Open
  pub counts : Counts x y
  pub part : IsPart r y.coming

reading_open : (p : Peer) (c : ℕ) (r : ℕ × Content) (x : Channel) (y : Tally) → (r.0 == c) ≡ true → Fits p c (Some r) x y → Reads p r.1 x y
reading_open peer.Free c r x y on t = absurd (not_both _ on t.1)
reading_open peer.Asked c r x y on t = absurd (not_both _ on t.1)
reading_open peer.Open c r x y on t = record { is_open = refl; counts = t.0; part = subst (λ b. AlongAt b r.1 y.coming) on t.1 }
reading_open peer.Leaving c r x y on t = absurd (not_both _ on t.1)
reading_open peer.Stopping c r x y on t = absurd (not_both _ on t)
reading_open peer.StoppingOwes c r x y on t = absurd (not_both _ on t)
reading_open peer.StoppingAnswered c r x y on t = absurd (not_both _ on t)

numbered_peer : (b : Bool) (x : Channel) → (cond b (record x { numbers = x.numbers ++ Some tt ∷ [] }) x).peer ≡ x.peer
numbered_peer true x = refl
numbered_peer false x = refl

-- the piece came: whole, or not yet
whole_here : (c : ℕ) (y' : Tally) (es : List (ℕ × Channel)) (o : Option Channel) → at_channel c es ≡ o → (channel_in o).peer ≡ peer.Open → Counts (with_next_number (channel_in o)) y' → y'.coming ≡ Idle → Fits (channel_in (at_channel c (on_table c with_next_number es))).peer c None (channel_in (at_channel c (on_table c with_next_number es))) y'
whole_here c y' es None e p k i = absurd cc
whole_here c y' es (Some x) e p k i =
    let there : at_channel c (on_table c with_next_number es) ≡ Some (with_next_number x) = at-on_same c with_next_number es ∙ ap (option_map with_next_number) e in
    let stays : (with_next_number x).peer ≡ peer.Open = numbered_peer x.selected x ∙ p in
    subst (λ v. Fits (channel_in v).peer c None (channel_in v) y') (sym there) (subst (λ q. Fits q c None (with_next_number x) y') (sym stays) (k, i))

piece_here : (c : ℕ) (r : ℕ × Content) (f : Frame) (u : ClientFrame) (b : Broker) (y : Tally) → (r.0 == c) ≡ true → Fits (channel_at b c).peer c (Some r) (channel_at b c) y → admits b.frame_max r.1 u ≡ true → Sorts u f y → Keeps c (with_piece c (content_after r.1 u) b) (told f y)
piece_here c r f u b y on t a s up =
    let h = reading_open (channel_at b c).peer c r (channel_at b c) y on t in
    let q = piece b.frame_max r.1 u f (channel_at b c) y h.counts h.part a s in
    let to : told f y ≡ tally_after y f = rw q.0 refl in
    let P : Tally → Type 0 = λ z. Fits (channel_at (with_piece c (content_after r.1 u) b) c).peer c (with_piece c (content_after r.1 u) b).reading (channel_at (with_piece c (content_after r.1 u) b) c) z in
    let Q : Bool → Type 0 = λ v. PieceFits v (content_after r.1 u) (channel_at b c) (tally_after y f) in
    let B : Bool → Broker = λ v. cond v (record (number_on c b) { reading = None }) (record b { reading = Some (c, content_after r.1 u) }) in
    let G : Bool → Type 0 = λ v. Q v → Fits (channel_at (B v) c).peer c (B v).reading (channel_at (B v) c) (tally_after y f) in
    let done : G (is_idle (content_after r.1 u)) = elim (is_idle (content_after r.1 u)) as G [
      | true ↦ λ z. whole_here c (tally_after y f) b.channels (at_channel c b.channels) refl h.is_open z.0 z.1
      | false ↦ λ z. subst (λ p. Fits p c (Some (c, content_after r.1 u)) (channel_at b c) (tally_after y f)) (sym h.is_open) (z.0, subst (λ v. AlongAt v (content_after r.1 u) (tally_after y f).coming) (sym (eq-eqb c c refl)) z.1)
    ] in
    subst P (sym to) (done q.1)

piece_apart : (c d : ℕ) (r : ℕ × Content) (x : Content) (b : Broker) (y : Tally) → (d == c) ≡ false → (r.0 == c) ≡ false → Fits (channel_at b c).peer c (Some r) (channel_at b c) y → Keeps c (with_piece d x b) y
piece_apart c d r x b y off off' t up = elim (is_idle x) as (λ v. let B : Broker = cond v (record (number_on d b) { reading = None }) (record b { reading = Some (d, x) }) in Fits (channel_at B c).peer c B.reading (channel_at B c) y) [
  | true ↦
      let same : at_channel c (on_table d with_next_number b.channels) ≡ at_channel c b.channels = at-on_other d c with_next_number b.channels (λ e. not_both (d == c) (eq-eqb d c e) off) in
      subst (λ v. Fits (channel_in v).peer c None (channel_in v) y) (sym same) (elsewhere _ c (Some r) None _ y off' refl t)
  | false ↦ elsewhere _ c (Some r) (Some (d, x)) _ y off' off t
]

-- ---- one frame

broken : (c : ℕ) (b : Broker) (y : Tally) → is_up b.connection ≡ false → Keeps c b y
broken c b y h up = absurd (not_both _ up h)

up_keeps : (c d : ℕ) (f : Frame) (u : ClientFrame) (b : Broker) (y : Tally) (o : Option (ℕ × Content)) → b.reading ≡ o → is_up b.connection ≡ true → Keeps c b y → Sorts u f y → Keeps c (read_up o d f u b) (cond (d == c) (told f y) y)
up_keeps c d f u b y (Some r) e up k s =
    let t : Fits (channel_at b c).peer c (Some r) (channel_at b c) y = subst (λ v. Fits (channel_at b c).peer c v (channel_at b c) y) e (k up) in
    of_if (λ v. Keeps c v (cond (d == c) (told f y) y)) (r.0 == d) _ _
    (λ here. of_if (λ v. Keeps c v (cond (d == c) (told f y) y)) (admits b.frame_max r.1 u) _ _
    (λ a. elim (eqb_tells d c) [
      | inl z ↦
          let on : (r.0 == c) ≡ true = subst (λ v. (r.0 == v) ≡ true) z.1 here in
          let K : ℕ → Type 0 = λ v. Keeps c (with_piece v (content_after r.1 u) b) (told f y) in
          rw z.0 (subst K (sym z.1) (piece_here c r f u b y on t a s))
      | inr z ↦
          let same : r.0 ≡ d = elim (eqb_tells r.0 d) [ inl w ↦ w.1 | inr w ↦ absurd (not_both _ here w.0) ] in
          let off : (r.0 == c) ≡ false = subst (λ v. (v == c) ≡ false) (sym same) z.0 in
          rw z.0 (piece_apart c d r (content_after r.1 u) b y z.0 off t)
    ])
    (λ _. broken c (after_break b) _ refl))
    (λ _. broken c (after_break b) _ refl)
up_keeps c d f u b y None e up k s =
    let t : Fits (channel_at b c).peer c None (channel_at b c) y = subst (λ v. Fits (channel_at b c).peer c v (channel_at b c) y) e (k up) in
    of_if (λ v. Keeps c v (cond (d == c) (told f y) y)) (breaks_in (channel_at b d).peer u) _ _ (λ _. broken c (after_break b) _ refl)
    (λ goes. elim (eqb_tells d c) [
      | inl z ↦
          let goes' : breaks_in (channel_at b c).peer u ≡ false = subst (λ v. breaks_in (channel_at b v).peer u ≡ false) z.1 goes in
          let x' : Channel = read_in (channel_at b c).peer f (channel_at b c) u in
          let g = here_goes (channel_at b c).peer c f u (channel_at b c) y refl t goes' s in
          let at : at_channel c (with_channel c x' b.channels) ≡ Some x' = at_with c x' b.channels in
          let K : ℕ → Type 0 = λ v. Keeps c (record (read_channel v f u b) { reading = cond (begins_in (channel_at b v).peer u) (Some (v, content.Begun)) b.reading }) (told f y) in
          let here : K c = λ _. rw e (subst (λ v. Fits (channel_in v).peer c (cond (begins_in (channel_at b c).peer u) (Some (c, content.Begun)) None) (channel_in v) (told f y)) (sym at) g) in
          rw z.0 (subst K (sym z.1) here)
      | inr z ↦
          let x' : Channel = read_in (channel_at b d).peer f (channel_at b d) u in
          let same : at_channel c (with_channel d x' b.channels) ≡ at_channel c b.channels = at_away d c x' b.channels z.0 in
          let off : (v : Bool) → is_read_on c (cond v (Some (d, content.Begun)) None) ≡ false = λ v. elim v as (λ v. is_read_on c (cond v (Some (d, content.Begun)) None) ≡ false) [ true ↦ z.0 | false ↦ refl ] in
          rw z.0 (λ _. rw e (subst (λ v. Fits (channel_in v).peer c (cond (begins_in (channel_at b d).peer u) (Some (d, content.Begun)) None) (channel_in v) y) (sym same) (elsewhere _ c None _ _ y refl (off (begins_in (channel_at b d).peer u)) t)))
    ])

pub closed_down : (k : Connection) → is_up (after_client_close k) ≡ false
closed_down connection.Up = refl
closed_down connection.Leaving = refl
closed_down connection.LeavingStopped = refl
closed_down connection.Stopped = refl
closed_down connection.StoppedOwes = refl
closed_down connection.Done = refl
closed_down connection.Broken = refl

pub answered_down : (k : Connection) → is_up (after_client_close_ok k) ≡ false
answered_down connection.Up = refl
answered_down connection.Leaving = refl
answered_down connection.LeavingStopped = refl
answered_down connection.Stopped = refl
answered_down connection.StoppedOwes = refl
answered_down connection.Done = refl
answered_down connection.Broken = refl

pub read_keeps : (c : ℕ) (f : Frame) (b : Broker) (y : Tally) → Keeps c b y → Keeps c (read b f) (next_tally c f y)
read_keeps c f b y k =
    let P : Broker → Type 0 = λ v. Keeps c v (next_tally c f y) in
    of_if P (is_connection_close (client_frame f)) _ _ (λ _. broken c (record b { connection = after_client_close b.connection }) _ (closed_down b.connection))
    (λ _. of_if P (is_connection_close_ok (client_frame f)) _ _ (λ _. broken c (record b { connection = after_client_close_ok b.connection }) _ (answered_down b.connection))
    (λ _. of_if P (is_up b.connection) _ _ (λ up. up_keeps c (channel_of f) f (client_frame f) b y b.reading refl up k (sorted f y))
    (λ down. of_if P (is_leaving b.connection) _ _ (λ _. broken c (after_break b) _ refl) (λ _. broken c b _ down))))
