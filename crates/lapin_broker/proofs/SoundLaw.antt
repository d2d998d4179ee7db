-- The channel whose content is being read is open, whatever is read and sent.
use Rattle.std.proofs.Common.{◌≡◌, ℕ, ◌==◌, Bool, true, false, cond, ◌&&◌, List, [], ◌∷◌, ◌++◌, Option, Some, None, inl, inr, refl, sym, ◌∙◌, ap, subst, eq-eqb}
use Rattle.std.specs.Prelude.{is_some}
use Rattle.std.specs.Option.{option_map, option_or}
use Rattle.std.proofs.lemmas.Bool.{and_parts}
use Rattle.std.proofs.lemmas.Bool.Decides.{eqb_tells}
use Rattle.lapin_types.specs.Types.{Frame}
use Rattle.lapin_tables.specs.ByChannel.{at_channel, on_channel}
use Rattle.lapin_tables.proofs.Channels.{at-push, at-on_same, at-on_other}
use Rattle.lapin_broker.specs.declared.content.Content.{Content}
use Rattle.lapin_broker.specs.declared.content.Content.TheVariants as content
use Rattle.lapin_broker.specs.declared.frames.ClientFrame.{ClientFrame}
use Rattle.lapin_broker.specs.declared.frames.ClientFrame.TheVariants as client
use Rattle.lapin_broker.specs.declared.frames.BrokerFrame.{BrokerFrame}
use Rattle.lapin_broker.specs.declared.frames.BrokerFrame.TheVariants as broker
use Rattle.lapin_broker.specs.declared.peer.Peer.{Peer}
use Rattle.lapin_broker.specs.declared.peer.Peer.TheVariants as peer
use Rattle.lapin_broker.specs.declared.peer.Connection.TheVariants as connection
use Rattle.lapin_broker.specs.Contents.{is_idle}
use Rattle.lapin_broker.specs.Frames.{channel_of, tag_of, client_frame, broker_frame}
use Rattle.lapin_broker.specs.States.{Channel, Broker, channel_in, channel_at, with_channel, is_up, is_leaving, owes_connection}
use Rattle.lapin_broker.specs.Reads.{read, read_up, read_in, breaks_in, begins_in, content_after, admits, is_connection_close as client_closes, is_connection_close_ok as client_answers}
use Rattle.lapin_broker.specs.Sends.{may, may_sorted, may_in, send, send_sorted, send_on, after_send, after_own_close_ok, is_close, is_read_on, is_connection_close, is_connection_close_ok}
use Rattle.lapin_broker.specs.Sound.{IsReadOpen, IsSound}
use Rattle.lapin_broker.proofs.PlainMay.{of_if, apart_of}
use Rattle.lapin_tables.proofs.Bools.{same_number}

-- ---- Reads.

pub same_pair : (c : ℕ) (y : Channel) (es : List (ℕ × Channel)) (o : Option Channel) → at_channel c es ≡ o → at_channel c (cond (is_some o) (on_channel c (λ _. y) es) (es ++ (c, y) ∷ [])) ≡ Some y
same_pair c y es None h =
    let here : (c == c) ≡ true = eq-eqb c c refl in
    let last : option_or (at_channel c es) (cond (c == c) (Some y) None) ≡ Some y = rw (h, here) refl in
    at-push c c y es ∙ last
same_pair c y es (Some x) h = at-on_same c (λ _. y) es ∙ ap (option_map (λ _. y)) h

pub at_with : (c : ℕ) (y : Channel) (es : List (ℕ × Channel)) → at_channel c (with_channel c y es) ≡ Some y
at_with c y es = same_pair c y es (at_channel c es) refl

-- what begins a content leaves its channel open
begin_stays : (p : Peer) (u : ClientFrame) (f : Frame) (x : Channel) → x.peer ≡ p → begins_in p u ≡ true → (read_in p f x u).peer ≡ peer.Open
begin_stays peer.Open client.Publish f x is_open h = is_open
begin_stays _ _ f x is_open h = cc

read_sound : (b : Broker) (c : ℕ) (f : Frame) (u : ClientFrame) (r : Option (ℕ × Content)) → b.reading ≡ r → IsReadOpen b.channels r → IsSound (read_up r c f u b)
read_sound b c f u (Some r) e s =
    let before : IsReadOpen b.channels b.reading = subst (IsReadOpen b.channels) (sym e) s in
    of_if IsSound (r.0 == c) _ _
    (λ same. of_if IsSound (admits b.frame_max r.1 u) _ _
    (λ _. of_if IsSound (is_idle (content_after r.1 u)) _ _ (λ _. tt) (λ _. subst (λ d. (channel_at b d).peer ≡ peer.Open) (same_number r.0 c same) s))
    (λ _. before))
    (λ _. before)
read_sound b c f u None e s =
    let before : IsReadOpen b.channels b.reading = subst (IsReadOpen b.channels) (sym e) tt in
    let p : Peer = (channel_at b c).peer in
    let es : List (ℕ × Channel) = with_channel c (read_in p f (channel_at b c) u) b.channels in
    of_if IsSound (breaks_in p u) _ _ (λ _. before)
    (λ _. of_if (IsReadOpen es) (begins_in p u) (Some (c, content.Begun)) b.reading
    (λ begins. ap (λ o. (channel_in o).peer) (at_with c (read_in p f (channel_at b c) u) b.channels) ∙ begin_stays p u f (channel_at b c) refl begins)
    (λ _. subst (IsReadOpen es) (sym e) tt))

pub read_keeps : (b : Broker) (f : Frame) → IsSound b → IsSound (read b f)
read_keeps b f s =
    of_if IsSound (client_closes (client_frame f)) _ _ (λ _. s)
    (λ _. of_if IsSound (client_answers (client_frame f)) _ _ (λ _. s)
    (λ _. of_if IsSound (is_up b.connection) _ _ (λ _. read_sound b (channel_of f) f (client_frame f) b.reading refl s)
    (λ _. of_if IsSound (is_leaving b.connection) _ _ (λ _. s) (λ _. s))))

-- ---- Sends.

not_both : (a b : Bool) → (a && b) ≡ false → b ≡ true → a ≡ false
not_both true b h holds = absurd (apart_of b holds h)
not_both false b h holds = refl

-- an open channel stays open, but by its close
still_open : (x : Channel) (t : List ℕ) (d : BrokerFrame) → x.peer ≡ peer.Open → may_in peer.Open x t d ≡ true → is_close d ≡ false → (after_send t d x).peer ≡ peer.Open
still_open x t broker.Close is_open m h = cc
still_open x t broker.CloseOk is_open m h = let wrong : false ≡ true = (and_parts (is_idle x.sending) false m).1 in cc
still_open x t broker.OpenOk is_open m h = refl
still_open x t _ is_open m h = is_open

here_open : (t : List ℕ) (d : BrokerFrame) (o : Option Channel) → (channel_in o).peer ≡ peer.Open → may_in (channel_in o).peer (channel_in o) t d ≡ true → is_close d ≡ false → (channel_in (option_map (after_send t d) o)).peer ≡ peer.Open
here_open t d None is_open m h = cc
here_open t d (Some x) is_open m h = still_open x t d is_open (subst (λ p. may_in p x t d ≡ true) is_open m) h

send_sound : (b : Broker) (c : ℕ) (t : List ℕ) (d : BrokerFrame) (r : Option (ℕ × Content)) → IsReadOpen b.channels r → may_in (channel_at b c).peer (channel_at b c) t d ≡ true → IsReadOpen (on_channel c (after_send t d) b.channels) (cond (is_close d && is_read_on c r) None r)
send_sound b c t d None s m = of_if (IsReadOpen (on_channel c (after_send t d) b.channels)) (is_close d && false) None None (λ _. tt) (λ _. tt)
send_sound b c t d (Some r) s m =
    of_if (IsReadOpen (on_channel c (after_send t d) b.channels)) (is_close d && (r.0 == c)) None (Some r) (λ _. tt)
    (λ stays. elim (eqb_tells r.0 c) [
      | inl y ↦
          let p : (channel_in (at_channel c b.channels)).peer ≡ peer.Open = subst (λ e. (channel_in (at_channel e b.channels)).peer ≡ peer.Open) y.1 s in
          let q : (channel_in (at_channel c (on_channel c (after_send t d) b.channels))).peer ≡ peer.Open =
          ap (λ o. (channel_in o).peer) (at-on_same c (after_send t d) b.channels) ∙ here_open t d (at_channel c b.channels) p m (not_both (is_close d) (r.0 == c) stays y.0) in
          subst (λ e. (channel_in (at_channel e (on_channel c (after_send t d) b.channels))).peer ≡ peer.Open) (sym y.1) q
      | inr n ↦ ap (λ o. (channel_in o).peer) (at-on_other c r.0 (after_send t d) b.channels (λ same. n.1 (sym same))) ∙ s
    ])

-- what is sent on a channel, while the connection is up
abbrev channel_sent : ℕ → List ℕ → BrokerFrame → Broker → Broker
channel_sent c t d b = record (send_on c t d b) { reading = cond (is_close d && is_read_on c b.reading) None b.reading }

abbrev channel_may : ℕ → List ℕ → BrokerFrame → Broker → Bool
channel_may c t d b = is_up b.connection && may_in (channel_at b c).peer (channel_at b c) t d

abbrev answered : Broker → Broker
answered b = record b { connection = after_own_close_ok b.connection }

not_close : (b : Broker) (c : ℕ) (t : List ℕ) (d : BrokerFrame) → IsSound b → cond (is_connection_close_ok d) (owes_connection b.connection) (channel_may c t d b) ≡ true → IsSound (cond (is_connection_close_ok d) (answered b) (channel_sent c t d b))
not_close b c t d s =
    elim (is_connection_close_ok d) as (λ v. cond v (owes_connection b.connection) (channel_may c t d b) ≡ true → IsSound (cond v (answered b) (channel_sent c t d b)))
    [ true ↦ λ m. s | false ↦ λ m. send_sound b c t d b.reading s (and_parts (is_up b.connection) _ m).1 ]

send_sorted_keeps : (b : Broker) (c : ℕ) (t : List ℕ) (d : BrokerFrame) → IsSound b → may_sorted c t d b ≡ true → IsSound (send_sorted c t d b)
send_sorted_keeps b c t d s =
    elim (is_connection_close d) as (λ v. cond v (is_up b.connection) (cond (is_connection_close_ok d) (owes_connection b.connection) (channel_may c t d b)) ≡ true → IsSound (cond v (record b { connection = connection.Stopped }) (cond (is_connection_close_ok d) (answered b) (channel_sent c t d b))))
    [ true ↦ λ m. s | false ↦ λ m. not_close b c t d s m ]

pub send_keeps : (b : Broker) (f : Frame) → may b f ≡ true → IsSound b → IsSound (send b f)
send_keeps b f m s = send_sorted_keeps b (channel_of f) (tag_of f) (broker_frame f) s m
