-- What a channel of a broker is after a frame: free, or with the numbers that it had, or with one more.
use Rattle.std.proofs.Common.{◌≡◌, ◌≢◌, ◌⊎◌, ℕ, zero, suc, ◌==◌, Bool, true, false, true≢false, ◌&&◌, cond, List, [], ◌∷◌, ◌++◌, length, Option, Some, None, refl, sym, ap, subst, ◌∙◌, inl, inr, ne_eqb}
use Rattle.std.specs.Prelude.{is_some}
use Rattle.std.specs.Option.{option_map, option_or}
use Rattle.lapin_types.specs.Types.{Frame}
use Rattle.lapin_types.specs.Types.frame
use Rattle.lapin_types.specs.Types.method
use Rattle.lapin_types.specs.Types.basic
use Rattle.lapin_tables.specs.ByChannel.{at_channel, on_channel}
use Rattle.lapin_tables.proofs.Channels.{at-push, at-on_same, at-on_other, or-none}
use Rattle.lapin_tables.proofs.SlotLaws.{length-with}
use Rattle.lapin_broker.specs.declared.content.Content.{Content}
use Rattle.lapin_broker.specs.declared.frames.ClientFrame.{ClientFrame}
use Rattle.lapin_broker.specs.declared.frames.ClientFrame.TheVariants as client
use Rattle.lapin_broker.specs.declared.frames.BrokerFrame.{BrokerFrame}
use Rattle.lapin_broker.specs.declared.frames.BrokerFrame.TheVariants as broker
use Rattle.lapin_broker.specs.declared.peer.Peer.{Peer}
use Rattle.lapin_broker.specs.declared.peer.Peer.TheVariants as peer
use Rattle.lapin_broker.specs.Contents.{is_idle}
use Rattle.lapin_broker.specs.Frames.{channel_of, tag_of, client_frame, broker_frame}
use Rattle.lapin_broker.specs.Numbers.{settled_through, after_settlement}
use Rattle.lapin_broker.specs.States.{Channel, Broker, free_channel, channel_in, channel_at, with_channel, is_up, is_leaving, state_of_peer}
use Rattle.lapin_broker.specs.Reads as reads
use Rattle.lapin_broker.specs.Reads.{read, read_in, read_open, read_up, number_on, with_next_number, content_after, admits, breaks_in}
use Rattle.lapin_broker.specs.Sends as sends
use Rattle.lapin_broker.specs.Sends.{may, may_in, send, after_send}
use Rattle.lapin_check.specs.declared.seen.Settlement.{Settlement}
use Rattle.lapin_check.specs.Openings.{is_free, opens}
use Rattle.lapin_check.specs.Settlements.{settlement_in}
use Rattle.lapin_broker.proofs.SoundLaw.{same_pair}

-- the channel is free
abbrev pub rests : Channel → Bool
rests x = is_free (state_of_peer x.peer)

-- ---- A channel among the others.

with-other : (c d : ℕ) (y : Channel) (es : List (ℕ × Channel)) (b : Bool) → c ≢ d → at_channel d (cond b (on_channel c (λ _. y) es) (es ++ (c, y) ∷ [])) ≡ at_channel d es
with-other c d y es true apart = at-on_other c d (λ _. y) es apart
with-other c d y es false apart =
    let none : option_or (at_channel d es) (cond (c == d) (Some y) None) ≡ at_channel d es = rw (ne_eqb c d apart) (or-none (at_channel d es)) in
    at-push c d y es ∙ none

-- ---- Reads.

module _ (f : Frame) (b : Broker) where
  abbrev c : ℕ
  c = channel_of f

  abbrev u : ClientFrame
  u = client_frame f

  abbrev x : Channel
  x = channel_at b c

  -- Of the channels after a frame was read holds what holds where none changed, where a publish came whole, and where the frame's
  -- channel read it while the connection was up.
  abbrev Each : (List (ℕ × Channel) → Type 0) → Type 0
  Each P = P b.channels → P (on_channel c with_next_number b.channels) → (is_up b.connection ≡ true → P (with_channel c (read_in x.peer f x u) b.channels)) → P (read b f).channels

  choose : (P : List (ℕ × Channel) → Type 0) (t : Bool) (y z : Broker) → (t ≡ true → P y.channels) → (t ≡ false → P z.channels) → P (cond t y z).channels
  choose P true y z one other = one refl
  choose P false y z one other = other refl

  pub read_each : (P : List (ℕ × Channel) → Type 0) → Each P
  read_each P same whole reads_it =
      choose P (reads.is_connection_close u) _ _ (λ _. same)
      (λ _. choose P (reads.is_connection_close_ok u) _ _ (λ _. same)
      (λ _. choose P (is_up b.connection) _ _ (λ up. up_each b.reading (reads_it up)) (λ _. choose P (is_leaving b.connection) _ _ (λ _. same) (λ _. same))))
    where
      piece : (t : Bool) (y : Content) → P (cond t (record (number_on c b) { reading = None }) (record b { reading = Some (c, y) })).channels
      piece true y = whole
      piece false y = same

      up_each : (r : Option (ℕ × Content)) → P (with_channel c (read_in x.peer f x u) b.channels) → P (read_up r c f u b).channels
      up_each (Some r) reads_now =
          choose P (r.0 == c) _ _
          (λ _. choose P (admits b.frame_max r.1 u) _ _ (λ _. piece (is_idle (content_after r.1 u)) (content_after r.1 u)) (λ _. same))
          (λ _. same)
      up_each None reads_now = choose P (breaks_in x.peer u) _ _ (λ _. same) (λ _. reads_now)

  -- other channels stay
  pub read_other : (d : ℕ) → c ≢ d → channel_at (read b f) d ≡ channel_at b d
  read_other d apart =
      ap channel_in
      (read_each (λ es. at_channel d es ≡ at_channel d b.channels) refl (at-on_other c d with_next_number b.channels apart) (λ up. with-other c d _ b.channels (is_some (at_channel c b.channels)) apart))

  -- ---- the frame's own channel

  -- it is free
  abbrev IsFreed : Channel → Type 0
  IsFreed y = y ≡ free_channel

  -- it wasn't free and isn't, and its numbers are these
  pub record Holds (ns : List (Option (Unit {0}))) (y : Channel) : Type 0 where
    pub before : rests x ≡ false
    pub after : rests y ≡ false
    pub numbers : y.numbers ≡ ns

  -- it was opened, and has no number yet
  pub record IsOpened (y : Channel) : Type 0 where
    pub opened : opens b f ≡ true
    pub after : rests y ≡ false
    pub numbers : y.numbers ≡ []

  abbrev pub Moves : Channel → Type 0
  Moves y = IsFreed y ⊎ (Holds x.numbers y ⊎ (Holds (x.numbers ++ Some tt ∷ []) y ⊎ IsOpened y))

  -- a free channel keeps nothing
  module _ (free : rests x ≡ true → x ≡ free_channel) where
    stays : Moves x
    stays = at (rests x) refl
      where
        at : (t : Bool) → rests x ≡ t → Moves x
        at true is = inl (free is)
        at false is = inr (inl (record { before = is; after = is; numbers = refl }))

    -- the same channel with other fields
    held : (y : Channel) → y.peer ≡ x.peer → y.numbers ≡ x.numbers → rests x ≡ false → Moves y
    held y same numbers busy = inr (inl (record { before = busy; after = ap (λ p. is_free (state_of_peer p)) same ∙ busy; numbers = numbers }))

    numbered_one : Moves (with_next_number x)
    numbered_one = at (rests x) x.selected refl refl
      where
        at : (t s : Bool) → rests x ≡ t → x.selected ≡ s → Moves (with_next_number x)
        at true s is select = inl (ap with_next_number (free is))
        at false true is select = inr (inr (inl (record { before = is; after = chosen select ∙ is; numbers = taken select })))
          where
            chosen : x.selected ≡ true → rests (with_next_number x) ≡ rests x
            chosen e = rw e refl

            taken : x.selected ≡ true → (with_next_number x).numbers ≡ x.numbers ++ Some tt ∷ []
            taken e = rw e refl
        at false false is select = inr (inl (record { before = is; after = chosen select ∙ is; numbers = taken select }))
          where
            chosen : x.selected ≡ false → rests (with_next_number x) ≡ rests x
            chosen e = rw e refl

            taken : x.selected ≡ false → (with_next_number x).numbers ≡ x.numbers
            taken e = rw e refl

    number_at : (o : Option Channel) → at_channel c b.channels ≡ o → Moves (channel_in (option_map with_next_number o))
    number_at None is = inl refl
    number_at (Some y) is = subst (λ (z : Channel). Moves (with_next_number z)) (ap channel_in is) numbered_one

    busy_of : (p : Peer) → x.peer ≡ p → is_free (state_of_peer p) ≡ false → rests x ≡ false
    busy_of p is busy = ap (λ q. is_free (state_of_peer q)) is ∙ busy

    open_moves : x.peer ≡ peer.Open → (v : ClientFrame) → Moves (read_open f x v)
    open_moves is (client.Select true) = held (read_open f x (client.Select true)) refl refl (busy_of peer.Open is refl)
    open_moves is (client.Select false) = held (read_open f x (client.Select false)) refl refl (busy_of peer.Open is refl)
    open_moves is (client.Ask k) = held (read_open f x (client.Ask k)) refl refl (busy_of peer.Open is refl)
    open_moves is client.Consume = held (read_open f x client.Consume) refl refl (busy_of peer.Open is refl)
    open_moves is client.Cancel = held (read_open f x client.Cancel) refl refl (busy_of peer.Open is refl)
    open_moves is client.Close = inr (inl (record { before = busy_of peer.Open is refl; after = refl; numbers = refl }))
    open_moves is _ = held x refl refl (busy_of peer.Open is refl)

    stopping_moves : x.peer ≡ peer.Stopping → (v : ClientFrame) → Moves (reads.read_stopping x v)
    stopping_moves is client.Close = inr (inl (record { before = busy_of peer.Stopping is refl; after = refl; numbers = refl }))
    stopping_moves is client.CloseOk = inl refl
    stopping_moves is _ = held x refl refl (busy_of peer.Stopping is refl)

    owing_moves : x.peer ≡ peer.StoppingOwes → (v : ClientFrame) → Moves (reads.read_owing x v)
    owing_moves is client.CloseOk = inr (inl (record { before = busy_of peer.StoppingOwes is refl; after = refl; numbers = refl }))
    owing_moves is _ = held x refl refl (busy_of peer.StoppingOwes is refl)

    free_moves : x.peer ≡ peer.Free → is_up b.connection ≡ true → (t : Bool) → reads.is_open u ≡ t → Moves (cond t (record x { peer = peer.Asked }) x)
    free_moves is up true asks =
        let at_rest : rests x ≡ true = ap (λ q. is_free (state_of_peer q)) is in
        inr (inr (inr (record { opened = all_true (reads.is_open u) (is_up b.connection) (rests x) asks up at_rest; after = refl; numbers = ap (λ (y : Channel). y.numbers) (free at_rest) })))
      where
        all_true : (p q r : Bool) → p ≡ true → q ≡ true → r ≡ true → p && q && r ≡ true
        all_true p q r a e i = rw (a, e, i) refl
    free_moves is up false asks = stays

    in_moves : is_up b.connection ≡ true → (p : Peer) → x.peer ≡ p → Moves (read_in p f x u)
    in_moves up peer.Free is = free_moves is up (reads.is_open u) refl
    in_moves up peer.Open is = open_moves is u
    in_moves up peer.Stopping is = stopping_moves is u
    in_moves up peer.StoppingOwes is = owing_moves is u
    in_moves up peer.Asked is = stays
    in_moves up peer.Leaving is = stays
    in_moves up peer.StoppingAnswered is = stays

    pub read_moves : Moves (channel_at (read b f) c)
    read_moves =
        read_each (λ es. Moves (channel_in (at_channel c es)))
        stays
        (subst (λ (o : Option Channel). Moves (channel_in o)) (sym (at-on_same c with_next_number b.channels)) (number_at (at_channel c b.channels) refl))
        (λ up. subst (λ (o : Option Channel). Moves (channel_in o)) (sym (same_pair c (read_in x.peer f x u) b.channels (at_channel c b.channels) refl)) (in_moves up x.peer refl))

-- ---- Sends.

length-through : {X : Type 0} (n : ℕ) (xs : List (Option X)) → length (settled_through n xs) ≡ length xs
length-through zero xs = refl
length-through (suc n) [] = refl
length-through (suc n) (y ∷ ys) = ap suc (length-through n ys)

length-settled : {X : Type 0} (n : ℕ) (multiple : Bool) (xs : List (Option X)) → length (after_settlement n multiple xs) ≡ length xs
length-settled n true xs = length-through n xs
length-settled n false xs = length-with n None xs

module _ (f : Frame) (b : Broker) where
  abbrev sc : ℕ
  sc = channel_of f

  abbrev sd : BrokerFrame
  sd = broker_frame f

  abbrev sx : Channel
  sx = channel_at b sc

  -- Of the channels after a frame was sent holds what holds where none changed, and where the frame's channel sent it.
  pub send_each : (P : List (ℕ × Channel) → Type 0) → may b f ≡ true → P b.channels → (may_in sx.peer sx (tag_of f) sd ≡ true → P (on_channel sc (after_send (tag_of f) sd) b.channels)) → P (send b f).channels
  send_each P allowed same sends_it = at (sends.is_connection_close sd) (sends.is_connection_close_ok sd) (is_up b.connection) refl refl refl
    where
      at : (q r t : Bool) → sends.is_connection_close sd ≡ q → sends.is_connection_close_ok sd ≡ r → is_up b.connection ≡ t → P (send b f).channels
      at true r t q_is r_is t_is = rw q_is same
      at false true t q_is r_is t_is = rw (q_is, r_is) same
      at false false true q_is r_is t_is = let now : may_in sx.peer sx (tag_of f) sd ≡ true = rw (q_is, r_is, t_is) at allowed in rw (q_is, r_is) (sends_it now)
      at false false false q_is r_is t_is = let no : false ≡ true = rw (q_is, r_is, t_is) at allowed in absurd (true≢false (sym no))

  pub send_other : (d : ℕ) → sc ≢ d → may b f ≡ true → channel_at (send b f) d ≡ channel_at b d
  send_other d apart allowed =
      ap channel_in (send_each (λ es. at_channel d es ≡ at_channel d b.channels) allowed refl (λ _. at-on_other sc d _ b.channels apart))

  -- it wasn't free and isn't, and has as many numbers
  pub record HoldsAll (y : Channel) : Type 0 where
    pub before : rests sx ≡ false
    pub after : rests y ≡ false
    pub numbers : length y.numbers ≡ length sx.numbers

  abbrev pub Sent : Channel → Type 0
  Sent y = (y ≡ free_channel) ⊎ HoldsAll y

  -- a channel that may send a frame isn't free
  pub sender_busy : may_in sx.peer sx (tag_of f) sd ≡ true → rests sx ≡ false
  sender_busy allowed = at sx.peer refl
    where
      at : (p : Peer) → sx.peer ≡ p → is_free (state_of_peer sx.peer) ≡ false
      at peer.Free is = let no : false ≡ true = rw is at allowed in absurd (true≢false (sym no))
      at peer.Asked is = rw is refl
      at peer.Open is = rw is refl
      at peer.Leaving is = rw is refl
      at peer.Stopping is = rw is refl
      at peer.StoppingOwes is = rw is refl
      at peer.StoppingAnswered is = rw is refl

  close_ok_sent : rests sx ≡ false → (p : Peer) → sx.peer ≡ p → Sent (sends.after_close_ok p sx)
  close_ok_sent busy peer.StoppingOwes is = inr (record { before = busy; after = refl; numbers = refl })
  close_ok_sent busy peer.Free is = inl refl
  close_ok_sent busy peer.Asked is = inl refl
  close_ok_sent busy peer.Open is = inl refl
  close_ok_sent busy peer.Leaving is = inl refl
  close_ok_sent busy peer.Stopping is = inl refl
  close_ok_sent busy peer.StoppingAnswered is = inl refl

  kept_sent : (y : Channel) → y.peer ≡ sx.peer → length y.numbers ≡ length sx.numbers → rests sx ≡ false → Sent y
  kept_sent y same long busy = inr (record { before = busy; after = ap (λ p. is_free (state_of_peer p)) same ∙ busy; numbers = long })

  sent_by : rests sx ≡ false → (t : List ℕ) (d : BrokerFrame) → Sent (after_send t d sx)
  sent_by busy t broker.OpenOk = inr (record { before = busy; after = refl; numbers = refl })
  sent_by busy t broker.Close = inr (record { before = busy; after = refl; numbers = refl })
  sent_by busy t broker.CloseOk = close_ok_sent busy sx.peer refl
  sent_by busy t (broker.Reply k) = kept_sent (after_send t (broker.Reply k) sx) refl refl busy
  sent_by busy t broker.ConsumeOk = kept_sent (after_send t broker.ConsumeOk sx) refl refl busy
  sent_by busy t broker.CancelOk = kept_sent (after_send t broker.CancelOk sx) refl refl busy
  sent_by busy t broker.GetOk = kept_sent (after_send t broker.GetOk sx) refl refl busy
  sent_by busy t (broker.Settle n multiple) = kept_sent (after_send t (broker.Settle n multiple) sx) refl (length-settled n multiple sx.numbers) busy
  sent_by busy t broker.Deliver = kept_sent (after_send t broker.Deliver sx) refl refl busy
  sent_by busy t broker.Return = kept_sent (after_send t broker.Return sx) refl refl busy
  sent_by busy t broker.Cancel = kept_sent (after_send t broker.Cancel sx) refl refl busy
  sent_by busy t (broker.Header class size) = kept_sent (after_send t (broker.Header class size) sx) refl refl busy
  sent_by busy t (broker.Body n) = kept_sent (after_send t (broker.Body n) sx) refl refl busy
  sent_by busy t _ = kept_sent sx refl refl busy

  pub send_moves : (rests sx ≡ true → sx ≡ free_channel) → may b f ≡ true → Sent (channel_at (send b f) sc)
  send_moves free allowed =
      send_each (λ es. Sent (channel_in (at_channel sc es))) allowed (stays (rests sx) refl)
      (λ now. subst (λ (o : Option Channel). Sent (channel_in o)) (sym (at-on_same sc _ b.channels)) (there (sender_busy now) (at_channel sc b.channels) refl))
    where
      stays : (t : Bool) → rests sx ≡ t → Sent sx
      stays true is = inl (free is)
      stays false is = inr (record { before = is; after = is; numbers = refl })

      there : rests sx ≡ false → (o : Option Channel) → at_channel sc b.channels ≡ o → Sent (channel_in (option_map (after_send (tag_of f) sd) o))
      there busy None is = inl refl
      there busy (Some y) is = subst (λ (z : Channel). Sent (after_send (tag_of f) sd z)) (ap channel_in is) (sent_by busy (tag_of f) sd)

-- ---- Settlements.

-- a settlement is no frame of the connection, and is on its channel
pub record IsSettlement (f : Frame) (s : Settlement) : Type 0 where
  pub channel : channel_of f ≡ s.channel
  pub sorted : broker_frame f ≡ broker.Settle s.number s.multiple

pub settlement_is : (f : Frame) (s : Settlement) → settlement_in f ≡ Some s → IsSettlement f s
settlement_is (frame.Method c (method.Basic (basic.Ack n multiple))) s is = record { channel = ap (λ (x : Settlement). x.channel) (inside is); sorted = ap (λ (x : Settlement). broker.Settle x.number x.multiple) (inside is) }
  where
    inside : Some (record { channel = c; number = n; multiple = multiple; ack = true }) ≡ Some s → record { channel = c; number = n; multiple = multiple; ack = true } ≡ s
    inside e = cc
settlement_is (frame.Method c (method.Basic (basic.Nack n multiple requeue))) s is = record { channel = ap (λ (x : Settlement). x.channel) (inside is); sorted = ap (λ (x : Settlement). broker.Settle x.number x.multiple) (inside is) }
  where
    inside : Some (record { channel = c; number = n; multiple = multiple; ack = false }) ≡ Some s → record { channel = c; number = n; multiple = multiple; ack = false } ≡ s
    inside e = cc
settlement_is (frame.Method c (method.Basic _)) s is = absurd (cc)
settlement_is (frame.Method c _) s is = absurd (cc)
settlement_is (frame.Header c h) s is = absurd (cc)
settlement_is (frame.Body c bytes) s is = absurd (cc)

-- its channel isn't free where it may be sent
pub settler_busy : (f : Frame) (b : Broker) (s : Settlement) → settlement_in f ≡ Some s → may b f ≡ true → rests (channel_at b s.channel) ≡ false
settler_busy f b s is allowed =
    let so = settlement_is f s is in
    let now : rests (channel_at b (channel_of f)) ≡ false = at (is_up b.connection) so.sorted refl in
    subst (λ (c : ℕ). rests (channel_at b c) ≡ false) so.channel now
  where
    at : (t : Bool) → broker_frame f ≡ broker.Settle s.number s.multiple → is_up b.connection ≡ t → rests (channel_at b (channel_of f)) ≡ false
    at true sorted up =
        let now : may_in (channel_at b (channel_of f)).peer (channel_at b (channel_of f)) (tag_of f) (broker.Settle s.number s.multiple) ≡ true = rw (sorted, up) at allowed in
        sender_busy f b (subst (λ (d : BrokerFrame). may_in (channel_at b (channel_of f)).peer (channel_at b (channel_of f)) (tag_of f) d ≡ true) (sym sorted) now)
    at false sorted down = let no : false ≡ true = rw (sorted, down) at allowed in absurd (true≢false (sym no))
