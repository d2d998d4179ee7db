-- In every joined run the broker delivers to a tag only after it read a consume without wait of it, or sent consume-ok for it, in the same
-- opening.
use Rattle.std.proofs.Common.{◌≡◌, ◌∙◌, ℕ, ◌==◌, Bool, true, false, cond, ◌&&◌, ◌||◌, List, [], ◌∷◌, ◌++◌, Option, Some, None, ◌⊎◌, inl, inr, refl, sym, ap, subst, append-nil, append_assoc, eq-eqb}
use Rattle.std.specs.List.{list_any}
use Rattle.std.specs.Option.{option_map}
use Rattle.std.proofs.lemmas.Bool.{and_parts}
use Rattle.std.proofs.lemmas.Bool.Decides.{eqb_tells}
use Rattle.std.proofs.lemmas.List.Folds.{list_any-append}
use Rattle.lapin_types.specs.declared.leaving.Left.{Left}
use Rattle.std.specs.Cmp.Lexicographic.{same_text as same_is}
use Rattle.lapin_types.specs.Types.{Frame, Method, ExchangeMethod, QueueMethod, BasicMethod, ChannelMethod, TxMethod}
use Rattle.lapin_types.specs.Types.frame
use Rattle.lapin_types.specs.Types.method
use Rattle.lapin_types.specs.Types.connection
use Rattle.lapin_types.specs.Types.channel
use Rattle.lapin_types.specs.Types.access
use Rattle.lapin_types.specs.Types.exchange
use Rattle.lapin_types.specs.Types.queue
use Rattle.lapin_types.specs.Types.basic
use Rattle.lapin_types.specs.Types.confirm
use Rattle.lapin_types.specs.Types.tx
use Rattle.lapin_tables.specs.ByChannel.{at_channel, on_channel as on_table}
use Rattle.lapin_tables.proofs.Channels.{at-on_same, at-on_other}
use Rattle.lapin_broker.specs.declared.content.Content.{Content}
use Rattle.lapin_broker.specs.declared.content.Content.TheVariants as content
use Rattle.lapin_broker.specs.declared.request.RequestKind.{RequestKind}
use Rattle.lapin_broker.specs.declared.frames.ClientFrame.{ClientFrame}
use Rattle.lapin_broker.specs.declared.frames.ClientFrame.TheVariants as client
use Rattle.lapin_broker.specs.declared.frames.BrokerFrame.{BrokerFrame}
use Rattle.lapin_broker.specs.declared.frames.BrokerFrame.TheVariants as broker
use Rattle.lapin_broker.specs.declared.peer.Peer.{Peer}
use Rattle.lapin_broker.specs.declared.peer.Peer.TheVariants as peer
use Rattle.lapin_broker.specs.declared.peer.Connection.TheVariants as connection_as
use Rattle.lapin_broker.specs.Contents.{is_idle}
use Rattle.lapin_broker.specs.Tags.{same_text, is_tag, isnt_tag, has_tag, with_tag, without_tag}
use Rattle.lapin_broker.specs.Frames.{channel_of, tag_of, client_frame, broker_frame, ask_unless}
use Rattle.lapin_broker.specs.States.{Channel, Broker, channel_in, channel_at, is_up, is_leaving, owes_connection, after_break}
use Rattle.lapin_broker.specs.Reads.{read, read_up, read_channel, with_piece, number_on, read_in, read_open, breaks_in, breaks_open, begins_in, content_after, admits, with_next_number, is_connection_close, is_connection_close_ok, after_client_close, after_client_close_ok}
use Rattle.lapin_broker.specs.Sends.{may, may_in, send, send_on, after_send, after_own_close_ok, is_close, is_read_on}
use Rattle.lapin_broker.specs.Sends as sends
use Rattle.lapin_verdicts.specs.Deeds.{Deed, Read, Sent, is_open, joined_opening}
use Rattle.lapin_verdicts.specs.Publishes.{no_tally}
use Rattle.lapin_verdicts.proofs.Owing.{next_opening, open_shut}
use Rattle.lapin_verdicts.proofs.Reading.{of_if, closed_down, answered_down}
use Rattle.lapin_verdicts.proofs.Sending.{own_down}
use Rattle.lapin_verdicts.proofs.Sorting.{Sorts, sorted}
use Rattle.lapin_tables.proofs.Bools.{or_true, not_both}
use Rattle.lapin_broker.proofs.SoundLaw.{at_with}
use Rattle.lapin_concord.proofs.Sides.{at_away}

-- ---- frames that name a tag

-- a consume of this tag without wait
abbrev pub names_consume : List ℕ → Method → Bool
names_consume t (method.Basic (basic.Consume queue tag no_local no_ack exclusive nowait arguments)) = nowait && same_text tag t
names_consume t _ = false

abbrev pub consumes : List ℕ → Frame → Bool
consumes t (frame.Method c m) = names_consume t m
consumes t _ = false

abbrev pub is_consume_ok : BrokerFrame → Bool
is_consume_ok broker.ConsumeOk = true
is_consume_ok _ = false

-- consume-ok for this tag
abbrev pub answers_consume : List ℕ → Frame → Bool
answers_consume t f = is_consume_ok (broker_frame f) && same_text (tag_of f) t

-- a delivery to this tag
abbrev pub delivers_to : List ℕ → Frame → Bool
delivers_to t (frame.Method c (method.Basic (basic.Deliver tag number redelivered exchange key))) = same_text tag t
delivers_to t _ = false

-- by this deed the tag may be delivered to
abbrev pub tells : List ℕ → Deed → Bool
tells t (Read l) = consumes t l.frame
tells t (Sent f) = answers_consume t f

abbrev pub told : List ℕ → List Deed → Bool
told t o = list_any (tells t) o

pub told_more : (t : List ℕ) (o : List Deed) (d : Deed) → told t o ≡ true → told t (o ++ d ∷ []) ≡ true
told_more t o d h = list_any-append (tells t) o (d ∷ []) ∙ rw h refl

told_now : (t : List ℕ) (o : List Deed) (d : Deed) → tells t d ≡ true → told t (o ++ d ∷ []) ≡ true
told_now t o d h = list_any-append (tells t) o (d ∷ []) ∙ (rw h (or_true (told t o)))

-- ---- the tags of a channel

tag_added : (t u : List ℕ) (tags : List (List ℕ)) → has_tag t (with_tag u tags) ≡ true → (same_text u t ≡ true) ⊎ (has_tag t tags ≡ true)
tag_added t u tags h = elim (has_tag u tags) as (λ b. has_tag t (cond b tags (tags ++ u ∷ [])) ≡ true → (same_text u t ≡ true) ⊎ (has_tag t tags ≡ true)) [
  | true ↦ λ e. inr e
  | false ↦ λ e. by (has_tag t tags) (same_text u t) (sym (list_any-append (is_tag t) tags (u ∷ [])) ∙ e)
] h
  where
    by : (a b : Bool) → (a || (b || false)) ≡ true → (b ≡ true) ⊎ (a ≡ true)
    by true b e = inr refl
    by false true e = inl refl
    by false false e = absurd cc

tag_removed : (t u : List ℕ) (tags : List (List ℕ)) → has_tag t (without_tag u tags) ≡ true → has_tag t tags ≡ true
tag_removed t u [] h = h
tag_removed t u (x ∷ xs) h = elim (isnt_tag u x) as (λ b. has_tag t (cond b (x ∷ without_tag u xs) (without_tag u xs)) ≡ true → (is_tag t x || has_tag t xs) ≡ true) [
  | true ↦ λ e. elim (is_tag t x) as (λ v. (v || has_tag t (without_tag u xs)) ≡ true → (v || has_tag t xs) ≡ true) [ true ↦ λ f. refl | false ↦ λ f. tag_removed t u xs f ] e
  | false ↦ λ e. elim (is_tag t x) as (λ v. (v || has_tag t xs) ≡ true) [ true ↦ refl | false ↦ tag_removed t u xs e ]
] h

-- what it may deliver to was told, while it may deliver; before that it may deliver to nothing
abbrev pub ToldIn : Peer → Channel → List Deed → Type 0
ToldIn peer.Free x o = x.tags ≡ []
ToldIn peer.Asked x o = x.tags ≡ []
ToldIn peer.Open x o = (t : List ℕ) → has_tag t x.tags ≡ true → told t o ≡ true
ToldIn peer.Leaving x o = (t : List ℕ) → has_tag t x.tags ≡ true → told t o ≡ true
ToldIn _ x o = Unit {0}

abbrev pub Told : Channel → List Deed → Type 0
Told x o = ToldIn x.peer x o

told_at : (x : Channel) (o : List Deed) (p : Peer) → x.peer ≡ p → ToldIn p x o → Told x o
told_at x o p e k = subst (λ q. ToldIn q x o) (sym e) k

abbrev pub Tells : ℕ → Broker → List Deed → Type 0
Tells c b o = is_up b.connection ≡ true → Told (channel_at b c) o

-- ---- what the broker takes a consume without wait for

abbrev is_consume : ClientFrame → Bool
is_consume client.Consume = true
is_consume _ = false

no_ask : (nowait : Bool) (k : RequestKind) → is_consume (ask_unless nowait k) ≡ false
no_ask true k = refl
no_ask false k = refl

chosen : (b : Bool) (u v : ClientFrame) → is_consume u ≡ false → is_consume v ≡ false → is_consume (cond b u v) ≡ false
chosen true u v h k = h
chosen false u v h k = k

no_exchange : (c : ℕ) (m : ExchangeMethod) → is_consume (client_frame (frame.Method c (method.Exchange m))) ≡ false
no_exchange c (exchange.Declare name k passive durable auto_delete internal nowait arguments) = no_ask nowait _
no_exchange c (exchange.Delete name if_unused nowait) = no_ask nowait _
no_exchange c (exchange.Bind destination source key nowait arguments) = no_ask nowait _
no_exchange c (exchange.Unbind destination source key nowait arguments) = no_ask nowait _
no_exchange c _ = refl

no_queue : (c : ℕ) (m : QueueMethod) → is_consume (client_frame (frame.Method c (method.Queue m))) ≡ false
no_queue c (queue.Declare name passive durable exclusive auto_delete nowait arguments) = no_ask nowait _
no_queue c (queue.Bind name from key nowait arguments) = no_ask nowait _
no_queue c (queue.Purge name nowait) = no_ask nowait _
no_queue c (queue.Delete name if_unused if_empty nowait) = no_ask nowait _
no_queue c _ = refl

no_channel : (c : ℕ) (m : ChannelMethod) → is_consume (client_frame (frame.Method c (method.Channel m))) ≡ false
no_channel c channel.Open = chosen (c == 0) client.Other client.Open refl refl
no_channel c _ = refl

no_tx : (c : ℕ) (m : TxMethod) → is_consume (client_frame (frame.Method c (method.Tx m))) ≡ false
no_tx c tx.Select = refl
no_tx c _ = refl

abbrev ConsumeIs : Frame → Type 0
ConsumeIs f = is_consume (client_frame f) ≡ true → (t : List ℕ) → consumes t f ≡ same_text (tag_of f) t

never : (f : Frame) → is_consume (client_frame f) ≡ false → ConsumeIs f
never f off h = absurd (not_both _ h off)

basic_is : (c : ℕ) (m : BasicMethod) → ConsumeIs (frame.Method c (method.Basic m))
basic_is c (basic.Consume queue tag no_local no_ack exclusive true arguments) h = λ t. refl
basic_is c (basic.Consume queue tag no_local no_ack exclusive false arguments) h = absurd cc
basic_is c (basic.Cancel tag nowait) h = absurd (not_both _ h (chosen nowait client.Cancel (client.Ask _) refl refl))
basic_is c _ h = absurd cc

consume_is : (f : Frame) → ConsumeIs f
consume_is (frame.Header c h) = never (frame.Header c h) refl
consume_is (frame.Body c bytes) = never (frame.Body c bytes) refl
consume_is (frame.Method c (method.Connection (connection.Close code text class number))) = never (frame.Method c (method.Connection (connection.Close code text class number))) (chosen (c == 0) client.ConnectionClose client.Other refl refl)
consume_is (frame.Method c (method.Connection connection.CloseOk)) = never (frame.Method c (method.Connection connection.CloseOk)) (chosen (c == 0) client.ConnectionCloseOk client.Other refl refl)
consume_is (frame.Method c (method.Channel m)) = never (frame.Method c (method.Channel m)) (no_channel c m)
consume_is (frame.Method c (method.Access (access.Request realm exclusive passive active write read))) = never (frame.Method c (method.Access (access.Request realm exclusive passive active write read))) refl
consume_is (frame.Method c (method.Access access.RequestOk)) = never (frame.Method c (method.Access access.RequestOk)) refl
consume_is (frame.Method c (method.Exchange m)) = never (frame.Method c (method.Exchange m)) (no_exchange c m)
consume_is (frame.Method c (method.Queue m)) = never (frame.Method c (method.Queue m)) (no_queue c m)
consume_is (frame.Method c (method.Basic m)) = basic_is c m
consume_is (frame.Method c (method.Confirm (confirm.Select nowait))) = never (frame.Method c (method.Confirm (confirm.Select nowait))) refl
consume_is (frame.Method c (method.Confirm confirm.SelectOk)) = never (frame.Method c (method.Confirm confirm.SelectOk)) refl
consume_is (frame.Method c (method.Tx m)) = never (frame.Method c (method.Tx m)) (no_tx c m)

-- ---- one channel reads

sorts_as : (f : Frame) (u : ClientFrame) → client_frame f ≡ u → Sorts u f no_tally
sorts_as f u e = subst (λ v. Sorts v f no_tally) e (sorted f no_tally)

-- its tags stay, or fewer are left
fewer : (x x' : Channel) (o : List Deed) (d : Deed) → ((t : List ℕ) → has_tag t x'.tags ≡ true → has_tag t x.tags ≡ true) → ((t : List ℕ) → has_tag t x.tags ≡ true → told t o ≡ true) → (t : List ℕ) → has_tag t x'.tags ≡ true → told t (o ++ d ∷ []) ≡ true
fewer x x' o d less k t h = told_more t o d (k t (less t h))

open_tells : (l : Left) (u : ClientFrame) (x : Channel) (o : List Deed) → client_frame l.frame ≡ u → x.peer ≡ peer.Open → ((t : List ℕ) → has_tag t x.tags ≡ true → told t o ≡ true) → breaks_open u ≡ false → Told (read_open l.frame x u) (o ++ Read l ∷ [])
open_tells l client.Consume x o e p k h =
    let is = consume_is l.frame (ap is_consume e) in
    told_at (read_open l.frame x client.Consume) (o ++ Read l ∷ []) peer.Open p (λ t g. elim (tag_added t (tag_of l.frame) x.tags g) [ inl y ↦ told_now t o (Read l) (is t ∙ y) | inr y ↦ told_more t o (Read l) (k t y) ])
open_tells l client.Cancel x o e p k h = told_at (read_open l.frame x client.Cancel) (o ++ Read l ∷ []) peer.Open p (fewer x (read_open l.frame x client.Cancel) o (Read l) (λ t g. tag_removed t (tag_of l.frame) x.tags g) k)
open_tells l (client.Ask r) x o e p k h = told_at (read_open l.frame x (client.Ask r)) (o ++ Read l ∷ []) peer.Open p (fewer x x o (Read l) (λ t g. g) k)
open_tells l (client.Select true) x o e p k h = told_at (read_open l.frame x (client.Select true)) (o ++ Read l ∷ []) peer.Open p (fewer x x o (Read l) (λ t g. g) k)
open_tells l (client.Select false) x o e p k h = told_at (read_open l.frame x (client.Select false)) (o ++ Read l ∷ []) peer.Open p (fewer x x o (Read l) (λ t g. g) k)
open_tells l client.Publish x o e p k h = told_at x (o ++ Read l ∷ []) peer.Open p (fewer x x o (Read l) (λ t g. g) k)
open_tells l client.Tell x o e p k h = told_at x (o ++ Read l ∷ []) peer.Open p (fewer x x o (Read l) (λ t g. g) k)
open_tells l client.Close x o e p k h = fewer x x o (Read l) (λ t g. g) k
open_tells l _ x o e p k h = absurd cc

free_tells : (l : Left) (u : ClientFrame) (x : Channel) (o : List Deed) → x.peer ≡ peer.Free → x.tags ≡ [] → breaks_in peer.Free u ≡ false → Told (read_in peer.Free l.frame x u) (joined_opening o (Read l))
free_tells l client.Open x o p k h = k
free_tells l _ x o p k h = absurd cc

stopping_tells : (f : Frame) (u : ClientFrame) (x : Channel) (o : List Deed) → x.peer ≡ peer.Stopping → Told (read_in peer.Stopping f x u) o
stopping_tells f client.Close x o e = tt
stopping_tells f client.CloseOk x o e = refl
stopping_tells f _ x o e = rw e tt

owing_tells : (f : Frame) (u : ClientFrame) (x : Channel) (o : List Deed) → x.peer ≡ peer.StoppingOwes → Told (read_in peer.StoppingOwes f x u) o
owing_tells f client.CloseOk x o e = tt
owing_tells f _ x o e = rw e tt

here_tells : (p : Peer) (l : Left) (x : Channel) (o : List Deed) → x.peer ≡ p → ToldIn p x o → breaks_in p (client_frame l.frame) ≡ false → Told (read_in p l.frame x (client_frame l.frame)) (joined_opening o (Read l))
here_tells peer.Free l x o e k h = free_tells l (client_frame l.frame) x o e k h
here_tells peer.Asked l x o e k h = absurd cc
here_tells peer.Open l x o e k h =
    let shut : is_open l.frame ≡ false = open_shut l.frame (client_frame l.frame) (sorted l.frame no_tally) h in
    subst (λ v. Told (read_open l.frame x (client_frame l.frame)) (cond v [] (o ++ Read l ∷ []))) (sym shut) (open_tells l (client_frame l.frame) x o refl e k h)
here_tells peer.Leaving l x o e k h = absurd cc
here_tells peer.Stopping l x o e k h = stopping_tells l.frame (client_frame l.frame) x _ e
here_tells peer.StoppingOwes l x o e k h = owing_tells l.frame (client_frame l.frame) x _ e
here_tells peer.StoppingAnswered l x o e k h = rw e tt

-- ---- the broker reads

numbered_tells : (x : Channel) (o : List Deed) → Told x o → Told (with_next_number x) o
numbered_tells x o k = elim x.selected as (λ v. Told (cond v (record x { numbers = x.numbers ++ Some tt ∷ [] }) x) o) [ true ↦ by x.peer refl k | false ↦ k ]
  where
    by : (p : Peer) → x.peer ≡ p → ToldIn p x o → Told (record x { numbers = x.numbers ++ Some tt ∷ [] }) o
    by peer.Free e k = told_at (record x { numbers = x.numbers ++ Some tt ∷ [] }) o peer.Free e k
    by peer.Asked e k = told_at (record x { numbers = x.numbers ++ Some tt ∷ [] }) o peer.Asked e k
    by peer.Open e k = told_at (record x { numbers = x.numbers ++ Some tt ∷ [] }) o peer.Open e k
    by peer.Leaving e k = told_at (record x { numbers = x.numbers ++ Some tt ∷ [] }) o peer.Leaving e k
    by peer.Stopping e k = told_at (record x { numbers = x.numbers ++ Some tt ∷ [] }) o peer.Stopping e k
    by peer.StoppingOwes e k = told_at (record x { numbers = x.numbers ++ Some tt ∷ [] }) o peer.StoppingOwes e k
    by peer.StoppingAnswered e k = told_at (record x { numbers = x.numbers ++ Some tt ∷ [] }) o peer.StoppingAnswered e k

numbered_in : (o : Option Channel) (ds : List Deed) → Told (channel_in o) ds → Told (channel_in (option_map with_next_number o)) ds
numbered_in None ds k = k
numbered_in (Some x) ds k = numbered_tells x ds k

number_tells : (c d : ℕ) (b : Broker) (o : List Deed) → Told (channel_at b c) o → Told (channel_at (number_on d b) c) o
number_tells c d b o k = elim (eqb_tells d c) [
  | inl z ↦ subst (λ v. Told (channel_at (number_on v b) c) o) (sym z.1) (subst (λ v. Told (channel_in v) o) (sym (at-on_same c with_next_number b.channels)) (numbered_in (at_channel c b.channels) o k))
  | inr z ↦ subst (λ v. Told (channel_in v) o) (sym (at-on_other d c with_next_number b.channels (λ e. not_both (d == c) (eq-eqb d c e) z.0))) k
]

piece_tells : (c d : ℕ) (x : Content) (b : Broker) (o : List Deed) → Told (channel_at b c) o → Told (channel_at (with_piece d x b) c) o
piece_tells c d x b o k = elim (is_idle x) as (λ v. Told (channel_at (cond v (record (number_on d b) { reading = None }) (record b { reading = Some (d, x) })) c) o) [ true ↦ number_tells c d b o k | false ↦ k ]

-- one deed more that opens nothing
more_tells : (x : Channel) (o : List Deed) (d : Deed) → Told x o → Told x (o ++ d ∷ [])
more_tells x o d k = by x.peer refl k
  where
    by : (p : Peer) → x.peer ≡ p → ToldIn p x o → Told x (o ++ d ∷ [])
    by peer.Free e k = told_at x (o ++ d ∷ []) peer.Free e k
    by peer.Asked e k = told_at x (o ++ d ∷ []) peer.Asked e k
    by peer.Open e k = told_at x (o ++ d ∷ []) peer.Open e (λ t h. told_more t o d (k t h))
    by peer.Leaving e k = told_at x (o ++ d ∷ []) peer.Leaving e (λ t h. told_more t o d (k t h))
    by peer.Stopping e k = told_at x (o ++ d ∷ []) peer.Stopping e tt
    by peer.StoppingOwes e k = told_at x (o ++ d ∷ []) peer.StoppingOwes e tt
    by peer.StoppingAnswered e k = told_at x (o ++ d ∷ []) peer.StoppingAnswered e tt

piece_shut : (most : ℕ) (x : Content) (f : Frame) (u : ClientFrame) → client_frame f ≡ u → admits most x u ≡ true → is_open f ≡ false
piece_shut most x f (client.Header class size) e a = (sorts_as f (client.Header class size) e).0
piece_shut most x f (client.Body n) e a = (sorts_as f (client.Body n) e).0
piece_shut most x f _ e a = absurd cc

down_tells : (c : ℕ) (b : Broker) (o : List Deed) → is_up b.connection ≡ false → Tells c b o
down_tells c b o h up = absurd (not_both _ up h)

up_tells : (c : ℕ) (l : Left) (b : Broker) (o : List Deed) (r : Option (ℕ × Content)) → is_up b.connection ≡ true → Tells c b o → Tells c (read_up r (channel_of l.frame) l.frame (client_frame l.frame) b) (next_opening c o l)
up_tells c l b o (Some r) up k =
    let d : ℕ = channel_of l.frame in
    let u : ClientFrame = client_frame l.frame in
    of_if (λ v. Tells c v (next_opening c o l)) (r.0 == d) _ _
    (λ _. of_if (λ v. Tells c v (next_opening c o l)) (admits b.frame_max r.1 u) _ _
    (λ a.
    let x : Broker = with_piece d (content_after r.1 u) b in
    let g : Told (channel_at x c) o = piece_tells c d (content_after r.1 u) b o (k up) in
    elim (d == c) as (λ v. Tells c x (cond v (joined_opening o (Read l)) o)) [
      | true ↦ λ _. subst (λ v. Told (channel_at x c) (cond v [] (o ++ Read l ∷ []))) (sym (piece_shut b.frame_max r.1 l.frame u refl a)) (more_tells (channel_at x c) o (Read l) g)
      | false ↦ λ _. g
    ])
    (λ _. down_tells c (after_break b) (next_opening c o l) refl))
    (λ _. down_tells c (after_break b) (next_opening c o l) refl)
up_tells c l b o None up k =
    let d : ℕ = channel_of l.frame in
    let u : ClientFrame = client_frame l.frame in
    of_if (λ v. Tells c v (next_opening c o l)) (breaks_in (channel_at b d).peer u) _ _ (λ _. down_tells c (after_break b) (next_opening c o l) refl)
    (λ goes. elim (eqb_tells d c) [
      | inl z ↦
          let goes' : breaks_in (channel_at b c).peer u ≡ false = subst (λ v. breaks_in (channel_at b v).peer u ≡ false) z.1 goes in
          let x' : Channel = read_in (channel_at b c).peer l.frame (channel_at b c) u in
          let g = here_tells (channel_at b c).peer l (channel_at b c) o refl (k up) goes' in
          let K : ℕ → Type 0 = λ v. Tells c (record (read_channel v l.frame u b) { reading = cond (begins_in (channel_at b v).peer u) (Some (v, content.Begun)) b.reading }) (joined_opening o (Read l)) in
          let here : K c = λ _. subst (λ v. Told (channel_in v) (joined_opening o (Read l))) (sym (at_with c x' b.channels)) g in
          rw z.0 (subst K (sym z.1) here)
      | inr z ↦
          let x' : Channel = read_in (channel_at b d).peer l.frame (channel_at b d) u in
          rw z.0 (λ _. subst (λ v. Told (channel_in v) o) (sym (at_away d c x' b.channels z.0)) (k up))
    ])

pub read_tells : (c : ℕ) (l : Left) (b : Broker) (o : List Deed) → Tells c b o → Tells c (read b l.frame) (next_opening c o l)
read_tells c l b o k =
    let P : Broker → Type 0 = λ v. Tells c v (next_opening c o l) in
    of_if P (is_connection_close (client_frame l.frame)) _ _ (λ _. down_tells c (record b { connection = after_client_close b.connection }) (next_opening c o l) (closed_down b.connection))
    (λ _. of_if P (is_connection_close_ok (client_frame l.frame)) _ _ (λ _. down_tells c (record b { connection = after_client_close_ok b.connection }) (next_opening c o l) (answered_down b.connection))
    (λ _. of_if P (is_up b.connection) _ _ (λ up. up_tells c l b o b.reading up k)
    (λ down. of_if P (is_leaving b.connection) _ _ (λ _. down_tells c (after_break b) (next_opening c o l) refl) (λ _. down_tells c b (next_opening c o l) down))))

-- ---- the broker sends

close_ok_tells : (p : Peer) (x : Channel) (o : List Deed) → Told (sends.after_close_ok p x) o
close_ok_tells peer.StoppingOwes x o = tt
close_ok_tells _ x o = refl

module _ (f : Frame) (x : Channel) (o : List Deed) where
  abbrev Known : Channel → Type 0
  Known y = (t : List ℕ) → has_tag t y.tags ≡ true → told t (o ++ Sent f ∷ []) ≡ true

  -- what goes out of a channel that may deliver, and leaves it in its state where it says nothing of that
  out_sent : (d : BrokerFrame) → broker_frame f ≡ d → ((y : Channel) → y.peer ≡ x.peer → Known y → Told y (o ++ Sent f ∷ [])) → ((t : List ℕ) → has_tag t x.tags ≡ true → told t o ≡ true) → (d ≡ broker.OpenOk → ⊥) → Told (after_send (tag_of f) d x) (o ++ Sent f ∷ [])
  out_sent broker.ConsumeOk e same k n = same (after_send (tag_of f) broker.ConsumeOk x) refl (λ t g. elim (tag_added t (tag_of f) x.tags g) [
    | inl y ↦ told_now t o (Sent f) (ap (λ v. is_consume_ok v && same_text (tag_of f) t) e ∙ y)
    | inr y ↦ told_more t o (Sent f) (k t y)
  ])
  out_sent broker.CancelOk e same k n = same (after_send (tag_of f) broker.CancelOk x) refl (fewer x (after_send (tag_of f) broker.CancelOk x) o (Sent f) (λ t g. tag_removed t (tag_of f) x.tags g) k)
  out_sent broker.Cancel e same k n = same (after_send (tag_of f) broker.Cancel x) refl (fewer x (after_send (tag_of f) broker.Cancel x) o (Sent f) (λ t g. tag_removed t (tag_of f) x.tags g) k)
  out_sent broker.OpenOk e same k n = absurd (n refl)
  out_sent broker.Close e same k n = tt
  out_sent broker.CloseOk e same k n = close_ok_tells x.peer x (o ++ Sent f ∷ [])
  out_sent (broker.Reply r) e same k n = same (after_send (tag_of f) (broker.Reply r) x) refl (fewer x x o (Sent f) (λ t g. g) k)
  out_sent broker.GetOk e same k n = same (after_send (tag_of f) broker.GetOk x) refl (fewer x x o (Sent f) (λ t g. g) k)
  out_sent (broker.Settle i multiple) e same k n = same (after_send (tag_of f) (broker.Settle i multiple) x) refl (fewer x x o (Sent f) (λ t g. g) k)
  out_sent broker.Deliver e same k n = same (after_send (tag_of f) broker.Deliver x) refl (fewer x x o (Sent f) (λ t g. g) k)
  out_sent broker.Return e same k n = same (after_send (tag_of f) broker.Return x) refl (fewer x x o (Sent f) (λ t g. g) k)
  out_sent (broker.Header class size) e same k n = same (after_send (tag_of f) (broker.Header class size) x) refl (fewer x x o (Sent f) (λ t g. g) k)
  out_sent (broker.Body i) e same k n = same (after_send (tag_of f) (broker.Body i) x) refl (fewer x x o (Sent f) (λ t g. g) k)
  out_sent _ e same k n = same x refl (fewer x x o (Sent f) (λ t g. g) k)

  asked_sent : (d : BrokerFrame) → x.tags ≡ [] → may_in peer.Asked x (tag_of f) d ≡ true → Told (after_send (tag_of f) d x) (o ++ Sent f ∷ [])
  asked_sent broker.OpenOk k m = λ t h. (let w : has_tag t [] ≡ true = subst (λ v. has_tag t v ≡ true) k h in absurd cc)
  asked_sent broker.Close k m = tt
  asked_sent _ k m = absurd cc

  owed_sent : (d : BrokerFrame) → sends.is_close_ok d ≡ true → Told (after_send (tag_of f) d x) (o ++ Sent f ∷ [])
  owed_sent broker.CloseOk m = close_ok_tells x.peer x (o ++ Sent f ∷ [])
  owed_sent _ m = absurd cc

  no_open : (d : BrokerFrame) → (is_idle x.sending && false) ≡ true → ⊥
  no_open d m = not_both _ (and_parts (is_idle x.sending) false m).1 refl

  here_sent : (p : Peer) (d : BrokerFrame) → broker_frame f ≡ d → x.peer ≡ p → ToldIn p x o → may_in p x (tag_of f) d ≡ true → Told (after_send (tag_of f) d x) (o ++ Sent f ∷ [])
  here_sent peer.Free d e q k m = absurd (not_both _ m refl)
  here_sent peer.Asked d e q k m = asked_sent d k m
  here_sent peer.Open d e q k m = out_sent d e (λ y same known. told_at y (o ++ Sent f ∷ []) peer.Open (same ∙ q) known) k (λ z. no_open d (subst (λ v. may_in peer.Open x (tag_of f) v ≡ true) z m))
  here_sent peer.Leaving d e q k m = out_sent d e (λ y same known. told_at y (o ++ Sent f ∷ []) peer.Leaving (same ∙ q) known) k (λ z. no_open d (subst (λ v. may_in peer.Leaving x (tag_of f) v ≡ true) z m))
  here_sent peer.Stopping d e q k m = absurd (not_both _ m refl)
  here_sent peer.StoppingOwes d e q k m = owed_sent d m
  here_sent peer.StoppingAnswered d e q k m = owed_sent d m

table_sent : (c : ℕ) (f : Frame) (es : List (ℕ × Channel)) (o : List Deed) (v : Option Channel) → at_channel c es ≡ v → Told (channel_in v) o → may_in (channel_in v).peer (channel_in v) (tag_of f) (broker_frame f) ≡ true → Told (channel_in (at_channel c (on_table c (after_send (tag_of f) (broker_frame f)) es))) (o ++ Sent f ∷ [])
table_sent c f es o None e k m = absurd (not_both _ m refl)
table_sent c f es o (Some x) e k m = subst (λ v. Told (channel_in v) (o ++ Sent f ∷ [])) (sym (at-on_same c (after_send (tag_of f) (broker_frame f)) es ∙ ap (option_map (after_send (tag_of f) (broker_frame f))) e)) (here_sent f x o x.peer (broker_frame f) refl refl k m)

abbrev pub sent_opening : ℕ → List Deed → Frame → List Deed
sent_opening c o f = cond (channel_of f == c) (o ++ Sent f ∷ []) o

channel_sent : (c : ℕ) (f : Frame) (b : Broker) (o : List Deed) → Tells c b o → is_up b.connection ≡ true → may_in (channel_at b (channel_of f)).peer (channel_at b (channel_of f)) (tag_of f) (broker_frame f) ≡ true → Told (channel_at (send_on (channel_of f) (tag_of f) (broker_frame f) b) c) (sent_opening c o f)
channel_sent c f b o k up m =
    let a : ℕ = channel_of f in
    elim (eqb_tells a c) [
      | inl z ↦
          let m' : may_in (channel_at b c).peer (channel_at b c) (tag_of f) (broker_frame f) ≡ true = subst (λ v. may_in (channel_at b v).peer (channel_at b v) (tag_of f) (broker_frame f) ≡ true) z.1 m in
          let K : ℕ → Type 0 = λ v. Told (channel_in (at_channel c (on_table v (after_send (tag_of f) (broker_frame f)) b.channels))) (o ++ Sent f ∷ []) in
          rw z.0 (subst K (sym z.1) (table_sent c f b.channels o (at_channel c b.channels) refl (k up) m'))
      | inr z ↦ rw z.0 (subst (λ v. Told (channel_in v) o) (sym (at-on_other a c (after_send (tag_of f) (broker_frame f)) b.channels (λ e. not_both (a == c) (eq-eqb a c e) z.0))) (k up))
    ]

pub send_tells : (c : ℕ) (f : Frame) (b : Broker) (o : List Deed) → Tells c b o → may b f ≡ true → Tells c (send b f) (sent_opening c o f)
send_tells c f b o k =
    let a : ℕ = channel_of f in
    let t : List ℕ = tag_of f in
    let d : BrokerFrame = broker_frame f in
    let after_close : Broker = record b { connection = connection_as.Stopped } in
    let after_ok : Broker = record b { connection = after_own_close_ok b.connection } in
    let other : Broker = record (send_on a t d b) { reading = cond (is_close d && is_read_on a b.reading) None b.reading } in
    let goes : Bool = is_up b.connection && may_in (channel_at b a).peer (channel_at b a) t d in
    elim (sends.is_connection_close d) as (λ v. cond v (is_up b.connection) (cond (sends.is_connection_close_ok d) (owes_connection b.connection) goes) ≡ true → Tells c (cond v after_close (cond (sends.is_connection_close_ok d) after_ok other)) (sent_opening c o f)) [
      | true ↦ λ m up. absurd (not_both (is_up connection_as.Stopped) up refl)
      | false ↦ elim (sends.is_connection_close_ok d) as (λ v. cond v (owes_connection b.connection) goes ≡ true → Tells c (cond v after_ok other) (sent_opening c o f)) [
        | true ↦ λ m up. absurd (not_both (is_up (after_own_close_ok b.connection)) up (own_down b.connection m))
        | false ↦ λ m _. let both = and_parts (is_up b.connection) _ m in channel_sent c f b o k both.0 both.1
      ]
    ]

-- ---- what is delivered was told

deliver_peer : (p : Peer) (x : Channel) (t : List ℕ) (o : List Deed) → ToldIn p x o → may_in p x t broker.Deliver ≡ true → told t o ≡ true
deliver_peer peer.Open x t o k m = k t (and_parts (is_idle x.sending) _ m).1
deliver_peer peer.Leaving x t o k m = k t (and_parts (is_idle x.sending) _ m).1
deliver_peer _ x t o k m = absurd cc

alike_told : (t u : List ℕ) (o : List Deed) → t ≡ u → told t o ≡ true → told u o ≡ true
alike_told t u o e h = subst (λ v. told v o ≡ true) e h

deliver_sent : (f : Frame) (b : Broker) (o : List Deed) (t : List ℕ) → Tells (channel_of f) b o → may b f ≡ true → delivers_to t f ≡ true → told t o ≡ true
deliver_sent (frame.Method c (method.Basic (basic.Deliver tag number redelivered exchange key))) b o t k m h =
    let both = and_parts (is_up b.connection) _ m in
    alike_told tag t o (same_is tag t (sym h)) (deliver_peer (channel_at b c).peer (channel_at b c) tag o (k both.0) both.1)
deliver_sent f b o t k m h = absurd cc

-- each delivery among these deeds was told before
abbrev pub AreTold : List Deed → List Deed → Type 0
AreTold seen [] = Unit {0}
AreTold seen (Read l ∷ ds) = AreTold (seen ++ Read l ∷ []) ds
AreTold seen (Sent f ∷ ds) = ((t : List ℕ) → delivers_to t f ≡ true → told t seen ≡ true) × AreTold (seen ++ Sent f ∷ []) ds

told-push : (seen o : List Deed) (d : Deed) → AreTold seen o → AreTold (seen ++ o) (d ∷ []) → AreTold seen (o ++ d ∷ [])
told-push seen [] d h k = subst (λ v. AreTold v (d ∷ [])) (append-nil seen) k
told-push seen (Read l ∷ o) d h k = told-push (seen ++ Read l ∷ []) o d h (subst (λ v. AreTold v (d ∷ [])) (sym (append_assoc seen (Read l ∷ []) o)) k)
told-push seen (Sent f ∷ o) d h k = (h.0, told-push (seen ++ Sent f ∷ []) o d h.1 (subst (λ v. AreTold v (d ∷ [])) (sym (append_assoc seen (Sent f ∷ []) o)) k))

pub told-before : (seen before behind : List Deed) (f : Frame) (t : List ℕ) → AreTold seen (before ++ Sent f ∷ behind) → delivers_to t f ≡ true → told t (seen ++ before) ≡ true
told-before seen [] behind f t h d = ap (told t) (append-nil seen) ∙ h.0 t d
told-before seen (Read l ∷ before) behind f t h d = ap (told t) (sym (append_assoc seen (Read l ∷ []) before)) ∙ told-before (seen ++ Read l ∷ []) before behind f t h d
told-before seen (Sent g ∷ before) behind f t h d = ap (told t) (sym (append_assoc seen (Sent g ∷ []) before)) ∙ told-before (seen ++ Sent g ∷ []) before behind f t h.1 d

-- ---- a channel of a run

pub record Kept (c : ℕ) (b : Broker) (o : List Deed) : Type 0 where
  pub tells : Tells c b o
  pub are : AreTold [] o

pub kept_read : (c : ℕ) (l : Left) (b : Broker) (o : List Deed) → Kept c b o → Kept c (read b l.frame) (next_opening c o l)
kept_read c l b o k = record {
  tells = read_tells c l b o k.tells;
  are = elim (channel_of l.frame == c) as (λ v. AreTold [] (cond v (joined_opening o (Read l)) o)) [
    | true ↦ elim (is_open l.frame) as (λ v. AreTold [] (cond v [] (o ++ Read l ∷ []))) [ true ↦ tt | false ↦ told-push [] o (Read l) k.are tt ]
    | false ↦ k.are
  ];
}

pub kept_send : (c : ℕ) (f : Frame) (b : Broker) (o : List Deed) → may b f ≡ true → Kept c b o → Kept c (send b f) (sent_opening c o f)
kept_send c f b o m k = record {
  tells = send_tells c f b o k.tells m;
  are = elim (eqb_tells (channel_of f) c) [
    | inl z ↦ rw z.0 (told-push [] o (Sent f) k.are ((λ t d. deliver_sent f b o t (subst (λ v. Tells v b o) (sym z.1) k.tells) m d), tt))
    | inr z ↦ rw z.0 k.are
  ];
}
