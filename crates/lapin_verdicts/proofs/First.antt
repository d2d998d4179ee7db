-- In every joined run open-ok is the first that the broker sends in an opening.
use Rattle.std.proofs.Common.{◌≡◌, ◌∙◌, ℕ, ◌≤◌, ◌==◌, Bool, true, false, cond, ◌&&◌, List, [], ◌∷◌, ◌++◌, Option, Some, None, inl, inr, refl, sym, ap, subst, append-nil, append_assoc, eq-eqb}
use Rattle.std.specs.List.{filter}
use Rattle.std.specs.Option.{option_map}
use Rattle.std.proofs.lemmas.Bool.{and_parts}
use Rattle.std.proofs.lemmas.Bool.Decides.{eqb_tells}
use Rattle.lapin_types.specs.declared.leaving.Left.{Left}
use Rattle.lapin_types.specs.Types.{Frame}
use Rattle.lapin_types.specs.Types.frame
use Rattle.lapin_types.specs.Types.method
use Rattle.lapin_types.specs.Types.channel
use Rattle.lapin_tables.specs.ByChannel.{at_channel, on_channel as on_table}
use Rattle.lapin_tables.proofs.Channels.{at-on_same, at-on_other}
use Rattle.lapin_rules.specs.Phases.{is_up as is_link_up}
use Rattle.lapin_broker.specs.declared.content.Content.{Content}
use Rattle.lapin_broker.specs.declared.content.Content.TheVariants as content
use Rattle.lapin_broker.specs.declared.frames.ClientFrame.{ClientFrame}
use Rattle.lapin_broker.specs.declared.frames.ClientFrame.TheVariants as client
use Rattle.lapin_broker.specs.declared.frames.BrokerFrame.{BrokerFrame}
use Rattle.lapin_broker.specs.declared.frames.BrokerFrame.TheVariants as broker
use Rattle.lapin_broker.specs.declared.peer.Peer.{Peer}
use Rattle.lapin_broker.specs.declared.peer.Peer.TheVariants as peer
use Rattle.lapin_broker.specs.declared.peer.Connection.TheVariants as connection
use Rattle.lapin_broker.specs.Contents.{is_idle}
use Rattle.lapin_broker.specs.Frames.{channel_of, tag_of, client_frame, broker_frame}
use Rattle.lapin_broker.specs.States.{Channel, Broker, channel_in, channel_at, is_up, is_leaving, owes_connection, after_break}
use Rattle.lapin_broker.specs.Reads.{read, read_up, read_channel, with_piece, number_on, read_in, read_open, breaks_in, begins_in, content_after, admits, with_next_number, is_connection_close, is_connection_close_ok, after_client_close, after_client_close_ok}
use Rattle.lapin_broker.specs.Sends.{may, may_in, send, send_on, after_send, after_own_close_ok, is_close, is_read_on}
use Rattle.lapin_broker.specs.Sends as sends
use Rattle.lapin_joint.specs.declared.step.Step.{Step}
use Rattle.lapin_joint.specs.declared.step.Step.TheVariants as step
use Rattle.lapin_joint.specs.Joint.{Joint, new_joint, is_lawful, after, run, joined_to, read_first, deliver_first, client as client_step, send_down}
use Rattle.lapin_machine.specs.Way.{Way, by_history}
use Rattle.lapin_joint.specs.Order.{front, along}
use Rattle.lapin_verdicts.specs.Deeds.{Deed, Read, Sent, is_open, joined_opening, last_opening, reads_of, sents, deed_in, deeds}
use Rattle.lapin_verdicts.specs.Publishes.{no_tally}
use Rattle.lapin_verdicts.specs.Answers.{is_open_ok}
use Rattle.lapin_verdicts.proofs.Sending.{own_down}
use Rattle.lapin_verdicts.proofs.Sorting.{Sorts, sorted}
use Rattle.lapin_verdicts.proofs.TagCounts.{last-push, last-sent, sents-append, lost_down}
use Rattle.lapin_verdicts.proofs.Reading.{of_if, closed_down, answered_down}
use Rattle.lapin_verdicts.specs.InStep.{is_frame_on}
use Rattle.lapin_verdicts.specs.Session.{past_of}
use Rattle.lapin_verdicts.proofs.Runs.{split_at}
use Rattle.lapin_verdicts.proofs.Together.{way_down}
use Rattle.lapin_verdicts.proofs.Owing.{next_opening}
use Rattle.lapin_tables.proofs.Bools.{not_both}
use Rattle.lapin_broker.proofs.SoundLaw.{at_with}
use Rattle.lapin_concord.proofs.Sides.{at_away}

-- ---- one channel

-- while open-ok is still to be sent, nothing was
abbrev pub IsNew : Peer → List Deed → Type 0
IsNew peer.Asked o = sents o ≡ []
IsNew _ o = Unit {0}

abbrev pub News : ℕ → Broker → List Deed → Type 0
News c b o = is_up b.connection ≡ true → IsNew (channel_at b c).peer o

read_still : (p : Peer) (o : List Deed) (l : Left) → IsNew p o → IsNew p (joined_opening o (Read l))
read_still peer.Asked o l e = elim (is_open l.frame) as (λ v. sents (cond v [] (o ++ Read l ∷ [])) ≡ []) [ true ↦ refl | false ↦ sents-append o (Read l ∷ []) ∙ (append-nil (sents o) ∙ e) ]
read_still peer.Free o l e = tt
read_still peer.Open o l e = tt
read_still peer.Leaving o l e = tt
read_still peer.Stopping o l e = tt
read_still peer.StoppingOwes o l e = tt
read_still peer.StoppingAnswered o l e = tt

abbrev is_asked : Peer → Bool
is_asked peer.Asked = true
is_asked _ = false

not_new : (p : Peer) (o : List Deed) → is_asked p ≡ false → IsNew p o
not_new peer.Asked o h = absurd cc
not_new peer.Free o h = tt
not_new peer.Open o h = tt
not_new peer.Leaving o h = tt
not_new peer.Stopping o h = tt
not_new peer.StoppingOwes o h = tt
not_new peer.StoppingAnswered o h = tt

open_reads : (f : Frame) (u : ClientFrame) (x : Channel) → x.peer ≡ peer.Open → is_asked (read_open f x u).peer ≡ false
open_reads f (client.Select true) x e = ap is_asked e
open_reads f (client.Select false) x e = ap is_asked e
open_reads f (client.Ask k) x e = ap is_asked e
open_reads f client.Consume x e = ap is_asked e
open_reads f client.Cancel x e = ap is_asked e
open_reads f client.Close x e = refl
open_reads f _ x e = ap is_asked e

stopping_reads : (f : Frame) (u : ClientFrame) (x : Channel) → x.peer ≡ peer.Stopping → is_asked (read_in peer.Stopping f x u).peer ≡ false
stopping_reads f client.Close x e = refl
stopping_reads f client.CloseOk x e = refl
stopping_reads f _ x e = ap is_asked e

owing_reads : (f : Frame) (u : ClientFrame) (x : Channel) → x.peer ≡ peer.StoppingOwes → is_asked (read_in peer.StoppingOwes f x u).peer ≡ false
owing_reads f client.CloseOk x e = refl
owing_reads f _ x e = ap is_asked e

free_reads : (l : Left) (u : ClientFrame) (x : Channel) (o : List Deed) → Sorts u l.frame no_tally → breaks_in peer.Free u ≡ false → IsNew (read_in peer.Free l.frame x u).peer (joined_opening o (Read l))
free_reads l client.Open x o s h = rw s refl
free_reads l _ x o s h = absurd cc

here_reads : (p : Peer) (l : Left) (x : Channel) (o : List Deed) → x.peer ≡ p → breaks_in p (client_frame l.frame) ≡ false → IsNew (read_in p l.frame x (client_frame l.frame)).peer (joined_opening o (Read l))
here_reads peer.Free l x o e h = free_reads l (client_frame l.frame) x o (sorted l.frame no_tally) h
here_reads peer.Asked l x o e h = absurd cc
here_reads peer.Leaving l x o e h = absurd cc
here_reads peer.Open l x o e h = not_new (read_in peer.Open l.frame x (client_frame l.frame)).peer _ (open_reads l.frame (client_frame l.frame) x e)
here_reads peer.Stopping l x o e h = not_new (read_in peer.Stopping l.frame x (client_frame l.frame)).peer _ (stopping_reads l.frame (client_frame l.frame) x e)
here_reads peer.StoppingOwes l x o e h = not_new (read_in peer.StoppingOwes l.frame x (client_frame l.frame)).peer _ (owing_reads l.frame (client_frame l.frame) x e)
here_reads peer.StoppingAnswered l x o e h = not_new x.peer _ (ap is_asked e)

-- ---- the broker reads

number_peer : (o : Option Channel) → (channel_in (option_map with_next_number o)).peer ≡ (channel_in o).peer
number_peer None = refl
number_peer (Some x) = elim x.selected as (λ v. (cond v (record x { numbers = x.numbers ++ Some tt ∷ [] }) x).peer ≡ x.peer) [ true ↦ refl | false ↦ refl ]

table_peer : (c d : ℕ) (b : Broker) → (channel_at (number_on d b) c).peer ≡ (channel_at b c).peer
table_peer c d b = elim (eqb_tells d c) [
  | inl z ↦ subst (λ v. (channel_at (number_on v b) c).peer ≡ (channel_at b c).peer) (sym z.1) (ap (λ v. (channel_in v).peer) (at-on_same c with_next_number b.channels) ∙ number_peer (at_channel c b.channels))
  | inr z ↦ ap (λ v. (channel_in v).peer) (at-on_other d c with_next_number b.channels (λ e. not_both (d == c) (eq-eqb d c e) z.0))
]

pub piece_peer : (c d : ℕ) (x : Content) (b : Broker) → (channel_at (with_piece d x b) c).peer ≡ (channel_at b c).peer
piece_peer c d x b = elim (is_idle x) as (λ v. (channel_at (cond v (record (number_on d b) { reading = None }) (record b { reading = Some (d, x) })) c).peer ≡ (channel_at b c).peer) [ true ↦ table_peer c d b | false ↦ refl ]

down_news : (c : ℕ) (b : Broker) (o : List Deed) → is_up b.connection ≡ false → News c b o
down_news c b o h up = absurd (not_both _ up h)

next_still : (c : ℕ) (p : Peer) (o : List Deed) (l : Left) → IsNew p o → IsNew p (next_opening c o l)
next_still c p o l e = elim (channel_of l.frame == c) as (λ v. IsNew p (cond v (joined_opening o (Read l)) o)) [ true ↦ read_still p o l e | false ↦ e ]

up_news : (c : ℕ) (l : Left) (b : Broker) (o : List Deed) (r : Option (ℕ × Content)) → is_up b.connection ≡ true → News c b o → News c (read_up r (channel_of l.frame) l.frame (client_frame l.frame) b) (next_opening c o l)
up_news c l b o (Some r) up k =
    let d : ℕ = channel_of l.frame in
    let u : ClientFrame = client_frame l.frame in
    of_if (λ v. News c v (next_opening c o l)) (r.0 == d) _ _
    (λ _. of_if (λ v. News c v (next_opening c o l)) (admits b.frame_max r.1 u) _ _
    (λ _ _. subst (λ p. IsNew p (next_opening c o l)) (sym (piece_peer c d (content_after r.1 u) b)) (next_still c (channel_at b c).peer o l (k up)))
    (λ _. down_news c (after_break b) (next_opening c o l) refl))
    (λ _. down_news c (after_break b) (next_opening c o l) refl)
up_news c l b o None up k =
    let d : ℕ = channel_of l.frame in
    let u : ClientFrame = client_frame l.frame in
    of_if (λ v. News c v (next_opening c o l)) (breaks_in (channel_at b d).peer u) _ _ (λ _. down_news c (after_break b) (next_opening c o l) refl)
    (λ goes. elim (eqb_tells d c) [
      | inl z ↦
          let goes' : breaks_in (channel_at b c).peer u ≡ false = subst (λ v. breaks_in (channel_at b v).peer u ≡ false) z.1 goes in
          let x' : Channel = read_in (channel_at b c).peer l.frame (channel_at b c) u in
          let g : IsNew x'.peer (joined_opening o (Read l)) = here_reads (channel_at b c).peer l (channel_at b c) o refl goes' in
          let K : ℕ → Type 0 = λ v. News c (record (read_channel v l.frame u b) { reading = cond (begins_in (channel_at b v).peer u) (Some (v, content.Begun)) b.reading }) (joined_opening o (Read l)) in
          let here : K c = λ _. subst (λ v. IsNew (channel_in v).peer (joined_opening o (Read l))) (sym (at_with c x' b.channels)) g in
          rw z.0 (subst K (sym z.1) here)
      | inr z ↦
          let x' : Channel = read_in (channel_at b d).peer l.frame (channel_at b d) u in
          rw z.0 (λ _. subst (λ v. IsNew (channel_in v).peer o) (sym (at_away d c x' b.channels z.0)) (k up))
    ])

read_news : (c : ℕ) (l : Left) (b : Broker) (o : List Deed) → News c b o → News c (read b l.frame) (next_opening c o l)
read_news c l b o k =
    let P : Broker → Type 0 = λ v. News c v (next_opening c o l) in
    of_if P (is_connection_close (client_frame l.frame)) _ _ (λ _. down_news c (record b { connection = after_client_close b.connection }) (next_opening c o l) (closed_down b.connection))
    (λ _. of_if P (is_connection_close_ok (client_frame l.frame)) _ _ (λ _. down_news c (record b { connection = after_client_close_ok b.connection }) (next_opening c o l) (answered_down b.connection))
    (λ _. of_if P (is_up b.connection) _ _ (λ up. up_news c l b o b.reading up k)
    (λ down. of_if P (is_leaving b.connection) _ _ (λ _. down_news c (after_break b) (next_opening c o l) refl) (λ _. down_news c b (next_opening c o l) down))))

-- ---- the broker sends

close_ok_peer : (p : Peer) (x : Channel) → is_asked (sends.after_close_ok p x).peer ≡ false
close_ok_peer peer.StoppingOwes x = refl
close_ok_peer _ x = refl

sent_peer : (t : List ℕ) (d : BrokerFrame) (x : Channel) → is_asked x.peer ≡ false → is_asked (after_send t d x).peer ≡ false
sent_peer t broker.OpenOk x h = refl
sent_peer t broker.Close x h = refl
sent_peer t broker.CloseOk x h = close_ok_peer x.peer x
sent_peer t (broker.Reply k) x h = h
sent_peer t broker.ConsumeOk x h = h
sent_peer t broker.CancelOk x h = h
sent_peer t broker.GetOk x h = h
sent_peer t (broker.Settle k multiple) x h = h
sent_peer t broker.Deliver x h = h
sent_peer t broker.Return x h = h
sent_peer t broker.Cancel x h = h
sent_peer t (broker.Header class size) x h = h
sent_peer t (broker.Body k) x h = h
sent_peer t _ x h = h

asked_peer : (t : List ℕ) (d : BrokerFrame) (x : Channel) → may_in peer.Asked x t d ≡ true → is_asked (after_send t d x).peer ≡ false
asked_peer t broker.OpenOk x m = refl
asked_peer t broker.Close x m = refl
asked_peer t _ x m = absurd cc

here_peer : (p : Peer) (t : List ℕ) (d : BrokerFrame) (x : Channel) → x.peer ≡ p → may_in p x t d ≡ true → is_asked (after_send t d x).peer ≡ false
here_peer peer.Asked t d x e m = asked_peer t d x m
here_peer peer.Free t d x e m = sent_peer t d x (ap is_asked e)
here_peer peer.Open t d x e m = sent_peer t d x (ap is_asked e)
here_peer peer.Leaving t d x e m = sent_peer t d x (ap is_asked e)
here_peer peer.Stopping t d x e m = sent_peer t d x (ap is_asked e)
here_peer peer.StoppingOwes t d x e m = sent_peer t d x (ap is_asked e)
here_peer peer.StoppingAnswered t d x e m = sent_peer t d x (ap is_asked e)

in_table : (c : ℕ) (t : List ℕ) (d : BrokerFrame) (es : List (ℕ × Channel)) (o : Option Channel) → at_channel c es ≡ o → may_in (channel_in o).peer (channel_in o) t d ≡ true → is_asked (channel_in (at_channel c (on_table c (after_send t d) es))).peer ≡ false
in_table c t d es None e m = absurd (not_both _ m refl)
in_table c t d es (Some x) e m = ap (λ v. is_asked (channel_in v).peer) (at-on_same c (after_send t d) es ∙ ap (option_map (after_send t d)) e) ∙ here_peer x.peer t d x refl m

abbrev sent_opening : ℕ → List Deed → Frame → List Deed
sent_opening c o f = cond (channel_of f == c) (o ++ Sent f ∷ []) o

channel_news : (c : ℕ) (f : Frame) (b : Broker) (o : List Deed) → News c b o → is_up b.connection ≡ true → may_in (channel_at b (channel_of f)).peer (channel_at b (channel_of f)) (tag_of f) (broker_frame f) ≡ true → IsNew (channel_at (send_on (channel_of f) (tag_of f) (broker_frame f) b) c).peer (sent_opening c o f)
channel_news c f b o k up m =
    let a : ℕ = channel_of f in
    let t : List ℕ = tag_of f in
    let d : BrokerFrame = broker_frame f in
    elim (eqb_tells a c) [
      | inl z ↦
          let m' : may_in (channel_at b c).peer (channel_at b c) t d ≡ true = subst (λ v. may_in (channel_at b v).peer (channel_at b v) t d ≡ true) z.1 m in
          let K : ℕ → Type 0 = λ v. IsNew (channel_in (at_channel c (on_table v (after_send t d) b.channels))).peer (o ++ Sent f ∷ []) in
          rw z.0 (subst K (sym z.1) (not_new _ (o ++ Sent f ∷ []) (in_table c t d b.channels (at_channel c b.channels) refl m')))
      | inr z ↦ rw z.0 (subst (λ v. IsNew (channel_in v).peer o) (sym (at-on_other a c (after_send t d) b.channels (λ e. not_both (a == c) (eq-eqb a c e) z.0))) (k up))
    ]

send_news : (c : ℕ) (f : Frame) (b : Broker) (o : List Deed) → News c b o → may b f ≡ true → News c (send b f) (sent_opening c o f)
send_news c f b o k =
    let a : ℕ = channel_of f in
    let t : List ℕ = tag_of f in
    let d : BrokerFrame = broker_frame f in
    let after_close : Broker = record b { connection = connection.Stopped } in
    let after_ok : Broker = record b { connection = after_own_close_ok b.connection } in
    let other : Broker = record (send_on a t d b) { reading = cond (is_close d && is_read_on a b.reading) None b.reading } in
    let goes : Bool = is_up b.connection && may_in (channel_at b a).peer (channel_at b a) t d in
    elim (sends.is_connection_close d) as (λ v. cond v (is_up b.connection) (cond (sends.is_connection_close_ok d) (owes_connection b.connection) goes) ≡ true → News c (cond v after_close (cond (sends.is_connection_close_ok d) after_ok other)) (sent_opening c o f)) [
      | true ↦ λ m up. absurd (not_both (is_up connection.Stopped) up refl)
      | false ↦ elim (sends.is_connection_close_ok d) as (λ v. cond v (owes_connection b.connection) goes ≡ true → News c (cond v after_ok other) (sent_opening c o f)) [
        | true ↦ λ m up. absurd (not_both (is_up (after_own_close_ok b.connection)) up (own_down b.connection m))
        | false ↦ λ m _. let both = and_parts (is_up b.connection) _ m in channel_news c f b o k both.0 both.1
      ]
    ]

-- open-ok is sent to a channel that was asked for
ok_peer : (p : Peer) (x : Channel) (t : List ℕ) (o : List Deed) → may_in p x t broker.OpenOk ≡ true → IsNew p o → sents o ≡ []
ok_peer peer.Asked x t o m k = k
ok_peer peer.Free x t o m k = absurd cc
ok_peer peer.Open x t o m k = absurd (not_both _ (and_parts (is_idle x.sending) false m).1 refl)
ok_peer peer.Leaving x t o m k = absurd (not_both _ (and_parts (is_idle x.sending) false m).1 refl)
ok_peer peer.Stopping x t o m k = absurd cc
ok_peer peer.StoppingOwes x t o m k = absurd cc
ok_peer peer.StoppingAnswered x t o m k = absurd cc

ok_sent : (f : Frame) (b : Broker) (o : List Deed) → News (channel_of f) b o → may b f ≡ true → is_open_ok f ≡ true → sents o ≡ []
ok_sent (frame.Method c (method.Channel channel.OpenOk)) b o k m r = let both = and_parts (is_up b.connection) _ m in ok_peer (channel_at b c).peer (channel_at b c) [] o both.1 (k both.0)
ok_sent f b o k m r = absurd cc

-- ---- all that were sent

abbrev pub AreFirst : List Deed → List Deed → Type 0
AreFirst seen [] = Unit {0}
AreFirst seen (Read l ∷ ds) = AreFirst (seen ++ Read l ∷ []) ds
AreFirst seen (Sent f ∷ ds) = (is_open_ok f ≡ true → sents seen ≡ []) × AreFirst (seen ++ Sent f ∷ []) ds

first-push : (seen o : List Deed) (d : Deed) → AreFirst seen o → AreFirst (seen ++ o) (d ∷ []) → AreFirst seen (o ++ d ∷ [])
first-push seen [] d h k = subst (λ v. AreFirst v (d ∷ [])) (append-nil seen) k
first-push seen (Read l ∷ o) d h k = first-push (seen ++ Read l ∷ []) o d h (subst (λ v. AreFirst v (d ∷ [])) (sym (append_assoc seen (Read l ∷ []) o)) k)
first-push seen (Sent f ∷ o) d h k = (h.0, first-push (seen ++ Sent f ∷ []) o d h.1 (subst (λ v. AreFirst v (d ∷ [])) (sym (append_assoc seen (Sent f ∷ []) o)) k))

first-at : (seen before behind : List Deed) (f : Frame) → AreFirst seen (before ++ Sent f ∷ behind) → is_open_ok f ≡ true → sents (seen ++ before) ≡ []
first-at seen [] behind f h r = ap sents (append-nil seen) ∙ h.0 r
first-at seen (Read l ∷ before) behind f h r = ap sents (sym (append_assoc seen (Read l ∷ []) before)) ∙ first-at (seen ++ Read l ∷ []) before behind f h r
first-at seen (Sent g ∷ before) behind f h r = ap sents (sym (append_assoc seen (Sent g ∷ []) before)) ∙ first-at (seen ++ Sent g ∷ []) before behind f h.1 r

-- ---- every joined run

record Opened (c : ℕ) (b : Broker) (ds : List Deed) : Type 0 where
  pub news : News c b (last_opening c ds)
  pub first : AreFirst [] (last_opening c ds)

opened_read : (c : ℕ) (b : Broker) (ds : List Deed) (l : Left) → Opened c b ds → Opened c (read b l.frame) (ds ++ Read l ∷ [])
opened_read c b ds l k = record {
  news = subst (News c (read b l.frame)) (sym (last-push c ds (Read l))) (read_news c l b (last_opening c ds) k.news);
  first = subst (AreFirst []) (sym (last-push c ds (Read l))) (elim (channel_of l.frame == c) as (λ v. AreFirst [] (cond v (joined_opening (last_opening c ds) (Read l)) (last_opening c ds))) [
    | true ↦ elim (is_open l.frame) as (λ v. AreFirst [] (cond v [] (last_opening c ds ++ Read l ∷ []))) [ true ↦ tt | false ↦ first-push [] (last_opening c ds) (Read l) k.first tt ]
    | false ↦ k.first
  ]);
}

opened_send : (c : ℕ) (b : Broker) (ds : List Deed) (f : Frame) → may b f ≡ true → Opened c b ds → Opened c (send b f) (ds ++ Sent f ∷ [])
opened_send c b ds f m k = record {
  news = subst (News c (send b f)) (sym (last-sent c ds f)) (send_news c f b (last_opening c ds) k.news m);
  first = subst (AreFirst []) (sym (last-sent c ds f)) (elim (eqb_tells (channel_of f) c) [
    | inl z ↦ rw z.0 (first-push [] (last_opening c ds) (Sent f) k.first ((λ r. ok_sent f b (last_opening c ds) (subst (λ v. News v b (last_opening c ds)) (sym z.1) k.news) m r), tt))
    | inr z ↦ rw z.0 k.first
  ]);
}

more_none : (c : ℕ) (b : Broker) (ds : List Deed) → Opened c b ds → Opened c b (ds ++ [])
more_none c b ds k = subst (Opened c b) (sym (append-nil ds)) k

client_opened : {S : Type 0} (c : ℕ) (v : Bool) (j k : Joint S) (ds : List Deed) → k.broker ≡ j.broker → Opened c j.broker ds → Opened c (cond v k j).broker (ds ++ [])
client_opened c true j k ds e h = more_none c _ ds (subst (λ b. Opened c b ds) (sym e) h)
client_opened c false j k ds e h = more_none c _ ds h

read_opened : {S : Type 0} (c : ℕ) (ls : List Left) (j : Joint S) (ds : List Deed) → Opened c j.broker ds → Opened c (read_first ls j).broker (ds ++ reads_of (front ls))
read_opened c [] j ds h = more_none c _ ds h
read_opened c (l ∷ ls) j ds h = opened_read c j.broker ds l h

send_opened : {S : Type 0} (c : ℕ) (f : Frame) (j : Joint S) (ds : List Deed) → Opened c j.broker ds → Opened c (cond (may j.broker f) (send_down f j) j).broker (ds ++ cond (may j.broker f) (Sent f ∷ []) [])
send_opened c f j ds h = elim (may j.broker f) as (λ v. may j.broker f ≡ v → Opened c (cond v (send_down f j) j).broker (ds ++ cond v (Sent f ∷ []) [])) [ true ↦ λ m. opened_send c j.broker ds f m h | false ↦ λ m. more_none c _ ds h ] refl

deliver_opened : {S : Type 0} (c : ℕ) (m : Way S) (fs : List Frame) (j : Joint S) (ds : List Deed) → Opened c j.broker ds → Opened c (deliver_first m fs j).broker (ds ++ [])
deliver_opened c m [] j ds h = more_none c _ ds h
deliver_opened c m (f ∷ fs) j ds h = more_none c _ ds h

opened_after : {S : Type 0} (c : ℕ) (m : Way S) (s : Step) (j : Joint S) (ds : List Deed) → Opened c j.broker ds → Opened c (after m s j).broker (ds ++ deed_in s j)
opened_after c m (step.Client e) j ds h = client_opened c (is_lawful e) j (client_step m e j) ds refl h
opened_after c m step.Read j ds h = read_opened c j.up j ds h
opened_after c m (step.Send f) j ds h = send_opened c f j ds h
opened_after c m step.Deliver j ds h = deliver_opened c m j.down j ds h
opened_after c m step.Lose j ds h = more_none c _ ds (record { news = λ up. absurd (not_both _ up (lost_down j.broker.connection)); first = h.first })

opened_all : {S : Type 0} (c : ℕ) (m : Way S) (ss : List Step) (j : Joint S) (ds : List Deed) → Opened c j.broker ds → Opened c (run m ss j).broker (ds ++ along m deed_in ss j)
opened_all c m [] j ds h = more_none c _ ds h
opened_all c m (s ∷ ss) j ds h = subst (Opened c _) (append_assoc ds (deed_in s j) (along m deed_in ss (after m s j))) (opened_all c m ss (after m s j) (ds ++ deed_in s j) (opened_after c m s j ds h))

pub first_in : (n : ℕ) (ss : List Step) (c : ℕ) (before behind : List Deed) (f : Frame) → last_opening c (deeds n ss) ≡ before ++ Sent f ∷ behind → is_open_ok f ≡ true → sents before ≡ []
first_in n ss c before behind f e r = first-at [] before behind f (subst (AreFirst []) e (opened_all c (by_history n) ss (new_joint [] n) [] (record { news = λ up. tt; first = tt })).first) r

-- so the one that the session receives next is the first of the channel's last opening
pub first_comes : (n : ℕ) → 4096 ≤ n → (ss : List Step) (f : Frame) (way : List Frame) → (joined_to n ss).down ≡ f ∷ way → is_link_up (past_of n ss).wire.link ≡ true → (channel_of f == 0) ≡ false → is_open_ok f ≡ true → (before : List Deed) × (behind : List Deed) × (last_opening (channel_of f) (deeds n ss) ≡ before ++ Sent f ∷ behind) × (sents before ≡ [])
first_comes n most ss f way down up z r =
    let c : ℕ = channel_of f in
    let t = way_down n most ss c z up in
    let here : filter (is_frame_on c) (joined_to n ss).down ≡ f ∷ filter (is_frame_on c) way = ap (filter (is_frame_on c)) down ∙ ap (λ v. cond v (f ∷ filter (is_frame_on c) way) (filter (is_frame_on c) way)) (eq-eqb c c refl) in
    let s = split_at (last_opening c (deeds n ss)) t.0 f (filter (is_frame_on c) way) (t.1 ∙ ap (λ v. t.0 ++ v) here) in
    (s.before, s.behind, s.all, first_in n ss c s.before s.behind f s.all r)
