-- In every joined run the broker sends the connection's close-ok only where it has read a close of the connection.
use Rattle.std.proofs.Common.{◌≡◌, ◌∙◌, ℕ, ◌+◌, ◌≤◌, ◌==◌, Bool, true, false, cond, ◌&&◌, List, [], ◌∷◌, ◌++◌, length, length-append, Option, Some, None, ◌⊎◌, inl, inr, refl, sym, ap, subst, append-nil, append_assoc, arith}
use Rattle.std.specs.List.{filter}
use Rattle.std.proofs.lemmas.List.Elements.{filter-append}
use Rattle.lapin_types.specs.declared.leaving.Left.{Left}
use Rattle.lapin_types.specs.Types.{Frame, ChannelMethod, ExchangeMethod, QueueMethod, BasicMethod, ConfirmMethod, TxMethod}
use Rattle.lapin_types.specs.Types.frame
use Rattle.lapin_types.specs.Types.method
use Rattle.lapin_types.specs.Types.connection as connection_method
use Rattle.lapin_types.specs.Types.channel
use Rattle.lapin_types.specs.Types.access
use Rattle.lapin_types.specs.Types.exchange
use Rattle.lapin_types.specs.Types.queue
use Rattle.lapin_types.specs.Types.basic
use Rattle.lapin_types.specs.Types.confirm
use Rattle.lapin_types.specs.Types.tx
use Rattle.lapin_broker.specs.declared.content.Content.{Content}
use Rattle.lapin_broker.specs.declared.frames.ClientFrame.{ClientFrame}
use Rattle.lapin_broker.specs.declared.frames.ClientFrame.TheVariants as client
use Rattle.lapin_broker.specs.declared.frames.BrokerFrame.{BrokerFrame}
use Rattle.lapin_broker.specs.declared.frames.BrokerFrame.TheVariants as broker
use Rattle.lapin_broker.specs.declared.peer.Connection.TheVariants as connection
use Rattle.lapin_broker.specs.declared.request.RequestKind.{RequestKind}
use Rattle.lapin_broker.specs.Contents.{is_idle}
use Rattle.lapin_broker.specs.Frames.{channel_of, tag_of, client_frame, client_channel, client_exchange, client_queue, client_basic, client_confirm, client_tx, ask_unless, broker_frame}
use Rattle.lapin_broker.specs.States.{Broker, channel_at, is_up, is_leaving, owes_connection, after_break}
use Rattle.lapin_broker.specs.Reads.{read, read_up, with_piece, breaks_in, content_after, admits, is_connection_close, is_connection_close_ok, after_client_close_ok}
use Rattle.lapin_broker.specs.Sends.{may, may_in, send, send_on, after_own_close_ok, is_close, is_read_on}
use Rattle.lapin_broker.specs.Sends as sends
use Rattle.lapin_joint.specs.declared.step.Step.{Step}
use Rattle.lapin_joint.specs.declared.step.Step.TheVariants as step
use Rattle.lapin_joint.specs.Joint.{Joint, new_joint, is_lawful, after, run, read_first, deliver_first, client as client_step, send_down}
use Rattle.lapin_machine.specs.Way.{Way, by_history}
use Rattle.lapin_joint.specs.Order.{front, along}
use Rattle.lapin_verdicts.specs.Deeds.{Deed, Read, Sent, lefts, reads_of, deed_in, deeds}
use Rattle.lapin_verdicts.proofs.Reading.{of_if}
use Rattle.lapin_verdicts.proofs.Owing.{lefts-append}
use Rattle.lapin_broker.specs.declared.peer.Connection.{Connection}
use Rattle.lapin_broker.specs.Reads.{number_on}
use Rattle.lapin_broker.specs.States.{connection_after_loss}
use Rattle.lapin_answers.specs.Closes.{ends, is_end_left, is_end_ok_as, ends_in}

-- ---- a close of the connection, as the broker takes it

no : (P : Type 0) (v : Bool) → v ≡ false → v ≡ true → P
no P v f t = let w : false ≡ true = sym f ∙ t in absurd cc

shut_if : (t : Bool) (u v : ClientFrame) → is_connection_close u ≡ false → is_connection_close v ≡ false → is_connection_close (cond t u v) ≡ false
shut_if true u v a b = a
shut_if false u v a b = b

shut_asked : (t : Bool) (k : RequestKind) → is_connection_close (ask_unless t k) ≡ false
shut_asked true k = refl
shut_asked false k = refl

shut_exchange : (m : ExchangeMethod) → is_connection_close (client_exchange m) ≡ false
shut_exchange (exchange.Declare name k passive durable auto_delete internal nowait arguments) = shut_asked nowait _
shut_exchange (exchange.Delete name if_unused nowait) = shut_asked nowait _
shut_exchange (exchange.Bind destination source key nowait arguments) = shut_asked nowait _
shut_exchange (exchange.Unbind destination source key nowait arguments) = shut_asked nowait _
shut_exchange _ = refl

shut_queue : (m : QueueMethod) → is_connection_close (client_queue m) ≡ false
shut_queue (queue.Declare name passive durable exclusive auto_delete nowait arguments) = shut_asked nowait _
shut_queue (queue.Bind name from key nowait arguments) = shut_asked nowait _
shut_queue (queue.Purge name nowait) = shut_asked nowait _
shut_queue (queue.Delete name if_unused if_empty nowait) = shut_asked nowait _
shut_queue _ = refl

shut_basic : (m : BasicMethod) → is_connection_close (client_basic m) ≡ false
shut_basic (basic.Consume name tag no_local no_ack exclusive nowait arguments) = shut_if nowait _ _ refl refl
shut_basic (basic.Cancel tag nowait) = shut_if nowait _ _ refl refl
shut_basic _ = refl

shut_tx : (m : TxMethod) → is_connection_close (client_tx m) ≡ false
shut_tx tx.Select = refl
shut_tx _ = refl

shut_confirm : (m : ConfirmMethod) → is_connection_close (client_confirm m) ≡ false
shut_confirm (confirm.Select nowait) = refl
shut_confirm confirm.SelectOk = refl

shut_channel : (c : ℕ) (m : ChannelMethod) → is_connection_close (client_channel c m) ≡ false
shut_channel c channel.Open = shut_if (c == 0) client.Other client.Open refl refl
shut_channel c (channel.Close code text class number) = refl
shut_channel c _ = refl

end_frame : (f : Frame) → is_connection_close (client_frame f) ≡ true → ends f ≡ true
end_frame (frame.Header c h) e = absurd cc
end_frame (frame.Body c bytes) e = absurd cc
end_frame (frame.Method c (method.Connection (connection_method.Close code text class number))) e = refl
end_frame (frame.Method c (method.Connection connection_method.CloseOk)) e = no _ _ (shut_if (c == 0) client.ConnectionCloseOk client.Other refl refl) e
end_frame (frame.Method c (method.Channel m)) e = no _ _ (shut_channel c m) e
end_frame (frame.Method c (method.Access access.RequestOk)) e = absurd cc
end_frame (frame.Method c (method.Access (access.Request a b d g h i))) e = absurd cc
end_frame (frame.Method c (method.Exchange m)) e = no _ _ (shut_exchange m) e
end_frame (frame.Method c (method.Queue m)) e = no _ _ (shut_queue m) e
end_frame (frame.Method c (method.Basic m)) e = no _ _ (shut_basic m) e
end_frame (frame.Method c (method.Confirm m)) e = no _ _ (shut_confirm m) e
end_frame (frame.Method c (method.Tx m)) e = no _ _ (shut_tx m) e

-- ---- a close-ok is owed only where a close was read

abbrev Keeps : Broker → Broker → Type 0
Keeps b b' = owes_connection b'.connection ≡ true → owes_connection b.connection ≡ true

broken_keeps : (b : Broker) → Keeps b (after_break b)
broken_keeps b h = absurd cc

ok_keeps : (k : Connection) → owes_connection (after_client_close_ok k) ≡ true → owes_connection k ≡ true
ok_keeps connection.StoppedOwes h = refl
ok_keeps _ h = absurd cc

piece_keeps : (d : ℕ) (x : Content) (b : Broker) → Keeps b (with_piece d x b)
piece_keeps d x b = elim (is_idle x) as (λ v. owes_connection (cond v (record (number_on d b) { reading = None }) (record b { reading = Some (d, x) })).connection ≡ true → owes_connection b.connection ≡ true) [ true ↦ λ h. h | false ↦ λ h. h ]

up_keeps : (l : Left) (b : Broker) (r : Option (ℕ × Content)) → Keeps b (read_up r (channel_of l.frame) l.frame (client_frame l.frame) b)
up_keeps l b (Some r) =
    let d : ℕ = channel_of l.frame in
    let u : ClientFrame = client_frame l.frame in
    of_if (Keeps b) (r.0 == d) _ _
    (λ _. of_if (Keeps b) (admits b.frame_max r.1 u) _ _ (λ _. piece_keeps d (content_after r.1 u) b) (λ _. broken_keeps b))
    (λ _. broken_keeps b)
up_keeps l b None = of_if (Keeps b) (breaks_in (channel_at b (channel_of l.frame)).peer (client_frame l.frame)) _ _ (λ _. broken_keeps b) (λ _ h. h)

abbrev Reads : Left → Broker → Broker → Type 0
Reads l b b' = owes_connection b'.connection ≡ true → (owes_connection b.connection ≡ true) ⊎ (is_end_left l ≡ true)

read_reads : (l : Left) (b : Broker) → Reads l b (read b l.frame)
read_reads l b =
    of_if (Reads l b) (is_connection_close (client_frame l.frame)) _ _ (λ e _. inr (end_frame l.frame e))
    (λ _. of_if (Reads l b) (is_connection_close_ok (client_frame l.frame)) _ _ (λ _ h. inl (ok_keeps b.connection h))
    (λ _. of_if (Reads l b) (is_up b.connection) _ _ (λ _ h. inl (up_keeps l b b.reading h))
    (λ _. of_if (Reads l b) (is_leaving b.connection) _ _ (λ _ h. inl (broken_keeps b h)) (λ _ h. inl h))))

own_keeps : (k : Connection) → owes_connection (after_own_close_ok k) ≡ true → owes_connection k ≡ true
own_keeps connection.StoppedOwes h = refl
own_keeps _ h = absurd cc

send_keeps : (f : Frame) (b : Broker) → Keeps b (send b f)
send_keeps f b =
    let a : ℕ = channel_of f in
    let t : List ℕ = tag_of f in
    let d : BrokerFrame = broker_frame f in
    let after_close : Broker = record b { connection = connection.Stopped } in
    let after_ok : Broker = record b { connection = after_own_close_ok b.connection } in
    let other : Broker = record (send_on a t d b) { reading = cond (is_close d && is_read_on a b.reading) None b.reading } in
    elim (sends.is_connection_close d) as (λ v. Keeps b (cond v after_close (cond (sends.is_connection_close_ok d) after_ok other))) [
      | true ↦ λ h. absurd cc
      | false ↦ elim (sends.is_connection_close_ok d) as (λ v. Keeps b (cond v after_ok other)) [ true ↦ λ h. own_keeps b.connection h | false ↦ λ h. h ]
    ]

-- the connection's close-ok is sent where it is owed
ok_owed : (f : Frame) (b : Broker) → may b f ≡ true → is_end_ok_as (broker_frame f) ≡ true → owes_connection b.connection ≡ true
ok_owed f b = by (broker_frame f)
  where
    by : (d : BrokerFrame) → cond (sends.is_connection_close d) (is_up b.connection) (cond (sends.is_connection_close_ok d) (owes_connection b.connection) (is_up b.connection && may_in (channel_at b (channel_of f)).peer (channel_at b (channel_of f)) (tag_of f) d)) ≡ true → is_end_ok_as d ≡ true → owes_connection b.connection ≡ true
    by broker.ConnectionCloseOk m h = m
    by _ m h = absurd cc

-- ---- all that were sent

abbrev pub AreOwed : List Deed → List Deed → Type 0
AreOwed seen [] = Unit {0}
AreOwed seen (Read l ∷ ds) = AreOwed (seen ++ Read l ∷ []) ds
AreOwed seen (Sent f ∷ ds) = (is_end_ok_as (broker_frame f) ≡ true → 1 ≤ length (ends_in seen)) × AreOwed (seen ++ Sent f ∷ []) ds

owed-push : (seen o : List Deed) (d : Deed) → AreOwed seen o → AreOwed (seen ++ o) (d ∷ []) → AreOwed seen (o ++ d ∷ [])
owed-push seen [] d h k = subst (λ v. AreOwed v (d ∷ [])) (append-nil seen) k
owed-push seen (Read l ∷ o) d h k = owed-push (seen ++ Read l ∷ []) o d h (subst (λ v. AreOwed v (d ∷ [])) (sym (append_assoc seen (Read l ∷ []) o)) k)
owed-push seen (Sent f ∷ o) d h k = (h.0, owed-push (seen ++ Sent f ∷ []) o d h.1 (subst (λ v. AreOwed v (d ∷ [])) (sym (append_assoc seen (Sent f ∷ []) o)) k))

owed-at : (seen before behind : List Deed) (f : Frame) → AreOwed seen (before ++ Sent f ∷ behind) → is_end_ok_as (broker_frame f) ≡ true → 1 ≤ length (ends_in (seen ++ before))
owed-at seen [] behind f h r = subst (λ v. 1 ≤ length (ends_in v)) (sym (append-nil seen)) (h.0 r)
owed-at seen (Read l ∷ before) behind f h r = subst (λ v. 1 ≤ length (ends_in v)) (append_assoc seen (Read l ∷ []) before) (owed-at (seen ++ Read l ∷ []) before behind f h r)
owed-at seen (Sent g ∷ before) behind f h r = subst (λ v. 1 ≤ length (ends_in v)) (append_assoc seen (Sent g ∷ []) before) (owed-at (seen ++ Sent g ∷ []) before behind f h.1 r)

record Okay (b : Broker) (ds : List Deed) : Type 0 where
  pub owed : owes_connection b.connection ≡ true → 1 ≤ length (ends_in ds)
  pub all : AreOwed [] ds

ends-more : (ds : List Deed) (d : Deed) → length (ends_in (ds ++ d ∷ [])) ≡ length (ends_in ds) + length (ends_in (d ∷ []))
ends-more ds d = ap (λ v. length (filter is_end_left v)) (lefts-append ds (d ∷ [])) ∙ (ap length (filter-append is_end_left (lefts ds) (lefts (d ∷ []))) ∙ length-append (ends_in ds) (ends_in (d ∷ [])))

okay_read : (b : Broker) (ds : List Deed) (l : Left) → Okay b ds → Okay (read b l.frame) (ds ++ Read l ∷ [])
okay_read b ds l k = record {
  owed = λ h. (let more = ends-more ds (Read l) in elim (read_reads l b h) [
    | inl o ↦ (let one = k.owed o in omega (arith, more, one))
    | inr e ↦ (let one : length (ends_in (Read l ∷ [])) ≡ 1 = ap (λ (v : Bool). length (cond v (l ∷ []) [])) e in omega (arith, more, one))
  ]);
  all = owed-push [] ds (Read l) k.all tt;
}

okay_send : (b : Broker) (ds : List Deed) (f : Frame) → may b f ≡ true → Okay b ds → Okay (send b f) (ds ++ Sent f ∷ [])
okay_send b ds f m k = record {
  owed = λ h. (let more = ends-more ds (Sent f) in let one = k.owed (send_keeps f b h) in omega (arith, more, one));
  all = owed-push [] ds (Sent f) k.all ((λ r. k.owed (ok_owed f b m r)), tt);
}

loss_keeps : (k : Connection) → owes_connection (connection_after_loss k) ≡ true → owes_connection k ≡ true
loss_keeps connection.Broken h = absurd cc
loss_keeps _ h = absurd cc

more_none : (b : Broker) (ds : List Deed) → Okay b ds → Okay b (ds ++ [])
more_none b ds k = subst (Okay b) (sym (append-nil ds)) k

client_okay : {S : Type 0} (v : Bool) (j k : Joint S) (ds : List Deed) → k.broker ≡ j.broker → Okay j.broker ds → Okay (cond v k j).broker (ds ++ [])
client_okay true j k ds e h = more_none _ ds (subst (λ b. Okay b ds) (sym e) h)
client_okay false j k ds e h = more_none _ ds h

read_okay : {S : Type 0} (ls : List Left) (j : Joint S) (ds : List Deed) → Okay j.broker ds → Okay (read_first ls j).broker (ds ++ reads_of (front ls))
read_okay [] j ds h = more_none _ ds h
read_okay (l ∷ ls) j ds h = okay_read j.broker ds l h

send_okay : {S : Type 0} (f : Frame) (j : Joint S) (ds : List Deed) → Okay j.broker ds → Okay (cond (may j.broker f) (send_down f j) j).broker (ds ++ cond (may j.broker f) (Sent f ∷ []) [])
send_okay f j ds h = elim (may j.broker f) as (λ v. may j.broker f ≡ v → Okay (cond v (send_down f j) j).broker (ds ++ cond v (Sent f ∷ []) [])) [ true ↦ λ m. okay_send j.broker ds f m h | false ↦ λ m. more_none _ ds h ] refl

deliver_okay : {S : Type 0} (m : Way S) (fs : List Frame) (j : Joint S) (ds : List Deed) → Okay j.broker ds → Okay (deliver_first m fs j).broker (ds ++ [])
deliver_okay m [] j ds h = more_none _ ds h
deliver_okay m (f ∷ fs) j ds h = more_none _ ds h

okay_after : {S : Type 0} (m : Way S) (s : Step) (j : Joint S) (ds : List Deed) → Okay j.broker ds → Okay (after m s j).broker (ds ++ deed_in s j)
okay_after m (step.Client e) j ds h = client_okay (is_lawful e) j (client_step m e j) ds refl h
okay_after m step.Read j ds h = read_okay j.up j ds h
okay_after m (step.Send f) j ds h = send_okay f j ds h
okay_after m step.Deliver j ds h = deliver_okay m j.down j ds h
okay_after m step.Lose j ds h = more_none _ ds (record { owed = λ o. h.owed (loss_keeps j.broker.connection o); all = h.all })

okay_all : {S : Type 0} (m : Way S) (ss : List Step) (j : Joint S) (ds : List Deed) → Okay j.broker ds → Okay (run m ss j).broker (ds ++ along m deed_in ss j)
okay_all m [] j ds h = more_none _ ds h
okay_all m (s ∷ ss) j ds h = subst (Okay _) (append_assoc ds (deed_in s j) (along m deed_in ss (after m s j))) (okay_all m ss (after m s j) (ds ++ deed_in s j) (okay_after m s j ds h))

-- at each close-ok of the connection that was sent a close of it was read
pub end_owed_in : (n : ℕ) (ss : List Step) (before behind : List Deed) (f : Frame) → deeds n ss ≡ before ++ Sent f ∷ behind → is_end_ok_as (broker_frame f) ≡ true → 1 ≤ length (ends_in before)
end_owed_in n ss before behind f e r = owed-at [] before behind f (subst (AreOwed []) e (okay_all (by_history n) ss (new_joint [] n) [] (record { owed = λ h. absurd cc; all = tt })).all) r
