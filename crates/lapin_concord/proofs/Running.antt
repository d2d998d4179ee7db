-- Each step of a joined run is a run of the pair of machines, so what holds of the pair holds of every joined run.
use Rattle.std.proofs.Common.{◌≡◌, ℕ, ◌<◌, ◌≤◌, Bool, true, false, cond, ◌==◌, List, [], ◌∷◌, ◌++◌, map, refl, sym, ◌∙◌, ap, ap₂, subst, subst₂, append-nil, Option, Some, None, eq-eqb, arith}
use Rattle.std.specs.List.{find, list_any}
use Rattle.std.specs.Option.{option_map}
use Rattle.lapin_types.specs.declared.event.Event.{Event}
use Rattle.lapin_types.specs.declared.event.Event.TheVariants as event
use Rattle.lapin_types.specs.declared.record.Record.{Record}
use Rattle.lapin_types.specs.declared.leaving.Left.{Left}
use Rattle.lapin_types.specs.Types.{Frame}
use Rattle.lapin_rules.specs.Frames.{MethodEntry, RestEntry, left_publish}
use Rattle.lapin_rules.specs.Leaving.{may_begin, handed_of}
use Rattle.lapin_rules.specs.Flow.{begins_on}
use Rattle.lapin_rules.specs.Handing.{handed_out, left_marks}
use Rattle.lapin_rules.specs.Incoming.{frame_class, frame_method, incoming_of}
use Rattle.lapin_rules.specs.Unexpected.{refused}
use Rattle.lapin_rules.specs.Readings.{Readings}
use Rattle.lapin_rules.specs.Wire.{Wire, start}
use Rattle.lapin_rules.specs.Consumers.{delegate_deliveries, job_deliveries}
use Rattle.lapin_rules.specs.Events.{record_of, after_event}
use Rattle.lapin_rules.specs.Loss.{after_lost, lost_deliveries, lost_marks}
use Rattle.lapin_rules.specs.Ends.{down}
use Rattle.lapin_rules.specs.Phases.{is_lost, is_up as is_open_link}
use Rattle.lapin_rules.specs.declared.phases.ConnectionPhase.TheVariants as link
use Rattle.lapin_rules.specs.ConfirmMarks.{ConfirmMark}
use Rattle.lapin_confirm.specs.Follows.{CameAfter}
use Rattle.lapin_delivery.specs.Marks as deliveries
use Rattle.lapin_machine.specs.World.{World, new_world, told_by, next, told_anew, readings_of, full_in}
use Rattle.lapin_machine.proofs.Back.{next_none, still_none}
use Rattle.lapin_machine.proofs.Handed.{handed_told}
use Rattle.lapin_machine.proofs.Standing.{new_stands}
use Rattle.lapin_broker.specs.declared.content.Content.{Content}
use Rattle.lapin_broker.specs.declared.frames.ClientFrame.{ClientFrame}
use Rattle.lapin_broker.specs.declared.peer.Connection.{Connection}
use Rattle.lapin_broker.specs.declared.peer.Connection.TheVariants as connection
use Rattle.lapin_broker.specs.declared.peer.Peer.TheVariants as peer
use Rattle.lapin_broker.specs.Contents.{is_idle}
use Rattle.lapin_broker.specs.Frames.{channel_of, client_frame, broker_frame}
use Rattle.lapin_broker.specs.States.{Broker, channel_at, after_break, after_loss, is_up, is_leaving, is_broken as is_broken_broker}
use Rattle.lapin_broker.specs.Reads.{is_connection_close, is_connection_close_ok, admits, content_after, with_piece, read_piece, breaks_in, read_up, read_down, read}
use Rattle.lapin_broker.specs.Sends.{may, send}
use Rattle.lapin_broker.specs.Sends as sends
use Rattle.lapin_broker.specs.Sound.{IsReadOpen}
use Rattle.lapin_joint.specs.declared.step.Step.{Step}
use Rattle.lapin_joint.specs.declared.step.Step.TheVariants as step
use Rattle.lapin_joint.specs.Joint.{Joint, new_joint, is_lawful, left_alone, handed_by, read_first, deliver_first, after, read_report, deliver_report, report, reports, run}
use Rattle.lapin_machine.specs.Way.{by_machine}
use Rattle.lapin_joint.specs.declared.step.Reported.{Reported}
use Rattle.lapin_joint.specs.declared.step.Reported.TheVariants as reported
use Rattle.lapin_pairs.specs.Machine as pair
use Rattle.lapin_pairs.specs.Channel as kept
use Rattle.lapin_pairs.specs.Every.{UpOn, OnU, conn_u, of_u, All, ReadA, SendA, happens_a, sides_after, reads_a, sends_a, conn_a, start_a}
use Rattle.lapin_pairs.specs.Asking.{U2, B2, reads2b, asking}
use Rattle.lapin_pairs.specs.Tagging.{tagging}
use Rattle.lapin_pairs.proofs.Pairs.{tight, reads, unbroken, whole, live, all_read, not_broken}
use Rattle.lapin_pairs.proofs.Erase.{map-append}
use Rattle.lapin_pairs.proofs.Every.{joint_start}
use Rattle.lapin_pairs.proofs.Asking.{Asks, Calm, asks_fact, calm_now}
use Rattle.lapin_concord.specs.Frames.{up_frame, up_frames, down_frame, IsSent, IsGiven}
use Rattle.lapin_concord.specs.Peers.{connection_as, peer_as, content_as, reading_as, IsPart, IsReady}
use Rattle.lapin_concord.specs.Wires.{waits_as, pair_as}
use Rattle.lapin_concord.specs.Held.{IsLinked, Held, AreRestSent, AreMethodsSent}
use Rattle.lapin_concord.specs.Refusals.{is_refusal, reports_refusal}
use Rattle.lapin_concord.specs.Sound.{pair_of, AreUpSent, AreDownGiven}
use Rattle.lapin_concord.proofs.Views.{Told, Untold, Resets, Delivers, J, j_keeps, Follows, joint_follows}
use Rattle.lapin_concord.proofs.Reading.{IsPlaced, MayRead, reads_as}
use Rattle.lapin_concord.proofs.Sending.{sends_as}
use Rattle.lapin_concord.proofs.Calling.{held_deliveries, Goes, goes_none, goes_deliveries}
use Rattle.lapin_concord.proofs.Leaving.{alone, told_next, next_hands}
use Rattle.lapin_concord.proofs.Down.{lost_link, lose_loses}
use Rattle.lapin_concord.proofs.Delivering.{Delivered, deliver_comes}
use Rattle.lapin_concord.proofs.Events.{call_event, acker_event, drop_event, max_kept}
use Rattle.lapin_concord.proofs.Pieces.{piece_kind, idle_not}
use Rattle.lapin_concord.proofs.Tallies.{Tallied, tagged_run, tallied_own, tallied_read, tallied_send, tallied_new}
use Rattle.lapin_concord.proofs.Incomes.{sorted}
use Rattle.lapin_concord.proofs.Lifting.{bare}
use Rattle.lapin_concord.proofs.Noting.{has_select, AreNoted}
use Rattle.lapin_concord.proofs.Marking.{Marked, marked-next, shut_any}
use Rattle.lapin_concord.proofs.Departing.{next_noted}
use Rattle.lapin_concord.proofs.Receiving.{comes_noted}
use Rattle.lapin_concord.proofs.Accounts.{is_quiet, told_event, quiet_noted, marked_same, read_noted, send_noted, comes_fine}
use Rattle.lapin_concord.proofs.Lined.{Lined, open_lined, lined_run, next_piece}

-- ---- what holds

pub record Sound (j : Joint World) : Type 0 where
  pub held : Held j.session.wire
  pub room : 8 < j.session.wire.frame_max
  pub same : j.broker.frame_max ≡ j.session.wire.frame_max
  pub ready : IsReady j.broker
  pub joint : J (pair_of j)
  pub lined : Lined (pair_of j)
  pub tally : Tallied (pair_of j) j.broker
  pub marked : Marked j.session tally.pair
  pub up : AreUpSent j.session.wire.frame_max j.up
  pub down : AreDownGiven j.down
  pub unreturned : j.session.returned ≡ None

lined_follows : (k : Told) (w v : All asking) → Follows k w v → J w → Lined w → Lined v
lined_follows k w v f g l = subst Lined f.ends (lined_run w f.steps g l)

up-push : (most : ℕ) (ls ks : List Left) → AreUpSent most ls → AreUpSent most ks → AreUpSent most (ls ++ ks)
up-push most [] ks h k = k
up-push most (l ∷ ls) ks h k = (h.0, up-push most ls ks h.1 k)

down-push : (fs : List Frame) (f : Frame) → AreDownGiven fs → IsGiven (broker_frame f) → AreDownGiven (fs ++ f ∷ [])
down-push [] f h k = (k, tt)
down-push (x ∷ xs) f h k = (h.0, down-push xs f h.1 k)

-- ---- events of the client

event_goes : (b : Wire) (see : Readings) (e : Event) → is_quiet e ≡ true → Held b → Goes (told_event b (record_of b see e) e) b (after_event b e (record_of b see e))
event_goes b see (event.Call c k) q h = call_event c k (record_of b see (event.Call c k)) b h
event_goes b see (event.Next flow) q h = absurd cc
event_goes b see (event.Receive f) q h = absurd cc
event_goes b see (event.PollTicket n) q h = goes_none b h
event_goes b see (event.PollConfirm n) q h = goes_none b h
event_goes b see (event.PollConsumer n) q h = goes_deliveries Untold (deliveries.Polled n ∷ []) b b (goes_none b h)
event_goes b see (event.PollWait c) q h = goes_none b h
event_goes b see (event.AsideTicket n) q h = goes_none b h
event_goes b see (event.AsideConfirm n) q h = goes_none b h
event_goes b see (event.Acker n k) q h = acker_event n k b h
event_goes b see (event.Delegate n) q h = goes_deliveries Untold (delegate_deliveries n b) b b (goes_none b h)
event_goes b see (event.DropConsumer n) q h = drop_event n b h
event_goes b see event.NextJob q h = goes_deliveries Untold (job_deliveries b) b b (goes_none b h)
event_goes b see (event.State c) q h = goes_none b h
event_goes b see event.Lost q h = absurd cc

-- what leaves is what a client sends
handed_sent : (t : ℕ → Bool) (b : Wire) (rest : List RestEntry) (methods : List MethodEntry) → b.rest ≡ rest → b.methods ≡ methods → Held b → AreUpSent b.frame_max (alone (handed_of t rest methods b.publishes))
handed_sent t b (f ∷ fs) ms r m h = ((subst (AreRestSent b.frame_max) r h.rest).0, tt)
handed_sent t b [] (x ∷ ms) r m h = ((subst (AreMethodsSent b.frame_max) m h.methods).0, tt)
handed_sent t b [] [] r m h = elim (find (may_begin t) b.publishes) as (λ o. AreUpSent b.frame_max (alone (option_map left_publish o))) [ None ↦ tt | Some p ↦ (tt, tt) ]

alone_is : (o : Option Left) → alone o ≡ left_alone o
alone_is None = refl
alone_is (Some l) = refl

-- a joined run with this session's wire and links after a move, by what the pair follows
moves : (k : Told) (j : Joint World) (w : World) (us : List Left) (ds : List Frame) (s : Sound j) → w.wire.frame_max ≡ j.session.wire.frame_max → w.returned ≡ None → Held w.wire → (f : Follows k (pair_of j) (pair_as w.wire j.broker us ds)) → (bare (tagged_run f.steps s.tally.pair) ≡ pair_as w.wire j.broker us ds → Marked w (tagged_run f.steps s.tally.pair)) → AreUpSent j.session.wire.frame_max us → AreDownGiven ds → Sound (record { session = w; broker = j.broker; up = us; down = ds })
moves k j w us ds s m n h f x u d =
    let y = tallied_own k (pair_of j) (pair_as w.wire j.broker us ds) j.broker f s.tally in
    record {
      held = h;
      room = subst (λ k. 8 < k) (sym m) s.room;
      same = s.same ∙ sym m;
      ready = s.ready;
      joint = joint_follows k (pair_of j) (pair_as w.wire j.broker us ds) f s.joint;
      lined = lined_follows k (pair_of j) (pair_as w.wire j.broker us ds) f s.joint s.lined;
      tally = y.0;
      marked = subst (Marked w) (sym y.1) (x (ap bare (sym y.1) ∙ y.0.is));
      up = subst (λ k. AreUpSent k us) (sym m) u;
      down = d;
      unreturned = n;
    }

wire_is : (w : World) (e : Event) → w.returned ≡ None → (next w e).wire ≡ after_event w.wire e (told_anew w e)
wire_is w e n = ap (λ (v : World). v.wire) (next_none w e n)

max_is : (w : World) (e : Event) → w.returned ≡ None → (next w e).wire.frame_max ≡ w.wire.frame_max
max_is w e n = ap (λ (b : Wire). b.frame_max) (wire_is w e n) ∙ max_kept w.wire e (told_anew w e)

quiet_sound : (j : Joint World) (e : Event) → is_quiet e ≡ true → Sound j → Sound (record { session = next j.session e; broker = j.broker; up = j.up ++ []; down = j.down })
quiet_sound j e q s =
    let w : World = j.session in
    let g = event_goes w.wire (readings_of w.confirm_state w.slots) e q s.held in
    let i = wire_is w e s.unreturned in
    let us = append-nil j.up in
    let f : Follows (told_event w.wire (told_anew w e) e) (pair_of j) (pair_as (next w e).wire j.broker (j.up ++ []) j.down) = subst₂ (λ b ls. Follows (told_event w.wire (told_anew w e) e) (pair_of j) (pair_as b j.broker ls j.down)) (sym i) (sym us) (g.follows j.broker j.up j.down) in
    moves (told_event w.wire (told_anew w e) e) j (next w e) (j.up ++ []) j.down s (max_is w e s.unreturned) (still_none w e s.unreturned) (subst Held (sym i) g.held)
    f
    (λ z. marked-next w e s.tally.pair (tagged_run f.steps s.tally.pair) s.unreturned (λ ms came k. quiet_noted w.wire e (told_anew w e) f.steps s.tally.pair j.broker j.up j.down ms q f.own f.told s.tally.is (z ∙ ap₂ (λ b ls. pair_as b j.broker ls j.down) i us) g.held k) s.marked)
    (subst (AreUpSent w.wire.frame_max) (sym us) s.up) s.down

next_sound : (j : Joint World) (flow : Bool) → Sound j → Sound (record { session = next j.session (event.Next flow); broker = j.broker; up = j.up ++ handed_by by_machine (event.Next flow) j.session; down = j.down })
next_sound j flow s =
    let w : World = j.session in
    let e : Event = event.Next flow in
    let t : ℕ → Bool = begins_on flow (full_in w.confirm_state) w.wire in
    let x = next_hands t w.wire s.room s.held in
    let i = wire_is w e s.unreturned in
    let us : j.up ++ alone (handed_out t w.wire) ≡ j.up ++ left_alone (handed_out t w.wire) = ap (λ ls. j.up ++ ls) (alone_is (handed_out t w.wire)) in
    let f : Follows (told_next t w.wire.rest w.wire.methods w.wire.publishes) (pair_of j) (pair_as (next w e).wire j.broker (j.up ++ left_alone (handed_out t w.wire)) j.down) = subst₂ (λ b ls. Follows (told_next t w.wire.rest w.wire.methods w.wire.publishes) (pair_of j) (pair_as b j.broker ls j.down)) (sym i) us (x.follows j.broker j.up j.down) in
    moves (told_next t w.wire.rest w.wire.methods w.wire.publishes) j (next w e) (j.up ++ left_alone (handed_out t w.wire)) j.down s (max_is w e s.unreturned) (still_none w e s.unreturned) (subst Held (sym i) x.held)
    f
    (λ z. marked-next w e s.tally.pair (tagged_run f.steps s.tally.pair) s.unreturned (subst (λ ks. (ms : List ConfirmMark) → CameAfter ms ks → AreNoted s.tally.pair ms → AreNoted (tagged_run f.steps s.tally.pair) (ms ++ ks)) (sym (ap left_marks (handed_told t w.wire)))
    (λ ms came k. next_noted s.tally.pair w.wire j.broker j.up j.down ms s.tally.is s.held k t f.steps w.wire.rest w.wire.methods refl refl f.own f.told came)) s.marked)
    (subst (AreUpSent w.wire.frame_max) us (up-push w.wire.frame_max j.up (alone (handed_out t w.wire)) s.up (handed_sent t w.wire w.wire.rest w.wire.methods refl refl s.held))) s.down

client_sound : (j : Joint World) (e : Event) → is_lawful e ≡ true → Sound j → Sound (record { session = next j.session e; broker = j.broker; up = j.up ++ handed_by by_machine e j.session; down = j.down })
client_sound j (event.Next flow) l s = next_sound j flow s
client_sound j (event.Receive f) l s = absurd cc
client_sound j event.Lost l s = absurd cc
client_sound j (event.Call c k) l s = quiet_sound j (event.Call c k) refl s
client_sound j (event.PollTicket n) l s = quiet_sound j (event.PollTicket n) refl s
client_sound j (event.PollConfirm n) l s = quiet_sound j (event.PollConfirm n) refl s
client_sound j (event.PollConsumer n) l s = quiet_sound j (event.PollConsumer n) refl s
client_sound j (event.PollWait c) l s = quiet_sound j (event.PollWait c) refl s
client_sound j (event.AsideTicket n) l s = quiet_sound j (event.AsideTicket n) refl s
client_sound j (event.AsideConfirm n) l s = quiet_sound j (event.AsideConfirm n) refl s
client_sound j (event.Acker n k) l s = quiet_sound j (event.Acker n k) refl s
client_sound j (event.Delegate n) l s = quiet_sound j (event.Delegate n) refl s
client_sound j (event.DropConsumer n) l s = quiet_sound j (event.DropConsumer n) refl s
client_sound j event.NextJob l s = quiet_sound j event.NextJob refl s
client_sound j (event.State c) l s = quiet_sound j (event.State c) refl s

-- ---- the broker's greatest frame

max_chosen : (t : Bool) (x y : Broker) (n : ℕ) → x.frame_max ≡ n → y.frame_max ≡ n → (cond t x y).frame_max ≡ n
max_chosen true x y n a b = a
max_chosen false x y n a b = b

max_read_up : (r : Option (ℕ × Content)) (c : ℕ) (f : Frame) (u : ClientFrame) (b : Broker) → (read_up r c f u b).frame_max ≡ b.frame_max
max_read_up None c f u b = max_chosen (breaks_in (channel_at b c).peer u) (after_break b) _ b.frame_max refl refl
max_read_up (Some r) c f u b = max_chosen (r.0 == c) (read_piece c r.1 u b) (after_break b) b.frame_max
    (max_chosen (admits b.frame_max r.1 u) (with_piece c (content_after r.1 u) b) (after_break b) b.frame_max (max_chosen (is_idle (content_after r.1 u)) _ _ b.frame_max refl refl) refl) refl

max_read : (b : Broker) (f : Frame) → (read b f).frame_max ≡ b.frame_max
max_read b f = max_chosen (is_connection_close (client_frame f)) _ _ b.frame_max refl (max_chosen (is_connection_close_ok (client_frame f)) _ _ b.frame_max refl
    (max_chosen (is_up b.connection) (read_up b.reading (channel_of f) f (client_frame f) b) (read_down b) b.frame_max (max_read_up b.reading (channel_of f) f (client_frame f) b) (max_chosen (is_leaving b.connection) (after_break b) b b.frame_max refl refl)))

max_send : (b : Broker) (f : Frame) → (send b f).frame_max ≡ b.frame_max
max_send b f = max_chosen (sends.is_connection_close (broker_frame f)) _ _ b.frame_max refl (max_chosen (sends.is_connection_close_ok (broker_frame f)) _ _ b.frame_max refl refl)

-- ---- the broker reads

tight_next : (w : All asking) (k : UpOn U2) (ks : List (UpOn U2)) → w.up ≡ k ∷ ks → J w → pair.is_broken (tight w.broker (conn_u k)) ≡ false
tight_next w k ks e g =
    let un : pair.is_broken (reads w.broker (map conn_u w.up ++ map conn_u w.unsent)) ≡ false = whole w.conn (all_read (conn_a asking w)) (live (conn_a asking w) g.conn) in
    unbroken (tight w.broker (conn_u k)) (map conn_u ks ++ map conn_u w.unsent) (ap (λ us. pair.is_broken (reads w.broker (map conn_u us ++ map conn_u w.unsent))) (sym e) ∙ un)

unspoiled : (w : All asking) (c : ℕ) (u : U2) (ks : List (UpOn U2)) → w.up ≡ OnU c u ∷ ks → w.broker ≡ pair.Open → J w → (pair.is_broken (reads2b (w.sides c) u).peer ≡ false) × (kept.is_none (reads2b (w.sides c) u).reading ≡ false)
unspoiled w c u ks e o g =
    let v : All asking = happens_a asking w ReadA in
    let r : v ≡ record w { up = ks; broker = pair.read w.broker pair.UOther; sides = sides_after asking w.broker w.sides (OnU c u) } = ap (reads_a asking w) e in
    let x : v.broker ≡ pair.Open = ap (λ (z : All asking). z.broker) r ∙ ap (λ p. pair.read p pair.UOther) o in
    let y : v.sides c ≡ reads2b (w.sides c) u = ap (λ (z : All asking). z.sides c) r ∙ (ap (λ p. sides_after asking p w.sides (OnU c u) c) o ∙ rw (eq-eqb c c refl) refl) in
    let n = calm_now (v.sides c) (of_u c v.up) ((j_keeps w ReadA g).sides x c) in
    subst (λ (b : B2). (pair.is_broken b.peer ≡ false) × (kept.is_none b.reading ≡ false)) y n

placed_in : (j : Joint World) (l : Left) (ls : List Left) (r : Option (ℕ × Content)) → j.up ≡ l ∷ ls → j.broker.reading ≡ r → Sound j → connection_as j.broker.connection ≡ pair.Open → (e : ℕ) (v : U2) → up_frame l.frame ≡ OnU e v → IsPlaced r (channel_of l.frame) (client_frame l.frame)
placed_in j l ls None k q s o e v y = tt
placed_in j l ls (Some r) k q s o e v y =
    let b : Broker = j.broker in
    let p : (channel_at b r.0).peer ≡ peer.Open = subst (IsReadOpen b.channels) q s.ready.sound in
    let i : is_idle r.1 ≡ false = subst IsPart q s.ready.part in
    let way : (pair_of j).up ≡ OnU e v ∷ up_frames ls = ap up_frames k ∙ ap (λ x. x ∷ up_frames ls) y in
    let reading : reading_as r.0 b.reading ≡ Some (content_as r.1) = ap (reading_as r.0) q ∙ rw (eq-eqb r.0 r.0 refl) refl in
    let n = next_piece (pair_of j) r.0 e v (up_frames ls) (content_as r.1) s.joint s.lined o way (ap peer_as p) reading (idle_not r.1 i) in
    piece_kind (channel_of l.frame) r.0 (client_frame l.frame) n.0 (y ∙ n.1) n.2

may_read : (j : Joint World) (l : Left) (ls : List Left) → j.up ≡ l ∷ ls → Sound j → MayRead j.broker (channel_of l.frame) (client_frame l.frame)
may_read j l ls k s =
    let way : (pair_of j).up ≡ up_frame l.frame ∷ up_frames ls = ap up_frames k in
    record {
      ready = s.ready;
      tight_ = tight_next (pair_of j) (up_frame l.frame) (up_frames ls) way s.joint;
      whole = λ o e v y. unspoiled (pair_of j) e v (up_frames ls) (way ∙ ap (λ x. x ∷ up_frames ls) y) o s.joint;
      sent = subst (λ m. IsSent m (client_frame l.frame)) (sym s.same) (subst (AreUpSent j.session.wire.frame_max) k s.up).0;
      placed = λ o e v y. placed_in j l ls j.broker.reading k refl s o e v y;
    }

reads_sound : (j : Joint World) (ls : List Left) → j.up ≡ ls → Sound j → Sound (read_first ls j)
reads_sound j [] k s = s
reads_sound j (l ∷ ls) k s =
    let r = reads_as j.broker l.frame (may_read j l ls k s) in
    let w : All asking = pair_of j in
    let d : Broker = read j.broker l.frame in
    let f : happens_a asking w ReadA ≡ pair_as j.session.wire d ls j.down = ap (reads_a asking w) (ap up_frames k) ∙ (λ i. record w { up = up_frames ls; broker = sym r.0.conn i; sides = sym r.0.sides i }) in
    let y = tallied_read w _ j.broker l.frame (up_frames ls) refl refl (ap up_frames k) (may_read j l ls k s) f s.tally in
    record {
      held = s.held;
      room = s.room;
      same = max_read j.broker l.frame ∙ s.same;
      ready = r.1;
      joint = subst J f (j_keeps w ReadA s.joint);
      lined = subst Lined f (lined_run w (ReadA ∷ []) s.joint s.lined);
      tally = y.0;
      marked = subst (Marked j.session) (sym y.1) (marked_same j.session s.tally.pair (happens_a tagging s.tally.pair ReadA) (read_noted s.tally.pair) s.marked);
      up = (subst (AreUpSent j.session.wire.frame_max) k s.up).1;
      down = s.down;
      unreturned = s.unreturned;
    }

-- ---- the broker sends

sends_sound : (j : Joint World) (f : Frame) → may j.broker f ≡ true → Sound j → Sound (record { session = j.session; broker = send j.broker f; up = j.up; down = j.down ++ f ∷ [] })
sends_sound j f m s =
    let r = sends_as j.broker f m s.ready in
    let w : All asking = pair_of j in
    let d : Broker = send j.broker f in
    let k : happens_a asking w (SendA (down_frame f)) ≡ pair_as j.session.wire d j.up (j.down ++ f ∷ []) =
    (ap (λ t. cond t (sends_a asking w (down_frame f)) w) r.0.may ∙ (λ i. record w { broker = sym r.0.conn i; sides = sym r.0.sides i; down = sym (map-append down_frame j.down (f ∷ [])) i })) in
    let y = tallied_send w _ j.broker f refl refl m s.ready r.0.may k s.tally in
    record {
      held = s.held;
      room = s.room;
      same = max_send j.broker f ∙ s.same;
      ready = r.1;
      joint = subst J k (j_keeps w (SendA (down_frame f)) s.joint);
      lined = subst Lined k (lined_run w (SendA (down_frame f) ∷ []) s.joint s.lined);
      tally = y.0;
      marked = subst (Marked j.session) (sym y.1) (marked_same j.session s.tally.pair (happens_a tagging s.tally.pair (SendA (down_frame f))) (send_noted s.tally.pair (down_frame f)) s.marked);
      up = s.up;
      down = down-push j.down f s.down r.0.given;
      unreturned = s.unreturned;
    }

-- ---- the session receives

abbrev pub seen : World → Readings
seen w = readings_of w.confirm_state w.slots

pub delivered : (j : Joint World) (f : Frame) (fs : List Frame) → j.down ≡ f ∷ fs → Sound j → Delivered j.session.wire (seen j.session) (refused (frame_class f) (frame_method f)) f (incoming_of f) j.broker j.up fs
delivered j f fs k s = deliver_comes j.session.wire (seen j.session) (refused (frame_class f) (frame_method f)) f j.broker j.up fs s.held (subst AreDownGiven k s.down).0 (subst (λ ds. J (pair_as j.session.wire j.broker j.up ds)) k s.joint)

-- it is not refused
pub received_fine : (j : Joint World) (f : Frame) (fs : List Frame) → j.down ≡ f ∷ fs → (s : Sound j) → is_refusal (told_anew j.session (event.Receive f)) ≡ false
received_fine j f fs k s = comes_fine j.session s.tally.pair j.broker j.up f fs (incoming_of f) (refused (frame_class f) (frame_method f)) (sorted f) (delivered j f fs k s).fine (s.tally.is ∙ ap (λ ds. pair_as j.session.wire j.broker j.up ds) k) s.tally.joint s.marked

delivers_sound : (j : Joint World) (fs : List Frame) → j.down ≡ fs → Sound j → Sound (deliver_first by_machine fs j)
delivers_sound j [] k s = s
delivers_sound j (f ∷ fs) k s =
    let w : World = j.session in
    let e : Event = event.Receive f in
    let x = delivered j f fs k s in
    let i = wire_is w e s.unreturned in
    let v : Follows Delivers (pair_of j) (pair_as (next w e).wire j.broker j.up fs) = subst₂ (λ ds b. Follows Delivers (pair_as w.wire j.broker j.up ds) (pair_as b j.broker j.up fs)) (sym k) (sym i) x.comes.follows in
    moves Delivers j (next w e) j.up fs s (max_is w e s.unreturned) (still_none w e s.unreturned) (subst Held (sym i) x.comes.held)
    v
    (λ z. marked-next w e s.tally.pair (tagged_run v.steps s.tally.pair) s.unreturned (λ ms came h. comes_noted s.tally.pair w.wire j.broker j.up f fs ms (s.tally.is ∙ ap (λ ds. pair_as w.wire j.broker j.up ds) k) s.held h v.steps (incoming_of f) (told_anew w e) (received_fine j f fs k s) (sorted f) (subst AreDownGiven k s.down).0 v.own v.told) s.marked)
    s.up (subst AreDownGiven k s.down).1

-- ---- a loss

lost_there : (b : Wire) → (after_lost b).link ≡ link.Lost
lost_there b = elim (is_lost b.link) as (λ t. is_lost b.link ≡ t → (cond t b (down link.Lost b)).link ≡ link.Lost) [ true ↦ λ e. lost_link b.link e | false ↦ λ e. refl ] refl

loses_sound : (j : Joint World) → Sound j → Sound (record { session = next j.session event.Lost; broker = after_loss j.broker; up = []; down = [] })
loses_sound j s =
    let w : World = j.session in
    let x = lose_loses w.wire j.broker j.up j.down s.held s.joint in
    let i = wire_is w event.Lost s.unreturned in
    let h : Held (next w event.Lost).wire = subst Held (sym i) (held_deliveries (lost_deliveries w.wire) (after_lost w.wire) x.held) in
    let m = max_is w event.Lost s.unreturned in
    let f : Follows Resets (pair_of j) (pair_as (next w event.Lost).wire (after_loss j.broker) [] []) = subst (λ b. Follows Resets (pair_of j) (pair_as b (after_loss j.broker) [] [])) (sym i) x.follows in
    let l : (next w event.Lost).wire.link ≡ link.Lost = ap (λ (b : Wire). b.link) i ∙ lost_there w.wire in
    let y = tallied_own Resets (pair_of j) _ j.broker f s.tally in
    record {
      held = h;
      room = subst (λ k. 8 < k) (sym m) s.room;
      same = s.same ∙ sym m;
      ready = record { sound = s.ready.sound; part = s.ready.part; bare = s.ready.bare };
      joint = joint_follows Resets (pair_of j) _ f s.joint;
      lined = lined_follows Resets (pair_of j) _ f s.joint s.lined;
      tally = record { pair = y.0.pair; is = y.0.is; counts = y.0.counts; joint = y.0.joint };
      marked = subst (Marked (next w event.Lost)) (sym y.1) (marked-next w event.Lost s.tally.pair (tagged_run f.steps s.tally.pair) s.unreturned
          (λ ms came k. shut_any (tagged_run f.steps s.tally.pair) (next w event.Lost).wire (after_loss j.broker) [] [] (ms ++ lost_marks w.wire) (ap bare (sym y.1) ∙ y.0.is) (ap is_open_link l) (λ c. ap (λ us. has_select (of_u c us)) (subst (λ q. IsLinked q (waits_as (next w event.Lost).wire)) l h.linked))) s.marked);
      up = tt;
      down = tt;
      unreturned = still_none w event.Lost s.unreturned;
    }

-- ---- any step

pub sound_keeps : (t : Step) (j : Joint World) → Sound j → Sound (after by_machine t j)
sound_keeps (step.Client e) j s = by_law (is_lawful e) refl
  where
    by_law : (t : Bool) → is_lawful e ≡ t → Sound (cond t (record { session = next j.session e; broker = j.broker; up = j.up ++ handed_by by_machine e j.session; down = j.down }) j)
    by_law true l = client_sound j e l s
    by_law false l = s
sound_keeps step.Read j s = reads_sound j j.up refl s
sound_keeps (step.Send f) j s = by_may (may j.broker f) refl
  where
    by_may : (t : Bool) → may j.broker f ≡ t → Sound (cond t (record { session = j.session; broker = send j.broker f; up = j.up; down = j.down ++ f ∷ [] }) j)
    by_may true m = sends_sound j f m s
    by_may false m = s
sound_keeps step.Deliver j s = delivers_sound j j.down refl s
sound_keeps step.Lose j s = loses_sound j s

pub sound_run : (ts : List Step) (j : Joint World) → Sound j → Sound (run by_machine ts j)
sound_run [] j s = s
sound_run (t ∷ ts) j s = sound_run ts (after by_machine t j) (sound_keeps t j s)

-- ---- a new run

start_held : (most : ℕ) → Held (start most)
start_held most = record {
  up = λ e. record { zero = refl; each = λ c. record { opening = λ x. cc; crossed = λ x. cc; marks = refl; contents = tt }; publishes = tt; rest = tt };
  shut = λ e. cc;
  linked = tt;
  rest = tt;
  methods = tt;
}

new_tally : (most : ℕ) → (y : Tallied (start_a asking) (new_joint (new_world most) most).broker) × (y.pair ≡ start_a tagging)
new_tally most = tallied_new (start_a asking) (new_joint (new_world most) most).broker refl (λ c. refl)

pub new_sound : (most : ℕ) → 4096 ≤ most → Sound (new_joint (new_world most) most)
new_sound most r = record {
  held = start_held most;
  room = omega (arith, r);
  same = refl;
  ready = record { sound = tt; part = tt; bare = λ c. record { waiting = refl; sending = refl } };
  joint = joint_start asking Asks Calm asks_fact;
  lined = open_lined (start_a asking) refl refl;
  tally = (new_tally most).0;
  marked = record { most = most; history = []; stands = new_stands most (new_world most) refl; noted = subst (λ t. AreNoted t []) (sym (new_tally most).1) (λ c. refl) };
  up = tt;
  down = tt;
  unreturned = refl;
}

-- ---- what follows

broken_as : (p : Connection) → pair.is_broken (connection_as p) ≡ false → is_broken_broker p ≡ false
broken_as connection.Broken h = cc
broken_as connection.Up h = refl
broken_as connection.Leaving h = refl
broken_as connection.Stopped h = refl
broken_as connection.StoppedOwes h = refl
broken_as connection.LeavingStopped h = refl
broken_as connection.Done h = refl

pub never_broken : (j : Joint World) → Sound j → is_broken_broker j.broker.connection ≡ false
never_broken j s = broken_as j.broker.connection (not_broken (conn_a asking (pair_of j)) s.joint.conn)

-- ---- reports

-- what is reported of a step, by what is known of a delivery
report_is : (P : Reported → Bool) → P reported.Read ≡ false → P reported.Nothing ≡ false → P reported.Sent ≡ false → P reported.Lost ≡ false → P reported.NotLawful ≡ false → ((r : Record) → P (reported.Client r) ≡ false) → (t : Step) (j : Joint World) → Sound j
    → ((f : Frame) (fs : List Frame) → j.down ≡ f ∷ fs → P (reported.Delivered (told_by j.session (event.Receive f))) ≡ false) → P (report by_machine t j) ≡ false
report_is P a b c d e g (step.Client x) j s h = elim (is_lawful x) as (λ t. P (cond t (reported.Client (told_by j.session x)) reported.NotLawful) ≡ false) [ true ↦ g _ | false ↦ e ]
report_is P a b c d e g step.Read j s h = elim j.up as (λ ls. P (read_report ls) ≡ false) [ [] ↦ b | l ∷ ls ↦ a ]
report_is P a b c d e g (step.Send f) j s h = elim (may j.broker f) as (λ t. P (cond t reported.Sent reported.NotLawful) ≡ false) [ true ↦ c | false ↦ e ]
report_is P a b c d e g step.Deliver j s h = front j.down refl
  where
    front : (ds : List Frame) → j.down ≡ ds → P (deliver_report by_machine ds j.session) ≡ false
    front [] k = b
    front (f ∷ fs) k = h f fs k
report_is P a b c d e g step.Lose j s h = d

no_refusal : (t : Step) (j : Joint World) → Sound j → reports_refusal (report by_machine t j) ≡ false
no_refusal t j s = report_is reports_refusal refl refl refl refl refl (λ r. refl) t j s (λ f fs k. told_fine j f (received_fine j f fs k s))
  where
    told_fine : (j : Joint World) (f : Frame) → is_refusal (told_anew j.session (event.Receive f)) ≡ false → is_refusal (told_by j.session (event.Receive f)) ≡ false
    told_fine j f h = h

-- no delivery that is reported is a refusal
pub no_refusals : (ts : List Step) (j : Joint World) → Sound j → list_any reports_refusal (reports by_machine ts j) ≡ false
no_refusals [] j s = refl
no_refusals (t ∷ ts) j s = rw (no_refusal t j s) (no_refusals ts (after by_machine t j) (sound_keeps t j s))
