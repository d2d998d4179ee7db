-- The broker's close of a channel, and its answer to a close of this side.
use Rattle.std.proofs.Common.{◌≡◌, ℕ, Bool, true, false, cond, not, ◌==◌, List, [], ◌∷◌, ◌++◌, map, refl, sym, ◌∙◌, ap, ap₂, subst, subst₂, append-nil, Option, Some, None, eq-eqb, ne_eqb}
use Rattle.std.specs.List.{filter}
use Rattle.lapin_types.specs.declared.leaving.Left.{Left}
use Rattle.lapin_types.specs.declared.request.Request.{Request}
use Rattle.lapin_types.specs.declared.request.ReplyKind.{ReplyKind}
use Rattle.lapin_types.specs.declared.request.ReplyKind.TheVariants as reply_kind
use Rattle.lapin_types.specs.Requests.{kind_of}
use Rattle.lapin_types.specs.Types.{Frame, ExchangeMethod, QueueMethod, BasicMethod, ConfirmMethod, TxMethod}
use Rattle.lapin_types.specs.Types.frame
use Rattle.lapin_types.specs.Types.method
use Rattle.lapin_types.specs.Types.connection
use Rattle.lapin_types.specs.Types.channel
use Rattle.lapin_types.specs.Types.access
use Rattle.lapin_types.specs.Types.exchange
use Rattle.lapin_types.specs.Types.queue
use Rattle.lapin_types.specs.Types.basic
use Rattle.lapin_types.specs.Types.confirm
use Rattle.lapin_types.specs.Types.tx
use Rattle.lapin_content.specs.Channels.{expected_on}
use Rattle.lapin_rules.specs.declared.phases.ChannelPhase.{ChannelPhase}
use Rattle.lapin_rules.specs.declared.phases.ChannelPhase.TheVariants as phase
use Rattle.lapin_rules.specs.declared.phases.ConnectionPhase.TheVariants as link
use Rattle.lapin_rules.specs.Phases.{is_up, channel_state}
use Rattle.lapin_rules.specs.Requests.{same_kind, is_kind, first_request, without_kind, close_alone, request_alone, no_requests}
use Rattle.lapin_rules.specs.Frames.{MethodEntry, RestEntry}
use Rattle.lapin_rules.specs.Drops.{frame_channel, is_off, is_rest_of, method_channel}
use Rattle.lapin_rules.specs.Wire.{Wire, phase_of, requests_of, state_of}
use Rattle.lapin_rules.specs.ChannelClose.{has_sent_close, receives_close, receives_close_ok, after_broker_close, kept_at, after_channel_close, after_close_ok}
use Rattle.lapin_broker.specs.States.{Broker}
use Rattle.lapin_broker.specs.declared.frames.ClientFrame.{ClientFrame}
use Rattle.lapin_broker.specs.declared.frames.ClientFrame.TheVariants as client
use Rattle.lapin_broker.specs.Frames.{channel_of, client_frame, ask_unless, client_exchange, client_queue, client_basic, client_confirm, client_tx}
use Rattle.lapin_pairs.specs.Machine.{Up, UClose, UOpen, UOther, UCloseOk, Closed, Closing, Crossed, DClose, DCloseOk, has_close, state_after, is_refused}
use Rattle.lapin_pairs.specs.Channel as kept
use Rattle.lapin_pairs.specs.Channel.{none_kept}
use Rattle.lapin_pairs.specs.Every.{UpOn, OnU, CloseU, CloseOkU, of_u, off_u, left_all, ToD}
use Rattle.lapin_pairs.specs.Asking.{U2, Plain, take2, left_at}
use Rattle.lapin_pairs.proofs.Every.{of_off, of_off_other, of_more, of_away}
use Rattle.lapin_concord.specs.Frames.{up_kind, down_frame}
use Rattle.lapin_concord.specs.Wires.{phase_as, asked_in, is_asked, contents_as, chan_as, rest_as, entry_as, waiting_as, waits_as}
use Rattle.lapin_concord.specs.Held.{ends_close, way, IsMarked, IsLinked, AreOn, is_open_phase, IsWhole, IsOneContent, Held, AreRestSent, AreMethodsSent}
use Rattle.lapin_concord.proofs.Views.{phase_with, phase_away, requests_on_here, requests_on_away, contents_on_here, contents_on_away, Same, held_moved}
use Rattle.lapin_concord.proofs.Queueing.{methods-push, waits_more}
use Rattle.lapin_concord.proofs.Calling.{above, open_off, open_closed}
use Rattle.lapin_concord.proofs.Incomes.{asked-without}
use Rattle.lapin_concord.proofs.Coming.{above_zero, state_here, Comes, deliver_to}
use Rattle.lapin_rules.proofs.PhaseLaws.{kept_none}
use Rattle.lapin_tables.proofs.Bools.{same_number}

-- ---- the channel of a frame that waits

abbrev is_of_connection : ClientFrame → Bool
is_of_connection client.ConnectionClose = true
is_of_connection client.ConnectionCloseOk = true
is_of_connection _ = false

either_not : (t : Bool) (x y : ClientFrame) → is_of_connection x ≡ false → is_of_connection y ≡ false → is_of_connection (cond t x y) ≡ false
either_not true x y h k = h
either_not false x y h k = k

ask_not : (t : Bool) (k : _) → is_of_connection (ask_unless t k) ≡ false
ask_not true k = refl
ask_not false k = refl

exchange_not : (m : ExchangeMethod) → is_of_connection (client_exchange m) ≡ false
exchange_not (exchange.Declare a b d e f g nowait h) = ask_not nowait _
exchange_not (exchange.Delete a b nowait) = ask_not nowait _
exchange_not (exchange.Bind a b d nowait e) = ask_not nowait _
exchange_not (exchange.Unbind a b d nowait e) = ask_not nowait _
exchange_not _ = refl

queue_not : (m : QueueMethod) → is_of_connection (client_queue m) ≡ false
queue_not (queue.Declare a b d e f nowait h) = ask_not nowait _
queue_not (queue.Bind a b d nowait e) = ask_not nowait _
queue_not (queue.Purge a nowait) = ask_not nowait _
queue_not (queue.Delete a b d nowait) = ask_not nowait _
queue_not _ = refl

basic_not : (m : BasicMethod) → is_of_connection (client_basic m) ≡ false
basic_not (basic.Consume a b d e f nowait h) = either_not nowait _ _ refl refl
basic_not (basic.Cancel a nowait) = either_not nowait _ _ refl refl
basic_not _ = refl

confirm_not : (m : ConfirmMethod) → is_of_connection (client_confirm m) ≡ false
confirm_not (confirm.Select nowait) = refl
confirm_not confirm.SelectOk = refl

tx_not : (m : TxMethod) → is_of_connection (client_tx m) ≡ false
tx_not tx.Select = refl
tx_not tx.SelectOk = refl
tx_not tx.Commit = refl
tx_not tx.CommitOk = refl
tx_not tx.Rollback = refl
tx_not tx.RollbackOk = refl

no : {X : Type 0} (b : Bool) → b ≡ false → b ≡ true → X
no b h k = let y : true ≡ false = sym k ∙ h in absurd cc

own_zero : (t : Bool) (x : ClientFrame) → is_of_connection (cond t x client.Other) ≡ true → t ≡ true
own_zero true x h = refl
own_zero false x h = cc

on_zero : (f : Frame) → is_of_connection (client_frame f) ≡ true → (channel_of f == 0) ≡ true
on_zero (frame.Header c h) k = cc
on_zero (frame.Body c bytes) k = cc
on_zero (frame.Method c (method.Connection (connection.Close code text class number))) k = own_zero (c == 0) client.ConnectionClose k
on_zero (frame.Method c (method.Connection connection.CloseOk)) k = own_zero (c == 0) client.ConnectionCloseOk k
on_zero (frame.Method c (method.Channel channel.Open)) k = no _ (either_not (c == 0) client.Other client.Open refl refl) k
on_zero (frame.Method c (method.Channel channel.OpenOk)) k = cc
on_zero (frame.Method c (method.Channel (channel.Flow active))) k = cc
on_zero (frame.Method c (method.Channel (channel.FlowOk active))) k = cc
on_zero (frame.Method c (method.Channel (channel.Close code text class number))) k = cc
on_zero (frame.Method c (method.Channel channel.CloseOk)) k = cc
on_zero (frame.Method c (method.Access (access.Request a b d e f g))) k = cc
on_zero (frame.Method c (method.Access access.RequestOk)) k = cc
on_zero (frame.Method c (method.Exchange m)) k = no _ (exchange_not m) k
on_zero (frame.Method c (method.Queue m)) k = no _ (queue_not m) k
on_zero (frame.Method c (method.Basic m)) k = no _ (basic_not m) k
on_zero (frame.Method c (method.Confirm m)) k = no _ (confirm_not m) k
on_zero (frame.Method c (method.Tx m)) k = no _ (tx_not m) k

off_kind : (c d : ℕ) (u : ClientFrame) (ks : List (UpOn U2)) → (is_of_connection u ≡ true → (d == 0) ≡ true) → (c == 0) ≡ false → off_u c (up_kind d u ∷ ks) ≡ cond (not (d == c)) (up_kind d u ∷ off_u c ks) (off_u c ks)
off_kind c d client.ConnectionClose ks h z = own (d == c) refl
  where
    own : (t : Bool) → (d == c) ≡ t → CloseU ∷ off_u c ks ≡ cond (not (d == c)) (CloseU ∷ off_u c ks) (off_u c ks)
    own true e = let y : true ≡ false = sym (eq-eqb c 0 (sym (same_number d c e) ∙ same_number d 0 (h refl))) ∙ z in absurd cc
    own false e = rw e refl
off_kind c d client.ConnectionCloseOk ks h z = own (d == c) refl
  where
    own : (t : Bool) → (d == c) ≡ t → CloseOkU ∷ off_u c ks ≡ cond (not (d == c)) (CloseOkU ∷ off_u c ks) (off_u c ks)
    own true e = let y : true ≡ false = sym (eq-eqb c 0 (sym (same_number d c e) ∙ same_number d 0 (h refl))) ∙ z in absurd cc
    own false e = rw e refl
off_kind c d (client.Select true) ks h z = elim (d == c) as (λ t. cond t (off_u c ks) (up_kind d (client.Select true) ∷ off_u c ks) ≡ cond (not t) (up_kind d (client.Select true) ∷ off_u c ks) (off_u c ks)) [ true ↦ refl | false ↦ refl ]
off_kind c d (client.Select false) ks h z = elim (d == c) as (λ t. cond t (off_u c ks) (up_kind d (client.Select false) ∷ off_u c ks) ≡ cond (not t) (up_kind d (client.Select false) ∷ off_u c ks) (off_u c ks)) [ true ↦ refl | false ↦ refl ]
off_kind c d u ks h z = elim (d == c) as (λ t. cond t (off_u c ks) (up_kind d u ∷ off_u c ks) ≡ cond (not t) (up_kind d u ∷ off_u c ks) (off_u c ks)) [ true ↦ refl | false ↦ refl ]

-- ---- what an end takes out

off-append : (c : ℕ) (fs gs : List (UpOn U2)) → off_u c (fs ++ gs) ≡ off_u c fs ++ off_u c gs
off-append c [] gs = refl
off-append c (OnU d u ∷ fs) gs = elim (d == c) as (λ b. cond b (off_u c (fs ++ gs)) (OnU d u ∷ off_u c (fs ++ gs)) ≡ cond b (off_u c fs) (OnU d u ∷ off_u c fs) ++ off_u c gs) [ true ↦ off-append c fs gs | false ↦ ap (λ xs. OnU d u ∷ xs) (off-append c fs gs) ]
off-append c (CloseU ∷ fs) gs = ap (λ xs. CloseU ∷ xs) (off-append c fs gs)
off-append c (CloseOkU ∷ fs) gs = ap (λ xs. CloseOkU ∷ xs) (off-append c fs gs)

pub off_none : (c : ℕ) (ws : List (UpOn U2)) → of_u c ws ≡ [] → off_u c ws ≡ ws
off_none c [] h = refl
off_none c (OnU d u ∷ ws) h = elim (d == c) as (λ b. cond b (u ∷ of_u c ws) (of_u c ws) ≡ [] → cond b (off_u c ws) (OnU d u ∷ off_u c ws) ≡ OnU d u ∷ ws) [ true ↦ λ h. cc | false ↦ λ h. ap (λ xs. OnU d u ∷ xs) (off_none c ws h) ] h
off_none c (CloseU ∷ ws) h = ap (λ xs. CloseU ∷ xs) (off_none c ws h)
off_none c (CloseOkU ∷ ws) h = ap (λ xs. CloseOkU ∷ xs) (off_none c ws h)

rest_off : (c d : ℕ) (b : Bool) (fs : List RestEntry) → AreOn d fs → (d == c) ≡ b → off_u c (map rest_as fs) ≡ cond b [] (map rest_as fs)
rest_off c d true [] h e = refl
rest_off c d false [] h e = refl
rest_off c d true (f ∷ fs) h e = ap (λ x. off_u c (x ∷ map rest_as fs)) h.1.1 ∙ rw e (rest_off c d true fs h.2 e)
rest_off c d false (f ∷ fs) h e = ap (λ x. off_u c (x ∷ map rest_as fs)) h.1.1 ∙ rw e (ap₂ (λ x xs. x ∷ xs) (sym h.1.1) (rest_off c d false fs h.2 e))

rests_off : (c : ℕ) (fs : List RestEntry) → IsWhole fs → map rest_as (cond (is_rest_of c fs) [] fs) ≡ off_u c (map rest_as fs)
rests_off c [] h = refl
rests_off c (f ∷ fs) h = (elim (frame_channel f.frame == c) as (λ b. (frame_channel f.frame == c) ≡ b → map rest_as (cond b [] (f ∷ fs)) ≡ off_u c (map rest_as (f ∷ fs))) [
  | true ↦ λ e. sym (rest_off c (frame_channel f.frame) true (f ∷ fs) h e)
  | false ↦ λ e. sym (rest_off c (frame_channel f.frame) false (f ∷ fs) h e)
]) refl

entries_off : (c : ℕ) (ms : List MethodEntry) → (c == 0) ≡ false → map entry_as (filter (is_off method_channel c) ms) ≡ off_u c (map entry_as ms)
entries_off c [] z = refl
entries_off c (m ∷ ms) z =
    let f : Frame = frame.Method m.channel m.method in
    elim (m.channel == c) as (λ b. map entry_as (cond (not b) (m ∷ filter (is_off method_channel c) ms) (filter (is_off method_channel c) ms)) ≡ cond (not b) (entry_as m ∷ off_u c (map entry_as ms)) (off_u c (map entry_as ms))) [
      | true ↦ entries_off c ms z
      | false ↦ ap (λ xs. entry_as m ∷ xs) (entries_off c ms z)
    ] ∙ sym (off_kind c m.channel (client_frame f) (map entry_as ms) (on_zero f) z)

pub waits_off : (c : ℕ) (rest : List RestEntry) (methods : List MethodEntry) → IsWhole rest → (c == 0) ≡ false → waiting_as (cond (is_rest_of c rest) [] rest) (filter (is_off method_channel c) methods) ≡ off_u c (waiting_as rest methods)
waits_off c rest methods r z = ap₂ (λ xs ys. xs ++ ys) (rests_off c rest r) (entries_off c methods z) ∙ sym (off-append c (map rest_as rest) (map entry_as methods))

-- what stays is as it was
rest_sent : (most : ℕ) (b : Bool) (fs : List RestEntry) → AreRestSent most fs → AreRestSent most (cond b [] fs)
rest_sent most true fs h = tt
rest_sent most false fs h = h

methods_sent : (most : ℕ) (p : MethodEntry → Bool) (ms : List MethodEntry) → AreMethodsSent most ms → AreMethodsSent most (filter p ms)
methods_sent most p [] h = tt
methods_sent most p (m ∷ ms) h = elim (p m) as (λ b. AreMethodsSent most (cond b (m ∷ filter p ms) (filter p ms))) [ true ↦ (h.0, methods_sent most p ms h.1) | false ↦ methods_sent most p ms h.1 ]

whole_drop : (b : Bool) (fs : List RestEntry) → IsWhole fs → IsWhole (cond b [] fs)
whole_drop true fs h = tt
whole_drop false fs h = h

-- ---- requests that stay

close_kind : (a : ReplyKind) → same_kind a reply_kind.ChannelCloseOk ≡ true → is_asked a ≡ false
close_kind reply_kind.ChannelCloseOk h = refl
close_kind _ h = cc

pub first_is : (k : ReplyKind) (rs : List Request) (r : Request) → first_request k rs ≡ Some r → is_kind k r ≡ true
first_is k [] r h = cc
first_is k (x ∷ xs) r h = (elim (is_kind k x) as (λ b. is_kind k x ≡ b → cond b (Some x) (first_request k xs) ≡ Some r → is_kind k r ≡ true) [
  | true ↦ λ e h. let y : x ≡ r = cc in ap (is_kind k) (sym y) ∙ e
  | false ↦ λ e h. first_is k xs r h
]) refl h

alone_asks : (o : Option Request) → ((r : Request) → o ≡ Some r → is_asked (kind_of r.reply) ≡ false) → asked_in (request_alone o) ≡ []
alone_asks None h = refl
alone_asks (Some r) h = rw (h r refl) refl

pub kept_asks : (p : ChannelPhase) (rs : List Request) → asked_in (kept_at p rs) ≡ []
kept_asks p rs = elim (has_sent_close p) as (λ b. asked_in (cond b (close_alone rs) (no_requests rs)) ≡ []) [
  | true ↦ alone_asks (first_request reply_kind.ChannelCloseOk rs) (λ r e. close_kind (kind_of r.reply) (first_is reply_kind.ChannelCloseOk rs r e))
  | false ↦ refl
]

-- ---- the broker's close

close_let : (p : ChannelPhase) (us : List Up) → is_refused (state_after (phase_as p) us DClose) ≡ false → (p ≡ phase.Closed → ⊥) × (receives_close (channel_state p) ≡ true)
close_let phase.Closed us n = absurd cc
close_let phase.Opening us n = (λ e. cc, refl)
close_let (phase.Open t) us n = (λ e. cc, refl)
close_let (phase.Closing who sent) us n = (λ e. cc, refl)
close_let phase.Crossed us n = absurd cc

after_not : (p : ChannelPhase) → (after_broker_close p ≡ phase.Opening → ⊥)
after_not phase.Closed e = cc
after_not phase.Opening e = cc
after_not (phase.Open t) e = cc
after_not (phase.Closing who true) e = cc
after_not (phase.Closing who false) e = cc
after_not phase.Crossed e = cc

after_marked : (p : ChannelPhase) (us : List U2) → has_close (way us) ≡ false → IsMarked (after_broker_close p) us
after_marked phase.Closed us h = h
after_marked phase.Opening us h = h
after_marked (phase.Open t) us h = h
after_marked (phase.Closing who true) us h = h
after_marked (phase.Closing who false) us h = h
after_marked phase.Crossed us h = h

pub ends_has : (us : List Up) → ends_close us ≡ true → has_close us ≡ true
ends_has [] h = cc
ends_has (UClose ∷ us) h = refl
ends_has (UOpen ∷ us) h = ends_has us h
ends_has (UCloseOk ∷ us) h = ends_has us h
ends_has (UOther ∷ us) h = ends_has us h

record CloseSide (c : ℕ) (p : ChannelPhase) (rs : List Request) (z : kept.Content) (fs : List (UpOn U2)) : Type 0 where
  sess : phase_as (after_broker_close p) ≡ state_after (phase_as p) (way (of_u c fs)) DClose
  left : off_u c fs ++ OnU c (Plain kept.FCloseOk) ∷ [] ≡ left_all c (left_at (phase_as p) (has_close (way (of_u c fs))) kept.BClose) fs

close_side : (c : ℕ) (p : ChannelPhase) (rs : List Request) (z : kept.Content) (fs : List (UpOn U2)) → receives_close (channel_state p) ≡ true → IsMarked p (of_u c fs) → CloseSide c p rs z fs
close_side c phase.Closed rs z fs n m = absurd cc
close_side c phase.Crossed rs z fs n m = absurd cc
close_side c phase.Opening rs z fs n m = record { sess = refl; left = refl }
close_side c (phase.Open t) rs z fs n m = record { sess = refl; left = refl }
close_side c (phase.Closing who false) rs z fs n m =
    let k = ends_has (way (of_u c fs)) m in
    record { sess = ap (λ t. cond t Closed Crossed) (sym k); left = ap (λ t. left_all c (left_at Closing t kept.BClose) fs) (sym k) }
close_side c (phase.Closing who true) rs z fs n m =
    let k : has_close (way (of_u c fs)) ≡ false = ap (λ us. has_close (way us)) m in
    record {
      sess = ap (λ t. cond t Closed Crossed) (sym k);
      left = ap (λ xs. xs ++ OnU c (Plain kept.FCloseOk) ∷ []) (off_none c fs m) ∙ ap (λ t. left_all c (left_at Closing t kept.BClose) fs) (sym k);
    }

pub close_comes : (c : ℕ) (b : Wire) (f : Frame) (br : Broker) (us : List Left) (ds : List Frame) → b.link ≡ link.Open → down_frame f ≡ ToD c kept.BClose → is_refused (state_after (phase_as (phase_of c b)) (way (of_u c (waits_as b))) DClose) ≡ false → Held b
    → (receives_close (state_of c b) ≡ true) × Comes b (after_channel_close c (phase_of c b) b) f br us ds
close_comes c b f br us ds e n l h =
    let u = h.up e in
    let p : ChannelPhase = phase_of c b in
    let q : ChannelPhase = after_broker_close p in
    let d : Wire = after_channel_close c p b in
    let k = close_let p (way (of_u c (waits_as b))) l in
    let z = above_zero c b u.zero k.0 in
    let was = u.each c in
    let waits : waits_as d ≡ off_u c (waits_as b) ++ OnU c (Plain kept.FCloseOk) ∷ [] =
    waits_more (cond (is_rest_of c b.rest) [] b.rest) (filter (is_off method_channel c) b.methods) (record { channel = c; method = method.Channel channel.CloseOk; ticket = None }) (OnU c (Plain kept.FCloseOk)) refl
    ∙ ap (λ ws. ws ++ OnU c (Plain kept.FCloseOk) ∷ []) (waits_off c b.rest b.methods u.rest z) in
    let mine : of_u c (waits_as d) ≡ Plain kept.FCloseOk ∷ [] = ap (of_u c) waits ∙ (of_more c (Plain kept.FCloseOk ∷ []) (off_u c (waits_as b)) ∙ ap (λ xs. xs ++ Plain kept.FCloseOk ∷ []) (of_off c (waits_as b))) in
    let phase_is : phase_of c d ≡ q = phase_with c q b.phases in
    let rs : requests_of c d ≡ kept_at p (requests_of c b) = requests_on_here c (kept_at p) b.requests (kept_none p) in
    let asks : asked_in (requests_of c d) ≡ [] = ap asked_in rs ∙ kept_asks p (requests_of c b) in
    let es : expected_on c d.contents ≡ [] = contents_on_here c (λ _. []) b.contents refl in
    let away : (y : ℕ) → (c == y) ≡ false → Same y b d = λ y m. record {
      phase = phase_away c y q b.phases m;
      requests = requests_on_away c y (kept_at p) b.requests m;
      contents = contents_on_away c y (λ _. []) b.contents m;
      way = ap (of_u y) waits ∙ (of_away c y (Plain kept.FCloseOk ∷ []) (off_u c (waits_as b)) m ∙ of_off_other y c (waits_as b) m);
    } in
    let s = close_side c p (requests_of c b) (contents_as (expected_on c b.contents)) (waits_as b) k.1 was.marks in (
      ap receives_close (state_here c b e z) ∙ k.1,
      record {
        held = record {
          up = λ y. record {
            zero = phase_away c 0 q b.phases (ne_eqb c 0 (above c z)) ∙ u.zero;
            each = held_moved c b d away (record {
              opening = λ y. absurd (after_not p (sym phase_is ∙ y));
              crossed = λ y. (asks, es);
              marks = subst₂ IsMarked (sym phase_is) (sym mine) (after_marked p (Plain kept.FCloseOk ∷ []) refl);
              contents = subst IsOneContent (sym es) tt;
            }) u.each;
            publishes = open_off c q b.phases b.publishes u.publishes;
            rest = whole_drop (is_rest_of c b.rest) b.rest u.rest;
          };
          shut = λ y. let x : true ≡ false = ap is_up (sym e) ∙ y in cc;
          linked = subst (λ r. IsLinked r (waits_as d)) (sym e) tt;
          rest = rest_sent b.frame_max (is_rest_of c b.rest) b.rest h.rest;
          methods = methods-push b.frame_max _ _ (methods_sent b.frame_max (is_off method_channel c) b.methods h.methods) tt;
        };
        follows = deliver_to c kept.BClose b d f br us ds e e n
            ((λ j. record { sess = phase_as (phase_is j); open_data = Some (record { asked_for = asks j; content = contents_as (es j) }) }) ∙ ap (λ x. record { sess = x; open_data = Some none_kept }) s.sess)
            away
            (waits ∙ s.left);
      },
    )

-- ---- its answer to a close of this side

ok_let : (p : ChannelPhase) (us : List Up) → is_refused (state_after (phase_as p) us DCloseOk) ≡ false → (p ≡ phase.Closed → ⊥) × (receives_close_ok (channel_state p) ≡ true)
ok_let phase.Closed us n = absurd cc
ok_let phase.Opening us n = absurd cc
ok_let (phase.Open t) us n = absurd cc
ok_let (phase.Closing who sent) us n = (λ e. cc, refl)
ok_let phase.Crossed us n = (λ e. cc, refl)

dropped : (c : ℕ) (t : Bool) (fs : List (UpOn U2)) → off_u c fs ≡ left_all c (left_at Closing t kept.BCloseOk) fs
dropped c true fs = sym (append-nil (off_u c fs))
dropped c false fs = sym (append-nil (off_u c fs))

ok_by : (c : ℕ) (p : ChannelPhase) (b : Wire) (f : Frame) (br : Broker) (us : List Left) (ds : List Frame) → phase_of c b ≡ p → receives_close_ok (channel_state p) ≡ true → b.link ≡ link.Open → (c == 0) ≡ false → down_frame f ≡ ToD c kept.BCloseOk → Held b → Comes b (after_close_ok c p b) f br us ds
ok_by c phase.Closed b f br us ds i k e z n h = absurd cc
ok_by c phase.Opening b f br us ds i k e z n h = absurd cc
ok_by c (phase.Open t) b f br us ds i k e z n h = absurd cc
ok_by c (phase.Closing who sent) b f br us ds i k e z n h =
    let u = h.up e in
    let d : Wire = after_close_ok c (phase.Closing who sent) b in
    let waits : waits_as d ≡ off_u c (waits_as b) = waits_off c b.rest b.methods u.rest z in
    let mine : of_u c (waits_as d) ≡ [] = ap (of_u c) waits ∙ of_off c (waits_as b) in
    let phase_is : phase_of c d ≡ phase.Closed = phase_with c phase.Closed b.phases in
    let rs : requests_of c d ≡ [] = requests_on_here c no_requests b.requests refl in
    let es : expected_on c d.contents ≡ [] = contents_on_here c (λ _. []) b.contents refl in
    let away : (y : ℕ) → (c == y) ≡ false → Same y b d = λ y m. record {
      phase = phase_away c y phase.Closed b.phases m;
      requests = requests_on_away c y no_requests b.requests m;
      contents = contents_on_away c y (λ _. []) b.contents m;
      way = ap (of_u y) waits ∙ of_off_other y c (waits_as b) m;
    } in
    record {
      held = record {
        up = λ y. record {
          zero = phase_away c 0 phase.Closed b.phases (ne_eqb c 0 (above c z)) ∙ u.zero;
          each = held_moved c b d away (record {
            opening = λ y. let x : phase.Closed ≡ phase.Opening = sym phase_is ∙ y in cc;
            crossed = λ y. let x : phase.Closed ≡ phase.Crossed = sym phase_is ∙ y in cc;
            marks = subst₂ IsMarked (sym phase_is) (sym mine) refl;
            contents = subst IsOneContent (sym es) tt;
          }) u.each;
          publishes = open_off c phase.Closed b.phases b.publishes u.publishes;
          rest = whole_drop (is_rest_of c b.rest) b.rest u.rest;
        };
        shut = λ y. let x : true ≡ false = ap is_up (sym e) ∙ y in cc;
        linked = subst (λ r. IsLinked r (waits_as d)) (sym e) tt;
        rest = rest_sent b.frame_max (is_rest_of c b.rest) b.rest h.rest;
        methods = methods_sent b.frame_max (is_off method_channel c) b.methods h.methods;
      };
      follows = deliver_to c kept.BCloseOk b d f br us ds e e n
          ((λ j. record { sess = phase_as (phase_is j); open_data = Some (record { asked_for = asked_in (rs j); content = contents_as (es j) }) }) ∙ ap (λ x. take2 (chan_as x (requests_of c b) (expected_on c b.contents)) (of_u c (waits_as b)) kept.BCloseOk) (sym i))
          away
          (waits ∙ (dropped c (has_close (way (of_u c (waits_as b)))) (waits_as b) ∙ ap (λ x. left_all c (left_at (phase_as x) (has_close (way (of_u c (waits_as b)))) kept.BCloseOk) (waits_as b)) (sym i)));
    }
ok_by c phase.Crossed b f br us ds i k e z n h =
    let u = h.up e in
    let was = u.each c in
    let over = was.crossed i in
    let d : Wire = after_close_ok c phase.Crossed b in
    let phase_is : phase_of c d ≡ phase.Closed = phase_with c phase.Closed b.phases in
    let rs : requests_of c d ≡ without_kind reply_kind.ChannelCloseOk (requests_of c b) = requests_on_here c (without_kind reply_kind.ChannelCloseOk) b.requests refl in
    let asks : asked_in (requests_of c d) ≡ [] = ap asked_in rs ∙ (asked-without reply_kind.ChannelCloseOk (requests_of c b) refl ∙ over.0) in
    let away : (y : ℕ) → (c == y) ≡ false → Same y b d = λ y m. record {
      phase = phase_away c y phase.Closed b.phases m;
      requests = requests_on_away c y (without_kind reply_kind.ChannelCloseOk) b.requests m;
      contents = refl;
      way = refl;
    } in
    let clear : has_close (way (of_u c (waits_as b))) ≡ false = subst (λ q. IsMarked q (of_u c (waits_as b))) i was.marks in
    record {
      held = record {
        up = λ y. record {
          zero = phase_away c 0 phase.Closed b.phases (ne_eqb c 0 (above c z)) ∙ u.zero;
          each = held_moved c b d away (record {
            opening = λ y. let x : phase.Closed ≡ phase.Opening = sym phase_is ∙ y in cc;
            crossed = λ y. let x : phase.Closed ≡ phase.Crossed = sym phase_is ∙ y in cc;
            marks = subst (λ q. IsMarked q (of_u c (waits_as b))) (sym phase_is) clear;
            contents = was.contents;
          }) u.each;
          publishes = open_closed c phase.Closed b.phases b.publishes (ap is_open_phase i) u.publishes;
          rest = u.rest;
        };
        shut = h.shut;
        linked = h.linked;
        rest = h.rest;
        methods = h.methods;
      };
      follows = deliver_to c kept.BCloseOk b d f br us ds e e n
          ((λ j. record { sess = phase_as (phase_is j); open_data = Some (record { asked_for = asks j; content = contents_as (over.1 j) }) }) ∙ ap (λ x. take2 (chan_as x (requests_of c b) (expected_on c b.contents)) (of_u c (waits_as b)) kept.BCloseOk) (sym i))
          away
          (sym (append-nil (waits_as b)) ∙ ap (λ x. left_all c (left_at (phase_as x) (has_close (way (of_u c (waits_as b)))) kept.BCloseOk) (waits_as b)) (sym i));
    }

pub ok_comes : (c : ℕ) (b : Wire) (f : Frame) (br : Broker) (us : List Left) (ds : List Frame) → b.link ≡ link.Open → down_frame f ≡ ToD c kept.BCloseOk → is_refused (state_after (phase_as (phase_of c b)) (way (of_u c (waits_as b))) DCloseOk) ≡ false → Held b
    → (receives_close_ok (state_of c b) ≡ true) × Comes b (after_close_ok c (phase_of c b) b) f br us ds
ok_comes c b f br us ds e n l h =
    let u = h.up e in
    let k = ok_let (phase_of c b) (way (of_u c (waits_as b))) l in
    let z = above_zero c b u.zero k.0 in
    (ap receives_close_ok (state_here c b e z) ∙ k.1, ok_by c (phase_of c b) b f br us ds refl k.1 e z n h)
