-- What the marks of a frame request leave of the tags that are noted: a select leaves, a publish begins, or another frame leaves.
use Rattle.std.proofs.Common.{◌≡◌, ℕ, Bool, true, false, cond, not, ◌==◌, ◌||◌, List, [], ◌∷◌, ◌++◌, map, refl, sym, ◌∙◌, ap, ap₂, subst, Option, Some, None}
use Rattle.std.specs.Prelude.{find}
use Rattle.std.specs.Option.{option_map}
use Rattle.lapin_types.specs.declared.leaving.Left.{Left}
use Rattle.lapin_types.specs.declared.leaving.Publish.{Publish}
use Rattle.lapin_types.specs.Types.{Frame, Method, AccessMethod, BasicMethod, ExchangeMethod, QueueMethod, TxMethod}
use Rattle.lapin_types.specs.Types.frame
use Rattle.lapin_types.specs.Types.method
use Rattle.lapin_types.specs.Types.access
use Rattle.lapin_types.specs.Types.basic
use Rattle.lapin_types.specs.Types.channel
use Rattle.lapin_types.specs.Types.confirm
use Rattle.lapin_types.specs.Types.connection
use Rattle.lapin_types.specs.Types.exchange
use Rattle.lapin_types.specs.Types.queue
use Rattle.lapin_types.specs.Types.tx
use Rattle.lapin_rules.specs.ConfirmMarks.{ConfirmMark}
use Rattle.lapin_rules.specs.ConfirmMarks as mark
use Rattle.lapin_rules.specs.Frames.{MethodEntry, RestEntry, left_publish}
use Rattle.lapin_rules.specs.Leaving.{may_begin, handed_of}
use Rattle.lapin_rules.specs.Handing.{left_marks}
use Rattle.lapin_rules.specs.Phases.{is_up}
use Rattle.lapin_rules.specs.Select as history
use Rattle.lapin_rules.specs.Wire.{Wire, phase_of}
use Rattle.lapin_confirm.specs.Follows.{MayCome, CameAfter}
use Rattle.lapin_broker.specs.declared.request.RequestKind.{RequestKind}
use Rattle.lapin_broker.specs.declared.frames.ClientFrame.{ClientFrame}
use Rattle.lapin_broker.specs.declared.frames.ClientFrame.TheVariants as client
use Rattle.lapin_broker.specs.States.{Broker}
use Rattle.lapin_broker.specs.Frames.{client_method, client_exchange, client_queue, client_basic, client_tx, ask_unless}
use Rattle.lapin_pairs.specs.Channel as kept
use Rattle.lapin_pairs.specs.Channel.{UpF, FHeader, FBody}
use Rattle.lapin_pairs.specs.Every.{UpOn, OnU, CloseU, CloseOkU, of_u, All, StepA, CallA, SendA, HangUpA, NextA, ReadA, DeliverA, LoseA, hands_a, happens_a}
use Rattle.lapin_pairs.specs.Asking.{U2, Plain, SelectAsk, KOpen, KClose, KTell, KAsk, KSelect, KBegin, asking}
use Rattle.lapin_pairs.specs.Tagging.{tagging}
use Rattle.lapin_concord.specs.Frames.{up_kind, up_frame}
use Rattle.lapin_concord.specs.Wires.{phase_as, link_as, rest_as, entry_as, waiting_as, waits_as, pair_as}
use Rattle.lapin_concord.specs.Held.{is_behind, IsWhole, Held}
use Rattle.lapin_concord.proofs.Views.{AreOwn, Departs, told_by_step, AreTold}
use Rattle.lapin_concord.proofs.Lifting.{bare, tagged_step}
use Rattle.lapin_concord.proofs.Queueing.{open_is}
use Rattle.lapin_concord.proofs.Leaving.{open_found, told_begin, told_next}
use Rattle.lapin_concord.proofs.Tallies.{tagged_run}
use Rattle.lapin_concord.proofs.Noting.{is_select, has_select, IsNotedIn, AreNoted}
use Rattle.lapin_concord.proofs.Arriving.{next_other, next_select, begin_noted, shut_noted}
use Rattle.lapin_concord.proofs.Marking.{beside, untold_run, conn_of, unsent_of, sess_of, shut_of}
use Rattle.lapin_rules.proofs.PhaseLaws.{up_open}

-- ---- which frames are selects

abbrev no_select : UpOn U2 → Bool
no_select (OnU c u) = not (is_select u)
no_select CloseU = true
no_select CloseOkU = true

-- behind any other frame no more and no fewer selects wait
free_front : (f : UpOn U2) (fs : List (UpOn U2)) (c : ℕ) → no_select f ≡ true → has_select (of_u c (f ∷ fs)) ≡ has_select (of_u c fs)
free_front CloseU fs c h = refl
free_front CloseOkU fs c h = refl
free_front (OnU d u) fs c h = elim (d == c) as (λ b. has_select (cond b (u ∷ of_u c fs) (of_u c fs)) ≡ has_select (of_u c fs)) [ true ↦ plain (is_select u) h | false ↦ refl ]
  where
    plain : (b : Bool) → not b ≡ true → (b || has_select (of_u c fs)) ≡ has_select (of_u c fs)
    plain true h = cc
    plain false h = refl

abbrev is_other : ClientFrame → Bool
is_other (client.Select w) = false
is_other _ = true

up_free : (c : ℕ) (k : ClientFrame) → is_other k ≡ true → no_select (up_kind c k) ≡ true
up_free c (client.Select w) h = cc
up_free c _ h = refl

ask_free : (b : Bool) (k : RequestKind) → is_other (ask_unless b k) ≡ true
ask_free true k = refl
ask_free false k = refl

either_free : (b : Bool) (x y : ClientFrame) → is_other x ≡ true → is_other y ≡ true → is_other (cond b x y) ≡ true
either_free true x y h k = h
either_free false x y h k = k

exchange_free : (m : ExchangeMethod) → is_other (client_exchange m) ≡ true
exchange_free (exchange.Declare name k passive durable auto_delete internal nowait arguments) = ask_free nowait _
exchange_free (exchange.Delete name if_unused nowait) = ask_free nowait _
exchange_free (exchange.Bind destination source key nowait arguments) = ask_free nowait _
exchange_free (exchange.Unbind destination source key nowait arguments) = ask_free nowait _
exchange_free _ = refl

queue_free : (m : QueueMethod) → is_other (client_queue m) ≡ true
queue_free (queue.Declare name passive durable exclusive auto_delete nowait arguments) = ask_free nowait _
queue_free (queue.Bind name from key nowait arguments) = ask_free nowait _
queue_free (queue.Purge name nowait) = ask_free nowait _
queue_free (queue.Delete name if_unused if_empty nowait) = ask_free nowait _
queue_free _ = refl

basic_free : (m : BasicMethod) → is_other (client_basic m) ≡ true
basic_free (basic.Consume name tag no_local no_ack exclusive nowait arguments) = either_free nowait _ _ refl refl
basic_free (basic.Cancel tag nowait) = either_free nowait _ _ refl refl
basic_free _ = refl

tx_free : (m : TxMethod) → is_other (client_tx m) ≡ true
tx_free tx.Select = refl
tx_free _ = refl

access_free : (c : ℕ) (m : AccessMethod) → is_other (client_method c (method.Access m)) ≡ true
access_free c access.RequestOk = refl
access_free c _ = refl

method_free : (c : ℕ) (m : Method) → history.is_select m ≡ false → is_other (client_method c m) ≡ true
method_free c (method.Connection (connection.Close code text class number)) h = either_free (c == 0) _ _ refl refl
method_free c (method.Connection connection.CloseOk) h = either_free (c == 0) _ _ refl refl
method_free c (method.Channel channel.Open) h = either_free (c == 0) _ _ refl refl
method_free c (method.Channel _) h = refl
method_free c (method.Access m) h = access_free c m
method_free c (method.Exchange m) h = exchange_free m
method_free c (method.Queue m) h = queue_free m
method_free c (method.Basic m) h = basic_free m
method_free c (method.Confirm (confirm.Select nowait)) h = cc
method_free c (method.Confirm confirm.SelectOk) h = refl
method_free c (method.Tx m) h = tx_free m

-- ---- a frame leaves

next_step : (s : StepA asking) → told_by_step s ≡ Departs → s ≡ NextA
next_step (CallA d KOpen) u = cc
next_step (CallA d (KSelect x)) u = cc
next_step (CallA d (KBegin i ns)) u = cc
next_step (CallA d KClose) u = cc
next_step (CallA d KTell) u = cc
next_step (CallA d (KAsk k)) u = cc
next_step (SendA f) u = cc
next_step HangUpA u = cc
next_step NextA u = refl
next_step ReadA u = cc
next_step DeliverA u = cc
next_step LoseA u = cc

departs : (ss : List (StepA asking)) (t : All tagging) (ms ks : List ConfirmMark) → AreOwn ss → AreTold Departs ss → AreNoted (happens_a tagging t NextA) (ms ++ ks) → AreNoted (tagged_run ss t) (ms ++ ks)
departs [] t ms ks o u h = absurd u
departs (s ∷ ss) t ms ks o u h = untold_run ss (happens_a tagging t (tagged_step s)) (ms ++ ks) o.1 u.1 (subst (λ x. AreNoted (happens_a tagging t (tagged_step x)) (ms ++ ks)) (sym (next_step s u.0)) h)

-- a piece of a content
piece_free : (c : ℕ) (u : UpF) (f : UpOn U2) → f ≡ OnU c (Plain u) → is_behind u ≡ true → no_select f ≡ true
piece_free c u f e h = ap no_select e ∙ plain u h
  where
    plain : (u : UpF) → is_behind u ≡ true → not (is_select (Plain u)) ≡ true
    plain (FHeader n) h = refl
    plain (FBody n) h = refl
    plain _ h = cc

fewer : (f : UpOn U2) (fs : List (UpOn U2)) (c : ℕ) → has_select (of_u c (f ∷ fs)) ≡ false → has_select (of_u c fs) ≡ false
fewer CloseU fs c h = h
fewer CloseOkU fs c h = h
fewer (OnU d u) fs c h = (elim (d == c) as (λ b. has_select (cond b (u ∷ of_u c fs) (of_u c fs)) ≡ false → has_select (of_u c fs) ≡ false) [ true ↦ behind (is_select u) | false ↦ λ h. h ]) h
  where
    behind : (b : Bool) → (b || has_select (of_u c fs)) ≡ false → has_select (of_u c fs) ≡ false
    behind true h = cc
    behind false h = h

module _ (t : All tagging) (b : Wire) (br : Broker) (us : List Left) (ds : List Frame) (ms : List ConfirmMark) (e : bare t ≡ pair_as b br us ds) (held : Held b) (h : AreNoted t ms) where
  -- once the connection isn't open no select leaves
  shut_next : (f : UpOn U2) (fs : List (UpOn U2)) → waits_as b ≡ f ∷ fs → is_up b.link ≡ false → (ks : List ConfirmMark) → AreNoted (happens_a tagging t NextA) ks
  shut_next f fs w n ks = subst (λ ws. AreNoted (hands_a tagging t ws) ks) (sym (unsent_of t b br us ds e ∙ w))
      (shut_noted t.chans ks fs (λ c. shut_of t b br us ds c e n) (λ c. fewer f fs c (ap (λ ws. has_select (of_u c ws)) (sym (unsent_of t b br us ds e ∙ w)) ∙ subst (λ p. IsNotedIn p (t.chans c) c ms (of_u c t.unsent)) (shut_of t b br us ds c e n) (h c))))

  rest_next : (f : RestEntry) (fs : List RestEntry) → b.rest ≡ f ∷ fs → AreNoted (happens_a tagging t NextA) (ms ++ [])
  rest_next f fs r = by_link (is_up b.link) refl
    where
      ways : waits_as b ≡ rest_as f ∷ waiting_as fs b.methods
      ways = ap (λ k. waiting_as k b.methods) r

      by_link : (x : Bool) → is_up b.link ≡ x → AreNoted (happens_a tagging t NextA) (ms ++ [])
      by_link false n = shut_next (rest_as f) (waiting_as fs b.methods) ways n (ms ++ [])
      by_link true n =
          let w : IsWhole (f ∷ fs) = subst IsWhole r (held.up (up_open b.link n)).rest in
          beside (happens_a tagging t NextA) ms [] tt (next_other t ms (rest_as f) (waiting_as fs b.methods) (unsent_of t b br us ds e ∙ ways) (λ c. free_front (rest_as f) (waiting_as fs b.methods) c (piece_free _ w.1.0 (rest_as f) w.1.1 w.1.2)) h)

  method_next : (m : MethodEntry) (rs : List MethodEntry) → b.rest ≡ [] → b.methods ≡ m ∷ rs → AreNoted (happens_a tagging t NextA) (ms ++ history.method_marks m.channel m.method)
  method_next m rs r q = by_select (history.is_select m.method) refl
    where
      ways : t.unsent ≡ entry_as m ∷ map entry_as rs
      ways = unsent_of t b br us ds e ∙ ap₂ waiting_as r q

      selects : (x : Method) → history.is_select x ≡ true → t.unsent ≡ up_frame (frame.Method m.channel x) ∷ map entry_as rs → AreNoted (happens_a tagging t NextA) (ms ++ mark.SelectLeft m.channel ∷ [])
      selects (method.Confirm (confirm.Select true)) y w = next_select t ms m.channel (Plain kept.FSelect) (map entry_as rs) w refl h
      selects (method.Confirm (confirm.Select false)) y w = next_select t ms m.channel SelectAsk (map entry_as rs) w refl h
      selects _ y w = cc

      by_select : (x : Bool) → history.is_select m.method ≡ x → AreNoted (happens_a tagging t NextA) (ms ++ cond (history.is_select m.method) (mark.SelectLeft m.channel ∷ []) [])
      by_select true y = subst (λ x. AreNoted (happens_a tagging t NextA) (ms ++ cond x (mark.SelectLeft m.channel ∷ []) [])) (sym y) (selects m.method y ways)
      by_select false y = subst (λ x. AreNoted (happens_a tagging t NextA) (ms ++ cond x (mark.SelectLeft m.channel ∷ []) [])) (sym y)
          (beside (happens_a tagging t NextA) ms [] tt (next_other t ms (entry_as m) (map entry_as rs) ways (λ c. free_front (entry_as m) (map entry_as rs) c (up_free m.channel (client_method m.channel m.method) (method_free m.channel m.method y))) h))

  begins_next : (x : ℕ → Bool) (p : Publish) (ns : List ℕ) → b.rest ≡ [] → b.methods ≡ [] → find (may_begin x) b.publishes ≡ Some p → MayCome ms (mark.Left p.channel p.confirm) → AreNoted (happens_a tagging (happens_a tagging t (CallA p.channel (KBegin 0 ns))) NextA) (ms ++ mark.Left p.channel p.confirm ∷ [])
  begins_next x p ns r q y may = by_link (is_up b.link) refl
    where
      by_link : (z : Bool) → is_up b.link ≡ z → AreNoted (happens_a tagging (happens_a tagging t (CallA p.channel (KBegin 0 ns))) NextA) (ms ++ mark.Left p.channel p.confirm ∷ [])
      by_link true n =
          let l = up_open b.link n in
          let o = open_is (phase_of p.channel b) (open_found (may_begin x) b.phases b.publishes p y (held.up l).publishes) in
          begin_noted t ms p.channel p.confirm ns (conn_of t b br us ds e ∙ ap link_as l) (unsent_of t b br us ds e ∙ ap₂ waiting_as r q) (sess_of t b br us ds p.channel e l ∙ ap phase_as o.is) may h
      by_link false n = let z : None ≡ Some p = sym (ap (find (may_begin x)) (held.shut n)) ∙ y in absurd cc

  pub next_noted : (x : ℕ → Bool) (ss : List (StepA asking)) (rest : List RestEntry) (methods : List MethodEntry) → b.rest ≡ rest → b.methods ≡ methods → AreOwn ss → AreTold (told_next x rest methods b.publishes) ss → CameAfter ms (left_marks (handed_of x rest methods b.publishes)) → AreNoted (tagged_run ss t) (ms ++ left_marks (handed_of x rest methods b.publishes))
  next_noted x ss (f ∷ fs) methods r q own u may = departs ss t ms [] own u (rest_next f fs r)
  next_noted x ss [] (m ∷ rs) r q own u may = departs ss t ms (history.method_marks m.channel m.method) own u (method_next m rs r q)
  next_noted x ss [] [] r q own u may = begun (find (may_begin x) b.publishes) refl u may
    where
      begun : (o : Option Publish) → find (may_begin x) b.publishes ≡ o → AreTold (told_begin o) ss → CameAfter ms (left_marks (option_map left_publish o)) → AreNoted (tagged_run ss t) (ms ++ left_marks (option_map left_publish o))
      begun None y u may = beside (tagged_run ss t) ms [] tt (untold_run ss t ms own u h)
      begun (Some p) y u may = subst (λ xs. AreNoted (tagged_run xs t) (ms ++ mark.Left p.channel p.confirm ∷ [])) (sym u.1) (begins_next x p u.0 r q y may.0)
