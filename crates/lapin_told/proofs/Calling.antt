-- What a call of the application or of an acker leaves fits.
use Rattle.std.proofs.Common.{◌≡◌, ℕ, ◌+◌, ◌==◌, ◌&&◌, Bool, true, false, cond, List, [], ◌∷◌, ◌++◌, Option, Some, None, refl, zero, suc}
use Rattle.std.specs.List.{AllByRecursion as Each}
use Rattle.lapin_types.specs.Types.{Error, Method, BasicMethod}
use Rattle.lapin_types.specs.declared.acker_call.AckerCall.{AckerCall}
use Rattle.lapin_types.specs.declared.job.Job.{Job}
use Rattle.lapin_types.specs.Types.method
use Rattle.lapin_types.specs.Types.basic
use Rattle.lapin_types.specs.declared.request.Reply.TheVariants as reply
use Rattle.lapin_acker.specs.declared.switch.Switch.{Switch}
use Rattle.lapin_acker.specs.declared.switch.Switch.TheVariants as switch
use Rattle.lapin_acker.specs.Switches.{switch_at, usable_as}
use Rattle.lapin_consumer.specs.Subscriptions.{Consumer, Subscriptions, consumer_at}
use Rattle.lapin_delivery.specs.Marks as mark
use Rattle.lapin_rules.specs.declared.calls.Answered.{Answered}
use Rattle.lapin_rules.specs.declared.calls.Answered.TheVariants as answered
use Rattle.lapin_rules.specs.declared.calls.Asked.{Asked}
use Rattle.lapin_rules.specs.declared.calls.Asked.TheVariants as ask
use Rattle.lapin_rules.specs.Ackers.{acker_asked, usable_at, acked_wire, acked_deliveries, after_acker}
use Rattle.lapin_rules.specs.Asking.{is_allowed, after_call, asked_wire, call_deliveries, asking_deliveries, after_asking}
use Rattle.lapin_rules.specs.ConnectionClose.{failed_at_connection_close}
use Rattle.lapin_rules.specs.Consumers.{called_deliveries, lets_go_of, let_go_cancel, cancel_noted, after_let_go, after_drop, let_go_marks, drop_deliveries, delegate_marks, job_marks}
use Rattle.lapin_rules.specs.Ends.{deliveries_ends, live_channels}
use Rattle.lapin_rules.specs.Registry.{line_deliveries, at_once_deliveries}
use Rattle.lapin_rules.specs.Wire.{Wire, state_of, noted, with_deliveries}
use Rattle.lapin_told.proofs.Each.{Of, chosen, chosen_if, each_append, each_get}
use Rattle.lapin_told.proofs.Fitting.{Short, Wide, ConsumerFits, SwitchFits, WireFits, requests_now}
use Rattle.lapin_told.proofs.Calls.{AskedFits}
use Rattle.lapin_told.proofs.Delivered.{MarkFits}
use Rattle.lapin_told.proofs.Wires.{call_wire, delivered_fits, note_fits, requested}

-- ---- what it does to consumers

pub ends_fit : (e : Error) (cs : List ℕ) → Each MarkFits (deliveries_ends e cs)
ends_fit e [] = tt
ends_fit e (c ∷ cs) = (tt, ends_fit e cs)

cancels_fit : (c : ℕ) (tag : List ℕ) (t : Bool) → Each MarkFits (cond t (mark.Canceled c tag ∷ []) [])
cancels_fit c tag true = (tt, tt)
cancels_fit c tag false = tt

alls_fit : (c : ℕ) (t : Bool) → Each MarkFits (cond t (mark.Discarded c ∷ []) [])
alls_fit c true = (tt, tt)
alls_fit c false = tt

basic_fit : (c : ℕ) (m : BasicMethod) → Each MarkFits (called_deliveries c m)
basic_fit c (basic.Cancel tag nowait) = (tt, cancels_fit c tag nowait)
basic_fit c (basic.Ack tag multiple) = alls_fit c (multiple && tag == 0)
basic_fit c (basic.Nack tag multiple requeue) = alls_fit c (multiple && tag == 0)
basic_fit c (basic.RecoverAsync requeue) = (tt, tt)
basic_fit c _ = tt

at_once_fit : (c : ℕ) (a : Answered) → Each MarkFits (at_once_deliveries c a)
at_once_fit c (answered.AtOnce r a) = (tt, tt)
at_once_fit c (answered.ByReply r) = tt
at_once_fit c (answered.AsItLeaves l) = tt

line_fit : (c : ℕ) (m : Method) (a : Answered) → Each MarkFits (line_deliveries c m a)
line_fit c (method.Basic m) a = basic_fit c m
line_fit c _ a = at_once_fit c a

module _ (K : ℕ → Bool) where
  call_marks : (c : ℕ) (k : Asked) (b : Wire) → Short c → AskedFits K (b.tickets + 1) k → Each MarkFits (call_deliveries c k b)
  call_marks c ask.Open b short f = (tt, tt)
  call_marks c (ask.CloseChannel code reason) b short f = (tt, tt)
  call_marks c (ask.CloseConnection code reason) b short f = ends_fit failed_at_connection_close (live_channels b.phases)
  call_marks c (ask.Consume m tag queue o) b short f = ((short, f.1), tt)
  call_marks c (ask.Method row) b short f = line_fit c row.method row.answered
  call_marks c _ b short f = tt

  -- what is asked for fits, where it is allowed: its ticket is then the next
  abbrev pub AllowedFits : ℕ → Asked → Wire → Type 0
  AllowedFits c k b = is_allowed k (state_of c b) ≡ true → AskedFits K (b.tickets + 1) k

  asked_marks : (c : ℕ) (k : Asked) (b : Wire) → Short c → AllowedFits c k b → Each MarkFits (asking_deliveries c k b)
  asked_marks c k b short f = chosen_if (Each MarkFits) (is_allowed k (state_of c b)) (call_deliveries c k b) [] (λ e. call_marks c k b short (f e)) tt

  asked_fits : (c : ℕ) (k : Asked) (b : Wire) → Short c → AllowedFits c k b → WireFits K b → WireFits K (asked_wire c k b)
  asked_fits c k b short f h = chosen_if (WireFits K) (is_allowed k (state_of c b)) (after_call c k b) b (λ e. call_wire K c k b short (f e) h) h

  pub asking_fits : (c : ℕ) (k : Asked) (b : Wire) → Short c → AllowedFits c k b → WireFits K b → WireFits K (after_asking c k b)
  asking_fits c k b short f h = delivered_fits K (asking_deliveries c k b) (asked_wire c k b) (asked_marks c k b short f) (asked_fits c k b short f h)

  -- ---- ackers

  abbrev pub UsableFits : Option (ℕ × ℕ) → Type 0
  UsableFits None = Unit {0}
  UsableFits (Some x) = Short x.0 × Wide x.1

  usable_fits : (o : Option Switch) → Of SwitchFits o → UsableFits (usable_as o)
  usable_fits (Some (switch.Usable c t)) h = h
  usable_fits _ h = tt

  switch_fits : (n : ℕ) (ss : List Switch) → Each SwitchFits ss → Of SwitchFits (switch_at n ss)
  switch_fits zero ss h = tt
  switch_fits (suc p) ss h = each_get SwitchFits ss p h

  -- what an acker asks for fits where it is allowed
  abbrev pub AckFits : Option (ℕ × ℕ) → AckerCall → Wire → Type 0
  AckFits None k b = Unit {0}
  AckFits (Some x) k b = Short x.0 × AllowedFits x.0 (acker_asked k x.1) b

  acked_fits : (n : ℕ) (o : Option (ℕ × ℕ)) (k : AckerCall) (b : Wire) → AckFits o k b → WireFits K b → WireFits K (with_deliveries (acked_deliveries n o k b) (acked_wire o k b))
  acked_fits n None k b f h = delivered_fits K [] b tt h
  acked_fits n (Some x) k b f h =
      let a : Asked = acker_asked k x.1 in
      delivered_fits K (asking_deliveries x.0 a b ++ mark.Spent n ∷ []) (asked_wire x.0 a b) (each_append MarkFits (asking_deliveries x.0 a b) (mark.Spent n ∷ []) (asked_marks x.0 a b f.0 f.1) (tt, tt)) (asked_fits x.0 a b f.0 f.1 h)

  pub usable : (n : ℕ) (b : Wire) → WireFits K b → UsableFits (usable_at n b)
  usable n b h = usable_fits (switch_at n b.deliveries.switches) (switch_fits n b.deliveries.switches h.deliveries_fit.1)

  pub acker_wire : (n : ℕ) (k : AckerCall) (b : Wire) → AckFits (usable_at n b) k b → WireFits K b → WireFits K (after_acker n k b)
  acker_wire n k b f h = acked_fits n (usable_at n b) k b f h

  -- ---- consumers

  pub consumer_found : (n : ℕ) (r : Subscriptions) → Each ConsumerFits r.consumers → Of ConsumerFits (consumer_at n r)
  consumer_found zero r h = tt
  consumer_found (suc p) r h = each_get ConsumerFits r.consumers p h

  let_go_fits : (o : Option Consumer) (b : Wire) → Of ConsumerFits o → WireFits K b → WireFits K (after_let_go o b)
  let_go_fits None b f h = h
  let_go_fits (Some x) b f h =
      let noted : WireFits K (noted x.channel (let_go_cancel x) b) = note_fits K x.channel (let_go_cancel x) b f.0 (f.1, (refl, tt)) h in
      let cancelled : WireFits K (cancel_noted x b) = requests_now noted (requested K x.channel (record { ticket = None; reply = reply.BasicCancelOk }) b.requests tt h.requests_fit) in
      chosen (WireFits K) (lets_go_of x b) (cancel_noted x b) b cancelled h

  go_marks : (n : ℕ) (o : Option Consumer) (b : Wire) → Each MarkFits (let_go_marks n o b)
  go_marks n None b = tt
  go_marks n (Some x) b = chosen (Each MarkFits) (lets_go_of x b) (mark.LetGo n ∷ []) [] (tt, tt) tt

  pub drop_fits : (n : ℕ) (b : Wire) → WireFits K b → WireFits K (with_deliveries (drop_deliveries n b) (after_drop n b))
  drop_fits n b h =
      let o : Option Consumer = consumer_at n b.deliveries.subscriptions in
      delivered_fits K (drop_deliveries n b) (after_drop n b) (go_marks n o b) (let_go_fits o b (consumer_found n b.deliveries.subscriptions h.deliveries_fit.0) h)

pub delegate_marks_fit : (n : ℕ) (o : Option Consumer) → Each MarkFits (delegate_marks n o)
delegate_marks_fit n None = tt
delegate_marks_fit n (Some x) = (tt, tt)

pub job_marks_fit : (o : Option Job) → Each MarkFits (job_marks o)
job_marks_fit None = tt
job_marks_fit (Some j) = (tt, tt)
