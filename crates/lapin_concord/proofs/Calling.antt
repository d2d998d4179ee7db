-- Each call is a run of the pair of machines, and keeps what the session holds.
use Rattle.std.proofs.Common.{◌≡◌, ◌≢◌, ℕ, ◌+◌, Bool, true, false, cond, ◌==◌, List, [], ◌∷◌, ◌++◌, map, refl, sym, ◌∙◌, ap, ap₂, subst, subst₂, Option, Some, None, inl, inr, eq-eqb, ne_eqb}
use Rattle.std.proofs.lemmas.Bool.Decides.{eqb_tells}
use Rattle.std.specs.Prelude.{find}
use Rattle.std.specs.List.{filter}
use Rattle.lapin_types.specs.declared.leaving.Left.{Left}
use Rattle.lapin_types.specs.declared.leaving.Publish.{Publish}
use Rattle.lapin_types.specs.declared.request.Request.{Request}
use Rattle.lapin_types.specs.declared.request.Reply.{Reply}
use Rattle.lapin_types.specs.declared.request.Reply.TheVariants as reply
use Rattle.lapin_types.specs.declared.request.ReplyKind.TheVariants as reply_kind
use Rattle.lapin_types.specs.Types.{Frame, Method}
use Rattle.lapin_types.specs.Types.channel_state as state
use Rattle.lapin_types.specs.Types.frame
use Rattle.lapin_types.specs.Types.method
use Rattle.lapin_types.specs.Types.channel
use Rattle.lapin_content.specs.Channels.{expected_on}
use Rattle.lapin_delivery.specs.Marks.{DeliveryMark}
use Rattle.lapin_rules.specs.declared.calls.Asked.{Asked}
use Rattle.lapin_rules.specs.declared.calls.Asked.TheVariants as ask
use Rattle.lapin_rules.specs.declared.phases.Closer.{Closer}
use Rattle.lapin_rules.specs.declared.phases.Closer.TheVariants as closer
use Rattle.lapin_rules.specs.declared.phases.ChannelPhase.{ChannelPhase}
use Rattle.lapin_rules.specs.declared.phases.ChannelPhase.TheVariants as phase
use Rattle.lapin_rules.specs.declared.phases.ConnectionPhase.TheVariants as link
use Rattle.lapin_rules.specs.Words.{is_some, with_channel}
use Rattle.lapin_rules.specs.Phases.{is_up, channel_state}
use Rattle.lapin_rules.specs.Requests.{first_request, is_kind}
use Rattle.lapin_rules.specs.Drops.{is_off, publish_channel}
use Rattle.lapin_rules.specs.Wire.{queued, Wire, phase_of, requests_of, state_of, is_open, is_closed, with_deliveries}
use Rattle.lapin_rules.specs.Calls.{awaited_by}
use Rattle.lapin_rules.specs.Opening.{after_open_call}
use Rattle.lapin_rules.specs.ChannelClose.{own_close}
use Rattle.lapin_rules.specs.Asking.{is_allowed, after_call, asked_wire, after_asking, asking_deliveries}
use Rattle.lapin_broker.specs.States.{Broker}
use Rattle.lapin_broker.specs.Frames.{client_frame}
use Rattle.lapin_pairs.specs.Machine.{Up, UClose, UOpen, UOther, UCloseOk, Closed, Opening, Opened, Closing, has_close}
use Rattle.lapin_pairs.specs.Channel as kept
use Rattle.lapin_pairs.specs.Channel.{FOpen, FClose}
use Rattle.lapin_pairs.specs.Every.{OnU, of_u, All, CallA, HangUpA, calls_a, called_a, hangs_a}
use Rattle.lapin_pairs.specs.Asking.{Plain, S2, KOpen, KClose, call2, asking}
use Rattle.lapin_pairs.proofs.Every.{of_more, of_away}
use Rattle.lapin_concord.specs.Frames.{up_frame, IsSent}
use Rattle.lapin_concord.specs.Wires.{link_as, asked_in, contents_as, chan_as, chans_up, rest_as, entry_as, waits_as, pair_as}
use Rattle.lapin_concord.specs.Held.{ends_close, way, IsMarked, IsLinked, is_open_phase, AreOpen, IsWhole, IsOneContent, Held, AreRestSent, AreMethodsSent}
use Rattle.lapin_concord.proofs.Views.{Told, Untold, Opens, Resets, told_call, Follows, stays, one_step, phase_at, phase_with, phase_away, requests_with_here, requests_away, Same, HeldOn, held_moved, chans_moved}
use Rattle.lapin_concord.proofs.Queues.{asked-push, asked-push_other, IsAsking, Queues, QueuesOf}
use Rattle.lapin_concord.proofs.Queueing.{open_is, way-append, methods-push, waits_more, moved_pair, Queued, queued_held, queued_follows}
use Rattle.lapin_rules.proofs.PhaseLaws.{base_here, allowed_up}

-- ---- consumers and ackers are no part of the pair

pub held_deliveries : (ms : List DeliveryMark) (b : Wire) → Held b → Held (with_deliveries ms b)
held_deliveries ms b h = record { up = λ e. let u = h.up e in record { zero = u.zero; each = u.each; publishes = u.publishes; rest = u.rest }; shut = h.shut; linked = h.linked; rest = h.rest; methods = h.methods }

-- ---- states

pub opened_here : (t : Bool) (p : ChannelPhase) → is_open (cond t state.Base (channel_state p)) ≡ true → (t ≡ false) × (is_open_phase p ≡ true)
opened_here true p h = absurd cc
opened_here false phase.Closed h = absurd cc
opened_here false phase.Opening h = absurd cc
opened_here false (phase.Open paused) h = (refl, refl)
opened_here false (phase.Closing who sent) h = absurd cc
opened_here false phase.Crossed h = absurd cc

pub closed_here : (t : Bool) (p : ChannelPhase) → is_closed (cond t state.Base (channel_state p)) ≡ true → (t ≡ false) × (p ≡ phase.Closed)
closed_here true p h = absurd cc
closed_here false phase.Closed h = (refl, refl)
closed_here false phase.Opening h = absurd cc
closed_here false (phase.Open paused) h = absurd cc
closed_here false (phase.Closing who sent) h = absurd cc
closed_here false phase.Crossed h = absurd cc

pub above : (c : ℕ) → (c == 0) ≡ false → (c ≡ 0 → ⊥)
above c z e = let y : true ≡ false = sym (eq-eqb c 0 e) ∙ z in cc

-- ---- closes in a way

pub close_after : (us vs : List Up) → has_close us ≡ false → has_close vs ≡ false → has_close (us ++ vs) ≡ false
close_after [] vs h k = k
close_after (UClose ∷ us) vs h k = cc
close_after (UOpen ∷ us) vs h k = close_after us vs h k
close_after (UCloseOk ∷ us) vs h k = close_after us vs h k
close_after (UOther ∷ us) vs h k = close_after us vs h k

pub close_push : (us : List Up) → has_close us ≡ false → ends_close (us ++ UClose ∷ []) ≡ true
close_push [] h = refl
close_push (UClose ∷ us) h = cc
close_push (UOpen ∷ us) h = close_push us h
close_push (UCloseOk ∷ us) h = close_push us h
close_push (UOther ∷ us) h = close_push us h

-- ---- publishes

pub open_off : (c : ℕ) (p : ChannelPhase) (ps : List (ℕ × ChannelPhase)) (qs : List Publish) → AreOpen ps qs → AreOpen (with_channel c p ps) (filter (is_off publish_channel c) qs)
open_off c p ps [] h = tt
open_off c p ps (q ∷ qs) h = elim (eqb_tells q.channel c) [
  | inl y ↦ rw y.0 (open_off c p ps qs h.1)
  | inr n ↦ rw n.0 (ap is_open_phase (phase_away c q.channel p ps (ne_eqb c q.channel (λ e. n.1 (sym e)))) ∙ h.0, open_off c p ps qs h.1)
]

pub open_closed : (c : ℕ) (p : ChannelPhase) (ps : List (ℕ × ChannelPhase)) (qs : List Publish) → is_open_phase (phase_at c ps) ≡ false → AreOpen ps qs → AreOpen (with_channel c p ps) qs
open_closed c p ps [] k h = tt
open_closed c p ps (q ∷ qs) k h = (ap is_open_phase (phase_away c q.channel p ps (ne_eqb c q.channel apart)) ∙ h.0, open_closed c p ps qs k h.1)
  where
    apart : c ≢ q.channel
    apart e = let x : true ≡ false = sym h.0 ∙ (ap (λ n. is_open_phase (phase_at n ps)) (sym e) ∙ k) in cc

open_push : (ps : List (ℕ × ChannelPhase)) (qs : List Publish) (q : Publish) → AreOpen ps qs → is_open_phase (phase_at q.channel ps) ≡ true → AreOpen ps (qs ++ q ∷ [])
open_push ps [] q h k = (k, tt)
open_push ps (x ∷ xs) q h k = (h.0, open_push ps xs q h.1 k)

-- ---- `channel.open`

find_last : {X : Type 0} (p : X → Bool) (xs : List X) (x : X) → p x ≡ true → is_some (find p (xs ++ x ∷ [])) ≡ true
find_last p [] x h = rw h refl
find_last p (y ∷ xs) x h = elim (p y) as (λ b. is_some (cond b (Some y) (find p (xs ++ x ∷ []))) ≡ true) [ true ↦ refl | false ↦ find_last p xs x h ]

-- the wire after an event, and that the pair follows it
pub record Goes (k : Told) (b d : Wire) : Type 0 where
  pub held : Held d
  pub follows : (br : Broker) (us : List Left) (ds : List Frame) → Follows k (pair_as b br us ds) (pair_as d br us ds)

module _ (c : ℕ) (b : Wire) (e : b.link ≡ link.Open) (z : (c == 0) ≡ false) (p : phase_of c b ≡ phase.Closed) (h : Held b) where
  abbrev opens : Wire
  opens = after_open_call c b

  abbrev open_request : Request
  open_request = record { ticket = Some (b.tickets + 1); reply = reply.ChannelOpenOk }

  opens_waits : waits_as opens ≡ waits_as b ++ OnU c (Plain FOpen) ∷ []
  opens_waits = waits_more b.rest b.methods (record { channel = c; method = method.Channel channel.Open; ticket = Some (b.tickets + 1) }) (OnU c (Plain FOpen)) (rw z refl)

  opens_away : (x : ℕ) → (c == x) ≡ false → Same x b opens
  opens_away x n = record {
    phase = phase_away c x phase.Opening b.phases n;
    requests = requests_away c x (requests_of c b ++ open_request ∷ []) b.requests n;
    contents = refl;
    way = ap (of_u x) opens_waits ∙ of_away c x (Plain FOpen ∷ []) (waits_as b) n;
  }

  opens_phase : phase_of c opens ≡ phase.Opening
  opens_phase = phase_with c phase.Opening b.phases

  opens_requests : requests_of c opens ≡ requests_of c b ++ open_request ∷ []
  opens_requests = requests_with_here c (requests_of c b ++ open_request ∷ []) b.requests

  opens_here : HeldOn c b → HeldOn c opens
  opens_here k =
      let was : has_close (way (of_u c (waits_as b))) ≡ false = subst (λ x. IsMarked x (of_u c (waits_as b))) p k.marks in
      let us : of_u c (waits_as opens) ≡ of_u c (waits_as b) ++ Plain FOpen ∷ [] = ap (of_u c) opens_waits ∙ of_more c (Plain FOpen ∷ []) (waits_as b) in
      let now : has_close (way (of_u c (waits_as opens))) ≡ false = ap (λ x. has_close (way x)) us ∙ (ap has_close (way-append (of_u c (waits_as b)) (Plain FOpen ∷ [])) ∙ close_after (way (of_u c (waits_as b))) (UOpen ∷ []) was refl) in
      record {
        opening = λ x. ap (λ rs. is_some (first_request reply_kind.ChannelOpenOk rs)) opens_requests ∙ find_last (is_kind reply_kind.ChannelOpenOk) (requests_of c b) open_request refl;
        crossed = λ x. let y : phase.Opening ≡ phase.Crossed = sym opens_phase ∙ x in cc;
        marks = subst (λ x. IsMarked x (of_u c (waits_as opens))) (sym opens_phase) now;
        contents = k.contents;
      }

  opens_goes : Goes (Opens c) b opens
  opens_goes =
      let u = h.up e in
      record {
        held = record {
          up = λ x. record {
            zero = phase_away c 0 phase.Opening b.phases (ne_eqb c 0 (above c z)) ∙ u.zero;
            each = held_moved c b opens opens_away (opens_here (u.each c)) u.each;
            publishes = open_closed c phase.Opening b.phases b.publishes (ap is_open_phase p) u.publishes;
            rest = u.rest;
          };
          shut = h.shut;
          linked = subst (λ l. IsLinked l (waits_as opens)) (sym e) tt;
          rest = h.rest;
          methods = methods-push b.frame_max b.methods _ h.methods (rw z tt);
        };
        follows = λ br us ds.
            let v : All asking = pair_as b br us ds in
            let xs : List ℕ = asked_in (requests_of c b) in
            let y : kept.Content = contents_as (expected_on c b.contents) in
            let s : S2 = record { sess = Opening; open_data = Some (record { asked_for = xs; content = y }) } in
            let there : v.chans c ≡ record { sess = Closed; open_data = Some (record { asked_for = xs; content = y }) } = ap (λ l. chans_up (is_up l) b.phases b.requests b.contents c) e ∙ ap (λ x. chan_as x (requests_of c b) (expected_on c b.contents)) p in
            let made : chan_as (phase_of c opens) (requests_of c opens) (expected_on c opens.contents) ≡ s =
            ap (λ x. chan_as x (requests_of c opens) (expected_on c b.contents)) opens_phase ∙ ap (λ x. record { sess = Opening; open_data = Some (record { asked_for = x; content = y }) }) (ap asked_in opens_requests ∙ asked-push_other (requests_of c b) open_request refl) in
            one_step (Opens c) v _ (CallA c KOpen) refl (refl, tt)
            (ap (λ s. calls_a asking v s c KOpen false) (ap link_as e) ∙ (ap (λ s. called_a asking v c (call2 KOpen s)) there
            ∙ moved_pair b opens br us ds ds c s (waits_as b ++ OnU c (Plain FOpen) ∷ []) e e (chans_moved c s b opens made opens_away) opens_waits));
      }

-- ---- this side closes the channel: a request of it stands open or not

pub record Closes (c : ℕ) (m : Method) (who : Closer) (b d : Wire) : Type 0 where
  pub link_ : d.link ≡ b.link
  pub phases : d.phases ≡ with_channel c (phase.Closing who false) b.phases
  pub rest : d.rest ≡ b.rest
  pub ticket : Option ℕ
  pub methods : d.methods ≡ b.methods ++ record { channel = c; method = m; ticket = ticket } ∷ []
  pub publishes : d.publishes ≡ filter (is_off publish_channel c) b.publishes
  pub contents : d.contents ≡ b.contents
  pub here : asked_in (requests_of c d) ≡ asked_in (requests_of c b)
  pub away : (e : ℕ) → (c == e) ≡ false → requests_of e d ≡ requests_of e b
  pub most : d.frame_max ≡ b.frame_max
  pub up : up_frame (frame.Method c m) ≡ OnU c (Plain FClose)
  pub sent : (most : ℕ) → IsSent most (client_frame (frame.Method c m))

module _ (c : ℕ) (m : Method) (who : Closer) (b d : Wire) (e : b.link ≡ link.Open) (z : (c == 0) ≡ false) (o : is_open_phase (phase_of c b) ≡ true) (q : Closes c m who b d) (h : Held b) where
  closes_waits : waits_as d ≡ waits_as b ++ OnU c (Plain FClose) ∷ []
  closes_waits = ap₂ (λ x y. map rest_as x ++ map entry_as y) q.rest q.methods ∙ waits_more b.rest b.methods (record { channel = c; method = m; ticket = q.ticket }) (OnU c (Plain FClose)) q.up

  closes_phase : phase_of c d ≡ phase.Closing who false
  closes_phase = ap (phase_at c) q.phases ∙ phase_with c (phase.Closing who false) b.phases

  closes_away : (x : ℕ) → (c == x) ≡ false → Same x b d
  closes_away x n = record {
    phase = ap (phase_at x) q.phases ∙ phase_away c x (phase.Closing who false) b.phases n;
    requests = q.away x n;
    contents = ap (expected_on x) q.contents;
    way = ap (of_u x) closes_waits ∙ of_away c x (Plain FClose ∷ []) (waits_as b) n;
  }

  closes_here : HeldOn c b → HeldOn c d
  closes_here k =
      let p = open_is (phase_of c b) o in
      let was : has_close (way (of_u c (waits_as b))) ≡ false = subst (λ x. IsMarked x (of_u c (waits_as b))) p.is k.marks in
      let us : of_u c (waits_as d) ≡ of_u c (waits_as b) ++ Plain FClose ∷ [] = ap (of_u c) closes_waits ∙ of_more c (Plain FClose ∷ []) (waits_as b) in
      let now : ends_close (way (of_u c (waits_as d))) ≡ true = ap (λ x. ends_close (way x)) us ∙ (ap ends_close (way-append (of_u c (waits_as b)) (Plain FClose ∷ [])) ∙ close_push (way (of_u c (waits_as b))) was) in
      record {
        opening = λ x. let y : phase.Closing who false ≡ phase.Opening = sym closes_phase ∙ x in cc;
        crossed = λ x. let y : phase.Closing who false ≡ phase.Crossed = sym closes_phase ∙ x in cc;
        marks = subst (λ x. IsMarked x (of_u c (waits_as d))) (sym closes_phase) now;
        contents = subst IsOneContent (sym (ap (expected_on c) q.contents)) k.contents;
      }

  pub closes_goes : Goes Untold b d
  closes_goes =
      let u = h.up e in
      let f : d.link ≡ link.Open = q.link_ ∙ e in
      let p = open_is (phase_of c b) o in
      record {
        held = record {
          up = λ x. record {
            zero = ap (phase_at 0) q.phases ∙ (phase_away c 0 (phase.Closing who false) b.phases (ne_eqb c 0 (above c z)) ∙ u.zero);
            each = held_moved c b d closes_away (closes_here (u.each c)) u.each;
            publishes = subst₂ AreOpen (sym q.phases) (sym q.publishes) (open_off c (phase.Closing who false) b.phases b.publishes u.publishes);
            rest = subst IsWhole (sym q.rest) u.rest;
          };
          shut = λ x. let y : true ≡ false = ap is_up (sym f) ∙ x in cc;
          linked = subst (λ l. IsLinked l (waits_as d)) (sym f) tt;
          rest = subst₂ AreRestSent (sym q.most) (sym q.rest) h.rest;
          methods = subst₂ AreMethodsSent (sym q.most) (sym q.methods) (methods-push b.frame_max b.methods _ h.methods (q.sent b.frame_max));
        };
        follows = λ br us ds.
            let v : All asking = pair_as b br us ds in
            let xs : List ℕ = asked_in (requests_of c b) in
            let y : kept.Content = contents_as (expected_on c b.contents) in
            let s : S2 = record { sess = Closing; open_data = Some (record { asked_for = xs; content = y }) } in
            let there : v.chans c ≡ record { sess = Opened; open_data = Some (record { asked_for = xs; content = y }) } = ap (λ l. chans_up (is_up l) b.phases b.requests b.contents c) e ∙ ap (λ x. chan_as x (requests_of c b) (expected_on c b.contents)) p.is in
            let made : chan_as (phase_of c d) (requests_of c d) (expected_on c d.contents) ≡ s =
            ap (λ x. chan_as x (requests_of c d) (expected_on c d.contents)) closes_phase ∙ ap₂ (λ x k. record { sess = Closing; open_data = Some (record { asked_for = x; content = k }) }) q.here (ap (λ k. contents_as (expected_on c k)) q.contents) in
            one_step Untold v _ (CallA c KClose) refl (refl, tt)
            (ap (λ s. calls_a asking v s c KClose false) (ap link_as e) ∙ (ap (λ s. called_a asking v c (call2 KClose s)) there
            ∙ moved_pair b d br us ds ds c s (waits_as b ++ OnU c (Plain FClose) ∷ []) e f (chans_moved c s b d made closes_away) closes_waits));
      }

-- ---- any call

-- what an allowed call is to the tags
abbrev pub told_asked : (c : ℕ) (k : Asked) → QueuesOf c k → Told
told_asked c ask.Open q = Opens c
told_asked c (ask.CloseConnection code text) q = Resets
told_asked c (ask.Method row) q = told_call c q.call
told_asked c (ask.Consume m tag queue o) q = told_call c q.call
told_asked c _ q = Untold

-- and what any call is
abbrev pub told_of : (c : ℕ) (k : Asked) → QueuesOf c k → Wire → Told
told_of c k q b = cond (is_allowed k (state_of c b)) (told_asked c k q) Untold

-- a line's call queues its method and opens its request
queued_by : (c : ℕ) (m : Method) (w : Option Reply) (b : Wire) → IsAsking w → Queued c m w b (queued c m w b)
queued_by c m None b a = record { link_ = refl; phases = refl; rest = refl; ticket = Some (b.tickets + 1); methods = refl; publishes = refl; contents = refl; here = refl; away = λ e n. refl; most = refl }
queued_by c m (Some r) b a =
    let t : Request = record { ticket = Some (b.tickets + 1); reply = r } in
    record {
      link_ = refl;
      phases = refl;
      rest = refl;
      ticket = Some (b.tickets + 1);
      methods = refl;
      publishes = refl;
      contents = refl;
      here = ap asked_in (requests_with_here c (requests_of c b ++ t ∷ []) b.requests) ∙ asked-push (requests_of c b) t a;
      away = λ e n. requests_away c e (requests_of c b ++ t ∷ []) b.requests n;
      most = refl;
    }

pub line_goes : (c : ℕ) (m : Method) (w : Option Reply) (b : Wire) (q : Queues c m w) → b.link ≡ link.Open → is_open_phase (phase_of c b) ≡ true → Held b → Goes (told_call c q.call) b (queued c m w b)
line_goes c m w b q e o h = let k = queued_by c m w b q.asks in record { held = queued_held c m w b (queued c m w b) q k e o h; follows = λ br us ds. queued_follows c m w b (queued c m w b) q k br us ds e o }

allowed_goes : (c : ℕ) (k : Asked) (b : Wire) (q : QueuesOf c k) → b.link ≡ link.Open → is_allowed k (cond (c == 0) state.Base (channel_state (phase_of c b))) ≡ true → Held b → Goes (told_asked c k q) b (after_call c k b)
allowed_goes c ask.Open b q e a h = let s = closed_here (c == 0) (phase_of c b) a in opens_goes c b e s.0 s.1 h
allowed_goes c (ask.CloseChannel code text) b q e a h =
    let s = opened_here (c == 0) (phase_of c b) a in
    let r : Request = record { ticket = Some (b.tickets + 1); reply = reply.ChannelCloseOk } in
    closes_goes c (own_close code text) closer.Application b _ e s.0 s.1 (record {
      link_ = refl;
      phases = refl;
      rest = refl;
      ticket = Some (b.tickets + 1);
      methods = refl;
      publishes = refl;
      contents = refl;
      here = ap asked_in (requests_with_here c (requests_of c b ++ r ∷ []) b.requests) ∙ asked-push_other (requests_of c b) r refl;
      away = λ x n. requests_away c x (requests_of c b ++ r ∷ []) b.requests n;
      most = refl;
      up = refl;
      sent = λ most. tt;
    }) h
allowed_goes c (ask.CloseConnection code text) b q e a h =
    let s = base_here (c == 0) (phase_of c b) a in
    record {
      held = record { up = λ x. absurd cc; shut = λ x. refl; linked = rw s refl; rest = tt; methods = (rw s tt, tt) };
      follows = λ br us ds. one_step Resets (pair_as b br us ds) _ HangUpA refl (refl, tt) (ap (hangs_a asking (pair_as b br us ds)) (ap link_as e) ∙ rw s refl);
    }
allowed_goes c (ask.Publish exchange key o payload properties) b q e a h =
    let s = opened_here (c == 0) (phase_of c b) a in
    let u = h.up e in
    record {
      held = record {
        up = λ x. record { zero = u.zero; each = u.each; publishes = open_push b.phases b.publishes _ u.publishes s.1; rest = u.rest };
        shut = λ x. let y : true ≡ false = ap is_up (sym e) ∙ x in cc;
        linked = h.linked;
        rest = h.rest;
        methods = h.methods;
      };
      follows = λ br us ds. stays _ _ refl;
    }
allowed_goes c (ask.Consume m tag queue o) b q e a h = line_goes c m None b q e (opened_here (c == 0) (phase_of c b) a).1 h
allowed_goes c (ask.Method row) b q e a h = line_goes c row.method (awaited_by row.answered) b q e (opened_here (c == 0) (phase_of c b) a).1 h
allowed_goes c (ask.Limit limit) b q e a h = record {
  held = record { up = λ x. let u = h.up x in record { zero = u.zero; each = u.each; publishes = u.publishes; rest = u.rest }; shut = h.shut; linked = h.linked; rest = h.rest; methods = h.methods };
  follows = λ br us ds. stays _ _ refl;
}
allowed_goes c ask.Nothing b q e a h = absurd cc

pub goes_none : (b : Wire) → Held b → Goes Untold b b
goes_none b h = record { held = h; follows = λ br us ds. stays _ _ refl }

pub goes_deliveries : (t : Told) (ms : List DeliveryMark) (b d : Wire) → Goes t b d → Goes t b (with_deliveries ms d)
goes_deliveries t ms b d g = record { held = held_deliveries ms d g.held; follows = g.follows }

pub asked_goes : (c : ℕ) (k : Asked) (b : Wire) (q : QueuesOf c k) → Held b → Goes (told_of c k q b) b (asked_wire c k b)
asked_goes c k b q h = elim (is_allowed k (state_of c b)) as (λ t. is_allowed k (state_of c b) ≡ t → Goes (cond t (told_asked c k q) Untold) b (cond t (after_call c k b) b)) [
  | true ↦ λ a. let e = allowed_up b.link k (cond (c == 0) state.Base (channel_state (phase_of c b))) a in allowed_goes c k b q e (sym (ap (λ l. is_allowed k (cond (is_up l) (cond (c == 0) state.Base (channel_state (phase_of c b))) state.Down)) e) ∙ a) h
  | false ↦ λ a. goes_none b h
] refl

pub call_goes : (c : ℕ) (k : Asked) (b : Wire) (q : QueuesOf c k) → Held b → Goes (told_of c k q b) b (after_asking c k b)
call_goes c k b q h = goes_deliveries (told_of c k q b) (asking_deliveries c k b) b (asked_wire c k b) (asked_goes c k b q h)
