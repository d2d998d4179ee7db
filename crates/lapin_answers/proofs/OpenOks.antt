-- An open-ok that resolves a ticket was sent for the open of that very call: it is the first that was sent in the opening with which that
-- began.
use Rattle.std.proofs.Common.{◌≡◌, ◌∙◌, ℕ, ◌≤◌, ◌==◌, Bool, true, false, cond, ◌&&◌, ◌||◌, List, [], ◌∷◌, ◌++◌, map, Option, Some, None, Ok, ◌⊎◌, inl, inr, refl, sym, ap, subst, append-nil, append_assoc, eq-eqb}
use Rattle.std.specs.List.{filter, fold, list_any}
use Rattle.std.proofs.lemmas.Bool.{and_parts, or_parts}
use Rattle.std.proofs.lemmas.List.Elements.{filter-append}
use Rattle.lapin_types.specs.declared.answer.Answer.{Answer}
use Rattle.lapin_types.specs.declared.answer.Answer.TheVariants as answer
use Rattle.lapin_types.specs.declared.event.Event.TheVariants as event
use Rattle.lapin_types.specs.declared.leaving.Left.{Left}
use Rattle.lapin_types.specs.declared.record.Record.{Record}
use Rattle.lapin_types.specs.declared.record.Record.TheVariants as record_
use Rattle.lapin_types.specs.declared.request.Request.{Request}
use Rattle.lapin_types.specs.declared.request.ReplyKind.TheVariants as reply_kind
use Rattle.lapin_types.specs.Types.{Frame, ChannelState}
use Rattle.lapin_types.specs.Types.frame
use Rattle.lapin_types.specs.Types.method
use Rattle.lapin_types.specs.Types.channel
use Rattle.lapin_types.specs.Types.channel_state as state
use Rattle.lapin_rules.specs.declared.broker_frames.Incoming.{Incoming}
use Rattle.lapin_rules.specs.declared.broker_frames.Incoming.TheVariants as incoming
use Rattle.lapin_rules.specs.declared.phases.ConnectionPhase.{ConnectionPhase}
use Rattle.lapin_rules.specs.declared.phases.ConnectionPhase.TheVariants as link
use Rattle.lapin_rules.specs.ConnectionClose.{receives_down}
use Rattle.lapin_rules.specs.Frames.{MethodEntry, left_method}
use Rattle.lapin_rules.specs.History.{rec, readings_of}
use Rattle.lapin_rules.specs.Incoming.{incoming_of, frame_class, frame_method}
use Rattle.lapin_rules.specs.Phases.{is_up, channel_state}
use Rattle.lapin_rules.specs.Readings.{Readings}
use Rattle.lapin_rules.specs.Receiving.{when, incoming_record, incoming_tickets}
use Rattle.lapin_rules.specs.Reply.{receives_reply}
use Rattle.lapin_rules.specs.Requests.{first_request, ticket_of, resolved_with}
use Rattle.lapin_rules.specs.TicketReadings.{TicketMark, answer_of}
use Rattle.lapin_rules.specs.Unexpected.{refused}
use Rattle.lapin_rules.specs.Wire.{Wire, phase_of, state_of, is_opening, requests_of}
use Rattle.lapin_rules.specs.Words.{is_some}
use Rattle.lapin_broker.specs.Frames.{channel_of}
use Rattle.lapin_joint.specs.declared.step.Step.{Step}
use Rattle.lapin_joint.specs.Joint.{joined_to}
use Rattle.lapin_pairs.specs.Channel.{BOpenOk}
use Rattle.lapin_pairs.specs.Every.{ToD, of_d}
use Rattle.lapin_concord.specs.Frames.{down_frame}
use Rattle.lapin_concord.specs.Incomes.{income_as}
use Rattle.lapin_concord.specs.Refusals.{is_refusal}
use Rattle.lapin_concord.proofs.Incomes.{sorted}
use Rattle.lapin_effects.specs.Effects.{live}
use Rattle.lapin_verdicts.specs.Answers.{is_open_ok}
use Rattle.lapin_verdicts.specs.Deeds.{Deed, Read, Sent, is_open, opens, on_channel, joined_opening, last_opening, lefts, deeds}
use Rattle.lapin_verdicts.specs.InStep.{is_open_on, is_open_waiting}
use Rattle.lapin_verdicts.specs.Session.{past_of}
use Rattle.lapin_verdicts.proofs.First.{first_comes}
use Rattle.lapin_verdicts.proofs.Unread.{is_unread, unread_at, pairs}
use Rattle.lapin_answers.specs.Opens.{IsOpeningOf, IsOpened}
use Rattle.lapin_answers.specs.Truth.{OpensAreAnswered}
use Rattle.lapin_answers.proofs.Lists.{lefts_of}
use Rattle.lapin_answers.proofs.OneKind.{kind_found}
use Rattle.lapin_answers.proofs.OpenMoves.{open_requests, waiting_opens}
use Rattle.lapin_answers.proofs.OpenStands.{IsLast, Standing, NoneOpens, OneOpens, all_opens, opens_stand}
use Rattle.lapin_answers.proofs.Received.{unrefused, tickets_after}
use Rattle.lapin_answers.proofs.Shuts.{first_in}
use Rattle.lapin_answers.proofs.Tickets.{Answers, new_answer, none_answers, resolved_is, resolved_gives}

-- ---- the last open that the broker read begins its last opening

abbrev opening_left : Left → Bool
opening_left l = is_open l.frame

-- the opens among what it read on the channel
opens_read : (c : ℕ) (ds : List Deed) → filter (is_open_on c) (lefts ds) ≡ filter opening_left (lefts (on_channel c ds))
opens_read c [] = refl
opens_read c (Read l ∷ ds) = elim (channel_of l.frame == c) as (λ v. cond (v && is_open l.frame) (l ∷ filter (is_open_on c) (lefts ds)) (filter (is_open_on c) (lefts ds)) ≡ filter opening_left (lefts (cond v (Read l ∷ on_channel c ds) (on_channel c ds)))) [
  | true ↦ ap (λ v. cond (is_open l.frame) (l ∷ v) v) (opens_read c ds)
  | false ↦ opens_read c ds
]
opens_read c (Sent f ∷ ds) = opens_read c ds ∙ sym (elim (channel_of f == c) as (λ v. filter opening_left (lefts (cond v (Sent f ∷ on_channel c ds) (on_channel c ds))) ≡ filter opening_left (lefts (on_channel c ds))) [ true ↦ refl | false ↦ refl ])

-- what the broker did up to this open and behind it, which is this opening
record Cut (opening ds : List Deed) (l : Left) : Type 0 where
  pub before : List Deed
  pub all : ds ≡ before ++ Read l ∷ opening
  pub last : list_any opens opening ≡ false

none_opens : (ds : List Deed) → filter opening_left (lefts ds) ≡ [] → list_any opens ds ≡ false
none_opens [] h = refl
none_opens (Sent f ∷ ds) h = none_opens ds h
none_opens (Read l ∷ ds) h = elim (is_open l.frame) as (λ v. cond v (l ∷ filter opening_left (lefts ds)) (filter opening_left (lefts ds)) ≡ [] → (v || list_any opens ds) ≡ false) [ true ↦ λ e. absurd cc | false ↦ λ e. none_opens ds e ] h

-- where no open comes the opening goes on
goes_on : (o ds : List Deed) → list_any opens ds ≡ false → fold joined_opening o ds ≡ o ++ ds
goes_on o [] h = sym (append-nil o)
goes_on o (d ∷ ds) h = elim (opens d) as (λ v. (v || list_any opens ds) ≡ false → fold joined_opening (cond v [] (o ++ d ∷ [])) ds ≡ o ++ d ∷ ds) [ true ↦ λ e. absurd cc | false ↦ λ e. goes_on (o ++ d ∷ []) ds e ∙ append_assoc o (d ∷ []) ds ] h

none_last : {X : Type 0} (done : List X) (l : X) → [] ≡ done ++ l ∷ [] → ⊥
none_last [] l h = cc
none_last (y ∷ ys) l h = cc

one_last : {X : Type 0} (m l : X) (done : List X) → m ∷ [] ≡ done ++ l ∷ [] → m ≡ l
one_last m l [] h = cc
one_last m l (y ∷ ys) h = absurd (none_last ys l (let w : [] ≡ ys ++ l ∷ [] = cc in w))

less_last : {X : Type 0} (m y l : X) (ys done : List X) → m ∷ y ∷ ys ≡ done ++ l ∷ [] → (more : List X) × (y ∷ ys ≡ more ++ l ∷ [])
less_last m y l ys [] h = absurd cc
less_last m y l ys (z ∷ more) h = (more, let w : y ∷ ys ≡ more ++ l ∷ [] = cc in w)

cut_at : (ds o : List Deed) (done : List Left) (l : Left) → filter opening_left (lefts ds) ≡ done ++ l ∷ [] → Cut (fold joined_opening o ds) ds l
cut_at [] o done l h = absurd (none_last done l h)
cut_at (Sent f ∷ ds) o done l h = let k = cut_at ds (o ++ Sent f ∷ []) done l h in record { before = Sent f ∷ k.before; all = ap (λ v. Sent f ∷ v) k.all; last = k.last }
cut_at (Read m ∷ ds) o done l h = by (λ o done g. cut_at ds o done l g) (is_open m.frame) refl (filter opening_left (lefts ds)) refl
  where
    by : ((o : List Deed) (done : List Left) → filter opening_left (lefts ds) ≡ done ++ l ∷ [] → Cut (fold joined_opening o ds) ds l) → (v : Bool) → is_open m.frame ≡ v → (ls : List Left) → filter opening_left (lefts ds) ≡ ls → Cut (fold joined_opening (cond (is_open m.frame) [] (o ++ Read m ∷ [])) ds) (Read m ∷ ds) l
    by again false e ls g =
        let k = again (o ++ Read m ∷ []) done (ap (λ v. cond v (m ∷ filter opening_left (lefts ds)) (filter opening_left (lefts ds))) (sym e) ∙ h) in
        subst (λ v. Cut (fold joined_opening (cond v [] (o ++ Read m ∷ [])) ds) (Read m ∷ ds) l) (sym e) (record { before = Read m ∷ k.before; all = ap (λ v. Read m ∷ v) k.all; last = k.last })
    by again true e [] g =
        let one : m ∷ [] ≡ done ++ l ∷ [] = ap (λ v. m ∷ v) (sym g) ∙ (ap (λ v. cond v (m ∷ filter opening_left (lefts ds)) (filter opening_left (lefts ds))) (sym e) ∙ h) in
        let none : list_any opens ds ≡ false = none_opens ds g in
        let same : fold joined_opening [] ds ≡ ds = goes_on [] ds none in
        subst (λ v. Cut (fold joined_opening (cond v [] (o ++ Read m ∷ [])) ds) (Read m ∷ ds) l) (sym e) (subst (λ v. Cut v (Read m ∷ ds) l) (sym same) (record { before = []; all = ap (λ v. Read v ∷ ds) (one_last m l done one); last = none }))
    by again true e (y ∷ ys) g =
        let more = less_last m y l ys done (ap (λ v. m ∷ v) (sym g) ∙ (ap (λ v. cond v (m ∷ filter opening_left (lefts ds)) (filter opening_left (lefts ds))) (sym e) ∙ h)) in
        let k = again [] more.0 (g ∙ more.1) in
        subst (λ v. Cut (fold joined_opening (cond v [] (o ++ Read m ∷ [])) ds) (Read m ∷ ds) l) (sym e) (record { before = Read m ∷ k.before; all = ap (λ v. Read m ∷ v) k.all; last = k.last })

-- ---- lists

filter_none : {X : Type 0} (p : X → Bool) (xs : List X) → list_any p xs ≡ false → filter p xs ≡ []
filter_none p [] h = refl
filter_none p (x ∷ xs) h = elim (p x) as (λ v. (v || list_any p xs) ≡ false → cond v (x ∷ filter p xs) (filter p xs) ≡ []) [ true ↦ λ e. absurd cc | false ↦ λ e. filter_none p xs e ] h

waiting_none : (c : ℕ) (ms : List MethodEntry) → list_any (is_open_waiting c) ms ≡ false → filter (is_open_on c) (lefts_of ms) ≡ []
waiting_none c [] h = refl
waiting_none c (m ∷ ms) h = elim (is_open_waiting c m) as (λ v. (v || list_any (is_open_waiting c) ms) ≡ false → cond v (left_method m ∷ filter (is_open_on c) (lefts_of ms)) (filter (is_open_on c) (lefts_of ms)) ≡ []) [ true ↦ λ e. absurd cc | false ↦ λ e. waiting_none c ms e ] h

-- ---- an open-ok, as the session sorts it

ok_sorts : (f : Frame) → is_open_ok f ≡ true → incoming_of f ≡ incoming.Reply (channel_of f) reply_kind.ChannelOpenOk (answer.Channel (channel_of f))
ok_sorts (frame.Method c (method.Channel channel.OpenOk)) h = refl
ok_sorts _ h = absurd cc

-- it is received on an opening channel while the connection is open, or it says nothing to tickets
record Heard (c : ℕ) (b : Wire) (x : Record) : Type 0 where
  pub up : is_up b.link ≡ true
  pub opening : is_opening (state_of c b) ≡ true
  pub received : x ≡ record_.Received

abbrev OkComes : ℕ → Answer → Wire → Record → Type 0
OkComes c a b x = Heard c b x ⊎ (incoming_tickets (incoming.Reply c reply_kind.ChannelOpenOk a) x b ≡ [])

ok_when : (c : ℕ) (a : Answer) (b : Wire) (r : Record) (v : Bool) → is_up b.link ≡ true → is_refusal r ≡ true → receives_reply c reply_kind.ChannelOpenOk b ≡ v → is_refusal (when v r) ≡ false → OkComes c a b (when v r)
ok_when c a b r true up e q f = inl (record { up = up; opening = (and_parts (is_opening (state_of c b)) (is_some (first_request reply_kind.ChannelOpenOk (requests_of c b))) q).0; received = refl })
ok_when c a b r false up e q f = let w : true ≡ false = sym e ∙ f in absurd cc

ok_down : (c : ℕ) (a : Answer) (l : ConnectionPhase) → receives_down l (incoming.Reply c reply_kind.ChannelOpenOk a) ≡ false
ok_down c a link.Open = refl
ok_down c a (link.Closing s) = refl
ok_down c a link.Closed = refl
ok_down c a link.Lost = refl

ok_heard : (c class number : ℕ) (a : Answer) (b : Wire) (readings : Readings) → is_refusal (incoming_record b readings (refused class number) (incoming.Reply c reply_kind.ChannelOpenOk a)) ≡ false → OkComes c a b (incoming_record b readings (refused class number) (incoming.Reply c reply_kind.ChannelOpenOk a))
ok_heard c class number a b readings r = (elim (is_up b.link) as (λ v. is_up b.link ≡ v → is_refusal (cond v (when (receives_reply c reply_kind.ChannelOpenOk b) (refused class number)) (cond (receives_down b.link (incoming.Reply c reply_kind.ChannelOpenOk a)) record_.Received record_.Passed)) ≡ false → OkComes c a b (cond v (when (receives_reply c reply_kind.ChannelOpenOk b) (refused class number)) (cond (receives_down b.link (incoming.Reply c reply_kind.ChannelOpenOk a)) record_.Received record_.Passed))) [
  | true ↦ λ up f. ok_when c a b (refused class number) (receives_reply c reply_kind.ChannelOpenOk b) up refl refl f
  | false ↦ λ _ f. subst (OkComes c a b) (ap (λ w. cond w record_.Received record_.Passed) (sym (ok_down c a b.link))) (inr refl)
]) refl r

not_base : (u z : Bool) (s : ChannelState) → is_opening (cond u (cond z state.Base s) state.Down) ≡ true → z ≡ false
not_base true true s h = absurd cc
not_base true false s h = refl
not_base false z s h = absurd cc

-- ---- the open whose ticket is resolved

-- what is said of the open-ok that resolved ticket k
abbrev Found : ℕ → ℕ → List Step → Frame → Type 0
Found n k ss f = IsOpeningOf k (channel_of f) (joined_to n ss).session × IsOpened (channel_of f) k f (deeds n ss)

module _ (n : ℕ) (big : 4096 ≤ n) (k : ℕ) (ss : List Step) (f : Frame) (fs : List Frame) (down : (joined_to n ss).down ≡ f ∷ fs) (ok : is_open_ok f ≡ true) where
  abbrev c : ℕ
  c = channel_of f

  abbrev b : Wire
  b = (past_of n ss).wire

  abbrev up : List Left
  up = (joined_to n ss).up

  -- the broker has read the channel's last open
  unread_none : is_up b.link ≡ true → (c == 0) ≡ false → is_unread c b up ≡ false
  unread_none u z = elim (is_unread c b up) as (λ v. is_unread c b up ≡ v → v ≡ false) [
    | true ↦ λ h.
        let none : of_d c (map down_frame (f ∷ fs)) ≡ [] = ap (λ v. of_d c (map down_frame v)) (sym down) ∙ (unread_at c b (joined_to n ss).broker up (joined_to n ss).down (pairs n ss big) u z h).1 in
        let on : down_frame f ≡ ToD c BOpenOk = sorted f ∙ ap income_as (ok_sorts f ok) in
        let front : of_d c (ToD c BOpenOk ∷ map down_frame fs) ≡ [] = ap (λ v. of_d c (v ∷ map down_frame fs)) (sym on) ∙ none in
        let there : BOpenOk ∷ of_d c (map down_frame fs) ≡ [] = ap (λ v. cond v (BOpenOk ∷ of_d c (map down_frame fs)) (of_d c (map down_frame fs))) (sym (eq-eqb c c refl)) ∙ front in
        absurd cc
    | false ↦ λ h. refl
  ] refl

  its_open : is_up b.link ≡ true → (c == 0) ≡ false → (r : Request) → r.ticket ≡ Some k → IsLast (joined_to n ss).session c r (all_opens c b (lefts (deeds n ss) ++ up)) → Found n k ss f
  its_open u z r t last =
      let none = or_parts (list_any (is_open_on c) up) (list_any (is_open_waiting c) b.methods) (unread_none u z) in
      let up_none : filter (is_open_on c) up ≡ [] = filter_none (is_open_on c) up none.0 in
      let waits_none : waiting_opens c b ≡ [] = waiting_none c b.methods none.1 in
      let read : List Left = filter (is_open_on c) (lefts (deeds n ss)) in
      let handed : filter (is_open_on c) (lefts (deeds n ss) ++ up) ≡ read = filter-append (is_open_on c) (lefts (deeds n ss)) up ∙ (ap (λ v. read ++ v) up_none ∙ append-nil read) in
      let all : all_opens c b (lefts (deeds n ss) ++ up) ≡ read = ap (λ v. filter (is_open_on c) (lefts (deeds n ss) ++ up) ++ v) waits_none ∙ (append-nil (filter (is_open_on c) (lefts (deeds n ss) ++ up)) ∙ handed) in
      let cut : Cut (last_opening c (deeds n ss)) (on_channel c (deeds n ss)) last.opener = cut_at (on_channel c (deeds n ss)) [] last.done last.opener (sym (opens_read c (deeds n ss)) ∙ (sym all ∙ last.all)) in
      let first = first_comes n big ss f fs down u z ok in (
        last.call k t,
        record {
          before = cut.before;
          between = first.0;
          behind = first.1;
          opener = last.opener;
          all = cut.all ∙ ap (λ v. cut.before ++ Read last.opener ∷ v) first.2;
          ticket = last.ticket ∙ t;
          method = last.method;
          last = ap (list_any opens) (sym first.2) ∙ cut.last;
          is_ok = ok;
          first = first.3;
        },
      )

  found_in : is_up b.link ≡ true → (c == 0) ≡ false → (rs : List Request) → ticket_of (first_in rs) ≡ Some k → Standing (joined_to n ss).session c (live c b) rs (all_opens c b (lefts (deeds n ss) ++ up)) → Found n k ss f
  found_in u z rs t (NoneOpens none) = let w : None ≡ Some k = ap (λ v. ticket_of (first_in v)) (sym none) ∙ t in absurd cc
  found_in u z rs t (OneOpens lives r alone last) = its_open u z r (ap (λ v. ticket_of (first_in v)) (sym alone) ∙ t) last

  found : is_up b.link ≡ true → is_opening (state_of c b) ≡ true → ticket_of (first_request reply_kind.ChannelOpenOk (requests_of c b)) ≡ Some k → Found n k ss f
  found u o t = found_in u (not_base (is_up b.link) (c == 0) (channel_state (phase_of c b)) o) (open_requests c b) (ap ticket_of (sym (kind_found reply_kind.ChannelOpenOk (requests_of c b))) ∙ t) (opens_stand n c big ss)

-- ---- the law

pub opened : (n : ℕ) → 4096 ≤ n → (ss : List Step) → OpensAreAnswered n ss
opened n big ss k y f fs down ok was now =
    let c : ℕ = channel_of f in
    let a : Answer = answer.Channel c in
    let i : Incoming = incoming.Reply c reply_kind.ChannelOpenOk a in
    let b : Wire = (past_of n ss).wire in
    let x : Record = rec n (joined_to n ss).session (event.Receive f) in
    let ms : List TicketMark = (past_of n ss).tickets in
    let readings : Readings = readings_of (past_of n ss).confirms ms in
    let sorts : incoming_of f ≡ i = ok_sorts f ok in
    let fine : is_refusal (incoming_record b readings (refused (frame_class f) (frame_method f)) i) ≡ false = subst (λ v. is_refusal (incoming_record b readings (refused (frame_class f) (frame_method f)) v) ≡ false) sorts (unrefused n ss f fs down big) in
    let told : x ≡ incoming_record b readings (refused (frame_class f) (frame_method f)) i = ap (incoming_record b readings (refused (frame_class f) (frame_method f))) sorts in
    let later : answer_of k (ms ++ incoming_tickets i x b) ≡ Some (Ok y) = ap (λ v. answer_of k (ms ++ incoming_tickets v x b)) (sym sorts) ∙ (ap (answer_of k) (sym (tickets_after n ss f fs down)) ∙ now) in
    elim (subst (OkComes c a b) (sym told) (ok_heard c (frame_class f) (frame_method f) a b readings fine)) [
      | inr none ↦ (let s : Answers k [] (Ok y) = new_answer ms [] (Ok y) refl k was (ap (λ v. answer_of k (ms ++ v)) (sym none) ∙ later) in absurd (none_answers k (Ok y) s))
      | inl heard ↦
          let t : Option ℕ = ticket_of (first_request reply_kind.ChannelOpenOk (requests_of c b)) in
          let marks : incoming_tickets i x b ≡ resolved_with (Ok a) t = ap (λ v. incoming_tickets i v b) heard.received in
          let s : Answers k (resolved_with (Ok a) t) (Ok y) = new_answer ms (resolved_with (Ok a) t) (Ok y) (resolved_gives t (Ok a)) k was (ap (λ v. answer_of k (ms ++ v)) (sym marks) ∙ later) in
          found n big k ss f fs down ok heard.up heard.opening (resolved_is k t (Ok a) (Ok y) s).0
    ]
