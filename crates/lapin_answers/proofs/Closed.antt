-- A close-ok that resolves a ticket was sent for the close of that very call.
use Rattle.std.proofs.Common.{◌≡◌, ◌∙◌, ℕ, suc, ◌≤◌, ◌==◌, Bool, true, false, cond, ◌&&◌, ◌||◌, List, [], ◌∷◌, ◌++◌, length, Option, Some, None, Result, Ok, Err, ◌⊎◌, inl, inr, refl, sym, ap, subst, append_assoc, arith, eq-eqb}
use Rattle.std.specs.List.{filter, list_any}
use Rattle.std.specs.Option.{option_or}
use Rattle.std.proofs.lemmas.Bool.Decides.{eqb_tells}
use Rattle.std.proofs.lemmas.List.Elements.{filter-append}
use Rattle.std.proofs.lemmas.List.Folds.{list_any-append}
use Rattle.lapin_types.specs.declared.answer.Answer.{Answer}
use Rattle.lapin_types.specs.declared.answer.Answer.TheVariants as answer
use Rattle.lapin_types.specs.declared.event.Event.TheVariants as event
use Rattle.lapin_types.specs.declared.leaving.Left.{Left}
use Rattle.lapin_types.specs.declared.record.Record.{Record}
use Rattle.lapin_types.specs.declared.record.Record.TheVariants as record_
use Rattle.lapin_types.specs.declared.request.Request.{Request}
use Rattle.lapin_types.specs.declared.request.ReplyKind.TheVariants as reply_kind
use Rattle.lapin_types.specs.Types.{Frame, Method, Error}
use Rattle.lapin_types.specs.Types.frame
use Rattle.lapin_rules.specs.declared.broker_frames.Incoming.{Incoming}
use Rattle.lapin_rules.specs.declared.broker_frames.Incoming.TheVariants as incoming
use Rattle.lapin_rules.specs.declared.phases.ChannelPhase.{ChannelPhase}
use Rattle.lapin_rules.specs.declared.phases.ChannelPhase.TheVariants as phase
use Rattle.lapin_rules.specs.declared.phases.ConnectionPhase.{ConnectionPhase}
use Rattle.lapin_rules.specs.declared.phases.ConnectionPhase.TheVariants as link
use Rattle.lapin_rules.specs.ChannelClose.{close_ticket, close_ok_end, receives_close_ok}
use Rattle.lapin_rules.specs.ConnectionClose.{receives_down}
use Rattle.lapin_rules.specs.Ends.{done_with, cancels_done, end_tickets}
use Rattle.lapin_rules.specs.History.{History, rec, readings_of}
use Rattle.lapin_rules.specs.Incoming.{incoming_of, frame_class, frame_method}
use Rattle.lapin_rules.specs.Phases.{is_up}
use Rattle.lapin_rules.specs.Readings.{Readings}
use Rattle.lapin_rules.specs.Receiving.{when, incoming_record, incoming_tickets}
use Rattle.lapin_rules.specs.Requests.{is_kind, ticket_of, resolved_with}
use Rattle.lapin_rules.specs.TicketReadings.{TicketMark, gives, first_answer, answer_of}
use Rattle.lapin_rules.specs.TicketReadings as ticket
use Rattle.lapin_rules.specs.Unexpected.{refused}
use Rattle.lapin_rules.specs.Wire.{Wire, phase_of, state_of, requests_of}
use Rattle.lapin_broker.specs.Frames.{channel_of, broker_frame}
use Rattle.lapin_joint.specs.declared.step.Step.{Step}
use Rattle.lapin_joint.specs.Joint.{joined_to}
use Rattle.lapin_concord.specs.Refusals.{is_refusal}
use Rattle.lapin_verdicts.specs.Deeds.{Deed, Sent, lefts, sents, deeds}
use Rattle.lapin_verdicts.specs.Session.{past_of}
use Rattle.lapin_verdicts.specs.Verdicts.{at_place}
use Rattle.lapin_verdicts.proofs.Keeping.{place-last}
use Rattle.lapin_verdicts.proofs.Owing.{lefts-append}
use Rattle.lapin_verdicts.proofs.Runs.{split_at, at-first}
use Rattle.lapin_answers.specs.Closes.{is_close_on, is_close_ok_as, is_close_ok_on, closes_in, close_oks_in, IsCloseOf, IsClosed, is_ticket, is_open_cancel}
use Rattle.lapin_answers.specs.Truth.{ClosesAreAnswered}
use Rattle.lapin_answers.proofs.Closings.{closes_in_run, ok_comes, one_sent, fewer_read}
use Rattle.lapin_answers.proofs.Moving.{is_close_ok_in, place_in}
use Rattle.lapin_answers.proofs.Okays.{okay_in, owed_in}
use Rattle.lapin_answers.proofs.Received.{unrefused, tickets_after}
use Rattle.lapin_answers.proofs.Shuts.{close_requests, waiting_closes, first_in, shut_found}
use Rattle.lapin_answers.proofs.Shutting.{handed_closes, Held, HeldAt, Owed, AreShut}
use Rattle.lapin_answers.proofs.Tickets.{Answers, answers-append, new_answer, none_answers, resolved_is, resolved_gives}
use Rattle.lapin_tables.proofs.Bools.{or_true}

-- ---- the close whose ticket is open

abbrev Found : ℕ → ℕ → List Step → Frame → Type 0
Found n k ss f = (m : Method) × IsCloseOf k (channel_of f) m (joined_to n ss).session × IsClosed (channel_of f) k m f (deeds n ss)

none_open : {P : Type 0} (k : ℕ) (rs : List Request) → ticket_of (first_in rs) ≡ Some k → rs ≡ [] → P
none_open k rs t e = let w : None ≡ Some k = ap (λ v. ticket_of (first_in v)) (sym e) ∙ t in absurd cc

-- the one that is owed is the close of that very call
its_close : (h : History) (c k : ℕ) (l : Left) (rs : List Request) → AreShut h c l rs → ticket_of (first_in rs) ≡ Some k → (l.ticket ≡ Some k) × ((m : Method) × IsCloseOf k c m h × (l.frame ≡ frame.Method c m))
its_close h c k l [] a t = absurd cc
its_close h c k l (r ∷ []) a t = (a.ticket ∙ t, a.call k t)
its_close h c k l (r ∷ s ∷ rs) a t = absurd a

module _ (n : ℕ) (big : 4096 ≤ n) (k : ℕ) (ss : List Step) (f : Frame) (fs : List Frame) (down : (joined_to n ss).down ≡ f ∷ fs) where
  abbrev c : ℕ
  c = channel_of f

  abbrev b : Wire
  b = (past_of n ss).wire

  abbrev h : History
  h = (joined_to n ss).session

  abbrev ds : List Deed
  ds = deeds n ss

  abbrev hs : List Left
  hs = handed_closes c (lefts ds ++ (joined_to n ss).up)

  owed_found : is_close_ok_on c f ≡ true → (came : List Frame) → sents ds ≡ came ++ f ∷ fs → ticket_of (first_in (close_requests c b)) ≡ Some k → Owed h c (close_requests c b) (waiting_closes c b) hs (length (filter (is_close_ok_on c) came)) → Found n k ss f
  owed_found ok came order t o =
      let x = split_at ds came f fs order in
      let m : ℕ = length (filter (is_close_ok_on c) came) in
      let its = its_close h c k o.close (close_requests c b) o.are t in
      let sent : length (close_oks_in c x.before) ≡ m = ap (λ v. length (filter (is_close_ok_on c) v)) x.came_is in
      let owed = owed_in n c ss x.before x.behind f x.all ok in
      let enough : suc m ≤ length (closes_in c x.before) = omega (arith, sent, owed) in
      let last : at_place (suc m) hs ≡ Some o.close = ap (at_place (suc m)) o.handed ∙ place-last (suc m) o.done o.close (let count = o.count in omega (arith, count)) in
      let rest : List Left = lefts (Sent f ∷ x.behind) ++ (joined_to n ss).up in
      let parts : hs ≡ closes_in c x.before ++ filter (is_close_on c) rest = ap (λ v. handed_closes c (v ++ (joined_to n ss).up)) (ap lefts x.all ∙ lefts-append x.before (Sent f ∷ x.behind)) ∙ (ap (handed_closes c) (append_assoc (lefts x.before) (lefts (Sent f ∷ x.behind)) (joined_to n ss).up) ∙ filter-append (is_close_on c) (lefts x.before) rest) in
      let read : at_place (suc m) (closes_in c x.before) ≡ Some o.close = at-first (suc m) (closes_in c x.before) (filter (is_close_on c) rest) o.close (ap (at_place (suc m)) (sym parts) ∙ last) enough in (
        its.1.0,
        its.1.1,
        record {
          before = x.before;
          behind = x.behind;
          close = o.close;
          all = x.all;
          is_ok = ok;
          was_read = ap (λ v. at_place (suc v) (closes_in c x.before)) sent ∙ read;
          ticket = its.0;
          method = its.1.2;
        },
      )

  held_found : (p : ChannelPhase) → is_close_ok_on c f ≡ true → (came : List Frame) → sents ds ≡ came ++ f ∷ fs → ticket_of (first_in (close_requests c b)) ≡ Some k → HeldAt h c p (close_requests c b) (waiting_closes c b) hs (length (filter (is_close_ok_on c) came)) → Found n k ss f
  held_found phase.Closed ok came order t s = none_open k (close_requests c b) t s.requests
  held_found phase.Opening ok came order t s = none_open k (close_requests c b) t s.requests
  held_found (phase.Open v) ok came order t s = none_open k (close_requests c b) t s.requests
  held_found (phase.Closing who true) ok came order t s = owed_found ok came order t s
  held_found phase.Crossed ok came order t s = owed_found ok came order t s
  held_found (phase.Closing who false) ok came order t s =
      let one = one_sent c f came fs (sents ds) order ok in
      let most = (okay_in n c ss).most in
      let read = fewer_read c (lefts ds) (joined_to n ss).up in
      let count = s.count in
      let z : ⊥ = omega (arith, one, most, read, count) in
      absurd z

  pub found : is_close_ok_on c f ≡ true → is_up b.link ≡ true → close_ticket c b ≡ Some k → Found n k ss f
  found ok up t =
      let s = closes_in_run n c big ss in
      let open_ : ticket_of (first_in (close_requests c b)) ≡ Some k = ap ticket_of (sym (shut_found (requests_of c b))) ∙ t in
      let held : HeldAt h c (phase_of c b) (close_requests c b) (waiting_closes c b) hs (length (filter (is_close_ok_on c) s.came)) = subst (λ v. Held h c (place_in v (phase_of c b)) (close_requests c b) (waiting_closes c b) hs (length (filter (is_close_ok_on c) s.came))) up s.held in
      held_found (phase_of c b) ok s.came (s.order ∙ ap (λ v. s.came ++ v) down) open_ held

-- ---- the marks of a close-ok

pub is_close_ok : (c : ℕ) (i : Incoming) → is_close_ok_in c (Some i) ≡ true → i ≡ incoming.ChannelCloseOk c
is_close_ok c (incoming.ChannelCloseOk d) h = elim (eqb_tells d c) [ inl y ↦ ap incoming.ChannelCloseOk y.1 | inr n ↦ let w : false ≡ true = sym n.0 ∙ h in absurd cc ]
is_close_ok c _ h = absurd cc

-- it is received while the connection is open, or it says nothing to tickets
abbrev OkComes : ℕ → Wire → Record → Type 0
OkComes c b x = ((is_up b.link ≡ true) × (x ≡ record_.Received)) ⊎ (incoming_tickets (incoming.ChannelCloseOk c) x b ≡ [])

ok_when : (c : ℕ) (b : Wire) (r : Record) (v : Bool) → is_up b.link ≡ true → is_refusal r ≡ true → is_refusal (when v r) ≡ false → OkComes c b (when v r)
ok_when c b r true up e f = inl (up, refl)
ok_when c b r false up e f = let w : true ≡ false = sym e ∙ f in absurd cc

ok_down : (c : ℕ) (l : ConnectionPhase) → receives_down l (incoming.ChannelCloseOk c) ≡ false
ok_down c link.Open = refl
ok_down c (link.Closing s) = refl
ok_down c link.Closed = refl
ok_down c link.Lost = refl

ok_heard : (c class number : ℕ) (b : Wire) (readings : Readings) → is_refusal (incoming_record b readings (refused class number) (incoming.ChannelCloseOk c)) ≡ false → OkComes c b (incoming_record b readings (refused class number) (incoming.ChannelCloseOk c))
ok_heard c class number b readings r = (elim (is_up b.link) as (λ v. is_up b.link ≡ v → is_refusal (cond v (when (receives_close_ok (state_of c b)) (refused class number)) (cond (receives_down b.link (incoming.ChannelCloseOk c)) record_.Received record_.Passed)) ≡ false → OkComes c b (cond v (when (receives_close_ok (state_of c b)) (refused class number)) (cond (receives_down b.link (incoming.ChannelCloseOk c)) record_.Received record_.Passed))) [
  | true ↦ λ up f. ok_when c b (refused class number) (receives_close_ok (state_of c b)) up refl f
  | false ↦ λ _ f. subst (OkComes c b) (ap (λ w. cond w record_.Received record_.Passed) (sym (ok_down c b.link))) (inr refl)
]) refl r

pub either : (n : ℕ) (xs ys : List TicketMark) (y : Result Answer Error) → Answers n (xs ++ ys) y → Answers n xs y ⊎ Answers n ys y
either n xs ys y a =
    let both = answers-append n a.channel a.leaving a.begun xs ys in
    by (first_answer n a.channel a.leaving a.begun xs) refl both.0 (sym both.1 ∙ a.is)
  where
    by : (o : Option (Result Answer Error)) → first_answer n a.channel a.leaving a.begun xs ≡ o → (v : Bool) → option_or (first_answer n a.channel a.leaving a.begun xs) (first_answer n a.channel a.leaving v ys) ≡ Some y → Answers n xs y ⊎ Answers n ys y
    by None e v t = inr (record { channel = a.channel; leaving = a.leaving; begun = v; is = ap (λ o. option_or o (first_answer n a.channel a.leaving v ys)) (sym e) ∙ t })
    by (Some z) e v t = inl (record { channel = a.channel; leaving = a.leaving; begun = a.begun; is = e ∙ (ap (λ o. option_or o (first_answer n a.channel a.leaving v ys)) (sym e) ∙ t) })

pub no_gives : (xs ys : List TicketMark) → list_any gives xs ≡ false → list_any gives ys ≡ false → list_any gives (xs ++ ys) ≡ false
no_gives xs ys a d = list_any-append gives xs ys ∙ (ap (λ v. v || list_any gives ys) a ∙ d)

pub done_gives : (rs : List Request) → list_any gives (done_with rs) ≡ false
done_gives [] = refl
done_gives (r ∷ rs) = no_gives (resolved_with (Ok answer.Done) r.ticket) (done_with rs) (resolved_gives r.ticket (Ok answer.Done)) (done_gives rs)

pub end_gives : (c : ℕ) (e : Option Error) (b : Wire) → list_any gives (end_tickets c e b) ≡ false
end_gives c None b = refl
end_gives c (Some e) b = no_gives (cancels_done c b) (ticket.OpeningFailed c None e ∷ []) (done_gives (filter (is_kind reply_kind.BasicCancelOk) (requests_of c b))) refl

pub done_is : (n : ℕ) (rs : List Request) (y : Result Answer Error) → Answers n (done_with rs) y → list_any (λ (r : Request). is_ticket n r.ticket) rs ≡ true
done_is n [] y a = absurd (none_answers n y a)
done_is n (r ∷ rs) y a = elim (either n (resolved_with (Ok answer.Done) r.ticket) (done_with rs) y a) [
  | inl s ↦ (let t : is_ticket n r.ticket ≡ true = ap (is_ticket n) (resolved_is n r.ticket (Ok answer.Done) y s).0 ∙ eq-eqb n n refl in ap (λ v. v || list_any (λ (r : Request). is_ticket n r.ticket) rs) t)
  | inr s ↦ (let t = done_is n rs y s in ap (λ v. is_ticket n r.ticket || v) t ∙ or_true (is_ticket n r.ticket))
]

failed_not : {P : Type 0} (n c : ℕ) (e : Error) (a : Answer) → Answers n (ticket.OpeningFailed c None e ∷ []) (Ok a) → P
failed_not n c e a s = absurd (by (c == s.channel) s.is)
  where
    by : (v : Bool) → option_or (cond (v && true) (Some (Err e)) None) None ≡ Some (Ok a) → ⊥
    by true t = cc
    by false t = cc

end_is : (n c : ℕ) (e : Option Error) (b : Wire) (a : Answer) → Answers n (end_tickets c e b) (Ok a) → is_open_cancel n c b ≡ true
end_is n c None b a s = absurd (none_answers n (Ok a) s)
end_is n c (Some e) b a s = elim (either n (cancels_done c b) (ticket.OpeningFailed c None e ∷ []) (Ok a) s) [
  | inl t ↦ done_is n (filter (is_kind reply_kind.BasicCancelOk) (requests_of c b)) (Ok a) t
  | inr t ↦ failed_not n c e a t
]

-- ---- the law

pub closed : (n : ℕ) → 4096 ≤ n → (ss : List Step) → ClosesAreAnswered n ss
closed n big ss k a f fs down ok was now =
    let c : ℕ = channel_of f in
    let b : Wire = (past_of n ss).wire in
    let x : Record = rec n (joined_to n ss).session (event.Receive f) in
    let ms : List TicketMark = (past_of n ss).tickets in
    let on : is_close_ok_on c f ≡ true = ap (λ v. v && is_close_ok_as (broker_frame f)) (eq-eqb c c refl) ∙ ok in
    let sorts : incoming_of f ≡ incoming.ChannelCloseOk c = is_close_ok c (incoming_of f) (ok_comes c f ∙ on) in
    let fine : is_refusal (incoming_record b (readings_of (past_of n ss).confirms ms) (refused (frame_class f) (frame_method f)) (incoming.ChannelCloseOk c)) ≡ false = subst (λ i. is_refusal (incoming_record b (readings_of (past_of n ss).confirms ms) (refused (frame_class f) (frame_method f)) i) ≡ false) sorts (unrefused n ss f fs down big) in
    let told : x ≡ incoming_record b (readings_of (past_of n ss).confirms ms) (refused (frame_class f) (frame_method f)) (incoming.ChannelCloseOk c) = ap (incoming_record b (readings_of (past_of n ss).confirms ms) (refused (frame_class f) (frame_method f))) sorts in
    let later : answer_of k (ms ++ incoming_tickets (incoming.ChannelCloseOk c) x b) ≡ Some (Ok a) = ap (λ i. answer_of k (ms ++ incoming_tickets i x b)) (sym sorts) ∙ (ap (answer_of k) (sym (tickets_after n ss f fs down)) ∙ now) in
    elim (subst (OkComes c b) (sym told) (ok_heard c (frame_class f) (frame_method f) b (readings_of (past_of n ss).confirms ms) fine)) [
      | inr none ↦ (let s : Answers k [] (Ok a) = new_answer ms [] (Ok a) refl k was (ap (λ v. answer_of k (ms ++ v)) (sym none) ∙ later) in absurd (none_answers k (Ok a) s))
      | inl heard ↦
          let t : Option ℕ = close_ticket c b in
          let e : Option Error = close_ok_end (phase_of c b) in
          let marks : incoming_tickets (incoming.ChannelCloseOk c) x b ≡ resolved_with (Ok answer.Done) t ++ end_tickets c e b = ap (λ v. incoming_tickets (incoming.ChannelCloseOk c) v b) heard.1 in
          let s : Answers k (resolved_with (Ok answer.Done) t ++ end_tickets c e b) (Ok a) = new_answer ms (resolved_with (Ok answer.Done) t ++ end_tickets c e b) (Ok a) (no_gives (resolved_with (Ok answer.Done) t) (end_tickets c e b) (resolved_gives t (Ok answer.Done)) (end_gives c e b)) k was (ap (λ v. answer_of k (ms ++ v)) (sym marks) ∙ later) in
          elim (either k (resolved_with (Ok answer.Done) t) (end_tickets c e b) (Ok a) s) [
            | inl y ↦ inl (found n big k ss f fs down on heard.0 (resolved_is k t (Ok answer.Done) (Ok a) y).0)
            | inr y ↦ inr (end_is k c e b a y)
          ]
    ]
