-- A confirm that a settlement resolves is the broker's verdict on the publish that it read as that number.
use Rattle.std.proofs.Common.{◌≡◌, ◌∙◌, ℕ, ◌+◌, ◌≤◌, ◌<◌, ◌==◌, Bool, true, false, cond, ◌||◌, List, [], ◌∷◌, ◌++◌, length, Option, Some, None, ◌⊎◌, inl, inr, refl, sym, ap, subst, append-nil, append_assoc, arith, eq-eqb}
use Rattle.std.specs.Prelude.{nat_le}
use Rattle.std.specs.List.{fold, filter, list_any}
use Rattle.std.proofs.lemmas.List.Sums.{fold-append}
use Rattle.std.proofs.lemmas.List.Folds.{list_any-append}
use Rattle.std.proofs.lemmas.List.Elements.{filter-append}
use Rattle.std.proofs.lemmas.Bool.Decides.{eqb_tells}
use Rattle.lapin_types.specs.declared.event.Event.{Event}
use Rattle.lapin_types.specs.declared.event.Event.TheVariants as event
use Rattle.lapin_types.specs.declared.record.Record.{Record}
use Rattle.lapin_types.specs.declared.record.Record.TheVariants as record_
use Rattle.lapin_types.specs.declared.leaving.Left.{Left}
use Rattle.lapin_types.specs.Types.{Frame}
use Rattle.lapin_types.specs.Types.{ChannelState}
use Rattle.lapin_types.specs.Types.error
use Rattle.lapin_types.specs.Types.channel_state as state
use Rattle.lapin_rules.specs.declared.marks.Settlement.{Settlement}
use Rattle.lapin_rules.specs.declared.marks.SettleKind.{SettleKind}
use Rattle.lapin_rules.specs.declared.broker_frames.Incoming.TheVariants as incoming
use Rattle.lapin_rules.specs.declared.phases.ConnectionPhase.{ConnectionPhase}
use Rattle.lapin_rules.specs.declared.phases.ConnectionPhase.TheVariants as link
use Rattle.lapin_rules.specs.ConfirmMarks.{ConfirmMark}
use Rattle.lapin_rules.specs.ConfirmMarks as mark
use Rattle.lapin_rules.specs.ConfirmReadings.{outcome_at, first_settled, outcome_of, kind_outcome, covers, is_pending, place}
use Rattle.lapin_rules.specs.Incoming.{incoming_of, frame_class, frame_method}
use Rattle.lapin_rules.specs.Phases.{is_up, is_lost, channel_state}
use Rattle.lapin_rules.specs.ConnectionClose.{receives_down}
use Rattle.lapin_rules.specs.Readings.{Readings}
use Rattle.lapin_rules.specs.Unexpected.{refused}
use Rattle.lapin_rules.specs.Settlement.{settlement_record}
use Rattle.lapin_rules.specs.Receiving.{incoming_record, incoming_up, incoming_marks}
use Rattle.lapin_rules.specs.Ends.{down}
use Rattle.lapin_rules.specs.Wire.{Wire, state_of, phase_of, receives_on}
use Rattle.lapin_rules.specs.Events.{confirm_marks}
use Rattle.lapin_rules.specs.History.{History, Past, longer, rec, readings_of}
use Rattle.lapin_broker.specs.Frames.{channel_of}
use Rattle.lapin_broker.specs.Sends.{may}
use Rattle.lapin_joint.specs.declared.step.Step.{Step}
use Rattle.lapin_joint.specs.declared.step.Step.TheVariants as step
use Rattle.lapin_joint.specs.Joint.{Joint, is_lawful, after, joined_to, read_first, deliver_first, client, send_down}
use Rattle.lapin_machine.specs.Way.{by_history}
use Rattle.lapin_joint.specs.Order.{front}
use Rattle.lapin_verdicts.specs.Deeds.{Deed, Read, Sent, is_open, joined_opening, last_opening, reads, sents, deed_in, deeds, reads_of}
use Rattle.lapin_verdicts.specs.Publishes.{Message, Tally, no_tally, tally_after, tally}
use Rattle.lapin_verdicts.specs.Verdicts.{at_place, settles, settles_by, settlement_in, messages_in, IsVerdict}
use Rattle.lapin_verdicts.specs.InStep.{is_frame_on, InStep}
use Rattle.lapin_verdicts.specs.Session.{IsPending, Numbers, past_of, handed_frames, next_on, frames_of, whole_tally, rest_on}
use Rattle.lapin_verdicts.proofs.Marks.{pending_on, pending_back, only_settled, is_settlement, settled_so}
use Rattle.lapin_verdicts.proofs.Settles.{client_quiet, all_quiet, frame_settles, is_this, comes_as}
use Rattle.lapin_verdicts.proofs.Sending.{RangeBy}
use Rattle.lapin_verdicts.proofs.TagCounts.{tally_on, AreDue, tag_count_of, last-push, last-sent, sents-append, reads-append}
use Rattle.lapin_verdicts.proofs.Runs.{joined-push, deeds-push, past-push, past_at, delivered_marks, marks_in, marks_after, cancel, any-first, at-first, Grows, grows_then, fold_grows, way_grows, grown_length, tally_folds, none_covers, split_at, due_at, covered_counted}
use Rattle.std.proofs.lemmas.Bool.{cond-true}

-- ---- no earlier settlement

-- of what was sent in the last opening and came, nothing covers the tag of a publish that is pending
abbrev pub Fresh : ℕ → List ConfirmMark → List Deed → List Frame → Type 0
Fresh c ms ds way = (k t : ℕ) (came : List Frame) → IsPending c k t ms → sents (last_opening c ds) ≡ came ++ filter (is_frame_on c) way → list_any (settles t) came ≡ false

pub no_start : (xs ys : List Frame) → [] ≡ xs ++ ys → xs ≡ []
no_start [] ys e = refl
no_start (x ∷ xs) ys e = absurd cc

same_deeds : (c : ℕ) (ds : List Deed) → sents (last_opening c (ds ++ [])) ≡ sents (last_opening c ds)
same_deeds c ds = ap (λ v. sents (last_opening c v)) (append-nil ds)

-- a read leaves what was sent, or begins an opening
read_sents : (c : ℕ) (ds : List Deed) (l : Left) (came way : List Frame) → sents (last_opening c (ds ++ Read l ∷ [])) ≡ came ++ way → (came ≡ []) ⊎ (sents (last_opening c ds) ≡ came ++ way)
read_sents c ds l came way e = elim (channel_of l.frame == c) as (λ b. sents (cond b (joined_opening (last_opening c ds) (Read l)) (last_opening c ds)) ≡ came ++ way → (came ≡ []) ⊎ (sents (last_opening c ds) ≡ came ++ way)) [
  | true ↦ elim (is_open l.frame) as (λ b. sents (cond b [] (last_opening c ds ++ Read l ∷ [])) ≡ came ++ way → (came ≡ []) ⊎ (sents (last_opening c ds) ≡ came ++ way)) [
    | true ↦ λ h. inl (no_start came way h)
    | false ↦ λ h. inr (sym (append-nil _) ∙ (sym (sents-append (last_opening c ds) (Read l ∷ [])) ∙ h))
  ]
  | false ↦ λ h. inr h
] (ap sents (sym (last-push c ds (Read l))) ∙ e)

-- a frame that is sent goes to the end of both
sent_sents : (c : ℕ) (ds : List Deed) (f : Frame) (came way : List Frame) → sents (last_opening c (ds ++ Sent f ∷ [])) ≡ came ++ filter (is_frame_on c) (way ++ f ∷ []) → sents (last_opening c ds) ≡ came ++ filter (is_frame_on c) way
sent_sents c ds f came way e = elim (channel_of f == c) as (λ b. sents (cond b (last_opening c ds ++ Sent f ∷ []) (last_opening c ds)) ≡ came ++ (filter (is_frame_on c) way ++ cond b (f ∷ []) []) → sents (last_opening c ds) ≡ came ++ filter (is_frame_on c) way) [
  | true ↦ λ h. cancel _ _ (f ∷ []) (sym (sents-append (last_opening c ds) (Sent f ∷ [])) ∙ (h ∙ sym (append_assoc came _ (f ∷ []))))
  | false ↦ λ h. h ∙ ap (λ v. came ++ v) (append-nil _)
] (ap sents (sym (last-sent c ds f)) ∙ (e ∙ ap (λ v. came ++ v) (filter-append (is_frame_on c) way (f ∷ []))))

-- a frame that comes is the first on the way
came_sents : (c : ℕ) (sent came : List Frame) (f : Frame) (fs : List Frame) (before : List Frame) → sent ≡ before ++ filter (is_frame_on c) (f ∷ fs) → sent ≡ came ++ filter (is_frame_on c) fs → ((channel_of f ≡ c) × (came ≡ before ++ f ∷ [])) ⊎ (came ≡ before)
came_sents c sent came f fs before e g = elim (eqb_tells (channel_of f) c) [
  | inl z ↦
      let first : sent ≡ before ++ (f ∷ filter (is_frame_on c) fs) = e ∙ ap (λ b. before ++ cond b (f ∷ filter (is_frame_on c) fs) (filter (is_frame_on c) fs)) z.0 in
      inl (z.1, cancel came (before ++ f ∷ []) (filter (is_frame_on c) fs) (sym g ∙ (first ∙ sym (append_assoc before (f ∷ []) _))))
  | inr z ↦
      let first : sent ≡ before ++ filter (is_frame_on c) fs = e ∙ ap (λ b. before ++ cond b (f ∷ filter (is_frame_on c) fs) (filter (is_frame_on c) fs)) z.0 in
      inr (cancel came before (filter (is_frame_on c) fs) (sym g ∙ first))
]

-- ---- a settlement that covers a pending tag is received

heard_up : (b : Wire) (readings : Readings) (c : ℕ) (s : Settlement) (r : Record) → is_up b.link ≡ true → receives_on (state_of c b) ≡ true → readings.selected c ≡ true → (s.multiple || readings.pending c s.tag) ≡ true → incoming_record b readings r (incoming.Settlement c s) ≡ record_.Received
heard_up b readings c s r up on sel known =
    let no : Record = record_.Refused (error.PreconditionFailed s.tag (readings.last c)) in
    cond-true (is_up b.link) (incoming_up b readings r (incoming.Settlement c s)) (cond (receives_down b.link (incoming.Settlement c s)) record_.Received record_.Passed) up
    ∙ (cond-true (receives_on (state_of c b)) (settlement_record readings c s) r on
    ∙ (cond-true (readings.selected c) (cond (s.multiple || readings.pending c s.tag) record_.Received no) record_.Passed sel
    ∙ cond-true (s.multiple || readings.pending c s.tag) record_.Received no known))

up_at : (v : Bool) (s : ChannelState) → receives_on (cond v s state.Down) ≡ true → v ≡ true
up_at true s h = refl
up_at false s h = absurd cc

up_of : (c : ℕ) (b : Wire) → receives_on (state_of c b) ≡ true → is_up b.link ≡ true
up_of c b h = up_at (is_up b.link) (cond (c == 0) state.Base (channel_state (phase_of c b))) h

known_as : (n t : ℕ) (multiple p : Bool) → cond multiple ((n == 0) || nat_le t n) (n == t) ≡ true → (n ≡ t → p ≡ true) → (multiple || p) ≡ true
known_as n t true p h k = refl
known_as n t false p h k = elim (eqb_tells n t) [ inl z ↦ k z.1 | inr z ↦ let w : false ≡ true = sym z.0 ∙ h in absurd cc ]

-- ---- one step

module _ (n : ℕ) (S : Numbers n) (I : InStep n) where
  -- the marks after a step
  pub confirms-push : (ss : List Step) (s : Step) → (past_of n (ss ++ s ∷ [])).confirms ≡ (past_of n ss).confirms ++ marks_in n s (joined_to n ss)
  confirms-push ss s = ap (λ j. (past_at n j).confirms) (joined-push n ss s) ∙ marks_after n s (joined_to n ss)

  -- one whose frame leaves by this step takes a tag that nothing covers
  next_fresh : (ss : List Step) (s : Step) (c k t : ℕ) (came way : List Frame) → receives_on (state_of c (past_of n ss).wire) ≡ true → t ≡ place c (past_of n ss).confirms + 1 → sents (last_opening c (deeds n ss)) ≡ came ++ way → list_any (settles t) came ≡ false
  next_fresh ss s c k t came way on e all =
      let together = I ss c on in
      let h = S.numbered ss c on together.left in
      let y : Tally = tally_on c (deeds n ss) in
      let b : Wire = (past_of n ss).wire in
      let split : fold (next_on c) no_tally (handed_frames n ss) ≡ fold (next_on c) y (frames_of (joined_to n ss).up) = fold-append (next_on c) no_tally (reads (deeds n ss)) (frames_of (joined_to n ss).up) ∙ ap (λ z. fold (next_on c) z (frames_of (joined_to n ss).up)) (tally_folds c (deeds n ss)) in
      let way_up : Grows y (fold (next_on c) no_tally (handed_frames n ss)) = subst (Grows y) (sym split) (way_grows c (joined_to n ss).up y together.read) in
      let grown : Grows y (whole_tally c b (handed_frames n ss)) = grows_then y _ _ way_up (fold_grows (rest_on c b.rest) (fold (next_on c) no_tally (handed_frames n ss))) in
      let le = grown_length y _ grown in
      let count = h.count in
      let small : length y.numbered < t = omega (arith, le, count, e) in
      let none : list_any (settles t) (sents (last_opening c (deeds n ss))) ≡ false = none_covers no_tally (last_opening c (deeds n ss)) t (tag_count_of n c ss).due small in
      any-first (settles t) came way (ap (list_any (settles t)) (sym all) ∙ none)

  -- a frame that comes covers no tag that is pending behind it
  came_uncovered : (ss : List Step) (c k t : ℕ) (f : Frame) (fs : List Frame) → (joined_to n ss).down ≡ f ∷ fs → channel_of f ≡ c → IsPending c k t (past_of n ss).confirms → outcome_at k ((past_of n ss).confirms ++ delivered_marks n (f ∷ fs) (joined_to n ss)) ≡ None → settles t f ≡ false
  came_uncovered ss c k t f fs down on p none = at (settlement_in f) refl
    where
      at : (o : Option Settlement) → settlement_in f ≡ o → settles_by t (settlement_in f) ≡ false
      at None e = ap (settles_by t) e
      at (Some s) e =
          let is : incoming_of f ≡ incoming.Settlement c s = comes_as f s e ∙ ap (λ d. incoming.Settlement d s) on in
          elim (covers s t) as (λ v. covers s t ≡ v → settles_by t (settlement_in f) ≡ false) [
            | true ↦ λ cov. absurd (resolved s is cov)
            | false ↦ λ cov. ap (settles_by t) e ∙ cov
          ] refl
        where
          resolved : (s : Settlement) → incoming_of f ≡ incoming.Settlement c s → covers s t ≡ true → ⊥
          resolved s is cov =
              let j : Joint History = joined_to n ss in
              let b : Wire = (past_of n ss).wire in
              let ms : List ConfirmMark = (past_of n ss).confirms in
              let hears = S.receives ss c k t p in
              let known = known_as s.tag t s.multiple (is_pending c s.tag ms) cov (λ e. ap (λ v. is_pending c v ms) e ∙ S.pending ss c k t p) in
              let q : Readings = readings_of ms (past_of n ss).tickets in
              let no : Record = refused (frame_class f) (frame_method f) in
              let told : rec n j.session (event.Receive f) ≡ record_.Received = ap (λ i. incoming_record b q no i) is ∙ heard_up b q c s no (up_of c b hears) hears (S.selected ss c k t p) known in
              let brings : delivered_marks n (f ∷ fs) j ≡ mark.Settled c s ∷ [] = ap (λ r. incoming_marks (incoming_of f) r b) told ∙ ap (λ i. incoming_marks i record_.Received b) is in
              let then : outcome_at k (ms ++ delivered_marks n (f ∷ fs) j) ≡ first_settled c t (mark.Settled c s ∷ []) = pending_on c k t ms (delivered_marks n (f ∷ fs) j) p ∙ ap (first_settled c t) brings in
              let hit : first_settled c t (mark.Settled c s ∷ []) ≡ Some (outcome_of s) = rw (eq-eqb c c refl, cov) refl in
              let z : None ≡ Some (outcome_of s) = sym none ∙ (then ∙ hit) in
              cc

  -- ---- every step keeps that no earlier settlement covers what is pending

  abbrev FreshAt : ℕ → List Step → Type 0
  FreshAt c ss = Fresh c (past_of n ss).confirms (deeds n ss) (joined_to n ss).down

  abbrev After : ℕ → List Step → Step → Type 0
  After c ss s = (k t : ℕ) (came : List Frame) → IsPending c k t (past_of n ss).confirms → outcome_at k ((past_of n ss).confirms ++ marks_in n s (joined_to n ss)) ≡ None → receives_on (state_of c (past_of n (ss ++ s ∷ [])).wire) ≡ true → sents (last_opening c (deeds n ss ++ deed_in s (joined_to n ss))) ≡ came ++ filter (is_frame_on c) (after (by_history n) s (joined_to n ss)).down → list_any (settles t) came ≡ false

  client_after : (c : ℕ) (ss : List Step) (e : Event) → FreshAt c ss → After c ss (step.Client e)
  client_after c ss e h k t came p o on all = h k t came p (sym (same_deeds c (deeds n ss)) ∙ (all ∙ ap (λ v. came ++ filter (is_frame_on c) v) (down_same (is_lawful e))))
    where
      down_same : (v : Bool) → (cond v (client (by_history n) e (joined_to n ss)) (joined_to n ss)).down ≡ (joined_to n ss).down
      down_same true = refl
      down_same false = refl

  read_after : (c : ℕ) (ss : List Step) (ls : List Left) → FreshAt c ss → (k t : ℕ) (came : List Frame) → IsPending c k t (past_of n ss).confirms → sents (last_opening c (deeds n ss ++ reads_of (front ls))) ≡ came ++ filter (is_frame_on c) (read_first ls (joined_to n ss)).down → list_any (settles t) came ≡ false
  read_after c ss [] h k t came p all = h k t came p (sym (same_deeds c (deeds n ss)) ∙ all)
  read_after c ss (l ∷ ls) h k t came p all = elim (read_sents c (deeds n ss) l came (filter (is_frame_on c) (joined_to n ss).down) all) [ inl none ↦ rw none refl | inr was ↦ h k t came p was ]

  send_after : (c : ℕ) (ss : List Step) (f : Frame) → FreshAt c ss → After c ss (step.Send f)
  send_after c ss f h k t came p o on all = by (may (joined_to n ss).broker f) all
    where
      by : (v : Bool) → sents (last_opening c (deeds n ss ++ cond v (Sent f ∷ []) [])) ≡ came ++ filter (is_frame_on c) (cond v (send_down f (joined_to n ss)) (joined_to n ss)).down → list_any (settles t) came ≡ false
      by true e = h k t came p (sent_sents c (deeds n ss) f came (joined_to n ss).down e)
      by false e = h k t came p (sym (same_deeds c (deeds n ss)) ∙ e)

  deliver_after : (c : ℕ) (ss : List Step) (fs : List Frame) → (joined_to n ss).down ≡ fs → FreshAt c ss → (k t : ℕ) (came : List Frame) → IsPending c k t (past_of n ss).confirms → outcome_at k ((past_of n ss).confirms ++ delivered_marks n fs (joined_to n ss)) ≡ None → sents (last_opening c (deeds n ss ++ [])) ≡ came ++ filter (is_frame_on c) (deliver_first (by_history n) fs (joined_to n ss)).down → list_any (settles t) came ≡ false
  deliver_after c ss [] e h k t came p o all = h k t came p (sym (same_deeds c (deeds n ss)) ∙ all)
  deliver_after c ss (f ∷ fs) e h k t came p o all =
      let together = I ss c (S.receives ss c k t p) in
      let was : sents (last_opening c (deeds n ss)) ≡ together.came ++ filter (is_frame_on c) (f ∷ fs) = together.way ∙ ap (λ v. together.came ++ filter (is_frame_on c) v) e in
      let now : sents (last_opening c (deeds n ss)) ≡ came ++ filter (is_frame_on c) fs = sym (same_deeds c (deeds n ss)) ∙ all in
      let before : list_any (settles t) together.came ≡ false = h k t together.came p together.way in
      elim (came_sents c (sents (last_opening c (deeds n ss))) came f fs together.came was now) [
        | inl z ↦
            let off : settles t f ≡ false = came_uncovered ss c k t f fs e z.0 p o in
            ap (list_any (settles t)) z.1 ∙ (list_any-append (settles t) together.came (f ∷ []) ∙ rw (before, off) refl)
        | inr z ↦ ap (list_any (settles t)) z ∙ before
      ]

  lost_shut : (b : Wire) (c : ℕ) (v : Bool) → is_lost b.link ≡ v → receives_on (state_of c (cond v b (down link.Lost b))) ≡ false
  lost_shut b c true e = shut b.link e
    where
      shut : (l : ConnectionPhase) → is_lost l ≡ true → receives_on (cond (is_up l) (cond (c == 0) state.Base (channel_state (phase_of c b))) state.Down) ≡ false
      shut link.Lost h = refl
      shut _ h = absurd cc
  lost_shut b c false e = refl

  lose_after : (c : ℕ) (ss : List Step) → After c ss step.Lose
  lose_after c ss k t came p o on all =
      let j : Joint History = joined_to n ss in
      let b : Wire = (past_of n ss).wire in
      let there : (past_of n (ss ++ step.Lose ∷ [])).wire ≡ (longer (past_at n j) event.Lost (rec n j.session event.Lost)).wire = ap (λ x. (past_at n x).wire) (joined-push n ss step.Lose) ∙ ap (λ (q : Past). q.wire) (past-push n j.session event.Lost (rec n j.session event.Lost)) in
      let shut : receives_on (state_of c (past_of n (ss ++ step.Lose ∷ [])).wire) ≡ false = ap (λ v. receives_on (state_of c v)) there ∙ lost_shut b c (is_lost b.link) refl in
      let z : true ≡ false = sym on ∙ shut in
      absurd cc

  step_after : (c : ℕ) (ss : List Step) (s : Step) → FreshAt c ss → After c ss s
  step_after c ss (step.Client e) h = client_after c ss e h
  step_after c ss step.Read h = λ k t came p o on all. read_after c ss (joined_to n ss).up h k t came p all
  step_after c ss (step.Send f) h = send_after c ss f h
  step_after c ss step.Deliver h = λ k t came p o on all. deliver_after c ss (joined_to n ss).down refl h k t came p o all
  step_after c ss step.Lose h = lose_after c ss

  fresh_step : (c : ℕ) (ss : List Step) (s : Step) → FreshAt c ss → FreshAt c (ss ++ s ∷ [])
  fresh_step c ss s h k t came p all =
      let j : Joint History = joined_to n ss in
      let ms : List ConfirmMark = (past_of n ss).confirms in
      let p' : IsPending c k t (ms ++ marks_in n s j) = subst (IsPending c k t) (confirms-push ss s) p in
      let on = S.receives (ss ++ s ∷ []) c k t p in
      let all' : sents (last_opening c (deeds n ss ++ deed_in s j)) ≡ came ++ filter (is_frame_on c) (after (by_history n) s j).down =
      ap (λ v. sents (last_opening c v)) (sym (deeds-push n ss s)) ∙ (all ∙ ap (λ (x : Joint History). came ++ filter (is_frame_on c) x.down) (joined-push n ss s)) in
      elim (S.old_or_next ss s c k t p) [
        | inl old ↦ step_after c ss s h k t came (pending_back c k t ms (marks_in n s j) p' old.0 old.1) p'.waits on all'
        | inr next ↦
            let none : sents (last_opening c (deeds n ss)) ≡ came ++ filter (is_frame_on c) (after (by_history n) s j).down = sym (same_deeds c (deeds n ss)) ∙ (ap (λ v. sents (last_opening c (deeds n ss ++ v))) (sym next.0) ∙ all') in
            next_fresh ss s c k t came _ next.1 next.2 none
      ]

  fresh_from : (c : ℕ) (pre ss : List Step) → FreshAt c pre → FreshAt c (pre ++ ss)
  fresh_from c pre [] h = subst (FreshAt c) (sym (append-nil pre)) h
  fresh_from c pre (s ∷ ss) h = subst (FreshAt c) (append_assoc pre (s ∷ []) ss) (fresh_from c (pre ++ s ∷ []) ss (fresh_step c pre s h))

  pub fresh : (c : ℕ) (ss : List Step) → FreshAt c ss
  fresh c ss = fresh_from c [] ss (λ k t came p all. let z = p.left in absurd cc)

  -- ---- the verdict

  -- all that was handed out on a channel goes on from what the broker read
  handed_grows : (c : ℕ) (ss : List Step) → receives_on (state_of c (past_of n ss).wire) ≡ true → Grows (tally_on c (deeds n ss)) (whole_tally c (past_of n ss).wire (handed_frames n ss))
  handed_grows c ss on =
      let y : Tally = tally_on c (deeds n ss) in
      let split : fold (next_on c) no_tally (handed_frames n ss) ≡ fold (next_on c) y (frames_of (joined_to n ss).up) = fold-append (next_on c) no_tally (reads (deeds n ss)) (frames_of (joined_to n ss).up) ∙ ap (λ z. fold (next_on c) z (frames_of (joined_to n ss).up)) (tally_folds c (deeds n ss)) in
      let way_up : Grows y (fold (next_on c) no_tally (handed_frames n ss)) = subst (Grows y) (sym split) (way_grows c (joined_to n ss).up y (I ss c on).read) in
      grows_then y _ _ way_up (fold_grows (rest_on c (past_of n ss).wire.rest) (fold (next_on c) no_tally (handed_frames n ss)))

  opening_grows : (o before : List Deed) (f : Frame) (behind : List Deed) → o ≡ before ++ Sent f ∷ behind → Grows (tally (reads before)) (tally (reads o))
  opening_grows o before f behind e =
      let split : tally (reads o) ≡ fold tally_after (tally (reads before)) (reads (Sent f ∷ behind)) = ap (λ v. tally (reads v)) e ∙ (ap tally (reads-append before (Sent f ∷ behind)) ∙ fold-append tally_after no_tally (reads before) (reads (Sent f ∷ behind))) in
      subst (Grows (tally (reads before))) (sym split) (fold_grows (reads (Sent f ∷ behind)) (tally (reads before)))

  -- the message of the call, and the verdict on it
  abbrev pub Judged : ℕ → ℕ → ℕ → SettleKind → List Step → Type 0
  Judged c k t kind ss = (m : Message) × (at_place k (messages_in (joined_to n ss).session) ≡ Some m) × (v : IsVerdict t kind m (last_opening c (deeds n ss))) × (fs : List Frame) × ((joined_to n ss).down ≡ v.frame ∷ fs)

  judged : (c k t : ℕ) (kind : SettleKind) (ss : List Step) (f : Frame) (fs : List Frame) (s : Settlement) → (joined_to n ss).down ≡ f ∷ fs → channel_of f ≡ c → settlement_in f ≡ Some s → covers s t ≡ true → s.kind ≡ kind → IsPending c k t (past_of n ss).confirms → Judged c k t kind ss
  judged c k t kind ss f fs s e on is cov kd p =
      let hears = S.receives ss c k t p in
      let together = I ss c hears in
      let o : List Deed = last_opening c (deeds n ss) in
      let on' : (channel_of f == c) ≡ true = eq-eqb _ _ on in
      let way : sents o ≡ together.came ++ (f ∷ filter (is_frame_on c) fs) = together.way ∙ (ap (λ v. together.came ++ filter (is_frame_on c) v) e ∙ ap (λ b. together.came ++ cond b (f ∷ filter (is_frame_on c) fs) (filter (is_frame_on c) fs)) on') in
      let cut = split_at o together.came f (filter (is_frame_on c) fs) way in
      let due : RangeBy (settlement_in f) (tally (reads cut.before)) = due_at no_tally cut.before cut.behind f (subst (AreDue no_tally) cut.all (tag_count_of n c ss).due) in
      let le : t ≤ length (tally (reads cut.before)).numbered = covered_counted (settlement_in f) s (tally (reads cut.before)) t is due cov in
      let grown : Grows (tally (reads cut.before)) (whole_tally c (past_of n ss).wire (handed_frames n ss)) = grows_then _ (tally_on c (deeds n ss)) _ (opening_grows o cut.before f cut.behind cut.all) (handed_grows c ss hears) in
      let taken = (S.numbered ss c hears together.left).taken k t p in
      let read : at_place t (tally (reads cut.before)).numbered ≡ Some taken.0 = at-first t (tally (reads cut.before)).numbered grown.more taken.0 (ap (at_place t) (sym grown.is) ∙ taken.1) le in (
        taken.0,
        taken.2,
        record {
          before = cut.before;
          behind = cut.behind;
          frame = f;
          settlement = s;
          all = cut.all;
          is_settlement = is;
          kind_is = kd;
          covers_it = cov;
          was_read = read;
          first = ap (list_any (settles t)) cut.came_is ∙ fresh c ss k t together.came p together.way;
        },
        fs,
        e,
      )

  delivered_verdict : (c k t : ℕ) (kind : SettleKind) (ss : List Step) (fs : List Frame) → (joined_to n ss).down ≡ fs → IsPending c k t (past_of n ss).confirms → first_settled c t (delivered_marks n fs (joined_to n ss)) ≡ Some (kind_outcome kind) → Judged c k t kind ss
  delivered_verdict c k t kind ss [] e p h = absurd cc
  delivered_verdict c k t kind ss (f ∷ fs) e p h =
      let j : Joint History = joined_to n ss in
      let b : Wire = (past_of n ss).wire in
      let r : Record = rec n j.session (event.Receive f) in
      elim (list_any is_settlement (incoming_marks (incoming_of f) r b)) as (λ v. list_any is_settlement (incoming_marks (incoming_of f) r b) ≡ v → Judged c k t kind ss) [
        | false ↦ λ q. absurd (only_settled c t kind (incoming_marks (incoming_of f) r b) q h)
        | true ↦ λ q.
            let z = frame_settles (incoming_of f) r b q in
            let so = settled_so c t z.channel kind z.settlement (ap (first_settled c t) (sym z.brings) ∙ h) in
            let this = is_this f z.channel z.settlement z.is in
            let same : z.channel ≡ c = elim (eqb_tells c z.channel) [ inl w ↦ sym w.1 | inr w ↦ (let u : true ≡ false = sym so.0 ∙ w.0 in absurd cc) ] in
            judged c k t kind ss f fs z.settlement e (this.on ∙ same) this.is so.1 so.2 p
      ] refl

  pub client_none : (e : Event) (b : Wire) (r : Record) (v : Bool) → is_lawful e ≡ v → list_any is_settlement (cond v (confirm_marks b e r) []) ≡ false
  client_none e b r true h = client_quiet b e r h
  client_none e b r false h = refl

  -- A publish that is pending, and that a step resolves as Ack or Nack: the step is a delivery, and the broker judged the publish.
  pub verdict : (c k t : ℕ) (kind : SettleKind) (ss : List Step) (s : Step) → IsPending c k t (past_of n ss).confirms → outcome_at k (past_of n (ss ++ s ∷ [])).confirms ≡ Some (kind_outcome kind) → (s ≡ step.Deliver) × Judged c k t kind ss
  verdict c k t kind ss s p h =
      by s (sym (pending_on c k t (past_of n ss).confirms (marks_in n s (joined_to n ss)) p) ∙ (ap (outcome_at k) (sym (confirms-push ss s)) ∙ h))
    where
      by : (s : Step) → first_settled c t (marks_in n s (joined_to n ss)) ≡ Some (kind_outcome kind) → (s ≡ step.Deliver) × Judged c k t kind ss
      by (step.Client e) g = absurd (only_settled c t kind (marks_in n (step.Client e) (joined_to n ss)) (client_none e (past_of n ss).wire (rec n (joined_to n ss).session e) (is_lawful e) refl) g)
      by step.Read g = absurd cc
      by (step.Send f) g = absurd cc
      by step.Deliver g = (refl, delivered_verdict c k t kind ss (joined_to n ss).down refl p g)
      by step.Lose g = absurd (only_settled c t kind (marks_in n step.Lose (joined_to n ss)) (all_quiet error.ConnectionLost (past_of n ss).wire) g)
