-- An outcome that a client tells, as the history of the joined run shows it.
use Rattle.std.proofs.Common.{◌≡◌, ℕ, ◌≤◌, ◌<◌, ◌+◌, ◌==◌, Bool, true, false, cond, List, [], ◌∷◌, Option, Some, None, Result, Ok, Err, refl, sym, subst, ap, ◌∙◌, inl, inr, arith}
use Rattle.std.specs.Option.{option_or}
use Rattle.lapin_types.specs.declared.confirmation.Confirmation.{Confirmation}
use Rattle.lapin_types.specs.declared.confirmation.Confirmation.TheVariants as confirmation
use Rattle.lapin_types.specs.declared.event.Event.TheVariants as event
use Rattle.lapin_types.specs.declared.record.Record.TheVariants as record_
use Rattle.lapin_types.specs.declared.message.BasicReturnMessage.{BasicReturnMessage}
use Rattle.lapin_types.specs.declared.outcome.Outcome.{Outcome}
use Rattle.lapin_types.specs.declared.outcome.Outcome.TheVariants as outcome
use Rattle.lapin_types.specs.Types.{Error}
use Rattle.lapin_types.specs.Types.error
use Rattle.lapin_rules.specs.ConfirmMarks.{ConfirmMark}
use Rattle.lapin_rules.specs.ConfirmMarks as mark
use Rattle.lapin_rules.specs.ConfirmReadings.{channel_of, tag_of, outcome_at, outcome_after, kind_outcome, was_added, is_finished, has_left, first_rejected, life, leaves}
use Rattle.lapin_rules.specs.Words.{after}
use Rattle.lapin_rules.specs.History.{polled_outcome, confirm_poll}
use Rattle.lapin_rules.specs.Polls.{confirmed}
use Rattle.lapin_rules.specs.ReturnReadings.{message_of}
use Rattle.lapin_rules.specs.declared.marks.SettleKind.{SettleKind}
use Rattle.lapin_rules.specs.declared.marks.SettleKind.TheVariants as settle
use Rattle.lapin_confirm.specs.Answers.{result_of}
use Rattle.lapin_joint.specs.declared.step.Step.{Step}
use Rattle.lapin_machine.specs.World.{told_by}
use Rattle.lapin_client.specs.declared.client.Client.{Client}
use Rattle.lapin_client.specs.Calls.{OutcomeShown}
use Rattle.lapin_client.specs.Returns.{ConfirmShown}
use Rattle.lapin_answers.specs.Truth.{IsTrue}
use Rattle.lapin_verdicts.specs.Session.{past_of}
use Rattle.lapin_clients.specs.Calls.{Call, Outcome as ByOutcome, Confirmed as ByConfirm}
use Rattle.lapin_clients.specs.Nets.{Act, Calls, Does, IsNewNet, Leads, Net}
use Rattle.lapin_clients.specs.Truth.{code_of, IsVerdictTold, OutcomesAreVerdicts, TellsOutcome}
use Rattle.lapin_clients.proofs.Published.{run_is}
use Rattle.lapin_clients.proofs.Told.{told_is}

-- ---- what a poll told

-- the kind of settlement that an outcome is, if it is one
abbrev kind_in : Result Confirmation Error → Option SettleKind
kind_in (Ok (confirmation.Ack m)) = Some settle.Ack
kind_in (Ok (confirmation.Nack m)) = Some settle.Nack
kind_in _ = None

module _ (r : Result Confirmation Error) (kind : SettleKind) (is : kind_in r ≡ Some kind) where
  of_kind : (q : Result Confirmation Error) (k : SettleKind) → q ≡ r → kind_in q ≡ Some k → kind_outcome k ≡ kind_outcome kind
  of_kind q k e h = let s : Some k ≡ Some kind = sym h ∙ (ap kind_in e ∙ is) in let t : k ≡ kind = cc in ap kind_outcome t

  of_none : {P : Type 0} (q : Result Confirmation Error) → q ≡ r → kind_in q ≡ None → P
  of_none q e h = let s : None ≡ Some kind = sym h ∙ (ap kind_in e ∙ is) in absurd cc

  by_kind : (m : Option BasicReturnMessage) (o : Outcome) → confirmed m o ≡ record_.Confirmed r → o ≡ kind_outcome kind
  by_kind m outcome.Ack h = of_kind (Ok (confirmation.Ack m)) settle.Ack (let e : Ok (confirmation.Ack m) ≡ r = cc in e) refl
  by_kind m outcome.Nack h = of_kind (Ok (confirmation.Nack m)) settle.Nack (let e : Ok (confirmation.Nack m) ≡ r = cc in e) refl
  by_kind m outcome.NotRequested h = of_none (Ok confirmation.NotRequested) (let e : Ok confirmation.NotRequested ≡ r = cc in e) refl
  by_kind m (outcome.Failed e) h = of_none (Err e) (let d : Err e ≡ r = cc in d) refl

  polled_kind : (m : Option BasicReturnMessage) (o : Option Outcome) → polled_outcome m o ≡ record_.Confirmed r → o ≡ Some (kind_outcome kind)
  polled_kind m None h = absurd cc
  polled_kind m (Some o) h = ap (λ (x : Outcome). Some x) (by_kind m o h)

  told_kind : (ms : List ConfirmMark) (k : ℕ) → confirm_poll ms k ≡ record_.Confirmed r → outcome_at k ms ≡ Some (kind_outcome kind)
  told_kind ms k h = at (was_added k ms) (is_finished k ms) refl refl
    where
      at : (a f : Bool) → was_added k ms ≡ a → is_finished k ms ≡ f → outcome_at k ms ≡ Some (kind_outcome kind)
      at true false added finished = let now : polled_outcome (message_of k ms) (outcome_at k ms) ≡ record_.Confirmed r = rw (added, finished) at h in polled_kind (message_of k ms) (outcome_at k ms) now
      at true true added finished = let never : record_.Refused error.AlreadyTaken ≡ record_.Confirmed r = rw (added, finished) at h in absurd cc
      at false f added finished = let never : record_.Refused error.UnknownTicket ≡ record_.Confirmed r = rw added at h in absurd cc

-- ---- its tag

failed_kind : (e : Error) (kind : SettleKind) → Some (outcome.Failed e) ≡ Some (kind_outcome kind) → ⊥
failed_kind e settle.Ack h = cc
failed_kind e settle.Nack h = cc

unasked_kind : (kind : SettleKind) → Some outcome.NotRequested ≡ Some (kind_outcome kind) → ⊥
unasked_kind settle.Ack h = cc
unasked_kind settle.Nack h = cc

nothing_kind : (kind : SettleKind) → ◌≡◌ {A = Option Outcome} None (Some (kind_outcome kind)) → ⊥
nothing_kind settle.Ack h = cc
nothing_kind settle.Nack h = cc

failed_first : (b : Bool) (x : Outcome) (o : Option Outcome) (y : Outcome) → (Some x ≡ Some y → ⊥) → (o ≡ Some y → ⊥) → option_or (cond b (Some x) None) o ≡ Some y → ⊥
failed_first true x o y one other h = one h
failed_first false x o y one other h = other h

none_failed : (c : ℕ) (kind : SettleKind) (ms : List ConfirmMark) → first_rejected c ms ≡ Some (kind_outcome kind) → ⊥
none_failed c kind [] h = nothing_kind kind h
none_failed c kind (mark.ClosedHere d e ∷ ms) h = failed_first (c == d) (outcome.Failed e) (first_rejected c ms) (kind_outcome kind) (failed_kind e kind) (none_failed c kind ms) h
none_failed c kind (mark.Ended d e ∷ ms) h = failed_first (c == d) (outcome.Failed e) (first_rejected c ms) (kind_outcome kind) (failed_kind e kind) (none_failed c kind ms) h
none_failed c kind (_ ∷ ms) h = none_failed c kind ms h

has_tag : (c : ℕ) (kind : SettleKind) (o : Option ℕ) (later : List ConfirmMark) → outcome_after c o later ≡ Some (kind_outcome kind) → (t : ℕ) × (o ≡ Some t)
has_tag c kind None later h = absurd (unasked_kind kind h)
has_tag c kind (Some t) later h = (t, refl)

tag_there : (ms : List ConfirmMark) (k : ℕ) (kind : SettleKind) → outcome_at k ms ≡ Some (kind_outcome kind) → (t : ℕ) × (tag_of k ms ≡ Some t)
tag_there ms k kind h = at (has_left k ms) refl
  where
    at : (b : Bool) → has_left k ms ≡ b → (t : ℕ) × (tag_of k ms ≡ Some t)
    at true left = let now : outcome_after (channel_of k ms) (tag_of k ms) (after (leaves k) ms) ≡ Some (kind_outcome kind) = rw left at h in has_tag (channel_of k ms) kind (tag_of k ms) (after (leaves k) ms) now
    at false left = let now : first_rejected (channel_of k ms) (life k ms) ≡ Some (kind_outcome kind) = rw left at h in absurd (none_failed (channel_of k ms) kind (life k ms) now)

-- ---- what the client told

shown_kind : (o : Outcome) (kind : SettleKind) (c d : Client) → OutcomeShown (code_of kind) o c d → kind_in (result_of o) ≡ Some kind
shown_kind outcome.Ack settle.Ack c d h = refl
shown_kind outcome.Ack settle.Nack c d h = let no : ◌≡◌ {A = ℕ} 2 1 = h.0 in absurd cc
shown_kind outcome.Nack settle.Nack c d h = refl
shown_kind outcome.Nack settle.Ack c d h = let no : ◌≡◌ {A = ℕ} 1 2 = h.0 in absurd cc
shown_kind outcome.NotRequested settle.Ack c d h = let no : ◌≡◌ {A = ℕ} 1 3 = h.0 in absurd cc
shown_kind outcome.NotRequested settle.Nack c d h = let no : ◌≡◌ {A = ℕ} 2 3 = h.0 in absurd cc
shown_kind (outcome.Failed e) settle.Ack c d h = let no : ◌≡◌ {A = ℕ} 1 4 = h.0 in absurd cc
shown_kind (outcome.Failed e) settle.Nack c d h = let no : ◌≡◌ {A = ℕ} 2 4 = h.0 in absurd cc

whole_kind : (r : Result Confirmation Error) (kind : SettleKind) (c d : Client) → ConfirmShown (code_of kind) r c d → kind_in r ≡ Some kind
whole_kind (Ok (confirmation.Ack m)) settle.Ack c d h = refl
whole_kind (Ok (confirmation.Ack m)) settle.Nack c d h = let no : ◌≡◌ {A = ℕ} 2 1 = h.0 in absurd cc
whole_kind (Ok (confirmation.Nack m)) settle.Nack c d h = refl
whole_kind (Ok (confirmation.Nack m)) settle.Ack c d h = let no : ◌≡◌ {A = ℕ} 1 2 = h.0 in absurd cc
whole_kind (Ok confirmation.NotRequested) settle.Ack c d h = let no : ◌≡◌ {A = ℕ} 1 3 = h.0 in absurd cc
whole_kind (Ok confirmation.NotRequested) settle.Nack c d h = let no : ◌≡◌ {A = ℕ} 2 3 = h.0 in absurd cc
whole_kind (Err e) settle.Ack c d h = let no : ◌≡◌ {A = ℕ} 1 4 = h.0 in absurd cc
whole_kind (Err e) settle.Nack c d h = let no : ◌≡◌ {A = ℕ} 2 4 = h.0 in absurd cc

some_code : (kind : SettleKind) → code_of kind ≡ 0 → ⊥
some_code settle.Ack h = cc
some_code settle.Nack h = cc

module _ (n : ℕ) (is_law : 4096 ≤ n → (ss : List Step) → IsTrue n ss) (acts : List Act) where
  -- where the session told an outcome of this kind
  by_record : (x y : Net) (k : ℕ) (kind : SettleKind) (r : Result Confirmation Error) → IsNewNet n x → Leads acts x y → 0 < y.client.left → kind_in r ≡ Some kind → told_by y.client.session (event.PollConfirm k) ≡ record_.Confirmed r → IsVerdictTold n acts y k kind
  by_record x y k kind r new leads alive is told =
      let g = run_is n acts x y new leads alive in
      let ss : List Step = g.0 in
      let e = event.PollConfirm k in
      let polled : confirm_poll (past_of n ss).confirms k ≡ record_.Confirmed r = sym (told_is n ss e) ∙ (ap (λ w. told_by w e) (sym g.1.joined.session) ∙ told) in
      let out : outcome_at k (past_of n ss).confirms ≡ Some (kind_outcome kind) = told_kind r kind is (past_of n ss).confirms k polled in
      let tag = tag_there (past_of n ss).confirms k kind out in
      let is_true : IsTrue n ss = is_law new.large ss in
      let v = is_true.verdicts k tag.0 kind tag.1 out in
      (ss, tag.0, v.0, record { run = g.1; is_true = is_true }, v.1, v.2)

  by_outcome : (x y z : Net) (j code k : ℕ) (kind : SettleKind) → IsNewNet n x → Leads acts x y → j ≡ k → code ≡ code_of kind → Does (Calls (ByOutcome j code)) y z → IsVerdictTold n acts y k kind
  by_outcome x y z j code k kind new leads number coded does =
      let does : Does (Calls (ByOutcome k (code_of kind))) y z = subst (λ v. Does (Calls (ByOutcome v (code_of kind))) y z) number (subst (λ v. Does (Calls (ByOutcome j v)) y z) coded does) in
      let alive : 0 < y.client.left = elim does.0.1 [ inl c ↦ absurd (some_code kind c.0) | inr c ↦ omega (arith, c) ] in
      elim does.0.0.0 [
        | inl none ↦ absurd (some_code kind none.0)
        | inr it ↦ by_record x y k kind (result_of it.0) new leads alive (shown_kind it.0 kind y.client z.client it.3) it.1
      ]

  by_confirm : (x y z : Net) (j code k : ℕ) (kind : SettleKind) → IsNewNet n x → Leads acts x y → j ≡ k → code ≡ code_of kind → Does (Calls (ByConfirm j (Ok code))) y z → IsVerdictTold n acts y k kind
  by_confirm x y z j code k kind new leads number coded does =
      let does : Does (Calls (ByConfirm k (Ok (code_of kind)))) y z = subst (λ v. Does (Calls (ByConfirm v (Ok (code_of kind)))) y z) number (subst (λ v. Does (Calls (ByConfirm j (Ok v))) y z) coded does) in
      let count : z.client.left + 1 ≡ y.client.left = does.0.1 in
      by_record x y k kind does.0.0.0.0 new leads (omega (arith, count)) (whole_kind does.0.0.0.0 kind y.client z.client does.0.0.0.2) does.0.0.0.1

  pub verdicts_told : OutcomesAreVerdicts n acts
  verdicts_told x y z call k kind new leads tells does = by call tells does
    where
      by : (call : Call) → TellsOutcome call k kind → Does (Calls call) y z → IsVerdictTold n acts y k kind
      by (ByOutcome j code) tells does = by_outcome x y z j code k kind new leads tells.0 tells.1 does
      by (ByConfirm j (Ok code)) tells does = by_confirm x y z j code k kind new leads tells.0 tells.1 does
      by _ tells does = absurd tells
