-- A confirm that is resolved as Ack or Nack at the end of a run was so by one step of it, and the opening of that step is the one of its
-- publish.
use Rattle.std.proofs.Common.{◌≡◌, ◌∙◌, ℕ, zero, suc, ◌+◌, ◌≤◌, ◌<◌, ◌==◌, Bool, true, false, cond, ◌||◌, List, [], ◌∷◌, ◌++◌, Option, Some, None, refl, sym, ap, subst, append-nil, append_assoc, arith}
use Rattle.std.specs.List.{fold, list_any}
use Rattle.std.specs.Option.{option_or}
use Rattle.std.proofs.lemmas.List.Folds.{list_any-append}
use Rattle.std.proofs.lemmas.List.Elements.{filter-append}
use Rattle.lapin_types.specs.declared.event.Event.TheVariants as event
use Rattle.lapin_types.specs.Types.{Frame}
use Rattle.lapin_types.specs.Types.error
use Rattle.lapin_types.specs.declared.leaving.Left.{Left}
use Rattle.lapin_broker.specs.Sends.{may}
use Rattle.lapin_rules.specs.Incoming.{incoming_of}
use Rattle.lapin_types.specs.declared.outcome.Outcome.{Outcome}
use Rattle.lapin_types.specs.declared.outcome.Outcome.TheVariants as outcome
use Rattle.lapin_rules.specs.declared.marks.SettleKind.{SettleKind}
use Rattle.lapin_rules.specs.declared.marks.SettleKind.TheVariants as settle
use Rattle.lapin_rules.specs.ConfirmMarks.{ConfirmMark}
use Rattle.lapin_rules.specs.ConfirmMarks as mark
use Rattle.lapin_rules.specs.Words.{after, through, rest_after, many}
use Rattle.lapin_rules.specs.ConfirmReadings.{begins, leaves, added, channel_of, has_left, tag_of, outcome_at, outcome_after, first_settled, first_rejected, life, kind_outcome}
use Rattle.lapin_rules.specs.History.{History, rec}
use Rattle.lapin_joint.specs.declared.step.Step.{Step}
use Rattle.lapin_joint.specs.declared.step.Step.TheVariants as step
use Rattle.lapin_joint.specs.Joint.{Joint, after as after_step, joined_to, is_lawful, client, read_first, send_down, deliver_first}
use Rattle.lapin_machine.specs.Way.{by_history}
use Rattle.lapin_verdicts.specs.Deeds.{Deed, Sent, opens, until, on_channel, is_on, opening, joined_opening, last_opening, deeds, deed_in}
use Rattle.lapin_verdicts.specs.Publishes.{Message}
use Rattle.lapin_concord.specs.Openings.{opening_of}
use Rattle.lapin_verdicts.specs.Verdicts.{at_place, messages_in, message_by, IsVerdict}
use Rattle.lapin_verdicts.specs.InStep.{InStep}
use Rattle.lapin_verdicts.specs.Resolved.{VerdictsAreDelivered}
use Rattle.lapin_verdicts.specs.Session.{IsPending, Numbers, past_of}
use Rattle.lapin_verdicts.proofs.Marks.{after-append, through-append, channel-append, tag-append, settled-append, only_settled, is_settlement, outcome_left, no_failure}
use Rattle.lapin_verdicts.proofs.Settles.{frame_settles, all_quiet}
use Rattle.lapin_verdicts.proofs.Numbering.{place-more}
use Rattle.lapin_verdicts.proofs.Runs.{joined-push, deeds-push, marks_in, delivered_marks}
use Rattle.lapin_verdicts.proofs.Verdict.{Judged, verdict, confirms-push, client_none}

-- ---- openings by their number

-- with no opening more, what stands before the next one is all
until-more : {X : Type 0} (p : X → Bool) (xs ys : List X) → list_any p xs ≡ false → until p (xs ++ ys) ≡ xs ++ until p ys
until-more p [] ys h = refl
until-more p (x ∷ xs) ys h = elim (p x) as (λ b. (b || list_any p xs) ≡ false → cond b [] (x ∷ until p (xs ++ ys)) ≡ x ∷ (xs ++ until p ys)) [ true ↦ λ e. absurd cc | false ↦ λ e. ap (λ v. x ∷ v) (until-more p xs ys e) ] h

-- the first is the second with something behind it
abbrev Last : List Deed → List Deed → Type 0
Last longer o = (behind : List Deed) × (longer ≡ o ++ behind)

-- after the last that passes nothing more does
no_more : (o : List Deed) (ds : List Deed) → list_any opens ds ≡ false → fold joined_opening o ds ≡ o ++ ds
no_more o [] h = sym (append-nil o)
no_more o (d ∷ ds) h = elim (opens d) as (λ b. (b || list_any opens ds) ≡ false → fold joined_opening (cond b [] (o ++ d ∷ [])) ds ≡ o ++ d ∷ ds) [ true ↦ λ e. absurd cc | false ↦ λ e. no_more (o ++ d ∷ []) ds e ∙ append_assoc o (d ∷ []) ds ] h

none_opens : (ds : List Deed) → many opens ds ≡ 0 → list_any opens ds ≡ false
none_opens [] h = refl
none_opens (d ∷ ds) h = elim (opens d) as (λ b. cond b (many opens ds + 1) (many opens ds) ≡ 0 → (b || list_any opens ds) ≡ false) [ true ↦ λ e. (let w : ⊥ = omega (arith, e) in absurd w) | false ↦ λ e. none_opens ds e ] h

last_at : (o : List Deed) (k : ℕ) (ds more : List Deed) → many opens ds ≡ suc k → Last (until opens (rest_after opens k (ds ++ more))) (fold joined_opening o ds)
last_at o k [] more h = let w : ⊥ = omega (arith, h) in absurd w
last_at o zero (d ∷ ds) more h = elim (opens d) as (λ b. cond b (many opens ds + 1) (many opens ds) ≡ 1 → Last (until opens (cond b (ds ++ more) (rest_after opens zero (ds ++ more)))) (fold joined_opening (cond b [] (o ++ d ∷ [])) ds)) [
  | true ↦ λ e. (let none : many opens ds ≡ 0 = omega (arith, e) in let no = none_opens ds none in (until opens more, until-more opens ds more no ∙ ap (λ v. v ++ until opens more) (sym (no_more [] ds no))))
  | false ↦ λ e. last_at (o ++ d ∷ []) zero ds more e
] h
last_at o (suc k) (d ∷ ds) more h = elim (opens d) as (λ b. cond b (many opens ds + 1) (many opens ds) ≡ suc (suc k) → Last (until opens (cond b (rest_after opens k (ds ++ more)) (rest_after opens (suc k) (ds ++ more)))) (fold joined_opening (cond b [] (o ++ d ∷ [])) ds)) [
  | true ↦ λ e. last_at [] k ds more (omega (arith, e))
  | false ↦ λ e. last_at (o ++ d ∷ []) (suc k) ds more e
] h

-- where so many were read, the opening of that number is the last one, with what comes behind
pub opening_last : (c k : ℕ) (ds more : List Deed) → 0 < k → many opens (on_channel c ds) ≡ k → Last (opening c k (ds ++ more)) (last_opening c ds)
opening_last c zero ds more z h = let w : ⊥ = omega (arith, z) in absurd w
opening_last c (suc k) ds more z h =
    let l = last_at [] k (on_channel c ds) (on_channel c more) h in
    (l.0, ap (λ v. until opens (rest_after opens k v)) (filter-append (is_on c) ds more) ∙ l.1)

-- ---- what was accepted stays

pub opening-more : (k : ℕ) (ms xs : List ConfirmMark) → 0 < k → k ≤ added ms → has_left k ms ≡ true → opening_of k (ms ++ xs) ≡ opening_of k ms
opening-more k ms xs z h l = ap (λ d. many (begins d) (through (leaves k) (ms ++ xs))) (channel-append k ms xs z h) ∙ ap (many (begins (channel_of k ms))) (through-append (leaves k) ms xs l)

pub messages-append : (h g : History) → messages_in (h ++ g) ≡ messages_in h ++ messages_in g
messages-append [] g = refl
messages-append (x ∷ h) g = ap (λ v. message_by x.0 x.1 ++ v) (messages-append h g) ∙ sym (append_assoc (message_by x.0 x.1) (messages_in h) (messages_in g))

-- ---- the step by which it was resolved

abbrev is_so : SettleKind → Option Outcome → Bool
is_so settle.Ack (Some outcome.Ack) = true
is_so settle.Nack (Some outcome.Nack) = true
is_so kind _ = false

so_is : (kind : SettleKind) (o : Option Outcome) → o ≡ Some (kind_outcome kind) → is_so kind o ≡ true
so_is settle.Ack o h = rw h refl
so_is settle.Nack o h = rw h refl

is_so_so : (kind : SettleKind) (o : Option Outcome) → is_so kind o ≡ true → o ≡ Some (kind_outcome kind)
is_so_so settle.Ack (Some outcome.Ack) h = refl
is_so_so settle.Nack (Some outcome.Nack) h = refl
is_so_so settle.Ack o h = absurd cc
is_so_so settle.Nack o h = absurd cc

not_so : (kind : SettleKind) → Some outcome.NotRequested ≡ Some (kind_outcome kind) → ⊥
not_so settle.Ack h = cc
not_so settle.Nack h = cc

not_rejected : (kind : SettleKind) (c : ℕ) (ms : List ConfirmMark) → first_rejected c ms ≡ Some (kind_outcome kind) → ⊥
not_rejected kind c [] h = cc
not_rejected kind c (mark.ClosedHere d e ∷ ms) h = not_rejected kind c ms (no_failure kind (c == d) (first_rejected c ms) e h)
not_rejected kind c (mark.Ended d e ∷ ms) h = not_rejected kind c ms (no_failure kind (c == d) (first_rejected c ms) e h)
not_rejected kind c (mark.Begun d ∷ ms) h = not_rejected kind c ms h
not_rejected kind c (mark.SelectCalled d ∷ ms) h = not_rejected kind c ms h
not_rejected kind c (mark.LimitSet d l ∷ ms) h = not_rejected kind c ms h
not_rejected kind c (mark.Added d ∷ ms) h = not_rejected kind c ms h
not_rejected kind c (mark.SelectLeft d ∷ ms) h = not_rejected kind c ms h
not_rejected kind c (mark.Left d j ∷ ms) h = not_rejected kind c ms h
not_rejected kind c (mark.Settled d s ∷ ms) h = not_rejected kind c ms h
not_rejected kind c (mark.Arrived d m ∷ ms) h = not_rejected kind c ms h
not_rejected kind c (mark.Taken j ∷ ms) h = not_rejected kind c ms h
not_rejected kind c (mark.SetAside j ∷ ms) h = not_rejected kind c ms h
not_rejected kind c (mark.Drained d ∷ ms) h = not_rejected kind c ms h

any-after : {X : Type 0} (q p : X → Bool) (xs : List X) → list_any q xs ≡ false → list_any q (after p xs) ≡ false
any-after q p [] h = refl
any-after q p (x ∷ xs) h = elim (p x) as (λ b. list_any q (cond b xs (after p xs)) ≡ false) [ true ↦ rest (q x) h | false ↦ any-after q p xs (rest (q x) h) ]
  where
    rest : (v : Bool) → (v || list_any q xs) ≡ false → list_any q xs ≡ false
    rest true e = absurd cc
    rest false e = e

after-none : {X : Type 0} (p : X → Bool) (xs ys : List X) → list_any p xs ≡ false → after p (xs ++ ys) ≡ after p ys
after-none p [] ys h = refl
after-none p (x ∷ xs) ys h = elim (p x) as (λ b. (b || list_any p xs) ≡ false → cond b (xs ++ ys) (after p (xs ++ ys)) ≡ after p ys) [ true ↦ λ e. absurd cc | false ↦ λ e. after-none p xs ys e ] h

-- marks with a settlement are that settlement alone
abbrev AreSettled : List ConfirmMark → Type 0
AreSettled xs = list_any is_settlement xs ≡ true → (k : ℕ) → has_left k xs ≡ false

-- one that has not left yet isn't resolved so as it leaves
newly : (k : ℕ) (kind : SettleKind) (ms xs : List ConfirmMark) → has_left k ms ≡ false → AreSettled xs → outcome_at k (ms ++ xs) ≡ Some (kind_outcome kind) → ⊥
newly k kind ms xs l s h = elim (has_left k (ms ++ xs)) as (λ v. has_left k (ms ++ xs) ≡ v → cond v (outcome_after (channel_of k (ms ++ xs)) (tag_of k (ms ++ xs)) (after (leaves k) (ms ++ xs))) (first_rejected (channel_of k (ms ++ xs)) (life k (ms ++ xs))) ≡ Some (kind_outcome kind) → ⊥) [
  | false ↦ λ _ g. not_rejected kind (channel_of k (ms ++ xs)) (life k (ms ++ xs)) g
  | true ↦ λ now g. by (tag_of k (ms ++ xs)) g now (list_any is_settlement xs) refl
] refl h
  where
    by : (o : Option ℕ) → outcome_after (channel_of k (ms ++ xs)) o (after (leaves k) (ms ++ xs)) ≡ Some (kind_outcome kind) → has_left k (ms ++ xs) ≡ true → (v : Bool) → list_any is_settlement xs ≡ v → ⊥
    by None g now v e = not_so kind g
    by (Some t) g now false e =
        let none : list_any is_settlement (after (leaves k) (ms ++ xs)) ≡ false = ap (list_any is_settlement) (after-none (leaves k) ms xs l) ∙ any-after is_settlement (leaves k) xs e in
        only_settled (channel_of k (ms ++ xs)) t kind (after (leaves k) (ms ++ xs)) none g
    by (Some t) g now true e =
        let no : has_left k (ms ++ xs) ≡ false = list_any-append (leaves k) ms xs ∙ rw (l, s e k) refl in
        let z : true ≡ false = sym now ∙ no in
        cc

-- one that had left was pending, if it wasn't resolved so before
was_pending : (c k t : ℕ) (kind : SettleKind) (ms xs : List ConfirmMark) → (0 < k) × (k ≤ added ms) → has_left k ms ≡ true → channel_of k ms ≡ c → tag_of k ms ≡ Some t → is_so kind (outcome_at k ms) ≡ false → outcome_at k (ms ++ xs) ≡ Some (kind_outcome kind) → IsPending c k t ms
was_pending c k t kind ms xs added left on tag before h = by (first_settled c t (after (leaves k) ms)) refl
  where
    now : outcome_at k (ms ++ xs) ≡ option_or (first_settled c t (after (leaves k) ms)) (first_settled c t xs)
    now =
        outcome_left k c t (ms ++ xs) (list_any-append (leaves k) ms xs ∙ rw left refl) (channel-append k ms xs added.0 added.1 ∙ on) (tag-append k ms xs added.0 added.1 left ∙ tag)
        ∙ (ap (first_settled c t) (after-append (leaves k) ms xs left) ∙ settled-append c t (after (leaves k) ms) xs)

    by : (o : Option Outcome) → first_settled c t (after (leaves k) ms) ≡ o → IsPending c k t ms
    by None e = record { added = added; left = left; on = on; tag = tag; waits = outcome_left k c t ms left on tag ∙ e }
    by (Some v) e =
        let was : outcome_at k ms ≡ Some v = outcome_left k c t ms left on tag ∙ e in
        let same : outcome_at k (ms ++ xs) ≡ Some v = now ∙ ap (λ o. option_or o (first_settled c t xs)) e in
        let so : is_so kind (outcome_at k ms) ≡ true = so_is kind (outcome_at k ms) (was ∙ (sym same ∙ h)) in
        let z : true ≡ false = sym so ∙ before in
        absurd cc

-- one that left without a tag has an outcome
untagged : (k : ℕ) (ms : List ConfirmMark) → has_left k ms ≡ true → tag_of k ms ≡ None → outcome_at k ms ≡ Some outcome.NotRequested
untagged k ms l none =
    ap (λ b. cond b (outcome_after (channel_of k ms) (tag_of k ms) (after (leaves k) ms)) (first_rejected (channel_of k ms) (life k ms))) l
    ∙ ap (λ o. outcome_after (channel_of k ms) o (after (leaves k) ms)) none

module _ (n : ℕ) (S : Numbers n) (I : InStep n) where
  abbrev outcome_in : ℕ → List Step → Option Outcome
  outcome_in k ss = outcome_at k (past_of n ss).confirms

  settled_alone : (ss : List Step) (s : Step) → AreSettled (marks_in n s (joined_to n ss))
  settled_alone ss (step.Client e) h = absurd (let q = client_none n S I e (past_of n ss).wire (rec n (joined_to n ss).session e) (is_lawful e) refl in let z : false ≡ true = sym q ∙ h in never z)
    where
      never : false ≡ true → ⊥
      never z = cc
  settled_alone ss step.Read h = absurd cc
  settled_alone ss (step.Send f) h = absurd cc
  settled_alone ss step.Deliver h = by (joined_to n ss).down h
    where
      by : (fs : List Frame) → list_any is_settlement (delivered_marks n fs (joined_to n ss)) ≡ true → (k : ℕ) → has_left k (delivered_marks n fs (joined_to n ss)) ≡ false
      by [] e = absurd cc
      by (f ∷ fs) e = λ k. ap (has_left k) (frame_settles (incoming_of f) (rec n (joined_to n ss).session (event.Receive f)) (past_of n ss).wire e).brings
  settled_alone ss step.Lose h = absurd (let q = all_quiet error.ConnectionLost (past_of n ss).wire in let z : false ≡ true = sym q ∙ h in never z)
    where
      never : false ≡ true → ⊥
      never z = cc

  -- ---- a run goes on

  record Longer (pre ss : List Step) : Type 0 where
    pub marks : List ConfirmMark
    pub confirms : (past_of n ss).confirms ≡ (past_of n pre).confirms ++ marks
    pub events : History
    pub session : (joined_to n ss).session ≡ (joined_to n pre).session ++ events
    pub more : List Deed
    pub did : deeds n ss ≡ deeds n pre ++ more

  step_session : (s : Step) (j : Joint History) → (g : History) × ((after_step (by_history n) s j).session ≡ j.session ++ g)
  step_session (step.Client e) j = by (is_lawful e)
    where
      by : (v : Bool) → (g : History) × ((cond v (client (by_history n) e j) j).session ≡ j.session ++ g)
      by true = (_, refl)
      by false = ([], sym (append-nil j.session))
  step_session step.Read j = by j.up
    where
      by : (ls : List Left) → (g : History) × ((read_first ls j).session ≡ j.session ++ g)
      by [] = ([], sym (append-nil j.session))
      by (l ∷ ls) = ([], sym (append-nil j.session))
  step_session (step.Send f) j = by (may j.broker f)
    where
      by : (v : Bool) → (g : History) × ((cond v (send_down f j) j).session ≡ j.session ++ g)
      by true = ([], sym (append-nil j.session))
      by false = ([], sym (append-nil j.session))
  step_session step.Deliver j = by j.down
    where
      by : (fs : List Frame) → (g : History) × ((deliver_first (by_history n) fs j).session ≡ j.session ++ g)
      by [] = ([], sym (append-nil j.session))
      by (f ∷ fs) = (_, refl)
  step_session step.Lose j = (_, refl)

  longer_then : (a b c : List Step) → Longer a b → Longer b c → Longer a c
  longer_then a b c x y = record {
    marks = x.marks ++ y.marks;
    confirms = y.confirms ∙ (ap (λ v. v ++ y.marks) x.confirms ∙ append_assoc _ x.marks y.marks);
    events = x.events ++ y.events;
    session = y.session ∙ (ap (λ v. v ++ y.events) x.session ∙ append_assoc _ x.events y.events);
    more = x.more ++ y.more;
    did = y.did ∙ (ap (λ v. v ++ y.more) x.did ∙ append_assoc _ x.more y.more);
  }

  longer_one : (ss : List Step) (s : Step) → Longer ss (ss ++ s ∷ [])
  longer_one ss s =
      let g = step_session s (joined_to n ss) in
      record { marks = marks_in n s (joined_to n ss); confirms = confirms-push n S I ss s; events = g.0; session = ap (λ (j : Joint History). j.session) (joined-push n ss s) ∙ g.1; more = deed_in s (joined_to n ss); did = deeds-push n ss s }

  longer_all : (pre ss : List Step) → Longer pre (pre ++ ss)
  longer_all pre [] = subst (Longer pre) (sym (append-nil pre)) (record { marks = []; confirms = sym (append-nil _); events = []; session = sym (append-nil _); more = []; did = sym (append-nil _) })
  longer_all pre (s ∷ ss) = subst (Longer pre) (append_assoc pre (s ∷ []) ss) (longer_then pre (pre ++ s ∷ []) _ (longer_one pre s) (longer_all (pre ++ s ∷ []) ss))

  record Found (k : ℕ) (kind : SettleKind) (ss : List Step) : Type 0 where
    pub pre : List Step
    pub step : Step
    pub rest : List Step
    pub all : ss ≡ (pre ++ step ∷ []) ++ rest
    pub before : is_so kind (outcome_in k pre) ≡ false
    pub then : is_so kind (outcome_in k (pre ++ step ∷ [])) ≡ true

  find_step : (k : ℕ) (kind : SettleKind) (pre ss : List Step) → is_so kind (outcome_in k pre) ≡ false → is_so kind (outcome_in k (pre ++ ss)) ≡ true → Found k kind (pre ++ ss)
  find_step k kind pre [] f t = absurd (let z : true ≡ false = sym t ∙ (ap (λ v. is_so kind (outcome_in k v)) (append-nil pre) ∙ f) in never z)
    where
      never : true ≡ false → ⊥
      never z = cc
  find_step k kind pre (s ∷ ss) f t =
      let same : (pre ++ s ∷ []) ++ ss ≡ pre ++ s ∷ ss = append_assoc pre (s ∷ []) ss in
      elim (is_so kind (outcome_in k (pre ++ s ∷ []))) as (λ v. is_so kind (outcome_in k (pre ++ s ∷ [])) ≡ v → Found k kind (pre ++ s ∷ ss)) [
        | true ↦ λ e. record { pre = pre; step = s; rest = ss; all = sym same; before = f; then = e }
        | false ↦ λ e. subst (Found k kind) same (find_step k kind (pre ++ s ∷ []) ss e (subst (λ v. is_so kind (outcome_in k v) ≡ true) (sym same) t))
      ] refl

  first_open : (k : ℕ) (kind : SettleKind) → is_so kind (outcome_in k []) ≡ false
  first_open k kind = elim (is_so kind (outcome_in k [])) as (λ v. is_so kind (outcome_in k []) ≡ v → v ≡ false) [
    | true ↦ λ e. absurd (not_rejected kind (channel_of k []) (life k []) (is_so_so kind (outcome_in k []) e))
    | false ↦ λ e. refl
  ] refl

  -- ---- at the end of a run

  abbrev pub Told : ℕ → ℕ → ℕ → SettleKind → List Step → Type 0
  Told c k t kind ss = (m : Message) × (at_place k (messages_in (joined_to n ss).session) ≡ Some m) × IsVerdict t kind m (opening c (opening_of k (past_of n ss).confirms) (deeds n ss))

  carried : (c k t : ℕ) (kind : SettleKind) (pre ss : List Step) → Longer pre ss → IsPending c k t (past_of n pre).confirms → Judged n S I c k t kind pre → Told c k t kind ss
  carried c k t kind pre ss long p (m, at, v, way, front) =
      let here = S.present pre c k t p in
      let together = I pre c (S.receives pre c k t p) in
      let number : opening_of k (past_of n ss).confirms ≡ opening_of k (past_of n pre).confirms = ap (opening_of k) long.confirms ∙ opening-more k (past_of n pre).confirms long.marks p.added.0 p.added.1 p.left in
      let last = opening_last c (opening_of k (past_of n pre).confirms) (deeds n pre) long.more here.0 (together.count ∙ here.1) in
      let opened : opening c (opening_of k (past_of n ss).confirms) (deeds n ss) ≡ last_opening c (deeds n pre) ++ last.0 = ap (λ d. opening c d (deeds n ss)) number ∙ (ap (opening c (opening_of k (past_of n pre).confirms)) long.did ∙ last.1) in (
        m,
        ap (λ h. at_place k (messages_in h)) long.session ∙ (ap (at_place k) (messages-append (joined_to n pre).session long.events) ∙ place-more k _ _ m at),
        record {
          before = v.before;
          behind = v.behind ++ last.0;
          frame = v.frame;
          settlement = v.settlement;
          all = opened ∙ (ap (λ o. o ++ last.0) v.all ∙ append_assoc v.before (Sent v.frame ∷ v.behind) last.0);
          is_settlement = v.is_settlement;
          kind_is = v.kind_is;
          covers_it = v.covers_it;
          was_read = v.was_read;
          first = v.first;
        },
      )

  pub whole : (c k t : ℕ) (kind : SettleKind) (ss : List Step) → channel_of k (past_of n ss).confirms ≡ c → tag_of k (past_of n ss).confirms ≡ Some t → outcome_at k (past_of n ss).confirms ≡ Some (kind_outcome kind) → Told c k t kind ss
  whole c k t kind ss on tag h = by (find_step k kind [] ss (first_open k kind) (so_is kind (outcome_in k ss) h))
    where
      by : Found k kind ss → Told c k t kind ss
      by f =
          let ms : List ConfirmMark = (past_of n f.pre).confirms in
          let xs : List ConfirmMark = marks_in n f.step (joined_to n f.pre) in
          let now : outcome_at k (ms ++ xs) ≡ Some (kind_outcome kind) = ap (outcome_at k) (sym (confirms-push n S I f.pre f.step)) ∙ is_so_so kind (outcome_in k (f.pre ++ f.step ∷ [])) f.then in
          let long : Longer f.pre ss = subst (Longer f.pre) (sym f.all) (longer_then f.pre (f.pre ++ f.step ∷ []) _ (longer_one f.pre f.step) (longer_all (f.pre ++ f.step ∷ []) f.rest)) in
          elim (has_left k ms) as (λ v. has_left k ms ≡ v → Told c k t kind ss) [
            | false ↦ λ l. absurd (newly k kind ms xs l (settled_alone f.pre f.step) now)
            | true ↦ λ l.
                let a = S.accepted f.pre k l in
                let on' : channel_of k ms ≡ c = sym (channel-append k ms long.marks a.0 a.1) ∙ (ap (channel_of k) (sym long.confirms) ∙ on) in
                let tag' : tag_of k ms ≡ Some t = sym (tag-append k ms long.marks a.0 a.1 l) ∙ (ap (tag_of k) (sym long.confirms) ∙ tag) in
                let p : IsPending c k t ms = was_pending c k t kind ms xs a l on' tag' f.before now in
                carried c k t kind f.pre ss long p (verdict n S I c k t kind f.pre f.step p (is_so_so kind (outcome_in k (f.pre ++ f.step ∷ [])) f.then)).1
          ] refl

  -- ---- at the step that resolves it

  abbrev Waits : ℕ → List Step → Type 0
  Waits k ss = (t : ℕ) × IsPending (channel_of k (past_of n ss).confirms) k t (past_of n ss).confirms

  -- one that a step resolves so was pending with a tag
  was_waiting : (k : ℕ) (kind : SettleKind) (ss : List Step) (s : Step) → outcome_in k ss ≡ None → outcome_in k (ss ++ s ∷ []) ≡ Some (kind_outcome kind) → Waits k ss
  was_waiting k kind ss s was now =
      let ms : List ConfirmMark = (past_of n ss).confirms in
      let xs : List ConfirmMark = marks_in n s (joined_to n ss) in
      let then : outcome_at k (ms ++ xs) ≡ Some (kind_outcome kind) = ap (outcome_at k) (sym (confirms-push n S I ss s)) ∙ now in
      elim (has_left k ms) as (λ v. has_left k ms ≡ v → Waits k ss) [
        | false ↦ λ l. absurd (newly k kind ms xs l (settled_alone ss s) then)
        | true ↦ λ l. elim (tag_of k ms) as (λ o. tag_of k ms ≡ o → Waits k ss) [
          | None ↦ λ tag. (let w : None ≡ Some outcome.NotRequested = sym was ∙ untagged k ms l tag in absurd cc)
          | Some t ↦ λ tag. (t, record { added = S.accepted ss k l; left = l; on = refl; tag = tag; waits = was })
        ] refl
      ] refl

  pub delivered : (ss : List Step) → VerdictsAreDelivered n ss
  delivered ss k kind s was now =
      let w = was_waiting k kind ss s was now in
      let v = verdict n S I (channel_of k (past_of n ss).confirms) k w.0 kind ss s w.1 now in
      (v.0, record { tag = w.0; taken = w.1.tag; message = v.1.0; called = v.1.1; verdict = v.1.2; way = v.1.3; front = v.1.4 })
