-- What a delivered frame is to the session in a joined run: it isn't refused, and what it does to tickets.
use Rattle.std.proofs.Common.{◌≡◌, ◌∙◌, ℕ, ◌≤◌, Bool, true, false, ◌||◌, List, [], ◌∷◌, ◌++◌, refl, sym, ap}
use Rattle.std.specs.List.{list_any}
use Rattle.std.proofs.lemmas.List.Folds.{list_any-append}
use Rattle.lapin_types.specs.declared.event.Event.TheVariants as event
use Rattle.lapin_types.specs.Types.{Frame}
use Rattle.lapin_rules.specs.Events.{after_event, ticket_marks}
use Rattle.lapin_rules.specs.History.{History, Past, past, rec}
use Rattle.lapin_joint.specs.declared.step.Step.{Step}
use Rattle.lapin_joint.specs.declared.step.Step.TheVariants as step
use Rattle.lapin_joint.specs.declared.step.Reported.TheVariants as reported
use Rattle.lapin_joint.specs.Joint.{Joint, new_joint, deliver_first, deliver_report, report, reports, joined_to}
use Rattle.lapin_machine.specs.Way.{by_history}
use Rattle.lapin_concord.specs.Refusals.{is_refusal, reports_refusal}
use Rattle.lapin_concord.proofs.Laws.{none_refused}
use Rattle.lapin_verdicts.specs.Session.{past_of}
use Rattle.lapin_verdicts.proofs.Runs.{past-push, joined-push}
use Rattle.lapin_joint.proofs.Steps.{reports-push}

last_of : (a b : Bool) → (a || (b || false)) ≡ false → b ≡ false
last_of true b h = absurd cc
last_of false true h = absurd cc
last_of false false h = refl

module _ (n : ℕ) (ss : List Step) (f : Frame) (fs : List Frame) (down : (joined_to n ss).down ≡ f ∷ fs) where
  abbrev h : History
  h = (joined_to n ss).session

  -- the frame that comes next isn't refused
  pub unrefused : 4096 ≤ n → is_refusal (rec n h (event.Receive f)) ≡ false
  unrefused big =
      let here : report (by_history n) step.Deliver (joined_to n ss) ≡ reported.Delivered (rec n h (event.Receive f)) = ap (λ v. deliver_report (by_history n) v h) down in
      let all : list_any reports_refusal (reports (by_history n) ss (new_joint [] n) ++ report (by_history n) step.Deliver (joined_to n ss) ∷ []) ≡ false = ap (list_any reports_refusal) (sym (reports-push (by_history n) ss step.Deliver (new_joint [] n))) ∙ none_refused n (ss ++ step.Deliver ∷ []) big in
      let parts = sym (list_any-append reports_refusal (reports (by_history n) ss (new_joint [] n)) (report (by_history n) step.Deliver (joined_to n ss) ∷ [])) ∙ all in
      ap reports_refusal (sym here) ∙ last_of (list_any reports_refusal (reports (by_history n) ss (new_joint [] n))) (reports_refusal (report (by_history n) step.Deliver (joined_to n ss))) parts

  delivered : joined_to n (ss ++ step.Deliver ∷ []) ≡ deliver_first (by_history n) (f ∷ fs) (joined_to n ss)
  delivered = joined-push n ss step.Deliver ∙ ap (λ v. deliver_first (by_history n) v (joined_to n ss)) down

  -- what it does to tickets
  pub tickets_after : (past_of n (ss ++ step.Deliver ∷ [])).tickets ≡ (past_of n ss).tickets ++ ticket_marks (past_of n ss).wire (event.Receive f) (rec n h (event.Receive f))
  tickets_after = ap (λ (j : Joint History). (past n j.session).tickets) delivered ∙ ap (λ (p : Past). p.tickets) (past-push n h (event.Receive f) (rec n h (event.Receive f)))

  -- and to states and lists
  pub wire_after : (past_of n (ss ++ step.Deliver ∷ [])).wire ≡ after_event (past_of n ss).wire (event.Receive f) (rec n h (event.Receive f))
  wire_after = ap (λ (j : Joint History). (past n j.session).wire) delivered ∙ ap (λ (p : Past). p.wire) (past-push n h (event.Receive f) (rec n h (event.Receive f)))

-- where nothing is on the way a delivery does nothing
pub none_after : (n : ℕ) (ss : List Step) → (joined_to n ss).down ≡ [] → (past_of n (ss ++ step.Deliver ∷ [])).tickets ≡ (past_of n ss).tickets
none_after n ss down = ap (λ (j : Joint History). (past n j.session).tickets) (joined-push n ss step.Deliver ∙ ap (λ v. deliver_first (by_history n) v (joined_to n ss)) down)
