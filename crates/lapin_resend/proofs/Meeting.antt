-- One event, and one message: what the code does with them is what the definition says.
use Rattle.std.proofs.Common.{◌≡◌, ◌∙◌, ℕ, Bool, true, cond, List, [], ◌∷◌, ◌++◌, Option, Some, None, refl, sym, ap, subst}
use Rattle.lapin_types.specs.declared.event.Event.{Event}
use Rattle.lapin_types.specs.declared.event.Event.TheVariants as event
use Rattle.lapin_types.specs.declared.call.Call.{Call}
use Rattle.lapin_joint.specs.declared.step.Step as joined_step
use Rattle.lapin_joint.specs.declared.step.Step.TheVariants as step
use Rattle.lapin_joint.specs.declared.step.Reported.{Reported}
use Rattle.lapin_joint.specs.declared.step.Reported.TheVariants as reported
use Rattle.lapin_joint.specs.Joint.{new_joint, is_lawful, report, joined, joined_to}
use Rattle.lapin_machine.specs.Way.{by_history}
use Rattle.lapin_joint.specs.JoinedRun.{JoinedRun, StandsFor}
use Rattle.lapin_joint.proofs.Steps.{reports-push}
use Rattle.lapin_resend.specs.declared.message.Submitted.{Submitted}
use Rattle.lapin_resend.specs.Messages.{publish_of, waits, confirm_of}
use Rattle.lapin_resend.specs.Publisher.{Steps, Met, told, with_event, poll_at, poll_one, publishing, publish_one}
use Rattle.lapin_resend.specs.Follows.{standing, polled_report, confirm_report, Tells, Meets}

-- ---- an event

last_same : (rs : List Reported) (a b : Reported) → rs ++ a ∷ [] ≡ rs ++ b ∷ [] → a ≡ b
last_same [] a b e = cc
last_same (r ∷ rs) a b e = last_same rs a b (behind e)
  where
    behind : r ∷ (rs ++ a ∷ []) ≡ r ∷ (rs ++ b ∷ []) → rs ++ a ∷ [] ≡ rs ++ b ∷ []
    behind e = cc

-- the last report of a longer list of steps is that of the last step
pub last_report : (n : ℕ) (made : Steps) (s : joined_step.Step) (r : Reported) → joined n (made ++ s ∷ []) ≡ joined n made ++ r ∷ [] → r ≡ report (by_history n) s (joined_to n made)
last_report n made s r e = last_same (joined n made) r (report (by_history n) s (joined_to n made)) (sym e ∙ reports-push (by_history n) made s (new_joint [] n))

pub tells : (e : Event) (old new : JoinedRun) (r : Reported) → is_lawful e ≡ true → ((n : ℕ) (made : Steps) → StandsFor n made old → (joined n (made ++ step.Client e ∷ []) ≡ joined n made ++ r ∷ []) × StandsFor n (made ++ step.Client e ∷ []) new) → Tells e old new r
tells e old new r lawful stands n made h =
    let made_so = stands n made h in
    let which : report (by_history n) (step.Client e) (joined_to n made) ≡ reported.Client (told n made e) = ap (λ (b : Bool). cond b (reported.Client (told n made e)) reported.NotLawful) lawful in
    (last_report n made (step.Client e) r made_so.0 ∙ which, made_so.1)

-- ---- a message

-- its publish isn't outstanding
pub poll_none : (s : Submitted) (k : JoinedRun) → s.outstanding ≡ None → Meets poll_one k k s s
poll_none s k is n made h =
    let P : Option ℕ → Type 0 = λ o. (standing s ≡ (poll_at n made (standing s) o).0) × StandsFor n (poll_at n made (standing s) o).1 k in
    subst P (sym is) (refl, h)

pub poll_some : (s t : Submitted) (old new : JoinedRun) (r : Reported) (k : ℕ) → s.outstanding ≡ Some k → Tells (event.PollConfirm k) old new r → standing t ≡ polled_report r (standing s) → Meets poll_one old new s t
poll_some s t old new r k is said became n made h =
    let tell = said n made h in
    let P : Option ℕ → Type 0 = λ o. (standing t ≡ (poll_at n made (standing s) o).0) × StandsFor n (poll_at n made (standing s) o).1 new in
    subst P (sym is) (became ∙ ap (λ (x : Reported). polled_report x (standing s)) tell.0, tell.1)

pub publish_met : (s t : Submitted) (old new : JoinedRun) (r : Reported) (c : Call) → waits (standing s) ≡ true → c ≡ publish_of s.message → Tells (event.Call 1 c) old new r → t ≡ record s { outstanding = confirm_report r } → Meets publish_one old new s t
publish_met s t old new r c waiting is said became n made h =
    let tell = subst (λ (x : Call). Tells (event.Call 1 x) old new r) is said n made h in
    let P : Bool → Type 0 = λ b.
    (standing t ≡ (cond {A = Met} b (record (standing s) { outstanding = confirm_of (told n made (publishing (standing s))) }, with_event (publishing (standing s)) made) (standing s, made)).0)
    × StandsFor n (cond {A = Met} b (record (standing s) { outstanding = confirm_of (told n made (publishing (standing s))) }, with_event (publishing (standing s)) made) (standing s, made)).1 new in
    subst P (sym waiting) (ap standing became ∙ ap (λ (x : Reported). record (standing s) { outstanding = confirm_report x }) tell.0, tell.1)
