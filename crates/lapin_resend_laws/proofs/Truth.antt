-- What a publisher took for stored was acked, after every step.
use Rattle.std.proofs.Common.{◌≡◌, ℕ, Bool, true, false, true≢false, cond, List, [], ◌∷◌, ◌++◌, refl, sym, subst, inl, inr, ◌⊎◌, map}
use Rattle.std.specs.List.{AllByRecursion}
use Rattle.lapin_types.specs.declared.event.Event.TheVariants as event
use Rattle.lapin_types.specs.declared.leaving.Left.{Left}
use Rattle.lapin_types.specs.Types.{Frame}
use Rattle.lapin_rules.specs.History.{History}
use Rattle.lapin_rules.specs.Wire.{is_closed, is_open}
use Rattle.lapin_machine.specs.Way.{by_history}
use Rattle.lapin_broker.specs.Sends.{may}
use Rattle.lapin_joint.specs.declared.step.Step as joined_step
use Rattle.lapin_joint.specs.declared.step.Step.TheVariants as joined
use Rattle.lapin_joint.specs.Joint.{Joint, read_first, send_down, deliver_first, joined_to}
use Rattle.lapin_resend.specs.declared.message.Message.{Message}
use Rattle.lapin_resend.specs.declared.step.ResendStep.{ResendStep}
use Rattle.lapin_resend.specs.declared.step.ResendStep.TheVariants as step
use Rattle.lapin_resend.specs.Messages.{Standing, submitted, forgotten}
use Rattle.lapin_resend.specs.Publisher.{Publisher, Steps, state_in, after_polls, after_opening, after_selecting, tended}
use Rattle.lapin_resend.specs.Resend.{begun, after_step, no_publisher, new_publisher, publisher_from, publisher_after, runs_of}
use Rattle.lapin_resend_laws.specs.Stored.{IsAckedIn, AnyOf, IsTruly}
use Rattle.lapin_resend_laws.proofs.Runs.{new_ready, run_ready, next_ready, read_ready, send_ready, deliver_ready}
use Rattle.lapin_resend_laws.proofs.Stored.{IsLaw, IsGood, acked_on, goes_on, IsCounted, run_counted, count_next, count_receive, Goes, Stands, tended_stands}

-- ---- one of several joined runs

any_before : {X : Type 0} (P : X → Type 0) (xs : List X) (x : X) → AnyOf P xs → AnyOf P (xs ++ x ∷ [])
any_before P [] x h = absurd h
any_before P (y ∷ ys) x (inl here) = inl here
any_before P (y ∷ ys) x (inr later) = inr (any_before P ys x later)

any_last : {X : Type 0} (P : X → Type 0) (xs : List X) (x : X) → P x → AnyOf P (xs ++ x ∷ [])
any_last P [] x h = inl h
any_last P (y ∷ ys) x h = inr (any_last P ys x h)

any_of : {X : Type 0} (P : X → Type 0) (xs : List X) (x : X) → AnyOf P xs ⊎ P x → AnyOf P (xs ++ x ∷ [])
any_of P xs x (inl before) = any_before P xs x before
any_of P xs x (inr last) = any_last P xs x last

-- ---- steps

read_counted : (n : ℕ) (j : Joint History) (ls : List Left) → IsCounted n j.session → IsCounted n (read_first ls j).session
read_counted n j [] h = h
read_counted n j (l ∷ ls) h = h

send_counted : (n : ℕ) (j : Joint History) (f : Frame) (t : Bool) → IsCounted n j.session → IsCounted n (cond t (send_down f j) j).session
send_counted n j f true h = h
send_counted n j f false h = h

deliver_counted : (n : ℕ) (j : Joint History) (fs : List Frame) → IsCounted n j.session → IsCounted n (deliver_first (by_history n) fs j).session
deliver_counted n j [] h = h
deliver_counted n j (f ∷ fs) h = count_receive n j.session f h

-- each message that is stored was acked; each outstanding publish is of the call of its message
abbrev Tells : ℕ → Publisher → Type 0
Tells n p = Stands n p.earlier p

joined_tells : (n : ℕ) (x : joined_step.Step) (p : Publisher) → Goes n (p.present ++ x ∷ []) p.selects → Tells n p → Tells n (record p { present = p.present ++ x ∷ [] })
joined_tells n x p goes h = record { goes = goes; good = goes_on n p.earlier p.present x p.messages h.good }

submitted_good : (n : ℕ) (earlier : List Steps) (made : Steps) (ss : List Standing) (m : Message) → AllByRecursion (IsGood n earlier made) ss → AllByRecursion (IsGood n earlier made) (ss ++ submitted m ∷ [])
submitted_good n earlier made [] m g = (record { stored = λ is. absurd (true≢false (sym is)); out = λ k is. absurd (cc) }, tt)
submitted_good n earlier made (s ∷ ss) m g = (g.0, submitted_good n earlier made ss m g.1)

lost_good : (n : ℕ) (earlier : List Steps) (made : Steps) (ss : List Standing) → AllByRecursion (IsGood n earlier made) ss → AllByRecursion (IsGood n (earlier ++ (made ++ joined.Lose ∷ []) ∷ []) []) (map forgotten ss)
lost_good n earlier made [] g = tt
lost_good n earlier made (s ∷ ss) g = (record { stored = λ is. inl (kept (g.0.stored is)); out = λ k is. absurd (cc) }, lost_good n earlier made ss g.1)
  where
    kept : AnyOf (IsAckedIn n s.message) earlier ⊎ IsAckedIn n s.message made → AnyOf (IsAckedIn n s.message) (earlier ++ (made ++ joined.Lose ∷ []) ∷ [])
    kept (inl before) = any_before (IsAckedIn n s.message) earlier (made ++ joined.Lose ∷ []) before
    kept (inr here) = any_last (IsAckedIn n s.message) earlier (made ++ joined.Lose ∷ []) (acked_on n s.message made (joined.Lose ∷ []) here)

begun_tells : (n : ℕ) (s : ResendStep) (p : Publisher) → Tells n p → Tells n (begun s p)
begun_tells n (step.Submit m) p h = record { goes = h.goes; good = submitted_good n p.earlier p.present p.messages m h.good }
begun_tells n step.Next p h =
    joined_tells n (joined.Client (event.Next true)) p
    (record { ready = run_ready n p.present _ p.selects (next_ready n (joined_to n p.present).session p.selects h.goes.ready); counted = run_counted n p.present _ (count_next n (joined_to n p.present).session true h.goes.counted) }) h
begun_tells n step.Read p h =
    joined_tells n joined.Read p
    (record { ready = run_ready n p.present _ p.selects (read_ready n (joined_to n p.present) p.selects (joined_to n p.present).up h.goes.ready); counted = run_counted n p.present _ (read_counted n (joined_to n p.present) (joined_to n p.present).up h.goes.counted) }) h
begun_tells n (step.Send f) p h =
    joined_tells n (joined.Send f) p
    (record { ready = run_ready n p.present _ p.selects (send_ready n (joined_to n p.present) f p.selects (may (joined_to n p.present).broker f) h.goes.ready); counted = run_counted n p.present _ (send_counted n (joined_to n p.present) f (may (joined_to n p.present).broker f) h.goes.counted) }) h
begun_tells n step.Deliver p h =
    joined_tells n joined.Deliver p
    (record { ready = run_ready n p.present _ p.selects (deliver_ready n (joined_to n p.present) p.selects (joined_to n p.present).down h.goes.ready); counted = run_counted n p.present _ (deliver_counted n (joined_to n p.present) (joined_to n p.present).down h.goes.counted) }) h
begun_tells n step.Lose p h = record { goes = record { ready = new_ready n; counted = refl }; good = lost_good n p.earlier p.present p.messages h.good }
begun_tells n (step.Status k) p h = h

-- tending begins no joined run
earlier_same : (n : ℕ) (p : Publisher) → (tended n p).earlier ≡ p.earlier
earlier_same n p = chosen (is_open (state_in n c.present)) _ c selects selects
  where
    chosen : (t : Bool) (x y : Publisher) → x.earlier ≡ p.earlier → y.earlier ≡ p.earlier → (cond t x y).earlier ≡ p.earlier
    chosen true x y one other = one
    chosen false x y one other = other

    a : Publisher
    a = after_polls n p

    b : Publisher
    b = after_opening n a

    c : Publisher
    c = after_selecting n b

    opens : b.earlier ≡ p.earlier
    opens = chosen (is_closed (state_in n a.present)) _ a refl refl

    selects : c.earlier ≡ p.earlier
    selects = chosen _ _ b opens opens

tended_tells : (n : ℕ) → IsLaw n → (p : Publisher) → Tells n p → Tells n (tended n p)
tended_tells n law p h = subst (λ (rs : List Steps). Stands n rs (tended n p)) (sym (earlier_same n p)) (tended_stands n law p.earlier p h)

from_tells : (n : ℕ) → IsLaw n → (ss : List ResendStep) (p : Publisher) → Tells n p → Tells n (publisher_from n ss p)
from_tells n law [] p h = h
from_tells n law (s ∷ ss) p h = from_tells n law ss (after_step n s p) (tended_tells n law (begun s p) (begun_tells n s p h))

all_truly : (n : ℕ) (p : Publisher) (ss : List Standing) → AllByRecursion (IsGood n p.earlier p.present) ss → AllByRecursion (IsTruly n (runs_of p)) ss
all_truly n p [] g = tt
all_truly n p (s ∷ ss) g = (λ is. any_of (IsAckedIn n s.message) p.earlier p.present (g.0.stored is), all_truly n p ss g.1)

pub truly_stored : (n : ℕ) → IsLaw n → (steps : List ResendStep) → AllByRecursion (IsTruly n (runs_of (publisher_after n steps))) (publisher_after n steps).messages
truly_stored n law steps =
    let p : Publisher = publisher_after n steps in
    let first : Tells n no_publisher = record { goes = record { ready = new_ready n; counted = refl }; good = tt } in
    all_truly n p p.messages (from_tells n law steps (new_publisher n) (tended_tells n law no_publisher first)).good
