-- A message that is stored has no outstanding publish.
use Rattle.std.proofs.Common.{◌≡◌, ℕ, Bool, true, false, true≢false, cond, List, [], ◌∷◌, ◌++◌, map, Option, Some, None, refl, sym, ◌∙◌}
use Rattle.std.specs.Prelude.{Ok, Err}
use Rattle.std.specs.List.{AllByRecursion}
use Rattle.lapin_types.specs.declared.event.Event.TheVariants as event
use Rattle.lapin_types.specs.declared.record.Record.{Record}
use Rattle.lapin_types.specs.declared.record.Record.TheVariants as record_
use Rattle.lapin_types.specs.declared.confirmation.Confirmation.TheVariants as confirmation
use Rattle.lapin_rules.specs.Wire.{is_closed, is_open}
use Rattle.lapin_resend.specs.declared.step.ResendStep.{ResendStep}
use Rattle.lapin_resend.specs.declared.step.ResendStep.TheVariants as step
use Rattle.lapin_resend.specs.Messages.{Standing, submitted, polled, waits, confirm_of, forgotten}
use Rattle.lapin_resend.specs.Publisher.{Publisher, Steps, Met, told, state_in, with_event, poll_at, poll_one, publishing, publish_one, each, after_polls, after_opening, after_selecting, tended}
use Rattle.lapin_resend.specs.Resend.{begun, after_step, no_publisher, new_publisher, publisher_from, publisher_after}
use Rattle.lapin_resend.specs.Keeping.{AreSettled}

abbrev IsQuiet : Standing → Type 0
IsQuiet s = s.stored ≡ true → s.outstanding ≡ None

abbrev pub AreQuiet : List Standing → Type 0
AreQuiet ss = AllByRecursion IsQuiet ss

polled_quiet : (r : Record) (s : Standing) → IsQuiet s → IsQuiet (polled r s)
polled_quiet (record_.Confirmed (Ok (confirmation.Ack m))) s h = λ _. refl
polled_quiet (record_.Confirmed (Ok (confirmation.Nack m))) s h = λ _. refl
polled_quiet (record_.Confirmed (Ok confirmation.NotRequested)) s h = λ _. refl
polled_quiet (record_.Confirmed (Err e)) s h = λ _. refl
polled_quiet _ s h = h

poll_quiet : (n : ℕ) (made : Steps) (s : Standing) (o : Option ℕ) → IsQuiet s → IsQuiet (poll_at n made s o).0
poll_quiet n made s None h = h
poll_quiet n made s (Some k) h = polled_quiet (told n made (event.PollConfirm k)) s h

waits_not : (s : Standing) → waits s ≡ true → s.stored ≡ true → ⊥
waits_not s waiting stored =
    let none : false ≡ true = rw stored at waiting in
    true≢false (sym none)

publish_quiet : (s t : Standing) (a b : Steps) (w : Bool) → waits s ≡ w → t.stored ≡ s.stored → IsQuiet s → IsQuiet (cond {A = Met} w (t, a) (s, b)).0
publish_quiet s t a b true is same h stored = absurd (waits_not s is (sym same ∙ stored))
publish_quiet s t a b false is same h stored = h stored

each_quiet : (meet : Steps → Standing → Met) → ((made : Steps) (s : Standing) → IsQuiet s → IsQuiet (meet made s).0) → (made : Steps) (ss : List Standing) → AreQuiet ss → AreQuiet (each meet made ss).0
each_quiet meet kept made [] h = tt
each_quiet meet kept made (s ∷ ss) h = (kept made s h.0, each_quiet meet kept (meet made s).1 ss h.1)

chosen_quiet : (b : Bool) (p q : Publisher) → AreQuiet p.messages → AreQuiet q.messages → AreQuiet (cond b p q).messages
chosen_quiet true p q one other = one
chosen_quiet false p q one other = other

tended_quiet : (n : ℕ) (p : Publisher) → AreQuiet p.messages → AreQuiet (tended n p).messages
tended_quiet n p h =
    let a : Publisher = after_polls n p in
    let b : Publisher = after_opening n a in
    let c : Publisher = after_selecting n b in
    let polls : AreQuiet a.messages = each_quiet (poll_one n) (λ made s quiet. poll_quiet n made s s.outstanding quiet) p.present p.messages h in
    let opens : AreQuiet b.messages = chosen_quiet (is_closed (state_in n a.present)) _ a polls polls in
    let selects : AreQuiet c.messages = chosen_quiet _ _ b opens opens in
    chosen_quiet (is_open (state_in n c.present)) _ c
    (each_quiet (publish_one n) (λ made s quiet. publish_quiet s (record s { outstanding = confirm_of (told n made (publishing s)) }) (with_event (publishing s) made) made (waits s) refl refl quiet) c.present c.messages selects)
    selects

forgotten_quiet : (ss : List Standing) → AreQuiet (map forgotten ss)
forgotten_quiet [] = tt
forgotten_quiet (s ∷ ss) = (λ _. refl, forgotten_quiet ss)

more_quiet : (ss : List Standing) (s : Standing) → AreQuiet ss → IsQuiet s → AreQuiet (ss ++ s ∷ [])
more_quiet [] s h one = (one, tt)
more_quiet (t ∷ ts) s h one = (h.0, more_quiet ts s h.1 one)

begun_quiet : (s : ResendStep) (p : Publisher) → AreQuiet p.messages → AreQuiet (begun s p).messages
begun_quiet (step.Submit m) p h = more_quiet p.messages (submitted m) h (λ _. refl)
begun_quiet step.Lose p h = forgotten_quiet p.messages
begun_quiet step.Next p h = h
begun_quiet step.Read p h = h
begun_quiet (step.Send f) p h = h
begun_quiet step.Deliver p h = h
begun_quiet (step.Status n) p h = h

from_quiet : (n : ℕ) (ss : List ResendStep) (p : Publisher) → AreQuiet p.messages → AreQuiet (publisher_from n ss p).messages
from_quiet n [] p h = h
from_quiet n (s ∷ ss) p h = from_quiet n ss (after_step n s p) (tended_quiet n (begun s p) (begun_quiet s p h))

pub all_quiet : (n : ℕ) (steps : List ResendStep) → AreQuiet (publisher_after n steps).messages
all_quiet n steps = from_quiet n steps (new_publisher n) (tended_quiet n no_publisher tt)

-- so where it is known of each whether it is stored, what is known to be stored is settled
pub quiet_settled : (ss : List Standing) → AreQuiet ss → AreSettled (map (λ s. s.stored) ss) ss
quiet_settled [] h = tt
quiet_settled (s ∷ ss) h = (λ is. record { stored = is; alone = h.0 is }, quiet_settled ss h.1)
