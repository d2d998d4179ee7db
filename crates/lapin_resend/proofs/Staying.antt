-- A stored message stays stored: a poll stores messages or leaves them, and nothing else looks at what is stored.
use Rattle.std.proofs.Common.{◌≡◌, ℕ, Bool, true, false, cond, List, [], ◌∷◌, ◌++◌, map, Option, Some, None, refl, sym, subst, ◌∙◌}
use Rattle.std.specs.Prelude.{Ok, Err}
use Rattle.lapin_types.specs.declared.record.Record.{Record}
use Rattle.lapin_types.specs.declared.record.Record.TheVariants as record_
use Rattle.lapin_types.specs.declared.confirmation.Confirmation.TheVariants as confirmation
use Rattle.lapin_rules.specs.Wire.{is_closed, is_open}
use Rattle.lapin_resend.specs.declared.step.ResendStep.{ResendStep}
use Rattle.lapin_resend.specs.declared.step.ResendStep.TheVariants as step
use Rattle.lapin_resend.specs.Messages.{Standing, submitted, polled, waits, confirm_of, forgotten}
use Rattle.lapin_resend.specs.Publisher.{Publisher, Steps, Met, told, state_in, with_event, poll_at, poll_one, publishing, publish_one, each, after_polls, after_opening, after_selecting, after_publishing, tended}
use Rattle.lapin_resend.specs.Resend.{begun, after_step, new_publisher, publisher_from, publisher_after}
use Rattle.lapin_resend.specs.ResendRun.{StayStored}

-- ---- lists of messages

stay_same : (xs : List Standing) → StayStored xs xs
stay_same [] = tt
stay_same (x ∷ xs) = (λ h. h, stay_same xs)

stay_on : (xs ys zs : List Standing) → StayStored xs ys → StayStored ys zs → StayStored xs zs
stay_on [] ys zs a b = tt
stay_on (x ∷ xs) [] zs a b = absurd a
stay_on (x ∷ xs) (y ∷ ys) [] a b = absurd b
stay_on (x ∷ xs) (y ∷ ys) (z ∷ zs) a b = (λ h. b.0 (a.0 h), stay_on xs ys zs a.1 b.1)

stay_more : (xs ys : List Standing) → StayStored xs (xs ++ ys)
stay_more [] ys = tt
stay_more (x ∷ xs) ys = (λ h. h, stay_more xs ys)

stay_forgotten : (xs : List Standing) → StayStored xs (map forgotten xs)
stay_forgotten [] = tt
stay_forgotten (x ∷ xs) = (λ h. h, stay_forgotten xs)

-- ---- tending

polled_stays : (r : Record) (s : Standing) → s.stored ≡ true → (polled r s).stored ≡ true
polled_stays (record_.Confirmed (Ok (confirmation.Ack m))) s h = refl
polled_stays (record_.Confirmed (Ok (confirmation.Nack m))) s h = h
polled_stays (record_.Confirmed (Ok confirmation.NotRequested)) s h = h
polled_stays (record_.Confirmed (Err e)) s h = h
polled_stays _ s h = h

poll_stays : (n : ℕ) (made : Steps) (s : Standing) (o : Option ℕ) → s.stored ≡ true → (poll_at n made s o).0.stored ≡ true
poll_stays n made s None h = h
poll_stays n made s (Some k) h = polled_stays _ s h

publish_stays : (s t : Standing) (a b : Steps) (w : Bool) → t.stored ≡ s.stored → s.stored ≡ true → (cond {A = Met} w (t, a) (s, b)).0.stored ≡ true
publish_stays s t a b true e h = e ∙ h
publish_stays s t a b false e h = h

each_stays : (meet : Steps → Standing → Met) → ((made : Steps) (s : Standing) → s.stored ≡ true → (meet made s).0.stored ≡ true) → (made : Steps) (ss : List Standing) → StayStored ss (each meet made ss).0
each_stays meet kept made [] = tt
each_stays meet kept made (s ∷ ss) = (kept made s, each_stays meet kept (meet made s).1 ss)

chosen_stays : (xs : List Standing) (b : Bool) (p q : Publisher) → StayStored xs p.messages → StayStored xs q.messages → StayStored xs (cond b p q).messages
chosen_stays xs true p q one other = one
chosen_stays xs false p q one other = other

tended_stays : (n : ℕ) (p : Publisher) → StayStored p.messages (tended n p).messages
tended_stays n p =
    let a : Publisher = after_polls n p in
    let b : Publisher = after_opening n a in
    let c : Publisher = after_selecting n b in
    let polls : StayStored p.messages a.messages = each_stays (poll_one n) (λ made s h. poll_stays n made s s.outstanding h) p.present p.messages in
    let opens : StayStored a.messages b.messages = chosen_stays a.messages (is_closed (state_in n a.present)) _ a (stay_same a.messages) (stay_same a.messages) in
    let selects : StayStored b.messages c.messages = chosen_stays b.messages _ _ b (stay_same b.messages) (stay_same b.messages) in
    let publishes : StayStored c.messages (after_publishing n c).messages =
    chosen_stays c.messages (is_open (state_in n c.present)) _ c
    (each_stays (publish_one n) (λ made s h. publish_stays s (record s { outstanding = confirm_of (told n made (publishing s)) }) (with_event (publishing s) made) made (waits s) refl h) c.present c.messages)
    (stay_same c.messages) in
    stay_on p.messages a.messages _ polls (stay_on a.messages b.messages _ opens (stay_on b.messages c.messages _ selects publishes))

-- ---- steps

begun_stays : (s : ResendStep) (p : Publisher) → StayStored p.messages (begun s p).messages
begun_stays (step.Submit m) p = stay_more p.messages (submitted m ∷ [])
begun_stays step.Next p = stay_same p.messages
begun_stays step.Read p = stay_same p.messages
begun_stays (step.Send f) p = stay_same p.messages
begun_stays step.Deliver p = stay_same p.messages
begun_stays step.Lose p = stay_forgotten p.messages
begun_stays (step.Status n) p = stay_same p.messages

from_stays : (n : ℕ) (ss : List ResendStep) (p : Publisher) → StayStored p.messages (publisher_from n ss p).messages
from_stays n [] p = stay_same p.messages
from_stays n (s ∷ ss) p =
    let one : StayStored p.messages (after_step n s p).messages = stay_on p.messages (begun s p).messages _ (begun_stays s p) (tended_stays n (begun s p)) in
    stay_on p.messages (after_step n s p).messages _ one (from_stays n ss (after_step n s p))

from-append : (n : ℕ) (ss more : List ResendStep) (p : Publisher) → publisher_from n (ss ++ more) p ≡ publisher_from n more (publisher_from n ss p)
from-append n [] more p = refl
from-append n (s ∷ ss) more p = from-append n ss more (after_step n s p)

pub all_stay : (n : ℕ) (steps more : List ResendStep) → StayStored (publisher_after n steps).messages (publisher_after n (steps ++ more)).messages
all_stay n steps more =
    let p : Publisher = publisher_after n steps in
    subst (λ (q : Publisher). StayStored p.messages q.messages) (sym (from-append n steps more (new_publisher n))) (from_stays n more p)
